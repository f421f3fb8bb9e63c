-- Straight lines between knots at a scale, by the two knots at a head difference.
use Rattle.std.proofs.Common.{◌≡◌, ℕ, ◌+◌, ◌*◌, ◌<◌, ◌≤◌, ℤ, pos, ◌+ℤ◌, ◌-ℤ◌, ◌*ℤ◌, ◌≤ℤ◌, ◌<ℤ◌, List, []}
use Rattle.std.proofs.Common.{◌∷◌, length, drop, slice_index_or, refl, sym, ap, subst, ◌∙◌, arith, unsigned_abs}
use Rattle.std.proofs.Common.{◌^◌, to_z, of_z}
use Rattle.std.specs.Int.{w128}
use Rattle.std.proofs.Math.IntN.{*ℤ_comm}
use Rattle.std.proofs.lemmas.Int.{ints}
use Rattle.std.proofs.lemmas.List.{drop_more, get_or-map, length-map}
use Rattle.hyd_law.specs.declared.law_kinds.Knot.{Knot as LawKnot}
use Rattle.hyd_law.specs.KnotsOfStraightLines.{place_of, places, IsValue}
use Rattle.hyd_num.specs.Rational.{Rational, whole}
use Rattle.hyd_net.specs.Curves.{Knot, on_line, between, value_from, value_at}
use Rattle.hyd_spec.specs.Scale.{at_scale}
use Rattle.hyd_lemmas.proofs.BooleanTests.{lt-from, lt-not}
use Rattle.hyd_lemmas.proofs.KnotLines.{two-more, one-more}

-- ---- two knots

pub apart_is : (S : ℕ) (a b : Knot) (d : ℤ) → a.place <ℤ b.place → on_line S a b d ≡ between S a b d
apart_is S a b d less = sym (rw (lt-from a.place b.place less) refl)

pub line_is : (S : ℕ) (a b : Knot) (d w p q : ℤ) → a.place <ℤ b.place → w ≡ pos S *ℤ (b.place -ℤ a.place)
    → p ≡ w *ℤ a.value → q ≡ (d -ℤ at_scale S a.place) *ℤ (b.value -ℤ a.value) → p +ℤ q ≡ (on_line S a b d).num
line_is S a b d w p q less g e f =
    let h : b.place -ℤ a.place ≡ pos (unsigned_abs (b.place -ℤ a.place)) = omega (arith, ints) in
    let i : w ≡ pos (S * unsigned_abs (b.place -ℤ a.place)) = g ∙ ap (λ (z : ℤ). pos S *ℤ z) h in
    let l : p ≡ pos (S * unsigned_abs (b.place -ℤ a.place)) *ℤ a.value = e ∙ ap (λ (z : ℤ). z *ℤ a.value) i in
    let r : q ≡ (b.value -ℤ a.value) *ℤ (d -ℤ (pos S *ℤ a.place)) =
    f ∙ *ℤ_comm (d -ℤ (pos S *ℤ a.place)) (b.value -ℤ a.value) in
    rw (l, r) refl

pub first_is : (S : ℕ) (a b : Knot) (d : ℤ) → b.place ≤ℤ a.place → d <ℤ at_scale S a.place
    → whole (at_scale S a.value) ≡ between S a b d
first_is S a b d same less = sym (rw (lt-not a.place b.place same, lt-from d (pos S *ℤ a.place) less) refl)

pub second_is : (S : ℕ) (a b : Knot) (d : ℤ) → b.place ≤ℤ a.place → at_scale S a.place ≤ℤ d
    → whole (at_scale S b.value) ≡ between S a b d
second_is S a b d same le = sym (rw (lt-not a.place b.place same, lt-not d (pos S *ℤ a.place) le) refl)

-- ---- the walk

begin : (S : ℕ) (xs : List Knot) (a : Knot) (d : ℤ) → 0 < length xs
    → value_at S xs d ≡ value_from S (slice_index_or xs 0 a) (drop 1 xs) d
begin S [] a d h = absurd (omega arith)
begin S (x ∷ xs) a d h = refl

go_on : (S : ℕ) (p q r : Knot) (rest : List Knot) (d : ℤ) → at_scale S q.place ≤ℤ d
    → value_from S p (q ∷ (r ∷ rest)) d ≡ value_from S q (r ∷ rest) d
go_on S p q r rest d le = rw (lt-not d (pos S *ℤ q.place) le) refl

here : (S : ℕ) (p q r : Knot) (rest : List Knot) (d : ℤ) → d <ℤ at_scale S q.place
    → value_from S p (q ∷ (r ∷ rest)) d ≡ between S p q d
here S p q r rest d less = rw (lt-from d (pos S *ℤ q.place) less) refl

step_on : (S : ℕ) (xs : List Knot) (i : ℕ) (a p : Knot) (d : ℤ) → i + 1 < length xs
    → at_scale S (slice_index_or xs i a).place ≤ℤ d
    → value_from S p (drop i xs) d ≡ value_from S (slice_index_or xs i a) (drop (i + 1) xs) d
step_on S xs i a p d h le =
    ap (λ (ys : List Knot). value_from S p ys d) (two-more xs i a h)
    ∙ go_on S p (slice_index_or xs i a) (slice_index_or xs (i + 1) a) (drop (i + 1 + 1) xs) d le
    ∙ sym (ap (λ (ys : List Knot). value_from S (slice_index_or xs i a) ys d) (drop_more xs (i + 1) a h))

stop_here : (S : ℕ) (xs : List Knot) (i : ℕ) (a p : Knot) (d : ℤ) → i + 1 < length xs
    → d <ℤ at_scale S (slice_index_or xs i a).place
    → value_from S p (drop i xs) d ≡ between S p (slice_index_or xs i a) d
stop_here S xs i a p d h less =
    ap (λ (ys : List Knot). value_from S p ys d) (two-more xs i a h) ∙ here S p (slice_index_or xs i a)
    (slice_index_or xs (i + 1) a) (drop (i + 1 + 1) xs) d less

end_here : (S : ℕ) (xs : List Knot) (i : ℕ) (a p : Knot) (d : ℤ) → i + 1 ≡ length xs
    → value_from S p (drop i xs) d ≡ between S p (slice_index_or xs i a) d
end_here S xs i a p d h = ap (λ (ys : List Knot). value_from S p ys d) (one-more xs i a h)

-- the value is by knot number i and those after it
abbrev pub WalkedTo : ℕ → List Knot → ℤ → ℕ → Type 0
WalkedTo S xs d i = (a : Knot) → value_at S xs d ≡ value_from S (slice_index_or xs i a) (drop (i + 1) xs) d

walk_goes_on : (S : ℕ) (xs : List Knot) (d : ℤ) (i : ℕ) → WalkedTo S xs d i → i + 1 + 1 < length xs
    → ((a : Knot) → at_scale S (slice_index_or xs (i + 1) a).place ≤ℤ d) → WalkedTo S xs d (i + 1)
walk_goes_on S xs d i walked h le a = walked a ∙ step_on S xs (i + 1) a (slice_index_or xs i a) d h (le a)

walk_stops : (S : ℕ) (xs : List Knot) (d : ℤ) (i : ℕ) (a : Knot) → WalkedTo S xs d i → i + 1 + 1 < length xs
    → d <ℤ at_scale S (slice_index_or xs (i + 1) a).place
    → between S (slice_index_or xs i a) (slice_index_or xs (i + 1) a) d ≡ value_at S xs d
walk_stops S xs d i a walked h less = sym (walked a ∙ stop_here S xs (i + 1) a (slice_index_or xs i a) d h less)

walk_ends : (S : ℕ) (xs : List Knot) (d : ℤ) (i : ℕ) (a : Knot) → WalkedTo S xs d i → i + 1 + 1 ≡ length xs
    → between S (slice_index_or xs i a) (slice_index_or xs (i + 1) a) d ≡ value_at S xs d
walk_ends S xs d i a walked h = sym (walked a ∙ end_here S xs (i + 1) a (slice_index_or xs i a) d h)

-- ---- knots of a law

place_at : (knots : List LawKnot) (i : ℕ) (k : LawKnot) (a : Knot) → i < length knots
    → slice_index_or (places knots) i a ≡ place_of (slice_index_or knots i k)
place_at knots i k a h = get_or-map place_of knots i k a h

pub stops_at : (S : ℕ) (knots : List LawKnot) (d : ℤ) (i : ℕ) (k : LawKnot) (p q : ℤ) → WalkedTo S (places knots) d i
    → i + 1 + 1 < length knots → d <ℤ at_scale S (slice_index_or knots (i + 1) k).head
    → IsValue p q (between S (place_of (slice_index_or knots i k)) (place_of (slice_index_or knots (i + 1) k)) d)
    → IsValue p q (value_at S (places knots) d)
stops_at S knots d i k p q walked h less is =
    let n = length-map knots place_of in
    let e = place_at knots i k (place_of k) (omega arith) in
    let f = place_at knots (i + 1) k (place_of k) (omega arith) in
    subst (λ (x : Rational). IsValue p q x)
    (walk_stops S (places knots) d i (place_of k) walked (omega (arith, n)) (rw f less))
    (rw (e, f) is)

pub ends_at : (S : ℕ) (knots : List LawKnot) (d : ℤ) (i : ℕ) (k : LawKnot) (p q : ℤ) → WalkedTo S (places knots) d i
    → i + 1 + 1 ≡ length knots
    → IsValue p q (between S (place_of (slice_index_or knots i k)) (place_of (slice_index_or knots (i + 1) k)) d)
    → IsValue p q (value_at S (places knots) d)
ends_at S knots d i k p q walked h is =
    let n = length-map knots place_of in
    let e = place_at knots i k (place_of k) (omega arith) in
    let f = place_at knots (i + 1) k (place_of k) (omega arith) in
    subst (λ (x : Rational). IsValue p q x) (walk_ends S (places knots) d i (place_of k) walked (omega (arith, n)))
    (rw (e, f) is)

pub goes_on : (S : ℕ) (knots : List LawKnot) (d : ℤ) (i : ℕ) (k : LawKnot) → WalkedTo S (places knots) d i
    → i + 1 + 1 < length knots → at_scale S (slice_index_or knots (i + 1) k).head ≤ℤ d
    → WalkedTo S (places knots) d (i + 1)
goes_on S knots d i k walked h le =
    let n = length-map knots place_of in
    walk_goes_on S (places knots) d i walked (omega (arith, n))
    (λ a. let f = place_at knots (i + 1) k a (omega arith) in rw f le)

pub starts_at : (S : ℕ) (knots : List LawKnot) (d : ℤ) → 0 < length knots → WalkedTo S (places knots) d 0
starts_at S knots d h a = begin S (places knots) a d (let n = length-map knots place_of in omega (arith, n))

pub ends_with : (S : ℕ) (knots : List LawKnot) (d : ℤ) (i m j : ℕ) (k : LawKnot) (p q : ℤ)
    → WalkedTo S (places knots) d i
    → i ≡ m → j ≡ m + 1 → m + 1 + 1 ≡ length knots
    → IsValue p q (between S (place_of (slice_index_or knots m k)) (place_of (slice_index_or knots j k)) d)
    → IsValue p q (value_at S (places knots) d)
ends_with S knots d i m j k p q walked e f h is =
    ends_at S knots d m k p q (subst (λ (n : ℕ). WalkedTo S (places knots) d n) e walked) h
    (subst (λ (n : ℕ). IsValue p q (between S (place_of (slice_index_or knots m k))
    (place_of (slice_index_or knots n k)) d)) f is)

-- a whole number of parts over 1
pub whole_value : (n d z : ℤ) (x : Rational) → n ≡ z → d ≡ pos 1 → whole z ≡ x → IsValue n d x
whole_value n d z x e f g =
    subst (λ (r : Rational). IsValue n d r) g (record { num_is = e; den_is = f; above = omega arith })

-- the code's sum of two small numbers
pub sum_is : (p q n : ℤ) → unsigned_abs p ≤ 6 * 10 ^ 37 → unsigned_abs q ≤ 6 * 10 ^ 37 → p +ℤ q ≡ n
    → to_z w128 (of_z w128 (to_z w128 (of_z w128 p) +ℤ to_z w128 (of_z w128 q))) ≡ n
sum_is p q n x y e = omega (arith, ints, x, y, e)
