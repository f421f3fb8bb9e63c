-- Straight lines between knots, by the two knots at a head difference.
use Rattle.std.proofs.Common.{◌≡◌, ℕ, ◌+◌, ◌*◌, ◌<◌, ◌≤◌, ℤ, pos, ◌*ℤ◌, ◌≤ℤ◌, ◌<ℤ◌, true, false, List, [], ◌∷◌, length}
use Rattle.std.proofs.Common.{drop, slice_index_or, refl, sym, ap, subst, ◌∙◌, arith}
use Rattle.std.specs.Prelude.{int_lt}
use Rattle.std.proofs.lemmas.Int.{ints}
use Rattle.std.proofs.lemmas.List.{drop_more, get_or-map, length-map}
use Rattle.hyd_law.specs.declared.law_kinds.Knot.{Knot as LawKnot}
use Rattle.hyd_law.specs.KnotsOfStraightLines.{place_of, places, IsValue}
use Rattle.hyd_num.specs.Rational.{Rational, whole}
use Rattle.hyd_num.proofs.Integers.{one_times}
use Rattle.hyd_net.specs.Curves.{Knot, between, value_from, value_at}
use Rattle.hyd_theorems_on_definitions.proofs.PassedOn.{lt-from, lt-not}
use Rattle.hyd_theorems_on_definitions.proofs.PassedOn.{two-more, one-more}

-- ---- two knots

pub first_is : (a b : Knot) (d : ℤ) → b.place ≤ℤ a.place → d <ℤ a.place → whole a.value ≡ between 1 a b d
first_is a b d same less =
    let t : int_lt d (pos 1 *ℤ a.place) ≡ true = lt-from d (pos 1 *ℤ a.place) (omega (arith, ints, one_times a.place))
    in
    sym (rw (lt-not a.place b.place same, t) (ap whole (one_times a.value)))

pub second_is : (a b : Knot) (d : ℤ) → b.place ≤ℤ a.place → a.place ≤ℤ d → whole b.value ≡ between 1 a b d
second_is a b d same le =
    let t : int_lt d (pos 1 *ℤ a.place) ≡ false = lt-not d (pos 1 *ℤ a.place)
    (omega (arith, ints, one_times a.place)) in
    sym (rw (lt-not a.place b.place same, t) (ap whole (one_times b.value)))

-- ---- the walk

begin : (xs : List Knot) (a : Knot) (d : ℤ) → 0 < length xs → value_at 1 xs d ≡ value_from 1 (slice_index_or xs 0 a)
    (drop 1 xs) d
begin [] a d h = absurd (omega arith)
begin (x ∷ xs) a d h = refl

go_on : (p q r : Knot) (rest : List Knot) (d : ℤ) → q.place ≤ℤ d → value_from 1 p (q ∷ (r ∷ rest)) d
    ≡ value_from 1 q (r ∷ rest) d
go_on p q r rest d le =
    let t : int_lt d (pos 1 *ℤ q.place) ≡ false = lt-not d (pos 1 *ℤ q.place)
    (omega (arith, ints, one_times q.place)) in
    rw t refl

here : (p q r : Knot) (rest : List Knot) (d : ℤ) → d <ℤ q.place → value_from 1 p (q ∷ (r ∷ rest)) d ≡ between 1 p q d
here p q r rest d less =
    let t : int_lt d (pos 1 *ℤ q.place) ≡ true = lt-from d (pos 1 *ℤ q.place) (omega (arith, ints, one_times q.place))
    in
    rw t refl

pub step_on : (xs : List Knot) (i : ℕ) (a p : Knot) (d : ℤ) → i + 1 < length xs → (slice_index_or xs i a).place ≤ℤ d
    → value_from 1 p (drop i xs) d ≡ value_from 1 (slice_index_or xs i a) (drop (i + 1) xs) d
step_on xs i a p d h le =
    ap (λ (ys : List Knot). value_from 1 p ys d) (two-more xs i a h)
    ∙ go_on p (slice_index_or xs i a) (slice_index_or xs (i + 1) a) (drop (i + 1 + 1) xs) d le
    ∙ sym (ap (λ (ys : List Knot). value_from 1 (slice_index_or xs i a) ys d) (drop_more xs (i + 1) a h))

pub stop_here : (xs : List Knot) (i : ℕ) (a p : Knot) (d : ℤ) → i + 1 < length xs → d <ℤ (slice_index_or xs i a).place
    → value_from 1 p (drop i xs) d ≡ between 1 p (slice_index_or xs i a) d
stop_here xs i a p d h less =
    ap (λ (ys : List Knot). value_from 1 p ys d) (two-more xs i a h) ∙ here p (slice_index_or xs i a)
    (slice_index_or xs (i + 1) a) (drop (i + 1 + 1) xs) d less

pub end_here : (xs : List Knot) (i : ℕ) (a p : Knot) (d : ℤ) → i + 1 ≡ length xs
    → value_from 1 p (drop i xs) d ≡ between 1 p (slice_index_or xs i a) d
end_here xs i a p d h = ap (λ (ys : List Knot). value_from 1 p ys d) (one-more xs i a h)

-- the value is by knot number i and those after it
abbrev pub WalkedTo : List Knot → ℤ → ℕ → Type 0
WalkedTo xs d i = (a : Knot) → value_at 1 xs d ≡ value_from 1 (slice_index_or xs i a) (drop (i + 1) xs) d

pub walk_begins : (xs : List Knot) (d : ℤ) → 0 < length xs → WalkedTo xs d 0
walk_begins xs d h a = begin xs a d h

pub walk_goes_on : (xs : List Knot) (d : ℤ) (i : ℕ) → WalkedTo xs d i → i + 1 + 1 < length xs
    → ((a : Knot) → (slice_index_or xs (i + 1) a).place ≤ℤ d) → WalkedTo xs d (i + 1)
walk_goes_on xs d i walked h le a = walked a ∙ step_on xs (i + 1) a (slice_index_or xs i a) d h (le a)

pub walk_stops : (xs : List Knot) (d : ℤ) (i : ℕ) (a : Knot) → WalkedTo xs d i → i + 1 + 1 < length xs
    → d <ℤ (slice_index_or xs (i + 1) a).place
    → between 1 (slice_index_or xs i a) (slice_index_or xs (i + 1) a) d ≡ value_at 1 xs d
walk_stops xs d i a walked h less = sym (walked a ∙ stop_here xs (i + 1) a (slice_index_or xs i a) d h less)

pub walk_ends : (xs : List Knot) (d : ℤ) (i : ℕ) (a : Knot) → WalkedTo xs d i → i + 1 + 1 ≡ length xs
    → between 1 (slice_index_or xs i a) (slice_index_or xs (i + 1) a) d ≡ value_at 1 xs d
walk_ends xs d i a walked h = sym (walked a ∙ end_here xs (i + 1) a (slice_index_or xs i a) d h)

-- ---- knots of a law

pub place_at : (knots : List LawKnot) (i : ℕ) (k : LawKnot) (a : Knot) → i < length knots
    → slice_index_or (places knots) i a ≡ place_of (slice_index_or knots i k)
place_at knots i k a h = get_or-map place_of knots i k a h

pub stops_at : (knots : List LawKnot) (d : ℤ) (i : ℕ) (k : LawKnot) (p q : ℤ) → WalkedTo (places knots) d i
    → i + 1 + 1 < length knots → d <ℤ (slice_index_or knots (i + 1) k).head
    → IsValue p q (between 1 (place_of (slice_index_or knots i k)) (place_of (slice_index_or knots (i + 1) k)) d)
    → IsValue p q (value_at 1 (places knots) d)
stops_at knots d i k p q walked h less is =
    let n = length-map knots place_of in
    let e = place_at knots i k (place_of k) (omega arith) in
    let f = place_at knots (i + 1) k (place_of k) (omega arith) in
    subst (λ (x : Rational). IsValue p q x)
    (walk_stops (places knots) d i (place_of k) walked (omega (arith, n)) (rw f less))
    (rw (e, f) is)

pub ends_at : (knots : List LawKnot) (d : ℤ) (i : ℕ) (k : LawKnot) (p q : ℤ) → WalkedTo (places knots) d i
    → i + 1 + 1 ≡ length knots
    → IsValue p q (between 1 (place_of (slice_index_or knots i k)) (place_of (slice_index_or knots (i + 1) k)) d)
    → IsValue p q (value_at 1 (places knots) d)
ends_at knots d i k p q walked h is =
    let n = length-map knots place_of in
    let e = place_at knots i k (place_of k) (omega arith) in
    let f = place_at knots (i + 1) k (place_of k) (omega arith) in
    subst (λ (x : Rational). IsValue p q x) (walk_ends (places knots) d i (place_of k) walked (omega (arith, n)))
    (rw (e, f) is)

pub goes_on : (knots : List LawKnot) (d : ℤ) (i : ℕ) (k : LawKnot) → WalkedTo (places knots) d i
    → i + 1 + 1 < length knots → (slice_index_or knots (i + 1) k).head ≤ℤ d
    → WalkedTo (places knots) d (i + 1)
goes_on knots d i k walked h le =
    let n = length-map knots place_of in
    walk_goes_on (places knots) d i walked (omega (arith, n))
    (λ a. let f = place_at knots (i + 1) k a (omega arith) in rw f le)

pub starts_at : (knots : List LawKnot) (d : ℤ) → 0 < length knots → WalkedTo (places knots) d 0
starts_at knots d h = walk_begins (places knots) d (let n = length-map knots place_of in omega (arith, n))

pub ends_with : (knots : List LawKnot) (d : ℤ) (i m j : ℕ) (k : LawKnot) (p q : ℤ) → WalkedTo (places knots) d i
    → i ≡ m → j ≡ m + 1 → m + 1 + 1 ≡ length knots
    → IsValue p q (between 1 (place_of (slice_index_or knots m k)) (place_of (slice_index_or knots j k)) d)
    → IsValue p q (value_at 1 (places knots) d)
ends_with knots d i m j k p q walked e f h is =
    ends_at knots d m k p q (subst (λ (n : ℕ). WalkedTo (places knots) d n) e walked) h
    (subst (λ (n : ℕ). IsValue p q (between 1 (place_of (slice_index_or knots m k))
    (place_of (slice_index_or knots n k)) d)) f is)
