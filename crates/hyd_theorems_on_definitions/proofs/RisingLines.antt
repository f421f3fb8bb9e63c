-- Values on the straight lines between knots of which neither places nor values fall: from one scale to another they
-- rise with the place.
use Rattle.std.proofs.Common.{◌≡◌, ℕ, zero, suc, ◌*◌, ◌<◌, ℤ, pos, negsuc, ◌+ℤ◌, ◌-ℤ◌, ◌*ℤ◌, ◌≤ℤ◌, ◌<ℤ◌, refl, ap, ◌∙◌}
use Rattle.std.proofs.Common.{arith, Bool, true, false, List, [], ◌∷◌}
use Rattle.std.specs.Prelude.{⊤, unsigned_abs, int_lt, if◌then◌else◌}
use Rattle.std.proofs.Math.Nat.{mul_comm}
use Rattle.std.proofs.lemmas.Int.{ints}
use Rattle.std.proofs.lemmas.Bool.{cond_both}
use Rattle.hyd_num.proofs.Integers.{times_plus, times_minus, times_rises, times_reflects, times_one, times_times}
use Rattle.hyd_num.proofs.Integers.{one_times}
use Rattle.hyd_num.specs.Rational.{Rational, whole}
use Rattle.hyd_net.specs.Curves.{Knot, on_line, between, value_from, value_at}
use Rattle.hyd_lemmas.proofs.Integers.{exchanged}
use Rattle.hyd_theorems_on_definitions.specs.SoundLawsAndGrids.{AreInOrder}
use Rattle.hyd_lemmas.proofs.BooleanTests.{lt-no, lt-yes}
use Rattle.hyd_theorems_on_definitions.proofs.ValuesAtTwoScales.{Leads, UpTo, From, through, one-within}

-- ---- one line

-- a line over a width of W with a rise of D, from a place and a value, at x
abbrev pub line : (T W D : ℕ) (place value x : ℤ) → ℤ
line T W D place value x = (pos (T * W) *ℤ value) +ℤ (pos D *ℤ (x -ℤ (pos T *ℤ place)))

pub spread : (T W : ℕ) (v : ℤ) → pos W *ℤ (pos T *ℤ v) ≡ pos (T * W) *ℤ v
spread T W v = times_times W T v ∙ ap (λ (n : ℕ). pos n *ℤ v) (mul_comm W T)

line-rises : (T U W D : ℕ) (place value x y : ℤ) → (pos U *ℤ x) ≤ℤ (pos T *ℤ y)
    → (pos U *ℤ line T W D place value x) ≤ℤ (pos T *ℤ line U W D place value y)
line-rises T U W D place value x y le =
    let a = times_rises D (pos U *ℤ (x -ℤ (pos T *ℤ place))) (pos T *ℤ (y -ℤ (pos U *ℤ place)))
    (omega (arith, ints, le, times_minus U x (pos T *ℤ place), times_minus T y (pos U *ℤ place), exchanged T U place))
    in
    let same : pos U *ℤ (pos (T * W) *ℤ value) ≡ pos T *ℤ (pos (U * W) *ℤ value) =
    times_times U (T * W) value ∙ ap (λ (n : ℕ). pos n *ℤ value) (let e : U * (T * W) ≡ T * (U * W) = omega (arith) in
    e) ∙ (let e = times_times T (U * W) value in omega (arith, ints, e)) in
    omega (
      arith,
      ints,
      a,
      same,
      times_plus U (pos (T * W) *ℤ value) (pos D *ℤ (x -ℤ (pos T *ℤ place))),
      times_plus T (pos (U * W) *ℤ value) (pos D *ℤ (y -ℤ (pos U *ℤ place))),
      exchanged D U (x -ℤ (pos T *ℤ place)),
      exchanged D T (y -ℤ (pos U *ℤ place)),
    )

line-most : (T W D : ℕ) (place value x : ℤ) → x ≤ℤ (pos T *ℤ (place +ℤ pos W))
    → line T W D place value x ≤ℤ (pos W *ℤ (pos T *ℤ (value +ℤ pos D)))
line-most T W D place value x le =
    let a = times_rises D (x -ℤ (pos T *ℤ place)) (pos (T * W)) (omega (arith, ints, le, times_plus T place (pos W))) in
    let b : pos D *ℤ pos (T * W) ≡ pos (T * W) *ℤ pos D = ap (λ (n : ℕ). pos n) (mul_comm D (T * W)) in
    omega (arith, ints, a, b, spread T W (value +ℤ pos D), times_plus (T * W) value (pos D))

line-least : (T W D : ℕ) (place value x : ℤ) → (pos T *ℤ place) ≤ℤ x
    → (pos W *ℤ (pos T *ℤ value)) ≤ℤ line T W D place value x
line-least T W D place value x le =
    let a = times_rises D (pos 0) (x -ℤ (pos T *ℤ place)) (omega (arith, ints, le)) in
    omega (arith, ints, a, nothing D, spread T W value)
  where
    nothing : (D : ℕ) → pos D *ℤ pos 0 ≡ pos 0
    nothing D = omega (arith, ints)

-- ---- neighbours

-- the next knot lies nowhere before one and no lower
pub record Follows (knot next : Knot) : Type 0 where
  pub later : knot.place ≤ℤ next.place
  pub higher : knot.value ≤ℤ next.value

pub difference-is : (y z : ℤ) → y ≤ℤ z → z -ℤ y ≡ pos (unsigned_abs (z -ℤ y))
difference-is y z le = omega (arith, ints)

-- the line between two knots, with its width and its rise
pub line-is : (T : ℕ) (knot next : Knot) (x : ℤ) → Follows knot next
    → (on_line T knot next x).num ≡ line T (unsigned_abs (next.place -ℤ knot.place))
    (unsigned_abs (next.value -ℤ knot.value)) knot.place knot.value x
line-is T knot next x f =
    ap (λ (r : ℤ). (pos (T * unsigned_abs (next.place -ℤ knot.place)) *ℤ knot.value)
    +ℤ (r *ℤ (x -ℤ (pos T *ℤ knot.place))))
    (difference-is knot.value next.value f.higher)

-- two knots at one place have the first one's value before it and the second one's from it on
abbrev pub stepped : Bool → Knot → Knot → ℤ
stepped before knot next = if before then knot.value else next.value

stepped-least : (before : Bool) (knot next : Knot) → Follows knot next → knot.value ≤ℤ stepped before knot next
stepped-least true knot next f = omega (arith, ints)
stepped-least false knot next f = f.higher

stepped-most : (before : Bool) (knot next : Knot) → Follows knot next → stepped before knot next ≤ℤ next.value
stepped-most true knot next f = f.higher
stepped-most false knot next f = omega (arith, ints)

-- a place before one at a scale is before it at another, where a lesser place isn't
before-too : (T U : ℕ) (place x y : ℤ) → 0 < T → (pos U *ℤ x) ≤ℤ (pos T *ℤ y) → (pos T *ℤ place) ≤ℤ x
    → y <ℤ (pos U *ℤ place) → ⊥
before-too T U place x y some le beyond before =
    let a = times_rises U (pos T *ℤ place) x beyond in
    let b = times_rises T (y +ℤ pos 1) (pos U *ℤ place) (omega (arith, ints, before)) in
    omega (arith, ints, some, a, b, le, exchanged T U place, times_plus T y (pos 1), times_one T)

stepped-rises : (p q : Bool) (T U : ℕ) (knot next : Knot) (x y : ℤ) → 0 < T → Follows knot next
    → (pos U *ℤ x) ≤ℤ (pos T *ℤ y)
    → int_lt x (pos T *ℤ knot.place) ≡ p → int_lt y (pos U *ℤ knot.place) ≡ q
    → stepped p knot next ≤ℤ stepped q knot next
stepped-rises true q T U knot next x y some f le e g = stepped-least q knot next f
stepped-rises false true T U knot next x y some f le e g =
    absurd (before-too T U knot.place x y some le (lt-no x (pos T *ℤ knot.place) e) (lt-yes y (pos U *ℤ knot.place) g))
stepped-rises false false T U knot next x y some f le e g = omega (arith, ints)

-- what two neighbours have, by the test whether they are apart
abbrev by_test : Bool → ℕ → Knot → Knot → ℤ → Rational
by_test apart T knot next x = if apart then on_line T knot next x
    else whole (pos T *ℤ stepped (int_lt x (pos T *ℤ knot.place)) knot next)

between-den : (apart : Bool) (T : ℕ) (knot next : Knot) (x : ℤ) → int_lt knot.place next.place ≡ apart
    → 0 < (by_test apart T knot next x).den
between-den true T knot next x e = let l = lt-yes knot.place next.place e in
    let w : 0 < unsigned_abs (next.place -ℤ knot.place) = omega (arith, ints, l) in w
between-den false T knot next x e = omega arith

between-least : (apart : Bool) (T : ℕ) (knot next : Knot) (x : ℤ) → Follows knot next → (pos T *ℤ knot.place) ≤ℤ x
    → From T (by_test apart T knot next x) knot.value
between-least true T knot next x f le =
    rw (line-is T knot next x f) (line-least T (unsigned_abs (next.place -ℤ knot.place))
    (unsigned_abs (next.value -ℤ knot.value)) knot.place knot.value x le)
between-least false T knot next x f le =
    let step = stepped (int_lt x (pos T *ℤ knot.place)) knot next in
    let l = times_rises T knot.value step (stepped-least (int_lt x (pos T *ℤ knot.place)) knot next f) in
    omega (arith, ints, l, one_times (pos T *ℤ knot.value))

between-most : (apart : Bool) (T : ℕ) (knot next : Knot) (x : ℤ) → Follows knot next → x ≤ℤ (pos T *ℤ next.place)
    → UpTo T (by_test apart T knot next x) next.value
between-most true T knot next x f le =
    let W = unsigned_abs (next.place -ℤ knot.place) in
    let D = unsigned_abs (next.value -ℤ knot.value) in
    let place : knot.place +ℤ pos W ≡ next.place = (let d = difference-is knot.place next.place f.later in
    omega (arith, ints, d)) in
    let value : knot.value +ℤ pos D ≡ next.value = (let d = difference-is knot.value next.value f.higher in
    omega (arith, ints, d)) in
    rw (line-is T knot next x f)
    (let l = line-most T W D knot.place knot.value x (rw place le) in
    let m : (pos W *ℤ (pos T *ℤ (knot.value +ℤ pos D))) ≡ (pos W *ℤ (pos T *ℤ next.value)) =
    ap (λ (z : ℤ). pos W *ℤ (pos T *ℤ z)) value in
    omega (arith, ints, l, m))
between-most false T knot next x f le =
    let step = stepped (int_lt x (pos T *ℤ knot.place)) knot next in
    let l = times_rises T step next.value (stepped-most (int_lt x (pos T *ℤ knot.place)) knot next f) in
    omega (arith, ints, l, one_times (pos T *ℤ next.value))

between-rises : (apart : Bool) (T U : ℕ) (knot next : Knot) (x y : ℤ) → 0 < T → Follows knot next
    → (pos U *ℤ x) ≤ℤ (pos T *ℤ y)
    → Leads T U (by_test apart T knot next x) (by_test apart U knot next y)
between-rises true T U knot next x y some f le = record {
  crossed =
      let W = unsigned_abs (next.place -ℤ knot.place) in
      let D = unsigned_abs (next.value -ℤ knot.value) in
      rw (line-is T knot next x f, line-is U knot next y f)
      (times_rises W (pos U *ℤ line T W D knot.place knot.value x) (pos T *ℤ line U W D knot.place knot.value y)
      (line-rises T U W D knot.place knot.value x y le));
}
between-rises false T U knot next x y some f le =
    steps (stepped (int_lt x (pos T *ℤ knot.place)) knot next) (stepped (int_lt y (pos U *ℤ knot.place)) knot next)
    (stepped-rises (int_lt x (pos T *ℤ knot.place)) (int_lt y (pos U *ℤ knot.place)) T U knot next x y some f le refl
    refl)
  where
    steps : (a b : ℤ) → a ≤ℤ b → Leads T U (whole (pos T *ℤ a)) (whole (pos U *ℤ b))
    steps a b low = record {
      crossed =
          let l = times_rises U (pos T *ℤ a) (pos T *ℤ b) (times_rises T a b low) in
          omega (arith, ints, l, exchanged T U b, one_times (pos U *ℤ (pos T *ℤ a)), one_times (pos T *ℤ (pos U *ℤ b)));
    }

-- ---- from knot to knot

-- each knot after the first follows the one before
abbrev pub AreClimbing : Knot → List Knot → Type 0
AreClimbing knot [] = ⊤
AreClimbing knot (next ∷ rest) = Follows knot next × AreClimbing next rest

pub from-first : (T : ℕ) (knot : Knot) (rest : List Knot) (x : ℤ) → AreClimbing knot rest → (pos T *ℤ knot.place) ≤ℤ x
    → From T (value_from T knot rest x) knot.value
from-first T knot [] x climbing le = omega (arith, ints, one_times (pos T *ℤ knot.value))
from-first T knot (next ∷ []) x climbing le = between-least (int_lt knot.place next.place) T knot next x climbing.0 le
from-first T knot (next ∷ (later ∷ rest)) x climbing le =
    cond_both (int_lt x (pos T *ℤ next.place)) (between T knot next x) (value_from T next (later ∷ rest) x)
    (λ (r : Rational). From T r knot.value)
    (λ e. between-least (int_lt knot.place next.place) T knot next x climbing.0 le)
    (λ e. lowered (value_from T next (later ∷ rest) x) (from-first T next (later ∷ rest) x climbing.1
    (lt-no x (pos T *ℤ next.place) e)))
  where
    lowered : (r : Rational) → From T r next.value → From T r knot.value
    lowered r h = let f = climbing.0.higher in let a = times_rises r.den (pos T *ℤ knot.value) (pos T *ℤ next.value)
        (times_rises T knot.value next.value f) in omega (arith, ints, a, h)

pub some-den : (T : ℕ) (knot : Knot) (rest : List Knot) (x : ℤ) → 0 < (value_from T knot rest x).den
some-den T knot [] x = omega arith
some-den T knot (next ∷ []) x = between-den (int_lt knot.place next.place) T knot next x refl
some-den T knot (next ∷ (later ∷ rest)) x =
    cond_both (int_lt x (pos T *ℤ next.place)) (between T knot next x) (value_from T next (later ∷ rest) x)
    (λ (r : Rational). 0 < r.den)
    (λ e. between-den (int_lt knot.place next.place) T knot next x refl)
    (λ e. some-den T next (later ∷ rest) x)

pub from-rises : (T U : ℕ) (knot : Knot) (rest : List Knot) (x y : ℤ) → 0 < T → AreClimbing knot rest
    → (pos U *ℤ x) ≤ℤ (pos T *ℤ y)
    → Leads T U (value_from T knot rest x) (value_from U knot rest y)
from-rises T U knot [] x y some climbing le = record {
  crossed = omega (
    arith,
    ints,
    exchanged T U knot.value,
    one_times (pos U *ℤ (pos T *ℤ knot.value)),
    one_times
        (pos T *ℤ (pos U *ℤ knot.value)),
  );
}
from-rises T U knot (next ∷ []) x y some climbing le = between-rises (int_lt knot.place next.place) T U knot next x y
    some climbing.0 le
from-rises T U knot (next ∷ (later ∷ rest)) x y some climbing le =
    cond_both (int_lt x (pos T *ℤ next.place)) (between T knot next x) (value_from T next (later ∷ rest) x)
    (λ (r : Rational). Leads T U r (value_from U knot (next ∷ (later ∷ rest)) y))
    (λ e. cond_both (int_lt y (pos U *ℤ next.place)) (between U knot next y) (value_from U next (later ∷ rest) y)
    (λ (r : Rational). Leads T U (between T knot next x) r)
    (λ g. between-rises (int_lt knot.place next.place) T U knot next x y some climbing.0 le)
    (λ g. through T U (between T knot next x) (value_from U next (later ∷ rest) y) next.value
    (between-most (int_lt knot.place next.place) T knot next x climbing.0 (let l = lt-yes x (pos T *ℤ next.place) e in
    omega (arith, ints, l)))
    (from-first U next (later ∷ rest) y climbing.1 (lt-no y (pos U *ℤ next.place) g))))
    (λ e. cond_both (int_lt y (pos U *ℤ next.place)) (between U knot next y) (value_from U next (later ∷ rest) y)
    (λ (r : Rational). Leads T U (value_from T next (later ∷ rest) x) r)
    (λ g. absurd (before-too T U next.place x y some le (lt-no x (pos T *ℤ next.place) e)
    (lt-yes y (pos U *ℤ next.place) g)))
    (λ g. from-rises T U next (later ∷ rest) x y some climbing.1 le))

-- ---- knots in order

tail-in_order : (knot : Knot) (rest : List Knot) → AreInOrder (knot ∷ rest) → AreInOrder rest
tail-in_order knot rest order = λ i j d less within. order (suc i) (suc j) d (omega (arith, less))
    (omega (arith, within))

climbing-is : (knot : Knot) (rest : List Knot) → AreInOrder (knot ∷ rest) → AreClimbing knot rest
climbing-is knot [] order = tt
climbing-is knot (next ∷ rest) order =
    let first = order 0 1 knot (omega arith) (omega arith) in
    (record { later = first.0; higher = first.1 }, climbing-is next rest (tail-in_order knot (next ∷ rest) order))

pub value-den : (T : ℕ) (knots : List Knot) (x : ℤ) → 0 < (value_at T knots x).den
value-den T [] x = omega arith
value-den T (knot ∷ rest) x = some-den T knot rest x

pub value-rises : (T U : ℕ) (knots : List Knot) (x y : ℤ) → 0 < T → AreInOrder knots → (pos U *ℤ x) ≤ℤ (pos T *ℤ y)
    → Leads T U (value_at T knots x) (value_at U knots y)
value-rises T U [] x y some order le = record { crossed = omega (arith, ints) }
value-rises T U (knot ∷ rest) x y some order le = from-rises T U knot rest x y some (climbing-is knot rest order) le

-- ---- the sign of the value

from-product : (n : ℕ) (z : ℤ) → pos 0 <ℤ (pos n *ℤ z) → pos 0 <ℤ z
from-product n (pos zero) h = absurd (let o : pos n *ℤ pos 0 ≡ pos 0 = omega (arith, ints) in omega (arith, ints, h, o))
from-product n (pos (suc m)) h = omega (arith, ints)
from-product n (negsuc m) h = absurd (let l = times_rises n (negsuc m) (pos 0) (omega (arith, ints)) in
    let o : pos n *ℤ pos 0 ≡ pos 0 = omega (arith, ints) in omega (arith, ints, h, l, o))

-- where the value at d is above 0, that at x, at least S d, is above 0 at scale S
pub value-positive : (S : ℕ) (knots : List Knot) (d x : ℤ) → 0 < S → AreInOrder knots → (pos S *ℤ d) ≤ℤ x
    → pos 0 <ℤ (value_at 1 knots d).num
    → pos 0 <ℤ (value_at S knots x).num
value-positive S knots d x some order le h =
    let p = value_at 1 knots d in
    let r = value_at S knots x in
    let up = (value-rises 1 S knots d x (omega arith) order (omega (arith, ints, le, one_times x))).crossed in
    let above = value-den S knots x in
    let one : pos S ≤ℤ (pos S *ℤ p.num) = (let l = times_rises S (pos 1) p.num (omega (arith, ints, h)) in
    omega (arith, ints, l, times_one S)) in
    let more : pos r.den ≤ℤ (pos r.den *ℤ (pos S *ℤ p.num)) =
    (let l = times_rises r.den (pos 1) (pos S *ℤ p.num) (omega (arith, ints, one, some)) in
    omega (arith, ints, l, times_one r.den)) in
    from-product p.den r.num (omega (arith, ints, up, more, above, one-within p.den r.num))

-- and where it is at most 0, that at x, at most S d, is at most 0
pub value-negative : (S : ℕ) (knots : List Knot) (d x : ℤ) → 0 < S → AreInOrder knots → x ≤ℤ (pos S *ℤ d)
    → (value_at 1 knots d).num ≤ℤ pos 0
    → (value_at S knots x).num ≤ℤ pos 0
value-negative S knots d x some order le h =
    let p = value_at 1 knots d in
    let r = value_at S knots x in
    let up = (value-rises S 1 knots x d some order (omega (arith, ints, le, one_times x))).crossed in
    let s_zero : pos S *ℤ pos 0 ≡ pos 0 = omega (arith, ints) in
    let p_zero : pos p.den *ℤ pos 0 ≡ pos 0 = omega (arith, ints) in
    let r_zero : pos r.den *ℤ pos 0 ≡ pos 0 = omega (arith, ints) in
    let below : (pos S *ℤ p.num) ≤ℤ pos 0 = (let l = times_rises S p.num (pos 0) h in omega (arith, ints, l, s_zero)) in
    times_reflects p.den r.num (pos 0) (value-den 1 knots d)
    (let l = times_rises r.den (pos S *ℤ p.num) (pos 0) below in
    omega (arith, ints, up, l, p_zero, r_zero, one-within p.den r.num))
