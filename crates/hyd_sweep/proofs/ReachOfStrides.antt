-- How far strides go on.
use Rattle.std.proofs.Common.{◌≡◌, ℕ, suc, ◌+◌, ◌*◌, ◌<◌, ◌≤◌, ℤ, pos, ◌-ℤ◌, ◌≤ℤ◌, Bool, true, false, List, length}
use Rattle.std.proofs.Common.{unsigned_abs, sym, subst, ap, ◌∙◌, arith}
use Rattle.std.specs.Prelude.{if◌then◌else◌}
use Rattle.std.proofs.lemmas.Int.{ints}
use Rattle.std.proofs.Math.Nat.{add-mul, mul-le-mul}
use Rattle.hyd_spec.specs.Assignment.{head_at}
use Rattle.hyd_spec_certificates.specs.declared.Side.{Side}
use Rattle.hyd_theorems_on_definitions.specs.Sides.{along}
use Rattle.hyd_sweep.specs.declared.strides.Stride.{Stride}
use Rattle.hyd_sweep.specs.Strides.{reach, LiesWithin, GoesOnWithin}

at-most : (a : ℤ) (m n : ℕ) → a ≤ℤ pos m → m ≤ n → a ≤ℤ pos n
at-most a m n p q = omega (arith, ints, p, q)

added : (x y z : ℤ) (m n p : ℕ) → (y -ℤ x) ≤ℤ pos m → (z -ℤ y) ≤ℤ pos n → p ≡ m + n → (z -ℤ x) ≤ℤ pos p
added x y z m n p a b e = omega (arith, ints, a, b, e)

none-more : (x : ℤ) (n : ℕ) → (x -ℤ x) ≤ℤ pos n
none-more x n = omega (arith, ints)

pub within-self : (side : Side) (times : ℕ) (ways u : List ℤ) → LiesWithin side times ways u u
within-self side times ways u i lt = none-more (along side (head_at u i)) (times * unsigned_abs (head_at ways i))

pub within-more : (side : Side) (spent times : ℕ) (ways u v : List ℤ) → spent ≤ times → LiesWithin side spent ways u v
    → LiesWithin side times ways u v
within-more side spent times ways u v le near i lt =
    let w = unsigned_abs (head_at ways i) in
    at-most (along side (head_at v i) -ℤ along side (head_at u i)) (spent * w) (times * w) (near i lt) (mul-le-mul le
    (let e : w ≤ w = omega arith in e))

within-both : (side : Side) (spent times : ℕ) (ways u v w : List ℤ) → length u ≡ length v
    → LiesWithin side spent ways u v → LiesWithin side times ways v w
    → LiesWithin side (spent + times) ways u w
within-both side spent times ways u v w long first second i lt =
    let n = unsigned_abs (head_at ways i) in
    added (along side (head_at u i)) (along side (head_at v i)) (along side (head_at w i)) (spent * n) (times * n)
    ((spent + times) * n)
    (first i lt) (second i (omega (arith, lt, long))) (add-mul spent times n)

-- after one more stride, taken or not
pub strides-more : (side : Side) (leapt : Bool) (ways first u to new : List ℤ) (stride next : Stride) (left spent : ℕ)
    → length first ≡ length u
    → LiesWithin side spent ways first u → LiesWithin side stride.times ways u to → new ≡ (if leapt then to else u)
    → (if leapt then stride.times else 0) + reach next left ≤ reach stride (suc left)
    → spent + reach stride (suc left) ≤ 1048575
    → (x : ℕ) × ((x + reach next left ≤ 1048575) × LiesWithin side x ways first new)
strides-more side true ways first u to new stride next left spent long near step e spends most = (
  spent + stride.times,
  (
    omega (arith, spends, most),
    subst (λ (v : List ℤ). LiesWithin side (spent + stride.times) ways first v) (sym e) (within-both side spent
        stride.times ways first u to long near step),
  ),
)
strides-more side false ways first u to new stride next left spent long near step e spends most =
    (spent, (omega (arith, spends, most), subst (λ (v : List ℤ). LiesWithin side spent ways first v) (sym e) near))

-- the ways of a round are how far it moved each head
pub goes-on : (side : Side) (v w x ways before : List ℤ) → before ≡ v → ((i : ℕ) → i < length w
    → head_at ways i ≡ (head_at w i -ℤ head_at before i))
    → LiesWithin side 1048575 ways w x → GoesOnWithin side v w x
goes-on side v w x ways before e are near i lt =
    subst (λ (z : ℤ). (along side (head_at x i) -ℤ along side (head_at w i)) ≤ℤ pos (1048575 * unsigned_abs z))
    (are i lt ∙ ap (λ (ys : List ℤ). head_at w i -ℤ head_at ys i) e) (near i lt)
