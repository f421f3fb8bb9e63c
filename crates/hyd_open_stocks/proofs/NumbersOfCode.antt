-- Numbers as the code has them.
use Rattle.std.proofs.Common.{◌≡◌, ◌^◌, ◌≤◌, ℤ, pos, ◌+ℤ◌, ◌-ℤ◌, ◌≤ℤ◌, ◌<ℤ◌, true, false, unsigned_abs, ap, ◌∙◌, arith}
use Rattle.std.proofs.Common.{to_z, of_z, w64, SFits}
use Rattle.std.specs.Prelude.{int_lt}
use Rattle.std.specs.Int.{w128, int_max, int_min}
use Rattle.std.proofs.lemmas.Int.{ints, clamps}
use Rattle.hyd_net.specs.NumberRanges.{Lies, volume_limit}
use Rattle.hyd_lemmas.proofs.BooleanTests.{lt-yes, lt-no}

-- ---- volumes

pub share_in : (r rise v w : ℤ) → pos 0 ≤ℤ r → r ≤ℤ rise → rise ≡ w -ℤ v → pos 0 ≤ℤ v → w ≤ℤ pos (10 ^ 18)
    → Lies (pos 0) (pos volume_limit) (to_z w128 (of_z w128 r))
share_in r rise v w low high is some most =
    record { at_least = omega (arith, ints); at_most = omega (arith, ints) }

pub sum_is : (s v r rise w f : ℤ) → pos 0 ≤ℤ r → r ≤ℤ rise → rise ≡ w -ℤ v → pos 0 ≤ℤ v → w ≤ℤ pos (10 ^ 18)
    → s ≡ to_z w64 (of_z w64 v) +ℤ to_z w128 (of_z w128 r) → v +ℤ r ≡ f → to_z w64 (of_z w64 s) ≡ f
sum_is s v r rise w f low high is some most e g = omega (arith, ints)

pub sum_in : (s v r rise w : ℤ) → pos 0 ≤ℤ r → r ≤ℤ rise → rise ≡ w -ℤ v → pos 0 ≤ℤ v → w ≤ℤ pos (10 ^ 18)
    → s ≡ to_z w64 (of_z w64 v) +ℤ to_z w128 (of_z w128 r) → Lies (pos 0) (pos volume_limit) (to_z w64 (of_z w64 s))
sum_in s v r rise w low high is some most e = record { at_least = omega (arith, ints); at_most = omega (arith, ints) }

pub held_code : (g l m a b : ℤ) → Lies (pos 0) (pos volume_limit) g → Lies (pos 0) (pos volume_limit) l
    → Lies (pos 0) (pos volume_limit) m → a ≡ int_max (to_z w64 (of_z w64 g)) (to_z w64 (of_z w64 l))
    → b ≡ int_min (to_z w64 (of_z w64 a)) (to_z w64 (of_z w64 m))
    → to_z w64 (of_z w64 b) ≡ int_min (int_max g l) m
held_code g l m a b gr lr mr e f =
    let x = gr.at_least in
    let y = gr.at_most in
    let z = lr.at_least in
    let w = lr.at_most in
    let u = mr.at_least in
    let v = mr.at_most in
    omega (arith, ints, clamps)

pub beyond_code : (g l m b : ℤ) → Lies (pos 0) (pos volume_limit) g → Lies (pos 0) (pos volume_limit) l
    → Lies (pos 0) (pos volume_limit) m → to_z w64 (of_z w64 b) ≡ int_min (int_max g l) m
    → to_z w64 (of_z w64 (to_z w64 (of_z w64 g) -ℤ to_z w64 (of_z w64 b))) ≡ g -ℤ to_z w64 (of_z w64 b)
beyond_code g l m b gr lr mr e =
    let x = gr.at_least in
    let y = gr.at_most in
    let z = lr.at_least in
    let w = lr.at_most in
    let u = mr.at_least in
    let v = mr.at_most in
    omega (arith, ints, clamps)

-- ---- levels

pub less_so : (x l : ℤ) → SFits w64 x → unsigned_abs l ≤ 10 ^ 17
    → int_lt (to_z w64 (of_z w64 x)) (to_z w64 (of_z w64 l)) ≡ true → x <ℤ l
less_so x l fits small e =
    let t = lt-yes (to_z w64 (of_z w64 x)) (to_z w64 (of_z w64 l)) e in omega (arith, ints)

pub not_less_so : (x l : ℤ) → SFits w64 x → unsigned_abs l ≤ 10 ^ 17
    → int_lt (to_z w64 (of_z w64 x)) (to_z w64 (of_z w64 l)) ≡ false → l ≤ℤ x
not_less_so x l fits small e =
    let t = lt-no (to_z w64 (of_z w64 x)) (to_z w64 (of_z w64 l)) e in omega (arith, ints)
