use Rattle.std.proofs.Common.{◌≡◌, ℕ, zero, suc, ◌+◌, ◌-◌, ◌<◌, ◌≤◌, refl, ap, ◌∙◌, arith, List, [], ◌∷◌, length}
use Rattle.std.proofs.Common.{take, drop}
use Rattle.std.specs.Prelude.{slice_get}
use Rattle.hyd_spec.specs.ProgramTypes.{Tank}
use Rattle.hyd_spec_spread_rows.specs.RowsOfSpreads.{some_tank}
use Rattle.hyd_spread_rows.proofs.names.one_tank.Goals as goal

one : (k : ℕ) (xs : List Tank) → k < length xs → take 1 (drop k xs) ≡ some_tank (slice_get xs k)
one k [] lt = absurd (omega arith)
one zero (x ∷ xs) lt = refl
one (suc k) (x ∷ xs) lt = one k xs (omega arith)

none : (k : ℕ) (xs : List Tank) → length xs ≤ k → ◌≡◌ {A = List Tank} [] (some_tank (slice_get xs k))
none k [] le = refl
none zero (x ∷ xs) le = absurd (omega arith)
none (suc k) (x ∷ xs) le = none k xs (omega arith)

pub returns-then-number-tanks : goal.returns-then-number-tanks
returns-then-number-tanks c =
    let k = c.args.number in
    ap (λ (n : ℕ). take n (drop k c.args.tanks.now)) (let e : k + 1 - k ≡ 1 = omega arith in e)
    ∙ one k c.args.tanks.now c.if-number-tanks.true

pub returns : goal.returns
returns c = none c.args.number c.args.tanks.now c.if-number-tanks.false
