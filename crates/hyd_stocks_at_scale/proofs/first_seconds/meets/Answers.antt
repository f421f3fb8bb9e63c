use Rattle.std.proofs.Common.{◌≡◌, Bool, sym, subst, arith, to_z, of_z, true, false}
use Rattle.std.specs.Int.{w128}
use Rattle.std.proofs.lemmas.Int.{ints, to_z-of_z}
use lib.Signed.{le_z}
use Rattle.hyd_lemmas.proofs.BooleanTests.{le_z-yes}
use Rattle.hyd_stocks_at_scale.specs.declared.first_seconds.Target.{Target}
use Rattle.hyd_stocks_at_scale.specs.Motions.{exact_shares}
use Rattle.hyd_stocks_at_scale.specs.Targets.{IsSmall, Meets}
use Rattle.hyd_stocks_at_scale.proofs.Tests.{on_true, on_false, le_z-no}
use Rattle.hyd_stocks_at_scale.proofs.first_seconds.meets.Goals as goal

pub returns-in-Shares-clause-yes : goal.returns-in-Shares-clause-yes
returns-in-Shares-clause-yes c =
    let y = c.in-Shares.shares in
    let small = subst IsSmall c.in-Shares.is c.requires.target in
    let exact = exact_shares c.args.motion c.args.seconds in
    let kept : to_z w128 (of_z w128 y) ≡ y = omega (arith, ints, small) in
    let z = to_z-of_z w128 c.shares_after.result (record { sfits = c.shares_after.type_inv }) in
    on_true (le_z (to_z w128 (of_z w128 y)) (to_z w128 (of_z w128 c.shares_after.result)))
    (Meets c.args.rising c.args.target exact)
    (λ e. subst (λ (b : Bool). Meets b c.args.target exact) (sym c.if-rising.true)
    (subst (λ (t : Target). Meets true t exact) (sym c.in-Shares.is)
    ((c.shares_after.ensures.at_least y (omega (arith, small))).0 (rw (kept, z) at (le_z-yes (to_z w128
    (of_z w128 y)) (to_z w128 (of_z w128 c.shares_after.result)) e)))))

pub returns-in-Shares-clause-no : goal.returns-in-Shares-clause-no
returns-in-Shares-clause-no c =
    let y = c.in-Shares.shares in
    let small = subst IsSmall c.in-Shares.is c.requires.target in
    let exact = exact_shares c.args.motion c.args.seconds in
    let kept : to_z w128 (of_z w128 y) ≡ y = omega (arith, ints, small) in
    let z = to_z-of_z w128 c.shares_after.result (record { sfits = c.shares_after.type_inv }) in
    on_false (le_z (to_z w128 (of_z w128 y)) (to_z w128 (of_z w128 c.shares_after.result)))
    (Meets c.args.rising c.args.target exact → ⊥) (λ e m.
    let n = subst (λ (t : Target). Meets true t exact) c.in-Shares.is
    (subst (λ (b : Bool). Meets b c.args.target exact) c.if-rising.true m) in
    let l = (c.shares_after.ensures.at_least y (omega (arith, small))).1 n in
    let s = rw (kept, z) at (le_z-no (to_z w128 (of_z w128 y)) (to_z w128 (of_z w128 c.shares_after.result)) e) in
    omega (arith, ints, l, s))

pub returns-in-Shares-2-clause-yes : goal.returns-in-Shares-2-clause-yes
returns-in-Shares-2-clause-yes c =
    let y = c.in-Shares-2.shares in
    let small = subst IsSmall c.in-Shares-2.is c.requires.target in
    let exact = exact_shares c.args.motion c.args.seconds in
    let kept : to_z w128 (of_z w128 y) ≡ y = omega (arith, ints, small) in
    let after = c.shares_after-in-Shares-2 in
    let z = to_z-of_z w128 c.shares_after-in-Shares-2.result (record { sfits = after.type_inv }) in
    on_true (le_z (to_z w128 (of_z w128 c.shares_after-in-Shares-2.result)) (to_z w128 (of_z w128 y)))
    (Meets c.args.rising c.args.target exact)
    (λ e. subst (λ (b : Bool). Meets b c.args.target exact) (sym c.if-rising.false)
    (subst (λ (t : Target). Meets false t exact) (sym c.in-Shares-2.is)
    ((after.ensures.at_most y (omega (arith, small))).0 (rw (kept, z) at (le_z-yes (to_z w128
    (of_z w128 c.shares_after-in-Shares-2.result)) (to_z w128 (of_z w128 y)) e)))))

pub returns-in-Shares-2-clause-no : goal.returns-in-Shares-2-clause-no
returns-in-Shares-2-clause-no c =
    let y = c.in-Shares-2.shares in
    let small = subst IsSmall c.in-Shares-2.is c.requires.target in
    let exact = exact_shares c.args.motion c.args.seconds in
    let kept : to_z w128 (of_z w128 y) ≡ y = omega (arith, ints, small) in
    let after = c.shares_after-in-Shares-2 in
    let z = to_z-of_z w128 c.shares_after-in-Shares-2.result (record { sfits = after.type_inv }) in
    on_false (le_z (to_z w128 (of_z w128 c.shares_after-in-Shares-2.result)) (to_z w128 (of_z w128 y)))
    (Meets c.args.rising c.args.target exact → ⊥) (λ e m.
    let n = subst (λ (t : Target). Meets false t exact) c.in-Shares-2.is
    (subst (λ (b : Bool). Meets b c.args.target exact) c.if-rising.false m) in
    let l = (after.ensures.at_most y (omega (arith, small))).1 n in
    let s = rw (kept, z) at (le_z-no (to_z w128 (of_z w128 c.shares_after-in-Shares-2.result)) (to_z w128
    (of_z w128 y)) e) in
    omega (arith, ints, l, s))
