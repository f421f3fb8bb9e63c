use Rattle.std.proofs.Common.{◌≡◌, ◌<◌, ◌+◌, ◌∙◌, sym, subst, w64, to_z, of_z, arith, ℕ, ℤ, pos, length, inl, inr}
use Rattle.std.specs.Prelude.{All, slice_set}
use Rattle.std.proofs.lemmas.Int.{ints}
use Rattle.std.proofs.lemmas.Bool.{cases_eq, false≢true}
use Rattle.hyd_spec.specs.Assignment.{head_at}
use Rattle.hyd_spec_certificates.specs.Certificate.{IsInBox}
use Rattle.hyd_theorems_on_raises.proofs.RaisesAndTightVector.{set-in-box}
use Rattle.hyd_period_network.specs.NetAsPeriodNetwork.{grid_of}
use Rattle.hyd_sweep.specs.Leaps.{IsTurn, MayMove}
use Rattle.hyd_sweep.proofs.LeapsInTurn.{turn-more}
use Rattle.hyd_sweep.proofs.leaps.take_turns.Goals as goal

pub returns-then-not-may_move-clause-leaps : goal.returns-then-not-may_move-clause-leaps
returns-then-not-may_move-clause-leaps c =
    let inside : c.loop-i.i < length c.args.u.now = (let a = c.loop-i-test.true in
    let b = c.junctions-i-end.ensures.count in let d = c.requires.one_each in omega (arith, a, b, d)) in (
      (λ e. absurd (false≢true e)),
      (λ leap. sym c.if-not-may_move.true ∙ c.may_move.ensures.1 (leap.moves c.loop-i.i inside)),
    )

pub loop-i-preserved : goal.loop-i-preserved
loop-i-preserved c =
    let i = c.loop-i.i in
    let u = c.args.u.now in
    let v = c.args.to.now in
    let heads = c.loop-i.heads in
    let inside : i < length v = (let a = c.loop-i-test.true in let b = c.junctions-i-end.ensures.count in
    let d = c.requires.one_each in let e = c.requires.to_each in omega (arith, a, b, d, e)) in
    let head : to_z w64 (of_z w64 c.head_of.result) ≡ head_at v i = (let k : to_z w64 (of_z w64 c.head_of.result)
    ≡ c.head_of.result = omega (arith, ints) in k ∙ c.head_of.ensures) in
    record {
      turn = subst (λ (x : ℤ). IsTurn c.args.side u v (slice_set heads i x) (i + 1)) (sym head)
          (turn-more c.args.side u v heads i inside c.loop-i.invariant.turn);
      in_box = subst (λ (x : ℤ). All IsInBox (slice_set heads i x)) (sym head)
          (set-in-box heads i (head_at v i) (c.requires.to_in_box i (pos 0) inside) c.loop-i.invariant.in_box);
      moves = λ k lt. elim (cases_eq k i) [
        | inl e ↦ subst (λ (m : ℕ). MayMove c.args.held (grid_of c.args.net.now) c.args.problem c.args.side u v m)
            (sym e) (c.may_move.ensures.0 c.if-not-may_move.false)
        | inr ne ↦ c.loop-i.invariant.moves k (omega (arith, lt, ne))
      ];
    }
