use Rattle.std.proofs.Common.{◌≡◌, ℤ, ap, sym, subst, ◌∙◌, arith, to_z, of_z, w64}
use Rattle.std.proofs.lemmas.Int.{ints}
use Rattle.hyd_sim.specs.NarrowRecordsAndStops.{AreNarrow}
use Rattle.std.specs.Prelude.{length, map}
use Rattle.hyd_spec_certificates.specs.SpansAsIntervals.{levels_of}
use Rattle.hyd_spec_certificates.specs.Narrow.{IsNarrow}
use Rattle.hyd_cert.specs.RecordView.{row_of}
use Rattle.hyd_sim.specs.PeriodAttempt.{last_standing, later_standing}
use Rattle.hyd_sim.specs.RunView.{standing_for}
use Rattle.hyd_sim.proofs.DuePeriodLemmas.{narrow-there, narrow-here}
use Rattle.hyd_sim.proofs.StandingAfter.{at-last, at-later}
use Rattle.hyd_sim.proofs.due_period.is_narrow.Goals as goal

pub are_narrow-requires-clause-heads : goal.are_narrow-requires-clause-heads
are_narrow-requires-clause-heads c =
    ap length c.vector-lower.ensures ∙ (c.requires.heads ∙ sym (ap length c.vector-upper.ensures))

pub returns-then-standing-project-clause-narrow : goal.returns-then-standing-project-clause-narrow
returns-then-standing-project-clause-narrow c = λ e.
    let width : to_z w64 (of_z w64 c.args.width) ≡ c.args.width = omega (arith, ints) in
    let here = c.args.standing.now in
    let row = row_of c.args.row.now in
    let start = ap (map levels_of) c.as_slice-before.ensures in
    subst (IsNarrow c.args.width (standing_for here) row)
    (sym (at-last c.args.project.now here c.args.row.now.length c.args.close.now c.if-standing-project.true))
    (narrow-there c.args.width (standing_for here) (last_standing here) row _ _ _ _ c.vector-upper.ensures
    c.vector-lower.ensures start start (subst (λ (W : ℤ). AreNarrow W c.vector-upper.result.now
    c.vector-lower.result.now
    (map levels_of c.as_slice-before.result.now) (map levels_of c.as_slice-before.result.now)) width
    (c.are_narrow.ensures.narrow e)))

pub returns-then-standing-project-clause-wide : goal.returns-then-standing-project-clause-wide
returns-then-standing-project-clause-wide c = λ e is.
    let width : to_z w64 (of_z w64 c.args.width) ≡ c.args.width = omega (arith, ints) in
    let here = c.args.standing.now in
    let row = row_of c.args.row.now in
    let start = ap (map levels_of) c.as_slice-before.ensures in
    c.are_narrow.ensures.wide e (subst (λ (W : ℤ). AreNarrow W c.vector-upper.result.now c.vector-lower.result.now
    (map levels_of c.as_slice-before.result.now) (map levels_of c.as_slice-before.result.now)) (sym width)
    (narrow-here c.args.width (standing_for here) (last_standing here) row _ _ _ _ c.vector-upper.ensures
    c.vector-lower.ensures start start (subst (IsNarrow c.args.width (standing_for here) row)
    (at-last c.args.project.now here c.args.row.now.length c.args.close.now c.if-standing-project.true) is)))

pub returns-clause-narrow : goal.returns-clause-narrow
returns-clause-narrow c = λ e.
    let width : to_z w64 (of_z w64 c.args.width) ≡ c.args.width = omega (arith, ints) in
    let here = c.args.standing.now in
    let row = row_of c.args.row.now in
    let close = c.args.close.now in
    subst (IsNarrow c.args.width (standing_for here) row)
    (sym (at-later c.args.project.now here c.args.row.now.length close c.if-standing-project.false))
    (narrow-there c.args.width (standing_for here) (later_standing here c.args.row.now.length close) row _ _ _ _
    c.vector-upper.ensures c.vector-lower.ensures (ap (map levels_of) c.as_slice-before.ensures)
    (ap (map levels_of) c.as_slice.ensures) (subst (λ (W : ℤ). AreNarrow W c.vector-upper.result.now
    c.vector-lower.result.now
    (map levels_of c.as_slice-before.result.now) (map levels_of c.as_slice.result.now)) width
    (c.are_narrow-2.ensures.narrow e)))

pub returns-clause-wide : goal.returns-clause-wide
returns-clause-wide c = λ e is.
    let width : to_z w64 (of_z w64 c.args.width) ≡ c.args.width = omega (arith, ints) in
    let here = c.args.standing.now in
    let row = row_of c.args.row.now in
    let close = c.args.close.now in
    c.are_narrow-2.ensures.wide e (subst (λ (W : ℤ). AreNarrow W c.vector-upper.result.now c.vector-lower.result.now
    (map levels_of c.as_slice-before.result.now) (map levels_of c.as_slice.result.now)) (sym width)
    (narrow-here c.args.width (standing_for here) (later_standing here c.args.row.now.length close) row _ _ _ _
    c.vector-upper.ensures c.vector-lower.ensures (ap (map levels_of) c.as_slice-before.ensures)
    (ap (map levels_of) c.as_slice.ensures) (subst (IsNarrow c.args.width (standing_for here) row)
    (at-later c.args.project.now here c.args.row.now.length close c.if-standing-project.false) is)))
