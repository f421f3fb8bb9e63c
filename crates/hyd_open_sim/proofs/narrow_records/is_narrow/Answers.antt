use Rattle.std.proofs.Common.{◌≡◌, ℤ, ap, sym, subst, ◌∙◌, map, length, arith, to_z, of_z, w64}
use Rattle.std.proofs.lemmas.Int.{ints}
use Rattle.hyd_spec_certificates.specs.SpansAsIntervals.{levels_of}
use Rattle.hyd_open_certificates.specs.OpenRowView.{open_record_of}
use Rattle.hyd_open_sim_start.specs.StandingsOfOpenRuns.{standing_for}
use Rattle.hyd_open_sim.specs.EndedPeriods.{next_standing}
use Rattle.hyd_open_sim.specs.NarrowRecords.{AreSteady}
use Rattle.hyd_open_sim.proofs.DuePeriodLemmas.{close-here, narrow-there}
use Rattle.hyd_open_sim.proofs.narrow_records.is_narrow.Goals as goal

pub are_close-requires : goal.are_close-requires
are_close-requires c = record {
  heads = ap length c.vector-lower.ensures ∙ (c.requires.heads ∙ sym (ap length c.vector-upper.ensures));
}

pub returns-then-are_close-clause-narrow : goal.returns-then-are_close-clause-narrow
returns-then-are_close-clause-narrow c = λ e.
    let width : to_z w64 (of_z w64 c.args.width) ≡ c.args.width = omega (arith, ints) in
    let here = c.args.standing.now in
    narrow-there c.args.width (standing_for here) (next_standing c.args.project.now here c.args.close.now)
    (open_record_of c.args.found.now) _ _ _ c.vector-upper.ensures c.vector-lower.ensures
    (ap (map levels_of) c.as_slice.ensures) (to_z w64 (of_z w64 c.args.width)) width
    (c.are_close.ensures.close c.if-are_close.true) (c.has_steady_levels.ensures.narrow e)

pub returns-then-are_close-clause-wide : goal.returns-then-are_close-clause-wide
returns-then-are_close-clause-wide c = λ e is.
    let width : to_z w64 (of_z w64 c.args.width) ≡ c.args.width = omega (arith, ints) in
    let here = c.args.standing.now in
    c.has_steady_levels.ensures.wide e (subst (λ (W : ℤ). AreSteady W (standing_for here)
    (next_standing c.args.project.now here c.args.close.now)) (sym width) is.levels)

pub returns-else-are_close-clause-wide : goal.returns-else-are_close-clause-wide
returns-else-are_close-clause-wide c = λ e is.
    let width : to_z w64 (of_z w64 c.args.width) ≡ c.args.width = omega (arith, ints) in
    let here = c.args.standing.now in
    c.are_close.ensures.wide e (close-here c.args.width (standing_for here)
    (next_standing c.args.project.now here c.args.close.now) (open_record_of c.args.found.now) _ _ _
    c.vector-upper.ensures c.vector-lower.ensures (ap (map levels_of) c.as_slice.ensures)
    (to_z w64 (of_z w64 c.args.width)) width is)
