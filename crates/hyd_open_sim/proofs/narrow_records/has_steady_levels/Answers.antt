use Rattle.std.proofs.Common.{◌≡◌, map, ap, sym, ◌∙◌, arith, to_z, of_z, w64}
use Rattle.std.proofs.lemmas.Int.{ints}
use Rattle.hyd_spec_certificates.specs.SpansAsIntervals.{levels_of}
use Rattle.hyd_spec_open_ends.specs.OpenStandings.{OpenStanding}
use Rattle.hyd_open_sim_start.specs.StandingsOfOpenRuns.{standing_for}
use Rattle.hyd_open_sim.specs.EndedPeriods.{next_standing}
use Rattle.hyd_open_sim.proofs.DuePeriodLemmas.{steady-here, steady-there}
use Rattle.hyd_open_sim.proofs.StandingsBehindPeriods.{at-last, at-later}
use Rattle.hyd_open_sim.proofs.narrow_records.has_steady_levels.Goals as goal

pub returns-then-standing-gt0-clause-narrow : goal.returns-then-standing-gt0-clause-narrow
returns-then-standing-gt0-clause-narrow c = λ e none ends.
    let some = c.if-standing-gt0.true in absurd (omega (arith, some, none))

pub returns-then-standing-project-clause-narrow : goal.returns-then-standing-project-clause-narrow
returns-then-standing-project-clause-narrow c = λ e.
    let wide : to_z w64 (of_z w64 c.args.width) ≡ c.args.width = omega (arith, ints) in
    let project = c.args.project.now in
    let here = c.args.standing.now in
    let start = ap (map levels_of) c.as_slice-before.ensures in
    steady-there c.args.width (standing_for here) (next_standing project here c.args.close.now) _ _ _ wide start
    (start ∙ sym (ap (λ (s : OpenStanding). s.known.levels)
    (at-last project here c.args.close.now c.if-standing-project.true)))
    (c.are_steady.ensures.steady e)

pub returns-then-standing-project-clause-wide : goal.returns-then-standing-project-clause-wide
returns-then-standing-project-clause-wide c = λ e are.
    let wide : to_z w64 (of_z w64 c.args.width) ≡ c.args.width = omega (arith, ints) in
    let project = c.args.project.now in
    let here = c.args.standing.now in
    let start = ap (map levels_of) c.as_slice-before.ensures in
    let behind = at-last project here c.args.close.now c.if-standing-project.true in
    let some = c.if-standing-gt0.false in
    let none : here.late ≡ 0 = omega (arith, some) in
    c.are_steady.ensures.grown e (steady-here c.args.width (standing_for here)
    (next_standing project here c.args.close.now) _ _ _ wide start
    (start ∙ sym (ap (λ (s : OpenStanding). s.known.levels) behind)) none
    (ap (λ (s : OpenStanding). s.late) behind ∙ none) are)

pub returns-then-close-gt0-clause-narrow : goal.returns-then-close-gt0-clause-narrow
returns-then-close-gt0-clause-narrow c = λ e none ends.
    let some = c.if-close-gt0.true in
    let late = ap (λ (s : OpenStanding). s.late) (at-later c.args.project.now c.args.standing.now c.args.close.now
    c.if-standing-project.false) in
    absurd (omega (arith, some, ends, late))

pub returns-clause-narrow : goal.returns-clause-narrow
returns-clause-narrow c = λ e.
    let wide : to_z w64 (of_z w64 c.args.width) ≡ c.args.width = omega (arith, ints) in
    let project = c.args.project.now in
    let here = c.args.standing.now in
    steady-there c.args.width (standing_for here) (next_standing project here c.args.close.now) _ _ _ wide
    (ap (map levels_of) c.as_slice-before.ensures)
    (ap (map levels_of) c.as_slice.ensures ∙ sym (ap (λ (s : OpenStanding). s.known.levels)
    (at-later project here c.args.close.now c.if-standing-project.false)))
    (c.are_steady-2.ensures.steady e)

pub returns-clause-wide : goal.returns-clause-wide
returns-clause-wide c = λ e are.
    let wide : to_z w64 (of_z w64 c.args.width) ≡ c.args.width = omega (arith, ints) in
    let project = c.args.project.now in
    let here = c.args.standing.now in
    let behind = at-later project here c.args.close.now c.if-standing-project.false in
    let some = c.if-standing-gt0.false in
    let more = c.if-close-gt0.false in
    let none : here.late ≡ 0 = omega (arith, some) in
    let ends : c.args.close.now.late ≡ 0 = omega (arith, more) in
    c.are_steady-2.ensures.grown e (steady-here c.args.width (standing_for here)
    (next_standing project here c.args.close.now) _ _ _ wide (ap (map levels_of) c.as_slice-before.ensures)
    (ap (map levels_of) c.as_slice.ensures ∙ sym (ap (λ (s : OpenStanding). s.known.levels) behind)) none
    (ap (λ (s : OpenStanding). s.late) behind ∙ ends) are)
