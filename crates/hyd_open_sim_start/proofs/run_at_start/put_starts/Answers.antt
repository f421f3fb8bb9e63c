use Rattle.std.proofs.Common.{List, ap, ◌∙◌, arith}
use Rattle.std.specs.Prelude.{slice_index_or}
use Rattle.hyd_spec.specs.ProgramTypes.{Link}
use Rattle.hyd_sim.proofs.RunAtStartLemmas.{starts-are}
use Rattle.hyd_open_sim_start.proofs.run_at_start.put_starts.Goals as goal

pub returns : goal.returns
returns c =
    let long = c.loop-place.auto.states in
    let over = c.loop-place-test.false in
    starts-are c.args.project.now c.loop-place.states (long ∙ c.requires)
    (λ k link state lt.
    c.loop-place.invariant k link state (omega (arith, lt, over, c.requires))
    ∙ ap (λ (ls : List Link). (slice_index_or ls k link).start) c.as_slice-links.ensures)
