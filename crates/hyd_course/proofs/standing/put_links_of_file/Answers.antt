use Rattle.std.proofs.Common.{List, ap, ◌∙◌, arith}
use Rattle.std.specs.Prelude.{slice_index_or}
use Rattle.hyd_spec.specs.ProgramTypes.{Link}
use Rattle.hyd_course.proofs.ListsOfStates.{links_are}
use Rattle.hyd_course.proofs.standing.put_links_of_file.Goals as goal

pub returns : goal.returns
returns c =
    let long = c.loop-link.auto.links in
    let over = c.loop-link-test.false in
    links_are c.args.project.now c.loop-link.links (long ∙ c.requires)
    (λ k link state lt.
    c.loop-link.invariant k link state (omega (arith, lt, over, c.requires))
    ∙ ap (λ (ls : List Link). (slice_index_or ls k link).start) c.as_slice-file.ensures)
