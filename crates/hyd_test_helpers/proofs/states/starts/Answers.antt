use Rattle.std.proofs.Common.{List, ◌++◌, map, sym, ap, ◌∙◌, arith}
use Rattle.std.proofs.lemmas.List.{append-nil, drop_all}
use Rattle.hyd_spec.specs.ProgramTypes.{Link}
use Rattle.hyd_test_helpers.proofs.Commands.{start_of, starts_stand}
use Rattle.hyd_test_helpers.proofs.states.starts.Goals as goal

pub returns : goal.returns
returns c =
    let states = c.loop-link.states.items in
    let links = c.as_slice-links.result.now in
    starts_stand c.args.project.now states c.requires
    (sym (append-nil states) ∙ ap (λ (ls : List Link). states ++ map start_of ls)
    (sym (drop_all c.loop-link.link-index links (omega arith)))
    ∙ c.loop-link.invariant ∙ ap (λ (ls : List Link). map start_of ls) c.as_slice-links.ensures)
