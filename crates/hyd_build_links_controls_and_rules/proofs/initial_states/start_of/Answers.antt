use Rattle.std.proofs.Common.{length, Option, sym, subst}
use Rattle.hyd_spec_lines.specs.Lines.{Row, row_of}
use Rattle.hyd_spec_input.specs.Project.{IsStart}
use Rattle.hyd_build_links_controls_and_rules.specs.RowsToBuildLinksFrom.{rows_from}
use Rattle.hyd_build_links_controls_and_rules.proofs.NumberLemmas.{link_numbered}
use Rattle.hyd_build_links_controls_and_rules.proofs.RightRowsToBuildLinksFrom.{rows_for_links_are_right}
use Rattle.hyd_build_links_controls_and_rules.proofs.InitialStateLemmas.{last_is}
use Rattle.hyd_build_links_controls_and_rules.proofs.initial_states.start_of.Goals as goal

pub status_line-requires-clause-there : goal.status_line-requires-clause-there
status_line-requires-clause-there c =
    let text = c.args.text.now.text in
    let from = c.args.given.now in
    rw c.own_id.ensures
    (link_numbered text (rows_from text from) from.links.now.names from.links.now.firsts.items
    c.requires.row.among.place (row_of text c.args.line.now) (rows_for_links_are_right text from c.requires.row.right)
    c.requires.row.right.links c.requires.row.among.is c.requires.row.of)

pub asked_state-requires-clause-status : goal.asked_state-requires-clause-status
asked_state-requires-clause-status c =
    let text = c.args.text.now.text in
    let from = c.args.given.now in
    last_is text from c.args.line.now c.own_id.result.now _ c.own_id.ensures
    (c.in-Some.ensures.row (rows_from text from) (length from.lines.now) c.requires.statuses)

pub returns-in-Some : goal.returns-in-Some
returns-in-Some c =
    let text = c.args.text.now.text in
    let from = c.args.given.now in
    let P : Option Row → Type 0 = λ status. IsStart (rows_from text from) (row_of text c.args.line.now) status
    c.asked_state.result in
    subst P (sym (last_is text from c.args.line.now c.own_id.result.now _ c.own_id.ensures
    (c.in-Some.ensures.row (rows_from text from) (length from.lines.now) c.requires.statuses))) c.asked_state.ensures

pub returns-in-None : goal.returns-in-None
returns-in-None c =
    let text = c.args.text.now.text in
    let from = c.args.given.now in
    let P : Option Row → Type 0 = λ status. IsStart (rows_from text from) (row_of text c.args.line.now) status
    c.own_state.result in
    subst P (sym (last_is text from c.args.line.now c.own_id.result.now _ c.own_id.ensures
    (c.in-None.ensures.row (rows_from text from) (length from.lines.now) c.requires.statuses))) c.own_state.ensures
