use Rattle.std.proofs.Common.{sym, ◌∙◌, get_or}
use Rattle.hyd_spec_lines.specs.Lines.{row_of}
use Rattle.hyd_spec_lines.specs.declared.line.Line.{Line}
use Rattle.hyd_spec_lines.specs.declared.section.Section.TheVariants.{Junctions}
use Rattle.hyd_rows_and_tables.proofs.FirstWrongRowLemmas.{row_at}
use Rattle.hyd_build_links_controls_and_rules.specs.RowsToBuildLinksFrom.{rows_from}
use Rattle.hyd_build_links_controls_and_rules.proofs.LinksBuiltSoFarLemmas.{other_section, same_section, link_section, built_same}
use Rattle.hyd_build_links_controls_and_rules.proofs.LinksBuiltSoFarLemmas.{built_more}
use Rattle.hyd_build_links_controls_and_rules.proofs.links.add.Goals as goal

nothing : Line
nothing = record { number = 0; section = Junctions; from = 0; to = 0 }

pub returns-then-number_of : goal.returns-then-number_of
unfolding nothing
returns-then-number_of c = λ before built.
    let text = c.args.text.now.text in
    let from = c.args.given.now in
    let row = row_of text (get_or from.lines.now c.args.place nothing) in
    built_same (rows_from text from) before c.args.section c.args.place row c.args.links.now.list
    (row_at text from.lines.now c.args.place nothing c.requires.within)
    (other_section c.args.section row (λ e. c.if-number_of.true (c.number_of.ensures ∙ e ∙ sym c.number_of-2.ensures)))
    built

pub link_of-requires-clause-row : goal.link_of-requires-clause-row
unfolding nothing
link_of-requires-clause-row c =
    let text = c.args.text.now.text in
    let from = c.args.given.now in
    let row = row_of text (get_or from.lines.now c.args.place nothing) in
    record {
      lies = c.requires.right.lie c.args.place nothing c.requires.within;
      right = c.requires.right;
      among = record { place = c.args.place; is = row_at text from.lines.now c.args.place nothing c.requires.within };
      of = link_section c.args.section row c.requires.section
          (same_section c.args.section row (sym c.number_of.ensures ∙ c.if-number_of.false ∙ c.number_of-2.ensures));
    }

pub returns : goal.returns
unfolding nothing
returns c = λ before built.
    let text = c.args.text.now.text in
    let from = c.args.given.now in
    let row = row_of text (get_or from.lines.now c.args.place nothing) in
    built_more (rows_from text from) before c.args.section c.args.place row c.args.links.now.list _ c.link_of.result
    (row_at text from.lines.now c.args.place nothing c.requires.within)
    (same_section c.args.section row (sym c.number_of.ensures ∙ c.if-number_of.false ∙ c.number_of-2.ensures))
    c.link_of.ensures c.in_ok-push.ensures.ok built
