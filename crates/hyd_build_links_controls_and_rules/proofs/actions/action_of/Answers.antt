use Rattle.std.proofs.Common.{◌≡◌, None, Some, get_or, subst}
use Rattle.hyd_spec_lines.specs.Lines.{Row, row_of}
use Rattle.hyd_spec_lines.specs.declared.line.Line.{Line}
use Rattle.hyd_spec_lines.specs.declared.section.Section.TheVariants.{Junctions}
use Rattle.hyd_spec_input.specs.CapacitiesOutOfRange.{IsRefusedSetting}
use Rattle.hyd_spec_input.specs.Columns.{asked, needed, word}
use Rattle.hyd_spec_input.specs.MeaningsAcrossRows.{number_in, link_ids}
use Rattle.hyd_spec_input.specs.Project.{IsAction}
use Rattle.hyd_spec_input.specs.SectionsAndTables.{link_rows, link_named}
use Rattle.hyd_spec_input.specs.FaultsWithOtherRows as others
use Rattle.hyd_judge_links_controls_and_rules.proofs.RightLinks.{right_link}
use Rattle.hyd_judge_links_controls_and_rules.proofs.FaultLemmas.{settable}
use Rattle.hyd_judge_links_controls_and_rules.proofs.PartLemmas.{action_asks}
use Rattle.hyd_rows_and_tables.specs.RowsOfLines.{rows_at}
use Rattle.hyd_rows_and_tables.proofs.FirstWrongRowLemmas.{row_at}
use Rattle.hyd_build_links_controls_and_rules.proofs.NumberedNameLemmas.{link_numbered}
use Rattle.hyd_build_links_controls_and_rules.proofs.actions.action_of.Goals as goal

nothing : Line
nothing = record { number = 0; section = Junctions; from = 0; to = 0 }

pub returns-in_default : goal.returns-in_default
unfolding nothing
returns-in_default c =
    let text = c.args.text.now.text in
    let lines = c.args.lines.now in
    let here = row_of text (get_or lines c.args.place nothing) in
    let at = row_at text lines c.args.place nothing c.requires.within in
    let none : needed asked 5 here.words ≡ None = action_asks here.words (c.requires.right here at).by_itself in
    let wrong : needed asked 5 here.words ≡ Some c.in_default.field-0 = c.in_default.ensures in
    absurd (let x : ⊥ = cc in x)

pub returns-in_default-find : goal.returns-in_default-find
unfolding nothing
returns-in_default-find c =
    let text = c.args.text.now.text in
    let lines = c.args.lines.now in
    let rows = rows_at text lines in
    let here = row_of text (get_or lines c.args.place nothing) in
    let at = row_at text lines c.args.place nothing c.requires.within in
    let right = c.requires.right here at in
    let named : link_named rows c.or_empty-name.result.now ≡ Some right.link = rw c.or_empty-name.ensures right.named in
    let none : link_named rows c.or_empty-name.result.now ≡ None =
    c.in_default-find.ensures.none (link_rows rows) c.requires.table in
    absurd (let x : ⊥ = cc in x)

pub number_of-requires : goal.number_of-requires
number_of-requires c =
    let rows = rows_at c.args.text.now.text c.args.lines.now in
    let named : link_named rows c.or_empty-name.result.now ≡ Some (row_of c.args.text.now.text c.in-Some.link) =
    c.in-Some.ensures.some (link_rows rows) c.requires.table in
    rw c.requires.links (link_numbered rows c.or_empty-name.result.now _ named)

pub link_state-requires-clause-lies : goal.link_state-requires-clause-lies
link_state-requires-clause-lies c =
    c.in-Some.ensures.lies (link_rows (rows_at c.args.text.now.text c.args.lines.now)) c.requires.table

pub link_state-requires-clause-right : goal.link_state-requires-clause-right
link_state-requires-clause-right c =
    let rows = rows_at c.args.text.now.text c.args.lines.now in
    right_link rows c.or_empty-name.result.now _ c.requires.by_itself
    (c.in-Some.ensures.some (link_rows rows) c.requires.table)

pub link_state-requires-clause-settable : goal.link_state-requires-clause-settable
unfolding nothing
link_state-requires-clause-settable c =
    let text = c.args.text.now.text in
    let lines = c.args.lines.now in
    let rows = rows_at text lines in
    let here = row_of text (get_or lines c.args.place nothing) in
    let at = row_at text lines c.args.place nothing c.requires.within in
    let right = c.requires.right here at in
    let link = row_of text c.in-Some.link in
    let named : link_named rows c.or_empty-name.result.now ≡ Some link =
    c.in-Some.ensures.some (link_rows rows) c.requires.table in
    let known : link_named rows c.or_empty-name.result.now ≡ Some right.link = rw c.or_empty-name.ensures right.named in
    let same : right.link ≡ link = cc in
    let of = right_link rows c.or_empty-name.result.now link c.requires.by_itself named in
    settable rows link (word 5 here.words) c.args.unit c.in-Ok.asked None of.link c.requires.unit c.in-Ok.ensures.1
    (subst (λ (r : Row). others.set_link rows (Some r) (word 5 here.words) None ≡ None) same right.set)
    (subst (λ (r : Row). IsRefusedSetting rows (Some r) (word 5 here.words) → ⊥) same right.free)

pub returns : goal.returns
unfolding nothing
returns c = λ row is.
    let text = c.args.text.now.text in
    let lines = c.args.lines.now in
    let rows = rows_at text lines in
    let here = row_of text (get_or lines c.args.place nothing) in
    let at = row_at text lines c.args.place nothing c.requires.within in
    let same : here ≡ row = cc in
    let name : c.or_empty-name.result.now ≡ word 2 here.words = c.or_empty-name.ensures in
    let named : link_named rows (word 2 here.words) ≡ Some (row_of text c.in-Some.link) =
    rw (← name) (c.in-Some.ensures.some (link_rows rows) c.requires.table) in
    let state = c.link_state.ensures rows (word 5 here.words) c.requires.unit c.in-Ok.ensures.1 in
    let number : number_in (link_ids rows) (word 2 here.words) ≡ Some c.number_of.result =
    rw (← name, ← c.requires.links) c.number_of.ensures in
    let P : Row → Type 0 = λ r.
    IsAction rows r.words (record { link = c.number_of.result; to = c.link_state.result }) in
    subst P same (record { link = number; to = rw named state })
