-- A link that is named in a file whose rows are right by themselves.
use Rattle.std.proofs.Common.{◌≡◌, ℕ, true, List, [], Some, sym, ◌∙◌, refl, true≢false}
use Rattle.std.specs.Prelude.{◌==◌, ◌||◌}
use Rattle.hyd_spec_lines.specs.Lines.{Row}
use Rattle.hyd_spec_lines.specs.declared.section.Section.{Section}
use Rattle.hyd_spec_lines.specs.declared.section.Section.TheVariants.{Pipes, Pumps, Valves}
use Rattle.hyd_spec_input.specs.SingleRows as itself
use Rattle.hyd_spec_input.specs.SingleRows.{IsWrongByItself}
use Rattle.hyd_spec_input.specs.Faults.{NoneIs}
use Rattle.hyd_spec_input.specs.SectionsAndTables.{place, is_link, link_rows, link_named}
use Rattle.hyd_theorems_on_input.proofs.Names.{named_stands}
use Rattle.hyd_theorems_on_input.proofs.ListsByPlace.{kept_stands, kept_passes}
use Rattle.hyd_judge_links_controls_and_rules.specs.AskedStatesOfLinks.{IsRightLink}
use Rattle.hyd_theorems_on_input.proofs.RowsWithoutFault.{none_alone}

-- what is asked of a link doesn't depend on the lines of rules
alone : (section : Section) (earlier : List (List (List ℕ))) (words : List (List ℕ)) (later : List (List (List ℕ)))
    → ((place section == 3) || ((place section == 4) || (place section == 5))) ≡ true
    → itself.section_fault section [] words [] ≡ itself.section_fault section earlier words later
alone Pipes earlier words later h = refl
alone Pumps earlier words later h = refl
alone Valves earlier words later h = refl
alone _ earlier words later h = absurd (true≢false (sym h))

pub right_link : (rows : List Row) (name : List ℕ) (row : Row) → NoneIs (IsWrongByItself rows)
    → link_named rows name ≡ Some row → IsRightLink row
right_link rows name row right named =
    let found = named_stands name (link_rows rows) row named in
    let stands = kept_stands is_link rows found.0.place row found.0.is in
    let link = kept_passes is_link rows found.0.place row found.0.is in
    record {
      link = link;
      right = alone row.section _ row.words _ link
          ∙ none_alone rows stands.place row right stands.is;
    }
