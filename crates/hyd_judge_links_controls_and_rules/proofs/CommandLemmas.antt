-- Links that commands name, and the states that they ask of them.
use Rattle.std.proofs.Common.{◌≡◌, ◌↔◌, ℕ, Bool, true, false, List, slice_get, Option, Some, None, refl, sym, ◌∙◌}
use Rattle.std.proofs.Common.{true≢false}
use Rattle.hyd_spec_lines.specs.Lines.{Row}
use Rattle.hyd_spec_lines.specs.declared.section.Section.{Section}
use Rattle.hyd_net.specs.declared.refusal_cause.Cause.{Cause}
use Rattle.hyd_net.specs.declared.refusal_cause.Cause.TheVariants.{Limit}
use Rattle.hyd_spec_input.specs.CapacitiesOutOfRange.{IsRefusedSetting}
use Rattle.hyd_spec_input.specs.Columns.{or_else}
use Rattle.hyd_spec_input.specs.SectionsAndTables.{is_of, link_named}
use Rattle.hyd_spec_input.specs.FaultsWithOtherRows as others
use Rattle.hyd_spec_input.specs.declared.LinkWord.{LinkWord}
use Rattle.hyd_rows_and_tables.specs.FirstWrongRow.{IsVerdict}
use Rattle.hyd_rows_and_tables.specs.WrongInSection.{IsWrongIn, IsCapacityFault, IsFaultThen}
use Rattle.hyd_rows_and_tables.proofs.WrongInSectionLemmas.{other_section}

-- ---- faults in turn

-- a fault that is there comes before all else
pub fault_first : (fault next : Option Cause) (cause : Cause) (Refused : Type 0) → fault ≡ Some cause
    → IsFaultThen (or_else fault next) Refused (Some cause)
fault_first fault next cause Refused e = rw e refl

-- a capacity that is decided
pub capacity_there : (Refused : Type 0) (result : Bool) → (result ≡ true) ↔ Refused → result ≡ true
    → IsCapacityFault Refused (Some (Limit 13))
capacity_there Refused result decides e = (decides.0 e, refl)

pub capacity_not_there : (Refused : Type 0) (result : Bool) → (result ≡ true) ↔ Refused → result ≡ false
    → IsCapacityFault Refused None
capacity_not_there Refused result decides e = λ refused. true≢false (sym (decides.1 refused) ∙ e)

pub then_capacity : (fault : Option Cause) (Refused : Type 0) (cause : Option Cause) → fault ≡ None
    → IsCapacityFault Refused cause → IsFaultThen fault Refused cause
then_capacity fault Refused cause e capacity = rw e capacity

-- ---- a link by its name, then what is asked of it

pub command_unknown : (rows : List Row) (kind : Option LinkWord) (name asked : List ℕ) (cause : Cause)
    → others.link_by_word rows kind name ≡ Some cause
    → IsFaultThen (or_else (others.link_by_word rows kind name)
    (others.set_link rows (link_named rows name) asked None))
    (IsRefusedSetting rows (link_named rows name) asked) (Some cause)
command_unknown rows kind name asked cause e = rw e refl

pub command_known : (rows : List Row) (kind : Option LinkWord) (name asked : List ℕ) (link : Row)
    (cause : Option Cause) → others.link_by_word rows kind name ≡ None → link_named rows name ≡ Some link
    → IsFaultThen (others.set_link rows (Some link) asked None) (IsRefusedSetting rows (Some link) asked) cause
    → IsFaultThen (or_else (others.link_by_word rows kind name)
    (others.set_link rows (link_named rows name) asked None))
    (IsRefusedSetting rows (link_named rows name) asked) cause
command_known rows kind name asked link cause known named then = rw (known, named) then

-- ---- one row further

-- no row of another section is wrong in this one
pub none_elsewhere : (section : Section) (rows : List Row) (k : ℕ) (row : Row) → slice_get rows k ≡ Some row
    → is_of section row ≡ false → IsVerdict (IsWrongIn section rows k) None
none_elsewhere section rows k row is other = other_section section rows k row is other
