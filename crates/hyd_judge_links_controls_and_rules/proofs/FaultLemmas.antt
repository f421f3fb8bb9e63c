-- What is asked of a link, by its type.
use Rattle.std.proofs.Common.{◌≡◌, ℕ, Bool, true, false, not, if◌then◌else◌, List, Option, Some, None, refl, sym, ◌∙◌}
use Rattle.std.proofs.Common.{subst, codes, inl, inr}
use Rattle.std.specs.Prelude.{IfNone}
use Rattle.std.proofs.lemmas.Bool.{cases_Bool}
use Rattle.hyd_num.specs.Numeral.{nano_of}
use Rattle.hyd_num.specs.FileQuantity.{is_us_unit}
use Rattle.hyd_num.specs.declared.flow_units.FlowUnit.{FlowUnit}
use Rattle.hyd_spec_lines.specs.WordsOfLines.{is_keyword}
use Rattle.hyd_spec_lines.specs.Lines.{Row}
use Rattle.hyd_spec_lines.specs.declared.section.Section.TheVariants.{Pipes, Pumps, Valves}
use Rattle.hyd_option_and_rule_lines.specs.WhatLinesSay.{IsAsked}
use Rattle.hyd_option_and_rule_lines.specs.declared.controls.Asked.{Asked}
use Rattle.hyd_option_and_rule_lines.specs.declared.controls.Asked.TheVariants.{Open, Closed, Number}
use Rattle.hyd_spec_input.specs.CapacitiesOutOfRange.{IsRefusedSetting, IsRefusedValve}
use Rattle.hyd_spec_input.specs.Columns.{amount, or_else, unless}
use Rattle.hyd_spec_input.specs.OptionsAndTimesInForce as force
use Rattle.hyd_spec_input.specs.NodeAndLinkRows.{has_check_valve, is_throttle, is_general}
use Rattle.hyd_spec_input.specs.SectionsAndTables.{is_of, is_link}
use Rattle.hyd_spec_input.specs.FaultsWithOtherRows as others
use Rattle.hyd_theorems_on_input.proofs.RowsWithoutFault.{or_none, section_is}
use Rattle.hyd_theorems_on_input.proofs.Names.{First, Second, Third, one_of_three}
use Rattle.hyd_net.specs.declared.refusal_cause.Cause.{Cause}
use Rattle.hyd_net.specs.declared.refusal_cause.Cause.TheVariants.{Syntax, Unsupported}
use Rattle.hyd_judge_links_controls_and_rules.specs.AskedStatesOfLinks.{IsType, IsAllowed, IsSettable, IsRefusedAsked}
use Rattle.hyd_judge_links_controls_and_rules.specs.AskedStatesOfLinks.{takes, takes_number, is_check_pipe}
use Rattle.hyd_judge_links_controls_and_rules.specs.AskedStatesOfLinks.{range_fault, type_fault}
use Rattle.hyd_judge_links_controls_and_rules.specs.declared.link_types.LinkType.{LinkType}
use Rattle.hyd_judge_links_controls_and_rules.specs.declared.link_types.LinkType.TheVariants.{Pipe, CheckPipe, Pump, Tcv, Fcv, Gpv}

-- a status is asked for, and no number
abbrev pub asks_status : Asked → Bool
asks_status (Number number) = false
asks_status _ = true

or_true : (a b : Bool) → b ≡ true → (if a then true else (if b then true else false)) ≡ true
or_true true b h = refl
or_true false b h = rw h refl

pub status_is : (word : List ℕ) (asked : Asked) → IsAsked word asked → others.is_status word ≡ asks_status asked
status_is word Open is = rw is refl
status_is word Closed is = or_true (is_keyword (codes "OPEN") word) (is_keyword (codes "CLOSED") word) is
status_is word (Number number) is = is.0

pub takes_is : (row : Row) (link : LinkType) → IsType row link → others.takes_number row ≡ takes_number link
takes_is row Pipe is = rw is.0 refl
takes_is row CheckPipe is = rw is.0 refl
takes_is row Pump is = rw is refl
takes_is row Tcv is = rw (is.0, is.1) refl
takes_is row Fcv is = rw (is.0, is.1) refl
takes_is row Gpv is = rw (is.0, is.1) refl

pub check_is : (row : Row) (link : LinkType) → IsType row link → others.is_check_valve row ≡ is_check_pipe link
check_is row Pipe is = rw (is.0, is.1) refl
check_is row CheckPipe is = rw (is.0, is.1) refl
check_is row Pump is = rw is refl
check_is row Tcv is = rw is.0 refl
check_is row Fcv is = rw is.0 refl
check_is row Gpv is = rw is.0 refl

-- the fault of a state by a link's type is that of the rows
pub type_fault_is : (rows : List Row) (row : Row) (word : List ℕ) (unit : FlowUnit) (link : LinkType) (asked : Asked)
    (between : Option Cause) → IsType row link → unit ≡ force.unit rows → IsAsked word asked
    → type_fault unit link asked between ≡ others.set_link rows (Some row) word between
type_fault_is rows row word unit link Open between is u a =
    rw (status_is word Open a, check_is row link is) refl
type_fault_is rows row word unit link Closed between is u a =
    rw (status_is word Closed a, check_is row link is) refl
type_fault_is rows row word unit Pipe (Number number) between is u a =
    rw (status_is word (Number number) a, takes_is row Pipe is) refl
type_fault_is rows row word unit CheckPipe (Number number) between is u a =
    rw (status_is word (Number number) a, takes_is row CheckPipe is) refl
type_fault_is rows row word unit Gpv (Number number) between is u a =
    rw (status_is word (Number number) a, takes_is row Gpv is) refl
type_fault_is rows row word unit Pump (Number number) between is u a =
    rw (status_is word (Number number) a, takes_is row Pump is, check_is row Pump is, is, a.1) refl
type_fault_is rows row word unit Tcv (Number number) between is u a =
    rw (status_is word (Number number) a, takes_is row Tcv is, check_is row Tcv is, is.0, is.2, a.1) refl
type_fault_is rows row word unit Fcv (Number number) between is u a =
    rw (status_is word (Number number) a, takes_is row Fcv is, check_is row Fcv is, is.0, is.2, a.1, u) refl

-- what is handed in doesn't decide whether a state is allowed
without_between : (unit : FlowUnit) (link : LinkType) (asked : Asked) (between : Option Cause)
    → type_fault unit link asked between ≡ None → type_fault unit link asked None ≡ None
without_between unit link asked None e = e
without_between unit link asked (Some cause) e =
    let takes = or_none (unless (takes link asked) Syntax)
    (or_else (Some cause) (or_else (unless (not (is_check_pipe link)) (Unsupported 11))
    (or_else (range_fault unit link asked) None))) e in
    absurd (let x : ⊥ = cc in x)

pub allowed_where : (row : Row) (unit : FlowUnit) (link : LinkType) (asked : Asked) (between result : Option Cause)
    → IsType row link → result ≡ type_fault unit link asked between → IfNone result (IsAllowed unit row asked)
allowed_where row unit link asked between None is e =
    record { link = link; type_is = is; right = without_between unit link asked between (sym e) }
allowed_where row unit link asked between (Some cause) is e = tt

-- ---- right states

pub refused_to : (rows : List Row) (row : Row) (word : List ℕ) (unit : FlowUnit) (link : LinkType) (asked : Asked)
    → IsType row link → unit ≡ force.unit rows → IsAsked word asked → IsRefusedAsked unit row link asked
    → IsRefusedSetting rows (Some row) word
refused_to rows row word unit Tcv (Number number) is u a refused =
    let same : IsRefusedValve (amount 3 row.words) number.nano (is_us_unit unit)
    ≡ IsRefusedValve (amount 3 row.words) (nano_of word) (others.us rows) = rw (a.1, u) refl in
    (rw (is.0, is.2, status_is word (Number number) a) refl, subst (λ (P : Type 0). P) same refused)
refused_to rows row word unit Tcv Open is u a refused = absurd refused
refused_to rows row word unit Tcv Closed is u a refused = absurd refused
refused_to rows row word unit Pipe asked is u a refused = absurd refused
refused_to rows row word unit CheckPipe asked is u a refused = absurd refused
refused_to rows row word unit Pump asked is u a refused = absurd refused
refused_to rows row word unit Fcv asked is u a refused = absurd refused
refused_to rows row word unit Gpv asked is u a refused = absurd refused

-- the row of a link is of one type
pub record HasType (row : Row) : Type 0 where
  pub link : LinkType
  pub is : IsType row link

pub type_of : (row : Row) → is_link row ≡ true → HasType row
type_of row link = elim (one_of_three (is_of Pipes row) (is_of Pumps row) (is_of Valves row) link) [
  | First of ↦ elim (cases_Bool (has_check_valve row.words)) [
    | inl t ↦ record { link = CheckPipe; is = (section_is Pipes row of, t) }
    | inr f ↦ record { link = Pipe; is = (section_is Pipes row of, f) }
  ]
  | Second of ↦ record { link = Pump; is = section_is Pumps row of }
  | Third of ↦ elim (cases_Bool (is_general row.words)) [
    | inl t ↦ record { link = Gpv; is = (section_is Valves row of, t) }
    | inr f ↦ elim (cases_Bool (is_throttle row.words)) [
      | inl t ↦ record { link = Tcv; is = (section_is Valves row of, f, t) }
      | inr g ↦ record { link = Fcv; is = (section_is Valves row of, f, g) }
    ]
  ]
]

-- a state without a fault
pub settable : (rows : List Row) (row : Row) (word : List ℕ) (unit : FlowUnit) (asked : Asked) (between : Option Cause)
    → is_link row ≡ true → unit ≡ force.unit rows → IsAsked word asked
    → others.set_link rows (Some row) word between ≡ None → (IsRefusedSetting rows (Some row) word → ⊥)
    → IsSettable unit row asked
settable rows row word unit asked between is_link u a none free =
    let of = type_of row is_link in
    record {
      link = of.link;
      type_is = of.is;
      right = without_between unit of.link asked between
          (type_fault_is rows row word unit of.link asked between of.is u a ∙ none);
      free = λ refused. free (refused_to rows row word unit of.link asked of.is u a refused);
    }
