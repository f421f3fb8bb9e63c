-- Settings of throttle control valves, and the states that words ask for.
use Rattle.std.proofs.Common.{◌≡◌, ◌↔◌, ℕ, Bool, true, false, List, Some, refl, sym, ◌∙◌, subst, codes}
use Rattle.std.specs.Prelude.{ℤ, pos, ◌<ℤ◌, ◌&&◌, not}
use Rattle.hyd_num.specs.FileQuantity.{is_us_unit}
use Rattle.hyd_num.specs.Numeral.{nano_of}
use Rattle.hyd_num.specs.declared.decimals.Decimal.{Decimal}
use Rattle.hyd_num.specs.declared.flow_units.FlowUnit.{FlowUnit}
use Rattle.hyd_num.specs.declared.link_capacities.Origin.TheVariants.{Valve}
use Rattle.hyd_num.specs.CapacityRange.{IsRefused}
use Rattle.hyd_spec_lines.specs.WordsOfLines.{is_keyword}
use Rattle.hyd_spec_lines.specs.Lines.{Row}
use Rattle.hyd_spec_lines.specs.declared.section.Section.TheVariants.{Valves}
use Rattle.hyd_net.proofs.EqualValues.{Decimal-equal}
use Rattle.hyd_option_and_rule_lines.specs.WhatLinesSay.{IsAsked}
use Rattle.hyd_option_and_rule_lines.specs.declared.controls.Asked.TheVariants.{Number}
use Rattle.hyd_spec_input.specs.CapacitiesOutOfRange.{IsRefusedSetting, IsRefusedValve}
use Rattle.hyd_spec_input.specs.Columns.{amount}
use Rattle.hyd_spec_input.specs.OptionsAndTimesInForce as force
use Rattle.hyd_spec_input.specs.NodeAndLinkRows.{is_throttle}
use Rattle.hyd_spec_input.specs.SectionsAndTables.{is_of}
use Rattle.hyd_spec_input.specs.FaultsWithOtherRows as others
use Rattle.hyd_theorems_on_input.proofs.OptionsAndTimesInForce.{keyword_same}
use Rattle.hyd_judge_links_controls_and_rules.specs.AskedStatesOfLinks.{IsType}
use Rattle.hyd_judge_links_controls_and_rules.specs.declared.link_types.LinkType.TheVariants.{Tcv}
use Rattle.hyd_judge_links_controls_and_rules.proofs.FaultLemmas.{status_is}

-- ---- capacities

-- numbers are told by their billionths
pub refused_valve : (d k : Decimal) (us : Bool) → pos 0 <ℤ k.nano → IsRefused (Valve d k us)
    → IsRefusedValve d.nano k.nano us
refused_valve d k us above refused =
    record { above = above; d = d; d_is = refl; k = k; k_is = refl; refused = refused }

pub refused_numbers : (d k : Decimal) (us : Bool) → IsRefusedValve d.nano k.nano us → IsRefused (Valve d k us)
refused_numbers d k us is =
    let same_d : is.d ≡ d = Decimal-equal is.d d is.d_is in
    let same_k : is.k ≡ k = Decimal-equal is.k k is.k_is in
    rw (← same_d, ← same_k) is.refused

-- ---- words

not_both : is_keyword (codes "OPEN") (codes "CLOSED") ≡ false
unfolding is_keyword
not_both = refl

pub closed_isn't_open : (word : List ℕ) → is_keyword (codes "CLOSED") word ≡ true
    → is_keyword (codes "OPEN") word ≡ false
closed_isn't_open word e = keyword_same (codes "CLOSED") (codes "OPEN") word e ∙ not_both

-- ---- settings

pub setting_refused : (rows : List Row) (row : Row) (word : List ℕ) (unit : FlowUnit) (number : Decimal) (d : ℤ)
    (result : Bool) → IsType row Tcv → unit ≡ force.unit rows → IsAsked word (Number number) → d ≡ amount 3 row.words
    → (result ≡ true) ↔ IsRefusedValve d number.nano (is_us_unit unit)
    → (result ≡ true) ↔ IsRefusedSetting rows (Some row) word
setting_refused rows row word unit number d result is u a across refused =
    let same : IsRefusedValve d number.nano (is_us_unit unit)
    ≡ IsRefusedValve (amount 3 row.words) (nano_of word) (others.us rows) = rw (across, a.1, u) refl in
    let of_throttle : (is_of Valves row && (is_throttle row.words && not (others.is_status word))) ≡ true =
    rw (is.0, is.2, status_is word (Number number) a) refl in (
      λ e. (of_throttle, subst (λ (P : Type 0). P) same (refused.0 e)),
      λ is_refused. refused.1 (subst (λ (P : Type 0). P) (sym same) is_refused.1),
    )
