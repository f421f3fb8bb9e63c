use Rattle.std.proofs.Common.{◌≡◌, ◌↔◌, true, subst}
use Rattle.std.specs.Prelude.{Bool}
use Rattle.hyd_num.specs.FileQuantity.{is_us_unit}
use Rattle.hyd_spec_lines.specs.Lines.{row_of}
use Rattle.hyd_option_and_rule_lines.specs.WhatLinesSay.{IsAsked}
use Rattle.hyd_option_and_rule_lines.specs.declared.controls.Asked.TheVariants.{Number}
use Rattle.hyd_spec_input.specs.CapacitiesOutOfRange.{IsRefusedValve}
use Rattle.hyd_judge_links_controls_and_rules.specs.AskedStatesOfLinks.{IsType}
use Rattle.hyd_judge_links_controls_and_rules.specs.declared.link_types.LinkType.TheVariants.{Tcv}
use Rattle.hyd_judge_links_controls_and_rules.proofs.StateAndValveLawLemmas.{setting_refused}
use Rattle.hyd_judge_links_controls_and_rules.proofs.states_and_valve_laws.is_refused.Goals as goal

pub returns-in-Tcv : goal.returns-in-Tcv
returns-in-Tcv c = λ rows word u a.
    let row = row_of c.args.text.now.text c.args.link.now in
    let type_is : IsType row Tcv = subst (IsType row) c.in-Tcv.is c.link_type.ensures in
    let number : IsAsked word (Number c.in-Number.number) = subst (IsAsked word) c.in-Number.is a in
    let refused : (c.is_refused_valve.result ≡ true)
    ↔ IsRefusedValve c.diameter.result.nano c.in-Number.number.nano (is_us_unit c.args.unit) =
    subst (λ (us : Bool). (c.is_refused_valve.result ≡ true)
    ↔ IsRefusedValve c.diameter.result.nano c.in-Number.number.nano us) c.is_us.ensures c.is_refused_valve.ensures in
    setting_refused rows row word c.args.unit c.in-Number.number c.diameter.result.nano c.is_refused_valve.result
    type_is
    u number c.diameter.ensures.nano refused
