use Rattle.std.proofs.Common.{◌≡◌, true, false, codes, refl, subst}
use Rattle.hyd_spec_lines.specs.WordsOfLines.{is_keyword}
use Rattle.hyd_option_and_rule_lines.specs.WhatLinesSay.{IsAsked}
use Rattle.hyd_judge_links_controls_and_rules.proofs.StateAndValveLawLemmas.{closed_isn't_open}
use Rattle.hyd_judge_links_controls_and_rules.proofs.states_and_valve_laws.link_state.Goals as goal

pub returns-in-Closed : goal.returns-in-Closed
returns-in-Closed c = λ rows word u a.
    let closed : is_keyword (codes "CLOSED") word ≡ true = subst (IsAsked word) c.in-Closed.is a in
    let other : is_keyword (codes "OPEN") word ≡ false = closed_isn't_open word closed in
    rw (other, closed) refl
