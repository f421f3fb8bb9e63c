use Rattle.std.proofs.Common.{◌≡◌, Some, ap, ◌∙◌, subst, arith, w64, to_z, of_z}
use Rattle.std.proofs.lemmas.Int.{ints}
use Rattle.hyd_spec_lines.specs.Lines.{row_of}
use Rattle.hyd_num.specs.FileQuantity.{is_us_unit, head_ticks}
use Rattle.hyd_num.specs.declared.flow_units.FlowUnit.{FlowUnit}
use Rattle.hyd_option_and_rule_lines.specs.WhatLinesSay as meaning
use Rattle.hyd_option_and_rule_lines.specs.declared.controls.WhenLine.{WhenLine}
use Rattle.hyd_spec_input.specs.Columns.{word, amount}
use Rattle.hyd_spec_input.specs.MeaningsAcrossRows.{number_in, tank_ids}
use Rattle.hyd_build_links_controls_and_rules.proofs.controls.when_of.Goals as goal

pub number_of-requires : goal.number_of-requires
number_of-requires c =
    let words = (row_of c.args.text.now.text c.args.line.now).words in
    let says = subst (λ (w : WhenLine). meaning.IsWhen words w) c.in-Level.is c.requires.says in
    let name : c.or_empty.result.now ≡ word 5 words = c.or_empty.ensures ∙ ap (λ k. word k words) says.2 in
    rw name (c.requires.right.tank says.0)

pub returns-in-Level : goal.returns-in-Level
returns-in-Level c = λ rows t u.
    let words = (row_of c.args.text.now.text c.args.line.now).words in
    let says = subst (λ (w : WhenLine). meaning.IsWhen words w) c.in-Level.is c.requires.says in
    let name : c.or_empty.result.now ≡ word 5 words = c.or_empty.ensures ∙ ap (λ k. word k words) says.2 in
    let number : number_in (tank_ids rows) (word 5 words) ≡ Some c.number_of.result =
    rw (← name, ← t) c.number_of.ensures in
    let ticks : c.level_ticks.result ≡ head_ticks (is_us_unit c.args.unit) (amount 7 words) =
    c.level_ticks.ensures ∙ ap (head_ticks (is_us_unit c.args.unit)) says.4 in
    let bounds = c.requires.right.level says.0 in
    let fits : to_z w64 (of_z w64 c.level_ticks.result) ≡ c.level_ticks.result =
    omega (arith, ints, ticks, bounds.at_least, bounds.at_most) in (
      says.0,
      number,
      says.3,
      fits ∙ ticks ∙ ap (λ (un : FlowUnit). head_ticks (is_us_unit un) (amount 7 words)) u,
    )
