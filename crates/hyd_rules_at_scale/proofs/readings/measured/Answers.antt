use Rattle.std.proofs.Common.{sym, subst, pos, slice_index_or}
use Rattle.hyd_num.specs.Rational.{whole}
use Rattle.hyd_spec.specs.ProgramTypes.{What}
use Rattle.hyd_spec.specs.Rules.{head_of, pressure_of, level_of, measured}
use Rattle.hyd_laws_at_scale.specs.Scales.{parts_of}
use Rattle.hyd_stocks_at_scale.specs.declared.carried_levels.ExactLevel.{ExactLevel}
use Rattle.hyd_rules_at_scale.specs.Instants.{readings_at}
use Rattle.hyd_rules_at_scale.specs.Quantities.{IsExactly, IsQuantity}
use Rattle.hyd_rules_at_scale.proofs.readings.measured.Goals.{in-Head, in-Pressure, in-Level, in-Flow}
use Rattle.hyd_rules_at_scale.proofs.readings.measured.Goals as goal

pub returns-clause-value : goal.returns-clause-value
returns-clause-value c = λ levels are.
    let instant = c.args.instant.now in
    let project = instant.project.now in
    let S = parts_of instant.scale in
    let readings = readings_at instant levels in
    let of = λ (what : What). IsQuantity c.in_ticks.result (measured project S readings what) in
    elim c.match-what.branch [
      | in-Head w ↦ let x = head_of project S readings w.in-Head.node in
          subst of (sym w.in-Head.is) (c.in_ticks.ensures.value x
          (subst (λ (v : ExactLevel). IsExactly v x) (sym w.value-is) (w.head_of-value.ensures.value levels are)))
      | in-Pressure w ↦ let x = pressure_of project S readings w.in-Pressure.node in
          subst of (sym w.in-Pressure.is) (c.in_ticks.ensures.value x
          (subst (λ (v : ExactLevel). IsExactly v x) (sym w.value-is) (w.pressure_of-value.ensures.value levels are)))
      | in-Level w ↦ let x = level_of readings w.in-Level.tank in
          subst of (sym w.in-Level.is) (c.in_ticks.ensures.value x
          (subst (λ (v : ExactLevel). IsExactly v x) (sym w.value-is) (w.level_of-value.ensures.value levels are)))
      | in-Flow w ↦ let x = whole (pos (slice_index_or readings.flows w.in-Flow.link 0)) in
          subst of (sym w.in-Flow.is) (c.in_ticks.ensures.value x
          (subst (λ (v : ExactLevel). IsExactly v x) (sym w.value-is) (w.flow_of-value.ensures.value levels)))
    ]
