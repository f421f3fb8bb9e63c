use Rattle.std.proofs.Common.{inl, refl, arith}
use Rattle.hyd_laws_at_scale.specs.Scales.{parts_of}
use Rattle.hyd_length_at_scale.specs.MetPeriods.{told}
use Rattle.hyd_length_at_scale.proofs.LeastEnd.{least_end_is, end_within}
use Rattle.hyd_length_at_scale.proofs.ends.least_end.Goals as goal

pub overflow_add-start : goal.overflow_add-start
overflow_add-start c =
    let sooner = c.first_by_levels-seconds.ensures.least _ (inl refl) in
    let later = c.clock_end-clock.ensures.later in
    let within = c.clock_end-clock.ensures.within in
    let most = c.requires.period.sound.times.duration in
    omega (arith, sooner, later, within, most)

pub first_by_rules-requires-clause-cap : goal.first_by_rules-requires-clause-cap
first_by_rules-requires-clause-cap c =
    let sooner = c.first_by_levels-seconds.ensures.least _ (inl refl) in
    let later = c.clock_end-clock.ensures.later in
    let within = c.clock_end-clock.ensures.within in
    omega (arith, sooner, later, within)

pub returns-clause-least : goal.returns-clause-least
returns-clause-least c =
    let period = c.args.period.now in
    least_end_is period.project.now (parts_of period.scale) (told period) c.clock_end-clock.result
    c.first_by_levels-seconds.result c.first_by_rules.result c.clock_end-clock.ensures.least
    c.clock_end-clock.ensures.later c.first_by_levels-seconds.ensures c.first_by_rules.ensures.first

pub returns-clause-within : goal.returns-clause-within
returns-clause-within c =
    let period = c.args.period.now in
    end_within period.project.now (parts_of period.scale) (told period) c.clock_end-clock.result
    c.first_by_levels-seconds.result c.first_by_rules.result c.clock_end-clock.ensures.least
    c.clock_end-clock.ensures.later c.first_by_levels-seconds.ensures c.first_by_rules.ensures.first
    period.project.now.times.duration c.clock_end-clock.ensures.within
