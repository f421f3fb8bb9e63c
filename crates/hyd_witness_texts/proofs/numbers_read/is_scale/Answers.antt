use Rattle.std.proofs.Common.{refl, ◌∙◌, arith}
use Rattle.hyd_witness_texts.proofs.Numerals.{no_power_so_far, next_power, small_power}
use Rattle.hyd_witness_texts.proofs.numbers_read.is_scale.Goals as goal

pub loop-init : goal.loop-init
loop-init c = record { power = refl; none = λ p low. absurd (omega (arith, low)) }

pub overflow_mul-scale : goal.overflow_mul-scale
overflow_mul-scale c =
    let low = small_power c.loop.scale c.loop.counter c.loop.invariant.power (omega arith) in omega (arith, low)

pub loop-preserved : goal.loop-preserved
loop-preserved c = record {
  power = next_power c.loop.scale c.loop.counter c.loop.invariant.power;
  none = no_power_so_far c.args.number c.loop.scale c.loop.counter c.loop.invariant.power c.if-number-scale.false
      c.loop.invariant.none;
}

pub returns-then-number-scale-clause-yes : goal.returns-then-number-scale-clause-yes
returns-then-number-scale-clause-yes c = λ yes. record {
  power = c.loop.counter;
  is_power = c.if-number-scale.true ∙ c.loop.invariant.power;
  at_most = omega arith;
}

pub returns-clause-no : goal.returns-clause-no
returns-clause-no c = λ no is. c.loop.invariant.none is.power (let low = is.at_most in omega (arith, low)) is.is_power
