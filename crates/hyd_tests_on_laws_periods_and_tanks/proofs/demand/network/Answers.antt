use Rattle.std.proofs.Common.{pos, None, refl}
use Rattle.hyd_tests_on_laws_periods_and_tanks.proofs.SmallNetwork.{sound_of}
use Rattle.hyd_tests_on_laws_periods_and_tanks.proofs.demand.network.Goals as goal

pub returns-clause-sound : goal.returns-clause-sound
returns-clause-sound c =
    sound_of _ (record {
      elevation = pos 0;
      demands = c.in_ok-two-3.field-0;
      emitter = None;
    }) (record { multipliers = c.in_ok-two.field-0 })
    (record { multipliers = c.in_ok-two-2.field-0 }) (record {
      cmd = c.options.ensures.unit;
      given = c.options.ensures.given;
      minimum = c.options.ensures.minimum;
      required = c.options.ensures.required;
      multiplier = c.options.ensures.multiplier;
      default = c.options.ensures.pattern;
      times = refl;
      nodes = c.in_ok-names.ensures;
      link_ids = c.new.ensures.empty;
      junctions = c.in_ok-one.ensures;
      elevation = refl;
      emitter = refl;
      demands = c.in_ok-two-3.ensures;
      reservoirs = c.in_ok-one-2.ensures;
      tanks = c.new-2.ensures.empty;
      links = c.new-3.ensures.empty;
      patterns = c.in_ok-two-4.ensures;
      first = c.in_ok-two.ensures;
      second = c.in_ok-two-2.ensures;
      shapes = c.new-4.ensures.empty;
      bends = c.new-5.ensures.empty;
      controls = c.new-6.ensures.empty;
      rules = c.new-7.ensures.empty;
    })
