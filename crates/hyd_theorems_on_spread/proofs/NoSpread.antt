-- No spread is a spread of each sound network, and lies inside each.
use Rattle.std.proofs.Common.{arith}
use Rattle.std.proofs.lemmas.Int.{ints}
use Rattle.hyd_net.specs.Sound.{IsSound}
use Rattle.hyd_spec.specs.ProgramTypes.{Project}
use Rattle.hyd_spec_spread.specs.Spreads.{Spread, IsSpread, IsInside, no_spread}
use Rattle.hyd_theorems_on_definitions.proofs.SoundTankLemmas.{sound_tank}

pub none-is-spread : (project : Project) → IsSound project → IsSpread project no_spread
none-is-spread project sound = record {
  demands = λ j. record { least = omega arith; greatest = omega arith };
  emitters = λ j. record { least = omega arith; greatest = omega arith };
  heads = λ r. record { low = omega (arith, ints); high = omega (arith, ints) };
  levels = λ k tank at.
      let range = (sound_tank project sound k tank at).ranges.initial in
      record {
        above_least = range.at_least;
        own = record { low = omega (arith, ints); high = omega (arith, ints) };
        below_most = range.at_most;
      };
}

pub none-is-inside : (project : Project) (spread : Spread) → IsSpread project spread → IsInside project no_spread spread
none-is-inside project spread is = record {
  demands = λ j. record { least = (is.demands j).least; greatest = (is.demands j).greatest };
  emitters = λ j. record { least = (is.emitters j).least; greatest = (is.emitters j).greatest };
  heads = λ r. record { low = (is.heads r).low; high = (is.heads r).high };
  levels = λ k tank at. record { low = (is.levels k tank at).own.low; high = (is.levels k tank at).own.high };
}
