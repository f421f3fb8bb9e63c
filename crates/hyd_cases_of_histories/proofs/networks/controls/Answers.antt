use Rattle.std.proofs.Common.{◌≡◌, pos, [], arith}
use Rattle.std.proofs.lemmas.Int.{ints}
use Rattle.std.proofs.lemmas.List.Elements.{All-from_recursion}
use Rattle.hyd_net.specs.NetworkRanges.{IsDemand}
use Rattle.hyd_net.specs.ControlsAndRules.{IsControl}
use Rattle.hyd_net.specs.RoundedFileNumbers.{IsStateMade, IsStateAcross}
use Rattle.hyd_cases_of_histories.specs.OneLink.{network_of, junction_of}
use Rattle.hyd_cases_of_histories.proofs.SpurSound.{IsOwnSound, sound}
use Rattle.hyd_cases_of_histories.specs.Timed.{timed_spur}
use Rattle.hyd_cases_of_histories.proofs.networks.controls.Goals as goal

timed_spur_own : IsOwnSound timed_spur
timed_spur_own = record {
  counts = record {
    junctions = omega arith;
    reservoirs = omega arith;
    tanks = omega arith;
    links = omega arith;
    patterns = omega arith;
    multipliers = omega arith;
    shapes = omega arith;
    shape_points = omega arith;
    bends = omega arith;
    bend_points = omega arith;
    demands = omega arith;
    controls = omega arith;
    rules = omega arith;
    parts = omega arith;
  };
  options = record {
    multiplier = record { at_least = omega (arith, ints); at_most = omega (arith, ints) };
    minimum = record { not_negative = omega (arith, ints); at_most = omega (arith, ints) };
    required = record { not_negative = omega (arith, ints); at_most = omega (arith, ints) };
    apart = λ e. omega (arith, ints);
    default_pattern = tt;
  };
  junction = record {
    elevation = record { at_least = omega (arith, ints); at_most = omega (arith, ints) };
    demands = All-from_recursion (IsDemand []) (junction_of timed_spur).demands.list
        (record { base = record { at_least = omega (arith, ints); at_most = omega (arith, ints) }; pattern = tt }, tt);
    emitter = tt;
  };
  head = record { at_least = omega (arith, ints); at_most = omega (arith, ints) };
  sizes = tt;
  state = tt;
  controls = All-from_recursion (IsControl (network_of timed_spur)) timed_spur.controls (
    record {
      command = record { in_range = omega arith; holds = λ d. tt };
      moment = omega arith;
    },
    (
      record {
        command = record { in_range = omega arith; holds = λ d. tt };
        moment = omega arith;
      },
      tt,
    ),
  );
  duration = omega arith;
  start_clock = omega arith;
  emitter_made = tt;
  kind_made = tt;
  start_made = tt;
  states_made = All-from_recursion (λ c. IsStateMade timed_spur.unit c.to) timed_spur.controls (tt, (tt, tt));
  kind_across = tt;
  start_across = tt;
  states_across = All-from_recursion (λ c. c.link ≡ 0
      → IsStateAcross (pos 0) c.to) timed_spur.controls (λ e. tt, (λ e. tt, tt));
}

pub returns : goal.returns
returns c = sound timed_spur timed_spur_own
