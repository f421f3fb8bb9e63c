use Rattle.std.proofs.Common.{◌≡◌, pos, [], refl, arith}
use Rattle.std.proofs.lemmas.Int.{ints}
use Rattle.std.proofs.lemmas.List.Elements.{All-from_recursion}
use Rattle.hyd_net.specs.NetworkRanges.{IsDemand}
use Rattle.hyd_net.specs.ControlsAndRules.{IsControl}
use Rattle.hyd_net.specs.RoundedFileNumbers.{IsStateMade, IsStateAcross}
use Rattle.hyd_cases_of_histories.specs.OneLink.{network_of, junction_of}
use Rattle.hyd_cases_of_histories.proofs.SpurSound.{IsOwnSound, sound}
use Rattle.hyd_cases_of_histories.specs.Spurs.{pipe_spur, check_spur, pump_spur, setting_spur}
use Rattle.hyd_cases_of_histories.proofs.RoundPairs.{pump_made}
use Rattle.hyd_cases_of_histories.proofs.PipeMade.{pipe_made}
use Rattle.hyd_cases_of_histories.proofs.networks.links.Goals as goal

pipe_spur_own : IsOwnSound pipe_spur
pipe_spur_own = record {
  counts = record {
    junctions = omega arith;
    reservoirs = omega arith;
    tanks = omega arith;
    links = omega arith;
    patterns = omega arith;
    multipliers = omega arith;
    shapes = omega arith;
    shape_points = omega arith;
    bends = omega arith;
    bend_points = omega arith;
    demands = omega arith;
    controls = omega arith;
    rules = omega arith;
    parts = omega arith;
  };
  options = record {
    multiplier = record { at_least = omega (arith, ints); at_most = omega (arith, ints) };
    minimum = record { not_negative = omega (arith, ints); at_most = omega (arith, ints) };
    required = record { not_negative = omega (arith, ints); at_most = omega (arith, ints) };
    apart = λ e. omega (arith, ints);
    default_pattern = tt;
  };
  junction = record {
    elevation = record { at_least = omega (arith, ints); at_most = omega (arith, ints) };
    demands = All-from_recursion (IsDemand []) (junction_of pipe_spur).demands.list
        (record { base = record { at_least = omega (arith, ints); at_most = omega (arith, ints) }; pattern = tt }, tt);
    emitter = tt;
  };
  head = record { at_least = omega (arith, ints); at_most = omega (arith, ints) };
  sizes = record {
    long = record { at_least = omega (arith, ints); at_most = omega (arith, ints) };
    across = record { at_least = omega (arith, ints); at_most = omega (arith, ints) };
    rough = record { at_least = omega (arith, ints); at_most = omega (arith, ints) };
    fittings = record { at_least = omega (arith, ints); at_most = omega (arith, ints) };
    same_system = refl;
  };
  state = tt;
  controls = All-from_recursion (IsControl (network_of pipe_spur)) [] tt;
  duration = omega arith;
  start_clock = omega arith;
  emitter_made = tt;
  kind_made = pipe_made;
  start_made = tt;
  states_made = All-from_recursion (λ c. IsStateMade pipe_spur.unit c.to) [] tt;
  kind_across = tt;
  start_across = tt;
  states_across = All-from_recursion (λ c. c.link ≡ 0 → IsStateAcross (pos 0) c.to) [] tt;
}

check_spur_own : IsOwnSound check_spur
check_spur_own = record {
  counts = record {
    junctions = omega arith;
    reservoirs = omega arith;
    tanks = omega arith;
    links = omega arith;
    patterns = omega arith;
    multipliers = omega arith;
    shapes = omega arith;
    shape_points = omega arith;
    bends = omega arith;
    bend_points = omega arith;
    demands = omega arith;
    controls = omega arith;
    rules = omega arith;
    parts = omega arith;
  };
  options = record {
    multiplier = record { at_least = omega (arith, ints); at_most = omega (arith, ints) };
    minimum = record { not_negative = omega (arith, ints); at_most = omega (arith, ints) };
    required = record { not_negative = omega (arith, ints); at_most = omega (arith, ints) };
    apart = λ e. omega (arith, ints);
    default_pattern = tt;
  };
  junction = record {
    elevation = record { at_least = omega (arith, ints); at_most = omega (arith, ints) };
    demands = All-from_recursion (IsDemand []) (junction_of check_spur).demands.list
        (record { base = record { at_least = omega (arith, ints); at_most = omega (arith, ints) }; pattern = tt }, tt);
    emitter = tt;
  };
  head = record { at_least = omega (arith, ints); at_most = omega (arith, ints) };
  sizes = record {
    long = record { at_least = omega (arith, ints); at_most = omega (arith, ints) };
    across = record { at_least = omega (arith, ints); at_most = omega (arith, ints) };
    rough = record { at_least = omega (arith, ints); at_most = omega (arith, ints) };
    fittings = record { at_least = omega (arith, ints); at_most = omega (arith, ints) };
    same_system = refl;
  };
  state = tt;
  controls = All-from_recursion (IsControl (network_of check_spur)) [] tt;
  duration = omega arith;
  start_clock = omega arith;
  emitter_made = tt;
  kind_made = pipe_made;
  start_made = tt;
  states_made = All-from_recursion (λ c. IsStateMade check_spur.unit c.to) [] tt;
  kind_across = tt;
  start_across = tt;
  states_across = All-from_recursion (λ c. c.link ≡ 0 → IsStateAcross (pos 0) c.to) [] tt;
}

pump_spur_own : IsOwnSound pump_spur
pump_spur_own = record {
  counts = record {
    junctions = omega arith;
    reservoirs = omega arith;
    tanks = omega arith;
    links = omega arith;
    patterns = omega arith;
    multipliers = omega arith;
    shapes = omega arith;
    shape_points = omega arith;
    bends = omega arith;
    bend_points = omega arith;
    demands = omega arith;
    controls = omega arith;
    rules = omega arith;
    parts = omega arith;
  };
  options = record {
    multiplier = record { at_least = omega (arith, ints); at_most = omega (arith, ints) };
    minimum = record { not_negative = omega (arith, ints); at_most = omega (arith, ints) };
    required = record { not_negative = omega (arith, ints); at_most = omega (arith, ints) };
    apart = λ e. omega (arith, ints);
    default_pattern = tt;
  };
  junction = record {
    elevation = record { at_least = omega (arith, ints); at_most = omega (arith, ints) };
    demands = All-from_recursion (IsDemand []) (junction_of pump_spur).demands.list
        (record { base = record { at_least = omega (arith, ints); at_most = omega (arith, ints) }; pattern = tt }, tt);
    emitter = tt;
  };
  head = record { at_least = omega (arith, ints); at_most = omega (arith, ints) };
  sizes = (
    (
      record {
        flows = omega (arith, ints);
        flow_range = record {
          at_least = omega (arith, ints);
          at_most = omega (arith, ints);
        };
        drops = omega (arith, ints);
        same_unit = refl;
      },
      record {
        above = omega (arith, ints);
        lost = refl;
        in_thirds = refl;
        range = omega (arith, ints);
      },
    ),
    tt,
  );
  state = record { at_least = omega (arith, ints); at_most = omega (arith, ints) };
  controls = All-from_recursion (IsControl (network_of pump_spur)) [] tt;
  duration = omega arith;
  start_clock = omega arith;
  emitter_made = tt;
  kind_made = (
    pump_made,
    record {
      floor = record {
        at_most = omega (arith, ints);
        greatest = λ k le. omega (arith, ints, le);
      };
      ceiling = record {
        at_least = omega (arith, ints);
        least = λ k le. omega (arith, ints, le);
      };
    },
  );
  start_made = tt;
  states_made = All-from_recursion (λ c. IsStateMade pump_spur.unit c.to) [] tt;
  kind_across = tt;
  start_across = tt;
  states_across = All-from_recursion (λ c. c.link ≡ 0 → IsStateAcross (pos 0) c.to) [] tt;
}

setting_spur_own : IsOwnSound setting_spur
setting_spur_own = record {
  counts = record {
    junctions = omega arith;
    reservoirs = omega arith;
    tanks = omega arith;
    links = omega arith;
    patterns = omega arith;
    multipliers = omega arith;
    shapes = omega arith;
    shape_points = omega arith;
    bends = omega arith;
    bend_points = omega arith;
    demands = omega arith;
    controls = omega arith;
    rules = omega arith;
    parts = omega arith;
  };
  options = record {
    multiplier = record { at_least = omega (arith, ints); at_most = omega (arith, ints) };
    minimum = record { not_negative = omega (arith, ints); at_most = omega (arith, ints) };
    required = record { not_negative = omega (arith, ints); at_most = omega (arith, ints) };
    apart = λ e. omega (arith, ints);
    default_pattern = tt;
  };
  junction = record {
    elevation = record { at_least = omega (arith, ints); at_most = omega (arith, ints) };
    demands = All-from_recursion (IsDemand []) (junction_of setting_spur).demands.list
        (record { base = record { at_least = omega (arith, ints); at_most = omega (arith, ints) }; pattern = tt }, tt);
    emitter = tt;
  };
  head = record { at_least = omega (arith, ints); at_most = omega (arith, ints) };
  sizes = tt;
  state = record {
    not_negative = omega (arith, ints);
    flow = record {
      at_least = omega (arith, ints);
      at_most = omega (arith, ints);
    };
  };
  controls = All-from_recursion (IsControl (network_of setting_spur)) [] tt;
  duration = omega arith;
  start_clock = omega arith;
  emitter_made = tt;
  kind_made = tt;
  start_made = refl;
  states_made = All-from_recursion (λ c. IsStateMade setting_spur.unit c.to) [] tt;
  kind_across = tt;
  start_across = tt;
  states_across = All-from_recursion (λ c. c.link ≡ 0 → IsStateAcross (pos 0) c.to) [] tt;
}

pub returns-clause-pipe : goal.returns-clause-pipe
returns-clause-pipe c = sound pipe_spur pipe_spur_own

pub returns-clause-check_valve : goal.returns-clause-check_valve
returns-clause-check_valve c = sound check_spur check_spur_own

pub returns-clause-pump : goal.returns-clause-pump
returns-clause-pump c = sound pump_spur pump_spur_own

pub returns-clause-control_valve : goal.returns-clause-control_valve
returns-clause-control_valve c = sound setting_spur setting_spur_own
