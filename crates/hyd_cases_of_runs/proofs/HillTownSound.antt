-- The hill town is a network that a file can stand for.
use Rattle.std.proofs.Common.{◌≡◌, ◌≢◌, ℕ, zero, suc, ◌<◌, ◌^◌, pos, false, List, [], ◌∷◌, refl, arith, lit≤, lit<}
use Rattle.std.specs.Prelude.{codes}
use Rattle.std.specs.List.{All, HoldsAt}
use Rattle.std.proofs.lemmas.Int.{ints}
use Rattle.std.proofs.lemmas.List.Elements.{All-from_recursion}
use Rattle.std.proofs.lemmas.List.Kept.{AllPairs-cons}
use Rattle.hyd_num.specs.CapacityPairs.{IsMade}
use Rattle.hyd_net.specs.Ids.{IsId}
use Rattle.hyd_net.specs.Curves.{IsVolumeCurve}
use Rattle.hyd_net.specs.NumberRanges.{Lies, IsHead}
use Rattle.hyd_net.specs.Sound.{HasIds, HasEnds, IsPattern, IsSound}
use Rattle.hyd_net.specs.NetworkRanges.{IsJunction, IsDemand, IsReservoir, IsTank, IsShapeOf, HasSizes, HasQuantities}
use Rattle.hyd_net.specs.LinkStates.{CanHave}
use Rattle.hyd_net.specs.ControlsAndRules.{node_count, IsControl, IsClause, CanCommand, IsRule}
use Rattle.hyd_net.specs.RoundedFileNumbers.{IsAreaMade, IsKindMade, IsStateMade, IsValueMade, IsRuleMade, IsKindAcross}
use Rattle.hyd_net.specs.RoundedFileNumbers.{IsStateAcross, IsAcross, IsAllMade}
use Rattle.hyd_spec.specs.ProgramTypes.{Cmd, VolumePoint}
use Rattle.std.specs.Option.{IfSome}
use Rattle.hyd_lemmas.proofs.BooleanTests.{le-yes}
use Rattle.hyd_lemmas.proofs.ListsOptionsAndResults.{differ}
use Rattle.hyd_cases_of_histories.proofs.RoundPairs.{ratio, hole_made, pump_made}
use Rattle.hyd_cases_of_histories.proofs.PipeMade.{one, thousand, made_of}
use Rattle.hyd_cases_of_runs.specs.HillTown.{hill_town, hill, pool, stopping, metric_pipe}
use Rattle.hyd_cases_of_runs.proofs.VillageSound.{nothing}
use Rattle.hyd_cases_of_runs.proofs.BasinSound.{three-rise}

-- ---- capacities

pub metric_pipe_made : IsMade metric_pipe
metric_pipe_made = made_of (record { nano = pos 304800000000; bounded = lit≤ tt })
    (record { nano = pos 304800000000; bounded = lit≤ tt }) false (ratio _ _ thousand (lit< tt) refl)
    (ratio _ _ one (lit< tt) refl)

-- ---- IDs

ids : HasIds hill_town
ids = record {
  each_node = refl;
  each_link = refl;
  distinct_nodes =
      AllPairs-cons (λ a b. a ≢ b) (codes "Hill") (codes "Lake" ∷ codes "Pool" ∷ [])
      (All-from_recursion (λ b. codes "Hill" ≢ b) (codes "Lake" ∷ codes "Pool" ∷ [])
      (differ _ _ (λ e. omega (arith, e)), (differ _ _ (λ e. omega (arith, e)), tt)))
      (AllPairs-cons (λ a b. a ≢ b) (codes "Lake") (codes "Pool" ∷ [])
      (All-from_recursion (λ b. codes "Lake" ≢ b) (codes "Pool" ∷ []) (differ _ _ (λ e. omega (arith, e)), tt))
      (AllPairs-cons (λ a b. a ≢ b) (codes "Pool") [] (All-from_recursion (λ b. codes "Pool" ≢ b) [] tt) nothing));
  distinct_links =
      AllPairs-cons (λ a b. a ≢ b) (codes "Rise") (codes "Back" ∷ codes "Lift" ∷ [])
      (All-from_recursion (λ b. codes "Rise" ≢ b) (codes "Back" ∷ codes "Lift" ∷ [])
      (differ _ _ (λ e. omega (arith, e)), (differ _ _ (λ e. omega (arith, e)), tt)))
      (AllPairs-cons (λ a b. a ≢ b) (codes "Back") (codes "Lift" ∷ [])
      (All-from_recursion (λ b. codes "Back" ≢ b) (codes "Lift" ∷ []) (differ _ _ (λ e. omega (arith, e)), tt))
      (AllPairs-cons (λ a b. a ≢ b) (codes "Lift") [] (All-from_recursion (λ b. codes "Lift" ≢ b) [] tt) nothing));
  node_ids = All-from_recursion IsId hill_town.node_ids
      ((omega arith, omega arith), ((omega arith, omega arith), ((omega arith, omega arith), tt)));
  link_ids = All-from_recursion IsId hill_town.link_ids
      ((omega arith, omega arith), ((omega arith, omega arith), ((omega arith, omega arith), tt)));
}

-- ---- the curve

abbrev points : List VolumePoint
points = record { level = pos 0; volume = pos 0 }
    ∷ record { level = pos 40000000000000; volume = pos 8000000000 }
    ∷ record { level = pos 50000000000000; volume = pos 12000000000 }
    ∷ []

is_curve : IsVolumeCurve points
is_curve = record {
  two = omega arith;
  levels = All-from_recursion (λ (p : VolumePoint). IsHead p.level) points (
    record { at_least = omega (arith, ints); at_most = omega (arith, ints) },
    (
      record { at_least = omega (arith, ints); at_most = omega (arith, ints) },
      (record { at_least = omega (arith, ints); at_most = omega (arith, ints) }, tt),
    ),
  );
  volumes = All-from_recursion (λ (p : VolumePoint). Lies (pos 0) (pos (10 ^ 18)) p.volume) points (
    record { at_least = omega (arith, ints); at_most = omega (arith, ints) },
    (
      record { at_least = omega (arith, ints); at_most = omega (arith, ints) },
      (record { at_least = omega (arith, ints); at_most = omega (arith, ints) }, tt),
    ),
  );
  levels_rise = three-rise _ _ _ (omega (arith, ints)) (omega (arith, ints)) (omega (arith, ints));
  volumes_rise = three-rise _ _ _ (omega (arith, ints)) (omega (arith, ints)) (omega (arith, ints));
}

is_shape : IsShapeOf pool points
is_shape = record {
  curve = is_curve;
  from_minimum = λ d. omega (arith, ints);
  to_maximum = λ d. omega (arith, ints);
  apart = le-yes _ _ refl;
}

-- ---- parts

quantities : HasQuantities hill_town
quantities = record {
  options = record {
    multiplier = record { at_least = omega (arith, ints); at_most = omega (arith, ints) };
    minimum = record { not_negative = omega (arith, ints); at_most = omega (arith, ints) };
    required = record { not_negative = omega (arith, ints); at_most = omega (arith, ints) };
    apart = λ e. omega (arith, ints);
    default_pattern = tt;
  };
  junctions = All-from_recursion (IsJunction Cmd []) hill_town.junctions.list (
    record {
      elevation = record { at_least = omega (arith, ints); at_most = omega (arith, ints) };
      demands = All-from_recursion (IsDemand []) hill.demands.list (
        record { base = record { at_least = omega (arith, ints); at_most = omega (arith, ints) }; pattern = tt },
        tt,
      );
      emitter = record {
        range = record { at_least = omega (arith, ints); at_most = omega (arith, ints) };
        same_unit = refl;
      };
    },
    tt,
  );
  reservoirs = All-from_recursion (IsReservoir []) hill_town.reservoirs.list
      (record { head = record { at_least = omega (arith, ints); at_most = omega (arith, ints) }; pattern = tt }, tt);
  tanks = All-from_recursion (IsTank hill_town.shapes.list) hill_town.tanks.list (
    record {
      bottom = record { at_least = omega (arith, ints); at_most = omega (arith, ints) };
      lowest = omega (arith, ints);
      initial = record { at_least = omega (arith, ints); at_most = omega (arith, ints) };
      apart = omega (arith, ints);
      top = record { at_least = omega (arith, ints); at_most = omega (arith, ints) };
      diameter = record { at_least = omega (arith, ints); at_most = omega (arith, ints) };
      shape = record { in_range = omega arith; holds = λ d. is_shape };
    },
    tt,
  );
  links = All-from_recursion (λ l. HasSizes Cmd [] [] l.kind) hill_town.links.list (
    record {
      long = record { at_least = omega (arith, ints); at_most = omega (arith, ints) };
      across = record { at_least = omega (arith, ints); at_most = omega (arith, ints) };
      rough = record { at_least = omega (arith, ints); at_most = omega (arith, ints) };
      fittings = record { at_least = omega (arith, ints); at_most = omega (arith, ints) };
      same_system = refl;
    },
    (
      record {
        long = record { at_least = omega (arith, ints); at_most = omega (arith, ints) };
        across = record { at_least = omega (arith, ints); at_most = omega (arith, ints) };
        rough = record { at_least = omega (arith, ints); at_most = omega (arith, ints) };
        fittings = record { at_least = omega (arith, ints); at_most = omega (arith, ints) };
        same_system = refl;
      },
      (
        (
          (
            record {
              flows = omega (arith, ints);
              flow_range = record { at_least = omega (arith, ints); at_most = omega (arith, ints) };
              drops = omega (arith, ints);
              same_unit = refl;
            },
            record { above = omega (arith, ints); lost = refl; in_thirds = refl; range = omega (arith, ints) },
          ),
          tt,
        ),
        tt,
      ),
    ),
  );
}

across : (number : ℕ) → number < 3 → IsAcross hill_town number (pos 0)
across number below = record {
  link = link number below;
  controls = All-from_recursion (λ c. c.link ≡ number → IsStateAcross (pos 0) c.to) hill_town.controls.list
      (λ e. tt, tt);
  yes = All-from_recursion (λ r. All (λ a. a.link ≡ number → IsStateAcross (pos 0) a.to) r.yes.list)
      hill_town.rules.list (
        All-from_recursion (λ a. a.link ≡ number → IsStateAcross (pos 0) a.to) stopping.yes.list (λ e. tt, tt),
        tt,
      );
  no = All-from_recursion (λ r. All (λ a. a.link ≡ number → IsStateAcross (pos 0) a.to) r.no.list)
      hill_town.rules.list (
        All-from_recursion (λ a. a.link ≡ number → IsStateAcross (pos 0) a.to) stopping.no.list tt,
        tt,
      );
}
  where
    link : (n : ℕ) → n < 3 → HoldsAt (λ l. IsKindAcross (pos 0) l.kind × IsStateAcross (pos 0) l.start)
        hill_town.links.list n
    link zero le d = (tt, tt)
    link (suc zero) le d = (tt, tt)
    link (suc (suc zero)) le d = (tt, tt)
    link (suc (suc (suc n))) le d = absurd (omega (arith, le))

made : IsAllMade hill_town
made = record {
  emitters = All-from_recursion (λ j. IfSome j.emitter IsMade) hill_town.junctions.list (hole_made, tt);
  areas = All-from_recursion (IsAreaMade Cmd) hill_town.tanks.list
      (record { at_most = omega (arith, ints); greatest = λ k le. omega (arith, ints, le) }, tt);
  links = All-from_recursion (λ l. IsKindMade Cmd l.kind) hill_town.links.list (
    metric_pipe_made,
    (
      metric_pipe_made,
      (
        (
          pump_made,
          record {
            floor = record { at_most = omega (arith, ints); greatest = λ k le. omega (arith, ints, le) };
            ceiling = record { at_least = omega (arith, ints); least = λ k le. omega (arith, ints, le) };
          },
        ),
        tt,
      ),
    ),
  );
  starts = All-from_recursion (λ l. IsStateMade Cmd l.start) hill_town.links.list (tt, (tt, (tt, tt)));
  controls = All-from_recursion (λ c. IsStateMade Cmd c.to) hill_town.controls.list (tt, tt);
  rules = All-from_recursion (IsRuleMade Cmd) hill_town.rules.list (
    record {
      clauses = All-from_recursion (λ c. IsValueMade Cmd c.clause.what c.clause.value) stopping.clauses.list
          (record { low = refl; high = refl }, tt);
      yes = All-from_recursion (λ a. IsStateMade Cmd a.to) stopping.yes.list (tt, tt);
      no = All-from_recursion (λ a. IsStateMade Cmd a.to) stopping.no.list tt;
    },
    tt,
  );
  diameters = λ number below. (pos 0, across number below);
}

pub sound : IsSound hill_town
sound = record {
  ids = ids;
  counts = record {
    junctions = omega arith;
    reservoirs = omega arith;
    tanks = omega arith;
    links = omega arith;
    patterns = omega arith;
    multipliers = omega arith;
    shapes = omega arith;
    shape_points = omega arith;
    bends = omega arith;
    bend_points = omega arith;
    demands = omega arith;
    controls = omega arith;
    rules = omega arith;
    parts = omega arith;
  };
  links = All-from_recursion (HasEnds (node_count hill_town)) hill_town.links.list (
    record { from_node = omega arith; to_node = omega arith; apart = λ e. omega (arith, e) },
    (
      record { from_node = omega arith; to_node = omega arith; apart = λ e. omega (arith, e) },
      (record { from_node = omega arith; to_node = omega arith; apart = λ e. omega (arith, e) }, tt),
    ),
  );
  states = All-from_recursion (λ l. CanHave l.kind l.start) hill_town.links.list
      (tt, (tt, (record { at_least = omega (arith, ints); at_most = omega (arith, ints) }, tt)));
  quantities = quantities;
  patterns = All-from_recursion IsPattern [] tt;
  controls = All-from_recursion (IsControl hill_town) hill_town.controls.list (
    record {
      command = record {
        in_range = omega arith;
        holds = λ d. record { at_least = omega (arith, ints); at_most = omega (arith, ints) };
      };
      moment = (omega arith, record { at_least = omega (arith, ints); at_most = omega (arith, ints) });
    },
    tt,
  );
  rules = All-from_recursion (IsRule hill_town) hill_town.rules.list (
    record {
      id = (omega arith, omega arith);
      clauses = All-from_recursion (λ c. IsClause hill_town c.clause) stopping.clauses.list
          (record { what = omega arith; relation = tt; value = tt }, tt);
      yes = All-from_recursion (λ a. CanCommand hill_town a.link a.to) stopping.yes.list
          (record { in_range = omega arith; holds = λ d. tt }, tt);
      no = All-from_recursion (λ a. CanCommand hill_town a.link a.to) stopping.no.list tt;
      priority = tt;
    },
    tt,
  );
  times = record {
    duration = omega arith;
    hydraulic = omega arith;
    within_pattern = omega arith;
    within_report = omega arith;
    pattern = omega arith;
    pattern_start = omega arith;
    report = omega arith;
    report_start = omega arith;
    start_clock = omega arith;
    rule = omega arith;
    within_hydraulic = omega arith;
  };
  made = made;
}
