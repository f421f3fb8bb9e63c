-- The basins are networks that a file can stand for.
use Rattle.std.proofs.Common.{◌≡◌, ◌≢◌, ℕ, zero, suc, ◌<◌, ◌≤◌, ◌^◌, ℤ, pos, ◌<ℤ◌, List, [], ◌∷◌, length, refl, arith}
use Rattle.std.specs.Prelude.{codes, sum_by}
use Rattle.std.specs.List.{All, HoldsAt}
use Rattle.std.proofs.lemmas.Int.{ints}
use Rattle.std.proofs.lemmas.List.Elements.{All-from_recursion}
use Rattle.std.proofs.lemmas.List.Kept.{AllPairs-cons}
use Rattle.hyd_net.specs.ListView.{ListView}
use Rattle.hyd_net.specs.Ids.{IsId}
use Rattle.hyd_net.specs.Curves.{AreRising, IsVolumeCurve}
use Rattle.hyd_net.specs.NumberRanges.{Lies, IsHead}
use Rattle.hyd_net.specs.Sound.{HasIds, HasEnds, IsPattern, IsSound}
use Rattle.hyd_net.specs.NetworkRanges.{IsJunction, IsReservoir, IsTank, IsShapeOf, HasSizes, HasQuantities}
use Rattle.hyd_net.specs.LinkStates.{CanHave}
use Rattle.hyd_net.specs.ControlsAndRules.{node_count, IsControl, IsRule}
use Rattle.hyd_net.specs.RoundedFileNumbers.{IsAreaMade, IsKindMade, IsStateMade, IsRuleMade, IsKindAcross}
use Rattle.hyd_net.specs.RoundedFileNumbers.{IsStateAcross, IsAcross, IsAllMade}
use Rattle.hyd_spec.specs.ProgramTypes.{Cmd, VolumePoint}
use Rattle.hyd_num.specs.CapacityPairs.{IsMade}
use Rattle.std.specs.Option.{IfSome}
use Rattle.hyd_lemmas.proofs.BooleanTests.{le-yes}
use Rattle.hyd_cases_of_runs.specs.Basin.{Basin, basin_network, feed, open_to, curved, spilling}
use Rattle.hyd_lemmas.proofs.ListsOptionsAndResults.{differ}
use Rattle.hyd_cases_of_runs.proofs.VillageSound.{nothing}

module _ (basin : Basin) where
  ids : HasIds (basin_network basin)
  ids = record {
    each_node = refl;
    each_link = refl;
    distinct_nodes =
        AllPairs-cons (λ a b. a ≢ b) (codes "Lake") (codes "Pool" ∷ [])
        (All-from_recursion (λ b. codes "Lake" ≢ b) (codes "Pool" ∷ []) (differ _ _ (λ e. omega (arith, e)), tt))
        (AllPairs-cons (λ a b. a ≢ b) (codes "Pool") [] (All-from_recursion (λ b. codes "Pool" ≢ b) [] tt) nothing);
    distinct_links = AllPairs-cons (λ a b. a ≢ b) (codes "Feed") [] (All-from_recursion (λ b. codes "Feed" ≢ b) [] tt)
        nothing;
    node_ids = All-from_recursion IsId (basin_network basin).node_ids
        ((omega arith, omega arith), ((omega arith, omega arith), tt));
    link_ids = All-from_recursion IsId (basin_network basin).link_ids ((omega arith, omega arith), tt);
  }

  quantities : IsTank basin.shapes basin.tank → HasQuantities (basin_network basin)
  quantities tank = record {
    options = record {
      multiplier = record { at_least = omega (arith, ints); at_most = omega (arith, ints) };
      minimum = record { not_negative = omega (arith, ints); at_most = omega (arith, ints) };
      required = record { not_negative = omega (arith, ints); at_most = omega (arith, ints) };
      apart = λ e. absurd (cc);
      default_pattern = tt;
    };
    junctions = All-from_recursion (IsJunction Cmd []) [] tt;
    reservoirs = All-from_recursion (IsReservoir []) (basin_network basin).reservoirs.list (
      record {
        head = record {
          at_least = omega (arith, ints);
          at_most = omega (arith, ints);
        };
        pattern = tt;
      },
      tt,
    );
    tanks = All-from_recursion (IsTank basin.shapes) (basin_network basin).tanks.list (tank, tt);
    links = All-from_recursion (λ l. HasSizes Cmd [] [] l.kind) (basin_network basin).links.list (tt, tt);
  }

  across : (number : ℕ) → number < 1 → IsAcross (basin_network basin) number (pos 0)
  across number below = record {
    link = link number below;
    controls = All-from_recursion (λ c. c.link ≡ number → IsStateAcross (pos 0) c.to) [] tt;
    yes = All-from_recursion (λ r. All (λ a. a.link ≡ number → IsStateAcross (pos 0) a.to) r.yes.list) [] tt;
    no = All-from_recursion (λ r. All (λ a. a.link ≡ number → IsStateAcross (pos 0) a.to) r.no.list) [] tt;
  }
    where
      link : (n : ℕ) → n < 1 → HoldsAt (λ l. IsKindAcross (pos 0) l.kind × IsStateAcross (pos 0) l.start)
          (basin_network basin).links.list n
      link zero le d = (tt, tt)
      link (suc n) le d = absurd (omega (arith, le))

  made : IsAreaMade Cmd basin.tank → IsStateMade Cmd (open_to basin) → IsAllMade (basin_network basin)
  made area state = record {
    emitters = All-from_recursion (λ j. IfSome j.emitter IsMade) [] tt;
    areas = All-from_recursion (IsAreaMade Cmd) (basin_network basin).tanks.list (area, tt);
    links = All-from_recursion (λ l. IsKindMade Cmd l.kind) (basin_network basin).links.list (tt, tt);
    starts = All-from_recursion (λ l. IsStateMade Cmd l.start) (basin_network basin).links.list (state, tt);
    controls = All-from_recursion (λ c. IsStateMade Cmd c.to) [] tt;
    rules = All-from_recursion (IsRuleMade Cmd) [] tt;
    diameters = λ number below. (pos 0, across number below);
  }

  sound_basin : basin.duration ≤ 10 ^ 8 → length basin.shapes ≤ 1000
      → sum_by (λ (shape : ListView VolumePoint). length shape.list) basin.shapes ≤ 100000
      → IsTank basin.shapes basin.tank → IsAreaMade Cmd basin.tank → IsStateMade Cmd (open_to basin)
      → CanHave (feed basin).kind (open_to basin) → IsSound (basin_network basin)
  sound_basin long few short tank area state can = record {
    ids = ids;
    counts = record {
      junctions = omega arith;
      reservoirs = omega arith;
      tanks = omega arith;
      links = omega arith;
      patterns = omega arith;
      multipliers = omega arith;
      shapes = few;
      shape_points = short;
      bends = omega arith;
      bend_points = omega arith;
      demands = omega arith;
      controls = omega arith;
      rules = omega arith;
      parts = omega arith;
    };
    links = All-from_recursion (HasEnds (node_count (basin_network basin))) (basin_network basin).links.list (
      record {
        from_node = omega arith;
        to_node = omega arith;
        apart = λ e. omega (arith, e);
      },
      tt,
    );
    states = All-from_recursion (λ l. CanHave l.kind l.start) (basin_network basin).links.list (can, tt);
    quantities = quantities tank;
    patterns = All-from_recursion IsPattern [] tt;
    controls = All-from_recursion (IsControl (basin_network basin)) [] tt;
    rules = All-from_recursion (IsRule (basin_network basin)) [] tt;
    times = record {
      duration = long;
      hydraulic = omega arith;
      within_pattern = omega arith;
      within_report = omega arith;
      pattern = omega arith;
      pattern_start = omega arith;
      report = omega arith;
      report_start = omega arith;
      start_clock = omega arith;
      rule = omega arith;
      within_hydraulic = omega arith;
    };
    made = made area state;
  }

-- ---- the curve

no_number : AreRising []
no_number i j d before within = absurd (omega (arith, within))

pub three-rise : (a b c : ℤ) → a <ℤ b → a <ℤ c → b <ℤ c → AreRising (a ∷ b ∷ c ∷ [])
three-rise a b c p q r =
    AllPairs-cons (λ x y. x <ℤ y) a (b ∷ c ∷ []) (All-from_recursion (λ y. a <ℤ y) (b ∷ c ∷ []) (p, (q, tt)))
    (AllPairs-cons (λ x y. x <ℤ y) b (c ∷ []) (All-from_recursion (λ y. b <ℤ y) (c ∷ []) (r, tt))
    (AllPairs-cons (λ x y. x <ℤ y) c [] (All-from_recursion (λ y. c <ℤ y) [] tt) no_number))

abbrev points : List VolumePoint
points = record { level = pos 0; volume = pos 0 }
    ∷ record { level = pos 50000000000000; volume = pos 500000000000 }
    ∷ record { level = pos 100000000000000; volume = pos 2000000000000 }
    ∷ []

is_curve : IsVolumeCurve points
is_curve = record {
  two = omega arith;
  levels = All-from_recursion (λ (p : VolumePoint). IsHead p.level) points (
    record { at_least = omega (arith, ints); at_most = omega (arith, ints) },
    (
      record { at_least = omega (arith, ints); at_most = omega (arith, ints) },
      (
        record {
          at_least = omega (arith, ints);
          at_most = omega (arith, ints);
        },
        tt,
      ),
    ),
  );
  volumes = All-from_recursion (λ (p : VolumePoint). Lies (pos 0) (pos (10 ^ 18)) p.volume) points (
    record { at_least = omega (arith, ints); at_most = omega (arith, ints) },
    (
      record { at_least = omega (arith, ints); at_most = omega (arith, ints) },
      (
        record {
          at_least = omega (arith, ints);
          at_most = omega (arith, ints);
        },
        tt,
      ),
    ),
  );
  levels_rise = three-rise _ _ _ (omega (arith, ints)) (omega (arith, ints)) (omega (arith, ints));
  volumes_rise = three-rise _ _ _ (omega (arith, ints)) (omega (arith, ints)) (omega (arith, ints));
}

is_shape : IsShapeOf curved.tank points
is_shape = record {
  curve = is_curve;
  from_minimum = λ d. omega (arith, ints);
  to_maximum = λ d. omega (arith, ints);
  apart = le-yes _ _ refl;
}

pub curved_sound : IsSound (basin_network curved)
curved_sound = sound_basin curved (omega arith) (omega arith) (omega arith)
    (record {
      bottom = record { at_least = omega (arith, ints); at_most = omega (arith, ints) };
      lowest = omega (arith, ints);
      initial = record { at_least = omega (arith, ints); at_most = omega (arith, ints) };
      apart = omega (arith, ints);
      top = record { at_least = omega (arith, ints); at_most = omega (arith, ints) };
      diameter = record { at_least = omega (arith, ints); at_most = omega (arith, ints) };
      shape = record { in_range = omega arith; holds = λ d. is_shape };
    })
    (record { at_most = omega (arith, ints); greatest = λ k le. omega (arith, ints, le) }) refl
    (record {
      not_negative = omega (arith, ints);
      flow = record {
        at_least = omega (arith, ints);
        at_most = omega (arith, ints);
      };
    })

pub spilling_sound : IsSound (basin_network spilling)
spilling_sound = sound_basin spilling (omega arith) (omega arith) (omega arith)
    (record {
      bottom = record { at_least = omega (arith, ints); at_most = omega (arith, ints) };
      lowest = omega (arith, ints);
      initial = record { at_least = omega (arith, ints); at_most = omega (arith, ints) };
      apart = omega (arith, ints);
      top = record { at_least = omega (arith, ints); at_most = omega (arith, ints) };
      diameter = record { at_least = omega (arith, ints); at_most = omega (arith, ints) };
      shape = tt;
    })
    (record { at_most = omega (arith, ints); greatest = λ k le. omega (arith, ints, le) }) refl
    (record {
      not_negative = omega (arith, ints);
      flow = record {
        at_least = omega (arith, ints);
        at_most = omega (arith, ints);
      };
    })
