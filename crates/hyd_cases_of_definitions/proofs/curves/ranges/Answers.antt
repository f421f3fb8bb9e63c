use Rattle.std.proofs.Common.{◌^◌, ℤ, pos, ◌≤ℤ◌, ◌<ℤ◌, [], ◌∷◌, List, map, refl, arith}
use Rattle.std.specs.Prelude.{⊤, AllPairs}
use Rattle.std.specs.List.{AllByRecursion}
use Rattle.std.proofs.lemmas.Int.{ints}
use Rattle.std.proofs.lemmas.List.Elements.{All-from_recursion}
use Rattle.std.proofs.lemmas.List.Kept.{AllPairs-cons}
use Rattle.hyd_net.specs.NumberRanges.{Lies, IsHead, IsFlow}
use Rattle.hyd_spec.specs.ProgramTypes.{VolumePoint, HeadPoint}
use Rattle.hyd_cases_of_definitions.specs.Curves.{pump_points, valve_points, volume_points}
use Rattle.hyd_cases_of_definitions.proofs.curves.ranges.Goals as goal

-- each number stands so to all later ones
abbrev each : (ℤ → ℤ → Type 0) → List ℤ → Type 0
each R [] = ⊤
each R (x ∷ xs) = AllByRecursion (R x) xs × each R xs

pairs : (R : ℤ → ℤ → Type 0) (xs : List ℤ) → each R xs → AllPairs R xs
pairs R [] all = λ i j d less within. absurd (omega (arith, within))
pairs R (x ∷ xs) all = AllPairs-cons R x xs (All-from_recursion (R x) xs all.0) (pairs R xs all.1)

pub returns-clause-pump : goal.returns-clause-pump
returns-clause-pump c = record {
  four = omega arith;
  flows = All-from_recursion (λ (p : HeadPoint). IsFlow p.flow) pump_points (
    record {
      at_least = omega (arith, ints);
      at_most = omega (arith, ints);
    },
    (
      record {
        at_least = omega (arith, ints);
        at_most = omega (arith, ints);
      },
      (
        record {
          at_least = omega (arith, ints);
          at_most = omega (arith, ints);
        },
        (
          record {
            at_least = omega (arith, ints);
            at_most = omega (arith, ints);
          },
          tt,
        ),
      ),
    ),
  );
  forward = All-from_recursion (λ (p : HeadPoint). pos 0 ≤ℤ p.flow) pump_points
      (omega (arith, ints), (omega (arith, ints), (omega (arith, ints), (omega (arith, ints), tt))));
  flows_rise = pairs (λ x later. x <ℤ later) (map (λ (p : HeadPoint). p.flow) pump_points) (
    (omega (arith, ints), (omega (arith, ints), (omega (arith, ints), tt))),
    ((omega (arith, ints), (omega (arith, ints), tt)), ((omega (arith, ints), tt), (tt, tt))),
  );
  heads_fall = pairs (λ x later. later <ℤ x) (map (λ (p : HeadPoint). p.head) pump_points) (
    (omega (arith, ints), (omega (arith, ints), (omega (arith, ints), tt))),
    ((omega (arith, ints), (omega (arith, ints), tt)), ((omega (arith, ints), tt), (tt, tt))),
  );
  lifts = All-from_recursion (λ (p : HeadPoint). pos 0 ≤ℤ p.head) pump_points
      (omega (arith, ints), (omega (arith, ints), (omega (arith, ints), (omega (arith, ints), tt))));
  shutoff = refl;
}

pub returns-clause-valve : goal.returns-clause-valve
returns-clause-valve c = record {
  two = omega arith;
  first = λ d. (refl, refl);
  flows = All-from_recursion (λ (p : HeadPoint). IsFlow p.flow) valve_points (
    record {
      at_least = omega (arith, ints);
      at_most = omega (arith, ints);
    },
    (
      record {
        at_least = omega (arith, ints);
        at_most = omega (arith, ints);
      },
      (record { at_least = omega (arith, ints); at_most = omega (arith, ints) }, tt),
    ),
  );
  losses = All-from_recursion (λ (p : HeadPoint). IsHead p.head) valve_points (
    record {
      at_least = omega (arith, ints);
      at_most = omega (arith, ints);
    },
    (
      record {
        at_least = omega (arith, ints);
        at_most = omega (arith, ints);
      },
      (record { at_least = omega (arith, ints); at_most = omega (arith, ints) }, tt),
    ),
  );
  flows_rise = pairs (λ x later. x <ℤ later) (map (λ (p : HeadPoint). p.flow) valve_points)
      ((omega (arith, ints), (omega (arith, ints), tt)), ((omega (arith, ints), tt), (tt, tt)));
  losses_rise = pairs (λ x later. x <ℤ later) (map (λ (p : HeadPoint). p.head) valve_points)
      ((omega (arith, ints), (omega (arith, ints), tt)), ((omega (arith, ints), tt), (tt, tt)));
}

pub returns-clause-tank : goal.returns-clause-tank
returns-clause-tank c = record {
  two = omega arith;
  levels = All-from_recursion (λ (p : VolumePoint). IsHead p.level) volume_points (
    record {
      at_least = omega (arith, ints);
      at_most = omega (arith, ints);
    },
    (
      record {
        at_least = omega (arith, ints);
        at_most = omega (arith, ints);
      },
      (record { at_least = omega (arith, ints); at_most = omega (arith, ints) }, tt),
    ),
  );
  volumes = All-from_recursion (λ (p : VolumePoint). Lies (pos 0) (pos (10 ^ 18)) p.volume) volume_points (
    record {
      at_least = omega (arith, ints);
      at_most = omega (arith, ints);
    },
    (
      record {
        at_least = omega (arith, ints);
        at_most = omega (arith, ints);
      },
      (record { at_least = omega (arith, ints); at_most = omega (arith, ints) }, tt),
    ),
  );
  levels_rise = pairs (λ x later. x <ℤ later) (map (λ (p : VolumePoint). p.level) volume_points)
      ((omega (arith, ints), (omega (arith, ints), tt)), ((omega (arith, ints), tt), (tt, tt)));
  volumes_rise = pairs (λ x later. x <ℤ later) (map (λ (p : VolumePoint). p.volume) volume_points)
      ((omega (arith, ints), (omega (arith, ints), tt)), ((omega (arith, ints), tt), (tt, tt)));
}

pub returns-clause-no_pump : goal.returns-clause-no_pump
returns-clause-no_pump c = λ curve. let l = curve.four in omega (arith, l)

pub returns-clause-no_valve : goal.returns-clause-no_valve
returns-clause-no_valve c = λ curve. let l = (curve.first (record { flow = pos 0; head = pos 0 })).1 in
    omega (arith, ints, l)
