-- The village is a network that a file can stand for.
use Rattle.std.proofs.Common.{◌≡◌, ◌≢◌, ℕ, zero, suc, ◌<◌, ◌*◌, ◌^◌, pos, [], ◌∷◌, refl, arith}
use Rattle.std.specs.Prelude.{codes}
use Rattle.std.specs.List.{All, HoldsAt}
use Rattle.std.proofs.lemmas.Int.{ints}
use Rattle.std.proofs.lemmas.List.Elements.{All-from_recursion}
use Rattle.std.proofs.lemmas.List.Kept.{AllPairs-cons}
use Rattle.hyd_net.specs.Ids.{AreDistinct, IsId}
use Rattle.hyd_net.specs.Sound.{HasIds, HasEnds, IsPattern, IsSound}
use Rattle.hyd_net.specs.NetworkRanges.{IsJunction, IsDemand, IsReservoir, IsTank, HasSizes, HasQuantities}
use Rattle.hyd_net.specs.LinkStates.{CanHave}
use Rattle.hyd_net.specs.ControlsAndRules.{node_count, IsControl, IsClause, CanCommand, IsRule}
use Rattle.hyd_net.specs.RoundedFileNumbers.{IsAreaMade, IsKindMade, IsStateMade, IsValueMade, IsRuleMade, IsKindAcross}
use Rattle.hyd_net.specs.RoundedFileNumbers.{IsStateAcross, IsAcross, IsAllMade}
use Rattle.hyd_net.specs.NumberRanges.{LiesWithin}
use Rattle.hyd_cases_of_runs.specs.Village.{usual, village, mill, farm, refill_rule}
use Rattle.hyd_spec.specs.ProgramTypes.{Cmd, Rule}
use Rattle.hyd_num.specs.CapacityPairs.{IsMade}
use Rattle.std.specs.Option.{IfSome}
use Rattle.hyd_lemmas.proofs.ListsOptionsAndResults.{differ}

abbrev the_rule : Rule
the_rule = refill_rule usual.clauses

-- ---- IDs

pub nothing : AreDistinct []
nothing i j d before within = absurd (omega (arith, within))

ids : HasIds village
ids = record {
  each_node = refl;
  each_link = refl;
  distinct_nodes =
      AllPairs-cons (λ a b. a ≢ b) (codes "Mill") (codes "Farm" ∷ codes "Lake" ∷ codes "Tower" ∷ [])
      (All-from_recursion (λ b. codes "Mill" ≢ b) (codes "Farm" ∷ codes "Lake" ∷ codes "Tower" ∷ []) (
        differ _ _ (λ e. omega (arith, e)),
        (
          differ _ _ (λ e. omega (arith, e)),
          (differ _ _ (λ e. omega (arith, e)), tt),
        ),
      ))
      (AllPairs-cons (λ a b. a ≢ b) (codes "Farm") (codes "Lake" ∷ codes "Tower" ∷ [])
      (All-from_recursion (λ b. codes "Farm" ≢ b) (codes "Lake" ∷ codes "Tower" ∷ [])
      (differ _ _ (λ e. omega (arith, e)), (differ _ _ (λ e. omega (arith, e)), tt)))
      (AllPairs-cons (λ a b. a ≢ b) (codes "Lake") (codes "Tower" ∷ [])
      (All-from_recursion (λ b. codes "Lake" ≢ b) (codes "Tower" ∷ []) (differ _ _ (λ e. omega (arith, e)), tt))
      (AllPairs-cons (λ a b. a ≢ b) (codes "Tower") [] (All-from_recursion (λ b. codes "Tower" ≢ b) [] tt) nothing)));
  distinct_links =
      AllPairs-cons (λ a b. a ≢ b) (codes "Main") (codes "Feed" ∷ codes "Drop" ∷ [])
      (All-from_recursion (λ b. codes "Main" ≢ b) (codes "Feed" ∷ codes "Drop" ∷ [])
      (differ _ _ (λ e. omega (arith, e)), (differ _ _ (λ e. omega (arith, e)), tt)))
      (AllPairs-cons (λ a b. a ≢ b) (codes "Feed") (codes "Drop" ∷ [])
      (All-from_recursion (λ b. codes "Feed" ≢ b) (codes "Drop" ∷ []) (differ _ _ (λ e. omega (arith, e)), tt))
      (AllPairs-cons (λ a b. a ≢ b) (codes "Drop") [] (All-from_recursion (λ b. codes "Drop" ≢ b) [] tt) nothing));
  node_ids = All-from_recursion IsId village.node_ids (
    (omega arith, omega arith),
    ((omega arith, omega arith), ((omega arith, omega arith), ((omega arith, omega arith), tt))),
  );
  link_ids = All-from_recursion IsId village.link_ids (
    (omega arith, omega arith),
    ((omega arith, omega arith), ((omega arith, omega arith), tt)),
  );
}

-- ---- parts

quantities : HasQuantities village
quantities = record {
  options = record {
    multiplier = record { at_least = omega (arith, ints); at_most = omega (arith, ints) };
    minimum = record { not_negative = omega (arith, ints); at_most = omega (arith, ints) };
    required = record { not_negative = omega (arith, ints); at_most = omega (arith, ints) };
    apart = λ e. absurd (cc);
    default_pattern = tt;
  };
  junctions = All-from_recursion (IsJunction Cmd village.patterns.list) village.junctions.list (
    record {
      elevation = record { at_least = omega (arith, ints); at_most = omega (arith, ints) };
      demands = All-from_recursion (IsDemand village.patterns.list) mill.demands.list (
        record {
          base = record { at_least = omega (arith, ints); at_most = omega (arith, ints) };
          pattern = record { in_range = omega arith; holds = λ d k e le. tt };
        },
        tt,
      );
      emitter = tt;
    },
    (
      record {
        elevation = record { at_least = omega (arith, ints); at_most = omega (arith, ints) };
        demands = All-from_recursion (IsDemand village.patterns.list) farm.demands.list (
          record {
            base = record {
              at_least = omega (arith, ints);
              at_most = omega (arith, ints);
            };
            pattern = tt;
          },
          tt,
        );
        emitter = tt;
      },
      tt,
    ),
  );
  reservoirs = All-from_recursion (IsReservoir village.patterns.list) village.reservoirs.list (
    record {
      head = record { at_least = omega (arith, ints); at_most = omega (arith, ints) };
      pattern = tt;
    },
    tt,
  );
  tanks = All-from_recursion (IsTank village.shapes.list) village.tanks.list (
    record {
      bottom = record { at_least = omega (arith, ints); at_most = omega (arith, ints) };
      lowest = omega (arith, ints);
      initial = record { at_least = omega (arith, ints); at_most = omega (arith, ints) };
      apart = omega (arith, ints);
      top = record { at_least = omega (arith, ints); at_most = omega (arith, ints) };
      diameter = record { at_least = omega (arith, ints); at_most = omega (arith, ints) };
      shape = tt;
    },
    tt,
  );
  links = All-from_recursion (λ l. HasSizes Cmd village.patterns.list village.bends.list l.kind) village.links.list
      (tt, (tt, (tt, tt)));
}

-- what no state or kind of a valve without loss coefficient says
across : (number : ℕ) → number < 3 → IsAcross village number (pos 0)
across number below = record {
  link = link number below;
  controls = All-from_recursion (λ c. c.link ≡ number → IsStateAcross (pos 0) c.to) village.controls.list (λ e. tt, tt);
  yes = All-from_recursion (λ r. All (λ a. a.link ≡ number → IsStateAcross (pos 0) a.to) r.yes.list)
      village.rules.list (
        All-from_recursion (λ a. a.link ≡ number → IsStateAcross (pos 0) a.to) the_rule.yes.list (λ e. tt, tt),
        tt,
      );
  no = All-from_recursion (λ r. All (λ a. a.link ≡ number → IsStateAcross (pos 0) a.to) r.no.list) village.rules.list (
    All-from_recursion (λ a. a.link ≡ number → IsStateAcross (pos 0) a.to) the_rule.no.list tt,
    tt,
  );
}
  where
    link : (n : ℕ) → n < 3 → HoldsAt (λ l. IsKindAcross (pos 0) l.kind × IsStateAcross (pos 0) l.start)
        village.links.list n
    link zero le d = (tt, tt)
    link (suc zero) le d = (tt, tt)
    link (suc (suc zero)) le d = (tt, tt)
    link (suc (suc (suc n))) le d = absurd (omega (arith, le))

made : IsAllMade village
made = record {
  emitters = All-from_recursion (λ j. IfSome j.emitter IsMade) village.junctions.list (tt, (tt, tt));
  areas = All-from_recursion (IsAreaMade Cmd) village.tanks.list (
    record { at_most = omega (arith, ints); greatest = λ k le. omega (arith, ints, le) },
    tt,
  );
  links = All-from_recursion (λ l. IsKindMade Cmd l.kind) village.links.list (tt, (tt, (tt, tt)));
  starts = All-from_recursion (λ l. IsStateMade Cmd l.start) village.links.list
      ((refl, tt, tt), (refl, ((refl, tt, tt), tt)));
  controls = All-from_recursion (λ c. IsStateMade Cmd c.to) village.controls.list (tt, tt);
  rules = All-from_recursion (IsRuleMade Cmd) village.rules.list (
    record {
      clauses = All-from_recursion (λ c. IsValueMade Cmd c.clause.what c.clause.value) the_rule.clauses.list
          (tt, (record { low = refl; high = refl }, tt));
      yes = All-from_recursion (λ a. IsStateMade Cmd a.to) the_rule.yes.list (refl, tt);
      no = All-from_recursion (λ a. IsStateMade Cmd a.to) the_rule.no.list tt;
    },
    tt,
  );
  diameters = λ number below. (pos 0, across number below);
}

pub sound : IsSound village
sound = record {
  ids = ids;
  counts = record {
    junctions = omega arith;
    reservoirs = omega arith;
    tanks = omega arith;
    links = omega arith;
    patterns = omega arith;
    multipliers = omega arith;
    shapes = omega arith;
    shape_points = omega arith;
    bends = omega arith;
    bend_points = omega arith;
    demands = omega arith;
    controls = omega arith;
    rules = omega arith;
    parts = omega arith;
  };
  links = All-from_recursion (HasEnds (node_count village)) village.links.list (
    record { from_node = omega arith; to_node = omega arith; apart = λ e. omega (arith, e) },
    (
      record { from_node = omega arith; to_node = omega arith; apart = λ e. omega (arith, e) },
      (record { from_node = omega arith; to_node = omega arith; apart = λ e. omega (arith, e) }, tt),
    ),
  );
  states = All-from_recursion (λ l. CanHave l.kind l.start) village.links.list (
    record { at_least = omega (arith, ints); at_most = omega (arith, ints) },
    (
      record {
        not_negative = omega (arith, ints);
        flow = record {
          at_least = omega (arith, ints);
          at_most = omega (arith, ints);
        };
      },
      (
        record { at_least = omega (arith, ints); at_most = omega (arith, ints) },
        tt,
      ),
    ),
  );
  quantities = quantities;
  patterns = All-from_recursion IsPattern village.patterns.list (
    record {
      not_empty = omega arith;
      range = All-from_recursion (LiesWithin (10 ^ 6 * 10 ^ 9)) (pos 1000000000 ∷ pos 500000000 ∷ []) (
        record {
          at_least = omega (arith, ints);
          at_most = omega (arith, ints);
        },
        (
          record {
            at_least = omega (arith, ints);
            at_most = omega (arith, ints);
          },
          tt,
        ),
      );
    },
    tt,
  );
  controls = All-from_recursion (IsControl village) village.controls.list (
    record {
      command = record { in_range = omega arith; holds = λ d. tt };
      moment = (omega arith, record { at_least = omega (arith, ints); at_most = omega (arith, ints) });
    },
    tt,
  );
  rules = All-from_recursion (IsRule village) village.rules.list (
    record {
      id = (omega arith, omega arith);
      clauses = All-from_recursion (λ c. IsClause village c.clause) the_rule.clauses.list (
        record { what = omega arith; relation = tt; value = tt },
        (record { what = omega arith; relation = tt; value = tt }, tt),
      );
      yes = All-from_recursion (λ a. CanCommand village a.link a.to) the_rule.yes.list (
        record {
          in_range = omega arith;
          holds = λ d. record {
            not_negative = omega (arith, ints);
            flow = record { at_least = omega (arith, ints); at_most = omega (arith, ints) };
          };
        },
        tt,
      );
      no = All-from_recursion (λ a. CanCommand village a.link a.to) the_rule.no.list tt;
      priority = tt;
    },
    tt,
  );
  times = record {
    duration = omega arith;
    hydraulic = omega arith;
    within_pattern = omega arith;
    within_report = omega arith;
    pattern = omega arith;
    pattern_start = omega arith;
    report = omega arith;
    report_start = omega arith;
    start_clock = omega arith;
    rule = omega arith;
    within_hydraulic = omega arith;
  };
  made = made;
}
