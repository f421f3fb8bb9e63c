-- A network of one junction and one reservoir is sound.
use Rattle.std.proofs.Common.{◌≡◌, ◌≢◌, ℕ, ◌≤◌, ◌*◌, ◌^◌, pos, neg_ℤ, ◌*ℤ◌, List, [], ◌∷◌, length, None, Some, false}
use Rattle.std.proofs.Common.{sym, ap, subst, arith}
use Rattle.std.specs.Prelude.{slice_index_or, codes, sum_by}
use Rattle.std.specs.List.{All}
use Rattle.std.specs.Option.{IfSome}
use Rattle.std.proofs.lemmas.Int.{ints}
use Rattle.std.proofs.lemmas.List.Elements.{All-from_recursion}
use Rattle.std.proofs.lemmas.List.Kept.{AllPairs-cons}
use Rattle.hyd_num.specs.CapacityPairs.{IsMade}
use Rattle.hyd_net.specs.ListView.{ListView}
use Rattle.hyd_net.specs.Ids.{AreDistinct, IsId}
use Rattle.hyd_net.specs.Sound.{HasIds, HasEnds, IsPattern, IsWithinLimits, AreTimes, IsSound, demand_rows, part_count}
use Rattle.hyd_net.specs.NetworkRanges.{IsJunction, IsDemand, IsReservoir, IsTank, HasSizes, HasQuantities}
use Rattle.hyd_net.specs.LinkStates.{CanHave}
use Rattle.hyd_net.specs.ControlsAndRules.{node_count, IsControl, IsRule}
use Rattle.hyd_net.specs.RoundedFileNumbers.{IsAreaMade, IsKindMade, IsStateMade, IsRuleMade, IsAllMade}
use Rattle.hyd_net.specs.NumberRanges.{LiesWithin}
use Rattle.hyd_net.specs.declared.curves.HeadPoint.{HeadPoint}
use Rattle.hyd_net.specs.declared.curves.VolumePoint.{VolumePoint}
use Rattle.hyd_net.specs.declared.nodes.Demand.{Demand}
use Rattle.hyd_net.specs.declared.nodes.Junction.{Junction}
use Rattle.hyd_net.specs.declared.nodes.Reservoir.{Reservoir}
use Rattle.hyd_net.specs.declared.patterns.Pattern.{Pattern}
use Rattle.hyd_net.specs.declared.options.Times.{Times}
use Rattle.hyd_net.specs.declared.project.Project.{Project}
use Rattle.hyd_num.specs.declared.flow_units.FlowUnit.TheVariants.{Cmd}
use Rattle.hyd_lemmas.proofs.ListsOptionsAndResults.{differ}

abbrev pub the_times : Times
the_times = record {
  duration = 86400;
  hydraulic = 3600;
  pattern = 7200;
  pattern_start = 3600;
  report = 3600;
  report_start = 0;
  start_clock = 0;
  rule = 360;
}

abbrev pub usual : Demand
usual = record { base = pos 1000000007; pattern = None }

abbrev pub own : Demand
own = record { base = pos 200000000000001; pattern = Some 1 }

abbrev pub spring : Reservoir
spring = record { head = neg_ℤ (pos 1000000000000001); pattern = Some 0 }

-- what the network is made of
pub record Parts (p : Project) (j : Junction) (halves jumps : Pattern) : Type 0 where
  pub cmd : p.options.unit ≡ Cmd
  pub given : p.options.pda ≡ false
  pub minimum : p.options.p0.nano ≡ pos 0
  pub required : p.options.pf.nano ≡ pos 100000000
  pub multiplier : p.options.multiplier.nano ≡ pos 2500000001
  pub default : p.options.default_pattern ≡ Some 0
  pub times : p.times ≡ the_times
  pub nodes : p.node_ids ≡ codes "J" ∷ (codes "R" ∷ [])
  pub link_ids : p.link_ids ≡ []
  pub junctions : p.junctions.list ≡ j ∷ []
  pub elevation : j.elevation ≡ pos 0
  pub emitter : j.emitter ≡ None
  pub demands : j.demands.list ≡ usual ∷ (own ∷ [])
  pub reservoirs : p.reservoirs.list ≡ spring ∷ []
  pub tanks : p.tanks.list ≡ []
  pub links : p.links.list ≡ []
  pub patterns : p.patterns.list ≡ halves ∷ (jumps ∷ [])
  pub first : halves.multipliers.list ≡ pos 1000000000 ∷ (pos 500000000 ∷ [])
  pub second : jumps.multipliers.list ≡ neg_ℤ (pos 333333333) ∷ (pos 3000000000 ∷ [])
  pub shapes : p.shapes.list ≡ []
  pub bends : p.bends.list ≡ []
  pub controls : p.controls.list ≡ []
  pub rules : p.rules.list ≡ []

all_none : {X : Type 0} (P : X → Type 0) (xs : List X) → xs ≡ [] → All P xs
all_none P xs e = subst (All P) (sym e) (All-from_recursion P [] tt)

all_one : {X : Type 0} (P : X → Type 0) (xs : List X) (x : X) → xs ≡ x ∷ [] → P x → All P xs
all_one P xs x e is = subst (All P) (sym e) (All-from_recursion P (x ∷ []) (is, tt))

all_two : {X : Type 0} (P : X → Type 0) (xs : List X) (x y : X) → xs ≡ x ∷ (y ∷ []) → P x → P y → All P xs
all_two P xs x y e is also = subst (All P) (sym e) (All-from_recursion P (x ∷ (y ∷ [])) (is, (also, tt)))

no_ids : AreDistinct []
no_ids i j d before within = absurd (omega (arith, within))

two_ids : AreDistinct (codes "J" ∷ (codes "R" ∷ []))
two_ids =
    AllPairs-cons (λ a b. a ≢ b) (codes "J") (codes "R" ∷ [])
    (All-from_recursion (λ b. codes "J" ≢ b) (codes "R" ∷ []) (differ _ _ (λ e. omega (arith, e)), tt))
    (AllPairs-cons (λ a b. a ≢ b) (codes "R") [] (All-from_recursion (λ b. codes "R" ≢ b) [] tt) no_ids)

ids : (p : Project) (j : Junction) (halves jumps : Pattern) → Parts p j halves jumps → HasIds p
ids p j halves jumps is = record {
  each_node = (let a = ap length is.nodes in let b = ap length is.junctions in let c = ap length is.reservoirs in
      let d = ap length is.tanks in omega (arith, a, b, c, d));
  each_link = (let a = ap length is.link_ids in let b = ap length is.links in omega (arith, a, b));
  distinct_nodes = subst AreDistinct (sym is.nodes) two_ids;
  distinct_links = subst AreDistinct (sym is.link_ids) no_ids;
  node_ids = all_two IsId p.node_ids (codes "J") (codes "R") is.nodes (omega arith, omega arith)
      (omega arith, omega arith);
  link_ids = all_none IsId p.link_ids is.link_ids;
}

sum_none : {X : Type 0} (f : X → ℕ) (n : ℕ) (xs : List X) → xs ≡ [] → sum_by f xs ≤ n
sum_none {X = X} f n xs e = subst (λ (ys : List X). sum_by f ys ≤ n) (sym e) (omega arith)

counts : (p : Project) (j : Junction) (halves jumps : Pattern) → Parts p j halves jumps → IsWithinLimits p
counts p j halves jumps is = record {
  junctions = (let n = ap length is.junctions in omega (arith, n));
  reservoirs = (let n = ap length is.reservoirs in omega (arith, n));
  tanks = (let n = ap length is.tanks in omega (arith, n));
  links = (let n = ap length is.links in omega (arith, n));
  patterns = (let n = ap length is.patterns in omega (arith, n));
  multipliers = subst (λ (ps : List Pattern). sum_by (λ (q : Pattern). length q.multipliers.list) ps ≤ 1000000)
      (sym is.patterns) (let n = ap length is.first in let m = ap length is.second in omega (arith, n, m));
  shapes = (let n = ap length is.shapes in omega (arith, n));
  shape_points = sum_none (λ (shape : ListView VolumePoint). length shape.list) 100000 p.shapes.list is.shapes;
  bends = (let n = ap length is.bends in omega (arith, n));
  bend_points = sum_none (λ (bend : ListView HeadPoint). length bend.list) 100000 p.bends.list is.bends;
  demands = subst (λ (js : List Junction). sum_by demand_rows js ≤ 100000) (sym is.junctions)
      (rw is.demands (omega arith));
  controls = (let n = ap length is.controls in omega (arith, n));
  rules = (let n = ap length is.rules in omega (arith, n));
  parts = sum_none part_count 100000 p.rules.list is.rules;
}

quantities : (p : Project) (j : Junction) (halves jumps : Pattern) → Parts p j halves jumps → HasQuantities p
quantities p j halves jumps is =
    let n = ap length is.patterns in
    record {
      options = record {
        multiplier = record {
          at_least = omega (arith, ints, is.multiplier);
          at_most = omega (arith, ints, is.multiplier);
        };
        minimum = record {
          not_negative = omega (arith, ints, is.minimum);
          at_most = rw (is.cmd, is.minimum) (omega (arith, ints));
        };
        required = record {
          not_negative = omega (arith, ints, is.required);
          at_most = rw (is.cmd, is.required) (omega (arith, ints));
        };
        apart = λ e. omega (arith, ints, is.minimum, is.required);
        default_pattern = rw is.default (record { in_range = omega (arith, n); holds = λ d k e le. tt });
      };
      junctions = all_one (IsJunction p.options.unit p.patterns.list) p.junctions.list j is.junctions (record {
        elevation = record {
          at_least = omega (arith, ints, is.elevation);
          at_most = omega (arith, ints, is.elevation);
        };
        demands = all_two (IsDemand p.patterns.list) j.demands.list usual own is.demands
            (record { base = record { at_least = omega (arith, ints); at_most = omega (arith, ints) }; pattern = tt })
            (record {
              base = record { at_least = omega (arith, ints); at_most = omega (arith, ints) };
              pattern = record { in_range = omega (arith, n); holds = λ d k e le. tt };
            });
        emitter = rw is.emitter tt;
      });
      reservoirs = all_one (IsReservoir p.patterns.list) p.reservoirs.list spring is.reservoirs (record {
        head = record { at_least = omega (arith, ints); at_most = omega (arith, ints) };
        pattern = record {
          in_range = omega (arith, n);
          holds = λ d. subst (λ (ps : List Pattern). All (λ m. LiesWithin (10 ^ 17 * 10 ^ 9) (spring.head *ℤ m))
              (slice_index_or ps 0 d).multipliers.list) (sym is.patterns)
              (all_two (λ m. LiesWithin (10 ^ 17 * 10 ^ 9) (spring.head *ℤ m)) halves.multipliers.list
              (pos 1000000000) (pos 500000000) is.first
              (record { at_least = omega (arith, ints); at_most = omega (arith, ints) }) (record {
                at_least = omega (arith, ints);
                at_most = omega (arith, ints);
              }));
        };
      });
      tanks = all_none (IsTank p.shapes.list) p.tanks.list is.tanks;
      links = all_none (λ l. HasSizes p.options.unit p.patterns.list p.bends.list l.kind) p.links.list is.links;
    }

made : (p : Project) (j : Junction) (halves jumps : Pattern) → Parts p j halves jumps → IsAllMade p
made p j halves jumps is = record {
  emitters = all_one (λ j. IfSome j.emitter IsMade) p.junctions.list j is.junctions (rw is.emitter tt);
  areas = all_none (IsAreaMade p.options.unit) p.tanks.list is.tanks;
  links = all_none (λ l. IsKindMade p.options.unit l.kind) p.links.list is.links;
  starts = all_none (λ l. IsStateMade p.options.unit l.start) p.links.list is.links;
  controls = all_none (λ c. IsStateMade p.options.unit c.to) p.controls.list is.controls;
  rules = all_none (IsRuleMade p.options.unit) p.rules.list is.rules;
  diameters = λ number below. absurd (let n = ap length is.links in omega (arith, n, below));
}

pub sound_of : (p : Project) (j : Junction) (halves jumps : Pattern) → Parts p j halves jumps → IsSound p
sound_of p j halves jumps is = record {
  ids = ids p j halves jumps is;
  counts = counts p j halves jumps is;
  links = all_none (HasEnds (node_count p)) p.links.list is.links;
  states = all_none (λ l. CanHave l.kind l.start) p.links.list is.links;
  quantities = quantities p j halves jumps is;
  patterns = all_two IsPattern p.patterns.list halves jumps is.patterns
      (record {
        not_empty = (let n = ap length is.first in omega (arith, n));
        range = all_two (LiesWithin (10 ^ 6 * 10 ^ 9)) halves.multipliers.list (pos 1000000000) (pos 500000000)
            is.first (record {
              at_least = omega (arith, ints);
              at_most = omega (arith, ints);
            }) (record { at_least = omega (arith, ints); at_most = omega (arith, ints) });
      })
      (record {
        not_empty = (let n = ap length is.second in omega (arith, n));
        range = all_two (LiesWithin (10 ^ 6 * 10 ^ 9)) jumps.multipliers.list (neg_ℤ (pos 333333333)) (pos 3000000000)
            is.second (record {
              at_least = omega (arith, ints);
              at_most = omega (arith, ints);
            }) (record { at_least = omega (arith, ints); at_most = omega (arith, ints) });
      });
  controls = all_none (IsControl p) p.controls.list is.controls;
  rules = all_none (IsRule p) p.rules.list is.rules;
  times = subst AreTimes (sym is.times) (record {
    duration = omega arith;
    hydraulic = omega arith;
    within_pattern = omega arith;
    within_report = omega arith;
    pattern = omega arith;
    pattern_start = omega arith;
    report = omega arith;
    report_start = omega arith;
    start_clock = omega arith;
    rule = omega arith;
    within_hydraulic = omega arith;
  });
  made = made p j halves jumps is;
}
