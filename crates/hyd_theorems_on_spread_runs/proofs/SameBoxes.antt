-- Two records, each on its grid, whose heads, flow boxes and inflow boxes are the same decide alike.
use Rattle.std.proofs.Common.{◌≡◌, ◌≢◌, ℕ, ◌+◌, ◌≤◌, ℤ, sym, subst, ◌∙◌, Bool, List, [], map, ◌⊎◌, inl, inr}
use Rattle.std.specs.Prelude.{IsTrue, IsFalse, slice_index_or}
use Rattle.std.specs.List.{list_any}
use Rattle.hyd_num.specs.Rational.{whole}
use Rattle.hyd_spec.specs.ProgramTypes.{Project, Tank, Rule, LinkState}
use Rattle.hyd_spec.specs.Lists.{map_from}
use Rattle.hyd_spec.specs.declared.Change.{Change}
use Rattle.hyd_spec.specs.Rules.{rule_changes, acted}
use Rattle.hyd_spec.specs.Tank.{Walls, walls_of}
use Rattle.hyd_spec.specs.PeriodLength.{IsLeast}
use Rattle.hyd_spec_certificates.specs.Interval.{Interval}
use Rattle.hyd_spec_certificates.specs.Stocks.{Stocks, carried_levels, may_reach, must_reach, next_stocks}
use Rattle.hyd_spec_certificates.specs.declared.Verdict.{Verdict}
use Rattle.hyd_spec_certificates.specs.ThreeValuedLogic.{is_yes, is_unknown}
use Rattle.hyd_spec_certificates.specs.PeriodNetwork.{Grid}
use Rattle.hyd_spec_certificates.specs.RecordAndStanding.{Record, Standing}
use Rattle.hyd_spec_certificates.specs.Decided.{heads_below, heads_above, flow_boxes, inflow_boxes, inflow_of_tank}
use Rattle.hyd_spec_certificates.specs.Decided.{nowhere, stocks_of_tank, links_at, SomeReaches, IsClockLength}
use Rattle.hyd_spec_certificates.specs.Decided.{least_magnitude, greatest_magnitude}
use Rattle.hyd_spec_certificates.specs.Decided.{readings_below, readings_above, rule_between, rule_truths}
use Rattle.hyd_spec_certificates.specs.Decided.{decided_changes, RulesMatter, EndsBy}
use Rattle.hyd_spec_certificates.specs.Decided.{ByRules, WithoutRules, by_rules as decided_by_rules}
use Rattle.hyd_spec_certificates.specs.Decided.{by_clock as decided_by_clock}
use Rattle.hyd_spec_certificates.specs.Valid.{LeavesLinks, by_rules as left_by_rules, by_clock as left_by_clock}
use Rattle.hyd_spec_certificates.specs.Valid.{Continues, LeadsOn, continues, finishes, levels_next, volumes_next}

-- What both say of a period.
pub record SameBoxes (project : Project) (g h : Grid) (r q : Record) : Type 0 where
  pub below : heads_below g r ≡ heads_below h q
  pub above : heads_above g r ≡ heads_above h q
  pub flows : flow_boxes g r ≡ flow_boxes h q
  pub inflows : inflow_boxes project g r ≡ inflow_boxes project h q
  pub length_is : r.length ≡ q.length

pub turned : (project : Project) (g h : Grid) (r q : Record) → SameBoxes project g h r q → SameBoxes project h g q r
turned project g h r q same = record {
  below = sym same.below;
  above = sym same.above;
  flows = sym same.flows;
  inflows = sym same.inflows;
  length_is = sym same.length_is;
}

-- ---- one way

module _ (project : Project) (standing : Standing) (g h : Grid) (r q : Record) (same : SameBoxes project g h r q) where
  inflow-same : (k : ℕ) → inflow_of_tank project g r k ≡ inflow_of_tank project h q k
  inflow-same k = λ i. slice_index_or (same.inflows i) k nowhere

  pub some-reaches : (test : Walls → Tank → Stocks → Interval → ℤ → Bool → ℕ → Bool) (seconds : ℕ)
      → SomeReaches test project g standing r seconds → SomeReaches test project h standing q seconds
  some-reaches test seconds some = record {
    watch = some.watch;
    is_watched = some.is_watched;
    tank = some.tank;
    is_tank = some.is_tank;
    reached = subst (λ (x : Interval). IsTrue (test (walls_of project some.tank) some.tank
        (stocks_of_tank standing some.watch.tank) x some.watch.target some.watch.rising seconds))
        (inflow-same some.watch.tank) some.reached;
  }

  below-same : (seconds : ℕ) → readings_below project g standing r seconds ≡ readings_below project h standing q seconds
  below-same seconds = λ i. record {
    heads = same.below i;
    levels = map (λ (level : Interval). whole level.lo) (map_from (λ k (tank : Tank). carried_levels
        (walls_of project tank) tank (stocks_of_tank standing k) (inflow-same k i) seconds) 0 project.tanks.list);
    flows = map least_magnitude (same.flows i);
    links = links_at project standing;
  }

  above-same : (seconds : ℕ) → readings_above project g standing r seconds ≡ readings_above project h standing q seconds
  above-same seconds = λ i. record {
    heads = same.above i;
    levels = map (λ (level : Interval). whole level.hi) (map_from (λ k (tank : Tank). carried_levels
        (walls_of project tank) tank (stocks_of_tank standing k) (inflow-same k i) seconds) 0 project.tanks.list);
    flows = map greatest_magnitude (same.flows i);
    links = links_at project standing;
  }

  pub truths-same : (seconds : ℕ) → rule_truths project g standing r seconds ≡ rule_truths project h standing q seconds
  truths-same seconds = λ i. map (λ (rule : Rule). rule_between project (standing.time + seconds) (below-same seconds i)
      (above-same seconds i) rule) project.rules.list

  changes-same : (seconds : ℕ)
      → decided_changes project g standing r seconds ≡ decided_changes project h standing q seconds
  changes-same seconds = λ i. rule_changes project (map is_yes (truths-same seconds i)) (links_at project standing)

  pub matter : (seconds : ℕ) → RulesMatter project g standing r seconds → RulesMatter project h standing q seconds
  matter seconds matters = record { tried = matters.tried; matters = by-case matters.matters }
    where
      by-case : IsTrue (list_any is_unknown (rule_truths project g standing r seconds))
          ⊎ (decided_changes project g standing r seconds ≢ [])
          → IsTrue (list_any is_unknown (rule_truths project h standing q seconds))
          ⊎ (decided_changes project h standing q seconds ≢ [])
      by-case (inl unknown) =
          inl (subst (λ (ts : List Verdict). IsTrue (list_any is_unknown ts)) (truths-same seconds) unknown)
      by-case (inr change) =
          inr (subst (λ (cs : List Change). cs ≢ []) (changes-same seconds) change)

-- ---- both ways

module _ (project : Project) (standing : Standing) (g h : Grid) (r q : Record) (same : SameBoxes project g h r q) where
  abbrev back : SameBoxes project h g q r
  back = turned project g h r q same

  first-matter : (seconds : ℕ) → IsLeast (RulesMatter project g standing r) seconds
      → IsLeast (RulesMatter project h standing q) seconds
  first-matter seconds first = record {
    holds = matter project standing g h r q same seconds first.holds;
    least = λ k matters. first.least k (matter project standing h g q r back k matters);
  }

  first-end : (test : Walls → Tank → Stocks → Interval → ℤ → Bool → ℕ → Bool) (second : ℕ)
      → IsLeast (λ s. IsClockLength project standing.time s ⊎ ((1 ≤ s) × SomeReaches test project g standing r s))
      second
      → IsLeast (λ s. IsClockLength project standing.time s ⊎ ((1 ≤ s) × SomeReaches test project h standing q s))
      second
  first-end test second first = record {
    holds = to second first.holds;
    least = λ k may. first.least k (from k may);
  }
    where
      to : (s : ℕ) → IsClockLength project standing.time s ⊎ ((1 ≤ s) × SomeReaches test project g standing r s)
          → IsClockLength project standing.time s ⊎ ((1 ≤ s) × SomeReaches test project h standing q s)
      to s (inl clock) = inl clock
      to s (inr some) = inr (some.0, some-reaches project standing g h r q same test s some.1)

      from : (s : ℕ) → IsClockLength project standing.time s ⊎ ((1 ≤ s) × SomeReaches test project h standing q s)
          → IsClockLength project standing.time s ⊎ ((1 ≤ s) × SomeReaches test project g standing r s)
      from s (inl clock) = inl clock
      from s (inr some) = inr (some.0, some-reaches project standing h g q r back test s some.1)

  ends-by-rules : (seconds : ℕ) → EndsBy project g standing r (ByRules seconds)
      → EndsBy project h standing q (ByRules seconds)
  ends-by-rules seconds (decided_by_rules first known) = decided_by_rules (record {
    not_last = first.not_last;
    earliest = first.earliest;
    is_earliest = first-end may_reach first.earliest first.is_earliest;
    in_time = first.in_time;
    first = first-matter seconds first.first;
  }) (subst (λ (ts : List Verdict). IsFalse (list_any is_unknown ts))
      (truths-same project standing g h r q same seconds) known)

  ends-by-clock : (seconds : ℕ) → EndsBy project g standing r (WithoutRules seconds)
      → EndsBy project h standing q (WithoutRules seconds)
  ends-by-clock seconds (decided_by_clock none latest) = decided_by_clock (record {
    not_last = none.not_last;
    is_earliest = first-end may_reach seconds none.is_earliest;
    none = λ k matters. none.none k (matter project standing h g q r back k matters);
  }) (first-end must_reach seconds latest)

  leaves : (seconds : ℕ) (links : List LinkState) → LeavesLinks project g standing r seconds links
      → LeavesLinks project h standing q seconds links
  leaves seconds _ (left_by_rules ends) =
      subst (λ (ts : List Verdict). LeavesLinks project h standing q seconds
      (acted project (map is_yes ts) (links_at project standing)))
      (sym (truths-same project standing g h r q same seconds)) (left_by_rules (ends-by-rules seconds ends))
  leaves seconds _ (left_by_clock ends) = left_by_clock (ends-by-clock seconds ends)

  levels-same : (seconds : ℕ) → levels_next project g standing r seconds ≡ levels_next project h standing q seconds
  levels-same seconds = λ i. map_from (λ k (tank : Tank). (next_stocks (walls_of project tank) tank
      (stocks_of_tank standing k) (inflow-same project standing g h r q same k i) seconds).level) 0 project.tanks.list

  volumes-same : (seconds : ℕ) → volumes_next project g standing r seconds ≡ volumes_next project h standing q seconds
  volumes-same seconds = λ i. map_from (λ k (tank : Tank). (next_stocks (walls_of project tank) tank
      (stocks_of_tank standing k) (inflow-same project standing g h r q same k i) seconds).volume) 0 project.tanks.list

  goes-on : (next : Standing) → Continues project g standing r next → Continues project h standing q next
  goes-on next c = record {
    not_last = c.not_last;
    leaves_links = subst (λ (n : ℕ). LeavesLinks project h standing q n next.commanded) same.length_is
        (leaves r.length next.commanded c.leaves_links);
    levels = c.levels ∙ levels-same r.length ∙ (λ i. levels_next project h standing q (same.length_is i));
    volumes = c.volumes ∙ volumes-same r.length ∙ (λ i. volumes_next project h standing q (same.length_is i));
    tanks = c.tanks;
    controls = c.controls;
    number = c.number;
    time = c.time ∙ (λ i. standing.time + same.length_is i);
    unfinished = c.unfinished;
  }

  -- so a record leads on where the other does
  pub leads-alike : (next : Standing) → LeadsOn project g standing r next → LeadsOn project h standing q next
  leads-alike next (continues c) = continues (goes-on next c)
  leads-alike next (finishes f) = finishes (record {
    is_last = f.is_last;
    no_length = sym same.length_is ∙ f.no_length;
    next_is = f.next_is;
  })
