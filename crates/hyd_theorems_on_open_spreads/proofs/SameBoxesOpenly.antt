-- Two records, each on its grid, whose heads, flow boxes and inflow boxes are the same decide alike where ends are open.
use Rattle.std.proofs.Common.{◌≡◌, ◌≢◌, ℕ, ◌+◌, ◌-◌, ◌≤◌, ℤ, sym, subst, ◌∙◌, Bool, List, [], map, ◌⊎◌, inl, inr}
use Rattle.std.specs.Prelude.{IsTrue, slice_index_or, Option}
use Rattle.std.specs.List.{list_any}
use Rattle.hyd_num.specs.Rational.{whole}
use Rattle.hyd_spec.specs.ProgramTypes.{Project, Tank}
use Rattle.hyd_spec.specs.Lists.{map_from}
use Rattle.hyd_spec.specs.declared.Change.{Change}
use Rattle.hyd_spec.specs.Rules.{rule_changes, acted}
use Rattle.hyd_spec.specs.Tank.{Walls, walls_of}
use Rattle.hyd_spec.specs.PeriodLength.{IsLeast}
use Rattle.hyd_spec_certificates.specs.Interval.{Interval}
use Rattle.hyd_spec_certificates.specs.Stocks.{Stocks, may_reach, must_reach}
use Rattle.hyd_spec_certificates.specs.declared.Verdict.{Verdict}
use Rattle.hyd_spec_certificates.specs.ThreeValuedLogic.{is_yes, is_unknown}
use Rattle.hyd_spec_certificates.specs.PeriodNetwork.{Grid}
use Rattle.hyd_spec_certificates.specs.RecordAndStanding.{Record}
use Rattle.hyd_spec_certificates.specs.Decided.{inflow_of_tank, nowhere, stocks_of_tank, links_at, Watch, SomeReaches}
use Rattle.hyd_spec_certificates.specs.Decided.{least_magnitude, greatest_magnitude, rule_between}
use Rattle.hyd_spec_open_ends.specs.OpenStandings.{OpenStanding, OpenRecord}
use Rattle.hyd_spec_open_ends.specs.StocksOverLengths.{carried_levels_over, carried_at_end, stocks_at_end, kept}
use Rattle.hyd_spec_open_ends.specs.RulesOverLengths.{carried_over, readings_below_over, readings_above_over}
use Rattle.hyd_spec_open_ends.specs.RulesOverLengths.{open_rule_truths, open_changes, SomeRuleIsOpen, RulesMatterOver}
use Rattle.hyd_spec_open_ends.specs.RulesOverLengths.{NoRuleMattersUpTo}
use Rattle.hyd_spec_open_ends.specs.OpenEnds.{AreSeconds, Way, ByRules, ByInstant, ByWatched, EndsIn}
use Rattle.hyd_spec_open_ends.specs.OpenEnds.{by_rules as in_by_rules, by_instant as in_by_instant}
use Rattle.hyd_spec_open_ends.specs.OpenEnds.{by_watched as in_by_watched}
use Rattle.hyd_spec_open_ends.specs.Arrivals.{MayComeBy, IsArrival, Arrives, one, competing, arrival_of}
use Rattle.hyd_spec_open_ends.specs.Arrivals.{by_rules as none_by_rules, by_instant as none_by_instant}
use Rattle.hyd_spec_open_ends.specs.OpenRecords.{levels_left, volumes_left, links_left}
use Rattle.hyd_spec_open_ends.specs.OpenRecords.{LeadsOnOpenly, continues, finishes}
use Rattle.hyd_theorems_on_spread_runs.proofs.SameBoxes.{SameBoxes, turned, some-reaches}

-- ---- one way

module _ (project : Project) (standing : OpenStanding) (g h : Grid) (r q : Record) (same : SameBoxes project g h r q)
  where
    pub inflow-same : (k : ℕ) → inflow_of_tank project g r k ≡ inflow_of_tank project h q k
    inflow-same k = λ i. slice_index_or (same.inflows i) k nowhere

    carried-same : (shortest longest : ℕ) → carried_over project g standing.known r shortest longest
        ≡ carried_over project h standing.known q shortest longest
    carried-same shortest longest = λ i. map_from (λ k (tank : Tank). carried_levels_over (walls_of project tank) tank
        (stocks_of_tank standing.known k) (inflow-same k i) shortest longest) 0 project.tanks.list

    pub below-same : (shortest longest : ℕ) → readings_below_over project g standing.known r shortest longest
        ≡ readings_below_over project h standing.known q shortest longest
    below-same shortest longest = λ i. record {
      heads = same.below i;
      levels = map (λ (level : Interval). whole level.lo) (carried-same shortest longest i);
      flows = map least_magnitude (same.flows i);
      links = links_at project standing.known;
    }

    pub above-same : (shortest longest : ℕ) → readings_above_over project g standing.known r shortest longest
        ≡ readings_above_over project h standing.known q shortest longest
    above-same shortest longest = λ i. record {
      heads = same.above i;
      levels = map (λ (level : Interval). whole level.hi) (carried-same shortest longest i);
      flows = map greatest_magnitude (same.flows i);
      links = links_at project standing.known;
    }

    pub truths-same : (seconds : ℕ)
        → open_rule_truths project g standing r seconds ≡ open_rule_truths project h standing q seconds
    truths-same seconds = λ i. map (rule_between project (standing.known.time + seconds)
        (below-same (seconds - standing.late) seconds i) (above-same (seconds - standing.late) seconds i))
        project.rules.list

    pub changes-same : (seconds : ℕ)
        → open_changes project g standing r seconds ≡ open_changes project h standing q seconds
    changes-same seconds =
        λ i. rule_changes project (map is_yes (truths-same seconds i)) (links_at project standing.known)

    pub is-open : (seconds : ℕ) → SomeRuleIsOpen project g standing r seconds
        → SomeRuleIsOpen project h standing q seconds
    is-open seconds unknown =
        subst (λ (ts : List Verdict). IsTrue (list_any is_unknown ts)) (truths-same seconds) unknown

    pub matter : (seconds : ℕ) → RulesMatterOver project g standing r seconds
        → RulesMatterOver project h standing q seconds
    matter seconds matters = record { tried = matters.tried; matters = by-case matters.matters }
      where
        by-case : SomeRuleIsOpen project g standing r seconds ⊎ (open_changes project g standing r seconds ≢ [])
            → SomeRuleIsOpen project h standing q seconds ⊎ (open_changes project h standing q seconds ≢ [])
        by-case (inl unknown) = inl (is-open seconds unknown)
        by-case (inr change) = inr (subst (λ (cs : List Change). cs ≢ []) (changes-same seconds) change)

    pub comes-by : (watch : Watch) (last : ℕ) → MayComeBy project g standing.known r watch last
        → MayComeBy project h standing.known q watch last
    comes-by watch last comes = record {
      is_watched = comes.is_watched;
      second = comes.second;
      some = comes.some;
      in_time = comes.in_time;
      tank = comes.tank;
      is_tank = comes.is_tank;
      reached = subst (λ (x : Interval). IsTrue (may_reach (walls_of project comes.tank) comes.tank
          (stocks_of_tank standing.known watch.tank) x watch.target watch.rising comes.second)) (inflow-same watch.tank)
          comes.reached;
    }

-- ---- both ways

module _ (project : Project) (standing : OpenStanding) (g h : Grid) (r q : Record) (same : SameBoxes project g h r q)
  where
    abbrev back : SameBoxes project h g q r
    back = turned project g h r q same

    pub first-matter : (seconds : ℕ) → IsLeast (RulesMatterOver project g standing r) seconds
        → IsLeast (RulesMatterOver project h standing q) seconds
    first-matter seconds first = record {
      holds = matter project standing g h r q same seconds first.holds;
      least = λ k matters. first.least k (matter project standing h g q r back k matters);
    }

    pub none-matters : (last : ℕ) → NoRuleMattersUpTo project g standing r last
        → NoRuleMattersUpTo project h standing q last
    none-matters last none seconds matters = none seconds (matter project standing h g q r back seconds matters)

    abbrev Watched : (Walls → Tank → Stocks → Interval → ℤ → Bool → ℕ → Bool) → Grid → Record → ℕ → ℕ → Type 0
    Watched test grid row cap s =
        (s ≡ cap) ⊎ ((s ≡ project.times.hydraulic) ⊎ ((1 ≤ s) × SomeReaches test project grid standing.known row s))

    first-watched : (test : Walls → Tank → Stocks → Interval → ℤ → Bool → ℕ → Bool) (cap second : ℕ)
        → IsLeast (Watched test g r cap) second → IsLeast (Watched test h q cap) second
    first-watched test cap second first = record {
      holds = to second first.holds;
      least = λ k may. first.least k (from k may);
    }
      where
        to : (s : ℕ) → Watched test g r cap s → Watched test h q cap s
        to s (inl is) = inl is
        to s (inr (inl is)) = inr (inl is)
        to s (inr (inr some)) =
            inr (inr (some.0, some-reaches project standing.known g h r q same test s some.1))

        from : (s : ℕ) → Watched test h q cap s → Watched test g r cap s
        from s (inl is) = inl is
        from s (inr (inl is)) = inr (inl is)
        from s (inr (inr some)) =
            inr (inr (some.0, some-reaches project standing.known h g q r back test s some.1))

    pub seconds-same : (cap earliest latest : ℕ) → AreSeconds project g standing.known r cap earliest latest
        → AreSeconds project h standing.known q cap earliest latest
    seconds-same cap earliest latest seconds = record {
      not_last = seconds.not_last;
      is_cap = seconds.is_cap;
      is_earliest = first-watched may_reach cap earliest seconds.is_earliest;
      is_latest = first-watched must_reach cap latest seconds.is_latest;
      in_order = seconds.in_order;
    }

    pub way-same : (way : Way) → EndsIn project g standing r way → EndsIn project h standing q way
    way-same _ (in_by_rules {cap = cap} {earliest = earliest} {latest = latest} {seconds = i} seconds first after in_time
        none_open) =
        in_by_rules (seconds-same cap earliest latest seconds) (first-matter i first) after in_time
        (λ unknown. none_open (is-open project standing h g q r back i unknown))
    way-same _ (in_by_instant {cap = cap} {earliest = earliest} {latest = latest} seconds is none) =
        in_by_instant (seconds-same cap earliest latest seconds) is (none-matters cap none)
    way-same _ (in_by_watched {cap = cap} {earliest = earliest} {latest = latest} seconds before none) =
        in_by_watched (seconds-same cap earliest latest seconds) before
        (none-matters (standing.late + latest) none)

    -- ---- what has just been reached

    arrival-same : (latest : ℕ) (watch : Watch) → IsArrival project g standing.known r latest watch
        → IsArrival project h standing.known q latest watch
    arrival-same latest watch arrival = record {
      comes = comes-by project standing g h r q same watch latest arrival.comes;
      step_later = arrival.step_later;
      same_tank = λ other comes. arrival.same_tank other (there other comes);
      same_way = λ other comes. arrival.same_way other (there other comes);
      nearest = λ other comes. arrival.nearest other (there other comes);
    }
      where
        there : (other : Watch) → MayComeBy project h standing.known q other latest
            → MayComeBy project g standing.known r other latest
        there other comes = comes-by project standing h g q r back other latest comes

module _ (project : Project) (standing : OpenStanding) (g h : Grid) (r q : Record) (same : SameBoxes project g h r q)
  where
    pub arrives-same : (way : Way) (reached : Option Watch) → Arrives project g standing.known r way reached
        → Arrives project h standing.known q way reached
    arrives-same _ _ none_by_rules = none_by_rules
    arrives-same _ _ none_by_instant = none_by_instant
    arrives-same _ _ (one {latest = latest} {watch = watch} arrival) =
        one (arrival-same project standing g h r q same latest watch arrival)
    arrives-same _ _ (competing {latest = latest} none) = competing (λ watch arrival. none watch
        (arrival-same project standing h g q r (turned project g h r q same) latest watch arrival))

    links-same : (way : Way) → links_left project g standing r way ≡ links_left project h standing q way
    links-same (ByRules seconds) = λ i. acted project (map is_yes (truths-same project standing g h r q same seconds i))
        (links_at project standing.known)
    links-same (ByInstant seconds) = λ i. links_at project standing.known
    links-same (ByWatched earliest latest) = λ i. links_at project standing.known

    -- ---- leading on

    module _ (late shortest : ℕ) where
      abbrev with-row : Record → OpenRecord
      with-row row = record { row = row; late = late; shortest = shortest }

      pub levels-same : (reached : Option Watch) → levels_left project g standing.known (with-row r) reached
          ≡ levels_left project h standing.known (with-row q) reached
      levels-same reached = λ i. map_from (λ k (tank : Tank). kept project.controls.list k
          (carried_at_end (walls_of project tank) tank (stocks_of_tank standing.known k)
          (inflow-same project standing g h r q same k i) shortest (same.length_is i) (arrival_of shortest reached k))
          (stocks_at_end (walls_of project tank) tank (stocks_of_tank standing.known k)
          (inflow-same project standing g h r q same k i) shortest (same.length_is i)
          (arrival_of shortest reached k)).level) 0 project.tanks.list

      volumes-same : (reached : Option Watch) → volumes_left project g standing.known (with-row r) reached
          ≡ volumes_left project h standing.known (with-row q) reached
      volumes-same reached = λ i. map_from (λ k (tank : Tank).
          (stocks_at_end (walls_of project tank) tank (stocks_of_tank standing.known k)
          (inflow-same project standing g h r q same k i) shortest (same.length_is i)
          (arrival_of shortest reached k)).volume) 0 project.tanks.list

      -- so a record leads on where the other does
      pub leads-openly-alike : (next : OpenStanding) → LeadsOnOpenly project g standing (with-row r) next
          → LeadsOnOpenly project h standing (with-row q) next
      leads-openly-alike next (continues c) = continues (record {
        not_last = c.not_last;
        way = c.way;
        ends = way-same project standing g h r q same c.way c.ends;
        reached = c.reached;
        arrives = arrives-same c.way c.reached c.arrives;
        shortest = c.shortest;
        longest = sym same.length_is ∙ c.longest;
        levels = c.levels ∙ levels-same c.reached;
        volumes = c.volumes ∙ volumes-same c.reached;
        tanks = c.tanks;
        controls = c.controls;
        commanded = c.commanded ∙ links-same c.way;
        number = c.number;
        time = c.time;
        late = c.late;
        unfinished = c.unfinished;
      })
      leads-openly-alike next (finishes f) = finishes (record {
        is_last = f.is_last;
        no_shortest = f.no_shortest;
        no_length = sym same.length_is ∙ f.no_length;
        next_known = f.next_known;
        next_late = f.next_late;
      })
