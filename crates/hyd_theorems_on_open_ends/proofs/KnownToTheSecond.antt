-- Where a start is known to the second and no end may be open, the ways and the first open matters are those of runs
-- without open ends.
use Rattle.std.proofs.Common.{◌≡◌, ◌≢◌, ℕ, ◌+◌, ◌-◌, ◌<◌, ◌≤◌, refl, sym, ap, subst, ◌∙◌, arith, Bool, true}
use Rattle.std.proofs.Common.{false}
use Rattle.std.proofs.Common.{List, [], map, ◌⊎◌, inl, inr}
use Rattle.std.specs.Prelude.{position, Some}
use Rattle.std.specs.List.{list_any}
use Rattle.std.specs.Int.{int_max, int_min}
use Rattle.hyd_num.specs.Rational.{whole}
use Rattle.hyd_net.specs.Sound.{IsSound}
use Rattle.hyd_spec.specs.ProgramTypes.{Project}
use Rattle.hyd_spec.specs.Lists.{map_from}
use Rattle.hyd_spec.specs.Tank.{walls_of}
use Rattle.hyd_spec.specs.Rules.{rule_changes}
use Rattle.hyd_spec.specs.PeriodLength.{IsLeast, step}
use Rattle.hyd_spec_certificates.specs.Interval.{Interval}
use Rattle.hyd_spec_certificates.specs.Stocks.{carried_levels}
use Rattle.hyd_spec_certificates.specs.declared.Verdict.{Verdict}
use Rattle.hyd_spec_certificates.specs.ThreeValuedLogic.{is_yes, is_unknown}
use Rattle.hyd_spec_certificates.specs.PeriodNetwork.{Grid}
use Rattle.hyd_spec_certificates.specs.RecordAndStanding.{Record, Standing}
use Rattle.hyd_spec_certificates.specs.Decided.{heads_below, heads_above, flow_boxes, stocks_of_tank, inflow_of_tank}
use Rattle.hyd_spec_certificates.specs.Decided.{links_at, least_magnitude, greatest_magnitude, carried_at}
use Rattle.hyd_spec_certificates.specs.Decided.{readings_below, readings_above, rule_between, rule_truths}
use Rattle.hyd_spec_certificates.specs.Decided.{RulesMatter, IsClockLength, IsEarliestEnd, IsLatestEnd}
use Rattle.hyd_spec_certificates.specs.Decided.{SomeMayReach, SomeMustReach, OpenRule, IsOpenRule, IsOpenClause}
use Rattle.hyd_spec_certificates.specs.Decided.{End, EndsBy}
use Rattle.hyd_spec_certificates.specs.Decided.{by_rules as decided_by_rules, by_clock as decided_by_clock}
use Rattle.hyd_spec_certificates.specs.Decided.{rule_is_open as decided_open, event_is_open as decided_event}
use Rattle.hyd_spec_open_ends.specs.InstantsOfClock.{AreSecondsToInstant}
use Rattle.hyd_spec_open_ends.specs.OpenStandings.{OpenStanding}
use Rattle.hyd_spec_open_ends.specs.StocksOverLengths.{hull}
use Rattle.hyd_spec_open_ends.specs.RulesOverLengths.{carried_over, readings_below_over, readings_above_over}
use Rattle.hyd_spec_open_ends.specs.RulesOverLengths.{open_rule_truths, RulesMatterOver, SomeRuleIsOpen}
use Rattle.hyd_spec_open_ends.specs.RulesOverLengths.{NoRuleMattersUpTo, IsOpenRuleOver}
use Rattle.hyd_spec_open_ends.specs.OpenEnds.{AreSeconds, Way, EndsIn, late_at_end, by_rules, by_instant, by_watched}
use Rattle.hyd_spec_open_ends.specs.OpenEnds.{last_end, IsFirstOpen, rule_is_open, rule_parts, too_wide}
use Rattle.hyd_spec_open_ends.specs.OpenEnds.{rule_is_open_between, rule_acts_between}
use Rattle.hyd_lemmas.proofs.Integers.{max_is, min_is}
use Rattle.hyd_theorems_on_open_ends.specs.WaysInside.{known_end}
use Rattle.hyd_theorems_on_open_ends.proofs.LengthsOverStarts.{ClockEnd, by_step, by_instant as at_instant, clock-end}
use Rattle.hyd_theorems_on_open_ends.proofs.LengthsOverStarts.{instant-ends}

-- ---- one length

hull-same : (x : Interval) → hull x x ≡ x
hull-same x =
    let p : int_min x.lo x.lo ≡ x.lo = min_is (λ m. m ≡ x.lo) x.lo x.lo (λ e. refl) (λ e. refl) in
    let q : int_max x.hi x.hi ≡ x.hi = max_is (λ m. m ≡ x.hi) x.hi x.hi (λ e. refl) (λ e. refl) in
    λ i. record { lo = p i; hi = q i }

module _ (project : Project) (grid : Grid) (standing : Standing) (row : Record) (shortest seconds : ℕ)
    (same : shortest ≡ seconds) where
  carried-same : carried_over project grid standing row shortest seconds
      ≡ carried_at project grid standing row seconds
  carried-same =
      (λ i. carried_over project grid standing row (same i) seconds)
      ∙ (λ i. map_from (λ k tank. hull-same (carried_levels (walls_of project tank) tank (stocks_of_tank standing k)
      (inflow_of_tank project grid row k) seconds) i) 0 project.tanks.list)

  below-same : readings_below_over project grid standing row shortest seconds
      ≡ readings_below project grid standing row seconds
  below-same = λ i. record {
    heads = heads_below grid row;
    levels = map (λ (level : Interval). whole level.lo) (carried-same i);
    flows = map least_magnitude (flow_boxes grid row);
    links = links_at project standing;
  }

  above-same : readings_above_over project grid standing row shortest seconds
      ≡ readings_above project grid standing row seconds
  above-same = λ i. record {
    heads = heads_above grid row;
    levels = map (λ (level : Interval). whole level.hi) (carried-same i);
    flows = map greatest_magnitude (flow_boxes grid row);
    links = links_at project standing;
  }

-- ---- the seconds

module _ (project : Project) (sound : IsSound project) (time cap e : ℕ) (is_cap : AreSecondsToInstant project time cap)
    (Reaches : ℕ → Type 0) where
  -- the clock allows the period the lesser of the hydraulic step and the seconds to the next instant
  clock-by-instant : cap ≤ project.times.hydraulic → IsClockLength project time cap
  clock-by-instant less = record {
    holds = instant-ends project time (time + cap) is_cap.holds.0 is_cap.holds.1;
    least = λ k ends. by-end k (clock-end project time k ends);
  }
    where
      by-end : (k : ℕ) → ClockEnd project time k → time + cap ≤ k
      by-end k (by_step is) = omega (arith, is, less)
      by-end k (at_instant later is) = is_cap.least k (later, is)

  clock-by-step : project.times.hydraulic ≤ cap → IsClockLength project time project.times.hydraulic
  clock-by-step less = record {
    holds = step (let h = sound.times.hydraulic in omega (arith, h)) refl;
    least = λ k ends. by-end k (clock-end project time k ends);
  }
    where
      by-end : (k : ℕ) → ClockEnd project time k → time + project.times.hydraulic ≤ k
      by-end k (by_step is) = omega (arith, is)
      by-end k (at_instant later is) = let l = is_cap.least k (later, is) in omega (arith, l, less)

  abbrev Watched : ℕ → Type 0
  Watched s = (s ≡ cap) ⊎ ((s ≡ project.times.hydraulic) ⊎ ((1 ≤ s) × Reaches s))

  abbrev Clocked : ℕ → Type 0
  Clocked s = IsClockLength project time s ⊎ ((1 ≤ s) × Reaches s)

  end-same : IsLeast Watched e → IsLeast Clocked e
  end-same first = record { holds = holds first.holds; least = least }
    where
      holds : Watched e → Clocked e
      holds (inl is) = inl (subst (IsClockLength project time) (sym is)
          (clock-by-instant (let l = first.least project.times.hydraulic (inr (inl refl)) in omega (arith, is, l))))
      holds (inr (inl is)) = inl (subst (IsClockLength project time) (sym is)
          (clock-by-step (let l = first.least cap (inl refl) in omega (arith, is, l))))
      holds (inr (inr r)) = inr r

      by-clock : (k : ℕ) → ClockEnd project time (time + k) → e ≤ k
      by-clock k (by_step is) = let l = first.least project.times.hydraulic (inr (inl refl)) in omega (arith, is, l)
      by-clock k (at_instant later is) = let l = first.least cap (inl refl) in
          let m = is_cap.least (time + k) (later, is) in omega (arith, l, m)

      least : (k : ℕ) → Clocked k → e ≤ k
      least k (inl clock) = by-clock k (clock-end project time (time + k) clock.holds)
      least k (inr r) = first.least k (inr (inr r))

-- ---- at a start that is known to the second

module _ (project : Project) (sound : IsSound project) (grid : Grid) (standing : OpenStanding) (row : Record)
    (exact : standing.late ≡ 0) where
  one-length : (seconds : ℕ) → seconds - standing.late ≡ seconds
  one-length seconds = omega (arith, exact)

  truths-same : (seconds : ℕ) → open_rule_truths project grid standing row seconds
      ≡ rule_truths project grid standing.known row seconds
  truths-same seconds =
      let below = below-same project grid standing.known row (seconds - standing.late) seconds (one-length seconds) in
      let above = above-same project grid standing.known row (seconds - standing.late) seconds (one-length seconds) in
      λ i. map (rule_between project (standing.known.time + seconds) (below i) (above i)) project.rules.list

  abbrev Matters : List Verdict → Type 0
  Matters truths = (list_any is_unknown truths ≡ true)
      ⊎ (rule_changes project (map is_yes truths) (links_at project standing.known) ≢ [])

  matters-there : (seconds : ℕ) → RulesMatterOver project grid standing row seconds
      → RulesMatter project grid standing.known row seconds
  matters-there seconds m = record { tried = m.tried; matters = subst Matters (truths-same seconds) m.matters }

  matters-here : (seconds : ℕ) → RulesMatter project grid standing.known row seconds
      → RulesMatterOver project grid standing row seconds
  matters-here seconds m = record { tried = m.tried; matters = subst Matters (sym (truths-same seconds)) m.matters }

  first-there : (seconds : ℕ) → IsLeast (RulesMatterOver project grid standing row) seconds
      → IsLeast (RulesMatter project grid standing.known row) seconds
  first-there seconds first = record {
    holds = matters-there seconds first.holds;
    least = λ k m. first.least k (matters-here k m);
  }

  none-there : (last other : ℕ) → other ≤ last → NoRuleMattersUpTo project grid standing row last
      → (seconds : ℕ) → RulesMatter project grid standing.known row seconds → other < seconds
  none-there last other le none seconds m = let l = none seconds (matters-here seconds m) in omega (arith, l, le)

  known-there : (seconds : ℕ) → (SomeRuleIsOpen project grid standing row seconds → ⊥)
      → list_any is_unknown (rule_truths project grid standing.known row seconds) ≡ false
  known-there seconds closed =
      not-true (list_any is_unknown (rule_truths project grid standing.known row seconds))
      (λ unknown. closed (ap (list_any is_unknown) (truths-same seconds) ∙ unknown))
    where
      not-true : (b : Bool) → (b ≡ true → ⊥) → b ≡ false
      not-true true other = absurd (other refl)
      not-true false other = refl

  open-there : (seconds : ℕ) (open_rule : OpenRule) → IsOpenRuleOver project grid standing row seconds open_rule
      → IsOpenRule project grid standing.known row seconds open_rule
  open-there seconds open_rule is =
      let below = below-same project grid standing.known row (seconds - standing.late) seconds (one-length seconds) in
      let above = above-same project grid standing.known row (seconds - standing.late) seconds (one-length seconds) in
      record {
        first_rule = subst (λ ts. position is_unknown ts ≡ Some open_rule.rule) (truths-same seconds)
            is.first_rule;
        rule = is.rule;
        is_rule = is.is_rule;
        clause_is = subst (λ r. IsOpenClause project (standing.known.time + seconds) r
            (readings_above project grid standing.known row seconds) is.rule open_rule.clause open_rule.lo open_rule.hi)
            below
            (subst (λ r. IsOpenClause project (standing.known.time + seconds)
            (readings_below_over project grid standing.known row (seconds - standing.late) seconds) r is.rule
            open_rule.clause open_rule.lo open_rule.hi) above is.clause_is);
      }

  earliest-there : (cap earliest latest : ℕ) → AreSeconds project grid standing.known row cap earliest latest
      → IsEarliestEnd project grid standing.known row earliest
  earliest-there cap earliest latest seconds = end-same project sound standing.known.time cap earliest seconds.is_cap
      (SomeMayReach project grid standing.known row) seconds.is_earliest

  latest-there : (cap earliest latest : ℕ) → AreSeconds project grid standing.known row cap earliest latest
      → IsLatestEnd project grid standing.known row latest
  latest-there cap earliest latest seconds = end-same project sound standing.known.time cap latest seconds.is_cap
      (SomeMustReach project grid standing.known row) seconds.is_latest

  -- the ways are ends without open ones
  pub ends_as_known : (way : Way) → EndsIn project grid standing row way → late_at_end standing.late way ≤ 0
      → EndsBy project grid standing.known row (known_end way)
  ends_as_known _ (by_rules {cap = cap} {earliest = earliest} {latest = latest} {seconds = i} seconds first after
      in_time
      closed) within = decided_by_rules
      (record {
        not_last = seconds.not_last;
        earliest = earliest;
        is_earliest = earliest-there cap earliest latest seconds;
        in_time = in_time;
        first = first-there i first;
      })
      (known-there i closed)
  ends_as_known _ (by_instant {cap = cap} {earliest = earliest} {latest = latest} seconds same none) within =
      let last = seconds.is_latest.least cap (inl refl) in let order = seconds.in_order in
      let e : latest ≡ cap = omega (arith, last, order, same) in
      decided_by_clock
      (record {
        not_last = seconds.not_last;
        is_earliest = subst (IsEarliestEnd project grid standing.known row) same
            (earliest-there cap earliest latest seconds);
        none = none-there cap cap (omega arith) none;
      })
      (subst (IsLatestEnd project grid standing.known row) e (latest-there cap earliest latest seconds))
  ends_as_known _ (by_watched {cap = cap} {earliest = earliest} {latest = latest} seconds before none) within =
      let order = seconds.in_order in
      let e : latest ≡ earliest = omega (arith, order, within, exact) in
      decided_by_clock
      (record {
        not_last = seconds.not_last;
        is_earliest = earliest-there cap earliest latest seconds;
        none = none-there (standing.late + latest) earliest (omega (arith, e)) none;
      })
      (subst (IsLatestEnd project grid standing.known row) e (latest-there cap earliest latest seconds))

  -- and so are the first open matters
  pub opens_as_known : (end : End) → IsFirstOpen project grid standing row 0 end
      → EndsBy project grid standing.known row end
  opens_as_known _ (rule_is_open {cap = cap} {earliest = earliest} {latest = latest} {seconds = i}
      {open_rule = open_rule} seconds first in_time is) = decided_open
      (record {
        not_last = seconds.not_last;
        earliest = earliest;
        is_earliest = earliest-there cap earliest latest seconds;
        in_time = in_time;
        first = first-there i first;
      })
      (open-there i open_rule is)
  opens_as_known _ (rule_parts seconds first in_time early closed) =
      absurd (let l = first.holds.tried.later in omega (arith, l, early, exact))
  opens_as_known _ (too_wide {cap = cap} {earliest = earliest} {latest = latest} seconds none sooner wide) =
      let most = seconds.is_latest.least cap (inl refl) in
      let e : latest ≡ last_end standing.late latest cap = omega (arith, most, exact) in
      decided_event
      (record {
        not_last = seconds.not_last;
        is_earliest = earliest-there cap earliest latest seconds;
        none = none-there earliest earliest (omega arith) none;
      })
      (subst (IsLatestEnd project grid standing.known row) e (latest-there cap earliest latest seconds))
      (λ same. elim wide [
        | inl beyond ↦ absurd (omega (arith, same, most, exact, sooner, beyond))
        | inr more ↦ absurd (omega (arith, same, most, exact, more))
      ])
  opens_as_known _ (rule_is_open_between seconds before narrow first later by is) =
      absurd (omega (arith, narrow, later, by, exact))
  opens_as_known _ (rule_acts_between seconds before narrow first later by closed) =
      absurd (omega (arith, narrow, later, by, exact))
