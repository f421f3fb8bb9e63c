-- The length that a record gives matters to none of its other matters, so a valid record has one length.
use Rattle.std.proofs.Common.{◌≡◌, ℕ, ◌≤◌, ◌⊎◌, inl, inr, List, sym, ◌∙◌}
use Rattle.hyd_spec.specs.ProgramTypes.{Project, LinkState}
use Rattle.hyd_spec_certificates.specs.PeriodNetwork.{Grid}
use Rattle.hyd_spec_certificates.specs.RecordAndStanding.{Record, Standing}
use Rattle.hyd_spec_certificates.specs.Decided.{SomeMayReach, SomeMustReach, IsClockLength, IsEarliestEnd, IsLatestEnd}
use Rattle.hyd_spec_certificates.specs.Decided.{RulesMatter, OpenRule, IsOpenRule, IsFirstMatter, NoRuleMatters, End}
use Rattle.hyd_spec_certificates.specs.Decided.{ByRules, WithoutRules, EndsBy, by_rules, rule_is_open, by_clock}
use Rattle.hyd_spec_certificates.specs.Decided.{event_is_open}
use Rattle.hyd_spec_certificates.specs.Valid.{LeavesLinks, by_rules as left_by_rules, by_clock as left_by_clock}
use Rattle.hyd_spec_certificates.specs.Valid.{LeadsOn, continues, finishes}
use Rattle.hyd_theorems_on_definitions.proofs.OneEndOfPeriod.{one_end}

module _ (project : Project) (grid : Grid) (standing : Standing) where
  -- the same record with another length
  abbrev again : Record → ℕ → Record
  again row m = record row { length = m }

  may_again : (row : Record) (m s : ℕ) → SomeMayReach project grid standing row s
      → SomeMayReach project grid standing (again row m) s
  may_again row m s r = record {
    watch = r.watch;
    is_watched = r.is_watched;
    tank = r.tank;
    is_tank = r.is_tank;
    reached = r.reached;
  }

  must_again : (row : Record) (m s : ℕ) → SomeMustReach project grid standing row s
      → SomeMustReach project grid standing (again row m) s
  must_again row m s r = record {
    watch = r.watch;
    is_watched = r.is_watched;
    tank = r.tank;
    is_tank = r.is_tank;
    reached = r.reached;
  }

  matters_again : (row : Record) (m s : ℕ) → RulesMatter project grid standing row s
      → RulesMatter project grid standing (again row m) s
  matters_again row m s r = record { tried = r.tried; matters = r.matters }

  may_end_again : (row : Record) (m s : ℕ) → IsClockLength project standing.time s
      ⊎ ((1 ≤ s) × SomeMayReach project grid standing row s)
      → IsClockLength project standing.time s ⊎ ((1 ≤ s) × SomeMayReach project grid standing (again row m) s)
  may_end_again row m s (inl c) = inl c
  may_end_again row m s (inr r) = inr (r.0, may_again row m s r.1)

  must_end_again : (row : Record) (m s : ℕ) → IsClockLength project standing.time s
      ⊎ ((1 ≤ s) × SomeMustReach project grid standing row s)
      → IsClockLength project standing.time s ⊎ ((1 ≤ s) × SomeMustReach project grid standing (again row m) s)
  must_end_again row m s (inl c) = inl c
  must_end_again row m s (inr r) = inr (r.0, must_again row m s r.1)

  earliest_again : (row : Record) (m e : ℕ) → IsEarliestEnd project grid standing row e
      → IsEarliestEnd project grid standing (again row m) e
  earliest_again row m e is =
      record {
        holds = may_end_again row m e is.holds;
        least = λ s ends. is.least s (may_end_again (again row m) row.length s ends);
      }

  latest_again : (row : Record) (m e : ℕ) → IsLatestEnd project grid standing row e
      → IsLatestEnd project grid standing (again row m) e
  latest_again row m e is =
      record {
        holds = must_end_again row m e is.holds;
        least = λ s ends. is.least s (must_end_again (again row m) row.length s ends);
      }

  first_again : (row : Record) (m s : ℕ) → IsFirstMatter project grid standing row s
      → IsFirstMatter project grid standing (again row m) s
  first_again row m s is = record {
    not_last = is.not_last;
    earliest = is.earliest;
    is_earliest = earliest_again row m is.earliest is.is_earliest;
    in_time = is.in_time;
    first = record {
      holds = matters_again row m s is.first.holds;
      least = λ k matters. is.first.least k (matters_again (again row m) row.length k matters);
    };
  }

  none_again : (row : Record) (m e : ℕ) → NoRuleMatters project grid standing row e
      → NoRuleMatters project grid standing (again row m) e
  none_again row m e is = record {
    not_last = is.not_last;
    is_earliest = earliest_again row m e is.is_earliest;
    none = λ s matters. is.none s (matters_again (again row m) row.length s matters);
  }

  open_again : (row : Record) (m s : ℕ) (open_rule : OpenRule) → IsOpenRule project grid standing row s open_rule
      → IsOpenRule project grid standing (again row m) s open_rule
  open_again row m s open_rule is = record {
    first_rule = is.first_rule;
    rule = is.rule;
    is_rule = is.is_rule;
    clause_is = is.clause_is;
  }

  pub ends_again : (row : Record) (m : ℕ) (e : End) → EndsBy project grid standing row e
      → EndsBy project grid standing (again row m) e
  ends_again row m _ (by_rules {seconds = s} is closed) = by_rules (first_again row m s is) closed
  ends_again row m _ (rule_is_open {seconds = s} {open_rule = o} is found) = rule_is_open (first_again row m s is)
      (open_again row m s o found)
  ends_again row m _ (by_clock {second = e} none latest) = by_clock (none_again row m e none)
      (latest_again row m e latest)
  ends_again row m _ (event_is_open {earliest = e} {latest = l} none latest differ) =
      event_is_open (none_again row m e none) (latest_again row m l latest) differ

  -- ---- one length

  -- How a period that isn't the last ends, by its length.
  data EndsAfter (row : Record) (n : ℕ) : Type 0 where
    rules : EndsBy project grid standing row (ByRules n) → EndsAfter row n
    clock : EndsBy project grid standing row (WithoutRules n) → EndsAfter row n

  ends_after : (row : Record) (n : ℕ) (links : List LinkState) → LeavesLinks project grid standing row n links
      → EndsAfter row n
  ends_after row n _ (left_by_rules e) = rules e
  ends_after row n _ (left_by_clock e) = clock e

  same_after : (row : Record) (n m : ℕ) → EndsAfter row n → EndsAfter (again row m) m → n ≡ m
  same_after row n m (rules e) (rules f) = let same = one_end project grid standing row (ByRules n) (ByRules m) e
      (ends_again (again row m) row.length (ByRules m) f) in cc
  same_after row n m (rules e) (clock f) = absurd (let same = one_end project grid standing row (ByRules n)
      (WithoutRules m) e (ends_again (again row m) row.length (WithoutRules m) f) in cc)
  same_after row n m (clock e) (rules f) = absurd (let same = one_end project grid standing row (WithoutRules n)
      (ByRules m) e (ends_again (again row m) row.length (ByRules m) f) in cc)
  same_after row n m (clock e) (clock f) = let same = one_end project grid standing row (WithoutRules n)
      (WithoutRules m) e (ends_again (again row m) row.length (WithoutRules m) f) in cc

  pub one_length : (row : Record) (m : ℕ) (next other : Standing) → LeadsOn project grid standing row next
      → LeadsOn project grid standing (again row m) other
      → row.length ≡ m
  one_length row m next other (continues c) (continues d) =
      same_after row row.length m (ends_after row row.length next.commanded c.leaves_links)
      (ends_after (again row m) m other.commanded d.leaves_links)
  one_length row m next other (continues c) (finishes f) = absurd (c.not_last f.is_last)
  one_length row m next other (finishes f) (continues c) = absurd (c.not_last f.is_last)
  one_length row m next other (finishes f) (finishes g) = f.no_length ∙ sym g.no_length
