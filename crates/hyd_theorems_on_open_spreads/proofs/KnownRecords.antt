-- A record that is valid for a spread without open ends is valid where ends may be open, with a start and an end that are
-- known to the second, if the words for open ends decide its end and cut nothing there.
use Rattle.std.proofs.Common.{◌≡◌, ◌≢◌, ℕ, ◌+◌, ◌-◌, ◌≤◌, refl, sym, ap, ◌∙◌, arith, List, map, inl, inr}
use Rattle.std.specs.List.{AllByRecursion}
use Rattle.std.proofs.lemmas.Bool.{cases_lt}
use Rattle.hyd_net.specs.Sound.{IsSound}
use Rattle.hyd_spec.specs.ProgramTypes.{Project, LinkState}
use Rattle.hyd_spec.specs.Rules.{acted}
use Rattle.hyd_spec_certificates.specs.ThreeValuedLogic.{is_yes}
use Rattle.hyd_spec_certificates.specs.PeriodNetwork.{Grid}
use Rattle.hyd_spec_certificates.specs.RecordAndStanding.{Record, Standing}
use Rattle.hyd_spec_certificates.specs.Decided.{links_at, rule_truths, End, EndsBy, ByRules as EndsByRules, WithoutRules}
use Rattle.hyd_spec_certificates.specs.Decided.{RuleIsOpen, EventIsOpen}
use Rattle.hyd_spec_certificates.specs.Valid.{LeavesLinks, by_rules as left_by_rules, by_clock as left_by_clock}
use Rattle.hyd_spec_certificates.specs.Valid.{LeadsOn, continues as leads, finishes as finished}
use Rattle.hyd_spec_open_ends.specs.OpenStandings.{OpenStanding}
use Rattle.hyd_spec_open_ends.specs.OpenEnds.{Way, ByRules, ByInstant, ByWatched, EndsIn, longest_length, late_at_end}
use Rattle.hyd_spec_open_ends.specs.OpenEnds.{by_watched as in_by_watched, too_wide}
use Rattle.hyd_spec_open_ends.specs.OpenRecords.{links_left, LeadsOnOpenly, continues, finishes}
use Rattle.hyd_spec_spread.specs.Spreads.{Spread}
use Rattle.hyd_spec_spread_runs.specs.OutermostPairs.{Pair, spanned, spanning}
use Rattle.hyd_spec_spread_runs.specs.RunsForSpreads.{IsValidOver, FoundOver, IsRunOver, IsRunOverFrom}
use Rattle.hyd_spec_spread_runs.specs.RunsForSpreads.{none as none_closed, more as more_closed, standing_within}
use Rattle.hyd_spec_open_spreads.specs.OpenRunsForSpreads.{IsValidOpenlyOver, IsOpenRunOverFrom, none, more}
use Rattle.hyd_spec_open_spreads.specs.OpenRunsForSpreads.{IsOpenRunOver}
use Rattle.hyd_theorems_on_definitions.proofs.OneEndOfPeriod.{one_end}
use Rattle.hyd_theorems_on_open_ends.proofs.KnownToTheSecond.{ends_as_known, opens_as_known}
use Rattle.hyd_theorems_on_open_spreads.specs.RunsAsOthers.{known_standing, known_record, HasUncutEnd, ClosedEndIsUncut}
use Rattle.hyd_theorems_on_open_spreads.specs.RunsAsOthers.{known_found}
use Rattle.hyd_theorems_on_open_spreads.proofs.KnownStarts.{truths-there, one-length}

-- ---- ends

abbrev second-of : End → ℕ
second-of (EndsByRules seconds) = seconds
second-of (WithoutRules seconds) = seconds
second-of (RuleIsOpen rule) = 0
second-of (EventIsOpen earliest latest) = 0

rules-or-not : (a b : ℕ) → ◌≡◌ {A = End} (EndsByRules a) (WithoutRules b) → ⊥
rules-or-not a b e = cc

rules-or-event : (a b c : ℕ) → ◌≡◌ {A = End} (EndsByRules a) (EventIsOpen b c) → ⊥
rules-or-event a b c e = cc

clock-or-event : (a b c : ℕ) → ◌≡◌ {A = End} (WithoutRules a) (EventIsOpen b c) → ⊥
clock-or-event a b c e = cc

-- ---- one record, on any grid

module _ (project : Project) (sound : IsSound project) (grid : Grid) (standing : Standing) (row : Record) where
  abbrev start : OpenStanding
  start = known_standing standing

  no-event : (seconds : ℕ) (links : List LinkState) → LeavesLinks project grid standing row seconds links
      → (a b : ℕ) → EndsBy project grid standing row (EventIsOpen a b) → ⊥
  no-event seconds _ (left_by_rules by) a b event =
      rules-or-event seconds a b (one_end project grid standing row (EndsByRules seconds) (EventIsOpen a b) by event)
  no-event seconds _ (left_by_clock by) a b event =
      clock-or-event seconds a b (one_end project grid standing row (WithoutRules seconds) (EventIsOpen a b) by event)

  -- the end is open by no second
  narrow : (way : Way) → EndsIn project grid start row way → (seconds : ℕ) (links : List LinkState)
      → LeavesLinks project grid standing row seconds links → late_at_end 0 way ≤ 0
  narrow (ByRules i) ends seconds links leaves = omega arith
  narrow (ByInstant i) ends seconds links leaves = omega arith
  narrow _ (in_by_watched {cap = cap} {earliest = earliest} {latest = latest} times before idle) seconds links leaves =
      elim (cases_lt 0 ((0 + latest) - earliest)) [
        | inl wider ↦ absurd (
            let order = times.in_order in
            no-event seconds links leaves earliest _
            (opens_as_known project sound grid start row refl _
            (too_wide times (λ s matters. let l = idle s matters in omega (arith, l, order))
            (omega (arith, before, order)) (inr wider))))
        | inr le ↦ le
      ]

  -- the length and the links that are left are those of the way
  record IsOf (way : Way) (seconds : ℕ) (links : List LinkState) : Type 0 where
    length_is : seconds ≡ longest_length way
    left : links ≡ links_left project grid start row way

  same-end : (way : Way) → EndsIn project grid start row way → late_at_end 0 way ≤ 0
      → (seconds : ℕ) (links : List LinkState)
      → LeavesLinks project grid standing row seconds links → IsOf way seconds links
  same-end (ByRules t) ends within s _ (left_by_rules by) =
      let n : s ≡ t = ap second-of (one_end project grid standing row (EndsByRules s) (EndsByRules t) by
      (ends_as_known project sound grid start row refl (ByRules t) ends within)) in
      let truths = truths-there project grid start row refl t in
      record {
        length_is = n;
        left = (λ i. acted project (map is_yes (rule_truths project grid standing row (n i)))
            (links_at project standing))
            ∙ (λ i. acted project (map is_yes (sym truths i)) (links_at project standing));
      }
  same-end (ByRules t) ends within s _ (left_by_clock by) = absurd (rules-or-not t s
      (sym (one_end project grid standing row (WithoutRules s) (EndsByRules t) by
      (ends_as_known project sound grid start row refl (ByRules t) ends within))))
  same-end (ByInstant t) ends within s _ (left_by_rules by) = absurd (rules-or-not s t
      (one_end project grid standing row (EndsByRules s) (WithoutRules t) by
      (ends_as_known project sound grid start row refl (ByInstant t) ends within)))
  same-end (ByInstant t) ends within s _ (left_by_clock by) = record {
    length_is = ap second-of (one_end project grid standing row (WithoutRules s) (WithoutRules t) by
        (ends_as_known project sound grid start row refl (ByInstant t) ends within));
    left = refl;
  }
  same-end (ByWatched e l) ends within s _ (left_by_rules by) = absurd (rules-or-not s e
      (one_end project grid standing row (EndsByRules s) (WithoutRules e) by
      (ends_as_known project sound grid start row refl (ByWatched e l) ends within)))
  same-end (ByWatched e l) ends within s _ (left_by_clock by) = record {
    length_is = ap second-of (one_end project grid standing row (WithoutRules s) (WithoutRules e) by
        (ends_as_known project sound grid start row refl (ByWatched e l) ends within))
        ∙ (one-length project sound grid start row refl (ByWatched e l) ends within).1;
    left = refl;
  }

  pub leads-openly : (next : Standing)
      → (standing.time ≢ project.times.duration → HasUncutEnd project grid standing row)
      → LeadsOn project grid standing row next
      → LeadsOnOpenly project grid start (known_record row) (known_standing next)
  leads-openly next uncut (leads c) =
      let u = uncut c.not_last in
      let within = narrow u.way u.ends row.length next.commanded c.leaves_links in
      let same = same-end u.way u.ends within row.length next.commanded c.leaves_links in
      let one = one-length project sound grid start row refl u.way u.ends within in
      continues (record {
        not_last = c.not_last;
        way = u.way;
        ends = u.ends;
        reached = u.reached;
        arrives = u.arrives;
        shortest = same.length_is ∙ sym one.0;
        longest = same.length_is;
        levels = c.levels ∙ sym u.levels;
        volumes = c.volumes ∙ sym u.volumes;
        tanks = c.tanks;
        controls = c.controls;
        commanded = same.left;
        number = c.number;
        time = c.time ∙ ap (λ (s : ℕ). standing.time + s) (same.length_is ∙ sym one.1);
        late = omega (arith, within);
        unfinished = c.unfinished;
      })
  leads-openly next uncut (finished f) = finishes (record {
    is_last = f.is_last;
    no_shortest = f.no_length;
    no_length = f.no_length;
    next_known = f.next_is;
    next_late = refl;
  })

-- ---- records and runs for a spread

module _ (project : Project) (sound : IsSound project) (spread : Spread) where
  pub valid-openly : (standing : Standing) (pair : Pair) (row : Record) (next : Standing)
      → IsValidOver project spread standing pair row next
      → (standing.time ≢ project.times.duration
      → HasUncutEnd project (spanned pair) standing (spanning pair row))
      → IsValidOpenlyOver project spread (known_standing standing) pair (known_record row) (known_standing next)
  valid-openly standing pair row next valid uncut = record {
    unfinished = valid.unfinished;
    number = valid.number;
    time = valid.time;
    late = refl;
    demands = valid.demands;
    are_pair = valid.are_pair;
    certificates = valid.certificates;
    leads_on = leads-openly project sound (spanned pair) standing (spanning pair row) next uncut valid.leads_on;
  }

  run-openly : (standing : Standing) (founds : List FoundOver) (last : Standing)
      → IsRunOverFrom project spread standing founds last → AllByRecursion (ClosedEndIsUncut project) founds
      → IsOpenRunOverFrom project spread 0 (known_standing standing) (map known_found founds) (known_standing last)
  run-openly _ _ last none_closed uncut = none
  run-openly _ _ last (more_closed {found = found} {rest = rest} valid go) uncut =
      more {here = known_found found}
      (valid-openly found.standing found.pair found.row found.next valid uncut.0) (omega arith)
      (run-openly found.next rest last go uncut.1)

  pub runs-openly : (founds : List FoundOver) (last : Standing) → IsRunOver project spread founds last
      → AllByRecursion (ClosedEndIsUncut project) founds
      → IsOpenRunOver project spread 0 (map known_found founds) (known_standing last)
  runs-openly founds last run uncut = record {
    start = run.start;
    run = run-openly (standing_within project spread) founds last run.run uncut;
  }
