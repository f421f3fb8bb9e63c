-- Where starts and ends are known to the second, valid records end as the words without open ends say.
use Rattle.std.proofs.Common.{◌≡◌, ◌≢◌, ℕ, ◌+◌, ◌-◌, ◌≤◌, refl, sym, ap, subst, ◌∙◌, arith, List, map}
use Rattle.std.specs.List.{AllByRecursion}
use Rattle.std.specs.Int.{int_max, int_min}
use Rattle.hyd_num.specs.Rational.{whole}
use Rattle.hyd_net.specs.Sound.{IsSound}
use Rattle.hyd_spec.specs.ProgramTypes.{Project, LinkState}
use Rattle.hyd_spec.specs.Lists.{map_from}
use Rattle.hyd_spec.specs.Rules.{acted}
use Rattle.hyd_spec.specs.Tank.{walls_of}
use Rattle.hyd_spec_certificates.specs.Interval.{Interval}
use Rattle.hyd_spec_certificates.specs.Stocks.{carried_levels}
use Rattle.hyd_spec_certificates.specs.declared.Verdict.{Verdict}
use Rattle.hyd_spec_certificates.specs.ThreeValuedLogic.{is_yes}
use Rattle.hyd_spec_certificates.specs.PeriodNetwork.{Grid}
use Rattle.hyd_spec_certificates.specs.RecordAndStanding.{Record}
use Rattle.hyd_spec_certificates.specs.Decided.{links_at, rule_truths, rule_between, heads_below, heads_above}
use Rattle.hyd_spec_certificates.specs.Decided.{flow_boxes, stocks_of_tank, inflow_of_tank, carried_at}
use Rattle.hyd_spec_certificates.specs.Decided.{least_magnitude, greatest_magnitude, readings_below, readings_above}
use Rattle.hyd_spec_certificates.specs.Valid.{LeavesLinks, by_rules as left_by_rules, by_clock as left_by_clock}
use Rattle.hyd_spec_certificates.specs.Valid.{LeadsOn, continues as leads, finishes as finished}
use Rattle.hyd_spec_open_ends.specs.OpenStandings.{OpenStanding, OpenRecord}
use Rattle.hyd_spec_open_ends.specs.StocksOverLengths.{hull}
use Rattle.hyd_spec_open_ends.specs.RulesOverLengths.{carried_over, readings_below_over, readings_above_over}
use Rattle.hyd_spec_open_ends.specs.RulesOverLengths.{open_rule_truths}
use Rattle.hyd_spec_open_ends.specs.OpenEnds.{Way, ByRules, ByInstant, ByWatched, EndsIn, shortest_length}
use Rattle.hyd_spec_open_ends.specs.OpenEnds.{longest_length, first_end, late_at_end}
use Rattle.hyd_spec_open_ends.specs.OpenEnds.{by_watched as in_by_watched}
use Rattle.hyd_spec_open_ends.specs.OpenRecords.{links_left, ContinuesOpenly, LeadsOnOpenly, continues, finishes}
use Rattle.hyd_spec_spread.specs.Spreads.{Spread}
use Rattle.hyd_spec_spread_runs.specs.OutermostPairs.{Pair, spanned, spanning}
use Rattle.hyd_spec_spread_runs.specs.RunsForSpreads.{IsValidOver, IsRunOver, IsRunOverFrom, none as none_closed}
use Rattle.hyd_spec_spread_runs.specs.RunsForSpreads.{more as more_closed}
use Rattle.hyd_spec_open_spreads.specs.OpenRunsForSpreads.{spanning_openly, IsValidOpenlyOver, OpenFoundOver}
use Rattle.hyd_spec_open_spreads.specs.OpenRunsForSpreads.{IsOpenRunOverFrom, none, more, IsOpenRunOver}
use Rattle.hyd_spec_open_spreads.specs.OpenRunsForSpreads.{open_standing_within}
use Rattle.hyd_lemmas.proofs.Integers.{max_is, min_is}
use Rattle.hyd_theorems_on_open_ends.proofs.KnownToTheSecond.{ends_as_known}
use Rattle.hyd_theorems_on_open_spreads.specs.RunsAsOthers.{IsUncut, EndIsUncut, to_the_second}

-- ---- over one length

hull-same : (x : Interval) → hull x x ≡ x
hull-same x =
    let p : int_min x.lo x.lo ≡ x.lo = min_is (λ m. m ≡ x.lo) x.lo x.lo (λ e. refl) (λ e. refl) in
    let q : int_max x.hi x.hi ≡ x.hi = max_is (λ m. m ≡ x.hi) x.hi x.hi (λ e. refl) (λ e. refl) in
    λ i. record { lo = p i; hi = q i }

module _ (project : Project) (grid : Grid) (standing : OpenStanding) (row : Record) (exact : standing.late ≡ 0)
    (seconds : ℕ) where
  same-second : seconds - standing.late ≡ seconds
  same-second = omega (arith, exact)

  carried-there : carried_over project grid standing.known row (seconds - standing.late) seconds
      ≡ carried_at project grid standing.known row seconds
  carried-there =
      (λ i. carried_over project grid standing.known row (same-second i) seconds)
      ∙ (λ i. map_from (λ k tank. hull-same (carried_levels (walls_of project tank) tank
      (stocks_of_tank standing.known k) (inflow_of_tank project grid row k) seconds) i) 0 project.tanks.list)

  below-there : readings_below_over project grid standing.known row (seconds - standing.late) seconds
      ≡ readings_below project grid standing.known row seconds
  below-there = λ i. record {
    heads = heads_below grid row;
    levels = map (λ (level : Interval). whole level.lo) (carried-there i);
    flows = map least_magnitude (flow_boxes grid row);
    links = links_at project standing.known;
  }

  above-there : readings_above_over project grid standing.known row (seconds - standing.late) seconds
      ≡ readings_above project grid standing.known row seconds
  above-there = λ i. record {
    heads = heads_above grid row;
    levels = map (λ (level : Interval). whole level.hi) (carried-there i);
    flows = map greatest_magnitude (flow_boxes grid row);
    links = links_at project standing.known;
  }

  pub truths-there : open_rule_truths project grid standing row seconds
      ≡ rule_truths project grid standing.known row seconds
  truths-there =
      λ i. map (rule_between project (standing.known.time + seconds) (below-there i) (above-there i))
      project.rules.list

-- ---- one record, on any grid

module _ (project : Project) (sound : IsSound project) (grid : Grid) (standing : OpenStanding) (row : Record)
    (exact : standing.late ≡ 0) where
  -- of a way that is open by no second the lengths and the end are the same
  pub one-length : (way : Way) → EndsIn project grid standing row way → late_at_end standing.late way ≤ 0
      → (shortest_length standing.late way ≡ longest_length way) × (first_end way ≡ longest_length way)
  one-length (ByRules seconds) ends within = (omega (arith, exact), refl)
  one-length (ByInstant seconds) ends within = (omega (arith, exact), refl)
  one-length _ (in_by_watched {earliest = earliest} {latest = latest} seconds before idle) within =
      let order = seconds.in_order in
      let e : earliest ≡ latest = omega (arith, exact, within, order) in (e, e)

  -- the links are left as without open ends
  leaves : (way : Way) → EndsIn project grid standing row way → late_at_end standing.late way ≤ 0
      → LeavesLinks project grid standing.known row (longest_length way) (links_left project grid standing row way)
  leaves (ByRules seconds) ends within =
      subst (λ (ts : List Verdict). LeavesLinks project grid standing.known row seconds
      (acted project (map is_yes ts) (links_at project standing.known)))
      (sym (truths-there project grid standing row exact seconds))
      (left_by_rules (ends_as_known project sound grid standing row exact (ByRules seconds) ends within))
  leaves (ByInstant seconds) ends within =
      left_by_clock (ends_as_known project sound grid standing row exact (ByInstant seconds) ends within)
  leaves (ByWatched earliest latest) ends within =
      let e = (one-length (ByWatched earliest latest) ends within).1 in
      subst (λ (s : ℕ). LeavesLinks project grid standing.known row s (links_at project standing.known)) e
      (left_by_clock (ends_as_known project sound grid standing row exact (ByWatched earliest latest) ends within))

-- ---- a record that leads on

module _ (project : Project) (sound : IsSound project) (grid : Grid) (standing : OpenStanding) (found : OpenRecord)
    (next : OpenStanding) (exact : standing.late ≡ 0) (within : next.late ≤ 0) where
  -- What is so of a record of which start and end are known to the second.
  pub record EndsKnown : Type 0 where
    pub leaves_links : LeavesLinks project grid standing.known found.row found.row.length next.known.commanded
    pub shortest : found.shortest ≡ found.row.length
    pub time : next.known.time ≡ standing.known.time + found.row.length

  pub ends-known : ContinuesOpenly project grid standing found next → EndsKnown
  ends-known c =
      let narrow : late_at_end standing.late c.way ≤ 0 = subst (λ (n : ℕ). n ≤ 0) c.late within in
      let one = one-length project sound grid standing found.row exact c.way c.ends narrow in
      record {
        leaves_links = subst (λ (links : List LinkState). LeavesLinks project grid standing.known found.row
            found.row.length links) (sym c.commanded)
            (subst (λ (s : ℕ). LeavesLinks project grid standing.known found.row s
            (links_left project grid standing found.row c.way)) (sym c.longest)
            (leaves project sound grid standing found.row exact c.way c.ends narrow));
        shortest = c.shortest ∙ one.0 ∙ sym c.longest;
        time = c.time ∙ ap (λ (s : ℕ). standing.known.time + s) (one.1 ∙ sym c.longest);
      }

  pub leads-known : (standing.known.time ≢ project.times.duration
      → IsUncut project grid standing.known found.row next.known)
      → LeadsOnOpenly project grid standing found next
      → LeadsOn project grid standing.known found.row next.known
  leads-known uncut (continues c) =
      let known = ends-known c in
      let whole = uncut c.not_last in
      leads (record {
        not_last = c.not_last;
        leaves_links = known.leaves_links;
        levels = whole.levels;
        volumes = whole.volumes;
        tanks = c.tanks;
        controls = c.controls;
        number = c.number;
        time = known.time;
        unfinished = c.unfinished;
      })
  leads-known uncut (finishes f) = finished (record {
    is_last = f.is_last;
    no_length = f.no_length;
    next_is = f.next_known;
  })

-- ---- records for a spread

module _ (project : Project) (sound : IsSound project) (spread : Spread) where
  module _ (standing : OpenStanding) (pair : Pair) (found : OpenRecord) (next : OpenStanding)
      (valid : IsValidOpenlyOver project spread standing pair found next) (exact : standing.late ≡ 0)
      (within : next.late ≤ 0) where
    abbrev spanned-found : OpenRecord
    spanned-found = spanning_openly pair found

    pub ends-over : standing.known.time ≢ project.times.duration
        → EndsKnown project sound (spanned pair) standing spanned-found next exact within
    ends-over not_last = by-case valid.leads_on
      where
        by-case : LeadsOnOpenly project (spanned pair) standing spanned-found next
            → EndsKnown project sound (spanned pair) standing spanned-found next exact within
        by-case (continues c) = ends-known project sound (spanned pair) standing spanned-found next exact within c
        by-case (finishes f) = absurd (not_last f.is_last)

    pub valid-known : (standing.known.time ≢ project.times.duration
        → IsUncut project (spanned pair) standing.known (spanning pair found.row) next.known)
        → IsValidOver project spread standing.known pair found.row next.known
    valid-known uncut = record {
      unfinished = valid.unfinished;
      number = valid.number;
      time = valid.time;
      demands = valid.demands;
      are_pair = valid.are_pair;
      certificates = valid.certificates;
      leads_on = leads-known project sound (spanned pair) standing spanned-found next exact within uncut
          valid.leads_on;
    }

  run-known : (standing : OpenStanding) (founds : List OpenFoundOver) (last : OpenStanding)
      → IsOpenRunOverFrom project spread 0 standing founds last → standing.late ≡ 0
      → AllByRecursion (EndIsUncut project) founds
      → IsRunOverFrom project spread standing.known (map to_the_second founds) last.known
  run-known _ _ last none exact uncut = none_closed
  run-known _ _ last (more {here = here} {rest = rest} valid within go) exact uncut =
      more_closed {found = to_the_second here}
      (valid-known here.standing here.pair here.found here.next valid exact within uncut.0)
      (run-known here.next rest last go (omega (arith, within)) uncut.1)

  pub runs-known : (founds : List OpenFoundOver) (last : OpenStanding)
      → IsOpenRunOver project spread 0 founds last → AllByRecursion (EndIsUncut project) founds
      → IsRunOver project spread (map to_the_second founds) last.known
  runs-known founds last run uncut = record {
    start = run.start;
    run = run-known (open_standing_within project spread) founds last run.run refl uncut;
  }
