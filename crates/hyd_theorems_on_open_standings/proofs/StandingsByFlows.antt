-- Where the stocks at a standing and what flows into tanks are in order, the standing that is left is firm again: its
-- levels lie within the bounds of the tanks, and there is some stock in each interval.
use Rattle.std.proofs.Common.{◌≡◌, ◌≢◌, ℕ, zero, suc, ◌+◌, ◌-◌, ◌<◌, ◌≤◌, pos, ◌≤ℤ◌, refl, sym, ap, subst, ◌∙◌}
use Rattle.std.proofs.Common.{arith}
use Rattle.std.proofs.Common.{Bool, true, false, List, [], ◌∷◌, length, map, inl, inr, ◌==◌, nat_le}
use Rattle.std.specs.Prelude.{Option, Some, None, slice_get, slice_index_or}
use Rattle.std.proofs.lemmas.Int.{ints}
use Rattle.std.proofs.lemmas.Bool.{cases_Bool, cases_lt, cond_both, eqb-true, leb-true}
use Rattle.hyd_net.specs.Sound.{IsSound}
use Rattle.hyd_spec.specs.ProgramTypes.{Project, Tank}
use Rattle.hyd_spec.specs.declared.TankState.{TankState}
use Rattle.hyd_spec.specs.Lists.{map_from}
use Rattle.hyd_spec.specs.Tank.{Walls, walls_of, level_bounds}
use Rattle.hyd_spec_certificates.specs.Interval.{Interval}
use Rattle.hyd_spec_certificates.specs.Stocks.{Stocks, may_reach, state_of}
use Rattle.hyd_spec_certificates.specs.PeriodNetwork.{Grid}
use Rattle.hyd_spec_certificates.specs.RecordAndStanding.{Record, Standing}
use Rattle.hyd_spec_certificates.specs.Decided.{Watch, stocks_of_tank, inflow_of_tank, level_of_tank, nowhere}
use Rattle.hyd_spec_open_ends.specs.InstantsOfClock.{duration as is_duration}
use Rattle.hyd_spec_open_ends.specs.OpenStandings.{OpenStanding, OpenRecord}
use Rattle.hyd_spec_open_ends.specs.OpenEnds.{Way, AreSeconds, EndsIn, by_rules, by_instant, by_watched, first_end}
use Rattle.hyd_spec_open_ends.specs.OpenEnds.{shortest_length, longest_length}
use Rattle.hyd_spec_open_ends.specs.Arrivals.{IsArrival, Arrives, one, competing, arrival_of}
use Rattle.hyd_spec_open_ends.specs.Arrivals.{by_rules as none_by_rules, by_instant as none_by_instant}
use Rattle.hyd_spec_open_ends.specs.OpenRecords.{ContinuesOpenly, FinishesOpenly, LeadsOnOpenly, continues, finishes}
use Rattle.hyd_spec_open_ends.specs.OpenRecords.{carried_left, stocks_left, level_left}
use Rattle.hyd_theorems_on_definitions.specs.LyingInIntervals.{IsWithin, HasStock}
use Rattle.hyd_lemmas.proofs.ListsOptionsAndResults.{as_long, same_some}
use Rattle.hyd_theorems_on_definitions.proofs.SoundTankLemmas.{vessels}
use Rattle.hyd_theorems_on_histories.specs.Agreement.{IsKept}
use Rattle.hyd_theorems_on_histories.proofs.ListsByPlace.{numbered_from_start}
use Rattle.hyd_theorems_on_nesting.specs.Nesting.{IsOrdered}
use Rattle.hyd_theorems_on_nesting.specs.StandingsOfRuns.{IsTidy}
use Rattle.hyd_theorems_on_open_ends.specs.AgreementOverStarts.{IsKeptOpenly}
use Rattle.hyd_theorems_on_open_ends.proofs.AgreementOverEnds.{kept_on}
use Rattle.hyd_theorems_on_open_ends.proofs.ContentsAtGoals.{measured}
use Rattle.hyd_theorems_on_open_standings.specs.FirmStandings.{IsFirm, AreFlowsInOrder}
use Rattle.hyd_theorems_on_open_standings.proofs.WhatEndsLeave.{AllMayCome, may-come-by, carried_end_ordered}
use Rattle.hyd_theorems_on_open_standings.proofs.WhatEndsLeave.{carried_end_within, level_end_within, HoldsCarried}
use Rattle.hyd_theorems_on_open_standings.proofs.WhatEndsLeave.{carried_inside_level, volume_end_ordered, kept_holds}

-- ---- lists

-- past the end of the tanks there is no interval
pub past : (f : ℕ → Tank → Interval) (from : ℕ) (tanks : List Tank) (m : ℕ) → slice_get tanks m ≡ None
    → slice_index_or (map_from f from tanks) m nowhere ≡ nowhere
past f from [] m none = refl
past f from (t ∷ tanks) zero none = absurd (cc)
past f from (t ∷ tanks) (suc m) none = past f (suc from) tanks m none

numbered-ordered : (f : ℕ → Tank → Interval) (tanks : List Tank) (k : ℕ)
    → ((tank : Tank) → slice_get tanks k ≡ Some tank → IsOrdered (f k tank))
    → IsOrdered (slice_index_or (map_from f 0 tanks) k nowhere)
numbered-ordered f tanks k each = by-place (slice_get tanks k) refl
  where
    by-place : (o : Option Tank) → slice_get tanks k ≡ o → IsOrdered (slice_index_or (map_from f 0 tanks) k nowhere)
    by-place None at = subst IsOrdered (sym (past f 0 tanks k at))
        (let o : pos 0 ≤ℤ pos 0 = omega (arith, ints) in o)
    by-place (Some tank) at = subst IsOrdered (sym (numbered_from_start Tank Interval f tanks k tank nowhere at))
        (each tank at)

decided-long : (f : ℕ → Tank → Option TankState) (from : ℕ) (tanks : List Tank) (states : List TankState)
    → map_from f from tanks ≡ map Some states
    → length states ≡ length tanks
decided-long f from [] [] e = refl
decided-long f from [] (s ∷ states) e = absurd (cc)
decided-long f from (tank ∷ tanks) [] e = absurd (cc)
decided-long f from (tank ∷ tanks) (s ∷ states) e =
    let others : map_from f (suc from) tanks ≡ map {B = Option TankState} Some states = cc in
    let r = decided-long f (suc from) tanks states others in omega (arith, r)

none-may : (walls : Walls) (tank : Tank) (stocks : Stocks) (inflow : Interval) (shortest longest : ℕ)
    → AllMayCome walls tank stocks inflow shortest longest None
none-may walls tank stocks inflow shortest longest = λ other e. absurd (cc)

-- ---- what may have been come to

-- there is some stock in each interval at the start, and what flows into each tank lies between two flows in order
pub record AreStocksAndFlows (project : Project) (standing : Standing) (grid : Grid) (row : Record) : Type 0 where
  pub ordered : (k : ℕ) → HasStock (stocks_of_tank standing k)
  pub flows : AreFlowsInOrder project grid row

module _ (project : Project) (sound : IsSound project) (grid : Grid) (standing : OpenStanding) (row : Record)
    (there : AreStocksAndFlows project standing.known grid row) where
  module _ (cap earliest latest : ℕ) (seconds : AreSeconds project grid standing.known row cap earliest latest)
      (watch : Watch) (arrival : IsArrival project grid standing.known row latest watch) where
    abbrev reaches-by : Tank → ℕ → Bool
    reaches-by tank s = may_reach (walls_of project tank) tank (stocks_of_tank standing.known watch.tank)
        (inflow_of_tank project grid row watch.tank) watch.target watch.rising s

    no-sooner : (tank : Tank) → slice_get project.tanks.list watch.tank ≡ Some tank → (s : ℕ) → 1 ≤ s
        → reaches-by tank s ≡ true → earliest ≤ s
    no-sooner tank at s some reached = seconds.is_earliest.least s (inr (inr (
      some,
      record {
        watch = watch;
        is_watched = arrival.comes.is_watched;
        tank = tank;
        is_tank = at;
        reached = reached;
      },
    )))

    here : (tank : Tank) → slice_get project.tanks.list watch.tank ≡ Some tank
        → AllMayCome (walls_of project tank) tank (stocks_of_tank standing.known watch.tank)
        (inflow_of_tank project grid row watch.tank) earliest latest
        (Some (record { target = watch.target; rising = watch.rising; not_before = nat_le 2 earliest }))
    here tank at =
        let comes = arrival.comes in
        let own : comes.tank ≡ tank = same_some (slice_get project.tanks.list watch.tank) comes.tank tank comes.is_tank
        at in
        let reached : reaches-by tank comes.second ≡ true =
        subst (λ t. reaches-by t comes.second ≡ true) own comes.reached in
        may-come-by (walls_of project tank) tank (measured project sound watch.tank tank at)
        (stocks_of_tank standing.known watch.tank) (inflow_of_tank project grid row watch.tank)
        (there.ordered watch.tank) (there.flows watch.tank tank at)
        earliest latest comes.second (no-sooner tank at comes.second comes.some reached) comes.in_time watch.target
        (nat_le 2 earliest) watch.rising reached
        (λ e. (leb-true 2 earliest e, not-yet (leb-true 2 earliest e)))
      where
        not-yet : 2 ≤ earliest → reaches-by tank (earliest - 1) ≡ false
        not-yet two = elim (cases_Bool (reaches-by tank (earliest - 1))) [
          | inl held ↦ absurd (let l = no-sooner tank at (earliest - 1) (omega (arith, two)) held in
              omega (arith, l, two))
          | inr fails ↦ fails
        ]

    one-may : (k : ℕ) (tank : Tank) → slice_get project.tanks.list k ≡ Some tank
        → AllMayCome (walls_of project tank) tank (stocks_of_tank standing.known k) (inflow_of_tank project grid row k)
        earliest latest (arrival_of earliest (Some watch) k)
    one-may k tank at =
        cond_both (watch.tank == k) (Some (record {
          target = watch.target;
          rising = watch.rising;
          not_before = nat_le 2 earliest;
        })) None
        (AllMayCome (walls_of project tank) tank (stocks_of_tank standing.known k) (inflow_of_tank project grid row k)
        earliest latest)
        (λ e. let same = eqb-true watch.tank k e in
        subst (λ n. AllMayCome (walls_of project tank) tank (stocks_of_tank standing.known n)
        (inflow_of_tank project grid row n) earliest latest
        (Some (record { target = watch.target; rising = watch.rising; not_before = nat_le 2 earliest }))) same
        (here tank (subst (λ n. slice_get project.tanks.list n ≡ Some tank) (sym same) at)))
        (λ e. none-may (walls_of project tank) tank (stocks_of_tank standing.known k)
        (inflow_of_tank project grid row k) earliest latest)

  all-may : (way : Way) (reached : Option Watch) → EndsIn project grid standing row way
      → Arrives project grid standing.known row way reached → (k : ℕ) (tank : Tank)
      → slice_get project.tanks.list k ≡ Some tank
      → AllMayCome (walls_of project tank) tank (stocks_of_tank standing.known k) (inflow_of_tank project grid row k)
      (shortest_length standing.late way) (longest_length way)
      (arrival_of (shortest_length standing.late way) reached k)
  all-may _ _ (by_watched {cap = cap} {earliest = earliest} {latest = latest} seconds before none)
      (one {watch = watch} arrival) k tank at =
      one-may cap earliest latest seconds watch arrival k tank at
  all-may _ _ (by_watched {earliest = earliest} {latest = latest} seconds before none) (competing other) k tank at =
      none-may (walls_of project tank) tank (stocks_of_tank standing.known k) (inflow_of_tank project grid row k)
      earliest latest
  all-may _ _ (by_rules {seconds = i} seconds first after in_time none_open) none_by_rules k tank at =
      none-may (walls_of project tank) tank (stocks_of_tank standing.known k) (inflow_of_tank project grid row k)
      (i - standing.late) i
  all-may _ _ (by_instant {cap = cap} seconds same none) none_by_instant k tank at =
      none-may (walls_of project tank) tank (stocks_of_tank standing.known k) (inflow_of_tank project grid row k)
      (cap - standing.late) cap

-- ---- what an end leaves

module _ (project : Project) (sound : IsSound project) (grid : Grid) (standing : OpenStanding) (found : OpenRecord)
    (there : AreStocksAndFlows project standing.known grid found.row) (way : Way)
    (ends : EndsIn project grid standing found.row way) (reached : Option Watch)
    (arrives : Arrives project grid standing.known found.row way reached)
    (is_short : found.shortest ≡ shortest_length standing.late way)
    (is_long : found.row.length ≡ longest_length way) (k : ℕ) (tank : Tank)
    (at : slice_get project.tanks.list k ≡ Some tank) where
  abbrev stocks : Stocks
  stocks = stocks_of_tank standing.known k

  abbrev inflow : Interval
  inflow = inflow_of_tank project grid found.row k

  come : AllMayCome (walls_of project tank) tank stocks inflow found.shortest found.row.length
      (arrival_of found.shortest reached k)
  come =
      subst (λ n. AllMayCome (walls_of project tank) tank stocks inflow n found.row.length (arrival_of n reached k))
      (sym is_short)
      (subst (λ n. AllMayCome (walls_of project tank) tank stocks inflow (shortest_length standing.late way) n
      (arrival_of (shortest_length standing.late way) reached k)) (sym is_long)
      (all-may project sound grid standing found.row there way reached ends arrives k tank at))

  flow : IsOrdered inflow
  flow = there.flows k tank at

  pub carried-there : IsOrdered (carried_left project grid standing.known found reached k tank)
  carried-there =
      carried_end_ordered (walls_of project tank) tank stocks inflow found.shortest found.row.length
      (arrival_of found.shortest reached k) (vessels project sound k tank at) (there.ordered k) flow come

  pub level-holds : HoldsCarried (level_bounds tank) (carried_left project grid standing.known found reached k tank)
      (level_left project grid standing.known found reached k tank)
  level-holds =
      let arrival = arrival_of found.shortest reached k in
      kept_holds (level_bounds tank) k (carried_left project grid standing.known found reached k tank)
      project.controls.list (stocks_left project grid standing.known found reached k tank).level
      (carried_end_within stocks inflow found.shortest found.row.length arrival (walls_of project tank) tank
      (vessels project sound k tank at))
      (record {
        inside = carried_inside_level stocks inflow found.shortest found.row.length arrival (walls_of project tank) tank
            (vessels project sound k tank at) (measured project sound k tank at).contents_apart;
        within = level_end_within stocks inflow found.shortest found.row.length arrival (walls_of project tank) tank
            (vessels project sound k tank at);
      })

  pub level-there : IsOrdered (level_left project grid standing.known found reached k tank)
  level-there = let c = carried-there in let a = level-holds.inside.low in let b = level-holds.inside.high in
      omega (arith, ints, c, a, b)

  pub volume-there : IsOrdered (stocks_left project grid standing.known found reached k tank).volume
  volume-there =
      volume_end_ordered (walls_of project tank) tank stocks inflow found.shortest found.row.length
      (arrival_of found.shortest reached k) (vessels project sound k tank at) (there.ordered k) flow come

-- ---- standings

module _ (project : Project) (sound : IsSound project) where
  strict : (m n : ℕ) → m ≤ n → m ≢ n → m < n
  strict m n le other = elim (cases_lt m n) [
    | inl less ↦ less
    | inr more ↦ absurd (other (omega (arith, le, more)))
  ]

  -- no end lies after that of the run
  pub ends_in_time : (grid : Grid) (standing : OpenStanding) (row : Record) (way : Way) → IsTidy project standing.known
      → EndsIn project grid standing row way → standing.known.time + first_end way ≤ project.times.duration
  ends_in_time grid standing row _ tidy (by_rules {cap = cap} {seconds = i} x first after in_time none_open) =
      let before = strict standing.known.time project.times.duration tidy.in_time x.not_last in
      let a = x.is_cap.least project.times.duration (before, is_duration refl) in
      let b = x.is_earliest.least cap (inl refl) in omega (arith, a, b, in_time)
  ends_in_time grid standing row _ tidy (by_instant {cap = cap} x same none) =
      let before = strict standing.known.time project.times.duration tidy.in_time x.not_last in
      x.is_cap.least project.times.duration (before, is_duration refl)
  ends_in_time grid standing row _ tidy (by_watched {cap = cap} x before-cap none) =
      let before = strict standing.known.time project.times.duration tidy.in_time x.not_last in
      let a = x.is_cap.least project.times.duration (before, is_duration refl) in
      let b = x.is_earliest.least cap (inl refl) in omega (arith, a, b)

  module _ (grid : Grid) (standing : OpenStanding) (found : OpenRecord) (next : OpenStanding)
      (firm : IsFirm project standing) (flows : AreFlowsInOrder project grid found.row) where
    kept-openly : IsKeptOpenly project standing
    kept-openly = record { controls = firm.kept.controls; states = firm.kept.states; quiet = firm.quiet }

    there : AreStocksAndFlows project standing.known grid found.row
    there = record { ordered = firm.tidy.ordered; flows = flows }

    firm-on : ContinuesOpenly project grid standing found next → IsFirm project next
    firm-on c = record {
      kept = record {
        controls = c.controls;
        levels = λ k tank at.
            let e : level_of_tank next.known k ≡ level_left project grid standing.known found c.reached k tank =
            ap (λ ls. slice_index_or ls k nowhere) c.levels
            ∙ numbered_from_start Tank Interval (level_left project grid standing.known found c.reached)
            project.tanks.list k tank nowhere at in
            subst (IsWithin (level_bounds tank)) (sym e)
            (level-holds project sound grid standing found there c.way c.ends c.reached c.arrives c.shortest c.longest
            k tank at).within;
        states = (kept_on project sound grid standing found next kept-openly c).states;
      };
      tidy = record {
        levels_each = ap length c.levels ∙ as_long {X = Tank} {Y = Interval}
            (level_left project grid standing.known found c.reached) 0 project.tanks.list;
        volumes_each = ap length c.volumes ∙ as_long {X = Tank} {Y = Interval}
            (λ k tank. (stocks_left project grid standing.known found c.reached k tank).volume) 0 project.tanks.list;
        tanks_each = decided-long (λ k tank. state_of tank (slice_index_or next.known.levels k nowhere))
            0 project.tanks.list next.known.tanks c.tanks;
        ordered = λ k. record {
          level = subst (λ ls. IsOrdered (slice_index_or ls k nowhere)) (sym c.levels)
              (numbered-ordered (level_left project grid standing.known found c.reached) project.tanks.list k
              (λ tank at. level-there project sound grid standing found there c.way c.ends c.reached c.arrives
              c.shortest c.longest k tank at));
          volume = subst (λ vs. IsOrdered (slice_index_or vs k nowhere)) (sym c.volumes)
              (numbered-ordered
              (λ n tank. (stocks_left project grid standing.known found c.reached n tank).volume)
              project.tanks.list k
              (λ tank at. volume-there project sound grid standing found there c.way c.ends c.reached c.arrives
              c.shortest c.longest k tank at));
        };
        in_time = let a = ends_in_time grid standing found.row c.way firm.tidy c.ends in let t = c.time in
            omega (arith, a, t);
      };
      quiet = (kept_on project sound grid standing found next kept-openly c).quiet;
    }

    firm-last : FinishesOpenly standing found project next → IsFirm project next
    firm-last f = record {
      kept = subst (IsKept project) (sym f.next_known) (record {
        controls = firm.kept.controls;
        levels = firm.kept.levels;
        states = firm.kept.states;
      });
      tidy = subst (IsTidy project) (sym f.next_known) (record {
        levels_each = firm.tidy.levels_each;
        volumes_each = firm.tidy.volumes_each;
        tanks_each = firm.tidy.tanks_each;
        ordered = firm.tidy.ordered;
        in_time = firm.tidy.in_time;
      });
      quiet = inl f.next_late;
    }

    pub firm-by-lead : LeadsOnOpenly project grid standing found next → IsFirm project next
    firm-by-lead (continues c) = firm-on c
    firm-by-lead (finishes f) = firm-last f
