-- The runs of the two basins: records, lines and texts.
use Rattle.std.proofs.Common.{◌≡◌, ◌≢◌, ℕ, zero, suc, ◌+◌, ◌%◌, ◌<◌, ◌≤◌, Bool, true, false, List, [], ◌∷◌, ◌⊎◌, inl}
use Rattle.std.proofs.Common.{inr, refl, sym, ap, subst, arith, lit<}
use Rattle.std.specs.Prelude.{slice_get, Some, ◌^◌, All, Contains, pos, ◌++◌, unsigned_abs}
use Rattle.std.proofs.lemmas.List.Elements.{All-nil, All-cons}
use Rattle.hyd_spec_certificates.specs.declared.Problem.{Problem}
use Rattle.hyd_spec_certificates.specs.declared.Problem.TheVariants.{Main, Pinned}
use Rattle.hyd_spec_certificates.specs.declared.Side.{Side}
use Rattle.hyd_spec_certificates.specs.declared.Side.TheVariants.{Upper, Lower}
use Rattle.hyd_spec.specs.ProgramTypes.{Project, Tank, Control, Junction, LinkState, Cmd}
use Rattle.hyd_spec.specs.declared.TankState.{TankState}
use Rattle.hyd_spec.specs.declared.TankState.TheVariants.{Between, Full}
use Rattle.hyd_spec_certificates.specs.declared.StatusWord.{StatusWord}
use Rattle.hyd_spec_certificates.specs.declared.StatusWord.TheVariants.{Active as WordActive}
use Rattle.hyd_spec.specs.Lists.{map_from, present}
use Rattle.hyd_spec.specs.Rules.{change_of, rule_changes, state_of_link}
use Rattle.hyd_spec.specs.DemandsHeadsAndPumpLifts.{demand_of}
use Rattle.hyd_spec.specs.PeriodLength.{EndsByClock, step, duration, pattern, report, control_time, control_clock}
use Rattle.hyd_spec_certificates.specs.Interval.{Interval, exactly, shifted}
use Rattle.std.specs.List.{list_any}
use Rattle.hyd_spec.specs.Tank.{walls_of}
use Rattle.hyd_spec_certificates.specs.Stocks.{may_reach, must_reach}
use Rattle.hyd_lemmas.proofs.BooleanTests.{none_below, from, any_of}
use Rattle.hyd_spec_certificates.specs.PeriodNetwork.{Grid, GridLink, GridJunction, tank_intervals, grid_links}
use Rattle.hyd_spec_certificates.specs.FlowIntervals.{difference}
use Rattle.hyd_spec_certificates.specs.Certificate.{IsInBox, IsCertificate}
use Rattle.hyd_spec_certificates.specs.RecordAndStanding.{Record, Standing, Vectors, no_vectors, vector_of}
use Rattle.hyd_spec_certificates.specs.Decided.{heads_below, heads_above, flow_boxes, level_of_tank, links_at, Watch}
use Rattle.hyd_spec_certificates.specs.Decided.{watches, stocks_of_tank, inflow_of_tank, SomeMayReach, SomeMustReach}
use Rattle.hyd_spec_certificates.specs.Decided.{RulesMatter, NoRuleMatters, IsClockLength, IsEarliestEnd, IsLatestEnd}
use Rattle.hyd_spec_certificates.specs.Decided.{EndsBy, WithoutRules, by_clock}
use Rattle.hyd_spec_certificates.specs.Valid.{IsProblem, IsGridAt, AreCertificates, demand_limit, LeavesLinks}
use Rattle.hyd_spec_certificates.specs.Valid.{levels_next, volumes_next, AreStates, IsValid, continues, finishes}
use Rattle.hyd_spec_certificates.specs.Valid.{by_clock as left_by_clock}
use Rattle.hyd_spec_certificates.specs.CertificateText.{IsVector, IsRow}
use Rattle.hyd_spec_reports.specs.ReportLine.{ReservoirLine, TankLine, LinkLine, FilledLine}
use Rattle.hyd_spec_reports.specs.Report.{IsReservoirLine, IsTankLine, IsLinkLine, AreStateLines}
use Rattle.hyd_spec_certificates.specs.StatusesOfLinks.{status_of}
use Rattle.hyd_spec_certificates.specs.EndsOfPeriods.{at_end, by_clock as ended_by_clock}
use Rattle.hyd_spec_reports.specs.PromisesOfRunsAndChecks.{IsFound, IsRun, none as nothing_more, more}
use Rattle.hyd_cases_of_runs.specs.Basin.{Basin, basin_network, feed, basin_grid, basin_row, state_lines, found_of}
use Rattle.hyd_cases_of_runs.specs.Basin.{slow}
use Rattle.hyd_cases_of_runs.specs.Basin.{fast, curved, curved_0, curved_1, curved_2, curved_left, curved_founds}
use Rattle.hyd_cases_of_runs.specs.Basin.{spilling}
use Rattle.hyd_cases_of_runs.specs.Basin.{spilling_0, spilling_1, spilling_2, spilling_left, spilling_founds}
use Rattle.hyd_cases_of_runs.proofs.VillageReports.{rounds, prints_heads, prints_flows}

module _ (basin : Basin) where
  -- no record of an empty vector fails
  pub empty_passes : (grid : Grid) (problem : Problem) (side : Side) → grid.junctions ≡ []
      → IsCertificate grid problem side []
  empty_passes grid problem side none = record {
    one_each = rw none refl;
    in_box = All-nil IsInBox;
    passes = λ j junction at. absurd (let e : slice_get {X = GridJunction} [] j ≡ Some junction =
        subst (λ (js : List GridJunction). slice_get js j ≡ Some junction) none at in cc);
  }

  pub certificates : (level : Interval) (number time length : ℕ)
      → AreCertificates (basin_network basin) (basin_grid basin level) (basin_row number time length)
  certificates level number time length = record { pinned_each = refl; each = each }
    where
      each : (problem : Problem) (side : Side) → IsProblem (basin_network basin) problem
          → IsCertificate (basin_grid basin level) problem side (vector_of (basin_row number time length) problem side)
      each Main Upper is = empty_passes (basin_grid basin level) Main Upper refl
      each Main Lower is = empty_passes (basin_grid basin level) Main Lower refl
      each (Pinned zero) Upper is = empty_passes (basin_grid basin level) (Pinned 0) Upper refl
      each (Pinned zero) Lower is = empty_passes (basin_grid basin level) (Pinned 0) Lower refl
      each (Pinned (suc k)) side is = absurd (omega (arith, is))

  -- ---- the clock

  pub no_control : (each : Control) → Contains {X = Control} [] each → ⊥
  no_control each is = omega (arith, is.1)

  pub not_before : (time end k : ℕ) → end ≤ time + 3600 → end ≤ basin.duration
      → ((m : ℕ) → time < m → m % 3600 ≡ 0 → end ≤ m)
      → EndsByClock (basin_network basin) time k → end ≤ k
  not_before time end k after last boundary (step later e) = omega (arith, after, e)
  not_before time end k after last boundary (duration later e) = omega (arith, last, e)
  not_before time end k after last boundary (pattern later e) = boundary k later
      (let m : k % 3600 ≡ 0 = omega (arith, e) in m)
  not_before time end k after last boundary (report later begun e) = boundary k later
      (let m : k % 3600 ≡ 0 = omega (arith, e) in m)
  not_before time end k after last boundary (control_time each is at later) = absurd (no_control each is)
  not_before time end k after last boundary (control_clock each at is when shown later) = absurd (no_control each is)

  pub clock_length : (time cap : ℕ) → EndsByClock (basin_network basin) time (time + cap) → time + cap ≤ time + 3600
      → time + cap ≤ basin.duration
      → ((m : ℕ) → time < m → m % 3600 ≡ 0 → time + cap ≤ m) → IsClockLength (basin_network basin) time cap
  clock_length time cap ends after last boundary = record {
    holds = ends;
    least = λ k is. not_before time (time + cap) k after last boundary is;
  }

  -- ---- rules

  nothing_changes : (values : List Bool) (k : ℕ) (links : List LinkState)
      → present (map_from (change_of (basin_network basin) values) k links) ≡ []
  nothing_changes values k [] = refl
  nothing_changes values k (state ∷ links) = nothing_changes values (suc k) links

  pub no_changes : (values : List Bool) (links : List LinkState) → rule_changes (basin_network basin) values links ≡ []
  no_changes values links = nothing_changes values 0 links

  module _ (grid : Grid) (standing : Standing) (row : Record) where
    pub no_rule : (seconds : ℕ) → RulesMatter (basin_network basin) grid standing row seconds → ⊥
    no_rule seconds is = elim is.matters [
      | inl unknown ↦ absurd (cc)
      | inr changes ↦ changes (no_changes [] (links_at (basin_network basin) standing))
    ]

    pub no_rules : (e : ℕ) → standing.time ≢ basin.duration → IsEarliestEnd (basin_network basin) grid standing row e
        → NoRuleMatters (basin_network basin) grid standing row e
    no_rules e before earliest = record {
      not_last = before;
      is_earliest = earliest;
      none = λ s is. absurd (no_rule s is);
    }

  -- ---- levels

  only_tank : (k : ℕ) (tank : Tank) → slice_get (basin.tank ∷ []) k ≡ Some tank → tank ≡ basin.tank
  only_tank zero tank e = cc
  only_tank (suc k) tank e = absurd (cc)

  module _ (grid : Grid) (standing : Standing) (row : Record) where
    abbrev may_be : ℕ → Watch → Bool
    may_be s w = may_reach (walls_of (basin_network basin) basin.tank) basin.tank (stocks_of_tank standing w.tank)
        (inflow_of_tank (basin_network basin) grid row w.tank) w.target w.rising s

    abbrev must_be : ℕ → Watch → Bool
    must_be s w = must_reach (walls_of (basin_network basin) basin.tank) basin.tank (stocks_of_tank standing w.tank)
        (inflow_of_tank (basin_network basin) grid row w.tank) w.target w.rising s

    -- whether a watched level may, or must, have reached its target
    abbrev pub may : ℕ → Bool
    may s = list_any (may_be s) (watches (basin_network basin) standing)

    abbrev pub must : ℕ → Bool
    must s = list_any (must_be s) (watches (basin_network basin) standing)

    may_test : (s : ℕ) → SomeMayReach (basin_network basin) grid standing row s → may s ≡ true
    may_test s is = any_of Watch (may_be s) (watches (basin_network basin) standing) is.watch is.is_watched
        (subst (λ (t : Tank). may_reach (walls_of (basin_network basin) t) t (stocks_of_tank standing is.watch.tank)
        (inflow_of_tank (basin_network basin) grid row is.watch.tank) is.watch.target is.watch.rising s ≡ true)
        (only_tank is.watch.tank is.tank is.is_tank) is.reached)

    must_test : (s : ℕ) → SomeMustReach (basin_network basin) grid standing row s → must s ≡ true
    must_test s is = any_of Watch (must_be s) (watches (basin_network basin) standing) is.watch is.is_watched
        (subst (λ (t : Tank). must_reach (walls_of (basin_network basin) t) t (stocks_of_tank standing is.watch.tank)
        (inflow_of_tank (basin_network basin) grid row is.watch.tank) is.watch.target is.watch.rising s ≡ true)
        (only_tank is.watch.tank is.tank is.is_tank) is.reached)

    pub earliest_end : (cap e : ℕ) → IsClockLength (basin_network basin) standing.time cap → e ≤ cap
        → none_below may e ≡ true
        → IsClockLength (basin_network basin) standing.time e
        ⊎ ((1 ≤ e) × SomeMayReach (basin_network basin) grid standing row e)
        → IsEarliestEnd (basin_network basin) grid standing row e
    earliest_end cap e clock within none ends = record { holds = ends; least = least }
      where
        least : (k : ℕ) → IsClockLength (basin_network basin) standing.time k
            ⊎ ((1 ≤ k) × SomeMayReach (basin_network basin) grid standing row k) → e ≤ k
        least k (inl c) = let l = clock.least (standing.time + k) c.holds in omega (arith, l, within)
        least k (inr m) = from may e none k (may_test k m.1)

    pub latest_end : (cap e : ℕ) → IsClockLength (basin_network basin) standing.time cap → e ≤ cap
        → none_below must e ≡ true
        → IsClockLength (basin_network basin) standing.time e
        ⊎ ((1 ≤ e) × SomeMustReach (basin_network basin) grid standing row e)
        → IsLatestEnd (basin_network basin) grid standing row e
    latest_end cap e clock within none ends = record { holds = ends; least = least }
      where
        least : (k : ℕ) → IsClockLength (basin_network basin) standing.time k
            ⊎ ((1 ≤ k) × SomeMustReach (basin_network basin) grid standing row k) → e ≤ k
        least k (inl c) = let l = clock.least (standing.time + k) c.holds in omega (arith, l, within)
        least k (inr m) = from must e none k (must_test k m.1)

-- ---- lines

module _ (basin : Basin) (grid : Grid) (standing : Standing) (row : Record) where
  reservoir_line : (project : Project) → project.options.unit ≡ Cmd
      → IsReservoirLine project 0 (pos 1000000000000000) (ReservoirLine 0 (exactly (pos 1000000)))
  reservoir_line project unit = record {
    head = exactly (pos 1000000);
    is_line = refl;
    head_is = rw unit (prints_heads (exactly (pos 1000000000000000)) (exactly (pos 1000000)) refl);
  }

  pub tank_line : (level inflow : Interval) (state : TankState)
      → rounds (pos (10 ^ 9)) (shifted basin.tank.bottom (level_of_tank standing 0)) level ≡ true
      → rounds (pos (10 ^ 9)) (level_of_tank standing 0) level ≡ true
      → rounds (pos 1000) (inflow_of_tank (basin_network basin) grid row 0) inflow ≡ true
      → slice_get standing.tanks 0 ≡ Some state → IsTankLine (basin_network basin) grid standing row 0 basin.tank
      (TankLine 0 level level inflow state)
  tank_line level inflow state a b c at = record {
    head = level;
    level = level;
    inflow = inflow;
    state = state;
    is_line = refl;
    head_is = prints_heads (shifted basin.tank.bottom (level_of_tank standing 0)) level a;
    level_is = prints_heads (level_of_tank standing 0) level b;
    inflow_is = prints_flows (inflow_of_tank (basin_network basin) grid row 0) inflow c;
    state_is = at;
  }

  pub link_line : (place : GridLink) (box flow : Interval) (word : StatusWord) → slice_get grid.links 0 ≡ Some place
      → slice_get (flow_boxes grid row) 0 ≡ Some box → rounds (pos 1000) box flow ≡ true
      → status_of false [] (feed basin).kind (state_of_link (links_at (basin_network basin) standing) 0)
      (difference place (heads_below grid row) (heads_above grid row)) ≡ word
      → IsLinkLine (basin_network basin) grid standing row 0 (feed basin) (LinkLine 0 flow word)
  link_line place box flow word at boxed e is = record {
    place = place;
    place_is = at;
    box = box;
    box_is = boxed;
    flow = flow;
    flow_is = prints_flows box flow e;
    is_line = ap (LinkLine 0 flow) (sym is);
  }

-- the lines of a report time
module _ (basin : Basin) (standing : Standing) (level : Interval) (number length : ℕ) where
  abbrev row : Record
  row = basin_row number standing.time length

  abbrev grid : Grid
  grid = basin_grid basin level

  pub state_at : (shown flow : Interval) (state : TankState) → IsTankLine (basin_network basin) grid standing row 0
      basin.tank (TankLine 0 shown shown flow state)
      → IsLinkLine (basin_network basin) grid standing row 0 (feed basin) (LinkLine 0 flow WordActive)
      → AreStateLines (basin_network basin) grid standing row (state_lines standing.time shown flow state)
  state_at shown flow state tank link = record {
    junctions = [];
    reservoirs = ReservoirLine 0 (exactly (pos 1000000)) ∷ [];
    tanks = TankLine 0 shown shown flow state ∷ [];
    links = LinkLine 0 flow WordActive ∷ [];
    junctions_are = tt;
    reservoirs_are = (reservoir_line basin grid standing row (basin_network basin) refl, tt);
    tanks_are = (tank, tt);
    links_are = (link, tt);
    lines_are = refl;
  }

  -- ---- a record that isn't the last one

  pub valid_at : (next : Standing) → standing.finished ≡ false → number ≡ standing.number
      → standing.time ≢ basin.duration
      → IsGridAt (basin_network basin) standing grid → EndsBy (basin_network basin) grid standing row
      (WithoutRules length)
      → next.commanded ≡ links_at (basin_network basin) standing
      → next.levels ≡ levels_next (basin_network basin) grid standing row length
      → next.volumes ≡ volumes_next (basin_network basin) grid standing row length
      → AreStates (basin_network basin) next.levels next.tanks → next.number ≡ suc standing.number
      → next.time ≡ standing.time + length
      → next.finished ≡ false → IsValid (basin_network basin) standing grid row next
  valid_at next begun numbered early is_grid ends commanded levels volumes tanks following later unfinished = record {
    unfinished = begun;
    number = numbered;
    time = refl;
    demands = All-nil (λ (junction : Junction). unsigned_abs (demand_of (basin_network basin) standing.time junction)
        ≤ demand_limit);
    is_grid = is_grid;
    certificates = certificates basin level number standing.time length;
    leads_on = continues (record {
      not_last = early;
      leaves_links = subst (λ (ls : List LinkState). LeavesLinks (basin_network basin) grid standing row length ls)
          (sym commanded) (left_by_clock ends);
      levels = levels;
      volumes = volumes;
      tanks = tanks;
      controls = λ control tank above ticks is at. absurd (no_control basin control is);
      number = following;
      time = later;
      unfinished = unfinished;
    });
  }

  pub last_valid : (next : Standing) → standing.finished ≡ false → number ≡ standing.number
      → standing.time ≡ basin.duration → length ≡ 0
      → IsGridAt (basin_network basin) standing grid → next ≡ record standing {
        number = suc standing.number;
        finished = true;
      }
      → IsValid (basin_network basin) standing grid row next
  last_valid next begun numbered late none is_grid next_is = record {
    unfinished = begun;
    number = numbered;
    time = refl;
    demands = All-nil (λ (junction : Junction). unsigned_abs (demand_of (basin_network basin) standing.time junction)
        ≤ demand_limit);
    is_grid = is_grid;
    certificates = certificates basin level number standing.time length;
    leads_on = finishes (record { is_last = late; no_length = none; next_is = next_is });
  }

-- ---- the tank with a curve

abbrev curved_level_0 : Interval
curved_level_0 = exactly (pos 40000000000000)

abbrev curved_level_1 : Interval
curved_level_1 = record { lo = pos 53611111109356; hi = pos 53611111112844 }

abbrev curved_level_2 : Interval
curved_level_2 = record { lo = pos 60555555552056; hi = pos 60555555559010 }

grid_parts : (basin : Basin) (standing : Standing) (level : Interval)
    → level ∷ [] ≡ tank_intervals (basin.tank ∷ []) standing.levels
    → (basin_grid basin level).links ≡ grid_links (basin_network basin) standing.tanks
    (basin_network basin).links.list (links_at (basin_network basin) standing)
    → IsGridAt (basin_network basin) standing (basin_grid basin level)
grid_parts basin standing level heads laws = record {
  junctions = tt;
  reservoirs = refl;
  tank_heads = heads;
  links_are = laws;
}

curved_clock_0 : IsClockLength (basin_network curved) 0 3600
curved_clock_0 = clock_length curved 0 3600 (step (omega arith) refl) (omega arith) (omega arith)
    (λ m later e. omega arith)

curved_ends_0 : EndsBy (basin_network curved) (basin_grid curved curved_level_0) curved_0 (basin_row 0 0 3600)
    (WithoutRules 3600)
curved_ends_0 = by_clock
    (no_rules curved (basin_grid curved curved_level_0) curved_0 (basin_row 0 0 3600) 3600 (λ e. omega (arith, e))
    (earliest_end curved (basin_grid curved curved_level_0) curved_0 (basin_row 0 0 3600) 3600 3600 curved_clock_0
    (omega arith) refl (inl curved_clock_0)))
    (latest_end curved (basin_grid curved curved_level_0) curved_0 (basin_row 0 0 3600) 3600 3600 curved_clock_0
    (omega arith) refl (inl curved_clock_0))

curved_clock_1 : IsClockLength (basin_network curved) 3600 3600
curved_clock_1 = clock_length curved 3600 3600 (step (omega arith) refl) (omega arith) (omega arith)
    (λ m later e. omega arith)

curved_ends_1 : EndsBy (basin_network curved) (basin_grid curved curved_level_1) curved_1 (basin_row 1 3600 3600)
    (WithoutRules 3600)
curved_ends_1 = by_clock
    (no_rules curved (basin_grid curved curved_level_1) curved_1 (basin_row 1 3600 3600) 3600 (λ e. omega (arith, e))
    (earliest_end curved (basin_grid curved curved_level_1) curved_1 (basin_row 1 3600 3600) 3600 3600 curved_clock_1
    (omega arith) refl (inl curved_clock_1)))
    (latest_end curved (basin_grid curved curved_level_1) curved_1 (basin_row 1 3600 3600) 3600 3600 curved_clock_1
    (omega arith) refl (inl curved_clock_1))

curved_found_0 : IsFound (basin_network curved) (found_of curved curved_0 3600
    (state_lines 0 (exactly (pos 40000)) slow Between) curved_1)
curved_found_0 = record {
  valid = valid_at curved curved_0 curved_level_0 0 3600 curved_1 refl refl (λ e. omega (arith, e))
      (grid_parts curved curved_0 curved_level_0 refl refl) curved_ends_0
      refl refl refl refl refl refl refl;
  report = record {
    state = state_lines 0 (exactly (pos 40000)) slow Between;
    state_are = state_at curved curved_0 curved_level_0 0 3600 (exactly (pos 40000)) slow Between
        (tank_line curved (basin_grid curved curved_level_0) curved_0 (basin_row 0 0 3600) (exactly (pos 40000)) slow
        Between refl refl refl refl)
        (link_line curved (basin_grid curved curved_level_0) curved_0 (basin_row 0 0 3600) _ _ slow WordActive refl
        refl refl refl);
    at_end = [];
    at_end_are = record { events = _; changes = _; brings = ended_by_clock curved_ends_0; lines_are = refl };
    lines_are = refl;
  };
}

curved_found_1 : IsFound (basin_network curved) (found_of curved curved_1 3600 (state_lines 3600 (record {
  lo = pos 53611;
  hi = pos 53612;
}) slow Between) curved_2)
curved_found_1 = record {
  valid = valid_at curved curved_1 curved_level_1 1 3600 curved_2 refl refl (λ e. omega (arith, e))
      (grid_parts curved curved_1 curved_level_1 refl refl) curved_ends_1
      refl refl refl refl refl refl refl;
  report = record {
    state = state_lines 3600 (record { lo = pos 53611; hi = pos 53612 }) slow Between;
    state_are = state_at curved curved_1 curved_level_1 1 3600 (record { lo = pos 53611; hi = pos 53612 }) slow Between
        (tank_line curved (basin_grid curved curved_level_1) curved_1 (basin_row 1 3600 3600) (record {
          lo = pos 53611;
          hi = pos 53612;
        }) slow Between refl refl refl refl)
        (link_line curved (basin_grid curved curved_level_1) curved_1 (basin_row 1 3600 3600) _ _ slow WordActive refl
        refl refl refl);
    at_end = [];
    at_end_are = record { events = _; changes = _; brings = ended_by_clock curved_ends_1; lines_are = refl };
    lines_are = refl;
  };
}

curved_found_2 : IsFound (basin_network curved) (found_of curved curved_2 0 (state_lines 7200 (record {
  lo = pos 60555;
  hi = pos 60556;
}) slow Between) curved_left)
curved_found_2 = record {
  valid = last_valid curved curved_2 curved_level_2 2 0 curved_left refl refl refl refl
      (grid_parts curved curved_2 curved_level_2 refl refl) refl;
  report = record {
    state = state_lines 7200 (record { lo = pos 60555; hi = pos 60556 }) slow Between;
    state_are = state_at curved curved_2 curved_level_2 2 0 (record { lo = pos 60555; hi = pos 60556 }) slow Between
        (tank_line curved (basin_grid curved curved_level_2) curved_2 (basin_row 2 7200 0) (record {
          lo = pos 60555;
          hi = pos 60556;
        }) slow Between refl refl refl refl)
        (link_line curved (basin_grid curved curved_level_2) curved_2 (basin_row 2 7200 0) _ _ slow WordActive refl
        refl refl refl);
    at_end = [];
    at_end_are = record { events = _; changes = _; brings = at_end refl; lines_are = refl };
    lines_are = refl;
  };
}

pub curved_run : IsRun (basin_network curved) curved_founds curved_left
curved_run = more curved_found_0 (more curved_found_1 (more curved_found_2 nothing_more))

-- ---- the tank that overflows

abbrev spilling_level_0 : Interval
spilling_level_0 = exactly (pos 90000000000000)

abbrev spilling_level_1 : Interval
spilling_level_1 = exactly (pos 100000000000000)

abbrev filled : Watch
filled = record { tank = 0; target = pos 100000000000000; rising = true }

spilling_clock_0 : IsClockLength (basin_network spilling) 0 3600
spilling_clock_0 = clock_length spilling 0 3600 (step (omega arith) refl) (omega arith) (omega arith)
    (λ m later e. omega arith)

may_fill : SomeMayReach (basin_network spilling) (basin_grid spilling spilling_level_0) spilling_0 (basin_row 0 0 543)
    543
may_fill = record {
  watch = filled;
  is_watched = (0, lit< tt, refl);
  tank = spilling.tank;
  is_tank = refl;
  reached = refl;
}

must_fill : SomeMustReach (basin_network spilling) (basin_grid spilling spilling_level_0) spilling_0
    (basin_row 0 0 543) 543
must_fill = record {
  watch = filled;
  is_watched = (0, lit< tt, refl);
  tank = spilling.tank;
  is_tank = refl;
  reached = refl;
}

spilling_ends_0 : EndsBy (basin_network spilling) (basin_grid spilling spilling_level_0) spilling_0
    (basin_row 0 0 543) (WithoutRules 543)
spilling_ends_0 = by_clock
    (no_rules spilling (basin_grid spilling spilling_level_0) spilling_0 (basin_row 0 0 543) 543 (λ e. omega (arith, e))
    (earliest_end spilling (basin_grid spilling spilling_level_0) spilling_0 (basin_row 0 0 543) 3600 543
    spilling_clock_0 (omega arith) refl (inr (omega arith, may_fill))))
    (latest_end spilling (basin_grid spilling spilling_level_0) spilling_0 (basin_row 0 0 543) 3600 543
    spilling_clock_0 (omega arith) refl (inr (omega arith, must_fill)))

spilling_clock_1 : IsClockLength (basin_network spilling) 543 3057
spilling_clock_1 = clock_length spilling 543 3057 (duration (omega arith) refl) (omega arith) (omega arith)
    (λ m later e. omega arith)

spilling_ends_1 : EndsBy (basin_network spilling) (basin_grid spilling spilling_level_1) spilling_1
    (basin_row 1 543 3057) (WithoutRules 3057)
spilling_ends_1 = by_clock
    (no_rules spilling (basin_grid spilling spilling_level_1) spilling_1 (basin_row 1 543 3057) 3057
    (λ e. omega (arith, e))
    (earliest_end spilling (basin_grid spilling spilling_level_1) spilling_1 (basin_row 1 543 3057) 3057 3057
    spilling_clock_1 (omega arith) refl (inl spilling_clock_1)))
    (latest_end spilling (basin_grid spilling spilling_level_1) spilling_1 (basin_row 1 543 3057) 3057 3057
    spilling_clock_1 (omega arith) refl (inl spilling_clock_1))

spilling_found_0 : IsFound (basin_network spilling) (found_of spilling spilling_0 543
    (state_lines 0 (exactly (pos 90000)) fast Between ++ (FilledLine 543 0 ∷ [])) spilling_1)
spilling_found_0 = record {
  valid = valid_at spilling spilling_0 spilling_level_0 0 543 spilling_1 refl refl (λ e. omega (arith, e))
      (grid_parts spilling spilling_0 spilling_level_0 refl refl) spilling_ends_0
      refl refl refl refl refl refl refl;
  report = record {
    state = state_lines 0 (exactly (pos 90000)) fast Between;
    state_are = state_at spilling spilling_0 spilling_level_0 0 543 (exactly (pos 90000)) fast Between
        (tank_line spilling (basin_grid spilling spilling_level_0) spilling_0 (basin_row 0 0 543)
        (exactly (pos 90000)) fast Between refl refl refl refl)
        (link_line spilling (basin_grid spilling spilling_level_0) spilling_0 (basin_row 0 0 543) _ _ fast WordActive
        refl refl refl refl);
    at_end = FilledLine 543 0 ∷ [];
    at_end_are = record { events = _; changes = _; brings = ended_by_clock spilling_ends_0; lines_are = refl };
    lines_are = refl;
  };
}

spilling_found_1 : IsFound (basin_network spilling) (found_of spilling spilling_1 3057 [] spilling_2)
spilling_found_1 = record {
  valid = valid_at spilling spilling_1 spilling_level_1 1 3057 spilling_2 refl refl (λ e. omega (arith, e))
      (grid_parts spilling spilling_1 spilling_level_1 refl refl) spilling_ends_1
      refl refl refl refl refl refl refl;
  report = record {
    state = [];
    state_are = refl;
    at_end = [];
    at_end_are = record { events = _; changes = _; brings = ended_by_clock spilling_ends_1; lines_are = refl };
    lines_are = refl;
  };
}

spilling_found_2 : IsFound (basin_network spilling) (found_of spilling spilling_2 0
    (state_lines 3600 (exactly (pos 100000)) fast Full) spilling_left)
spilling_found_2 = record {
  valid = last_valid spilling spilling_2 spilling_level_1 2 0 spilling_left refl refl refl refl
      (grid_parts spilling spilling_2 spilling_level_1 refl refl) refl;
  report = record {
    state = state_lines 3600 (exactly (pos 100000)) fast Full;
    state_are = state_at spilling spilling_2 spilling_level_1 2 0 (exactly (pos 100000)) fast Full
        (tank_line spilling (basin_grid spilling spilling_level_1) spilling_2 (basin_row 2 3600 0)
        (exactly (pos 100000)) fast Full refl refl refl refl)
        (link_line spilling (basin_grid spilling spilling_level_1) spilling_2 (basin_row 2 3600 0) _ _ fast WordActive
        refl refl refl refl);
    at_end = [];
    at_end_are = record { events = _; changes = _; brings = at_end refl; lines_are = refl };
    lines_are = refl;
  };
}

pub spilling_run : IsRun (basin_network spilling) spilling_founds spilling_left
spilling_run = more spilling_found_0 (more spilling_found_1 (more spilling_found_2 nothing_more))

-- ---- texts

pub row_fits : (number time length : ℕ) → number < 2 ^ 32 → time < 2 ^ 32 → length < 2 ^ 32
    → IsRow 0 1 (basin_row number time length)
row_fits number time length a b c = record {
  number_fits = a;
  time_fits = b;
  length_fits = c;
  main_upper = none_there;
  main_lower = none_there;
  pinned_each = refl;
  pinned_upper = All-cons (λ (v : Vectors). IsVector 0 v.upper) no_vectors [] none_there
      (All-nil (λ (v : Vectors). IsVector 0 v.upper));
  pinned_lower = All-cons (λ (v : Vectors). IsVector 0 v.lower) no_vectors [] none_there
      (All-nil (λ (v : Vectors). IsVector 0 v.lower));
}
  where
    none_there : IsVector 0 []
    none_there = record { one_each = refl; in_box = All-nil IsInBox }

pub three_fit : (a b c : Record) → IsRow 0 1 a → IsRow 0 1 b → IsRow 0 1 c → All (IsRow 0 1) (a ∷ b ∷ c ∷ [])
three_fit a b c x y z = All-cons (IsRow 0 1) a (b ∷ c ∷ []) x
    (All-cons (IsRow 0 1) b (c ∷ []) y (All-cons (IsRow 0 1) c [] z (All-nil (IsRow 0 1))))
