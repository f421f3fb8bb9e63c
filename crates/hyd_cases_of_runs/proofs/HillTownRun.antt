-- The run of the hill town: valid records, and their lines.
use Rattle.std.proofs.Common.{◌≡◌, ℕ, ◌<◌, ◌≤◌, ◌^◌, ℤ, pos, ◌-ℤ◌, Bool, true, false, List, [], ◌∷◌}
use Rattle.std.proofs.Common.{refl, sym, ap, subst, arith, lit≤, take, drop}
use Rattle.std.specs.Prelude.{slice_get, slice_index_or, unsigned_abs, Some, IsFalse, All, length}
use Rattle.std.proofs.lemmas.List.Elements.{All-nil, All-cons}
use Rattle.hyd_spec.specs.ProgramTypes.{Junction, Link, LinkState}
use Rattle.hyd_spec.specs.declared.Change.{Change}
use Rattle.hyd_spec.specs.DemandsHeadsAndPumpLifts.{demand_of}
use Rattle.hyd_spec.specs.Rules.{state_of_link}
use Rattle.hyd_spec_certificates.specs.declared.StatusWord.{StatusWord}
use Rattle.hyd_spec_certificates.specs.EnclosingFunctions.{root_up}
use Rattle.hyd_spec_certificates.specs.Interval.{Interval, exactly, shifted}
use Rattle.hyd_spec_certificates.specs.PeriodNetwork.{Grid, GridLink, GridJunction}
use Rattle.hyd_spec_certificates.specs.FlowIntervals.{difference, out_box}
use Rattle.hyd_spec.specs.Assignment.{head_at}
use Rattle.hyd_spec_certificates.specs.RecordAndStanding.{Record, Standing, Vectors}
use Rattle.hyd_spec_certificates.specs.ThreeValuedLogic.{is_unknown}
use Rattle.hyd_spec_certificates.specs.Decided.{links_at, nowhere, control_truth, level_of_tank, inflow_of_tank}
use Rattle.hyd_spec_certificates.specs.Decided.{flow_boxes, heads_below, heads_above}
use Rattle.hyd_spec_certificates.specs.Valid.{IsValid, DemandsAreInRange, demand_limit}
use Rattle.hyd_spec_certificates.specs.Valid.{LeavesLinks, levels_next, volumes_next, ControlsAreDecided}
use Rattle.hyd_spec_certificates.specs.Valid.{continues, finishes, by_rules as left_by_rules, by_clock as left_by_clock}
use Rattle.hyd_spec_certificates.specs.CertificateText.{IsVector, IsRow}
use Rattle.hyd_spec_reports.specs.ReportLine.{JunctionLine, ReservoirLine, TankLine, LinkLine}
use Rattle.hyd_spec_reports.specs.ReportLine.{FilledLine, ReachedLine}
use Rattle.hyd_spec_reports.specs.Report.{IsJunctionLine, IsReservoirLine, IsTankLine, IsLinkLine}
use Rattle.hyd_spec_certificates.specs.StatusesOfLinks.{status_of}
use Rattle.hyd_spec_reports.specs.Report.{AreStateLines, IsReport}
use Rattle.hyd_spec_certificates.specs.EndsOfPeriods.{events_of, EndBrings, at_end, by_rules, by_clock}
use Rattle.hyd_spec_reports.specs.PromisesOfRunsAndChecks.{IsFound, IsRun, none as nothing_more, more}
use Rattle.hyd_spec_certificates.specs.declared.Event.{Event}
use Rattle.hyd_spec_certificates.specs.declared.EventKind.TheVariants.{Full as BecomesFull, Control as ReachesLevel}
use Rattle.hyd_spec.specs.declared.TankState.{TankState}
use Rattle.hyd_theorems_on_definitions.proofs.Roots.{root_down-quick, quick_root}
use Rattle.hyd_cases_of_runs.specs.HillTown.{hill_town, hill, pool, standing_0, standing_1, standing_2}
use Rattle.hyd_cases_of_runs.specs.HillTown.{standing_3, left, grid_0, grid_1, grid_2, grid_3, row_0, row_1, row_2}
use Rattle.hyd_cases_of_runs.specs.HillTown.{row_3}
use Rattle.hyd_cases_of_runs.specs.HillTown.{grid_hill, state_0, state_3, found_0, found_1, found_2, found_3, founds}
use Rattle.hyd_cases_of_runs.proofs.HillTownRecords.{is_grid_0, is_grid_1, is_grid_2, is_grid_3, certificates_0}
use Rattle.hyd_cases_of_runs.proofs.HillTownRecords.{certificates_1, certificates_2, certificates_3, inflow_0, inflow_3}
use Rattle.hyd_cases_of_runs.proofs.HillTownRecords.{inflow_is_0, inflow_is_3, flows_0, flows_3, flows_are_0}
use Rattle.hyd_cases_of_runs.proofs.HillTownRecords.{flows_are_3}
use Rattle.hyd_cases_of_runs.proofs.HillTownEnds.{only_control, ends_0, ends_1, ends_2, pump_stops, changes_1, acted_1}
use Rattle.hyd_cases_of_runs.proofs.VillageCertificates.{all_inside, all_in_box}
use Rattle.hyd_cases_of_runs.proofs.VillageReports.{rounds, prints_heads, prints_flows}

-- ---- valid records

in_range : (time : ℕ) → unsigned_abs (demand_of hill_town time hill) ≤ demand_limit → DemandsAreInRange hill_town time
in_range time small =
    let P : Junction → Type 0 = λ junction. unsigned_abs (demand_of hill_town time junction) ≤ demand_limit in
    All-cons P hill [] small (All-nil P)

controls_decided : (level : Interval) → is_unknown (control_truth level false (pos 49985000000000)) ≡ false
    → ControlsAreDecided hill_town (level ∷ [])
controls_decided level decided each tank above ticks is at =
    let same = only_control each is in
    let tank_is : 0 ≡ tank = cc in
    let above_is : false ≡ above = cc in
    let ticks_are : pos 49985000000000 ≡ ticks = cc in
    subst (λ (k : ℕ). IsFalse (is_unknown (control_truth (slice_index_or (level ∷ []) k nowhere) above ticks)))
    tank_is
    (subst (λ (b : Bool). IsFalse (is_unknown (control_truth level b ticks))) above_is
    (subst (λ (z : ℤ). IsFalse (is_unknown (control_truth level false z))) ticks_are decided))

levels_1 : standing_1.levels ≡ levels_next hill_town grid_0 standing_0 row_0 1
unfolding root_up quick_root
levels_1 = rw root_down-quick refl

volumes_1 : standing_1.volumes ≡ volumes_next hill_town grid_0 standing_0 row_0 1
unfolding root_up quick_root
volumes_1 = rw root_down-quick refl

valid_0 : IsValid hill_town standing_0 grid_0 row_0 standing_1
valid_0 = record {
  unfinished = refl;
  number = refl;
  time = refl;
  demands = in_range 0 (lit≤ tt);
  is_grid = is_grid_0;
  certificates = certificates_0;
  leads_on = continues (record {
    not_last = λ is. omega (arith, is);
    leaves_links = left_by_clock ends_0;
    levels = levels_1;
    volumes = volumes_1;
    tanks = refl;
    controls = controls_decided _ refl;
    number = refl;
    time = refl;
    unfinished = refl;
  });
}

levels_2 : standing_2.levels ≡ levels_next hill_town grid_1 standing_1 row_1 1
unfolding root_up quick_root
levels_2 = rw root_down-quick refl

volumes_2 : standing_2.volumes ≡ volumes_next hill_town grid_1 standing_1 row_1 1
unfolding root_up quick_root
volumes_2 = rw root_down-quick refl

-- what the rule leaves
commanded_2 : LeavesLinks hill_town grid_1 standing_1 row_1 1 standing_2.commanded
commanded_2 = subst (λ (ls : List LinkState). LeavesLinks hill_town grid_1 standing_1 row_1 1 ls) acted_1
    (left_by_rules ends_1)

valid_1 : IsValid hill_town standing_1 grid_1 row_1 standing_2
valid_1 = record {
  unfinished = refl;
  number = refl;
  time = refl;
  demands = in_range 1 (lit≤ tt);
  is_grid = is_grid_1;
  certificates = certificates_1;
  leads_on = continues (record {
    not_last = λ is. omega (arith, is);
    leaves_links = commanded_2;
    levels = levels_2;
    volumes = volumes_2;
    tanks = refl;
    controls = controls_decided _ refl;
    number = refl;
    time = refl;
    unfinished = refl;
  });
}

levels_3 : standing_3.levels ≡ levels_next hill_town grid_2 standing_2 row_2 1
unfolding root_up quick_root
levels_3 = rw root_down-quick refl

volumes_3 : standing_3.volumes ≡ volumes_next hill_town grid_2 standing_2 row_2 1
unfolding root_up quick_root
volumes_3 = rw root_down-quick refl

valid_2 : IsValid hill_town standing_2 grid_2 row_2 standing_3
valid_2 = record {
  unfinished = refl;
  number = refl;
  time = refl;
  demands = in_range 2 (lit≤ tt);
  is_grid = is_grid_2;
  certificates = certificates_2;
  leads_on = continues (record {
    not_last = λ is. omega (arith, is);
    leaves_links = left_by_clock ends_2;
    levels = levels_3;
    volumes = volumes_3;
    tanks = refl;
    controls = controls_decided _ refl;
    number = refl;
    time = refl;
    unfinished = refl;
  });
}

valid_3 : IsValid hill_town standing_3 grid_3 row_3 left
valid_3 = record {
  unfinished = refl;
  number = refl;
  time = refl;
  demands = in_range 3 (lit≤ tt);
  is_grid = is_grid_3;
  certificates = certificates_3;
  leads_on = finishes (record { is_last = refl; no_length = refl; next_is = refl });
}

-- ---- the lines of the two report times

module _ (grid : Grid) (standing : Standing) (row : Record) where
  reservoir_line : IsReservoirLine hill_town 0 (pos 350000000000000) (ReservoirLine 0 (exactly (pos 350000)))
  reservoir_line = record {
    head = exactly (pos 350000);
    is_line = refl;
    head_is = prints_heads (exactly (pos 350000000000000)) (exactly (pos 350000)) refl;
  }

  abbrev heads_of : Interval
  heads_of = record { lo = head_at row.main.lower 0; hi = head_at row.main.upper 0 }

  abbrev pressures_of : GridJunction → Interval
  pressures_of junction = record {
    lo = head_at row.main.lower 0 -ℤ junction.elevation;
    hi = head_at row.main.upper 0 -ℤ junction.elevation;
  }

  junction_line : (junction : GridJunction) (head pressure outflow : Interval)
      → rounds (pos (10 ^ 9)) heads_of head ≡ true → rounds (pos (10 ^ 9)) (pressures_of junction) pressure ≡ true
      → rounds (pos 1000) (out_box junction (head_at row.main.lower 0) (head_at row.main.upper 0)) outflow ≡ true
      → IsJunctionLine hill_town grid row 0 junction (JunctionLine 0 head pressure outflow)
  junction_line junction head pressure outflow a b c = record {
    heads = heads_of;
    heads_are = refl;
    head = head;
    pressure = pressure;
    outflow = outflow;
    is_line = refl;
    head_is = prints_heads heads_of head a;
    pressure_is = prints_heads (pressures_of junction) pressure b;
    outflow_is = prints_flows (out_box junction (head_at row.main.lower 0) (head_at row.main.upper 0)) outflow c;
  }

  tank_line : (inside head level inflow : Interval) (state : TankState) → inflow_of_tank hill_town grid row 0 ≡ inside
      → rounds (pos (10 ^ 9)) (shifted pool.bottom (level_of_tank standing 0)) head ≡ true
      → rounds (pos (10 ^ 9)) (level_of_tank standing 0) level ≡ true → rounds (pos 1000) inside inflow ≡ true
      → slice_get standing.tanks 0 ≡ Some state
      → IsTankLine hill_town grid standing row 0 pool (TankLine 0 head level inflow state)
  tank_line inside head level inflow state same a b c at = record {
    head = head;
    level = level;
    inflow = inflow;
    state = state;
    is_line = refl;
    head_is = prints_heads (shifted pool.bottom (level_of_tank standing 0)) head a;
    level_is = prints_heads (level_of_tank standing 0) level b;
    inflow_is = prints_flows (inflow_of_tank hill_town grid row 0) inflow
        (subst (λ (i : Interval). rounds (pos 1000) i inflow ≡ true) (sym same) c);
    state_is = at;
  }

  link_line : (l : ℕ) (link : Link) (place : GridLink) (boxes : List Interval) (box flow : Interval)
      (word : StatusWord) → flow_boxes grid row ≡ boxes → slice_get grid.links l ≡ Some place
      → slice_get boxes l ≡ Some box → rounds (pos 1000) box flow ≡ true
      → status_of false [] link.kind (state_of_link (links_at hill_town standing) l)
      (difference place (heads_below grid row) (heads_above grid row)) ≡ word
      → IsLinkLine hill_town grid standing row l link (LinkLine l flow word)
  link_line l link place boxes box flow word same at boxed e is = record {
    place = place;
    place_is = at;
    box = box;
    box_is = subst (λ (bs : List Interval). slice_get bs l ≡ Some box) (sym same) boxed;
    flow = flow;
    flow_is = prints_flows box flow e;
    is_line = ap (LinkLine l flow) (sym is);
  }

outflow_0 : rounds (pos 1000) (out_box grid_hill (pos 650015839684274) (pos 650015839686033))
    (record { lo = pos 7035715; hi = pos 7035716 }) ≡ true
unfolding root_up quick_root
outflow_0 = rw root_down-quick refl

outflow_3 : rounds (pos 1000) (out_box grid_hill (pos 650000502423718) (pos 650000502477942))
    (record { lo = pos 7035275; hi = pos 7035276 }) ≡ true
unfolding root_up quick_root
outflow_3 = rw root_down-quick refl

state_is_0 : AreStateLines hill_town grid_0 standing_0 row_0 state_0
state_is_0 = record {
  junctions = take 1 (drop 1 state_0);
  reservoirs = take 1 (drop 2 state_0);
  tanks = take 1 (drop 3 state_0);
  links = drop 4 state_0;
  junctions_are = (junction_line grid_0 standing_0 row_0 _ _ _ _ refl refl outflow_0, tt);
  reservoirs_are = (reservoir_line grid_0 standing_0 row_0, tt);
  tanks_are = (tank_line grid_0 standing_0 row_0 inflow_0 _ _ _ _ inflow_is_0 refl refl refl refl, tt);
  links_are = (
    link_line grid_0 standing_0 row_0 0 _ _ flows_0 _ _ _ flows_are_0 refl refl refl refl,
    (
      link_line grid_0 standing_0 row_0 1 _ _ flows_0 _ _ _ flows_are_0 refl refl refl refl,
      (link_line grid_0 standing_0 row_0 2 _ _ flows_0 _ _ _ flows_are_0 refl refl refl refl, tt),
    ),
  );
  lines_are = refl;
}

state_is_3 : AreStateLines hill_town grid_3 standing_3 row_3 state_3
state_is_3 = record {
  junctions = take 1 (drop 1 state_3);
  reservoirs = take 1 (drop 2 state_3);
  tanks = take 1 (drop 3 state_3);
  links = drop 4 state_3;
  junctions_are = (junction_line grid_3 standing_3 row_3 _ _ _ _ refl refl outflow_3, tt);
  reservoirs_are = (reservoir_line grid_3 standing_3 row_3, tt);
  tanks_are = (tank_line grid_3 standing_3 row_3 inflow_3 _ _ _ _ inflow_is_3 refl refl refl refl, tt);
  links_are = (
    link_line grid_3 standing_3 row_3 0 _ _ flows_3 _ _ _ flows_are_3 refl refl refl refl,
    (
      link_line grid_3 standing_3 row_3 1 _ _ flows_3 _ _ _ flows_are_3 refl refl refl refl,
      (link_line grid_3 standing_3 row_3 2 _ _ flows_3 _ _ _ flows_are_3 refl refl refl refl, tt),
    ),
  );
  lines_are = refl;
}

-- ---- what the ends bring

events_0 : events_of hill_town grid_0 standing_0 row_0 ≡ record { tank = 0; what = BecomesFull } ∷ []
unfolding root_up quick_root
events_0 = rw root_down-quick refl

events_1 : events_of hill_town grid_1 standing_1 row_1 ≡ []
unfolding root_up quick_root
events_1 = rw root_down-quick refl

events_2 : events_of hill_town grid_2 standing_2 row_2 ≡ record { tank = 0; what = ReachesLevel 0 } ∷ []
unfolding root_up quick_root
events_2 = rw root_down-quick refl

report_0 : IsReport hill_town grid_0 standing_0 row_0 found_0.lines
report_0 = record {
  state = state_0;
  state_are = state_is_0;
  at_end = FilledLine 1 0 ∷ [];
  at_end_are = record {
    events = record { tank = 0; what = BecomesFull } ∷ [];
    changes = [];
    brings = subst (λ (es : List Event). EndBrings hill_town grid_0 standing_0 row_0 es []) events_0
        (by_clock ends_0);
    lines_are = refl;
  };
  lines_are = refl;
}

report_1 : IsReport hill_town grid_1 standing_1 row_1 found_1.lines
report_1 = record {
  state = [];
  state_are = refl;
  at_end = found_1.lines;
  at_end_are = record {
    events = [];
    changes = pump_stops ∷ [];
    brings = subst (λ (es : List Event). EndBrings hill_town grid_1 standing_1 row_1 es (pump_stops ∷ [])) events_1
        (subst (λ (cs : List Change). EndBrings hill_town grid_1 standing_1 row_1
        (events_of hill_town grid_1 standing_1 row_1) cs) changes_1 (by_rules ends_1));
    lines_are = refl;
  };
  lines_are = refl;
}

report_2 : IsReport hill_town grid_2 standing_2 row_2 found_2.lines
report_2 = record {
  state = [];
  state_are = refl;
  at_end = ReachedLine 3 0 0 ∷ [];
  at_end_are = record {
    events = record { tank = 0; what = ReachesLevel 0 } ∷ [];
    changes = [];
    brings = subst (λ (es : List Event). EndBrings hill_town grid_2 standing_2 row_2 es []) events_2
        (by_clock ends_2);
    lines_are = refl;
  };
  lines_are = refl;
}

report_3 : IsReport hill_town grid_3 standing_3 row_3 found_3.lines
report_3 = record {
  state = state_3;
  state_are = state_is_3;
  at_end = [];
  at_end_are = record { events = []; changes = []; brings = at_end refl; lines_are = refl };
  lines_are = refl;
}

-- ---- the run

pub run : IsRun hill_town founds left
run =
    let is_found_0 : IsFound hill_town found_0 = record { valid = valid_0; report = report_0 } in
    let is_found_1 : IsFound hill_town found_1 = record { valid = valid_1; report = report_1 } in
    let is_found_2 : IsFound hill_town found_2 = record { valid = valid_2; report = report_2 } in
    let is_found_3 : IsFound hill_town found_3 = record { valid = valid_3; report = report_3 } in
    more is_found_0 (more is_found_1 (more is_found_2 (more is_found_3 nothing_more)))

-- ---- records in a certificate

vector : (u : List ℤ) → length u ≡ 1 → all_inside u ≡ true → IsVector 1 u
vector u one inside = record { one_each = one; in_box = all_in_box u inside }

row_fits : (row : Record) (vectors : Vectors) → row.pinned ≡ vectors ∷ [] → row.number < 2 ^ 32
    → row.time < 2 ^ 32 → row.length < 2 ^ 32 → IsVector 1 row.main.upper → IsVector 1 row.main.lower
    → IsVector 1 vectors.upper → IsVector 1 vectors.lower → IsRow 1 1 row
row_fits row vectors pinned number time length a b c d = record {
  number_fits = number;
  time_fits = time;
  length_fits = length;
  main_upper = a;
  main_lower = b;
  pinned_each = rw pinned refl;
  pinned_upper = rw pinned (All-cons (λ (v : Vectors). IsVector 1 v.upper) vectors [] c
      (All-nil (λ (v : Vectors). IsVector 1 v.upper)));
  pinned_lower = rw pinned (All-cons (λ (v : Vectors). IsVector 1 v.lower) vectors [] d
      (All-nil (λ (v : Vectors). IsVector 1 v.lower)));
}

pub rows_fit : All (IsRow 1 1) (row_0 ∷ row_1 ∷ row_2 ∷ row_3 ∷ [])
rows_fit =
    All-cons (IsRow 1 1) row_0 (row_1 ∷ row_2 ∷ row_3 ∷ [])
    (row_fits row_0 _ refl (omega arith) (omega arith) (omega arith) (vector _ refl refl) (vector _ refl refl)
    (vector _ refl refl) (vector _ refl refl))
    (All-cons (IsRow 1 1) row_1 (row_2 ∷ row_3 ∷ [])
    (row_fits row_1 _ refl (omega arith) (omega arith) (omega arith) (vector _ refl refl) (vector _ refl refl)
    (vector _ refl refl) (vector _ refl refl))
    (All-cons (IsRow 1 1) row_2 (row_3 ∷ [])
    (row_fits row_2 _ refl (omega arith) (omega arith) (omega arith) (vector _ refl refl) (vector _ refl refl)
    (vector _ refl refl) (vector _ refl refl))
    (All-cons (IsRow 1 1) row_3 []
    (row_fits row_3 _ refl (omega arith) (omega arith) (omega arith) (vector _ refl refl) (vector _ refl refl)
    (vector _ refl refl) (vector _ refl refl))
    (All-nil (IsRow 1 1)))))
