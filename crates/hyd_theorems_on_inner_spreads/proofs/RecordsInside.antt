-- Records that are valid for a spread are so for each spread inside it that leaves the same heads open.
use Rattle.std.proofs.Common.{◌≡◌, ℕ, suc, ◌+◌, ◌*◌, ◌≤◌, ℤ, pos, neg_ℤ, ◌≤ℤ◌, refl, sym, ap, subst, ◌∙◌, arith}
use Rattle.std.proofs.Common.{List, [], ◌∷◌, ◌++◌, map, false}
use Rattle.std.specs.Prelude.{unsigned_abs, Some, slice_get}
use Rattle.std.specs.List.{AllByRecursion, AllZip}
use Rattle.std.proofs.lemmas.Int.{ints}
use Rattle.std.proofs.lemmas.List.Elements.{recursion_from_All, All-from_recursion}
use Rattle.hyd_net.specs.Sound.{IsSound}
use Rattle.hyd_spec.specs.ProgramTypes.{Project, Junction, Reservoir, Tank}
use Rattle.hyd_spec.specs.Lists.{map_from}
use Rattle.hyd_spec.specs.Scale.{missed_flow_ticks}
use Rattle.hyd_spec.specs.NodeNumbers.{tank_node}
use Rattle.hyd_spec.specs.Tank.{kept_volume, walls_of}
use Rattle.hyd_spec.specs.DemandsHeadsAndPumpLifts.{demand_of, reservoir_head}
use Rattle.hyd_spec_certificates.specs.declared.Side.{Side}
use Rattle.hyd_spec_certificates.specs.declared.Side.TheVariants.{Upper, Lower}
use Rattle.hyd_spec_certificates.specs.declared.Problem.TheVariants.{Main, Pinned}
use Rattle.hyd_spec_certificates.specs.Interval.{Interval, shifted, widened}
use Rattle.hyd_spec_certificates.specs.EnclosingFunctions.{low, high}
use Rattle.hyd_spec_certificates.specs.NetOutflow.{net, link_ends}
use Rattle.hyd_spec_certificates.specs.FlowIntervals.{flow_box, inflow_box}
use Rattle.hyd_spec_certificates.specs.PeriodNetwork.{Grid, GridLink, all_heads, end_on, tank_side}
use Rattle.hyd_spec_certificates.specs.RecordAndStanding.{Record, Standing, Vectors, initial_standing}
use Rattle.hyd_spec_certificates.specs.Decided.{heads_below, heads_above, links_at}
use Rattle.hyd_spec_certificates.specs.Valid.{LeadsOn, continues, finishes, demand_limit, AreStates, ControlsAreDecided}
use Rattle.hyd_spec_certificates.specs.Valid.{AreValid, AreValidFrom, IsValid, none as none_valid, more as more_valid}
use Rattle.hyd_spec_spread.specs.Spreads.{Spread, IsSpread, IsInside, no_spread, demand_factors, level_interval}
use Rattle.hyd_spec_spread.specs.Spreads.{head_offsets}
use Rattle.hyd_spec_spread.specs.IntervalsOfData.{known_junction, known_heads, known_levels, known_volumes, products}
use Rattle.hyd_spec_spread.specs.IntervalsOfData.{known_volume}
use Rattle.hyd_spec_spread.specs.OutermostGrids.{IsOutermostGrid}
use Rattle.hyd_spec_spread_runs.specs.OutermostPairs.{Pair, grid_on, spanned, spanning}
use Rattle.hyd_spec_spread_runs.specs.RunsForSpreads.{FoundOver, IsValidOver, IsRunOverFrom, none, more, IsRunOver}
use Rattle.hyd_spec_spread_runs.specs.RunsForSpreads.{StartIsDecided, standing_within, ArePairAt, IsDemandInRange}
use Rattle.hyd_spec_spread_runs.specs.RunsForSpreads.{AreDemandsInRange}
use Rattle.hyd_lemmas.proofs.ListsOptionsAndResults.{same_from}
use Rattle.hyd_theorems_on_histories.specs.Agreement.{IsKept}
use Rattle.hyd_theorems_on_histories.proofs.AgreementAfterPeriod.{kept_next}
use Rattle.hyd_theorems_on_nesting.proofs.GridsExist.{grid_is}
use Rattle.hyd_theorems_on_spread.proofs.NoSpread.{none-is-spread, none-is-inside}
use Rattle.hyd_theorems_on_spread.proofs.OwnNetwork.{grid-outermost}
use Rattle.hyd_theorems_on_spread.proofs.ProductsInOrder.{products-inside, products-hold, products-least}
use Rattle.hyd_theorems_on_spread_runs.proofs.CertificatesInside.{inside-another}
use Rattle.hyd_theorems_on_spread_runs.proofs.RunsAlone.{both, valid-alone, standing-alone}
use Rattle.hyd_theorems_on_spread_runs.proofs.SameBoxes.{SameBoxes, leads-alike}
use Rattle.hyd_theorems_on_spread_runs.proofs.StartsWithin.{kept_at_start}
use Rattle.hyd_theorems_on_inner_spreads.specs.RunsInside.{LeaveSameHeads, IsFoundToo, IsRunToo, row_of}

-- ---- boxes

-- Two pairs of grids have the same tanks, links and reservoirs, side by side.
record AreAlike (wide narrow : Pair) : Type 0 where
  tanks : wide.upper.tanks ≡ narrow.upper.tanks
  links : wide.upper.links ≡ narrow.upper.links
  above : wide.upper.reservoirs ≡ narrow.upper.reservoirs
  below : wide.lower.reservoirs ≡ narrow.lower.reservoirs

same-boxes : (project : Project) (wide narrow : Pair) (row : Record) → AreAlike wide narrow
    → SameBoxes project (spanned wide) (spanned narrow) (spanning wide row) (spanning narrow row)
same-boxes project wide narrow row alike =
    let t = alike.tanks in
    let l = alike.links in
    let u = alike.above in
    let d = alike.below in
    record {
      below = λ i. (row.main.lower ++ d i)
          ++ ([] ++ map_from (λ k (x : Interval). end_on (tank_side Main Lower k) x) 0 (t i));
      above = λ i. (row.main.upper ++ u i)
          ++ ([] ++ map_from (λ k (x : Interval). end_on (tank_side Main Upper k) x) 0 (t i));
      flows = λ i. map (λ (link : GridLink). flow_box link
          ((row.main.lower ++ d i) ++ ([] ++ map_from (λ k (x : Interval). end_on (tank_side Main Lower k) x) 0 (t i)))
          ((row.main.upper ++ u i) ++ ([] ++ map_from (λ k (x : Interval). end_on (tank_side Main Upper k) x) 0 (t i))))
          (l i);
      inflows = λ i. map_from (λ k (v : Vectors). widened
          (pos (missed_flow_ticks * link_ends (tank_node project k) (l i))) (record {
            lo = neg_ℤ (net high low (v.lower
                ++ ([] ++ map_from (λ m (x : Interval). end_on (tank_side (Pinned k) Lower m) x) 0 (t i)))
                (tank_node project k) (l i));
            hi = neg_ℤ (net low high (v.upper
                ++ ([] ++ map_from (λ m (x : Interval). end_on (tank_side (Pinned k) Upper m) x) 0 (t i)))
                (tank_node project k) (l i));
          })) 0 (map (λ (v : Vectors). record { upper = v.upper ++ u i; lower = v.lower ++ d i }) row.pinned);
      length_is = refl;
    }

-- ---- one record

module _ (project : Project) (sound : IsSound project) (inner outer : Spread) (is : IsSpread project inner)
    (inside : IsInside project inner outer) (alike : LeaveSameHeads project inner outer) where
  ranges : (time from : ℕ) (js : List Junction)
      → AllByRecursion IsDemandInRange (map_from (known_junction project outer time) from js)
      → AllByRecursion IsDemandInRange (map_from (known_junction project inner time) from js)
  ranges time from [] all = tt
  ranges time from (j ∷ js) all =
      let n = products-inside (demand_factors inner from) (demand_factors outer from) (inside.demands from)
      (demand_of project time j) in
      let h = products-hold (demand_factors inner from) (is.demands from) (demand_of project time j) in
      let a = n.low in let b = n.high in let c = h.low in let d = h.high in
      let least = all.0.least in let greatest = all.0.greatest in (
        record {
          least = between (products (demand_factors outer from) (demand_of project time j)).lo
              (products (demand_factors inner from) (demand_of project time j)).lo
              (products (demand_factors outer from) (demand_of project time j)).hi a (omega (arith, ints, b, c, d))
              least greatest;
          greatest = between (products (demand_factors outer from) (demand_of project time j)).lo
              (products (demand_factors inner from) (demand_of project time j)).hi
              (products (demand_factors outer from) (demand_of project time j)).hi (omega (arith, ints, a, c, d)) b
              least greatest;
        },
        ranges time (suc from) js all.1,
      )
    where
      between : (lo z hi : ℤ) → lo ≤ℤ z → z ≤ℤ hi → unsigned_abs lo ≤ demand_limit → unsigned_abs hi ≤ demand_limit
          → unsigned_abs z ≤ demand_limit
      between lo z hi a b l h = omega (arith, ints, a, b, l, h)

  heads-same : (time : ℕ) → known_heads project outer time ≡ known_heads project inner time
  heads-same time = λ i. map_from (λ r (reservoir : Reservoir).
      shifted (reservoir_head project time reservoir) (back r i)) 0 project.reservoirs.list
    where
      back : (r : ℕ) → head_offsets outer r ≡ head_offsets inner r
      back r = sym (alike.heads r)

  pub range-inside : (time : ℕ) → AreDemandsInRange project outer time → AreDemandsInRange project inner time
  range-inside time = ranges time 0 project.junctions.list

  pub valid-inside : (standing : Standing) (pair : Pair) (row : Record) (next : Standing) → IsKept project standing
      → IsValidOver project outer standing pair row next → (narrow : Pair) → ArePairAt project inner standing narrow
      → IsValidOver project inner standing narrow row next
  valid-inside standing pair row next kept valid narrow are =
      let same = same-boxes project pair narrow row (record {
        tanks = (valid.are_pair Upper).tank_heads ∙ sym (are Upper).tank_heads;
        links = (valid.are_pair Upper).links_are ∙ sym (are Upper).links_are;
        above = (valid.are_pair Upper).reservoirs ∙ (ap (map (end_on Upper)) (heads-same standing.time)
            ∙ sym (are Upper).reservoirs);
        below = (valid.are_pair Lower).reservoirs ∙ (ap (map (end_on Lower)) (heads-same standing.time)
            ∙ sym (are Lower).reservoirs);
      }) in
      record {
        unfinished = valid.unfinished;
        number = valid.number;
        time = valid.time;
        demands = range-inside standing.time valid.demands;
        are_pair = are;
        certificates = inside-another project sound inner outer inside standing pair row next kept valid narrow are;
        leads_on = leads-alike project standing (spanned pair) (spanned narrow) (spanning pair row)
            (spanning narrow row) same next valid.leads_on;
      }

  -- ---- all of them

  after : (standing : Standing) (pair : Pair) (row : Record) (next : Standing) → IsKept project standing
      → LeadsOn project (spanned pair) standing (spanning pair row) next → IsKept project next
  after standing pair row next kept (continues c) =
      kept_next project sound (spanned pair) standing (spanning pair row) next kept c
  after standing pair row next kept (finishes f) = subst (IsKept project) (sym f.next_is) (record {
    controls = kept.controls;
    levels = kept.levels;
    states = kept.states;
  })

  -- ---- the start

  levels-same : known_levels project outer ≡ known_levels project inner
  levels-same = same_from (level_interval outer) (level_interval inner) 0 project.tanks.list (λ k tank at.
      subst (λ (m : ℕ). level_interval outer m tank ≡ level_interval inner m tank)
      (let n : k ≡ 0 + k = omega arith in n) (sym (alike.levels k tank at)))

  volume-same : (k : ℕ) (tank : Tank) → slice_get project.tanks.list k ≡ Some tank
      → known_volume project outer k tank ≡ known_volume project inner k tank
  volume-same k tank at =
      let back = sym (alike.levels k tank at) in
      λ i. record {
        lo = kept_volume (walls_of project tank) (back i).lo;
        hi = kept_volume (walls_of project tank) (back i).hi;
      }

  volumes-same : known_volumes project outer ≡ known_volumes project inner
  volumes-same = same_from (known_volume project outer) (known_volume project inner) 0 project.tanks.list
      (λ k tank at. subst (λ (m : ℕ). known_volume project outer m tank ≡ known_volume project inner m tank)
      (let n : k ≡ 0 + k = omega arith in n) (volume-same k tank at))

  start-same : standing_within project outer ≡ standing_within project inner
  start-same = λ i. record (initial_standing project) { levels = levels-same i; volumes = volumes-same i }

  start-decided : StartIsDecided project outer → StartIsDecided project inner
  start-decided start = record {
    states = subst (λ (levels : List Interval). AreStates project levels (initial_standing project).tanks) levels-same
        start.states;
    controls = subst (ControlsAreDecided project) levels-same start.controls;
  }

-- ---- a run

module _ (project : Project) (sound : IsSound project) (inner outer : Spread) (is : IsSpread project inner)
    (inside : IsInside project inner outer) (alike : LeaveSameHeads project inner outer)
    (pairs : (standing : Standing) → AreDemandsInRange project inner standing.time
    → (pair : Pair) × ArePairAt project inner standing pair) where
  record IsRunTooFrom (standing : Standing) (founds : List FoundOver) (last : Standing) : Type 0 where
    others : List FoundOver
    found_too : AllZip IsFoundToo founds others
    run : IsRunOverFrom project inner standing others last

  run-inside : (standing : Standing) (founds : List FoundOver) (last : Standing)
      → IsRunOverFrom project outer standing founds last → IsKept project standing
      → IsRunTooFrom standing founds last
  run-inside _ _ last none kept = record { others = []; found_too = tt; run = none }
  run-inside _ _ last (more {found = found} {rest = rest} valid go) kept =
      let one = pairs found.standing (range-inside project sound inner outer is inside alike found.standing.time
      valid.demands) in
      let next = run-inside found.next rest last go
      (after project sound inner outer is inside alike found.standing found.pair found.row found.next kept
      valid.leads_on) in
      let other : FoundOver = record {
        standing = found.standing;
        pair = one.0;
        row = found.row;
        next = found.next;
      } in
      record {
        others = other ∷ next.others;
        found_too = (record { standing = refl; row = refl; next = refl }, next.found_too);
        run = more {found = other} (valid-inside project sound inner outer is inside alike found.standing found.pair
            found.row found.next kept valid one.0 one.1) next.run;
      }

  pub run-too : IsSpread project outer → (founds : List FoundOver) (last : Standing)
      → IsRunOver project outer founds last → IsRunToo project inner founds last
  run-too wide founds last run =
      let found = run-inside (standing_within project outer) founds last run.run
      (kept_at_start project sound outer wide run.start) in
      record {
        others = found.others;
        alike = found.found_too;
        run = record {
          start = start-decided project sound inner outer is inside alike run.start;
          run = subst (λ (s : Standing). IsRunOverFrom project inner s found.others last) (start-same project sound inner outer is inside alike) found.run;
        };
      }

-- ---- the network itself

module _ (project : Project) (sound : IsSound project) (spread : Spread) (is : IsSpread project spread)
    (alike : LeaveSameHeads project no_spread spread) where
  range-to : (time from : ℕ) (js : List Junction)
      → AllByRecursion IsDemandInRange (map_from (known_junction project no_spread time) from js)
      → AllByRecursion (λ (j : Junction). unsigned_abs (demand_of project time j) ≤ demand_limit) js
  range-to time from [] all = tt
  range-to time from (j ∷ js) all = (
    subst (λ (z : ℤ). unsigned_abs z ≤ demand_limit) (products-least (demand_of project time j)) all.0.least,
    range-to time (suc from) js all.1,
  )

  inside : IsInside project no_spread spread
  inside = none-is-inside project spread is

  abbrev none-is : IsSpread project no_spread
  none-is = none-is-spread project sound

  valid-one : (found : FoundOver) → IsKept project found.standing
      → IsValidOver project spread found.standing found.pair found.row found.next
      → (grid : Grid) × IsValid project found.standing grid found.row found.next
  valid-one found kept valid =
      let standing = found.standing in
      let range = range-inside project sound no_spread spread none-is inside alike standing.time valid.demands in
      let made = grid_is project sound standing
      (All-from_recursion _ _ (range-to standing.time 0 project.junctions.list range)) in
      let are : ArePairAt project no_spread standing (both made.0) = λ side. elim side as (λ (s : Side).
      IsOutermostGrid project no_spread s standing.time standing.levels standing.tanks (links_at project standing)
      (grid_on s (both made.0))) [
        | Upper ↦ grid-outermost project sound Upper standing.time standing.levels standing.tanks
            (links_at project standing) made.0 made.1
        | Lower ↦ grid-outermost project sound Lower standing.time standing.levels standing.tanks
            (links_at project standing) made.0 made.1
      ] in (
        made.0,
        valid-alone project sound standing made.0 found.row found.next
            (valid-inside project sound no_spread spread none-is inside alike standing found.pair found.row found.next
            kept valid (both made.0) are),
      )

  valid-from : (standing : Standing) (founds : List FoundOver) (last : Standing)
      → IsRunOverFrom project spread standing founds last → IsKept project standing
      → AreValidFrom project standing (map row_of founds) last
  valid-from _ _ last none kept = none_valid
  valid-from _ _ last (more {found = found} {rest = rest} valid go) kept =
      let one = valid-one found kept valid in
      more_valid one.0 one.1 (valid-from found.next rest last go
      (after project sound no_spread spread none-is inside alike found.standing found.pair found.row found.next kept valid.leads_on))

  pub records-valid : (founds : List FoundOver) (last : Standing) → IsRunOver project spread founds last
      → AreValid project (map row_of founds) last
  records-valid founds last run =
      subst (λ (s : Standing). AreValidFrom project s (map row_of founds) last)
      (start-same project sound no_spread spread none-is inside alike
      ∙ standing-alone project)
      (valid-from (standing_within project spread) founds last run.run (kept_at_start project sound spread is run.start))
