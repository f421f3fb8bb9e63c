-- What the rules look at in a period lies between what the record's ends give.
use Rattle.std.proofs.Common.{◌≡◌, ℕ, zero, suc, ◌+◌, ◌*◌, ◌<◌, ◌≤◌, ℤ, pos, negsuc, neg_ℤ, ◌*ℤ◌, ◌≤ℤ◌, refl, sym, ap}
use Rattle.std.proofs.Common.{subst, ◌∙◌, arith, List, [], ◌∷◌, length, map}
use Rattle.std.specs.Prelude.{Some, slice_get, slice_index_or, unsigned_abs, int_le, if◌then◌else◌}
use Rattle.std.specs.Int.{int_max}
use Rattle.std.proofs.lemmas.Int.{ints}
use Rattle.std.proofs.lemmas.Bool.{cond_both}
use Rattle.std.proofs.lemmas.Option.{slice_get-get_or, slice_get_within}
use Rattle.hyd_num.proofs.Integers.{times_neg, times_rises, times_times, one_times}
use Rattle.hyd_num.specs.Rational.{Rational, whole}
use Rattle.hyd_spec.specs.ProgramTypes.{Project, Link, LinkState, Tank}
use Rattle.hyd_spec.specs.declared.TankState.{TankState}
use Rattle.hyd_spec_certificates.specs.declared.Problem.TheVariants.{Main, Pinned}
use Rattle.hyd_spec_certificates.specs.declared.Side.TheVariants.{Upper, Lower}
use Rattle.hyd_spec.specs.Lists.{map_from}
use Rattle.hyd_spec_certificates.specs.Interval.{Interval}
use Rattle.hyd_spec.specs.NodeNumbers.{tank_node, tank_count}
use Rattle.hyd_spec.specs.Assignment.{flow_at, LinksFollow, more}
use Rattle.hyd_spec.specs.Tank.{walls_of, tank_inflow, carried_level}
use Rattle.hyd_spec_certificates.specs.Stocks.{carried_levels}
use Rattle.hyd_spec.specs.PeriodLength.{Period, level_at_start, stock_at_start, readings_after}
use Rattle.hyd_spec_certificates.specs.PeriodNetwork.{Grid, GridLink, grid_links}
use Rattle.hyd_spec_certificates.specs.FlowIntervals.{flow_box, inflow_box}
use Rattle.hyd_spec_certificates.specs.RecordAndStanding.{Record, Standing, Vectors, no_vectors}
use Rattle.hyd_spec_certificates.specs.Decided.{level_of_tank, stocks_of_tank, inflow_of_tank, nowhere, least_magnitude}
use Rattle.hyd_spec_certificates.specs.Decided.{greatest_magnitude, readings_below, readings_above, heads_below}
use Rattle.hyd_spec_certificates.specs.Decided.{heads_above}
use Rattle.hyd_theorems_on_definitions.specs.LyingInIntervals.{LiesIn, LiesAround, StockLies}
use Rattle.hyd_lemmas.proofs.Integers.{max_left, max_right, abs_above}
use Rattle.hyd_lemmas.proofs.BooleanTests.{le-yes}
use Rattle.hyd_theorems_on_definitions.proofs.FlowsInBoxes.{heads_between, flow_lies}
use Rattle.hyd_theorems_on_definitions.proofs.PinnedTankInflows.{inflow_lies}
use Rattle.hyd_theorems_on_definitions.proofs.StocksInIntervals.{carried_lies}
use Rattle.hyd_theorems_on_histories.specs.Agreement.{IsValueBetween, AreBetween, IsUnder}
use Rattle.hyd_theorems_on_histories.proofs.ListsByPlace.{numbered_from_start, lies_at}

-- ---- magnitudes

abs-positive : (z : ℤ) → pos 0 ≤ℤ z → pos (unsigned_abs z) ≡ z
abs-positive (pos n) le = refl
abs-positive (negsuc n) le = absurd (omega (arith, ints, le))

abs-negative : (z : ℤ) → z ≤ℤ pos 0 → pos (unsigned_abs z) ≡ neg_ℤ z
abs-negative (pos zero) le = refl
abs-negative (pos (suc n)) le = absurd (omega (arith, ints, le))
abs-negative (negsuc n) le = refl

abs-below : (z : ℤ) → neg_ℤ z ≤ℤ pos (unsigned_abs z)
abs-below (pos n) = omega (arith, ints)
abs-below (negsuc n) = omega (arith, ints)

abs-within : (z m : ℤ) → z ≤ℤ m → neg_ℤ z ≤ℤ m → pos (unsigned_abs z) ≤ℤ m
abs-within (pos n) m a b = a
abs-within (negsuc n) m a b = b

pub least-within : (S : ℕ) (box : Interval) (q : ℤ) → LiesIn S box q
    → (pos S *ℤ pos (least_magnitude box)) ≤ℤ pos (unsigned_abs q)
least-within S box q lies =
    let l = lies.low in let h = lies.high in let a = abs_above q in let b = abs-below q in
    cond_both (int_le (pos 0) box.lo) (unsigned_abs box.lo) (if int_le box.hi (pos 0) then unsigned_abs box.hi else 0)
    (λ m. (pos S *ℤ pos m) ≤ℤ pos (unsigned_abs q))
    (λ e. let same : pos S *ℤ pos (unsigned_abs box.lo) ≡ pos S *ℤ box.lo =
    ap (λ (z : ℤ). pos S *ℤ z) (abs-positive box.lo (le-yes (pos 0) box.lo e)) in omega (arith, ints, l, a, same))
    (λ e. cond_both (int_le box.hi (pos 0)) (unsigned_abs box.hi) 0 (λ m. (pos S *ℤ pos m) ≤ℤ pos (unsigned_abs q))
    (λ f. let same : pos S *ℤ pos (unsigned_abs box.hi) ≡ pos S *ℤ neg_ℤ box.hi =
    ap (λ (z : ℤ). pos S *ℤ z) (abs-negative box.hi (le-yes box.hi (pos 0) f)) in
    omega (arith, ints, h, b, same, times_neg S box.hi))
    (λ f. omega (arith, ints)))

pub greatest-beyond : (S : ℕ) (box : Interval) (q : ℤ) → LiesIn S box q
    → pos (unsigned_abs q) ≤ℤ (pos S *ℤ pos (greatest_magnitude box))
greatest-beyond S box q lies =
    let l = lies.low in let h = lies.high in
    let m = int_max box.hi (neg_ℤ box.lo) in
    let up : (pos S *ℤ box.hi) ≤ℤ (pos S *ℤ pos (unsigned_abs m)) =
    times_rises S box.hi (pos (unsigned_abs m)) (let a = max_left box.hi (neg_ℤ box.lo) in let b = abs_above m in
    omega (arith, ints, a, b)) in
    let down : (pos S *ℤ neg_ℤ box.lo) ≤ℤ (pos S *ℤ pos (unsigned_abs m)) =
    times_rises S (neg_ℤ box.lo) (pos (unsigned_abs m)) (let a = max_right box.hi (neg_ℤ box.lo) in
    let b = abs_above m in omega (arith, ints, a, b)) in
    abs-within q (pos S *ℤ pos (unsigned_abs m)) (omega (arith, ints, h, up))
    (omega (arith, ints, l, down, times_neg S box.lo))

flows-low : (S : ℕ) (box : GridLink → Interval) (links : List GridLink) (flows : List ℤ) → length links ≡ length flows
    → ((l : ℕ) (link : GridLink) → slice_get links l ≡ Some link → LiesIn S (box link) (flow_at flows l))
    → (l : ℕ) → S * slice_index_or (map least_magnitude (map box links)) l 0 ≤ slice_index_or (map unsigned_abs flows)
    l 0
flows-low S box [] [] same lie l = omega arith
flows-low S box [] (q ∷ flows) same lie l = absurd (omega (arith, same))
flows-low S box (link ∷ links) [] same lie l = absurd (omega (arith, same))
flows-low S box (link ∷ links) (q ∷ flows) same lie zero = let w = least-within S (box link) q (lie 0 link refl) in
    omega (arith, ints, w)
flows-low S box (link ∷ links) (q ∷ flows) same lie (suc l) = flows-low S box links flows (omega (arith, same))
    (λ m other is. lie (suc m) other is) l

flows-high : (S : ℕ) (box : GridLink → Interval) (links : List GridLink) (flows : List ℤ) → length links ≡ length flows
    → ((l : ℕ) (link : GridLink) → slice_get links l ≡ Some link → LiesIn S (box link) (flow_at flows l))
    → (l : ℕ) → slice_index_or (map unsigned_abs flows) l 0 ≤ S * slice_index_or
    (map greatest_magnitude (map box links)) l 0
flows-high S box [] [] same lie l = omega arith
flows-high S box [] (q ∷ flows) same lie l = absurd (omega (arith, same))
flows-high S box (link ∷ links) [] same lie l = absurd (omega (arith, same))
flows-high S box (link ∷ links) (q ∷ flows) same lie zero = let w = greatest-beyond S (box link) q (lie 0 link refl) in
    omega (arith, ints, w)
flows-high S box (link ∷ links) (q ∷ flows) same lie (suc l) = flows-high S box links flows (omega (arith, same))
    (λ m other is. lie (suc m) other is) l

pub followed-lengths : (project : Project) (tanks : List TankState) (S : ℕ) (heads : List ℤ) (links : List Link)
    (states : List LinkState) (flows : List ℤ)
    → LinksFollow project tanks S heads links states flows → length (grid_links project tanks links states)
    ≡ length flows
followed-lengths project tanks S heads [] [] [] f = refl
followed-lengths project tanks S heads [] [] (q ∷ flows) f = elim f [ ]
followed-lengths project tanks S heads [] (state ∷ states) flows f = elim f [ ]
followed-lengths project tanks S heads (link ∷ links) [] flows f = elim f [ ]
followed-lengths project tanks S heads (link ∷ links) (state ∷ states) [] f = elim f [ ]
followed-lengths project tanks S heads (link ∷ links) (state ∷ states) (q ∷ flows) (more follows rest) =
    let r = followed-lengths project tanks S heads links states flows rest in omega (arith, r)

-- ---- levels

around-between : (S : ℕ) (level : Interval) (x : Rational) → LiesAround S level x
    → IsValueBetween S (whole level.lo) x (whole level.hi)
around-between S level x around = record {
  some_lo = omega arith;
  some = around.some;
  some_hi = omega arith;
  low = let l = around.low in omega (arith, ints, l, one_times x.num, times_times x.den S level.lo);
  high = let h = around.high in omega (arith, ints, h, one_times x.num, times_times x.den S level.hi);
}

levels-between : (S : ℕ) (f : ℕ → Tank → Interval) (g : ℕ → Tank → Rational) (from : ℕ) (tanks : List Tank)
    → ((k : ℕ) (tank : Tank) → slice_get tanks k ≡ Some tank → LiesAround S (f (from + k) tank) (g (from + k) tank))
    → (k : ℕ) → IsValueBetween S (slice_index_or (map (λ (level : Interval). whole level.lo) (map_from f from tanks)) k
    (whole (pos 0)))
    (slice_index_or (map_from g from tanks) k (whole (pos 0)))
    (slice_index_or (map (λ (level : Interval). whole level.hi) (map_from f from tanks)) k (whole (pos 0)))
levels-between S f g from [] lie k = record {
  some_lo = omega arith;
  some = omega arith;
  some_hi = omega arith;
  low =
      omega (arith, ints);
  high = omega (arith, ints);
}
levels-between S f g from (tank ∷ tanks) lie zero =
    let n : from + 0 ≡ from = omega arith in
    around-between S (f from tank) (g from tank) (subst (λ (m : ℕ). LiesAround S (f m tank) (g m tank)) n
    (lie 0 tank refl))
levels-between S f g from (tank ∷ tanks) lie (suc k) =
    levels-between S f g (suc from) tanks (λ m other is.
    let n : from + suc m ≡ suc from + m = omega arith in
    subst (λ (p : ℕ). LiesAround S (f p other) (g p other)) n (lie (suc m) other is)) k

-- ---- a period under a record

module _ (project : Project) (S : ℕ) (period : Period) (grid : Grid) (standing : Standing) (row : Record)
    (under : IsUnder project S period grid standing row) where
  pub level_lies : (k : ℕ) → LiesIn S (level_of_tank standing k) (level_at_start period k)
  level_lies k = lies_at S standing.levels period.levels k under.compared.lie

  pub stock_lies : (k : ℕ) → StockLies S (stocks_of_tank standing k) (stock_at_start period k)
  stock_lies k = record { level = level_lies k; volume = lies_at S standing.volumes period.volumes k under.volumes }

  pub inflow_within : (k : ℕ) (tank : Tank) → slice_get project.tanks.list k ≡ Some tank
      → LiesIn S (inflow_of_tank project grid row k) (tank_inflow project k period.assignment.flows)
  inflow_within k tank at =
      let inside : k < length row.pinned = (let a = slice_get_within project.tanks.list k tank at in
      let b = under.certificates.pinned_each in omega (arith, a, b)) in
      let vectors : Vectors = slice_index_or row.pinned k no_vectors in
      let e : inflow_of_tank project grid row k ≡ inflow_box grid k (tank_node project k) vectors.lower vectors.upper =
      numbered_from_start Vectors Interval (λ n v. inflow_box grid n (tank_node project n) v.lower v.upper)
      row.pinned k vectors nowhere (slice_get-get_or row.pinned k no_vectors inside) in
      let problem : k < tank_count project = slice_get_within project.tanks.list k tank at in
      subst (λ (x : Interval). LiesIn S x (tank_inflow project k period.assignment.flows)) (sym e)
      (inflow_lies project S period.time standing.levels period.levels period.tanks period.links period.assignment grid
      k vectors.lower vectors.upper under.compared
      (under.certificates.each (Pinned k) Lower problem) (under.certificates.each (Pinned k) Upper problem))

  pub carried_within : (seconds k : ℕ) (tank : Tank) → slice_get project.tanks.list k ≡ Some tank
      → LiesAround S (carried_levels (walls_of project tank) tank (stocks_of_tank standing k)
      (inflow_of_tank project grid row k) seconds)
      (carried_level S (walls_of project tank) tank (stock_at_start period k)
      (tank_inflow project k period.assignment.flows) seconds)
  carried_within seconds k tank at =
      carried_lies S (walls_of project tank) (stocks_of_tank standing k) (inflow_of_tank project grid row k) seconds
      (stock_at_start period k) (tank_inflow project k period.assignment.flows)
      (stock_lies k) (inflow_within k tank at) tank under.compared.some (under.vessels k tank at)

  flow_within : (l : ℕ) (link : GridLink) → slice_get grid.links l ≡ Some link
      → LiesIn S (flow_box link (heads_below grid row) (heads_above grid row)) (flow_at period.assignment.flows l)
  flow_within l link at =
      flow_lies project S period.time standing.levels period.levels period.tanks period.links period.assignment grid
      (heads_below grid row) (heads_above grid row) under.compared
      (heads_between project S period.time standing.levels period.levels period.tanks period.links period.assignment
      grid row.main.lower row.main.upper under.compared
      (under.certificates.each Main Lower tt) (under.certificates.each Main Upper tt)) l link at

  flow_each : length grid.links ≡ length period.assignment.flows
  flow_each = ap length under.compared.is_grid.links_are
      ∙ followed-lengths project period.tanks S _ project.links.list period.links period.assignment.flows
      under.compared.assigned.links_follow

  pub readings_between : (seconds : ℕ) → AreBetween project S (readings_below project grid standing row seconds)
      (readings_after project S period seconds) (readings_above project grid standing row seconds)
  readings_between seconds = record {
    heads = λ m before. heads_between project S period.time standing.levels period.levels period.tanks period.links
        period.assignment grid row.main.lower row.main.upper under.compared
        (under.certificates.each Main Lower tt) (under.certificates.each Main Upper tt) m;
    levels = levels-between S (λ k tank. carried_levels (walls_of project tank) tank (stocks_of_tank standing k)
        (inflow_of_tank project grid row k) seconds)
        (λ k tank. carried_level S (walls_of project tank) tank (stock_at_start period k)
        (tank_inflow project k period.assignment.flows) seconds) 0 project.tanks.list
        (λ k tank at. let n : k ≡ 0 + k = omega arith in
        subst (λ (m : ℕ). LiesAround S (carried_levels (walls_of project tank) tank (stocks_of_tank standing m)
        (inflow_of_tank project grid row m) seconds) (carried_level S (walls_of project tank) tank
        (stock_at_start period m) (tank_inflow project m period.assignment.flows) seconds)) n
        (carried_within seconds k tank at));
    flows_below = flows-low S (λ link. flow_box link (heads_below grid row) (heads_above grid row))
        grid.links period.assignment.flows flow_each flow_within;
    flows_above = flows-high S (λ link. flow_box link (heads_below grid row) (heads_above grid row))
        grid.links period.assignment.flows flow_each flow_within;
    links_below = sym under.links;
    links_above = sym under.links;
  }
