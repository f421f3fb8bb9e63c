-- The stocks that a spread allows at the start: in range, and the levels and volumes among lists of them.
use Rattle.std.proofs.Common.{◌≡◌, ℕ, zero, suc, ◌+◌, ◌*◌, ◌<◌, ◌≤◌, pos, List, [], ◌∷◌, length, map, refl, sym, ap}
use Rattle.std.proofs.Common.{subst, ◌∙◌, arith, inl, inr}
use Rattle.std.specs.Prelude.{Some, slice_get, slice_index_or}
use Rattle.std.proofs.lemmas.Bool.{cases_lt}
use Rattle.std.proofs.lemmas.Int.{ints}
use Rattle.std.proofs.lemmas.Option.{slice_get_within}
use Rattle.hyd_net.specs.NumberRanges.{Lies, head_limit}
use Rattle.hyd_net.specs.Sound.{IsSound}
use Rattle.hyd_spec.specs.ProgramTypes.{Project, Tank}
use Rattle.hyd_spec.specs.Tank.{walls_of}
use Rattle.hyd_spec_certificates.specs.SpansAsIntervals.{levels_of}
use Rattle.hyd_spec_certificates.specs.Interval.{Interval, exactly}
use Rattle.hyd_spec_certificates.specs.Stocks.{Stocks}
use Rattle.hyd_spec_certificates.specs.Decided.{nowhere}
use Rattle.hyd_spec_certificates.specs.declared.LevelSpan.{LevelSpan}
use Rattle.hyd_spec_spread.specs.Spreads.{Spread, IsSpread, level_interval}
use Rattle.hyd_spec_spread.specs.IntervalsOfData.{known_levels, known_volumes, known_volume}
use Rattle.hyd_spec_spread_rows.specs.declared.Ends.{Ends}
use Rattle.hyd_spec_spread_rows.specs.TextsOfSpreads.{at_both, interval_from}
use Rattle.hyd_lemmas.proofs.ListsOptionsAndResults.{same_some}
use Rattle.hyd_theorems_on_histories.proofs.ListsByPlace.{numbered_from_start}
use Rattle.hyd_tank.specs.StockIntervals.{AreHeld, volumes_of}
use Rattle.hyd_tank.specs.declared.stock_intervals.VolumeSpan.{VolumeSpan}
use Rattle.hyd_period_facts.specs.TankStart.{stocks_among}
use Rattle.hyd_period_facts.proofs.DecidedTankStates.{range_of}
use Rattle.hyd_known_stocks.specs.KnownStocks.{stocks_between}

-- both ends of an interval are levels of the tank
pub record IsInRange (tank : Tank) (x : Interval) : Type 0 where
  pub low : Lies (pos 0) (pos (2 * head_limit)) x.lo
  pub high : Lies (pos 0) (pos (2 * head_limit)) x.hi
  pub lowest : Lies tank.minimum tank.maximum x.lo
  pub highest : Lies tank.minimum tank.maximum x.hi

pub in-range : (project : Project) → IsSound project → (spread : Spread) → IsSpread project spread → (k : ℕ)
    (tank : Tank) → slice_get project.tanks.list k ≡ Some tank → (x : Interval) → x ≡ level_interval spread k tank
    → IsInRange tank x
in-range project sound spread is k tank at x e = subst (IsInRange tank) (sym e) here
  where
    here : IsInRange tank (level_interval spread k tank)
    here =
        let within = slice_get_within project.tanks.list k tank at in
        let range = range_of project sound k tank within at in
        let a = range.lowest in
        let b = range.highest in
        let level = is.levels k tank at in
        let c = level.above_least in
        let d = level.own.low in
        let f = level.own.high in
        let g = level.below_most in
        record {
          low = record { at_least = omega (arith, ints, a, c); at_most = omega (arith, ints, d, f, g, b) };
          high = record { at_least = omega (arith, ints, a, c, d, f); at_most = omega (arith, ints, g, b) };
          lowest = record { at_least = c; at_most = omega (arith, ints, d, f, g) };
          highest = record { at_least = omega (arith, ints, c, d, f); at_most = g };
        }

-- the stocks among lists of all of them
pub known-among : (project : Project) (spread : Spread) (levels : List LevelSpan) (volumes : List VolumeSpan)
    → map levels_of levels ≡ known_levels project spread → map volumes_of volumes ≡ known_volumes project spread
    → (k : ℕ) (tank : Tank) → slice_get project.tanks.list k ≡ Some tank
    → stocks_among levels volumes k ≡ stocks_between (walls_of project tank) (level_interval spread k tank)
known-among project spread levels volumes a b k tank at =
    let level : slice_index_or (map levels_of levels) k nowhere ≡ level_interval spread k tank =
    ap (λ (xs : List Interval). slice_index_or xs k nowhere) a
    ∙ numbered_from_start Tank Interval (level_interval spread) project.tanks.list k tank nowhere at in
    let volume : slice_index_or (map volumes_of volumes) k nowhere ≡ known_volume project spread k tank =
    ap (λ (xs : List Interval). slice_index_or xs k nowhere) b
    ∙ numbered_from_start Tank Interval (known_volume project spread) project.tanks.list k tank nowhere at in
    λ i. record { level = level i; volume = volume i }

-- one tank more
pub held-more : (project : Project) (spread : Spread) (i : ℕ) (stocks : Stocks)
    → ((k : ℕ) (tank : Tank) → k < i → slice_get project.tanks.list k ≡ Some tank
    → AreHeld (walls_of project tank) tank (stocks_between (walls_of project tank) (level_interval spread k tank)))
    → ((tank : Tank) → slice_get project.tanks.list i ≡ Some tank
    → stocks ≡ stocks_between (walls_of project tank) (level_interval spread i tank))
    → ((tank : Tank) → slice_get project.tanks.list i ≡ Some tank → AreHeld (walls_of project tank) tank stocks)
    → (k : ℕ) (tank : Tank) → k < i + 1 → slice_get project.tanks.list k ≡ Some tank
    → AreHeld (walls_of project tank) tank (stocks_between (walls_of project tank) (level_interval spread k tank))
held-more project spread i stocks before is held k tank h at = elim (cases_lt k i) [
  | inl less ↦ before k tank less at
  | inr more ↦
      let same : i ≡ k = omega (arith, h, more) in
      let here : slice_get project.tanks.list i ≡ Some tank =
      ap (λ (n : ℕ). slice_get project.tanks.list n) same ∙ at in
      subst (λ (n : ℕ). AreHeld (walls_of project tank) tank (stocks_between (walls_of project tank)
      (level_interval spread n tank))) same
      (subst (AreHeld (walls_of project tank) tank) (is tank here) (held tank here))
]

-- ---- own levels

-- behind the rows a tank has its own level
past-rows : (rows : List Ends) (k : ℕ) (own : Interval) → length rows ≤ k
    → slice_index_or (map interval_from rows) k own ≡ own
past-rows [] k own le = refl
past-rows (x ∷ rows) zero own le = absurd (omega (arith, le))
past-rows (x ∷ rows) (suc k) own le = past-rows rows k own (omega (arith, le))

pub own-level-is : (tanks : List Tank) (rows : List Ends) (k : ℕ) (here each : Tank) (ends : Ends)
    → ends ≡ at_both here.initial → slice_get tanks k ≡ Some here → slice_get tanks k ≡ Some each → length rows ≤ k
    → interval_from ends ≡ slice_index_or (map interval_from rows) k (exactly each.initial)
own-level-is tanks rows k here each ends is at also le =
    ap interval_from is
    ∙ ap (λ (tank : Tank). exactly tank.initial) (same_some (slice_get tanks k) here each at also)
    ∙ sym (past-rows rows k (exactly each.initial) le)
