-- The standing at which a run for a spread begins that leaves no doubt there is firm.
use Rattle.std.proofs.Common.{◌≡◌, ℕ, zero, suc, ◌+◌, ◌≤ℤ◌, ℤ, List, [], ◌∷◌, map, refl, sym, ap, subst}
use Rattle.std.proofs.Common.{arith, inl}
use Rattle.std.specs.Prelude.{Some, slice_get, slice_index_or, Result, Ok, Err, OnOk}
use Rattle.std.proofs.lemmas.Int.{ints}
use Rattle.std.proofs.lemmas.List.{length-map}
use Rattle.hyd_net.specs.Sound.{IsSound}
use Rattle.hyd_spec.specs.ProgramTypes.{Project, Tank}
use Rattle.hyd_spec.specs.Lists.{map_from}
use Rattle.hyd_spec.specs.Tank.{tank_state}
use Rattle.hyd_spec_certificates.specs.SpansAsIntervals.{levels_of}
use Rattle.hyd_spec_certificates.specs.Interval.{Interval}
use Rattle.hyd_spec_certificates.specs.RecordAndStanding.{initial_standing}
use Rattle.hyd_spec_certificates.specs.Decided.{nowhere, stocks_of_tank}
use Rattle.hyd_spec_open_ends.specs.OpenStandings.{OpenStanding, initial_open_standing}
use Rattle.hyd_spec_spread.specs.Spreads.{Spread, IsSpread, level_interval}
use Rattle.hyd_spec_spread.specs.IntervalsOfData.{known_levels, known_volumes, known_volume}
use Rattle.hyd_spec_spread_runs.specs.RunsForSpreads.{StartIsDecided, standing_within}
use Rattle.hyd_spec_open_spreads.specs.OpenRunsForSpreads.{open_standing_within}
use Rattle.hyd_lemmas.proofs.ListsOptionsAndResults.{as_long}
use Rattle.hyd_theorems_on_definitions.specs.LyingInIntervals.{HasStock}
use Rattle.hyd_theorems_on_open_standings.specs.FirmStandings.{IsFirm}
use Rattle.hyd_theorems_on_spread_runs.proofs.StartsWithin.{kept_at_start}
use Rattle.hyd_tank.specs.StockIntervals.{volumes_of}
use Rattle.hyd_tank.proofs.TanksOfSoundNetworks.{tank_of}
use Rattle.hyd_period_facts.specs.RoomForStocks.{HasRoom as HasNextRoom}
use Rattle.hyd_period_facts.specs.declared.tanks_at_start.TankStart.{TankStart}
use Rattle.hyd_period_end.specs.EndOfPeriod.{AreKeptIn}
use Rattle.hyd_open_sim_start.specs.StandingsOfOpenRuns.{IsStanding, standing_for}
use Rattle.hyd_open_sim_start.specs.declared.standing.Standing.{Standing as Here}
use Rattle.hyd_known_stocks.proofs.HeldBetween.{in_order}

ordered-from : (f : ℕ → Tank → Interval) (from : ℕ) (tanks : List Tank)
    → ((k : ℕ) (tank : Tank) → slice_get tanks k ≡ Some tank → (f (from + k) tank).lo ≤ℤ (f (from + k) tank).hi)
    → (k : ℕ) → (slice_index_or (map_from f from tanks) k nowhere).lo ≤ℤ (slice_index_or (map_from f from tanks) k
    nowhere).hi
ordered-from f from [] each k = omega (arith, ints)
ordered-from f from (tank ∷ tanks) each zero =
    let n : from + 0 ≡ from = omega arith in
    subst (λ (m : ℕ). (f m tank).lo ≤ℤ (f m tank).hi) n (each 0 tank refl)
ordered-from f from (tank ∷ tanks) each (suc k) =
    ordered-from f (suc from) tanks (λ j t at.
    let n : from + suc j ≡ suc from + j = omega arith in
    subst (λ (m : ℕ). (f m t).lo ≤ℤ (f m t).hi) n (each (suc j) t at)) k

module _ (project : Project) (sound : IsSound project) (spread : Spread) (is : IsSpread project spread) where
  level-ordered : (k : ℕ) (tank : Tank) → slice_get project.tanks.list k ≡ Some tank
      → (level_interval spread k tank).lo ≤ℤ (level_interval spread k tank).hi
  level-ordered k tank at =
      let level = is.levels k tank at in
      let a = level.own.low in
      let b = level.own.high in
      omega (arith, ints, a, b)

  at-start : (P : Interval → Type 0) (f : ℕ → Tank → Interval) (k : ℕ) (tank : Tank) → P (f k tank) → P (f (0 + k) tank)
  at-start P f k tank p = let n : k ≡ 0 + k = omega arith in subst (λ (m : ℕ). P (f m tank)) n p

  some-stock : (k : ℕ) → HasStock (stocks_of_tank (standing_within project spread) k)
  some-stock k = record {
    level = ordered-from (level_interval spread) 0 project.tanks.list (λ n tank at.
        at-start (λ x. x.lo ≤ℤ x.hi) (level_interval spread) n tank (level-ordered n tank at)) k;
    volume = ordered-from (known_volume project spread) 0 project.tanks.list (λ n tank at.
        at-start (λ x. x.lo ≤ℤ x.hi) (known_volume project spread) n tank
        (in_order project tank (tank_of project sound n tank at) (level_interval spread n tank).lo
        (level_interval spread n tank).hi (level-ordered n tank at))) k;
  }

  pub firm-within : StartIsDecided project spread → IsFirm project (open_standing_within project spread)
  firm-within start = record {
    kept = kept_at_start project sound spread is start;
    tidy = record {
      levels_each = as_long {X = Tank} {Y = Interval} (level_interval spread) 0 project.tanks.list;
      volumes_each = as_long {X = Tank} {Y = Interval} (known_volume project spread) 0 project.tanks.list;
      tanks_each = length-map project.tanks.list (λ (tank : Tank). tank_state 1 tank tank.initial);
      ordered = some-stock;
      in_time = omega arith;
    };
    quiet = inl refl;
  }

  -- ---- the standing of a run, with other stocks

  module _ (here : Here) (stocks : TankStart) (initial : standing_for here ≡ initial_open_standing project)
      (levels : map levels_of stocks.levels.list ≡ known_levels project spread)
      (volumes : map volumes_of stocks.volumes.list ≡ known_volumes project spread)
      (tanks : stocks.tanks.list ≡ (initial_standing project).tanks) where
    pub within-is : standing_for (record here { stocks = stocks }) ≡ open_standing_within project spread
    within-is = λ i. record {
      known = record (initial i).known { levels = levels i; volumes = volumes i; tanks = tanks i };
      late = (initial i).late;
    }

    pub within-stands : StartIsDecided project spread → AreKeptIn project stocks → HasNextRoom project stocks
        → IsStanding project (record here { stocks = stocks })
    within-stands start held room =
        let number : here.number ≡ 0 = ap (λ (s : OpenStanding). s.known.number) initial in
        let time : here.time ≡ 0 = ap (λ (s : OpenStanding). s.known.time) initial in
        record {
          firm = subst (IsFirm project) (sym within-is) (firm-within start);
          held = held;
          room = room;
          few = omega (arith, number, time);
          unfinished = λ e. omega (arith, number, time);
        }

-- ---- answers that are there

pub on-both : {A E : Type 0} (P Q R : Type 0) (result : Result A E) → (P → Q → R) → OnOk result P → OnOk result Q
    → OnOk result R
on-both P Q R (Ok value) f p q = f p q
on-both P Q R (Err fault) f p q = p
