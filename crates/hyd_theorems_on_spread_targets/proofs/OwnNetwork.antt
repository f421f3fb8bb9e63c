-- An assignment of the first period of the file's own network is one of a network within each spread of it.
use Rattle.std.proofs.Common.{◌≡◌, ℕ, suc, ◌+◌, ℤ, refl, subst, arith, List, [], ◌∷◌}
use Rattle.std.specs.Prelude.{Some, slice_get, map}
use Rattle.std.specs.List.{AllZip}
use Rattle.hyd_net.specs.Sound.{IsSound}
use Rattle.hyd_spec.specs.ProgramTypes.{Project, Tank}
use Rattle.hyd_spec.specs.Lists.{map_from}
use Rattle.hyd_spec.specs.Scale.{at_scale}
use Rattle.hyd_spec.specs.Assignment.{Assignment}
use Rattle.hyd_spec.specs.History.{initial_levels}
use Rattle.hyd_spec_pressure_targets.specs.FirstPeriod.{IsFirstDrawing, IsFirstWithShut}
use Rattle.hyd_spec_spread.specs.Spreads.{Spread, IsSpread, IsLevelInterval, level_interval}
use Rattle.hyd_spec_spread.specs.NetworksWithin.{own_data}
use Rattle.hyd_spec_spread.specs.HistoriesWithin.{HoldsParts}
use Rattle.hyd_spec_spread_targets.specs.FirstPeriodWithin.{IsStartWithin, IsFirstDrawingWithin, IsFirstWithShutWithin}
use Rattle.hyd_num.proofs.Integers.{times_rises}
use Rattle.hyd_theorems_on_spread.proofs.OwnNetwork.{own-within}

own-levels : (spread : Spread) (S from : ℕ) (tanks : List Tank)
    → ((k : ℕ) (tank : Tank) → slice_get tanks k ≡ Some tank
    → IsLevelInterval tank (level_interval spread (from + k) tank))
    → AllZip (HoldsParts S) (map_from (level_interval spread) from tanks)
    (map (λ (tank : Tank). at_scale S tank.initial) tanks)
own-levels spread S from [] is = tt
own-levels spread S from (tank ∷ tanks) is = (
  (let n : from + 0 ≡ from = omega arith in
      let own = (subst (λ (m : ℕ). IsLevelInterval tank (level_interval spread m tank)) n (is 0 tank refl)).own in
      record {
        low = times_rises S (level_interval spread from tank).lo tank.initial own.low;
        high = times_rises S tank.initial (level_interval spread from tank).hi own.high;
      }),
  own-levels spread S (suc from) tanks (λ k other at. let m : from + suc k ≡ suc from + k = omega arith in
      subst (λ (p : ℕ). IsLevelInterval other (level_interval spread p other)) m (is (suc k) other at)),
)

module _ (project : Project) (sound : IsSound project) (spread : Spread) (is : IsSpread project spread) (S : ℕ) where
  own-start : IsStartWithin project spread S (own_data project) (initial_levels project S)
  own-start = record {
    within = own-within project sound spread is 0;
    levels_are = own-levels spread S 0 project.tanks.list (λ k tank at. let n : k ≡ 0 + k = omega arith in
        subst (λ (m : ℕ). IsLevelInterval tank (level_interval spread m tank)) n (is.levels k tank at));
  }

  pub own-drawing : (place : ℕ) (q : ℤ) (assignment : Assignment) → IsFirstDrawing project S place q assignment
      → IsFirstDrawingWithin project spread S place q assignment
  own-drawing place q assignment first = record {
    nodes = own_data project;
    levels = initial_levels project S;
    start = own-start;
    assigned = first;
  }

  pub own-with-shut : (pipe : ℕ) (assignment : Assignment) → IsFirstWithShut project S pipe assignment
      → IsFirstWithShutWithin project spread S pipe assignment
  own-with-shut pipe assignment first = record {
    nodes = own_data project;
    levels = initial_levels project S;
    start = own-start;
    assigned = first;
  }
