-- The level that has just been reached, by facts and by whatever standing and record these are of.
use Rattle.std.proofs.Common.{◌≡◌, ℕ, ◌<◌, ◌≤◌, true, List, ◌++◌, ap, sym, ◌∙◌, subst, arith, inl, inr}
use Rattle.std.specs.Prelude.{Some, None, slice_get, Contains, map}
use Rattle.hyd_net.specs.Sound.{IsSound}
use Rattle.hyd_spec.specs.ProgramTypes.{Project, Tank}
use Rattle.hyd_spec.specs.declared.TankState.{TankState}
use Rattle.hyd_spec.specs.Tank.{walls_of}
use Rattle.hyd_spec_certificates.specs.SpansAsIntervals.{levels_of}
use Rattle.hyd_spec_certificates.specs.Interval.{Interval}
use Rattle.hyd_spec_certificates.specs.PeriodNetwork.{Grid}
use Rattle.hyd_spec_certificates.specs.RecordAndStanding.{Record, Standing}
use Rattle.hyd_spec_certificates.specs.Stocks.{Stocks, may_reach}
use Rattle.hyd_spec_certificates.specs.Decided.{Watch, watches, tank_watches, stocks_of_tank, inflow_of_tank}
use Rattle.hyd_spec_open_ends.specs.OpenEnds.{ByWatched}
use Rattle.hyd_spec_open_ends.specs.Arrivals.{MayComeBy, Arrives, one, competing}
use Rattle.hyd_period_facts.specs.declared.facts.Facts.{Facts}
use Rattle.hyd_period_facts.specs.FactsBeforeEnd.{AreStarted, HaveTanks, stocks_in, inflow_in}
use Rattle.hyd_period_facts.proofs.StocksAndInflowsByFacts.{stocks_are, inflow_is}
use Rattle.hyd_open_watches.specs.declared.watches.Watch.{Watch as Here}
use Rattle.hyd_open_stocks.specs.LevelsInReach.{IsInReach}
use Rattle.hyd_open_watches.specs.Candidates.{watch_for, ComesBy, StartsShort, IsNearest, AreCompeting}
use Rattle.hyd_theorems_on_definitions.proofs.SoundTankLemmas.{vessels}
use Rattle.hyd_lemmas.proofs.ListsOptionsAndResults.{same_some}
use Rattle.hyd_open_watches.proofs.LevelsAhead.{in_reach}
use Rattle.hyd_open_watches.proofs.NearestSoFar.{control_watches}

abbrev pub all_watched : Project → Facts → List Watch
all_watched project facts = tank_watches 0 project.tanks.list facts.tanks.list
    ++ control_watches (map levels_of facts.levels.list) project.controls.list

module _ (project : Project) (grid : Grid) (standing : Standing) (row : Record) (facts : Facts)
    (started : AreStarted project grid standing row facts) (latest earliest : ℕ) where
  watched_are : all_watched project facts ≡ watches project standing
  watched_are =
      ap (λ (states : List TankState). tank_watches 0 project.tanks.list states
      ++ control_watches (map levels_of facts.levels.list) project.controls.list) started.tanks
      ∙ ap (λ (levels : List Interval). tank_watches 0 project.tanks.list standing.tanks ++ control_watches levels
      project.controls.list) started.levels

  to-come : (w : Watch) → Contains (all_watched project facts) w → ComesBy project facts latest w
      → MayComeBy project grid standing row w latest
  to-come w c comes = record {
    is_watched = subst (λ (ws : List Watch). Contains ws w) watched_are c;
    second = comes.second;
    some = comes.some;
    in_time = comes.in_time;
    tank = comes.tank;
    is_tank = comes.is_tank;
    reached = subst (λ (q : Interval). may_reach (walls_of project comes.tank) comes.tank
        (stocks_of_tank standing w.tank) q w.target w.rising comes.second ≡ true)
        (inflow_is project grid standing row facts started w.tank comes.tank comes.is_tank)
        (subst (λ (s : Stocks). may_reach (walls_of project comes.tank) comes.tank s (inflow_in facts w.tank)
        w.target w.rising comes.second ≡ true) (stocks_are project grid standing row facts started w.tank)
        comes.reached);
  }

  from-come : (w : Watch) → MayComeBy project grid standing row w latest → ComesBy project facts latest w
  from-come w comes = record {
    second = comes.second;
    some = comes.some;
    in_time = comes.in_time;
    tank = comes.tank;
    is_tank = comes.is_tank;
    reached = subst (λ (q : Interval). may_reach (walls_of project comes.tank) comes.tank
        (stocks_in facts w.tank) q w.target w.rising comes.second ≡ true)
        (sym (inflow_is project grid standing row facts started w.tank comes.tank comes.is_tank))
        (subst (λ (s : Stocks). may_reach (walls_of project comes.tank) comes.tank s
        (inflow_of_tank project grid row w.tank)
        w.target w.rising comes.second ≡ true) (sym (stocks_are project grid standing row facts started w.tank))
        comes.reached);
  }

  here : (w : Watch) → MayComeBy project grid standing row w latest → Contains (all_watched project facts) w
  here w comes = subst (λ (ws : List Watch). Contains ws w) (sym watched_are) comes.is_watched

  pub nearest_arrives : (v : Here) → latest < project.times.hydraulic
      → IsNearest project facts latest (all_watched project facts) v
      → Arrives project grid standing row (ByWatched earliest latest) (Some (watch_for v))
  nearest_arrives v later near = one (record {
    comes = to-come (watch_for v) near.is_watched near.comes;
    step_later = later;
    same_tank = λ w comes. near.same_tank w (here w comes) (from-come w comes);
    same_way = λ w comes. near.same_way w (here w comes) (from-come w comes);
    nearest = λ w comes. near.nearest w (here w comes) (from-come w comes);
  })

  pub none_arrives : ((w : Watch) → Contains (all_watched project facts) w → ComesBy project facts latest w → ⊥)
      → Arrives project grid standing row (ByWatched earliest latest) None
  none_arrives none = competing (λ w is. none w (here w is.comes) (from-come w is.comes))

  pub step_arrives : project.times.hydraulic ≤ latest
      → Arrives project grid standing row (ByWatched earliest latest) None
  step_arrives soon = competing (λ w is. let l = is.step_later in absurd (omega (arith, l, soon)))

  pub compete_arrives : AreCompeting project facts latest (all_watched project facts)
      → Arrives project grid standing row (ByWatched earliest latest) None
  compete_arrives are = competing (λ w is. elim are.apart [
    | inl tanks ↦ tanks (is.same_tank are.one (to-come are.one are.one_watched are.one_comes)
        ∙ sym (is.same_tank are.other (to-come are.other are.other_watched are.other_comes)))
    | inr ways ↦ ways (is.same_way are.one (to-come are.one are.one_watched are.one_comes)
        ∙ sym (is.same_way are.other (to-come are.other are.other_watched are.other_comes)))
  ])

-- a level that may have been reached, and isn't behind its tank, is in its reach
pub reach_of : (project : Project) (facts : Facts) (latest : ℕ) → IsSound project → HaveTanks project facts
    → (w : Here) → ComesBy project facts latest (watch_for w) → StartsShort project w
    → (each : Tank) → slice_get project.tanks.list w.tank ≡ Some each
    → IsInReach (walls_of project each) each (inflow_in facts w.tank) w.target w.rising
reach_of project facts latest sound have w comes short each at =
    let same = same_some (slice_get project.tanks.list w.tank) comes.tank each comes.is_tank at in
    in_reach (walls_of project each) each (stocks_in facts w.tank) (inflow_in facts w.tank) w.target w.rising
    comes.second (vessels project sound w.tank each at) (have.held w.tank each at) (short each at)
    (subst (λ (t : Tank). may_reach (walls_of project t) t (stocks_in facts w.tank) (inflow_in facts w.tank) w.target
    w.rising comes.second ≡ true) same comes.reached)
