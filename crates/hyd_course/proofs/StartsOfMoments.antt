-- The start of a moment is met, in the words of the stocks of its tanks.
use Rattle.std.proofs.Common.{◌≡◌, ℕ, ◌<◌, ℤ, pos, List, map, length, refl, sym, ap, ◌∙◌, arith}
use Rattle.std.specs.Prelude.{Some, None, slice_index_or}
use Rattle.std.proofs.lemmas.List.{same_lists, length-map}
use Rattle.std.proofs.lemmas.Option.{slice_get_within}
use Rattle.hyd_spec.specs.ProgramTypes.{Project, Tank}
use Rattle.hyd_spec.specs.Lists.{Each}
use Rattle.hyd_spec.specs.Scale.{at_scale}
use Rattle.hyd_spec.specs.Tank.{Stock, walls_of, kept_volume}
use Rattle.hyd_spec.specs.PumpPatternsAndSimpleControls.{started, acts_at}
use Rattle.hyd_spec.specs.PeriodLength.{Period}
use Rattle.hyd_spec.specs.History.{tank_states, initial_levels, initial_volumes, initial_links, commanded_after}
use Rattle.hyd_spec_witnesses.specs.MetPeriods.{Moment, StartIsMet}
use Rattle.hyd_lemmas.proofs.ListsOptionsAndResults.{any_default, item_is, item_there, mapped}
use Rattle.hyd_met_flows.specs.Periods.{IsMomentOf}
use Rattle.hyd_course.specs.Stocks.{BeginsRun, Follows}

-- stocks of one level and one volume
pub same_stock : (a b c d : ℤ) → a ≡ c → b ≡ d
    → ◌≡◌ {A = Stock} (record { level = a; volume = b }) (record { level = c; volume = d })
same_stock a b c d level volume =
    ap (λ (x : ℤ). let s : Stock = record { level = x; volume = b } in s) level
    ∙ ap (λ (x : ℤ). let s : Stock = record { level = c; volume = x } in s) volume

-- a list has at each tank's number what f makes of the tank
made_of : (f : Tank → ℤ) (tanks : List Tank) (values : List ℤ) → length values ≡ length tanks
    → Each tanks (λ k tank. slice_index_or values k (pos 0) ≡ f tank) → values ≡ map f tanks
made_of f tanks values long each =
    same_lists values (map f tanks) (long ∙ sym (length-map tanks f)) (λ k d lt.
    let within : k < length tanks = omega (arith, long, lt) in
    let there = item_there tanks k within in
    any_default values k d (pos 0) lt ∙ (each k there.0 there.1 ∙ sym (mapped f tanks k d there.0 within
    ∙ ap f (item_is tanks k there.0 there.0 there.1))))

module _ (project : Project) (S : ℕ) (count : ℕ) (moment : Moment) (is : IsMomentOf project moment) where
  pub initial_start : moment.number ≡ count → BeginsRun project S moment
      → StartIsMet project S (record { count = count; last = None }) moment
  initial_start number begins =
      let levels : moment.levels ≡ initial_levels project S =
      made_of (λ tank. at_scale S tank.initial) project.tanks.list moment.levels is.levels.one_each
      (λ k tank at. ap (λ (s : Stock). s.level) (begins.stocks k tank at)) in
      let volumes : moment.volumes ≡ initial_volumes project S =
      made_of (λ (tank : Tank). at_scale S (kept_volume (walls_of project tank) tank.initial)) project.tanks.list
      moment.volumes is.volumes.one_each (λ k tank at. ap (λ (s : Stock). s.volume) (begins.stocks k tank at)) in
      record {
        number = number;
        goes_on = record {
          at_time = begins.at_time;
          at_levels = levels;
          at_volumes = volumes;
          tanks = ap (tank_states S project.tanks.list) levels;
          links = ap (λ (t : ℕ). started project t (acts_at S moment.levels) (initial_links project)) begins.at_time
              ∙ ap (λ (ls : List ℤ). started project 0 (acts_at S ls) (initial_links project)) levels;
        };
      }

  pub start_initial : StartIsMet project S (record { count = count; last = None }) moment → BeginsRun project S moment
  start_initial start = record {
    at_time = start.goes_on.at_time;
    stocks = λ k tank at.
        let lt = slice_get_within project.tanks.list k tank at in
        let is_tank = item_is project.tanks.list k tank tank at in
        same_stock _ _ _ _
        (ap (λ (ls : List ℤ). slice_index_or ls k (pos 0)) start.goes_on.at_levels
        ∙ mapped (λ (t : Tank). at_scale S t.initial) project.tanks.list k (pos 0) tank lt
        ∙ ap (λ (t : Tank). at_scale S t.initial) is_tank)
        (ap (λ (ls : List ℤ). slice_index_or ls k (pos 0)) start.goes_on.at_volumes
        ∙ mapped (λ (t : Tank). at_scale S (kept_volume (walls_of project t) t.initial)) project.tanks.list k (pos 0)
        tank lt
        ∙ ap (λ (t : Tank). at_scale S (kept_volume (walls_of project t) t.initial)) is_tank);
  }

  pub following_start : (before : Period) → moment.number ≡ count → Follows project S before moment
      → StartIsMet project S (record { count = count; last = Some before }) moment
  following_start before number follows = record {
    number = number;
    goes_on = record {
      not_last = follows.not_last;
      stocks = follows.stocks;
      begins = record {
        at_time = follows.at_time;
        at_levels = refl;
        at_volumes = refl;
        tanks = refl;
        links = ap (λ (t : ℕ). started project t (acts_at S moment.levels) (commanded_after project S before))
            follows.at_time;
      };
    };
  }

  pub start_following : (before : Period) → StartIsMet project S (record { count = count; last = Some before }) moment
      → Follows project S before moment
  start_following before start = record {
    not_last = start.goes_on.not_last;
    at_time = start.goes_on.begins.at_time;
    stocks = start.goes_on.stocks;
  }
