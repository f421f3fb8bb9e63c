-- Carried levels of tanks of sound networks, as the code has them.
use Rattle.std.proofs.Common.{◌≡◌, ℕ, suc, ◌+◌, ◌*◌, ◌<◌, ◌≤◌, ℤ, pos, negsuc, ◌+ℤ◌, ◌*ℤ◌, ◌≤ℤ◌, ◌<ℤ◌}
use Rattle.std.proofs.Common.{List, [], ◌∷◌, length, refl, subst, arith, ◌⊎◌, inl, inr, get_or}
use Rattle.std.specs.Prelude.{Option, Some, None, slice_get}
use Rattle.std.specs.List.{AllZip}
use Rattle.std.proofs.lemmas.Int.{ints}
use Rattle.hyd_num.proofs.Integers.{times_rises, times_reflects, times_plus, times_one}
use Rattle.hyd_lemmas.proofs.Integers.{exchanged}
use Rattle.hyd_num.specs.Rational.{Rational}
use Rattle.hyd_net.specs.Sound.{IsSound}
use Rattle.hyd_net.specs.NumberRanges.{head_limit}
use Rattle.hyd_spec.specs.ProgramTypes.{Project, Tank}
use Rattle.hyd_spec.specs.Lists.{map_from}
use Rattle.hyd_spec.specs.Tank.{Walls, Stock, walls_of, content_bounds, level_bounds, exact_content, level_at}
use Rattle.hyd_spec.specs.Tank.{carried_level}
use Rattle.hyd_theorems_on_definitions.specs.SoundTanks.{IsVessel}
use Rattle.hyd_theorems_on_definitions.proofs.SoundTankLemmas.{vessels}
use Rattle.hyd_theorems_on_definitions.proofs.StocksInIntervals.{exact-some, level-fits-at, carried-some}
use Rattle.hyd_theorems_on_definitions.proofs.ValuesByContent.{placed-most, placed-least}
use Rattle.hyd_tank.specs.StockIntervals.{IsTankOf, IsTankOfRange}
use Rattle.hyd_tank.proofs.TanksOfSoundNetworks.{tank_of, is_cylinder, is_basin}
use Rattle.hyd_stocks_at_scale.specs.declared.carried_levels.ExactLevel.{ExactLevel}
use Rattle.hyd_stocks_at_scale.specs.ExactLevels.{IsLevel}
use Rattle.hyd_rules_at_scale.specs.Instants.{IsSmallLevel}
use Rattle.hyd_rules_at_scale.specs.Quantities.{IsExactly}

-- ---- the whole part of a fraction

from-zero-or-below : (z : ℤ) → (pos 0 ≤ℤ z) ⊎ (z <ℤ pos 0)
from-zero-or-below (pos n) = inl (omega (arith, ints))
from-zero-or-below (negsuc n) = inr (omega (arith, ints))

module _ (of part den : ℕ) (whole num most : ℤ) (proper : part < of) (some : 0 < den)
    (same : pos of *ℤ num ≡ pos den *ℤ ((pos of *ℤ whole) +ℤ pos part)) where
  abbrev shares : ℤ
  shares = (pos of *ℤ whole) +ℤ pos part

  whole-most : num ≤ℤ (pos den *ℤ most) → whole ≤ℤ most
  whole-most h =
      let a = times_rises of num (pos den *ℤ most) h in
      let turned = exchanged den of most in
      let b : (pos den *ℤ shares) ≤ℤ (pos den *ℤ (pos of *ℤ most)) =
      subst (λ (z : ℤ). z ≤ℤ (pos den *ℤ (pos of *ℤ most))) same
      (subst (λ (z : ℤ). (pos of *ℤ num) ≤ℤ z) turned a) in
      let v = times_reflects den shares (pos of *ℤ most) some b in
      times_reflects of whole most (omega (arith, proper)) (omega (arith, ints, v))

  whole-least : pos 0 ≤ℤ num → pos 0 ≤ℤ whole
  whole-least h =
      let a = times_rises of (pos 0) num h in
      let b : (pos den *ℤ pos 0) ≤ℤ (pos den *ℤ shares) =
      subst (λ (z : ℤ). (pos den *ℤ pos 0) ≤ℤ z) same (omega (arith, ints, a)) in
      let v = times_reflects den (pos 0) shares some b in
      elim (from-zero-or-below whole) [
        | inl from ↦ from
        | inr below ↦ absurd (
            let w = times_rises of (whole +ℤ pos 1) (pos 0) (omega (arith, ints, below)) in
            let split = times_plus of whole (pos 1) in
            let one = times_one of in
            omega (arith, ints, v, w, split, one, proper))
      ]

-- ---- one tank

range-by-shape : (project : Project) (tank : Tank) (shape : Option ℕ) → tank.shape ≡ shape → IsTankOf project tank
    → IsTankOfRange tank
range-by-shape project tank None e is = (is_cylinder project tank e is).levels
range-by-shape project tank (Some n) e is = (is_basin project tank n e is).1.levels

pub range_of : (project : Project) → IsSound project → (k : ℕ) (tank : Tank)
    → slice_get project.tanks.list k ≡ Some tank → IsTankOfRange tank
range_of project sound k tank at = range-by-shape project tank tank.shape refl (tank_of project sound k tank at)

module _ (project : Project) (sound : IsSound project) (S k : ℕ) (fine : S ≤ 1024) (tank : Tank)
    (at : slice_get project.tanks.list k ≡ Some tank) (stock : Stock) (q : ℤ) (seconds : ℕ) where
  abbrev walls : Walls
  walls = walls_of project tank

  abbrev exact : Rational
  exact = exact_content walls stock q seconds

  abbrev carried : Rational
  carried = carried_level S walls tank stock q seconds

  vessel : IsVessel walls tank
  vessel = vessels project sound k tank at

  carried-most : carried.num ≤ℤ (pos carried.den *ℤ (pos S *ℤ tank.maximum))
  carried-most =
      placed-most S (content_bounds walls tank) (level_bounds tank) exact (level_at S walls tank exact) vessel.ordered
      (level-fits-at S walls tank exact vessel (exact-some walls stock q seconds vessel.holds_water))

  carried-least : (pos carried.den *ℤ (pos S *ℤ tank.minimum)) ≤ℤ carried.num
  carried-least =
      placed-least S (content_bounds walls tank) (level_bounds tank) exact (level_at S walls tank exact) vessel.ordered
      (level-fits-at S walls tank exact vessel (exact-some walls stock q seconds vessel.holds_water))

  some : 0 < carried.den
  some = carried-some S walls tank stock q seconds vessel

  module _ (level : ExactLevel) (is : IsLevel level carried) where
    pub exactly_carried : IsExactly level carried
    exactly_carried = record { level = is; some = some }

    pub small_carried : IsSmallLevel level
    small_carried =
        let range = range_of project sound k tank at in
        let lowest = range.lowest in
        let highest = range.highest in
        let a = times_rises S (pos 0) tank.minimum lowest in
        let b = times_rises carried.den (pos 0) (pos S *ℤ tank.minimum) (omega (arith, ints, a)) in
        let c = carried-least in
        let from = whole-least level.of level.part carried.den level.whole carried.num (pos 0) is.proper some is.same
        (omega (arith, ints, b, c)) in
        let up_to = whole-most level.of level.part carried.den level.whole carried.num (pos S *ℤ tank.maximum) is.proper
        some is.same carried-most in
        let d = times_rises S tank.maximum (pos (2 * head_limit)) highest in
        record {
          part = is.proper;
          of = is.of;
          small = omega (arith, ints, from, up_to, d, fine);
        }

-- ---- all of them

pub all_exact : (f : ℕ → Tank → Rational) (from : ℕ) (tanks : List Tank) (levels : List ExactLevel)
    → length levels ≡ length tanks
    → ((k : ℕ) (d : ExactLevel) (tank : Tank) → k < length levels → slice_get tanks k ≡ Some tank
    → IsExactly (get_or levels k d) (f (from + k) tank))
    → AllZip IsExactly levels (map_from f from tanks)
all_exact f from [] [] long each = tt
all_exact f from [] (level ∷ levels) long each = absurd (omega (arith, long))
all_exact f from (tank ∷ tanks) [] long each = absurd (omega (arith, long))
all_exact f from (tank ∷ tanks) (level ∷ levels) long each = (
  subst (λ (n : ℕ). IsExactly level (f n tank)) (omega arith) (each 0 level tank (omega arith) refl),
  all_exact f (suc from) tanks levels (omega (arith, long)) (λ k d x there at.
      subst (λ (n : ℕ). IsExactly (get_or levels k d) (f n x)) (omega arith)
      (each (suc k) d x (omega (arith, there)) at)),
)
