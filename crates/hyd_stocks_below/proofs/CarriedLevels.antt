-- Levels that are carried and rounded down, of tanks of sound networks.
use Rattle.std.proofs.Common.{◌≡◌, ℕ, ◌<◌, ◌≤◌, ℤ, length, sym, subst}
use Rattle.std.specs.Prelude.{Some, slice_get, unsigned_abs}
use Rattle.hyd_num.specs.Rational.{floor}
use Rattle.hyd_net.specs.Sound.{IsSound}
use Rattle.hyd_spec.specs.ProgramTypes.{Project, Tank}
use Rattle.hyd_spec.specs.Tank.{Stock, walls_of, carried_level}
use Rattle.hyd_spec_witnesses.specs.MiddleCandidate.{halves}
use Rattle.hyd_lemmas.proofs.ListsOptionsAndResults.{item_there}
use Rattle.hyd_theorems_on_definitions.proofs.SoundTankLemmas.{vessels}
use Rattle.hyd_theorems_on_definitions.proofs.StocksInIntervals.{carried-some}
use Rattle.hyd_stocks_at_scale.specs.declared.carried_levels.ExactLevel.{ExactLevel}
use Rattle.hyd_stocks_at_scale.specs.ExactLevels.{IsLevel}
use Rattle.hyd_stocks_at_scale.specs.Motions.{content_limit}
use Rattle.hyd_stocks_below.proofs.FlooredLevels.{whole_part, carried_small}
use Rattle.hyd_stocks_below.proofs.RangesOfTanks.{levels_of_tank}

module _ (project : Project) (sound : IsSound project) (k : ℕ) (stock : Stock) (q : ℤ) (seconds : ℕ) (level : ExactLevel)
    (is : (each : Tank) → slice_get project.tanks.list k ≡ Some each
    → IsLevel level (carried_level halves (walls_of project each) each stock q seconds)) where
  -- its whole part
  pub carried_whole : (each : Tank) → slice_get project.tanks.list k ≡ Some each
      → level.whole ≡ floor (carried_level halves (walls_of project each) each stock q seconds)
  carried_whole each at =
      whole_part level (carried_level halves (walls_of project each) each stock q seconds)
      (carried-some halves (walls_of project each) each stock q seconds (vessels project sound k each at)) (is each at)

  -- which is small
  pub whole_small : k < length project.tanks.list → unsigned_abs level.whole ≤ content_limit
  whole_small there =
      let found = item_there project.tanks.list k there in
      subst (λ (z : ℤ). unsigned_abs z ≤ content_limit) (sym (carried_whole found.0 found.1))
      (carried_small (walls_of project found.0) found.0 stock q seconds (vessels project sound k found.0 found.1)
      (levels_of_tank project sound k found.0 found.1))
