-- An attempt at a period of a run for a spread: its vectors on the nets of both sides, and its end by them.
-- Source: this program's.
use Rattle.std.specs.Prelude.{ℕ, Bool}
use Rattle.hyd_spec.specs.ProgramTypes.{Project}
use Rattle.hyd_spec.specs.NodeNumbers.{tank_count}
use Rattle.hyd_spec_certificates.specs.RecordAndStanding.{Record}
use Rattle.hyd_spec_open_ends.specs.OpenStandings.{OpenStanding, OpenRecord}
use Rattle.hyd_spec_spread_runs.specs.OutermostPairs.{Pair}
use Rattle.hyd_period_end.specs.OpenMatters.{SharesVectors}
use Rattle.hyd_period_vectors.specs.SoughtVectors.{OfEach}
use Rattle.hyd_spread_vectors.specs.VectorsOfBothNetworks.{Told, Held, IsSoughtOver, ComesOver, LacksFirstOver}
use Rattle.hyd_spread_period_end.specs.EndedOverSpreads.{IsOpenOnBoth}
use Rattle.hyd_spread_sim.specs.declared.period_attempt.Fault.{Fault}
use Rattle.hyd_spread_sim.specs.declared.period_attempt.Fault.TheVariants.{Lack, Open}

-- Each vector of a record is what is sought of its problem on the network of its side, and comes as it does there.
pub record AreSoughtOver (tight : Bool) (told : Told) (pair : Pair) (tanks rounds : ℕ) (row : Record) : Type 0 where
  pub each : OfEach (IsSoughtOver tight told pair tanks) tanks row
  pub come : OfEach (ComesOver tight told pair tanks rounds) tanks row

-- Why an attempt at a period failed: a vector is lacking on a network, or the vectors leave a matter open, as any
-- record with them does.
abbrev pub IsFaultOver : Bool → Told → Project → Pair → OpenStanding → ℕ → ℕ → Held → Record → Fault → Type 0
IsFaultOver tight told project pair standing slack rounds held row (Lack lack) =
    LacksFirstOver tight told pair (tank_count project) rounds held lack
IsFaultOver tight told project pair standing slack rounds held row (Open what) =
    AreSoughtOver tight told pair (tank_count project) rounds row
    × ((other : OpenRecord) → SharesVectors other.row row → IsOpenOnBoth project pair standing slack other what)
