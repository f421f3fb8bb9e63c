-- Spreads inside others that leave only demands and emitters less open, and runs for both.
-- Source: this program's.
use Rattle.std.specs.Prelude.{◌≡◌, ℕ, List, Option, Some, None, ⊤}
use Rattle.std.specs.List.{AllZip}
use Rattle.hyd_spec.specs.ProgramTypes.{Project, Capacity}
use Rattle.hyd_spec.specs.Lists.{Each}
use Rattle.hyd_spec_certificates.specs.RecordAndStanding.{Record, Standing}
use Rattle.hyd_spec_spread.specs.Spreads.{Factors, Spread, emitter_factors, head_offsets, level_interval}
use Rattle.hyd_spec_spread.specs.OutermostGrids.{ReachesOver}
use Rattle.hyd_spec_spread_runs.specs.RunsForSpreads.{FoundOver, IsRunOver}

-- Two spreads leave the same heads of reservoirs and the same initial levels open.
pub record LeaveSameHeads (project : Project) (inner outer : Spread) : Type 0 where
  pub heads : (r : ℕ) → head_offsets inner r ≡ head_offsets outer r
  pub levels : Each project.tanks.list (λ k tank. level_interval inner k tank ≡ level_interval outer k tank)

-- Some capacity reaches over those of all emitters within the factors. There is none where the least coefficient is 0.
abbrev pub EmitterReaches : Factors → Option Capacity → Type 0
EmitterReaches factors None = ⊤
EmitterReaches factors (Some own) = (capacity : Capacity) × ReachesOver factors own capacity

-- So it is with each emitter.
abbrev pub HasOutermostEmitters : Project → Spread → Type 0
HasOutermostEmitters project spread = Each project.junctions.list (λ j junction. EmitterReaches
    (emitter_factors spread j) junction.emitter)

-- The record of what was found.
abbrev pub row_of : FoundOver → Record
row_of found = found.row

-- The same record, from the same standing to the same next one.
pub record IsFoundToo (found other : FoundOver) : Type 0 where
  pub standing : other.standing ≡ found.standing
  pub row : other.row ≡ found.row
  pub next : other.next ≡ found.next

-- The same records are a run for a spread.
pub record IsRunToo (project : Project) (spread : Spread) (founds : List FoundOver) (last : Standing) : Type 0 where
  pub others : List FoundOver
  pub alike : AllZip IsFoundToo founds others
  pub run : IsRunOver project spread others last
