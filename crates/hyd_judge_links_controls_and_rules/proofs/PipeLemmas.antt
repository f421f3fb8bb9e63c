-- A pipe among all rows: its ends, then a Hazen-Williams coefficient, then its capacity.
use Rattle.std.proofs.Common.{◌≡◌, ℕ, Bool, true, false, List, Option, Some, None, refl}
use Rattle.hyd_spec_lines.specs.Lines.{Row}
use Rattle.hyd_net.specs.declared.refusal_cause.Cause.{Cause}
use Rattle.hyd_network_rows.specs.Rows.{IsPipeRow}
use Rattle.hyd_network_rows.specs.declared.pipes.PipeRow.{PipeRow}
use Rattle.hyd_rows_and_tables.specs.WrongInSection.{IsFaultThen}
use Rattle.hyd_spec_input.specs.CapacitiesOutOfRange.{IsRefusedPipeBy}
use Rattle.hyd_spec_input.specs.Columns.{amount}
use Rattle.hyd_spec_input.specs.FaultsWithOtherRows.{coefficient}
use Rattle.hyd_spec_input.specs.OptionsAndTimesInForce.{has_hazen_williams}
use Rattle.hyd_judge_links_controls_and_rules.specs.LinkFaults.{link_fault, pipe_fault, IsRefusedPipeOf}

pub ends_first : (rows : List Row) (count : ℕ) (new : Bool) (words : List (List ℕ)) (Refused : Type 0) (cause : Cause)
    → Some cause ≡ link_fault rows count new words → IsFaultThen (pipe_fault rows count new words) Refused (Some cause)
ends_first rows count new words Refused cause e = rw (← e) refl

pub then_numbers : (rows : List Row) (count : ℕ) (new : Bool) (words : List (List ℕ)) (us : Bool)
    (found : Option Cause) → None ≡ link_fault rows count new words
    → IsFaultThen (coefficient (has_hazen_williams rows) (amount 5 words)) (IsRefusedPipeOf rows us words) found
    → IsFaultThen (pipe_fault rows count new words) (IsRefusedPipeOf rows us words) found
then_numbers rows count new words us found e then = rw (← e) then

-- the numbers of a row, by the formula in force
pub by_formula : (by_power : Bool) (rows : List Row) (words : List (List ℕ)) (pipe : PipeRow) (us unit : Bool)
    (found : Option Cause) → IsPipeRow words pipe → by_power ≡ has_hazen_williams rows → us ≡ unit
    → IsFaultThen (coefficient by_power pipe.roughness.nano) (IsRefusedPipeBy by_power pipe.length.nano
    pipe.diameter.nano pipe.roughness.nano pipe.minor.nano us) found
    → IsFaultThen (coefficient (has_hazen_williams rows) (amount 5 words)) (IsRefusedPipeOf rows unit words) found
by_formula by_power rows words pipe us unit found is e same then =
    rw (← e, ← same, ← is.length, ← is.diameter, ← is.roughness, ← is.minor) then
