-- The changes by controls at the start of a period.
-- Source: EPANET 2.2 User Manual, appendix C ([CONTROLS]).
use Rattle.std.specs.Prelude.{ℕ, suc, ℤ, Bool, List, [], ◌∷◌, ◌++◌, slice_set, if◌then◌else◌}
use Rattle.hyd_spec.specs.ProgramTypes.{Project, LinkState, Control}
use Rattle.hyd_spec.specs.declared.Change.{Change}
use Rattle.hyd_spec.specs.declared.Source.TheVariants.{Control as ByControl}
use Rattle.hyd_spec.specs.PumpPatternsAndSimpleControls.{patterned, control_acts}
use Rattle.hyd_spec.specs.Rules.{is_same_state, state_of_link}
use Rattle.hyd_spec_certificates.specs.RecordAndStanding.{Standing}
use Rattle.hyd_spec_certificates.specs.Decided.{acts_on}

-- What controls change, from number k on, from the states as they are: each control that acts and whose state
-- differs from the link's at that moment.
abbrev pub control_changes : Project → ℕ → (ℕ → Bool → ℤ → Bool) → ℕ → List Control → List LinkState → List Change
control_changes project time acts k [] links = []
control_changes project time acts k (control ∷ rest) links =
    if control_acts project time acts control.when
    then (if is_same_state (state_of_link links control.link) control.to then []
    else record { source = ByControl k; link = control.link; to = control.to } ∷ [])
    ++ control_changes project time acts (suc k) rest (slice_set links control.link control.to)
    else control_changes project time acts (suc k) rest links

-- What the controls change at the start of a period, from the states commanded before.
abbrev pub start_changes : Project → ℕ → (ℕ → Bool → ℤ → Bool) → List LinkState → List Change
start_changes project time acts commanded =
    control_changes project time acts 0 project.controls.list (patterned project time commanded)

-- What the controls change at the start of the period that begins at a standing.
abbrev pub changes_at : Project → Standing → List Change
changes_at project standing = start_changes project standing.time (acts_on standing.levels) standing.commanded
