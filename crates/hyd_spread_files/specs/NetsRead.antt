-- How often files were opened where a command for a spread ended when NET was read.
-- Source: this program's.
use Rattle.std.specs.Prelude.{◌≡◌, ◌⊎◌}
use Rattle.hyd_io.specs.declared.desk.Openings.{Openings}
use Rattle.hyd_io.specs.DeskCounts.{with_opened}
use Rattle.hyd_command_answers.specs.declared.status.Status.{Status}
use Rattle.hyd_command_answers.specs.declared.status.Status.TheVariants.{OutOfMemory, ReadFault, WriteFault}
use Rattle.hyd_command_answers.specs.declared.status.Status.TheVariants.{InputRefused, Stalled}

-- The command ended when NET was read: no other file was opened or created.
abbrev pub EndsAtNet : Status → Openings → Openings → Type 0
EndsAtNet OutOfMemory before now = (now ≡ before) ⊎ (now ≡ with_opened before)
EndsAtNet ReadFault before now = now ≡ with_opened before
EndsAtNet WriteFault before now = now ≡ with_opened before
EndsAtNet InputRefused before now = now ≡ with_opened before
EndsAtNet Stalled before now = now ≡ with_opened before
EndsAtNet status before now = ⊥
