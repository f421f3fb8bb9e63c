-- How often the commands that write a certificate open and create files.
-- Source: this program's.
use Rattle.std.specs.Prelude.{◌≡◌, ◌⊎◌}
use Rattle.hyd_io.specs.declared.desk.Openings.{Openings}
use Rattle.hyd_io.specs.DeskCounts.{with_opened, with_created}
use Rattle.hyd_command_answers.specs.declared.status.Status.{Status}
use Rattle.hyd_command_answers.specs.declared.status.Status.TheVariants.{Done, OutOfMemory, Usage, ReadFault, WriteFault}
use Rattle.hyd_command_answers.specs.declared.status.Status.TheVariants.{InputRefused, Undecided, RoundsSpent, Demand}
use Rattle.hyd_command_answers.specs.declared.status.Status.TheVariants.{CertificateRefused, Stalled}

-- How often a run opens NET and creates CERT: each once at most, so what can be read only once is read whole. NET is
-- opened but where memory ran out before, and CERT is created when all memory is taken that the run needs.
abbrev pub OpensOnce : Status → Openings → Openings → Type 0
OpensOnce Done before now = now ≡ with_created (with_opened before)
OpensOnce OutOfMemory before now = (now ≡ before) ⊎ (now ≡ with_opened before)
OpensOnce Usage before now = ⊥
OpensOnce ReadFault before now = now ≡ with_opened before
OpensOnce WriteFault before now = (now ≡ with_opened before) ⊎ (now ≡ with_created (with_opened before))
OpensOnce InputRefused before now = now ≡ with_opened before
OpensOnce Undecided before now = now ≡ with_created (with_opened before)
OpensOnce RoundsSpent before now = now ≡ with_created (with_opened before)
OpensOnce Demand before now = now ≡ with_created (with_opened before)
OpensOnce CertificateRefused before now = ⊥
OpensOnce Stalled before now = (now ≡ with_opened before) ⊎ (now ≡ with_created (with_opened before))

-- Of these, what is opened and created once NET was read: CERT is created when all memory is taken that the run needs.
abbrev pub OpensCert : Status → Openings → Openings → Type 0
OpensCert Done before now = now ≡ with_created before
OpensCert OutOfMemory before now = now ≡ before
OpensCert Usage before now = ⊥
OpensCert ReadFault before now = ⊥
OpensCert WriteFault before now = (now ≡ before) ⊎ (now ≡ with_created before)
OpensCert InputRefused before now = now ≡ before
OpensCert Undecided before now = now ≡ with_created before
OpensCert RoundsSpent before now = now ≡ with_created before
OpensCert Demand before now = now ≡ with_created before
OpensCert CertificateRefused before now = ⊥
OpensCert Stalled before now = (now ≡ before) ⊎ (now ≡ with_created before)
