-- The counts of a desk, and what raises them.
use Rattle.std.specs.Prelude.{◌≡◌, ℕ, ◌+◌, ◌-◌, ◌^◌, ◌≤◌, min}
use Rattle.hyd_io.specs.declared.desk.Faults.{Faults}
use Rattle.hyd_io.specs.declared.desk.Openings.{Openings}
use Rattle.hyd_io.specs.declared.input.InFault.{InFault}
use Rattle.hyd_io.specs.declared.input.InFault.TheVariants.{OutOfMemory, Fault as ReadFault, TooLong}

-- one more, or the last value that a count can have, at which it stays
abbrev pub next_count : ℕ → ℕ
next_count n = min (n + 1) (2 ^ 64 - 1)

-- no count is below what it was
pub record NeverFall (before now : Faults) : Type 0 where
  pub read : before.read ≤ now.read
  pub write : before.write ≤ now.write
  pub print : before.print ≤ now.print
  pub stall : before.stall ≤ now.stall

-- one read fault more; the other counts stay
abbrev pub with_read_fault : Faults → Faults
with_read_fault counts = record counts { read = next_count counts.read }

-- one write fault more
abbrev pub with_write_fault : Faults → Faults
with_write_fault counts = record counts { write = next_count counts.write }

-- one print fault more
abbrev pub with_print_fault : Faults → Faults
with_print_fault counts = record counts { print = next_count counts.print }

-- one stall more
abbrev pub with_stall : Faults → Faults
with_stall counts = record counts { stall = next_count counts.stall }

-- one call of `open` more
abbrev pub with_opened : Openings → Openings
with_opened openings = record openings { opened = next_count openings.opened }

-- one call of `create` more
abbrev pub with_created : Openings → Openings
with_created openings = record openings { created = next_count openings.created }

-- what the counts say of an error of `read_all`: a fault is one read fault more, and the
-- others leave all counts as they were
abbrev pub HasInCause : InFault → Faults → Faults → Type 0
HasInCause OutOfMemory before now = now ≡ before
HasInCause ReadFault before now = now ≡ with_read_fault before
HasInCause TooLong before now = now ≡ before
