-- The two channels of a pen, and what the counts say of its faults.
use Rattle.std.specs.Prelude.{◌≡◌, ℕ, List, Option}
use Rattle.hyd_io.specs.declared.desk.Faults.{Faults}
use Rattle.hyd_io.specs.declared.output.Channel.{Channel}
use Rattle.hyd_io.specs.declared.output.Channel.TheVariants.{Cert, Report}
use Rattle.hyd_io.specs.declared.output.OutFault.{OutFault}
use Rattle.hyd_io.specs.declared.output.OutFault.TheVariants.{Fault, Stalled}
use Rattle.hyd_io.specs.DeskCounts.{with_write_fault, with_print_fault, with_stall}

-- the first of the two on channel Cert, the second on channel Report
abbrev pub by_channel : {A : Type 0} → Channel → A → A → A
by_channel Cert written printed = written
by_channel Report written printed = printed

-- the fact, on channel Cert
abbrev pub OnCert : Channel → Type 0 → Type 0
OnCert Cert P = P
OnCert Report P = Unit {0}

-- the fact, on channel Report
abbrev pub OnReport : Channel → Type 0 → Type 0
OnReport Cert P = Unit {0}
OnReport Report P = P

-- one fault more of the channel's
abbrev pub with_fault_of : Channel → Faults → Faults
with_fault_of Cert counts = with_write_fault counts
with_fault_of Report counts = with_print_fault counts

-- a fault is one more of the channel's, a stall one more stall, and no other count changes
abbrev pub HasOutCause : Channel → OutFault → Faults → Faults → Type 0
HasOutCause to Fault before now = now ≡ with_fault_of to before
HasOutCause to Stalled before now = now ≡ with_stall before

-- a pen: where it writes, the fault that it keeps, and the bytes that it holds back
pub record PenState : Type 0 where
  pub to : Channel
  pub fault : Option OutFault
  pub held : List ℕ
