-- Why a text gave no network.
use Rattle.std.specs.Prelude.{⊤}
use Rattle.hyd_inp.specs.declared.fault.InpFault.{InpFault}
use Rattle.hyd_inp.specs.declared.fault.InpRefused.{InpRefused}
use Rattle.hyd_inp.specs.declared.fault.InpRefused.TheVariants.{OutOfMemory, Fault}

-- what holds of a fault; want of memory says nothing
abbrev pub IfFault : InpRefused → (InpFault → Type 0) → Type 0
IfFault OutOfMemory P = ⊤
IfFault (Fault fault) P = P fault
