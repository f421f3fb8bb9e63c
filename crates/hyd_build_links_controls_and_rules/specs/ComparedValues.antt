-- What clauses of rules compare with.
use Rattle.std.specs.Prelude.{◌≡◌, Bool, true, false, ℤ}
use Rattle.hyd_net.specs.RoundedFileNumbers.{IsAmount}
use Rattle.hyd_net.specs.declared.rules.What.{What}
use Rattle.hyd_net.specs.declared.rules.What.TheVariants.{Status, Time, Clock}
use Rattle.hyd_net.specs.declared.rules.Value.{Value}
use Rattle.hyd_net.specs.declared.rules.Value.TheVariants.{Amount}
use Rattle.hyd_num.specs.declared.flow_units.FlowUnit.{FlowUnit}

-- what is compared with a number of the file: no status and no time
abbrev pub is_quantity : What → Bool
is_quantity (Status link) = false
is_quantity Time = false
is_quantity Clock = false
is_quantity _ = true

-- the amount of a number of billionths
abbrev pub IsAmountOf : FlowUnit → What → ℤ → Value → Type 0
IsAmountOf unit what nano (Amount span number) = (number.nano ≡ nano) × IsAmount unit what number.nano span
IsAmountOf unit what nano _ = ⊥
