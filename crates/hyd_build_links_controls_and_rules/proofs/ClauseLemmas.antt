-- What clauses compare with.
use Rattle.std.proofs.Common.{◌≡◌, ℕ, Bool, true, false, List, sym, true≢false}
use Rattle.std.specs.Prelude.{ℤ}
use Rattle.hyd_num.specs.declared.flow_units.FlowUnit.{FlowUnit}
use Rattle.hyd_net.specs.declared.rules.What.{What}
use Rattle.hyd_net.specs.declared.rules.What.TheVariants as what
use Rattle.hyd_net.specs.declared.rules.Value.{Value}
use Rattle.hyd_net.specs.declared.rules.Value.TheVariants.{Amount}
use Rattle.hyd_option_and_rule_lines.specs.WhatLinesSay as meaning
use Rattle.hyd_option_and_rule_lines.specs.declared.rules.Value.{Value as Said}
use Rattle.hyd_spec_input.specs.Columns.{amount}
use Rattle.hyd_spec_input.specs.Project.{IsValue}
use Rattle.hyd_spec_input.specs.declared.Attribute.{Attribute}
use Rattle.hyd_spec_input.specs.declared.Attribute.TheVariants.{Head, Pressure, Level, Flow, Setting, Status, Time}
use Rattle.hyd_spec_input.specs.declared.Attribute.TheVariants.{Clock}
use Rattle.hyd_build_links_controls_and_rules.specs.Clauses.{IsOfAttribute}
use Rattle.hyd_build_links_controls_and_rules.specs.ComparedValues.{IsAmountOf}

-- an attribute whose value is a number of the file
abbrev pub has_number : Attribute → Bool
has_number Status = false
has_number Time = false
has_number Clock = false
has_number _ = true

head_is : (unit : FlowUnit) (n k : ℕ) (words : List (List ℕ)) (found : Value)
    → IsAmountOf unit (what.Head n) (amount k words) found → IsValue unit (what.Head n) k words found
head_is unit n k words (Amount span number) h = h
head_is unit n k words _ h = absurd h

pressure_is : (unit : FlowUnit) (n k : ℕ) (words : List (List ℕ)) (found : Value)
    → IsAmountOf unit (what.Pressure n) (amount k words) found → IsValue unit (what.Pressure n) k words found
pressure_is unit n k words (Amount span number) h = h
pressure_is unit n k words _ h = absurd h

level_is : (unit : FlowUnit) (n k : ℕ) (words : List (List ℕ)) (found : Value)
    → IsAmountOf unit (what.Level n) (amount k words) found → IsValue unit (what.Level n) k words found
level_is unit n k words (Amount span number) h = h
level_is unit n k words _ h = absurd h

flow_is : (unit : FlowUnit) (n k : ℕ) (words : List (List ℕ)) (found : Value)
    → IsAmountOf unit (what.Flow n) (amount k words) found → IsValue unit (what.Flow n) k words found
flow_is unit n k words (Amount span number) h = h
flow_is unit n k words _ h = absurd h

setting_is : (unit : FlowUnit) (n k : ℕ) (words : List (List ℕ)) (found : Value)
    → IsAmountOf unit (what.Setting n) (amount k words) found → IsValue unit (what.Setting n) k words found
setting_is unit n k words (Amount span number) h = h
setting_is unit n k words _ h = absurd h

pub number_value : (attribute : Attribute) (w : What) (unit : FlowUnit) (k : ℕ) (words : List (List ℕ)) (said : Said)
    (found : Value) → has_number attribute ≡ true → IsOfAttribute attribute w → meaning.IsValue attribute k words said
    → ((nano : ℤ) → meaning.IsNumberValue nano said → IsAmountOf unit w nano found) → IsValue unit w k words found
number_value Head (what.Head n) unit k words said found t of is e = head_is unit n k words found (e (amount k words) is)
number_value Head _ unit k words said found t of is e = absurd of
number_value Pressure (what.Pressure n) unit k words said found t of is e =
    pressure_is unit n k words found (e (amount k words) is)
number_value Pressure _ unit k words said found t of is e = absurd of
number_value Level (what.Level n) unit k words said found t of is e =
    level_is unit n k words found (e (amount k words) is)
number_value Level _ unit k words said found t of is e = absurd of
number_value Flow (what.Flow n) unit k words said found t of is e = flow_is unit n k words found (e (amount k words) is)
number_value Flow _ unit k words said found t of is e = absurd of
number_value Setting (what.Setting n) unit k words said found t of is e =
    setting_is unit n k words found (e (amount k words) is)
number_value Setting _ unit k words said found t of is e = absurd of
number_value Status w unit k words said found t of is e = absurd (true≢false (sym t))
number_value Time w unit k words said found t of is e = absurd (true≢false (sym t))
number_value Clock w unit k words said found t of is e = absurd (true≢false (sym t))
