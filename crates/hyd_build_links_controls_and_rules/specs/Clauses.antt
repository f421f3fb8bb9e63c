-- What clauses of rules speak of.
use Rattle.std.specs.Prelude.{◌≡◌, ℕ, List, None, ⊤}
use Rattle.hyd_net.specs.declared.rules.What.{What}
use Rattle.hyd_net.specs.declared.rules.What.TheVariants as what
use Rattle.hyd_spec_input.specs.MeaningsAcrossRows.{number_in}
use Rattle.hyd_spec_input.specs.declared.Attribute.{Attribute}
use Rattle.hyd_spec_input.specs.declared.Attribute.TheVariants.{Head, Pressure, Level, Flow, Setting, Status, Time}
use Rattle.hyd_spec_input.specs.declared.Attribute.TheVariants.{Clock}

-- a name has a number among the IDs that an attribute asks: those of nodes, of tanks, or of links
abbrev pub HasNumber : List (List ℕ) → List (List ℕ) → List (List ℕ) → Attribute → List ℕ → Type 0
HasNumber nodes tanks links Head name = number_in nodes name ≡ None → ⊥
HasNumber nodes tanks links Pressure name = number_in nodes name ≡ None → ⊥
HasNumber nodes tanks links Level name = number_in tanks name ≡ None → ⊥
HasNumber nodes tanks links Flow name = number_in links name ≡ None → ⊥
HasNumber nodes tanks links Setting name = number_in links name ≡ None → ⊥
HasNumber nodes tanks links Status name = number_in links name ≡ None → ⊥
HasNumber nodes tanks links Time name = ⊤
HasNumber nodes tanks links Clock name = ⊤

-- what a clause speaks of is of this attribute
abbrev pub IsOfAttribute : Attribute → What → Type 0
IsOfAttribute Head (what.Head node) = ⊤
IsOfAttribute Pressure (what.Pressure node) = ⊤
IsOfAttribute Level (what.Level tank) = ⊤
IsOfAttribute Flow (what.Flow link) = ⊤
IsOfAttribute Setting (what.Setting link) = ⊤
IsOfAttribute Status (what.Status link) = ⊤
IsOfAttribute Time what.Time = ⊤
IsOfAttribute Clock what.Clock = ⊤
IsOfAttribute _ _ = ⊥
