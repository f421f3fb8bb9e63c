-- The texts of events, as the program makes them, and which changes are made by rules.
use Rattle.std.specs.Prelude.{ℕ, ◌+◌, Bool, true, false, List, [], ◌∷◌, ◌++◌, codes, if◌then◌else◌}
use Rattle.std.specs.Fmt.{decimal}
use Rattle.hyd_spec.specs.declared.Change.{Change}
use Rattle.hyd_spec.specs.declared.Source.{Source}
use Rattle.hyd_spec.specs.declared.Source.TheVariants.{Control as ByControl, Rule as ByRule}
use Rattle.hyd_spec_certificates.specs.declared.EventKind.{EventKind}
use Rattle.hyd_spec_certificates.specs.declared.EventKind.TheVariants.{Full, Empty, Control}

-- what a tank reached: its maximum, its minimum, or the level of a control
abbrev pub event_text : EventKind → List ℕ
event_text Full = codes "FULL"
event_text Empty = codes "EMPTY"
event_text (Control number) = codes "CONTROL " ++ decimal (number + 1)

-- a rule made the change
abbrev pub is_by_rule : Change → Bool
is_by_rule change = by_source change.source
  where
    by_source : Source → Bool
    by_source (ByControl number) = false
    by_source (ByRule rule) = true

-- how many changes stand before the first one by a rule
abbrev pub before_rules : List Change → ℕ
before_rules [] = 0
before_rules (change ∷ rest) = if is_by_rule change then 0 else before_rules rest + 1
