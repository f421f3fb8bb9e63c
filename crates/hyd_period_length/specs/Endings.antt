-- How a period ends, by what is known at its start and what the rules look at in it.
-- Source: EPANET 2.2 User Manual, chapter 3 (hydraulic time steps, rule-based controls).
use Rattle.std.specs.Prelude.{◌≡◌, ◌≢◌, ⊤, ℕ, ◌≤◌, ℤ, IsFalse, List, [], ◌++◌, map}
use Rattle.std.specs.List.{list_any}
use Rattle.hyd_num.specs.declared.spans.Span.{Span}
use Rattle.hyd_spec.specs.ProgramTypes.{Project, LinkState}
use Rattle.hyd_spec.specs.declared.Change.{Change}
use Rattle.hyd_spec.specs.PeriodLength.{IsLeast}
use Rattle.hyd_spec.specs.Rules.{acted}
use Rattle.hyd_spec_certificates.specs.PeriodNetwork.{Grid}
use Rattle.hyd_spec_certificates.specs.RecordAndStanding.{Record, Standing}
use Rattle.hyd_spec_certificates.specs.ThreeValuedLogic.{is_yes, is_unknown}
use Rattle.hyd_spec_certificates.specs.Decided as decided
use Rattle.hyd_spec_certificates.specs.Decided.{links_at, rule_truths, decided_changes, RulesMatter}
use Rattle.hyd_spec_certificates.specs.Decided.{IsOpenRule}
use Rattle.hyd_period_facts.specs.declared.facts.Facts.{Facts}
use Rattle.hyd_period_facts.specs.FactsBeforeEnd.{AreStarted}
use Rattle.hyd_period_length.specs.TriedRules.{open_rule}
use Rattle.hyd_period_length.specs.Readings.{AreRead}
use Rattle.hyd_period_length.specs.declared.end_kinds.Ending.{Ending}
use Rattle.hyd_period_length.specs.declared.end_kinds.Ending.TheVariants.{ByRules, WithoutRules, RuleOpen, EventOpen}

-- Whatever grid, standing and record the facts and the readings are of, this holds of them.
abbrev pub ForPeriod : Project → Facts → List ℤ → List ℤ → List Span → (Grid → Standing → Record → Type 0) → Type 0
ForPeriod project facts low high flows P = (grid : Grid) (standing : Standing) (row : Record)
    → AreStarted project grid standing row facts → AreRead grid row low high flows → P grid standing row

-- ---- ends

-- The end that one of the program stands for.
abbrev pub end_of : Ending → decided.End
end_of (ByRules seconds) = decided.ByRules seconds
end_of (WithoutRules seconds) = decided.WithoutRules seconds
end_of (RuleOpen found) = decided.RuleIsOpen (open_rule found)
end_of (EventOpen earliest latest) = decided.EventIsOpen earliest latest

-- This holds of the seconds after which the period ends, where they are decided.
abbrev pub IfDecided : Ending → (ℕ → Type 0) → Type 0
IfDecided (ByRules seconds) P = P seconds
IfDecided (WithoutRules seconds) P = P seconds
IfDecided (RuleOpen found) P = ⊤
IfDecided (EventOpen earliest latest) P = ⊤

-- This holds unless the rules end the period.
abbrev pub UnlessByRules : Ending → Type 0 → Type 0
UnlessByRules (ByRules seconds) P = ⊤
UnlessByRules (WithoutRules seconds) P = P
UnlessByRules (RuleOpen found) P = P
UnlessByRules (EventOpen earliest latest) P = P

-- What the rules change at the end.
abbrev pub changes_by : Project → Grid → Standing → Record → Ending → List Change
changes_by project grid standing row (ByRules seconds) = decided_changes project grid standing row seconds
changes_by project grid standing row (WithoutRules seconds) = []
changes_by project grid standing row (RuleOpen found) = []
changes_by project grid standing row (EventOpen earliest latest) = []

-- ---- what rules bring about

-- Some seconds after the start all rules are decided and change a link, the links are commanded so, and the changes
-- stand behind those before.
pub record HaveActed (project : Project) (grid : Grid) (standing : Standing) (row : Record) (seconds : ℕ)
    (before after : List Change) (links : List LinkState) : Type 0 where
  pub none_open : IsFalse (list_any is_unknown (rule_truths project grid standing row seconds))
  pub some : decided_changes project grid standing row seconds ≢ []
  pub links_are : links
      ≡ acted project (map is_yes (rule_truths project grid standing row seconds)) (links_at project standing)
  pub changes_are : after ≡ before ++ decided_changes project grid standing row seconds

-- The rules bring this end about some seconds after the start: they have acted, or one of them is open there.
abbrev pub IsBrought : Project → Grid → Standing → Record → ℕ → List Change → List Change → List LinkState → Ending
    → Type 0
IsBrought project grid standing row seconds before after links (ByRules at) =
    (at ≡ seconds) × HaveActed project grid standing row seconds before after links
IsBrought project grid standing row seconds before after links (RuleOpen found) =
    IsOpenRule project grid standing row seconds (open_rule found)
IsBrought project grid standing row seconds before after links (WithoutRules at) = ⊥
IsBrought project grid standing row seconds before after links (EventOpen earliest latest) = ⊥

-- They bring it about at the first instant at which they matter, which isn't after a last one.
pub record IsFirstBrought (project : Project) (grid : Grid) (standing : Standing) (row : Record) (last : ℕ)
    (before after : List Change) (links : List LinkState) (ending : Ending) : Type 0 where
  pub seconds : ℕ
  pub in_time : seconds ≤ last
  pub first : IsLeast (RulesMatter project grid standing row) seconds
  pub brought : IsBrought project grid standing row seconds before after links ending
