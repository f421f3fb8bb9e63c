-- What rules look at where a period's start is open, and when they matter.
-- Source: this program's; the matters are those of EPANET 2.2 User Manual, chapter 3 (controls).
use Rattle.std.specs.Prelude.{◌≡◌, ◌≢◌, ℕ, ◌+◌, ◌-◌, ◌<◌, IsTrue, ◌⊎◌, List, [], Some, map, position, slice_get}
use Rattle.std.specs.List.{list_any}
use Rattle.hyd_num.specs.Rational.{whole}
use Rattle.hyd_spec.specs.ProgramTypes.{Project, LinkState, Rule}
use Rattle.hyd_spec.specs.declared.Change.{Change}
use Rattle.hyd_spec.specs.Lists.{map_from}
use Rattle.hyd_spec.specs.Tank.{walls_of}
use Rattle.hyd_spec.specs.Rules.{Readings, rule_changes, acted}
use Rattle.hyd_spec_certificates.specs.declared.Verdict.{Verdict}
use Rattle.hyd_spec_certificates.specs.Interval.{Interval}
use Rattle.hyd_spec_certificates.specs.ThreeValuedLogic.{is_yes, is_unknown}
use Rattle.hyd_spec_certificates.specs.PeriodNetwork.{Grid}
use Rattle.hyd_spec_certificates.specs.RecordAndStanding.{Record, Standing}
use Rattle.hyd_spec_certificates.specs.Decided.{heads_below, heads_above, flow_boxes, stocks_of_tank, inflow_of_tank}
use Rattle.hyd_spec_certificates.specs.Decided.{links_at, least_magnitude, greatest_magnitude, rule_between}
use Rattle.hyd_spec_certificates.specs.Decided.{IsTried, OpenRule, IsOpenClause}
use Rattle.hyd_spec_open_ends.specs.OpenStandings.{OpenStanding}
use Rattle.hyd_spec_open_ends.specs.StocksOverLengths.{carried_levels_over}

-- The carried level intervals of all tanks over lengths from the shortest to the longest.
abbrev pub carried_over : Project → Grid → Standing → Record → ℕ → ℕ → List Interval
carried_over project grid standing row shortest longest =
    map_from (λ k tank. carried_levels_over (walls_of project tank) tank (stocks_of_tank standing k)
    (inflow_of_tank project grid row k) shortest longest) 0 project.tanks.list

-- What the rules look at in a period that has lasted between two lengths, from below.
abbrev pub readings_below_over : Project → Grid → Standing → Record → ℕ → ℕ → Readings
readings_below_over project grid standing row shortest longest = record {
  heads = heads_below grid row;
  levels = map (λ level. whole level.lo) (carried_over project grid standing row shortest longest);
  flows = map least_magnitude (flow_boxes grid row);
  links = links_at project standing;
}

-- What they look at, from above.
abbrev pub readings_above_over : Project → Grid → Standing → Record → ℕ → ℕ → Readings
readings_above_over project grid standing row shortest longest = record {
  heads = heads_above grid row;
  levels = map (λ level. whole level.hi) (carried_over project grid standing row shortest longest);
  flows = map greatest_magnitude (flow_boxes grid row);
  links = links_at project standing;
}

-- A rule at the instant that lies `seconds` after the first second in which the period may begin. A history that began
-- it later has had it for less long, but for no less than `seconds` less the seconds that the start is open.
abbrev pub open_rule_truth : Project → Grid → OpenStanding → Record → ℕ → Rule → Verdict
open_rule_truth project grid standing row seconds rule =
    rule_between project (standing.known.time + seconds)
    (readings_below_over project grid standing.known row (seconds - standing.late) seconds)
    (readings_above_over project grid standing.known row (seconds - standing.late) seconds) rule

-- The truths of all rules there, in order.
abbrev pub open_rule_truths : Project → Grid → OpenStanding → Record → ℕ → List Verdict
open_rule_truths project grid standing row seconds =
    map (open_rule_truth project grid standing row seconds) project.rules.list

-- Some rule is open there.
abbrev pub SomeRuleIsOpen : Project → Grid → OpenStanding → Record → ℕ → Type 0
SomeRuleIsOpen project grid standing row seconds =
    IsTrue (list_any is_unknown (open_rule_truths project grid standing row seconds))

-- What the rules change there, where all of them are decided.
abbrev pub open_changes : Project → Grid → OpenStanding → Record → ℕ → List Change
open_changes project grid standing row seconds =
    rule_changes project (map is_yes (open_rule_truths project grid standing row seconds))
    (links_at project standing.known)

-- The link states that they leave there.
abbrev pub acted_over : Project → Grid → OpenStanding → Record → ℕ → List LinkState
acted_over project grid standing row seconds =
    acted project (map is_yes (open_rule_truths project grid standing row seconds)) (links_at project standing.known)

-- The rules matter there: one is open, or they change a link.
pub record RulesMatterOver (project : Project) (grid : Grid) (standing : OpenStanding) (row : Record) (seconds : ℕ) :
    Type 0 where
  pub tried : IsTried project standing.known seconds
  pub matters : SomeRuleIsOpen project grid standing row seconds
      ⊎ (open_changes project grid standing row seconds ≢ [])

-- The rules matter at no instant up to one.
abbrev pub NoRuleMattersUpTo : Project → Grid → OpenStanding → Record → ℕ → Type 0
NoRuleMattersUpTo project grid standing row last =
    (seconds : ℕ) → RulesMatterOver project grid standing row seconds → last < seconds

-- This is the rule that is open there: the first one, and its first clause that is open by itself.
pub record IsOpenRuleOver (project : Project) (grid : Grid) (standing : OpenStanding) (row : Record) (seconds : ℕ)
    (open_rule : OpenRule) : Type 0 where
  pub first_rule : position is_unknown (open_rule_truths project grid standing row seconds) ≡ Some open_rule.rule
  pub rule : Rule
  pub is_rule : slice_get project.rules.list open_rule.rule ≡ Some rule
  pub clause_is : IsOpenClause project (standing.known.time + seconds)
      (readings_below_over project grid standing.known row (seconds - standing.late) seconds)
      (readings_above_over project grid standing.known row (seconds - standing.late) seconds) rule open_rule.clause
      open_rule.lo open_rule.hi
