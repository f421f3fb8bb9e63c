-- The ways in which a period ends, and what may be open, as the definitions have them.
use Rattle.std.specs.Prelude.{List, ◌++◌}
use Rattle.hyd_spec.specs.ProgramTypes.{Project}
use Rattle.hyd_spec.specs.declared.Change.{Change}
use Rattle.hyd_spec_certificates.specs.PeriodNetwork.{Grid}
use Rattle.hyd_spec_certificates.specs.RecordAndStanding.{Record}
use Rattle.hyd_spec_certificates.specs.Decided.{End, RuleIsOpen, EventIsOpen}
use Rattle.hyd_spec_open_ends.specs.OpenStandings.{OpenStanding}
use Rattle.hyd_spec_open_ends.specs.OpenEnds.{Way, ByRules, ByInstant, ByWatched}
use Rattle.hyd_spec_open_ends.specs.RulesOverLengths.{open_changes}
use Rattle.hyd_period_length.specs.TriedRules.{open_rule}
use Rattle.hyd_open_ends.specs.declared.ways.Way.{Way as Here}
use Rattle.hyd_open_ends.specs.declared.ways.Way.TheVariants as here
use Rattle.hyd_open_ends.specs.declared.ways.Open.{Open}
use Rattle.hyd_open_ends.specs.declared.ways.Open.TheVariants as found

-- the way
abbrev pub way_of : Here → Way
way_of (here.ByRules seconds) = ByRules seconds
way_of (here.ByInstant seconds) = ByInstant seconds
way_of (here.ByWatched earliest latest) = ByWatched earliest latest

-- what is open
abbrev pub end_of : Open → End
end_of (found.Rule rule) = RuleIsOpen (open_rule rule)
end_of (found.Event earliest latest) = EventIsOpen earliest latest

-- the changes behind those before: what the rules change where they end the period
abbrev pub changes_left : Project → Grid → OpenStanding → Record → List Change → Way → List Change
changes_left project grid standing row before (ByRules seconds) =
    before ++ open_changes project grid standing row seconds
changes_left project grid standing row before (ByInstant seconds) = before
changes_left project grid standing row before (ByWatched earliest latest) = before
