-- What is open first at the end of a period is the same for two records, each on its grid, whose heads, flow boxes and
-- inflow boxes are the same; so it is for one on the grid of the network, alone or on both sides.
use Rattle.std.proofs.Common.{◌≡◌, ℕ, ◌+◌, ◌-◌, List, subst}
use Rattle.std.specs.Prelude.{Some, position}
use Rattle.hyd_spec.specs.ProgramTypes.{Project}
use Rattle.hyd_spec.specs.Rules.{Readings}
use Rattle.hyd_spec_certificates.specs.declared.Verdict.{Verdict}
use Rattle.hyd_spec_certificates.specs.Decided.{OpenRule, End, IsOpenClause}
use Rattle.hyd_spec_certificates.specs.PeriodNetwork.{Grid}
use Rattle.hyd_spec_certificates.specs.RecordAndStanding.{Record}
use Rattle.hyd_spec_certificates.specs.ThreeValuedLogic.{is_unknown}
use Rattle.hyd_spec_open_ends.specs.OpenEnds.{IsFirstOpen, rule_is_open, rule_parts, too_wide, rule_is_open_between}
use Rattle.hyd_spec_open_ends.specs.OpenEnds.{rule_acts_between}
use Rattle.hyd_spec_open_ends.specs.OpenStandings.{OpenStanding}
use Rattle.hyd_spec_open_ends.specs.RulesOverLengths.{IsOpenRuleOver, readings_below_over, readings_above_over}
use Rattle.hyd_spec_spread_runs.specs.OutermostPairs.{spanned, spanning}
use Rattle.hyd_theorems_on_open_spreads.proofs.SameBoxesOpenly.{truths-same, below-same, above-same, is-open}
use Rattle.hyd_theorems_on_open_spreads.proofs.SameBoxesOpenly.{first-matter, none-matters, seconds-same}
use Rattle.hyd_theorems_on_spread_runs.proofs.RunsAlone.{both, boxes-alone}
use Rattle.hyd_theorems_on_spread_runs.proofs.SameBoxes.{SameBoxes, turned}

module _ (project : Project) (standing : OpenStanding) (g h : Grid) (r q : Record) (same : SameBoxes project g h r q)
  where
    abbrev back : SameBoxes project h g q r
    back = turned project g h r q same

    open-rule : (seconds : ℕ) (found : OpenRule) → IsOpenRuleOver project g standing r seconds found
        → IsOpenRuleOver project h standing q seconds found
    open-rule seconds found is = record {
      first_rule = subst (λ (ts : List Verdict). position is_unknown ts ≡ Some found.rule)
          (truths-same project standing g h r q same seconds) is.first_rule;
      rule = is.rule;
      is_rule = is.is_rule;
      clause_is = subst (λ (above : Readings). IsOpenClause project (standing.known.time + seconds)
          (readings_below_over project h standing.known q (seconds - standing.late) seconds) above is.rule
          found.clause found.lo found.hi)
          (above-same project standing g h r q same (seconds - standing.late) seconds)
          (subst (λ (below : Readings). IsOpenClause project (standing.known.time + seconds) below
          (readings_above_over project g standing.known r (seconds - standing.late) seconds) is.rule
          found.clause found.lo found.hi)
          (below-same project standing g h r q same (seconds - standing.late) seconds) is.clause_is);
    }

    pub first-open-same : (slack : ℕ) (end : End) → IsFirstOpen project g standing r slack end
        → IsFirstOpen project h standing q slack end
    first-open-same slack _ (rule_is_open {cap = cap} {earliest = earliest} {latest = latest} {seconds = i}
        {open_rule = found} seconds first in_time is) =
        rule_is_open (seconds-same project standing g h r q same cap earliest latest seconds)
        (first-matter project standing g h r q same i first) in_time (open-rule i found is)
    first-open-same slack _ (rule_parts {cap = cap} {earliest = earliest} {latest = latest} {seconds = i} seconds first
        in_time within none_open) =
        rule_parts (seconds-same project standing g h r q same cap earliest latest seconds)
        (first-matter project standing g h r q same i first) in_time within
        (λ unknown. none_open (is-open project standing h g q r back i unknown))
    first-open-same slack _ (too_wide {cap = cap} {earliest = earliest} {latest = latest} seconds none before wide) =
        too_wide (seconds-same project standing g h r q same cap earliest latest seconds)
        (none-matters project standing g h r q same earliest none) before wide
    first-open-same slack _ (rule_is_open_between {cap = cap} {earliest = earliest} {latest = latest} {seconds = i}
        {open_rule = found} seconds before within first after by is) =
        rule_is_open_between (seconds-same project standing g h r q same cap earliest latest seconds) before within
        (first-matter project standing g h r q same i first) after by (open-rule i found is)
    first-open-same slack _ (rule_acts_between {cap = cap} {earliest = earliest} {latest = latest} {seconds = i}
        seconds before within first after by none_open) =
        rule_acts_between (seconds-same project standing g h r q same cap earliest latest seconds) before within
        (first-matter project standing g h r q same i first) after by
        (λ unknown. none_open (is-open project standing h g q r back i unknown))

pub first-open-alone : (project : Project) (standing : OpenStanding) (grid : Grid) (row : Record) (slack : ℕ)
    (end : End) → IsFirstOpen project (spanned (both grid)) standing (spanning (both grid) row) slack end
    → IsFirstOpen project grid standing row slack end
first-open-alone project standing grid row slack end is =
    first-open-same project standing (spanned (both grid)) grid (spanning (both grid) row) row
    (boxes-alone project grid row) slack end is
