-- Premises of rules, as they are gone through clause by clause.
-- Source: EPANET 2.2 User Manual, appendix C ([RULES]).
use Rattle.std.specs.Prelude.{Bool, ◌&&◌, ◌||◌, List, Option, Some, None}
use Rattle.std.specs.List.{list_any, list_all}
use Rattle.hyd_spec.specs.ProgramTypes.{RuleClause, Clause}
use Rattle.hyd_spec.specs.Rules.{parts_of, groups_in}
use Rattle.hyd_rules_at_scale.specs.declared.rules.Premise.{Premise}

-- Whether a premise holds where the clauses before `rows` are done with: by its groups before the last one, by the last
-- group, where a clause stands before, and by the rows that are left.
abbrev pub rest_of : (Clause → Bool) → Bool → Option Bool → List RuleClause → Bool
rest_of holds groups None rows = groups && list_all (list_any holds) (groups_in (parts_of rows))
rest_of holds groups (Some group) rows =
    groups && ((group || list_any holds (parts_of rows).front) && list_all (list_any holds) (parts_of rows).rest)

-- the same of a premise of the program
abbrev pub premise_of : (Clause → Bool) → Premise → List RuleClause → Bool
premise_of holds premise rows = rest_of holds premise.groups premise.group rows
