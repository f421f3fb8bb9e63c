use Rattle.std.proofs.Common.{refl}
use Rattle.hyd_cases_of_definitions.proofs.decisions.rules.Goals as goal

pub returns-clause-true_rule : goal.returns-clause-true_rule
returns-clause-true_rule c = λ project rule number s60 s91 junctions reservoirs v60 v91 clauses.
    rw (clauses, junctions, reservoirs, v60, v91) refl

pub returns-clause-open_rule : goal.returns-clause-open_rule
returns-clause-open_rule c = λ project rule number s60 s91 junctions reservoirs v60 v91 clauses.
    rw (clauses, junctions, reservoirs, v60, v91) refl

pub returns-clause-false_rule : goal.returns-clause-false_rule
returns-clause-false_rule c = λ project rule number s60 s91 junctions reservoirs v60 v91 clauses.
    rw (clauses, junctions, reservoirs, v60, v91) refl

pub returns-clause-either_rule : goal.returns-clause-either_rule
returns-clause-either_rule c = λ project rule number s54 s60 junctions reservoirs v54 v60 clauses.
    rw (clauses, junctions, reservoirs, v54, v60) refl

pub returns-clause-both_rule : goal.returns-clause-both_rule
returns-clause-both_rule c = λ project rule number s54 s60 junctions reservoirs v54 v60 clauses.
    rw (clauses, junctions, reservoirs, v54, v60) refl
