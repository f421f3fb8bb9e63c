-- The bytes that were read are the text.
use Rattle.std.proofs.Common.{◌≡◌, ◌∙◌, ℕ, List, IfOk, IfErr, subst}
use Rattle.hyd_spec_lines.specs.Lines.{items_of, rows_in}
use Rattle.hyd_spec_input.specs.Faults.{IsFault, HasNoFault}
use Rattle.hyd_spec_input.specs.Project.{IsProject}
use Rattle.hyd_command_answers.specs.NetworkOrFault.{IfFault}
use Rattle.hyd_command_answers.proofs.network_file.read_network.Goals as goal

pub returns-in-Ok-Some-clause-no_fault : goal.returns-in-Ok-Some-clause-no_fault
returns-in-Ok-Some-clause-no_fault g c text told =
    let same : c.in-Ok-Some.text.items ≡ text = rw c.in-Ok-Some.field-0-is at (c.in-Ok-Some.ensures.text text told) in
    subst (λ (t : List ℕ). IfOk c.network_told.result (λ _. HasNoFault t)) (c.deref.ensures.value ∙ same)
    c.network_told.ensures.no_fault

pub returns-in-Ok-Some-clause-project : goal.returns-in-Ok-Some-clause-project
returns-in-Ok-Some-clause-project g c text told =
    let same : c.in-Ok-Some.text.items ≡ text = rw c.in-Ok-Some.field-0-is at (c.in-Ok-Some.ensures.text text told) in
    subst (λ (t : List ℕ). IfOk c.network_told.result (IsProject (rows_in (items_of t)))) (c.deref.ensures.value ∙ same)
    c.network_told.ensures.project

pub returns-in-Ok-Some-clause-fault : goal.returns-in-Ok-Some-clause-fault
returns-in-Ok-Some-clause-fault g c text told =
    let same : c.in-Ok-Some.text.items ≡ text = rw c.in-Ok-Some.field-0-is at (c.in-Ok-Some.ensures.text text told) in
    subst (λ (t : List ℕ). IfErr c.network_told.result (λ u. IfFault u (λ f. IsFault t f.line f.cause)))
    (c.deref.ensures.value ∙ same) c.network_told.ensures.fault
