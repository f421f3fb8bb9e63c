-- A record is accepted, and its part is tried, or it is refused.
use Rattle.std.proofs.Common.{ℕ, All, ap, subst, sym, ◌∙◌, length}
use Rattle.hyd_spec.specs.ProgramTypes.{Project}
use Rattle.hyd_spec_flows.specs.FlowTexts.{IsNamed}
use Rattle.hyd_cert.specs.FlowPartView.{part_of}
use Rattle.hyd_cert.specs.Lines.{Header}
use Rattle.hyd_cert_check.proofs.RecordLemmas.{of-period, read-accepted, refused-there}
use Rattle.hyd_cert_check.proofs.records.try_record.Goals as goal

pub accept-requires-clause-junctions : goal.accept-requires-clause-junctions
accept-requires-clause-junctions g c = ap (λ (h : Header). h.junctions) c.requires.header

pub accept-requires-clause-tanks : goal.accept-requires-clause-tanks
accept-requires-clause-tanks g c = ap (λ (h : Header). h.tanks) c.requires.header

pub take_part-requires-clause-period : goal.take_part-requires-clause-period
take_part-requires-clause-period g c = of-period _ _ c.project-project.ensures.is_sim c.in-Ok.ensures.accepted

pub take_part-requires-clause-named : goal.take_part-requires-clause-named
take_part-requires-clause-named g c =
    subst (λ (m : ℕ). All (IsNamed m) (part_of c.args.part.now))
    (ap (λ (h : Header). h.junctions) c.requires.header
    ∙ ap (λ (p : Project). length p.junctions.list) (sym c.accept.ensures.project)) c.requires.named

pub returns-in-Err-clause-tries : goal.returns-in-Err-clause-tries
returns-in-Err-clause-tries g c = λ before reader read none.
    refused-there _ _ c.args.row.now _ _ before _ c.accept.ensures.project c.in-Err.ensures.refused read none

pub returns-clause-tries : goal.returns-clause-tries
returns-clause-tries g c = λ before reader read none.
    c.take_part.ensures before _ reader c.in-Ok.ensures.accepted
    (read-accepted _ c.accept.new.self c.args.row.now _ before _ c.accept.ensures.project c.in-Ok.ensures.row read) none
