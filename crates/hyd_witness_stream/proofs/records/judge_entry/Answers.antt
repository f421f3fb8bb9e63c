-- A record is accepted, and its part is judged.
use Rattle.std.proofs.Common.{ℕ, All, ap, subst, sym, ◌∙◌, length}
use Rattle.hyd_spec.specs.ProgramTypes.{Project}
use Rattle.hyd_spec_flows.specs.FlowTexts.{IsNamed}
use Rattle.hyd_cert.specs.FlowPartView.{part_of}
use Rattle.hyd_cert.specs.Lines.{Header}
use Rattle.hyd_cert.specs.declared.record.Record.{Record as Row}
use Rattle.hyd_cert_check.proofs.RecordLemmas.{of-period}
use Rattle.hyd_witness_stream.proofs.records.judge_entry.Goals as goal

pub accept-requires-clause-junctions : goal.accept-requires-clause-junctions
accept-requires-clause-junctions c = ap (λ (h : Header). h.junctions) c.requires.entry.header

pub accept-requires-clause-tanks : goal.accept-requires-clause-tanks
accept-requires-clause-tanks c = ap (λ (h : Header). h.tanks) c.requires.entry.header

pub check_part-requires-clause-period : goal.check_part-requires-clause-period
check_part-requires-clause-period c = of-period _ _ c.project-project.ensures.is_sim c.in-Ok.ensures.accepted

pub check_part-requires-clause-named : goal.check_part-requires-clause-named
check_part-requires-clause-named c =
    subst (λ (m : ℕ). All (IsNamed m) (part_of c.args.entry.now.part))
    (ap (λ (h : Header). h.junctions) c.requires.entry.header
    ∙ ap (λ (p : Project). length p.junctions.list) (sym c.accept.ensures.project)) c.requires.named

pub returns-in-Ok-check_part-clause-judges : goal.returns-in-Ok-check_part-clause-judges
returns-in-Ok-check_part-clause-judges c = record {
  accepted = c.in-Ok.ensures.accepted;
  row_is = c.in-Ok.ensures.row;
  held = c.in-Ok-check_part.ensures.good;
}

pub returns-in-Err-check_part-clause-judges : goal.returns-in-Err-check_part-clause-judges
returns-in-Err-check_part-clause-judges c = record {
  accepted = c.in-Ok.ensures.accepted;
  row_is = c.in-Ok.ensures.row;
  refused = c.in-Err-check_part.ensures.refused;
  number = ap (λ (r : Row). r.number) c.row.ensures;
}
