-- What judges a part is given.
use Rattle.std.proofs.Common.{ℕ, All, refl, ap, subst, sym, ◌∙◌}
use Rattle.hyd_spec_flows.specs.FlowTexts.{IsNamed}
use Rattle.hyd_cert.specs.FlowPartView.{part_of}
use Rattle.hyd_cert.specs.Lines.{Header}
use Rattle.hyd_cert.specs.declared.record.Record.{Record as Row}
use Rattle.hyd_cert_check.proofs.RecordLemmas.{given-there}
use Rattle.hyd_witness_stream.proofs.records.check_part.Goals as goal

pub check_flows-requires : goal.check_flows-requires
check_flows-requires c =
    let is = c.project-project.ensures.is_sim in
    let same = ap (λ (r : Row). r.junctions) c.row.ensures ∙ ap (λ (h : Header). h.junctions) is.header in
    record {
      given = given-there _ is c.requires.period _ _ _ _ c.project-project.ensures.project c.net-net.ensures
          c.row.ensures refl c.junctions-junctions.ensures.steady;
      named = subst (λ (m : ℕ). All (IsNamed m) (part_of c.args.part.now)) (sym same) c.requires.named;
    }

pub returns-clause-good : goal.returns-clause-good
returns-clause-good c = rw (c.net-net.ensures, c.row.ensures) at c.check_flows.ensures.good

pub returns-clause-refused : goal.returns-clause-refused
returns-clause-refused c = rw (c.net-net.ensures, c.row.ensures) at c.check_flows.ensures.refused
