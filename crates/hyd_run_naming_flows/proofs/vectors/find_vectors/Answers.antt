-- The links join junctions in the period too, and their vectors make a part.
use Rattle.std.proofs.Common.{◌∙◌, refl, sym, ap}
use Rattle.hyd_cert.specs.FlowPartView.{part_of}
use Rattle.hyd_cert.specs.RecordView.{row_of}
use Rattle.hyd_cert.specs.declared.record.Record.{Record as Row}
use Rattle.hyd_run_naming_flows.proofs.PartLemmas.{joins-each, is-flow-part}
use Rattle.hyd_run_naming_flows.proofs.StepLemmas.{row-junctions, may-still, given-there, vectors-now, near-now}
use Rattle.hyd_run_naming_flows.proofs.vectors.find_vectors.Goals as goal

pub find-requires : goal.find-requires
find-requires c =
    let is = c.project-project.ensures.is_sim in
    let n = c.net-net.ensures in
    let r = c.row.ensures in
    record {
      given = given-there _ _ is c.requires.period.1 _ _ n r c.junctions-junctions.ensures.steady;
      junctions = c.requires.junctions ∙ sym (ap (λ (row : Row). row.junctions) r ∙ row-junctions c.args.sim.now is);
      joins = rw n (joins-each c.args.sim.now.project c.args.sim.now.net is.net (part_of c.args.part.now)
          c.requires.named.join);
      room = c.requires.room ∙ sym (ap (λ (row : Row). row.junctions) r ∙ row-junctions c.args.sim.now is);
    }

pub returns-clause-part : goal.returns-clause-part
returns-clause-part c =
    let is = c.project-project.ensures.is_sim in
    is-flow-part c.args.sim.now.project c.args.sim.now.net is.net (row_of c.args.sim.now.row) (part_of c.find.new.part)
    (may-still _ _ _ _ refl c.find.ensures.names c.requires.named)
    (vectors-now _ _ is c.requires.period.1 _ _ c.net-net.ensures c.row.ensures _ c.find.ensures.vectors)

pub returns-clause-near : goal.returns-clause-near
returns-clause-near c =
    near-now _ _ c.project-project.ensures.is_sim c.requires.period.1 _ _ c.net-net.ensures c.row.ensures _ _
    c.rounds.ensures c.find.ensures.near
