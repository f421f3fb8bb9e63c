-- The line of a period that isn't met, clause by clause.
use Rattle.std.proofs.Common.{List, ℕ, codes}
use Rattle.hyd_spec_reports.specs.ReportLine.{node_id, link_id}
use Rattle.hyd_spec_witnesses.specs.declared.MetClause.TheVariants.{Start, Link, Demand, Emitter, Balance, Length}
use Rattle.hyd_io.specs.TextPutIn.{Puts}
use Rattle.hyd_witness_commands.proofs.LinesPutInPieces.{unmet_put, named_put}
use Rattle.hyd_witness_commands.proofs.lines.put_unmet.Goals as goal

pub returns-in-Start : goal.returns-in-Start
returns-in-Start g c =
    unmet_put
    (λ (text : List ℕ). Puts g.D.Desk.files g.D.Desk.rest g.D.Desk.written g.D.Desk.printed g.D.Desk.target
    g.D.Desk.ready g.D.Desk.counts g.D.Desk.openings
    text c.put_clause.result c.args.pen.now c.put_clause.new.pen c.args.desk.now c.put_clause.new.desk)
    c.args.project.now c.args.period c.args.unmet Start c.in-Start.is c.put_clause.ensures

pub returns-in-Length : goal.returns-in-Length
returns-in-Length g c =
    unmet_put
    (λ (text : List ℕ). Puts g.D.Desk.files g.D.Desk.rest g.D.Desk.written g.D.Desk.printed g.D.Desk.target
    g.D.Desk.ready g.D.Desk.counts g.D.Desk.openings
    text c.put_clause-in-Length.result c.args.pen.now c.put_clause-in-Length.new.pen c.args.desk.now c.put_clause-in-Length.new.desk)
    c.args.project.now c.args.period c.args.unmet Length c.in-Length.is c.put_clause-in-Length.ensures

pub returns-in-Link : goal.returns-in-Link
returns-in-Link g c =
    let puts =
    (λ (text : List ℕ). Puts g.D.Desk.files g.D.Desk.rest g.D.Desk.written g.D.Desk.printed g.D.Desk.target
    g.D.Desk.ready g.D.Desk.counts g.D.Desk.openings
    text c.put_clause_at.result c.args.pen.now c.put_clause_at.new.pen c.args.desk.now c.put_clause_at.new.desk) in
    unmet_put puts c.args.project.now c.args.period c.args.unmet Link c.in-Link.is
    (named_put puts c.args.period (codes "LINK") c.link_id.result.now (link_id c.args.project.now c.args.unmet.number)
    c.link_id.ensures c.put_clause_at.ensures)

pub returns-in-Demand : goal.returns-in-Demand
returns-in-Demand g c =
    let puts =
    (λ (text : List ℕ). Puts g.D.Desk.files g.D.Desk.rest g.D.Desk.written g.D.Desk.printed g.D.Desk.target
    g.D.Desk.ready g.D.Desk.counts g.D.Desk.openings
    text c.put_clause_at-in-Demand.result c.args.pen.now c.put_clause_at-in-Demand.new.pen c.args.desk.now c.put_clause_at-in-Demand.new.desk) in
    unmet_put puts c.args.project.now c.args.period c.args.unmet Demand c.in-Demand.is
    (named_put puts c.args.period (codes "DEMAND") c.node_id.result.now (node_id c.args.project.now c.args.unmet.number)
    c.node_id.ensures c.put_clause_at-in-Demand.ensures)

pub returns-in-Emitter : goal.returns-in-Emitter
returns-in-Emitter g c =
    let puts =
    (λ (text : List ℕ). Puts g.D.Desk.files g.D.Desk.rest g.D.Desk.written g.D.Desk.printed g.D.Desk.target
    g.D.Desk.ready g.D.Desk.counts g.D.Desk.openings
    text c.put_clause_at-in-Emitter.result c.args.pen.now c.put_clause_at-in-Emitter.new.pen c.args.desk.now c.put_clause_at-in-Emitter.new.desk) in
    unmet_put puts c.args.project.now c.args.period c.args.unmet Emitter c.in-Emitter.is
    (named_put puts c.args.period (codes "EMITTER") c.node_id-in-Emitter.result.now (node_id c.args.project.now c.args.unmet.number)
    c.node_id-in-Emitter.ensures c.put_clause_at-in-Emitter.ensures)

pub returns-in-Balance : goal.returns-in-Balance
returns-in-Balance g c =
    let puts =
    (λ (text : List ℕ). Puts g.D.Desk.files g.D.Desk.rest g.D.Desk.written g.D.Desk.printed g.D.Desk.target
    g.D.Desk.ready g.D.Desk.counts g.D.Desk.openings
    text c.put_clause_at-in-Balance.result c.args.pen.now c.put_clause_at-in-Balance.new.pen c.args.desk.now c.put_clause_at-in-Balance.new.desk) in
    unmet_put puts c.args.project.now c.args.period c.args.unmet Balance c.in-Balance.is
    (named_put puts c.args.period (codes "BALANCE") c.node_id-in-Balance.result.now (node_id c.args.project.now c.args.unmet.number)
    c.node_id-in-Balance.ensures c.put_clause_at-in-Balance.ensures)
