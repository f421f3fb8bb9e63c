-- The head of a reservoir stands behind those of the junctions.
use Rattle.std.proofs.Common.{◌≡◌, ap, ℕ, ◌+◌, ◌∙◌, ◌++◌, List, length, to_z-of_z, FitsSigned, w64}
use Rattle.hyd_spec.specs.Assignment.{head_at}
use Rattle.hyd_spec_certificates.specs.PeriodNetwork.{fixed_heads}
use Rattle.hyd_spec_certificates.specs.declared.Problem.TheVariants.{Main}
use Rattle.hyd_spec_certificates.specs.declared.Side.TheVariants.{Lower}
use Rattle.hyd_period_network.specs.NetAsPeriodNetwork.{grid_of}
use Rattle.hyd_io.specs.TextPutIn.{Puts}
use Rattle.hyd_theorems_on_definitions.proofs.HeadLists.{heads_of, head_behind, head_before, heads_of-length}
use Rattle.hyd_report.proofs.LineLemmas.{reservoir_put}
use Rattle.hyd_report.proofs.reservoirs.put_reservoir.Goals as goal

pub returns : goal.returns
returns g c =
    let net = c.args.net.now in
    let fits : FitsSigned w64 c.fixed-height.result = record { sfits = c.fixed-height.type_inv } in
    let value : c.fixed-height.result ≡ head_at net.reservoirs c.args.reservoir =
    c.fixed-height.ensures.value (heads_of net.junctions) (heads_of-length net.junctions)
    ∙ (ap (λ (n : ℕ). head_at (heads_of net.junctions ++ fixed_heads (grid_of net) Main Lower)
    (n + c.args.reservoir)) c.junctions.ensures.count
    ∙ head_behind (heads_of net.junctions) (fixed_heads (grid_of net) Main Lower)
    (length net.junctions) c.args.reservoir (heads_of-length net.junctions)
    ∙ head_before net.reservoirs _ c.args.reservoir c.requires.in_range) in
    reservoir_put net.reservoirs c.args.project.now
    (λ (text : List ℕ). Puts g.D.Desk.files g.D.Desk.rest g.D.Desk.written g.D.Desk.printed g.D.Desk.target
    g.D.Desk.ready g.D.Desk.counts g.D.Desk.openings
    text c.put_reservoir_line.result c.args.pen.now c.put_reservoir_line.new.pen c.args.desk.now
    c.put_reservoir_line.new.desk)
    c.args.reservoir c.fixed-height.result c.requires.in_range value (simp to_z-of_z at c.put_reservoir_line.ensures)
