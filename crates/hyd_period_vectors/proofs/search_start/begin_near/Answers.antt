use Rattle.std.proofs.Common.{◌∙◌, sym, ap, subst, List, ℤ}
use Rattle.std.specs.Prelude.{None}
use Rattle.hyd_spec_certificates.specs.declared.Problem.TheVariants.{Main}
use Rattle.hyd_spec_certificates.specs.declared.Side.{Side}
use Rattle.hyd_spec_certificates.specs.PeriodNetwork.{opposite}
use Rattle.hyd_spec_certificates.specs.Certificate.{IsCertificate}
use Rattle.hyd_spec_certificates.specs.StartsRaisesAndLeaps.{IsStart}
use Rattle.hyd_spec_certificates.specs.RecordAndStanding.{vector_of}
use Rattle.hyd_cert.specs.RecordView.{row_of}
use Rattle.hyd_period_network.specs.NetAsPeriodNetwork.{grid_of}
use Rattle.hyd_period_vectors.proofs.StartFromOtherSide.{start-across}
use Rattle.hyd_period_vectors.proofs.search_start.begin_near.Goals as goal

pub returns-clause-start : goal.returns-clause-start
returns-clause-start c =
    let grid = grid_of c.args.net.now in
    let side = c.args.side in
    let row = row_of c.args.row.now in
    let is : IsCertificate grid Main (opposite side) (vector_of row Main (opposite side)) =
    c.requires.other (c.is_first.ensures c.if-is_first.false) in
    let same = c.copy_from_slice.ensures.after
    ∙ (c.vector.ensures ∙ ap (λ (s : Side). vector_of row Main s) c.opposite.ensures) in
    subst (λ (u : List ℤ). IsStart None grid c.args.problem side u) (sym same)
    (start-across grid c.junctions-junctions.ensures.steady c.requires.order c.args.problem side
    (vector_of row Main (opposite side)) is)
