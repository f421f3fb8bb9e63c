use Rattle.std.proofs.Common.{◌≡◌, ℕ, ◌+◌, length, ap, ◌∙◌, sym, subst, arith}
use Rattle.std.specs.List.{refill}
use Rattle.std.specs.Prelude.{Some, slice_get}
use Rattle.hyd_cert.specs.RecordView.{row_of}
use Rattle.hyd_cert.specs.VectorsOfRecord.{two_vectors}
use Rattle.hyd_cert.proofs.VectorLemmas.{refill_whole}
use Rattle.hyd_period_network.specs.NetAsPeriodNetwork.{grid_of}
use Rattle.hyd_spec_certificates.specs.PeriodNetwork.{GridLink}
use Rattle.hyd_spec_certificates.specs.RecordAndStanding.{vector_on}
use Rattle.hyd_spec_certificates.specs.declared.Side.{Side}
use Rattle.hyd_spec_flows.specs.FlowParts.{HasItsVector, IsSharpVector}
use Rattle.hyd_flow.proofs.FoundVectors.{has_both, near_both}
use Rattle.hyd_flow.proofs.search.find_vectors.Goals as goal

pub returns-clause-vectors : goal.returns-clause-vectors
returns-clause-vectors c =
    let old = c.args.named.now.heads.list in
    let new = c.find_both.new.heads in
    let many : length new ≡ length old = c.find_both.ensures.each ∙ ap length c.as_mut_slice.ensures.items in
    let whole = c.args.named.now.whole in
    let same = c.requires.junctions in
    let n = c.args.row.now.junctions in
    let long : length new ≡ n + n = omega (arith, many, whole, same) in
    let number = c.args.named.now.link in
    subst (λ (m : ℕ). (side : Side) → HasItsVector (grid_of c.args.net.now) (row_of c.args.row.now)
    (record { link = number; held = two_vectors m (refill (length old) old new) }) side) (sym same)
    (has_both (grid_of c.args.net.now) (row_of c.args.row.now) n number c.ends-from.result.from c.ends-from.result.to
    new (refill (length old) old new) (refill_whole old new many) long c.requires.joins c.ends-from.ensures.grid
    c.find_both.ensures.upper c.find_both.ensures.lower)

pub returns-clause-near : goal.returns-clause-near
returns-clause-near c =
    let old = c.args.named.now.heads.list in
    let new = c.find_both.new.heads in
    let many : length new ≡ length old = c.find_both.ensures.each ∙ ap length c.as_mut_slice.ensures.items in
    let whole = c.args.named.now.whole in
    let same = c.requires.junctions in
    let n = c.args.row.now.junctions in
    let long : length new ≡ n + n = omega (arith, many, whole, same) in
    let number = c.args.named.now.link in
    subst (λ (m : ℕ). (link : GridLink) (side : Side) → slice_get (grid_of c.args.net.now).links number ≡ Some link
    → IsSharpVector c.args.rounds (grid_of c.args.net.now) (row_of c.args.row.now) link side
    (vector_on side (two_vectors m (refill (length old) old new)))) (sym same)
    (near_both (grid_of c.args.net.now) (row_of c.args.row.now) n number c.ends-from.result.from c.ends-from.result.to
    new (refill (length old) old new) (refill_whole old new many) long c.requires.joins c.ends-from.ensures.grid
    c.args.rounds c.find_both.ensures.near_upper c.find_both.ensures.near_lower)
