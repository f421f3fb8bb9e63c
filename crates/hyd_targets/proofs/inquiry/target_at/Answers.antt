use Rattle.std.proofs.Common.{◌≡◌, ◌+ℤ◌, ◌∙◌, to_z, of_z, w64, arith}
use Rattle.std.proofs.lemmas.Int.{ints}
use Rattle.hyd_targets.proofs.inquiry.target_at.Goals as goal

pub returns : goal.returns
returns c target below above =
    let small = c.requires.elevation in
    let kept : to_z w64 (of_z w64 c.args.junction.now.elevation) ≡ c.args.junction.now.elevation =
    omega (arith, ints, small) in
    λ i. record {
      lo = (c.heads_at.ensures.lo ∙ (λ k. kept k +ℤ below k)) i;
      hi = (c.heads_at.ensures.hi ∙ (λ k. kept k +ℤ above k)) i;
    }
