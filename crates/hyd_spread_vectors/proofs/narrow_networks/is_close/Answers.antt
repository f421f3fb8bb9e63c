use Rattle.std.proofs.Common.{◌≡◌, map, sym, ap, ◌∙◌, length, arith, to_z, of_z, w64}
use Rattle.std.proofs.lemmas.Int.{ints}
use Rattle.hyd_spec_certificates.specs.SpansAsIntervals.{levels_of}
use Rattle.hyd_spec_certificates.specs.declared.Problem.TheVariants.{Main}
use Rattle.hyd_spec_certificates.specs.declared.Side.TheVariants.{Upper, Lower}
use Rattle.hyd_spread_vectors.proofs.VectorsOfSides.{vector-long}
use Rattle.hyd_spread_vectors.proofs.CloseVectors.{close-again}
use Rattle.hyd_spread_vectors.proofs.narrow_networks.is_close.Goals as goal

pub are_close-requires : goal.are_close-requires
are_close-requires c =
    let held = c.args.held.now in
    record {
      heads = ap length c.vector-lower.ensures ∙ (vector-long held Main Lower tt
          ∙ (sym (vector-long held Main Upper tt) ∙ sym (ap length c.vector-upper.ensures)));
    }

pub returns-clause-close : goal.returns-clause-close
returns-clause-close c = λ e.
    let width : to_z w64 (of_z w64 c.args.width) ≡ c.args.width = omega (arith, ints) in
    close-again (to_z w64 (of_z w64 c.args.width)) c.args.width (map levels_of c.args.levels.now) _ _ _ _ width
    c.vector-upper.ensures c.vector-lower.ensures (c.are_close.ensures.close e)

pub returns-clause-wide : goal.returns-clause-wide
returns-clause-wide c = λ e is.
    let width : c.args.width ≡ to_z w64 (of_z w64 c.args.width) = omega (arith, ints) in
    c.are_close.ensures.wide e
    (close-again c.args.width (to_z w64 (of_z w64 c.args.width)) (map levels_of c.args.levels.now) _ _ _ _ width
    (sym c.vector-upper.ensures) (sym c.vector-lower.ensures) is)
