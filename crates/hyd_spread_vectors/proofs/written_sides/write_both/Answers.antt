use Rattle.std.proofs.Common.{sym, ap, ◌∙◌}
use Rattle.hyd_spec_certificates.specs.declared.Side.TheVariants.{Upper, Lower}
use Rattle.hyd_cert.specs.Lines.{Header}
use Rattle.hyd_spread_vectors.specs.VectorsOfBothNetworks.{IsHeldIn, held_in}
use Rattle.hyd_spread_vectors.proofs.VectorsOfSides.{fits-in, both-more}
use Rattle.hyd_spread_vectors.proofs.written_sides.write_both.Goals as goal

pub set_vector-requires-clause-size : goal.set_vector-requires-clause-size
set_vector-requires-clause-size c =
    fits-in c.args.above.now c.args.row.now c.requires.above c.args.problem Upper c.vector.result.now c.vector.ensures
    c.requires.problem

pub set_vector-requires-2-clause-size : goal.set_vector-requires-2-clause-size
set_vector-requires-2-clause-size c =
    fits-in c.args.below.now c.args.row.now c.requires.below c.args.problem Lower c.vector-2.result.now
    c.vector-2.ensures c.requires.problem
    ∙ sym (ap (λ (h : Header). h.junctions) c.set_vector.ensures.header)

pub returns-clause-both : goal.returns-clause-both
returns-clause-both c =
    both-more (IsHeldIn (held_in c.args.above.now c.args.below.now)) c.args.problem c.args.row.now
    c.set_vector.new.self c.set_vector-2.new.self c.vector.result.now c.vector-2.result.now c.requires.before
    c.set_vector.ensures.vector c.vector.ensures (λ other face there. c.set_vector.ensures.others other face there)
    (ap (λ (h : Header). h.tanks) c.set_vector.ensures.header) c.set_vector-2.ensures.vector c.vector-2.ensures
    (λ other face there. c.set_vector-2.ensures.others other face there)
