use Rattle.std.proofs.Common.{◌≡◌, to_z, of_z, ◌∙◌, arith}
use Rattle.std.specs.Int.{w128}
use Rattle.std.proofs.lemmas.Int.{ints}
use Rattle.hyd_spread_networks.proofs.EmitterLemmas.{emitter_made, emitter_refused}
use Rattle.hyd_spread_networks.proofs.emitters.capacity_of.Goals as goal

pub returns-clause-emitter : goal.returns-clause-emitter
returns-clause-emitter c =
    let own : to_z w128 (of_z w128 c.args.nano) ≡ c.args.nano = omega (arith, ints) in
    emitter_made c.emitter_capacity.result c.decimal.result c.args.unit c.args.nano (c.decimal.ensures ∙ own)
    c.emitter_capacity.ensures.origin c.emitter_capacity.ensures.made

pub returns-clause-refused : goal.returns-clause-refused
returns-clause-refused c =
    let own : to_z w128 (of_z w128 c.args.nano) ≡ c.args.nano = omega (arith, ints) in
    emitter_refused c.emitter_capacity.result c.decimal.result c.args.unit c.args.nano (c.decimal.ensures ∙ own)
    c.emitter_capacity.ensures.refused
