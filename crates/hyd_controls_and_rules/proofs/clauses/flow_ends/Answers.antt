use Rattle.std.proofs.Common.{◌≡◌, ◌∙◌, to_z, of_z, arith}
use Rattle.std.specs.Int.{w128}
use Rattle.std.proofs.lemmas.Int.{ints}
use Rattle.hyd_spec_certificates.specs.Decided.{least_magnitude, greatest_magnitude}
use Rattle.hyd_controls_and_rules.proofs.QuantitiesOfClauses.{flow_of}
use Rattle.hyd_controls_and_rules.proofs.clauses.flow_ends.Goals as goal

pub returns : goal.returns
returns c =
    let flows = c.args.instant.now.flows.now in
    let flow = c.index-instant-link.result in
    let least : to_z w128 (of_z w128 c.least_magnitude.result) ≡ c.least_magnitude.result = omega (arith, ints) in
    let greatest : to_z w128 (of_z w128 c.greatest_magnitude.result) ≡ c.greatest_magnitude.result = omega
    (arith, ints) in
    record {
      lo = flow_of least_magnitude flows c.args.link flow _ c.requires.each (least ∙ c.least_magnitude.ensures);
      hi = flow_of greatest_magnitude flows c.args.link flow _ c.requires.each (greatest
          ∙ c.greatest_magnitude.ensures);
    }
