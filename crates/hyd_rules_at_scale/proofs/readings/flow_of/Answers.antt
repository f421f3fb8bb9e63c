use Rattle.std.proofs.Common.{◌≡◌, ◌<◌, ℤ, List, pos, length, map, unsigned_abs, slice_index_or, refl, ap, ◌∙◌, arith}
use Rattle.std.proofs.lemmas.Int.{ints}
use Rattle.hyd_num.specs.Rational.{whole}
use Rattle.hyd_rules_at_scale.proofs.ReadingsOfInstants.{magnitude_there, whole_at}
use Rattle.hyd_rules_at_scale.proofs.readings.flow_of.Goals as goal

pub returns-clause-value : goal.returns-clause-value
returns-clause-value c = λ levels.
    let flows = c.args.instant.now.moment.now.flows.list in
    let link = c.args.link in
    let long = c.requires.instant.moment.flows.one_each in
    let there : link < length flows = omega (arith, long, c.requires.there) in
    let magnitude = magnitude_there flows link there in
    let flow : c.value_at-flow.result ≡ slice_index_or flows link (pos 0) =
    c.value_at-flow.ensures.value ∙ ap (λ (qs : List ℤ). slice_index_or qs link (pos 0)) c.as_slice.ensures in
    let own = pos (slice_index_or (map unsigned_abs flows) link 0) in
    whole_at c.whole.result _ own (whole own) c.whole.ensures.value refl
    (omega (arith, ints, magnitude, flow, c.abs.ensures.value, c.value_at-flow.ensures.small))
