use Rattle.std.proofs.Common.{◌≡◌, refl}
use Rattle.hyd_spec_power_laws.specs.CutPowers.{places}
use Rattle.hyd_power_laws.proofs.WholeNumbers.{one_places}
use Rattle.hyd_power_laws.proofs.whole_numbers.in_63_digits.Goals as goal

pub returns-clause-value : goal.returns-clause-value
returns-clause-value c =
    let e : c.ilog2-places.result ≡ places c.args.n = one_places c.args.n c.ilog2-places.result c.requires
    c.ilog2-places.ensures.power_le c.ilog2-places.ensures.next_power_gt c.ranges.n.fits in
    rw (c.first_digits.ensures.value, e) refl
