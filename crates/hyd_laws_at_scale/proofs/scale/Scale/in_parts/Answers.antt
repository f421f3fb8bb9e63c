use Rattle.std.proofs.Common.{◌≡◌, pos, ◌*ℤ◌, to_z, of_z, SFits, arith}
use Rattle.std.specs.Int.{w128}
use Rattle.std.proofs.lemmas.Int.{ints, to_z-of_z, fits_signed_from_abs}
use Rattle.hyd_laws_at_scale.specs.Scales.{parts_of}
use Rattle.hyd_laws_at_scale.proofs.Scales.{power_small, parts_small}
use Rattle.hyd_laws_at_scale.proofs.scale.Scale.in_parts.Goals as goal

pub returns-clause-small : goal.returns-clause-small
returns-clause-small c =
    let few = power_small c.args.self.power c.args.self.small in
    let small = parts_small (parts_of c.args.self) c.args.ticks few in
    let fits : SFits w128 (pos (parts_of c.args.self) *ℤ c.args.ticks) =
    fits_signed_from_abs w128 (pos (parts_of c.args.self) *ℤ c.args.ticks) (omega (arith, small, c.requires)) in
    let f : to_z w128 (of_z w128 c.from.result) ≡ pos (parts_of c.args.self) =
    omega (arith, ints, c.from.ensures, c.parts.ensures.value, few) in
    rw (
      f,
      to_z-of_z w128 c.args.ticks c.ranges.ticks,
      to_z-of_z w128 (pos (parts_of c.args.self) *ℤ c.args.ticks)
          fits,
    ) small
