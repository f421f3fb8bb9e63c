use Rattle.std.proofs.Common.{◌≡◌, to_z, of_z, w64, arith}
use Rattle.std.proofs.lemmas.Int.{ints}
use Rattle.hyd_spec.specs.Law.{QuadraticLaw}
use Rattle.hyd_laws_at_scale.specs.Scales.{parts_of}
use Rattle.hyd_laws_at_scale.proofs.ComposedWindows.{answered, unanswered}
use Rattle.hyd_laws_at_scale.proofs.link_windows.emitter_window.Goals as goal

pub returns-clause-some : goal.returns-clause-some
returns-clause-some c =
    let S = parts_of c.args.scale in
    let some = c.in_ok-inside.ensures.some in
    let kept : to_z w64 (of_z w64 c.in_ok-inside.inside) ≡ c.args.pressure = omega (arith, ints, some.0, some.1) in
    answered S (QuadraticLaw c.args.emitter.now.cap) c.args.pressure c.quadratic.result
    (rw kept at c.quadratic.ensures)

pub returns-clause-none : goal.returns-clause-none
returns-clause-none c =
    let S = parts_of c.args.scale in
    let some = c.in_ok-inside.ensures.some in
    let kept : to_z w64 (of_z w64 c.in_ok-inside.inside) ≡ c.args.pressure = omega (arith, ints, some.0, some.1) in
    unanswered S (QuadraticLaw c.args.emitter.now.cap) c.args.pressure c.quadratic.result
    (rw kept at c.quadratic.ensures)
