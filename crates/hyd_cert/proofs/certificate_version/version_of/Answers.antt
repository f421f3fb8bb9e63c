use Rattle.std.proofs.Common.{◌≡◌, false, length, ap, subst, arith}
use Rattle.std.specs.List.{All}
use Rattle.std.proofs.lemmas.List.{take_all}
use Rattle.hyd_spec.specs.ProgramTypes.{Tank}
use Rattle.hyd_cert.proofs.VersionLemmas.{IsNew, first_version}
use Rattle.hyd_cert.proofs.certificate_version.version_of.Goals as goal

pub returns : goal.returns
returns c =
    let tanks = c.args.project.now.tanks.list in
    first_version c.args.project.now
    (subst (All (λ (tank : Tank). IsNew tank ≡ false)) (take_all c.loop-tank.tank-index tanks
    (omega (arith, c.loop-tank-test.false, ap length c.as_slice-tank-items.ensures))) c.loop-tank.invariant)
