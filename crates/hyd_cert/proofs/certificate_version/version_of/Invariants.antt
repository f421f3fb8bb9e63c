use Rattle.std.proofs.Common.{◌≡◌, false, take}
use Rattle.std.specs.List.{All}
use Rattle.hyd_spec.specs.ProgramTypes.{Tank}
use Rattle.hyd_cert.proofs.VersionLemmas.{IsNew}
use Rattle.hyd_cert.proofs.certificate_version.version_of.Given as goal

-- no tank so far has a volume curve or overflows
abbrev pub invariant-loop-tank : goal.invariant-loop-tank
invariant-loop-tank l = All (λ (tank : Tank). IsNew tank ≡ false) (take l.tank-index l.project.tanks.list)
