-- Whether some tank asks for the second version of certificates.
use Rattle.std.proofs.Common.{◌≡◌, Bool, false, if◌then◌else◌, sym, ap, ◌||◌}
use Rattle.std.specs.Prelude.{is_some}
use Rattle.std.specs.List.{All}
use Rattle.std.proofs.lemmas.List.Folds.{list_any_none}
use Rattle.hyd_spec.specs.ProgramTypes.{Project, Tank}
use Rattle.hyd_spec_certificates.specs.CertificateText.{version_of}

-- the tank has a volume curve or overflows
abbrev pub IsNew : Tank → Bool
IsNew tank = is_some tank.shape || tank.overflow

pub first_version : (project : Project) → All (λ tank. IsNew tank ≡ false) project.tanks.list → 1 ≡ version_of project
first_version project none = sym (ap (λ (b : Bool). if b then 2 else 1) (list_any_none IsNew project.tanks.list none))
