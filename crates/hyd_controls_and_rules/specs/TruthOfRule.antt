-- What a truth tells of a rule.
-- Source: Kleene 1952 (strong three-valued logic).
use Rattle.std.specs.Prelude.{◌≡◌, ⊤, Bool, true, false}
use Rattle.hyd_spec_certificates.specs.declared.Verdict.{Verdict}
use Rattle.hyd_spec_certificates.specs.declared.Verdict.TheVariants.{Yes, No}
use Rattle.hyd_spec_certificates.specs.declared.Truth.{Truth}
use Rattle.hyd_spec_certificates.specs.declared.Truth.TheVariants.{True, False, Open}

-- a truth that is decided is that of a rule with this value
abbrev pub IsTruthOf : Truth → Bool → Type 0
IsTruthOf True value = value ≡ true
IsTruthOf False value = value ≡ false
IsTruthOf (Open clause lo hi) value = ⊤

-- what is decided is known as it is decided
abbrev pub IsKnownAs : Truth → Verdict → Type 0
IsKnownAs True known = known ≡ Yes
IsKnownAs False known = known ≡ No
IsKnownAs (Open clause lo hi) known = ⊤
