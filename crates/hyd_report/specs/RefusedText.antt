-- The one line that is printed of an input file, or of the text of a spread, that is refused.
-- Source: this program's.
use Rattle.std.specs.Prelude.{ℕ, List, [], ◌∷◌, codes, decimal}
use Rattle.hyd_net.specs.declared.refusal_cause.Cause.{Cause}
use Rattle.hyd_net.specs.declared.refusal_cause.Cause.TheVariants.{Syntax, Number, Range, DuplicateId, UnknownName}
use Rattle.hyd_net.specs.declared.refusal_cause.Cause.TheVariants.{Unsupported}
use Rattle.hyd_net.specs.declared.refusal_cause.Cause.TheVariants.{Limit, Missing}
use Rattle.hyd_spec_certificates.specs.CertificateText.{line}

-- the number of a cause
abbrev pub cause_number : Cause → ℕ
cause_number Syntax = 1
cause_number Number = 2
cause_number Range = 3
cause_number DuplicateId = 4
cause_number UnknownName = 5
cause_number (Unsupported part) = 6
cause_number (Limit limit) = 7
cause_number Missing = 8

-- the number of the part that isn't supported or of the limit that is passed, else 0
abbrev pub detail_of : Cause → ℕ
detail_of (Unsupported part) = part
detail_of (Limit limit) = limit
detail_of cause = 0

-- `N cause C detail D`
abbrev pub fault_words : ℕ → Cause → List (List ℕ)
fault_words number cause =
    decimal number ∷ (codes "cause" ∷ (decimal (cause_number cause) ∷ (codes "detail" ∷ (decimal (detail_of cause) ∷ []))))

-- of an input file: `REFUSED line N cause C detail D`
abbrev pub refused_text_line : ℕ → Cause → List ℕ
refused_text_line number cause = line (codes "REFUSED" ∷ (codes "line" ∷ fault_words number cause))

-- of the text of a spread: `REFUSED SPREAD line N cause C detail D`
abbrev pub refused_spread_line : ℕ → Cause → List ℕ
refused_spread_line number cause =
    line (codes "REFUSED" ∷ (codes "SPREAD" ∷ (codes "line" ∷ fault_words number cause)))
