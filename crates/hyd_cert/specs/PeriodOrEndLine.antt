-- A PERIOD line or an END line, as the program keeps it.
use Rattle.std.specs.Prelude.{ℕ, ◌<◌, ◌^◌, List, [], ◌∷◌, ◌⊎◌, codes}
use Rattle.std.specs.Fmt.{decimal}
use Rattle.hyd_spec_certificates.specs.CertificateText.{line, end_line}
use Rattle.hyd_cert.specs.declared.lines.Next.{Next}
use Rattle.hyd_cert.specs.declared.lines.Next.TheVariants.{Period, End}
use Rattle.hyd_cert.specs.Lines.{IsPeriodLine, IsEndLine}

-- Its text.
abbrev pub next_text : Next → List ℕ
next_text (Period p) = line (codes "PERIOD" ∷ (decimal p.number ∷ (decimal p.time ∷ (decimal p.length ∷ []))))
next_text (End e) = end_line e.periods e.finished

-- Its numbers are below 2^32.
abbrev pub NextFits : Next → Type 0
NextFits (Period p) = (p.number < 2 ^ 32) × (p.time < 2 ^ 32) × (p.length < 2 ^ 32)
NextFits (End e) = e.periods < 2 ^ 32

-- The line is one of the two.
abbrev pub IsPeriodOrEnd : List ℕ → Type 0
IsPeriodOrEnd l = IsPeriodLine l ⊎ IsEndLine l
