-- A PERIOD line of version 4 or an END line, as the program keeps it.
use Rattle.std.specs.Prelude.{ℕ, ◌<◌, ◌^◌, List, [], ◌∷◌, ◌++◌, ◌⊎◌}
use Rattle.hyd_spec_certificates.specs.CertificateText.{end_line}
use Rattle.hyd_cert.specs.Lines.{IsEndLine}
use Rattle.hyd_open_certificates.specs.OpenLines.{open_period_words, AreFiveSmall, IsOpenPeriodLine}
use Rattle.hyd_open_certificates.specs.declared.lines.Next.{Next}
use Rattle.hyd_open_certificates.specs.declared.lines.Next.TheVariants.{Period, End}
use Rattle.hyd_open_certificates.specs.declared.lines.OpenPeriod.{OpenPeriod}

-- The words of a PERIOD line.
abbrev pub words_of : OpenPeriod → List ℕ
words_of p = open_period_words p.number p.time p.late p.shortest p.longest

-- Its numbers are below 2^32.
abbrev pub FitsLine : OpenPeriod → Type 0
FitsLine p = AreFiveSmall p.number p.time p.late p.shortest p.longest

-- The text of one of the two lines.
abbrev pub next_text : Next → List ℕ
next_text (Period p) = words_of p ++ (10 ∷ [])
next_text (End e) = end_line e.periods e.finished

-- Its numbers are below 2^32.
abbrev pub NextFits : Next → Type 0
NextFits (Period p) = FitsLine p
NextFits (End e) = e.periods < 2 ^ 32

-- The line is one of the two.
abbrev pub IsOpenPeriodOrEnd : List ℕ → Type 0
IsOpenPeriodOrEnd l = IsOpenPeriodLine l ⊎ IsEndLine l
