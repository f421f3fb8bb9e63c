-- A PERIOD line or the END line, as the program keeps it.
use Rattle.std.specs.Prelude.{◌≡◌, ℕ, ◌+◌, ◌<◌, ◌^◌, List, [], ◌∷◌, ◌⊎◌, codes}
use Rattle.std.specs.Fmt.{decimal}
use Rattle.hyd_spec_certificates.specs.CertificateText.{words, line}
use Rattle.hyd_spec_witnesses.specs.WitnessText.{witness_end}
use Rattle.hyd_cert.specs.Lines.{IsPeriodLine}
use Rattle.hyd_witness_texts.specs.declared.period_or_end_line.Next.{Next}
use Rattle.hyd_witness_texts.specs.declared.period_or_end_line.Next.TheVariants.{Period, End}

-- The END line of so many periods, without its line feed.
abbrev pub end_words : ℕ → List ℕ
end_words periods = words (codes "END" ∷ (decimal periods ∷ []))

-- The text of what comes behind so many periods.
abbrev pub next_text : ℕ → Next → List ℕ
next_text periods (Period p) =
    line (codes "PERIOD" ∷ (decimal p.number ∷ (decimal p.time ∷ (decimal p.length ∷ []))))
next_text periods End = witness_end periods

-- Its numbers are below 2^32, and the number of periods with it.
abbrev pub NextFits : ℕ → Next → Type 0
NextFits periods (Period p) =
    (p.number < 2 ^ 32) × (p.time < 2 ^ 32) × (p.length < 2 ^ 32) × (periods + 1 < 2 ^ 32)
NextFits periods End = Unit {0}

-- The line can stand behind so many periods.
abbrev pub IsPeriodOrEnd : ℕ → List ℕ → Type 0
IsPeriodOrEnd periods l = (IsPeriodLine l × (periods + 1 < 2 ^ 32)) ⊎ (l ≡ end_words periods)
