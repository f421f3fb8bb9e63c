-- The lines of a certificate text of version 4 that other certificates don't have, without their line feeds.
-- Source: this program's format.
use Rattle.std.specs.Prelude.{◌≡◌, ℕ, ◌<◌, ◌^◌, List, [], ◌∷◌, length, codes}
use Rattle.std.specs.Fmt.{decimal}
use Rattle.hyd_spec_certificates.specs.CertificateText.{words}
use Rattle.hyd_spec_open_ends.specs.OpenCertificateText.{open_version}
use Rattle.hyd_cert.specs.Lines.{Header, header_words}

-- The header of the texts of version 4 with these counts of junctions and tanks.
abbrev pub open_header : ℕ → ℕ → Header
open_header junctions tanks = record { version = open_version; junctions = junctions; tanks = tanks }

-- `HYDCERT 4 n k`, of counts of any size that the line has room for.
pub record IsOpenHeaderLine (header : Header) (line : List ℕ) : Type 0 where
  pub known : header.version ≡ open_version
  pub junctions_fit : header.junctions < 10 ^ 64
  pub tanks_fit : header.tanks < 10 ^ 64
  pub short : length line < 64
  pub is : line ≡ header_words header

-- The words of `PERIOD p t l s r`: the number, the first second in which the period begins and how many later ones it
-- may, and its shortest and its longest length.
abbrev pub open_period_words : ℕ → ℕ → ℕ → ℕ → ℕ → List ℕ
open_period_words number time late shortest longest =
    words (codes "PERIOD" ∷ (decimal number ∷ (decimal time ∷ (decimal late ∷ (decimal shortest ∷ (decimal longest
    ∷ []))))))

-- Five numbers below 2^32.
pub record AreFiveSmall (number time late shortest longest : ℕ) : Type 0 where
  pub number_fits : number < 2 ^ 32
  pub time_fits : time < 2 ^ 32
  pub late_fits : late < 2 ^ 32
  pub shortest_fits : shortest < 2 ^ 32
  pub longest_fits : longest < 2 ^ 32

-- `PERIOD p t l s r`
pub record IsOpenPeriodLine (line : List ℕ) : Type 0 where
  pub number : ℕ
  pub time : ℕ
  pub late : ℕ
  pub shortest : ℕ
  pub longest : ℕ
  pub fit : AreFiveSmall number time late shortest longest
  pub is : line ≡ open_period_words number time late shortest longest
