-- The lines of a witness, without their line feeds.
use Rattle.std.specs.Prelude.{◌≡◌, ℕ, ℤ, List, [], ◌∷◌, codes}
use Rattle.std.specs.Fmt.{decimal, signed_decimal}
use Rattle.hyd_spec_certificates.specs.CertificateText.{words}
use Rattle.hyd_spec_witnesses.specs.WitnessText.{Counts, IsScale, IsValue}

-- The header line for a scale and so many of each.
abbrev pub header_words : ℕ → Counts → List ℕ
header_words scale counts =
    words (codes "HYDWIT" ∷ (decimal 1 ∷ (decimal scale ∷ (decimal counts.junctions ∷ (decimal counts.links
    ∷ (decimal counts.tanks ∷ []))))))

-- One with these counts.
pub record IsHeaderLine (counts : Counts) (line : List ℕ) : Type 0 where
  pub scale : ℕ
  pub is_scale : IsScale scale
  pub is : line ≡ header_words scale counts

-- A value behind a key.
pub record IsValueLine (key line : List ℕ) : Type 0 where
  pub value : ℤ
  pub fits : IsValue value
  pub is : line ≡ words (key ∷ (signed_decimal value ∷ []))

-- A level and a volume.
pub record IsStockLine (line : List ℕ) : Type 0 where
  pub level : ℤ
  pub volume : ℤ
  pub level_fits : IsValue level
  pub volume_fits : IsValue volume
  pub is : line ≡ words (codes "L" ∷ (signed_decimal level ∷ (signed_decimal volume ∷ [])))
