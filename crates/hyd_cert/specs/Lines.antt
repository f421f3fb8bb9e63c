-- The lines of a certificate text, without their line feeds.
-- Source: this program's format.
use Rattle.std.specs.Prelude.{◌≡◌, ℕ, ◌<◌, ◌^◌, ◌⊎◌, ℤ, Bool, List, [], ◌∷◌, ◌++◌, length, codes, if◌then◌else◌}
use Rattle.std.specs.Fmt.{decimal, signed_decimal}
use Rattle.hyd_spec_certificates.specs.Certificate.{IsInBox}
use Rattle.hyd_spec_certificates.specs.CertificateText.{words, header_line}

-- What a header line says: the version, and the counts of junctions and tanks.
pub record Header : Type 0 where
  pub version : ℕ
  pub junctions : ℕ
  pub tanks : ℕ

-- Its line without the line feed.
abbrev pub header_words : Header → List ℕ
header_words header =
    words (codes "HYDCERT" ∷ (decimal header.version ∷ (decimal header.junctions ∷ (decimal header.tanks ∷ []))))

-- And with it.
abbrev pub header_text : Header → List ℕ
header_text header = header_line header.version header.junctions header.tanks

-- `HYDCERT v n k`, of a version that is known, and of counts of any size that the line has room for.
pub record IsHeaderLine (header : Header) (line : List ℕ) : Type 0 where
  pub known : (header.version ≡ 1) ⊎ (header.version ≡ 2)
  pub junctions_fit : header.junctions < 10 ^ 64
  pub tanks_fit : header.tanks < 10 ^ 64
  pub short : length line < 64
  pub is : line ≡ header_words header

-- `PERIOD p t s`
pub record IsPeriodLine (line : List ℕ) : Type 0 where
  pub number : ℕ
  pub time : ℕ
  pub length : ℕ
  pub number_fits : number < 2 ^ 32
  pub time_fits : time < 2 ^ 32
  pub length_fits : length < 2 ^ 32
  pub is : line ≡ words (codes "PERIOD" ∷ (decimal number ∷ (decimal time ∷ (decimal length ∷ []))))

-- A head behind its key and a space.
pub record IsHeadLine (front line : List ℕ) : Type 0 where
  pub head : ℤ
  pub in_box : IsInBox head
  pub is : line ≡ front ++ signed_decimal head

-- The last word of an END line.
abbrev pub end_word : Bool → List ℕ
end_word finished = if finished then codes "FINISHED" else codes "STOPPED"

-- `END p FINISHED` or `END p STOPPED`
pub record IsEndLine (line : List ℕ) : Type 0 where
  pub periods : ℕ
  pub finished : Bool
  pub periods_fit : periods < 2 ^ 32
  pub is : line ≡ words (codes "END" ∷ (decimal periods ∷ (end_word finished ∷ [])))
