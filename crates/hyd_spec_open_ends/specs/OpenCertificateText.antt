-- The text of a certificate whose periods may end between two seconds, version 4. Each line ends by a line feed.
-- Source: this program's format.
use Rattle.std.specs.Prelude.{◌≡◌, ℕ, ◌<◌, ◌≤◌, ◌^◌, Bool, List, [], ◌∷◌, ◌++◌, length, map, All, codes}
use Rattle.std.specs.Fmt.{decimal}
use Rattle.hyd_spec.specs.Lists.{joined}
use Rattle.hyd_spec_certificates.specs.CertificateText.{line, header_line, vectors_text, end_line, IsRow}
use Rattle.hyd_spec_open_ends.specs.OpenStandings.{OpenRecord}

-- The version of such certificates, whatever the network.
abbrev pub open_version : ℕ
open_version = 4

-- `PERIOD p t l s r`: the number, the first second in which the period begins and how many later ones it may, and its
-- shortest and its longest length.
abbrev pub open_period_line : OpenRecord → List ℕ
open_period_line found =
    line (codes "PERIOD" ∷ (decimal found.row.number ∷ (decimal found.row.time ∷ (decimal found.late
    ∷ (decimal found.shortest ∷ (decimal found.row.length ∷ []))))))

-- A record: its period, then its vectors as in other certificates.
abbrev pub open_record_text : OpenRecord → List ℕ
open_record_text found =
    open_period_line found ++ (vectors_text (codes "MU") (codes "ML") found.row.main
    ++ joined (map (vectors_text (codes "PU") (codes "PL")) found.row.pinned))

-- A record that such a certificate can hold: its numbers are below 2^32, its heads in the box.
pub record IsOpenRow (junctions tanks : ℕ) (found : OpenRecord) : Type 0 where
  pub row : IsRow junctions tanks found.row
  pub late_fits : found.late < 2 ^ 32
  pub shortest_fits : found.shortest < 2 ^ 32

-- A header for so many junctions and tanks, the records, and the end line.
abbrev pub open_certificate_text : ℕ → ℕ → List OpenRecord → ℕ → Bool → List ℕ
open_certificate_text junctions tanks rows periods finished =
    header_line open_version junctions tanks ++ (joined (map open_record_text rows) ++ end_line periods finished)

-- The text is that of version 4, of these counts and records, and of an end line with this number and word.
pub record IsOpenCertificateText (text : List ℕ) (junctions tanks : ℕ) (rows : List OpenRecord) (periods : ℕ)
    (finished : Bool) : Type 0 where
  pub junctions_fit : junctions < 10 ^ 64
  pub tanks_fit : tanks < 10 ^ 64
  pub header_fits : length (header_line open_version junctions tanks) ≤ 64
  pub rows_fit : All (IsOpenRow junctions tanks) rows
  pub periods_fit : periods < 2 ^ 32
  pub is_text : text ≡ open_certificate_text junctions tanks rows periods finished
