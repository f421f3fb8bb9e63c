-- The text of heads and of a record, piece by piece.
use Rattle.std.proofs.Common.{◌≡◌, ℕ, ◌+◌, ◌<◌, ℤ, pos, List, [], ◌∷◌, ◌++◌, length, take, drop, get_or, sym, ap, ◌∙◌}
use Rattle.std.proofs.Common.{arith}
use Rattle.std.specs.Fmt.{signed_decimal}
use Rattle.std.proofs.lemmas.List.{take_more, length-take-le, take-append-drop}
use Rattle.hyd_spec_certificates.specs.CertificateText.{period_line, record_text}
use Rattle.hyd_cert.specs.PlacesOfLines.{front_at, head_text}
use Rattle.hyd_cert.specs.VectorsOfRecord.{AreVectors}
use Rattle.hyd_cert.proofs.HeadLemmas.{head_text-push}
use Rattle.hyd_cert.proofs.VectorLemmas.{head_text-append, row_with, row_text}

-- one head more
pub head_more : (n i : ℕ) (us : List ℤ) (piece : List ℕ) → i < length us
    → piece ≡ front_at n i ++ (signed_decimal (get_or us i (pos 0)) ++ (10 ∷ []))
    → head_text n 0 (take i us) ++ piece ≡ head_text n 0 (take (i + 1) us)
head_more n i us piece within is =
    let few = length-take-le i us (omega arith) in
    ap (λ p. head_text n 0 (take i us) ++ p) is
    ∙ (sym (head_text-push n 0 (take i us) (get_or us i (pos 0)) i (omega (arith, few)))
    ∙ ap (head_text n 0) (sym (take_more us i (pos 0) within)))

-- the heads up to one, and the others
pub head_split : (n i : ℕ) (us : List ℤ) (piece : List ℕ) → i < length us
    → piece ≡ front_at n i ++ (signed_decimal (get_or us i (pos 0)) ++ (10 ∷ []))
    → (head_text n 0 (take i us) ++ piece) ++ head_text n (i + 1) (drop (i + 1) us) ≡ head_text n 0 us
head_split n i us piece within is =
    let few = length-take-le (i + 1) us (omega (arith, within)) in
    ap (λ t. t ++ head_text n (i + 1) (drop (i + 1) us)) (head_more n i us piece within is)
    ∙ (sym (head_text-append n 0 (take (i + 1) us) (drop (i + 1) us) (i + 1) (omega (arith, few)))
    ∙ ap (head_text n 0) (take-append-drop (i + 1) us))

-- a record is its PERIOD line and its heads
pub record_parts : (n tanks number time seconds : ℕ) (us heads : List ℤ) → AreVectors n tanks us → heads ≡ us
    → period_line (row_with n tanks number time seconds us) ++ head_text n 0 heads
    ≡ record_text (row_with n tanks number time seconds us)
record_parts n tanks number time seconds us heads whole is =
    ap (λ hs. period_line (row_with n tanks number time seconds us) ++ head_text n 0 hs) is
    ∙ sym (row_text n tanks number time seconds us whole)
