-- The pieces of a line that refuses a part of a certificate are that line.
use Rattle.std.proofs.Common.{◌≡◌, ℕ, List, [], ◌∷◌, codes, append_assoc, refl}
use Rattle.hyd_spec.specs.Lists.{joined}
use Rattle.hyd_spec_certificates.specs.CertificateText.{line}

name_text : (period link : List ℕ)
    → joined (codes "BADCERT period " ∷ (period ∷ (codes " FLOW " ∷ (link ∷ (codes " NAME" ∷ (codes "\n" ∷ []))))))
    ≡ line (codes "BADCERT" ∷ (codes "period" ∷ (period ∷ (codes "FLOW" ∷ (link ∷ (codes "NAME" ∷ []))))))
name_text period link = simp append_assoc refl

pub name_pieces : (first period number link given : List ℕ) → first ≡ codes "BADCERT period " → period ≡ number
    → link ≡ given
    → joined (first ∷ (period ∷ (codes " FLOW " ∷ (link ∷ (codes " NAME" ∷ (codes "\n" ∷ []))))))
    ≡ line (codes "BADCERT" ∷ (codes "period" ∷ (number ∷ (codes "FLOW" ∷ (given ∷ (codes "NAME" ∷ []))))))
name_pieces first period number link given is_first is_number is_link =
    rw (is_first, is_number, is_link) (name_text number given)

vector_text : (period link side junction : List ℕ)
    → joined (codes "BADCERT period " ∷ (period ∷ (codes " FLOW " ∷ (link ∷ (codes " " ∷ (side
    ∷ (codes " JUNCTION " ∷ (junction ∷ (codes "\n" ∷ [])))))))))
    ≡ line (codes "BADCERT" ∷ (codes "period" ∷ (period ∷ (codes "FLOW" ∷ (link ∷ (side
    ∷ (codes "JUNCTION" ∷ (junction ∷ []))))))))
vector_text period link side junction = simp append_assoc refl

pub vector_pieces : (first period number link given side word junction id : List ℕ) → first ≡ codes "BADCERT period "
    → period ≡ number → link ≡ given → side ≡ word → junction ≡ id
    → joined (first ∷ (period ∷ (codes " FLOW " ∷ (link ∷ (codes " " ∷ (side
    ∷ (codes " JUNCTION " ∷ (junction ∷ (codes "\n" ∷ [])))))))))
    ≡ line (codes "BADCERT" ∷ (codes "period" ∷ (number ∷ (codes "FLOW" ∷ (given ∷ (word
    ∷ (codes "JUNCTION" ∷ (id ∷ []))))))))
vector_pieces first period number link given side word junction id is_first is_number is_link is_side is_junction =
    rw (is_first, is_number, is_link, is_side, is_junction) (vector_text number given word id)
