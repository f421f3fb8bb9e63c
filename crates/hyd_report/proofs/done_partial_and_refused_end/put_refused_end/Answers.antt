-- The pieces are the line.
use Rattle.std.proofs.Common.{◌≡◌, ◌∙◌, ℕ, List, [], ◌∷◌, codes, append_assoc, refl}
use Rattle.hyd_spec.specs.Lists.{joined}
use Rattle.hyd_spec_certificates.specs.CertificateText.{line}
use Rattle.hyd_io.proofs.PutLemmas.{puts_same}
use Rattle.hyd_report.proofs.done_partial_and_refused_end.put_refused_end.Goals as goal

end_text : (number : List ℕ) → joined (codes "BADCERT line " ∷ (number ∷ (codes " END" ∷ (codes "\n" ∷ []))))
    ≡ line (codes "BADCERT" ∷ (codes "line" ∷ (number ∷ (codes "END" ∷ []))))
end_text number = simp append_assoc refl

pieces_text : (first number given : List ℕ) → first ≡ codes "BADCERT line " → given ≡ number
    → joined (first ∷ (given ∷ (codes " END" ∷ (codes "\n" ∷ [])))) ≡ line (codes "BADCERT" ∷ (codes "line" ∷
    (number ∷ (codes "END" ∷ []))))
pieces_text first number given is_first is_number = rw (is_first, is_number) (end_text number)

pub returns : goal.returns
returns g c = puts_same _ _ _ _ _ _ _ (pieces_text _ _ _ c.as_slice.ensures (c.bytes.ensures
    ∙ c.number-line.ensures.text)) c.put_pieces.ensures
