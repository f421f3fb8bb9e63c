-- The pieces are the line.
use Rattle.std.proofs.Common.{◌≡◌, ◌∙◌, ℕ, List, [], ◌∷◌, ◌++◌, codes, append_assoc, refl, ap}
use Rattle.std.specs.Fmt.{decimal}
use Rattle.hyd_spec.specs.Lists.{joined}
use Rattle.hyd_spec_certificates.specs.CertificateText.{line}
use Rattle.hyd_io.proofs.PutLemmas.{puts_same}
use Rattle.hyd_report.proofs.refused_text.put_fault.Goals as goal

line_text : (words n c d : List ℕ) → joined (words ∷ (n ∷ (codes " cause " ∷ (c ∷ (codes " detail " ∷ (d
    ∷ (codes "\n" ∷ [])))))))
    ≡ words ++ line (n ∷ (codes "cause" ∷ (c ∷ (codes "detail" ∷ (d ∷ [])))))
line_text words n c d = simp append_assoc refl

pieces_text : (words n n' c c' d d' : List ℕ) → n ≡ n' → c ≡ c' → d ≡ d'
    → joined (words ∷ (n ∷ (codes " cause " ∷ (c ∷ (codes " detail " ∷ (d ∷ (codes "\n" ∷ [])))))))
    ≡ words ++ line (n' ∷ (codes "cause" ∷ (c' ∷ (codes "detail" ∷ (d' ∷ [])))))
pieces_text words n n' c c' d d' en ec ed = rw (en, ec, ed) (line_text words n' c' d')

pub returns : goal.returns
returns g c = puts_same _ _ _ _ _ _ _ (pieces_text _ _ _ _ _ _ _
    (c.bytes.ensures ∙ (c.number-line.ensures.text ∙ ap decimal c.from.ensures))
    (c.bytes-2.ensures ∙ (c.small_number-kind.ensures.text ∙ ap decimal c.cause_number.ensures))
    (c.bytes-3.ensures ∙ (c.small_number-detail.ensures.text ∙ ap decimal c.detail_of.ensures)))
    c.put_pieces.ensures
