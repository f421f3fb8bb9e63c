-- The text of a summary, as it is put together.
use Rattle.std.proofs.Common.{◌≡◌, ◌∙◌, ℕ, List, [], ◌∷◌, ◌++◌, codes, refl, append_assoc}
use Rattle.std.specs.Prelude.{false}
use Rattle.std.specs.Fmt.{decimal}
use Rattle.hyd_spec_certificates.specs.RecordAndStanding.{Standing}
use Rattle.hyd_spec_certificates.specs.CertificateText.{line}
use Rattle.hyd_spec_summary.specs.Summary.{summary_line}

flat : (a j b l c p d e n : List ℕ) → ((a ++ j) ++ (b ++ l)) ++ (((c ++ p) ++ (d ++ e)) ++ n)
    ≡ a ++ (j ++ (b ++ (l ++ (c ++ (p ++ (d ++ (e ++ n)))))))
flat a j b l c p d e n = simp append_assoc refl

spelled : (j l p e : List ℕ)
    → codes "SUMMARY junctions " ++ (j ++ (codes " links " ++ (l ++ (codes " periods " ++ (p ++ (codes " events "
    ++ (e ++ codes "\n")))))))
    ≡ line (codes "SUMMARY" ∷ (codes "junctions" ∷ (j ∷ (codes "links" ∷ (l ∷ (codes "periods" ∷ (p ∷ (codes "events"
    ∷ (e ∷ [])))))))))
spelled j l p e = simp append_assoc refl

counted_words : (j l p e : List ℕ)
    → ((codes "SUMMARY junctions " ++ j) ++ (codes " links " ++ l))
    ++ (((codes " periods " ++ p) ++ (codes " events " ++ e)) ++ codes "\n")
    ≡ line (codes "SUMMARY" ∷ (codes "junctions" ∷ (j ∷ (codes "links" ∷ (l ∷ (codes "periods" ∷ (p ∷ (codes "events"
    ∷ (e ∷ [])))))))))
counted_words j l p e =
    flat (codes "SUMMARY junctions ") j (codes " links ") l (codes " periods ") p (codes " events ") e (codes "\n")
    ∙ spelled j l p e

pub summary_is : (junctions links periods events : ℕ)
    → ((codes "SUMMARY junctions " ++ decimal junctions) ++ (codes " links " ++ decimal links))
    ++ (((codes " periods " ++ decimal periods) ++ (codes " events " ++ decimal events)) ++ codes "\n")
    ≡ summary_line junctions links periods events
summary_is junctions links periods events =
    counted_words (decimal junctions) (decimal links) (decimal periods) (decimal events)

-- a standing at a time
abbrev pub at_time : ℕ → Standing
at_time time = record {
  number = 0;
  time = time;
  levels = [];
  volumes = [];
  tanks = [];
  commanded = [];
  finished = false;
}
