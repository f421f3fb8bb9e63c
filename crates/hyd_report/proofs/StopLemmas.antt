-- The texts of stops and of refusals, as they are put together.
use Rattle.std.proofs.Common.{◌≡◌, ℕ, ◌<◌, length, arith, List, [], ◌∷◌, ◌++◌, codes, refl, ap, ◌∙◌, append_assoc}
use Rattle.std.specs.Fmt.{decimal}
use Rattle.hyd_spec.specs.ProgramTypes.{Project}
use Rattle.hyd_spec.specs.Lists.{joined}
use Rattle.hyd_spec_certificates.specs.CertificateText.{words, line}
use Rattle.hyd_spec_reports.specs.ReportLine.{clock_text, cause_words, stop_line, refusal_words, refused_line}
use Rattle.hyd_spec_certificates.specs.RefusedRecords.{refused_period}
use Rattle.hyd_spec_certificates.specs.Stops.{period_of}
use Rattle.hyd_spec_certificates.specs.declared.StopCause.{StopCause}
use Rattle.hyd_spec_certificates.specs.declared.StopCause.TheVariants.{Demand as DemandOutOfRange, NoCertificate}
use Rattle.hyd_spec_certificates.specs.declared.StopCause.TheVariants.{RoundsSpent, RuleOpen, EventOpen, TankOpen}
use Rattle.hyd_spec_certificates.specs.declared.StopCause.TheVariants.{ControlOpen}
use Rattle.hyd_spec_certificates.specs.declared.CertRefused.{CertRefused}
use Rattle.hyd_spec_certificates.specs.declared.CertRefused.TheVariants.{Place, Demand, Fails, Open as MatterOpen}
use Rattle.hyd_spec_certificates.specs.declared.CertRefused.TheVariants.{Length}
use Rattle.hyd_spec_certificates.specs.declared.CertRefused.TheVariants.{After}

-- three pieces, the second one in other words
pub three_pieces : (a b c front id : List ℕ) → a ≡ front → b ≡ id → joined (a ∷ (b ∷ (c ∷ []))) ≡ front ++ (id ++
    (c ++ []))
three_pieces a b c front id is_front is_id =
    ap (λ x. x ++ (b ++ (c ++ []))) is_front ∙ ap (λ y. front ++ (y ++ (c ++ []))) is_id

pub rule_text : (a b id rest : List ℕ) → a ≡ codes "RULE " → b ≡ id
    → joined (a ∷ (b ∷ (codes " CLAUSE " ∷ []))) ++ rest ≡ codes "RULE " ++ (id ++ (codes " CLAUSE " ++ rest))
rule_text a b id rest is_a is_b =
    ap (λ t. t ++ rest) (three_pieces a b (codes " CLAUSE ") (codes "RULE ") id is_a is_b)
    ∙ ap (λ t. codes "RULE " ++ t) (append_assoc id (codes " CLAUSE ") rest)

front_of_stop : (p t : List ℕ) (ws : List (List ℕ)) → 0 < length ws
    → joined (codes "STOP period " ∷ (p ∷ (codes " time " ∷ (t ∷ (codes " " ∷ []))))) ++ (words ws ++ codes "\n")
    ≡ line (codes "STOP" ∷ (codes "period" ∷ (p ∷ (codes "time" ∷ (t ∷ ws)))))
front_of_stop p t [] some = absurd (omega arith)
front_of_stop p t (w ∷ ws) some = simp append_assoc refl

has_words : (project : Project) (cause : StopCause) → 0 < length (cause_words project cause)
has_words project (NoCertificate period problem side junction) = omega arith
has_words project (TankOpen period tank lo hi) = omega arith
has_words project (RuleOpen period rule clause lo hi) = omega arith
has_words project (ControlOpen period control lo hi) = omega arith
has_words project (EventOpen period earliest latest) = omega arith
has_words project (RoundsSpent period problem side rounds) = omega arith
has_words project (DemandOutOfRange period junction demand) = omega arith

pub stop_text : (project : Project) (time : ℕ) (cause : StopCause) (a p t : List ℕ) → a ≡ codes "STOP period "
    → p ≡ decimal (period_of cause) → t ≡ clock_text time
    → joined (a ∷ (p ∷ (codes " time " ∷ (t ∷ (codes " " ∷ []))))) ++ (words (cause_words project cause) ++ codes "\n")
    ≡ stop_line project time cause
stop_text project time cause a p t is_a is_p is_t =
    let rest = words (cause_words project cause) ++ codes "\n" in
    ap (λ x. joined (x ∷ (p ∷ (codes " time " ∷ (t ∷ (codes " " ∷ []))))) ++ rest) is_a
    ∙ (ap (λ x. joined (codes "STOP period " ∷ (x ∷ (codes " time " ∷ (t ∷ (codes " " ∷ []))))) ++ rest) is_p
    ∙ (ap (λ x. joined (codes "STOP period " ∷ (decimal (period_of cause) ∷ (codes " time " ∷ (x ∷
    (codes " " ∷ []))))) ++ rest) is_t
    ∙ front_of_stop (decimal (period_of cause)) (clock_text time) (cause_words project cause)
    (has_words project cause)))

front_of_refusal : (p : List ℕ) (ws : List (List ℕ)) → 0 < length ws
    → (codes "BADCERT period " ++ (p ++ (codes " " ++ []))) ++ (words ws ++ codes "\n")
    ≡ line (codes "BADCERT" ∷ (codes "period" ∷ (p ∷ ws)))
front_of_refusal p [] some = absurd (omega arith)
front_of_refusal p (w ∷ ws) some = simp append_assoc refl

has_reason : (project : Project) (cause : CertRefused) → 0 < length (refusal_words project cause)
has_reason project (Place period) = omega arith
has_reason project (Demand period) = omega arith
has_reason project (Fails period problem side junction) = omega arith
has_reason project (MatterOpen period) = omega arith
has_reason project (Length period) = omega arith
has_reason project (After period) = omega arith

pub refused_text : (project : Project) (cause : CertRefused) (a p : List ℕ) → a ≡ codes "BADCERT period " → p
    ≡ decimal (refused_period cause)
    → joined (a ∷ (p ∷ (codes " " ∷ []))) ++ (words (refusal_words project cause) ++ codes "\n")
    ≡ refused_line project cause
refused_text project cause a p is_a is_p =
    ap (λ t. t ++ (words (refusal_words project cause) ++ codes "\n")) (three_pieces a p (codes " ")
    (codes "BADCERT period ") (decimal (refused_period cause)) is_a is_p)
    ∙ front_of_refusal (decimal (refused_period cause)) (refusal_words project cause) (has_reason project cause)
