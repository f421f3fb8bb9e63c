-- Lines put in piece by piece are the lines that are meant.
use Rattle.std.proofs.Common.{◌≡◌, ℕ, List, [], ◌∷◌, ◌++◌, ap, sym, subst, ◌∙◌, codes, decimal, append_assoc}
use Rattle.hyd_spec.specs.ProgramTypes.{Project}
use Rattle.hyd_spec_certificates.specs.CertificateText.{line}
use Rattle.hyd_spec_witnesses.specs.declared.MetClause.{MetClause}
use Rattle.hyd_spec_witnesses.specs.declared.Unmet.{Unmet}
use Rattle.hyd_spec_witness_answers.specs.PromisesOfWitnesses.{bad_line, unmet_line, unmet_words}

-- pieces that begin with two others
pub begun : (P : List ℕ → Type 0) (front digits front_is digits_are rest : List ℕ) → front ≡ front_is
    → digits ≡ digits_are → P (front ++ (digits ++ rest)) → P (front_is ++ (digits_are ++ rest))
begun P front digits front_is digits_are rest f d put =
    subst (λ (ds : List ℕ). P (front_is ++ (ds ++ rest))) d
    (subst (λ (fs : List ℕ). P (fs ++ (digits ++ rest))) f put)

-- the line that one line can't be so
pub bad_line_put : (P : List ℕ → Type 0) (number : ℕ) (front digits : List ℕ) → front ≡ codes "BADWIT line "
    → digits ≡ decimal number → P (front ++ (digits ++ (10 ∷ []))) → P (bad_line number)
bad_line_put P number front digits f d put =
    begun P front digits (codes "BADWIT line ") (decimal number) (10 ∷ []) f d put

-- the line of a clause that names no place
pub clause_put : (P : List ℕ → Type 0) (period : ℕ) (front digits clause : List ℕ) → front ≡ codes "UNMET period "
    → digits ≡ decimal period → P (front ++ (digits ++ (32 ∷ (clause ++ (10 ∷ [])))))
    → P (line (codes "UNMET" ∷ (codes "period" ∷ (decimal period ∷ (clause ∷ [])))))
clause_put P period front digits clause f d put =
    subst P (ap (λ (rest : List ℕ). codes "UNMET period " ++ rest)
    (sym (append_assoc (decimal period) (32 ∷ clause) (10 ∷ []))))
    (begun P front digits (codes "UNMET period ") (decimal period) (32 ∷ (clause ++ (10 ∷ []))) f d put)

-- the line of a clause at a place
pub clause_at_put : (P : List ℕ → Type 0) (period : ℕ) (front digits clause id : List ℕ)
    → front ≡ codes "UNMET period " → digits ≡ decimal period
    → P (front ++ (digits ++ (32 ∷ (clause ++ (32 ∷ (id ++ (10 ∷ [])))))))
    → P (line (codes "UNMET" ∷ (codes "period" ∷ (decimal period ∷ (clause ∷ (id ∷ []))))))
clause_at_put P period front digits clause id f d put =
    subst P (ap (λ (rest : List ℕ). codes "UNMET period " ++ rest)
    (ap (λ (rest : List ℕ). decimal period ++ (32 ∷ rest)) (sym (append_assoc clause (32 ∷ id) (10 ∷ [])))
    ∙ sym (append_assoc (decimal period) (32 ∷ (clause ++ (32 ∷ id))) (10 ∷ []))))
    (begun P front digits (codes "UNMET period ") (decimal period) (32 ∷ (clause ++ (32 ∷ (id ++ (10 ∷ []))))) f d put)

-- the line of a period that isn't met, by its clause
pub unmet_put : (P : List ℕ → Type 0) (project : Project) (period : ℕ) (unmet : Unmet) (clause : MetClause)
    → unmet.clause ≡ clause
    → P (line (codes "UNMET" ∷ (codes "period" ∷ (decimal period ∷ unmet_words project clause unmet.number))))
    → P (unmet_line project period unmet)
unmet_put P project period unmet clause is put =
    subst (λ (k : MetClause). P (line (codes "UNMET" ∷ (codes "period" ∷ (decimal period
    ∷ unmet_words project k unmet.number))))) (sym is) put

-- a line whose last word is an ID
pub named_put : (P : List ℕ → Type 0) (period : ℕ) (word id id_is : List ℕ) → id ≡ id_is
    → P (line (codes "UNMET" ∷ (codes "period" ∷ (decimal period ∷ (word ∷ (id ∷ []))))))
    → P (line (codes "UNMET" ∷ (codes "period" ∷ (decimal period ∷ (word ∷ (id_is ∷ []))))))
named_put P period word id id_is same put =
    subst (λ (i : List ℕ). P (line (codes "UNMET" ∷ (codes "period" ∷ (decimal period ∷ (word ∷ (i ∷ [])))))))
    same put
