-- A PERIOD line of version 4, piece by piece.
use Rattle.std.proofs.Common.{◌≡◌, ℕ, List, [], ◌∷◌, ◌++◌, append_assoc, ap, ◌∙◌, codes}

pub period_pieces : (a b l s r t0 t1 t2 t3 t4 t5 t6 : List ℕ)
    → t0 ≡ codes "PERIOD" ++ (32 ∷ (a ++ (32 ∷ (b ++ (32 ∷ []))))) → t1 ≡ t0 ++ l → t2 ≡ t1 ++ (32 ∷ [])
    → t3 ≡ t2 ++ s → t4 ≡ t3 ++ (32 ∷ []) → t5 ≡ t4 ++ r → t6 ≡ t5 ++ (10 ∷ [])
    → t6 ≡ (codes "PERIOD" ++ (32 ∷ (a ++ (32 ∷ (b ++ (32 ∷ (l ++ (32 ∷ (s ++ (32 ∷ r)))))))))) ++ (10 ∷ [])
period_pieces a b l s r t0 t1 t2 t3 t4 t5 t6 e0 e1 e2 e3 e4 e5 e6 =
    e6 ∙ ap (λ t. t ++ (10 ∷ [])) (e5 ∙ ap (λ t. t ++ r) (e4 ∙ ap (λ t. t ++ (32 ∷ [])) (e3
    ∙ ap (λ t. t ++ s) (e2 ∙ ap (λ t. t ++ (32 ∷ [])) (e1 ∙ ap (λ t. t ++ l) e0)))) ∙ regroup)
  where
    regroup : (((((codes "PERIOD" ++ (32 ∷ (a ++ (32 ∷ (b ++ (32 ∷ [])))))) ++ l) ++ (32 ∷ [])) ++ s) ++ (32 ∷ [])) ++ r
        ≡ codes "PERIOD" ++ (32 ∷ (a ++ (32 ∷ (b ++ (32 ∷ (l ++ (32 ∷ (s ++ (32 ∷ r)))))))))
    regroup = simp append_assoc
