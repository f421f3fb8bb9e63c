-- Lines of words: a text begins with one line at most, and a line has its words in one way.
use Rattle.std.proofs.Common.{◌≡◌, ℕ, ◌<◌, ◌≤◌, List, [], ◌∷◌, ◌++◌, refl, sym, ap, ap₂, ◌∙◌, append_assoc, arith}
use Rattle.std.specs.List.{AllByRecursion}
use Rattle.hyd_spec_certificates.specs.CertificateText.{line}

-- a word: each byte is above the space
abbrev pub IsWord : List ℕ → Type 0
IsWord word = AllByRecursion (λ byte. 32 < byte) word

-- ---- the first word

-- a word ends at the first byte that is at most the space
pub word-same : (a b r s : List ℕ) (c d : ℕ) → c ≤ 32 → d ≤ 32 → IsWord a → IsWord b → a ++ (c ∷ r) ≡ b ++ (d ∷ s)
    → (a ≡ b) × ((c ≡ d) × (r ≡ s))
word-same [] [] r s c d low_c low_d is_a is_b e = (refl, (cc, cc))
word-same [] (y ∷ b) r s c d low_c low_d is_a is_b e = let first : c ≡ y = cc in absurd (omega (arith, is_b.0))
word-same (x ∷ a) [] r s c d low_c low_d is_a is_b e = let first : x ≡ d = cc in absurd (omega (arith, is_a.0))
word-same (x ∷ a) (y ∷ b) r s c d low_c low_d is_a is_b e =
    let first : x ≡ y = cc in let after : a ++ (c ∷ r) ≡ b ++ (d ∷ s) = cc in
    let rest = word-same a b r s c d low_c low_d is_a.1 is_b.1 after in (ap₂ (λ z zs. z ∷ zs) first rest.0, rest.1)

-- ---- the first line

line-one : (word rest : List ℕ) → line (word ∷ []) ++ rest ≡ word ++ (10 ∷ rest)
line-one word rest = append_assoc word (10 ∷ []) rest

line-more : (word next : List ℕ) (parts : List (List ℕ)) (rest : List ℕ)
    → line (word ∷ (next ∷ parts)) ++ rest ≡ word ++ (32 ∷ (line (next ∷ parts) ++ rest))
line-more word next parts rest = simp append_assoc

abbrev pub AreWords : List (List ℕ) → Type 0
AreWords parts = AllByRecursion IsWord parts

-- two lines of words at the front of a text are the same, and so is what follows
pub line-same : (p q : List ℕ) (ps qs : List (List ℕ)) (r s : List ℕ) → AreWords (p ∷ ps) → AreWords (q ∷ qs)
    → line (p ∷ ps) ++ r ≡ line (q ∷ qs) ++ s → ((p ∷ ps) ≡ (q ∷ qs)) × (r ≡ s)
line-same p q [] [] r s is_p is_q e =
    let k = word-same p q r s 10 10 (omega arith) (omega arith) is_p.0 is_q.0
    (sym (line-one p r) ∙ (e ∙ line-one q s)) in
    (ap (λ w. w ∷ []) k.0, k.1.1)
line-same p q [] (y ∷ qs) r s is_p is_q e =
    let k = word-same p q r (line (y ∷ qs) ++ s) 10 32 (omega arith) (omega arith) is_p.0 is_q.0
    (sym (line-one p r) ∙ (e ∙ line-more q y qs s)) in
    let h = k.1.0 in absurd (omega arith)
line-same p q (x ∷ ps) [] r s is_p is_q e =
    let k = word-same p q (line (x ∷ ps) ++ r) s 32 10 (omega arith) (omega arith) is_p.0 is_q.0
    (sym (line-more p x ps r) ∙ (e ∙ line-one q s)) in
    let h = k.1.0 in absurd (omega arith)
line-same p q (x ∷ ps) (y ∷ qs) r s is_p is_q e =
    let k = word-same p q (line (x ∷ ps) ++ r) (line (y ∷ qs) ++ s) 32 32 (omega arith) (omega arith) is_p.0 is_q.0
    (sym (line-more p x ps r) ∙ (e ∙ line-more q y qs s)) in
    let rest = line-same x y ps qs r s is_p.1 is_q.1 k.1.1 in
    (ap₂ (λ w ws. w ∷ ws) k.0 rest.0, rest.1)
