-- Counting what a spread leaves open, item by item, and the line of the counts, piece by piece.
use Rattle.std.proofs.Common.{◌≡◌, ℕ, zero, suc, ◌+◌, ◌<◌, ◌≤◌, Bool, true, false, List, [], ◌∷◌, length, take, Some}
use Rattle.std.proofs.Common.{◌++◌, append_assoc, codes, refl, ap, subst, ◌∙◌, arith}
use Rattle.std.specs.Prelude.{slice_get}
use Rattle.std.proofs.lemmas.List.{take_all}
use Rattle.hyd_spec.specs.Lists.{map_from}
use Rattle.hyd_spec_spread_reports.specs.TextsOfSpreadReports.{how_many}

one_or_none : Bool → ℕ
one_or_none true = 1
one_or_none false = 0

first_counts : (b : Bool) (bs : List Bool) → how_many (b ∷ bs) ≡ one_or_none b + how_many bs
unfolding one_or_none
first_counts true bs = omega arith
first_counts false bs = omega arith

module _ {X : Type 0} (f : ℕ → X → Bool) where
  -- one item more
  more_from : (b : Bool) (k : ℕ) (xs : List X) (i : ℕ) → i < length xs
      → ((x : X) → slice_get xs i ≡ Some x → f (k + i) x ≡ b)
      → how_many (map_from f k (take (suc i) xs)) ≡ how_many (map_from f k (take i xs)) + one_or_none b
  more_from b k [] i inside is = absurd (omega arith)
  more_from b k (y ∷ ys) zero inside is =
      let n : k + 0 ≡ k = omega arith in
      let here : f k y ≡ b = subst (λ m. f m y ≡ b) n (is y refl) in
      let first : how_many (f k y ∷ []) ≡ one_or_none (f k y) + 0 = first_counts (f k y) [] in
      let same : one_or_none (f k y) ≡ one_or_none b = ap one_or_none here in
      omega (arith, first, same)
  more_from b k (y ∷ ys) (suc i) inside is =
      let n : k + suc i ≡ suc k + i = omega arith in
      let more = more_from b (suc k) ys i (omega arith) (λ x at. subst (λ m. f m x ≡ b) n (is x at)) in
      let after = first_counts (f k y) (map_from f (suc k) (take (suc i) ys)) in
      let before = first_counts (f k y) (map_from f (suc k) (take i ys)) in
      omega (arith, more, after, before)

  more : (b : Bool) (xs : List X) (i : ℕ) → i < length xs → ((x : X) → slice_get xs i ≡ Some x → f i x ≡ b)
      → how_many (map_from f 0 (take (i + 1) xs)) ≡ how_many (map_from f 0 (take i xs)) + one_or_none b
  more b xs i inside is =
      let n : 0 + i ≡ i = omega arith in
      let m : suc i ≡ i + 1 = omega arith in
      subst (λ j. how_many (map_from f 0 (take j xs)) ≡ how_many (map_from f 0 (take i xs)) + one_or_none b) m
      (more_from b 0 xs i inside (λ x at. ap (λ j. f j x) n ∙ is x at))

  -- an item more that counts
  pub counted : (xs : List X) (i n : ℕ) → i < length xs → ((x : X) → slice_get xs i ≡ Some x → f i x ≡ true)
      → n ≡ how_many (map_from f 0 (take i xs)) → n + 1 ≡ how_many (map_from f 0 (take (i + 1) xs))
  unfolding one_or_none
  counted xs i n inside is so_far =
      let one = more true xs i inside is in
      omega (arith, one, so_far)

  -- or doesn't
  pub passed : (xs : List X) (i n : ℕ) → i < length xs → ((x : X) → slice_get xs i ≡ Some x → f i x ≡ false)
      → n ≡ how_many (map_from f 0 (take i xs)) → n ≡ how_many (map_from f 0 (take (i + 1) xs))
  unfolding one_or_none
  passed xs i n inside is so_far =
      let none = more false xs i inside is in
      omega (arith, none, so_far)

  -- all items
  pub counted-all : (xs : List X) (i n : ℕ) → length xs ≤ i → n ≡ how_many (map_from f 0 (take i xs))
      → n ≡ how_many (map_from f 0 xs)
  counted-all xs i n all so_far = so_far ∙ ap (λ ys. how_many (map_from f 0 ys)) (take_all i xs all)

-- ---- the line

pub line_pieces : (a b l s t0 t1 t2 t3 t4 : List ℕ) → t0 ≡ codes "SPREAD" ++ (32 ∷ (a ++ (32 ∷ (b ++ (32 ∷ [])))))
    → t1 ≡ t0 ++ l → t2 ≡ t1 ++ (32 ∷ []) → t3 ≡ t2 ++ s → t4 ≡ t3 ++ (10 ∷ [])
    → t4 ≡ (codes "SPREAD" ++ (32 ∷ (a ++ (32 ∷ (b ++ (32 ∷ (l ++ (32 ∷ s)))))))) ++ (10 ∷ [])
line_pieces a b l s t0 t1 t2 t3 t4 e0 e1 e2 e3 e4 =
    e4 ∙ ap (λ t. t ++ (10 ∷ [])) (e3 ∙ ap (λ t. t ++ s) (e2 ∙ ap (λ t. t ++ (32 ∷ [])) (e1
    ∙ ap (λ t. t ++ l) e0)) ∙ regroup)
  where
    regroup : (((codes "SPREAD" ++ (32 ∷ (a ++ (32 ∷ (b ++ (32 ∷ [])))))) ++ l) ++ (32 ∷ [])) ++ s
        ≡ codes "SPREAD" ++ (32 ∷ (a ++ (32 ∷ (b ++ (32 ∷ (l ++ (32 ∷ s)))))))
    regroup = simp append_assoc
