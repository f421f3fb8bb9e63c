-- Pieces of text one after another, one for each item.
use Rattle.std.proofs.Common.{◌≡◌, ℕ, zero, suc, ◌+◌, ◌<◌, List, [], ◌∷◌, ◌++◌, length, take, drop, refl, sym, ap}
use Rattle.std.proofs.Common.{◌∙◌, arith, append_assoc, append-nil, Option}
use Rattle.std.specs.Prelude.{Ok, Err, slice_index_or}
use Rattle.hyd_io.specs.declared.desk.Faults.{Faults}
use Rattle.hyd_io.specs.declared.desk.Openings.{Openings}
use Rattle.hyd_io.specs.declared.output.OutFault.{OutFault}
use Rattle.hyd_io.specs.DeskBytes.{Files}
use Rattle.hyd_io.specs.Output.{PenState}
use Rattle.hyd_io.specs.TextPutIn.{Puts}
use Rattle.hyd_io.proofs.PutLemmas.{puts_then, puts_cut_off, puts_same}
use Rattle.hyd_spec.specs.Lists.{joined, map_from}
use Rattle.std.specs.Prelude.{Bool}

module _ {X : Type 0} (f : ℕ → X → List ℕ) where
  -- one piece more
  more-from : (from : ℕ) (xs : List X) (i : ℕ) (d : X) → i < length xs
      → joined (map_from f from (take i xs)) ++ f (from + i) (slice_index_or xs i d)
      ≡ joined (map_from f from (take (suc i) xs))
  more-from from [] i d lt = absurd (omega (arith, lt))
  more-from from (x ∷ xs) zero d lt =
      let n : from + 0 ≡ from = omega arith in ap (λ (m : ℕ). f m x) n ∙ sym (append-nil (f from x))
  more-from from (x ∷ xs) (suc i) d lt =
      let n : from + suc i ≡ suc from + i = omega arith in
      let rest = more-from (suc from) xs i d (omega (arith, lt)) in
      append_assoc (f from x) (joined (map_from f (suc from) (take i xs))) (f (from + suc i) (slice_index_or xs i d))
      ∙ ap (λ ys. f from x ++ ys)
      (ap (λ (m : ℕ). joined (map_from f (suc from) (take i xs)) ++ f m (slice_index_or xs i d)) n ∙ rest)

  pub pieces-more : (xs : List X) (i : ℕ) (d : X) → i < length xs
      → joined (map_from f 0 (take i xs)) ++ f (0 + i) (slice_index_or xs i d)
      ≡ joined (map_from f 0 (take (i + 1) xs))
  pieces-more xs i d lt =
      let n : suc i ≡ i + 1 = omega arith in
      more-from 0 xs i d lt ∙ ap (λ (m : ℕ). joined (map_from f 0 (take m xs))) n

  -- the pieces up to a place, and the others
  pub pieces-split : (from : ℕ) (xs : List X) (i : ℕ)
      → joined (map_from f from (take i xs)) ++ joined (map_from f (from + i) (drop i xs))
      ≡ joined (map_from f from xs)
  pieces-split from [] zero = refl
  pieces-split from [] (suc i) = refl
  pieces-split from (x ∷ xs) zero =
      let n : from + 0 ≡ from = omega arith in ap (λ (m : ℕ). joined (map_from f m (x ∷ xs))) n
  pieces-split from (x ∷ xs) (suc i) =
      let n : from + suc i ≡ suc from + i = omega arith in
      append_assoc (f from x) (joined (map_from f (suc from) (take i xs)))
      (joined (map_from f (from + suc i) (drop i xs)))
      ∙ ap (λ ys. f from x ++ ys)
      (ap (λ (m : ℕ). joined (map_from f (suc from) (take i xs)) ++ joined (map_from f m (drop i xs))) n
      ∙ pieces-split (suc from) xs i)

module _ {S : Type 0} {files : S → Option Files} {rest written printed target : S → Option (List ℕ)} {ready : S → Bool}
    {counts : S → Faults} {openings : S → Openings} {X : Type 0} (f : ℕ → X → List ℕ) (xs : List X) (i : ℕ) (d : X)
    (p q r : PenState) (a b e : S) (inside : i < length xs)
    (so_far : Puts files rest written printed target ready counts openings (joined (map_from f 0 (take i xs)))
    (Ok (tt {0})) p q a b) where
  here-is : f (0 + i) (slice_index_or xs i d) ≡ f i (slice_index_or xs i d)
  here-is = let n : 0 + i ≡ i = omega arith in ap (λ (m : ℕ). f m (slice_index_or xs i d)) n

  pub piece-put : Puts files rest written printed target ready counts openings (f i (slice_index_or xs i d))
      (Ok (tt {0})) q r b e
      → Puts files rest written printed target ready counts openings (joined (map_from f 0 (take (i + 1) xs)))
      (Ok (tt {0})) p r a e
  piece-put step = puts_same _ _ _ _ _ _ _
      (ap (λ ys. joined (map_from f 0 (take i xs)) ++ ys) (sym here-is) ∙ pieces-more f xs i d inside)
      (puts_then _ _ _ _ _ _ _ _ _ so_far step)

  pub piece-cut-off : (why : OutFault)
      → Puts files rest written printed target ready counts openings (f i (slice_index_or xs i d)) (Err why) q r b e
      → Puts files rest written printed target ready counts openings (joined (map_from f 0 xs)) (Err why) p r a e
  piece-cut-off why step = puts_same _ _ _ _ _ _ _
      (ap (λ ys. ys ++ joined (map_from f (0 + (i + 1)) (drop (i + 1) xs)))
      (ap (λ ys. joined (map_from f 0 (take i xs)) ++ ys) (sym here-is) ∙ pieces-more f xs i d inside)
      ∙ pieces-split f 0 xs (i + 1))
      (puts_cut_off _ (joined (map_from f (0 + (i + 1)) (drop (i + 1) xs))) why _ _ _ _
      (puts_then _ _ _ _ _ _ _ _ _ so_far step))
