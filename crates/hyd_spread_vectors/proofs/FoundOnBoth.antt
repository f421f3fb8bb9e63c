-- What was found on both networks, one after the other.
use Rattle.std.proofs.Common.{◌≡◌, ℕ, ℤ, Bool, List, sym, subst}
use Rattle.std.specs.Prelude.{Option, slice_index_or}
use Rattle.hyd_spec_certificates.specs.declared.Problem.{Problem}
use Rattle.hyd_spec_certificates.specs.declared.Problem.TheVariants.{Main, Pinned}
use Rattle.hyd_spec_certificates.specs.declared.Side.{Side}
use Rattle.hyd_spec_certificates.specs.declared.Side.TheVariants.{Upper, Lower}
use Rattle.hyd_spec_certificates.specs.PeriodNetwork.{Grid}
use Rattle.hyd_spec_certificates.specs.RecordAndStanding.{Record, Vectors, vector_of, vector_on, no_vectors}
use Rattle.hyd_cert.specs.RecordView.{IsProblemOf}
use Rattle.hyd_period_end.specs.OpenMatters.{SharesVectors}
use Rattle.hyd_spec_spread_runs.specs.OutermostPairs.{Pair, grid_on}
use Rattle.hyd_period_vectors.specs.SoughtVectors.{IsSought, Comes, OfEach}
use Rattle.hyd_spread_vectors.specs.VectorsOfBothNetworks.{Told, told_on, Held, held_on, AreFoundOn}
use Rattle.hyd_spread_vectors.specs.VectorsOfBothNetworks.{IsHeldIn, IsSoughtOver, ComesOver}
use Rattle.hyd_spread_vectors.proofs.VectorsOfSides.{over-both, on-both}

module _ (tight : Bool) (told : Told) (pair : Pair) (tanks rounds : ℕ) where
  -- what a search on one network found
  pub found-on : (network : Side) (one here : ℕ) (held : Record) → one ≡ tanks → here ≡ rounds
      → OfEach (IsSought tight (told_on network told) (grid_on network pair) one) one held
      → OfEach (Comes tight (told_on network told) (grid_on network pair) one here) one held
      → AreFoundOn tight told pair tanks rounds network held
  found-on network one here held e f found come = record {
    found = subst (λ (n : ℕ). OfEach (IsSought tight (told_on network told) (grid_on network pair) n) n held) e found;
    come = subst (λ (r : ℕ). OfEach (Comes tight (told_on network told) (grid_on network pair) tanks r) tanks held) f
        (subst (λ (n : ℕ). OfEach (Comes tight (told_on network told) (grid_on network pair) n here) n held) e come);
  }

  -- on both
  pub found-both : (held : Held) → AreFoundOn tight told pair tanks rounds Upper held.above
      → AreFoundOn tight told pair tanks rounds Lower held.below
      → (network : Side) → AreFoundOn tight told pair tanks rounds network (held_on network held)
  found-both held above below =
      on-both (λ (network : Side). AreFoundOn tight told pair tanks rounds network (held_on network held)) above below

  -- what is held of each side's network is what is sought over both, and comes so
  module _ (held : Held) (row : Record) (here : ℕ) (counts : here ≡ tanks) (same : OfEach (IsHeldIn held) here row)
    where
      pub held-here : OfEach (IsHeldIn held) tanks row
      held-here = subst (λ (n : ℕ). OfEach (IsHeldIn held) n row) counts same

      pub sought-over : ((network : Side) → AreFoundOn tight told pair tanks rounds network (held_on network held))
          → OfEach (IsSoughtOver tight told pair tanks) tanks row
      sought-over found = over-both
          (λ (network : Side). IsSought tight (told_on network told) (grid_on network pair) tanks) held tanks row
          held-here (λ network. (found network).found)

      pub comes-over : ((network : Side) → AreFoundOn tight told pair tanks rounds network (held_on network held))
          → OfEach (ComesOver tight told pair tanks rounds) tanks row
      comes-over found = over-both
          (λ (network : Side). Comes tight (told_on network told) (grid_on network pair) tanks rounds) held tanks row
          held-here (λ network. (found network).come)

-- ---- networks that are alike

-- records that share their vectors have what is found of each problem
pub each-shared : (P : Problem → Side → List ℤ → Type 0) (tanks : ℕ) (row other : Record) → SharesVectors row other
    → OfEach P tanks row → OfEach P tanks other
each-shared P tanks row other share are = λ problem side is. by problem side is
  where
    by : (problem : Problem) (side : Side) → IsProblemOf tanks problem → P problem side (vector_of other problem side)
    by Main side is = subst (λ (x : Vectors). P Main side (vector_on side x)) share.main (are Main side is)
    by (Pinned k) side is =
        subst (λ (xs : List Vectors). P (Pinned k) side (vector_on side (slice_index_or xs k no_vectors))) share.pinned
        (are (Pinned k) side is)

module _ (tight : Bool) (one other : Option (List ℤ)) (grid same : Grid) (tanks count rounds : ℕ) (row : Record)
    (tells : other ≡ one) (alike : same ≡ grid) (counts : tanks ≡ count) where
  pub sought-alike : OfEach (IsSought tight one grid tanks) tanks row → OfEach (IsSought tight other same count) count row
  sought-alike found =
      subst (λ (t : Option (List ℤ)). OfEach (IsSought tight t same count) count row) (sym tells)
      (subst (λ (g : Grid). OfEach (IsSought tight one g count) count row) (sym alike)
      (subst (λ (n : ℕ). OfEach (IsSought tight one grid n) n row) counts found))

  pub comes-alike : (here : ℕ) → rounds ≡ here → OfEach (Comes tight one grid tanks rounds) tanks row
      → OfEach (Comes tight other same count here) count row
  comes-alike here e come =
      subst (λ (r : ℕ). OfEach (Comes tight other same count r) count row) e
      (subst (λ (t : Option (List ℤ)). OfEach (Comes tight t same count rounds) count row) (sym tells)
      (subst (λ (g : Grid). OfEach (Comes tight one g count rounds) count row) (sym alike)
      (subst (λ (n : ℕ). OfEach (Comes tight one grid n rounds) n row) counts come)))
