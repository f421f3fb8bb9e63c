-- The word by the vectors and what was found of the sides.
use Rattle.std.proofs.Common.{Bool, true, false, ◌∙◌}
use Rattle.hyd_lemmas.proofs.BooleanTests.{le-yes, le-from}
use Rattle.std.proofs.Common.{◌≡◌, ℕ, ◌<◌, ℤ, ◌≤ℤ◌, refl, sym, List, length, inl, inr}
use Rattle.std.specs.Prelude.{◌⊎◌, Some, slice_get, IsTrue, ◌&&◌, int_le, if◌then◌else◌}
use Rattle.std.proofs.lemmas.Bool.{true≢false}
use Rattle.hyd_spec.specs.Assignment.{head_at}
use Rattle.hyd_spec_certificates.specs.declared.Problem.TheVariants.{Main}
use Rattle.hyd_spec_certificates.specs.declared.Side.{Side}
use Rattle.hyd_spec_certificates.specs.declared.Side.TheVariants.{Upper, Lower}
use Rattle.hyd_spec_certificates.specs.declared.LevelSpan.{LevelSpan}
use Rattle.hyd_spec_certificates.specs.PeriodNetwork.{Grid}
use Rattle.hyd_spec_certificates.specs.Certificate.{IsCertificate}
use Rattle.hyd_spec_pressure_targets.specs.declared.ClosureWord.{ClosureWord}
use Rattle.hyd_spec_pressure_targets.specs.declared.ClosureWord.TheVariants.{Safe, Low}
use Rattle.hyd_spec_pressure_targets.specs.ClosureWords.{IsShownSafe, IsShownLow, AreSpentOn}
use Rattle.hyd_spec_spread_runs.specs.OutermostPairs.{Pair}
use Rattle.hyd_spec_spread_targets.specs.WordsOverPairs.{IsWordOver}
use Rattle.hyd_theorems_on_pressure_targets.proofs.OneWordAndEdge.{shown-by-lower, shown-by-upper}
use Rattle.hyd_fire.specs.declared.answers.Found.{Found}
use Rattle.hyd_fire.specs.declared.answers.Found.TheVariants.{Tight, Passing, NoCertificate, RoundsSpent}
use Rattle.hyd_fire.specs.declared.answers.Sides.{Sides}
use Rattle.hyd_fire.specs.StudyView.{StudyView}
use Rattle.hyd_fire.specs.SidesOfClosures.{word_by, IsFoundOn, has_vector, AreAllShown, IsLeft, word_without}

-- a vector that stands there is a certificate
pub stands-passing : (grid : Grid) (rounds : ℕ) (side : Side) (u : List ℤ) (found : Found)
    → IsFoundOn grid rounds side u found → IsTrue (has_vector found) → IsCertificate grid Main side u
stands-passing grid rounds side u Tight is has = is.is_certificate
stands-passing grid rounds side u Passing is has = is
stands-passing grid rounds side u NoCertificate is has = absurd (true≢false (sym has))
stands-passing grid rounds side u RoundsSpent is has = absurd (true≢false (sym has))

module _ (pair : Pair) (rounds j : ℕ) (target : LevelSpan) (left : StudyView)
    (above : j < length pair.upper.junctions) (below : j < length pair.lower.junctions) where
  -- the word where the vectors show neither
  without : (upper lower : Found) → IsFoundOn pair.upper rounds Upper left.upper upper
      → IsFoundOn pair.lower rounds Lower left.lower lower
      → (upper ≡ Passing → AreSpentOn pair.upper rounds Upper) → (lower ≡ Passing → AreSpentOn pair.lower rounds Lower)
      → ((IsTrue (has_vector lower) × (target.hi ≤ℤ head_at left.lower j)) → ⊥)
      → ((IsTrue (has_vector upper) × (head_at left.upper j ≤ℤ target.lo)) → ⊥)
      → IsWordOver pair rounds j target.lo target.hi (word_without (record { upper = upper; lower = lower }))
  without Tight Tight u l pu pl not-safe not-low = record {
    is_open = record {
      not_safe = λ shown. not-safe (refl, shown-by-lower pair.lower j target.hi left.lower l below shown);
      not_low = λ shown. not-low (refl, shown-by-upper pair.upper j target.lo left.upper u above shown);
    };
    upper = (left.upper, u);
    lower = (left.lower, l);
  }
  without NoCertificate Tight u l pu pl not-safe not-low = record {
    is_open = record {
      not_safe = λ shown. not-safe (refl, shown-by-lower pair.lower j target.hi left.lower l below shown);
      not_low = λ shown. u shown.heads shown.certificate;
    };
    none = inl u;
  }
  without Tight NoCertificate u l pu pl not-safe not-low = record {
    is_open = record {
      not_safe = λ shown. l shown.heads shown.certificate;
      not_low = λ shown. not-low (refl, shown-by-upper pair.upper j target.lo left.upper u above shown);
    };
    none = inr l;
  }
  without NoCertificate NoCertificate u l pu pl not-safe not-low = record {
    is_open = record {
      not_safe = λ shown. l shown.heads shown.certificate;
      not_low = λ shown. u shown.heads shown.certificate;
    };
    none = inl u;
  }
  without Passing Tight u l pu pl not-safe not-low = inl (pu refl)
  without Passing Passing u l pu pl not-safe not-low = inl (pu refl)
  without Passing NoCertificate u l pu pl not-safe not-low = inl (pu refl)
  without Passing RoundsSpent u l pu pl not-safe not-low = inl (pu refl)
  without RoundsSpent Tight u l pu pl not-safe not-low = inl u
  without RoundsSpent Passing u l pu pl not-safe not-low = inl u
  without RoundsSpent NoCertificate u l pu pl not-safe not-low = inl u
  without RoundsSpent RoundsSpent u l pu pl not-safe not-low = inl u
  without Tight Passing u l pu pl not-safe not-low = inr (pl refl)
  without NoCertificate Passing u l pu pl not-safe not-low = inr (pl refl)
  without Tight RoundsSpent u l pu pl not-safe not-low = inr l
  without NoCertificate RoundsSpent u l pu pl not-safe not-low = inr l

  -- it is the word of what a closure left
  pub left-without : (targets : List LevelSpan) (sides : Sides) → IsLeft pair rounds targets left sides
      → slice_get targets j ≡ Some target
      → ((IsTrue (has_vector sides.lower) × (target.hi ≤ℤ head_at left.lower j)) → ⊥)
      → ((IsTrue (has_vector sides.upper) × (head_at left.upper j ≤ℤ target.lo)) → ⊥)
      → IsWordOver pair rounds j target.lo target.hi (word_without sides)
  left-without targets sides is at not-safe not-low =
      without sides.upper sides.lower is.upper is.lower
      (λ passing. spent (is.upper_passing passing)) (λ passing. spent (is.lower_passing passing)) not-safe not-low
    where
      spent : {P : Type 0} → AreAllShown left sides targets ⊎ P → P
      spent (inr are) = are
      spent (inl all) = absurd (elim (all j target at) [
        | inl safe ↦ not-safe safe
        | inr low ↦ not-low low
      ])

  pub left-safe : (targets : List LevelSpan) (sides : Sides) → IsLeft pair rounds targets left sides
      → IsTrue (has_vector sides.lower) → target.hi ≤ℤ head_at left.lower j
      → IsShownSafe pair.lower j target.hi
  left-safe targets sides is has enough = record {
    heads = left.lower;
    certificate = stands-passing pair.lower rounds Lower left.lower sides.lower is.lower has;
    enough = enough;
  }

  pub left-low : (targets : List LevelSpan) (sides : Sides) → IsLeft pair rounds targets left sides
      → IsTrue (has_vector sides.upper) → head_at left.upper j ≤ℤ target.lo
      → IsShownLow pair.upper j target.lo
  left-low targets sides is has little = record {
    heads = left.upper;
    certificate = stands-passing pair.upper rounds Upper left.upper sides.upper is.upper has;
    too_little = little;
  }

  -- the word by the vectors is the word of what a closure left
  pub left-word : (targets : List LevelSpan) (sides : Sides) → IsLeft pair rounds targets left sides
      → slice_get targets j ≡ Some target → IsWordOver pair rounds j target.lo target.hi (word_by left sides j target)
  left-word targets sides is at = by-safe (has_vector sides.lower) (int_le target.hi (head_at left.lower j)) refl refl
    where
      Word : ClosureWord → Type 0
      Word word = IsWordOver pair rounds j target.lo target.hi word

      by-low : ((IsTrue (has_vector sides.lower) × (target.hi ≤ℤ head_at left.lower j)) → ⊥) → (h l : Bool)
          → has_vector sides.upper ≡ h → int_le (head_at left.upper j) target.lo ≡ l
          → Word (if h && l then Low else word_without sides)
      by-low not-safe true true has less = left-low targets sides is has (le-yes _ _ less)
      by-low not-safe true false has more = left-without targets sides is at not-safe
          (λ low. true≢false (sym (le-from _ _ low.1) ∙ more))
      by-low not-safe false l has less = left-without targets sides is at not-safe
          (λ low. true≢false (sym low.0 ∙ has))

      by-safe : (h l : Bool) → has_vector sides.lower ≡ h → int_le target.hi (head_at left.lower j) ≡ l
          → Word (if h && l then Safe else
          if has_vector sides.upper && int_le (head_at left.upper j) target.lo then Low else word_without sides)
      by-safe true true has less = left-safe targets sides is has (le-yes _ _ less)
      by-safe true false has more = by-low (λ safe. true≢false (sym (le-from _ _ safe.1) ∙ more))
          (has_vector sides.upper) (int_le (head_at left.upper j) target.lo) refl refl
      by-safe false l has less = by-low (λ safe. true≢false (sym safe.0 ∙ has))
          (has_vector sides.upper) (int_le (head_at left.upper j) target.lo) refl refl
