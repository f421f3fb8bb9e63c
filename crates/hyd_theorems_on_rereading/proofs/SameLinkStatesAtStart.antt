-- The link states at the start of a period are the same of alike parts.
use Rattle.std.proofs.Common.{◌≡◌, ℕ, ℤ, Bool, List, [], ◌∷◌, Some, None, refl, ap, ap₂}
use Rattle.std.specs.Prelude.{if◌then◌else◌}
use Rattle.hyd_spec.specs.ProgramTypes.{Project, Link, LinkKind, PipeLink, CheckPipe, PumpLink, CurvePump, Tcv, Fcv}
use Rattle.hyd_spec.specs.ProgramTypes.{Gpv}
use Rattle.hyd_spec.specs.ProgramTypes.{LinkState}
use Rattle.hyd_spec.specs.PumpPatternsAndSimpleControls.{speed_state, is_pattern_boundary, patterned_state}
use Rattle.hyd_spec.specs.PumpPatternsAndSimpleControls.{after_patterns, patterned}
use Rattle.hyd_spec.specs.PumpPatternsAndSimpleControls.{controlled, started}
use Rattle.hyd_spec_certificates.specs.RecordAndStanding.{Standing}
use Rattle.hyd_spec_certificates.specs.Decided.{acts_on, links_at}
use Rattle.hyd_theorems_on_rereading.proofs.PartsWithSpares.{Inner, with_inner, AreAlike}
use Rattle.hyd_theorems_on_rereading.proofs.SameQuantities.{same_multiplier}

module _ (p : Project) (x y : Inner) (alike : AreAlike x y) where
  by_kind : (time : ℕ) (link : Link) (state : LinkState) (kind : LinkKind)
      → patterned_state (with_inner p x) time (record link { kind = kind }) state
      ≡ patterned_state (with_inner p y) time (record link { kind = kind }) state
  by_kind time link state (PipeLink capacity) = refl
  by_kind time link state (CheckPipe capacity) = refl
  by_kind time link state (PumpLink capacity shutoff head None) = refl
  by_kind time link state (PumpLink capacity shutoff head (Some pattern)) =
      ap speed_state (same_multiplier p x y alike pattern time)
  by_kind time link state (CurvePump bend None) = refl
  by_kind time link state (CurvePump bend (Some pattern)) =
      ap speed_state (same_multiplier p x y alike pattern time)
  by_kind time link state (Tcv valve) = refl
  by_kind time link state (Fcv valve) = refl
  by_kind time link state (Gpv bend) = refl

  same_after : (time : ℕ) (links : List Link) (states : List LinkState)
      → after_patterns (with_inner p x) time links states ≡ after_patterns (with_inner p y) time links states
  same_after time [] states = refl
  same_after time (link ∷ links) [] = refl
  same_after time (link ∷ links) (state ∷ states) =
      ap₂ (λ (s : LinkState) (ss : List LinkState). s ∷ ss) (by_kind time link state link.kind)
      (same_after time links states)

  pub same_patterned : (time : ℕ) (states : List LinkState)
      → patterned (with_inner p x) time states ≡ patterned (with_inner p y) time states
  same_patterned time states =
      ap (λ (ss : List LinkState). if is_pattern_boundary (with_inner p x) time then ss else states)
      (same_after time p.links.list states)

  pub same_started : (time : ℕ) (acts : ℕ → Bool → ℤ → Bool) (states : List LinkState)
      → started (with_inner p x) time acts states ≡ started (with_inner p y) time acts states
  same_started time acts states =
      ap (λ (ss : List LinkState). controlled (with_inner p x) time acts ss) (same_patterned time states)

  pub same_links_at : (standing : Standing) → links_at (with_inner p x) standing ≡ links_at (with_inner p y) standing
  same_links_at standing = same_started standing.time (acts_on standing.levels) standing.commanded
