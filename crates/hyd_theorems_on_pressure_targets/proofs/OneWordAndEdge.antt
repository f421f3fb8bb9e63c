-- A junction has one word, and one edge on a side, but where rounds are spent.
use Rattle.std.proofs.Common.{◌≡◌, ◌≢◌, ℕ, suc, ◌<◌, ℤ, pos, ◌≤ℤ◌, refl, sym, ap, ◌∙◌, arith, List, [], ◌∷◌, length}
use Rattle.std.specs.Prelude.{Some, ◌⊎◌}
use Rattle.std.proofs.Common.{inl, inr}
use Rattle.std.proofs.lemmas.Int.{ints}
use Rattle.hyd_spec.specs.Assignment.{head_at}
use Rattle.hyd_spec_certificates.specs.declared.Problem.TheVariants.{Main}
use Rattle.hyd_spec_certificates.specs.declared.Side.{Side}
use Rattle.hyd_spec_certificates.specs.declared.Side.TheVariants.{Upper, Lower}
use Rattle.hyd_spec_certificates.specs.declared.HeldJunction.{HeldJunction}
use Rattle.hyd_spec_certificates.specs.PeriodNetwork.{Grid}
use Rattle.hyd_spec_certificates.specs.Certificate.{IsTight, IsTightHolding, IsBeyond}
use Rattle.hyd_spec_certificates.specs.BoxesWithHeldJunction.{passing_draw}
use Rattle.hyd_spec_pressure_targets.specs.declared.Edge.{Edge}
use Rattle.hyd_spec_pressure_targets.specs.declared.Edge.TheVariants.{Flow, NoCertificate as NoEdge}
use Rattle.hyd_spec_pressure_targets.specs.declared.Edge.TheVariants.{RoundsSpent as EdgeSpent}
use Rattle.hyd_spec_pressure_targets.specs.declared.ClosureWord.{ClosureWord}
use Rattle.hyd_spec_pressure_targets.specs.declared.ClosureWord.TheVariants.{Safe, Low, NoCertificate, Unsure}
use Rattle.hyd_spec_pressure_targets.specs.declared.ClosureWord.TheVariants.{RoundsSpent as WordSpent}
use Rattle.hyd_spec_pressure_targets.specs.BracketOfDraws.{IsEdge, IsTightDraw}
use Rattle.hyd_spec_pressure_targets.specs.ClosureWords.{IsShownSafe, IsShownLow, IsWord, HasNoneOn, HasTight}
use Rattle.hyd_theorems_on_definitions.specs.SoundLawsAndGrids.{IsSteady, TanksInOrder}
use Rattle.hyd_lemmas.proofs.ListsOptionsAndResults.{item_there}
use Rattle.hyd_theorems_on_definitions.proofs.TwoSides.{lower-below}
use Rattle.hyd_theorems_on_raises.proofs.SearchStarts.{main-fixed}

-- ---- words

pub shown-by-lower : (grid : Grid) (j : ℕ) (high : ℤ) (u : List ℤ) → IsTight grid Main Lower u
    → j < length grid.junctions → IsShownSafe grid j high → high ≤ℤ head_at u j
shown-by-lower grid j high u tight inside shown =
    let here = item_there grid.junctions j inside in
    let beyond = tight.nearest shown.heads shown.certificate j here.0 here.1 in
    let enough = shown.enough in
    omega (arith, ints, beyond, enough)

pub shown-by-upper : (grid : Grid) (j : ℕ) (low : ℤ) (u : List ℤ) → IsTight grid Main Upper u
    → j < length grid.junctions → IsShownLow grid j low → head_at u j ≤ℤ low
shown-by-upper grid j low u tight inside shown =
    let here = item_there grid.junctions j inside in
    let beyond = tight.nearest shown.heads shown.certificate j here.0 here.1 in
    let little = shown.too_little in
    omega (arith, ints, beyond, little)

module _ (grid : Grid) (steady : IsSteady grid) (order : TanksInOrder grid) (j : ℕ) (low high : ℤ)
    (inside : j < length grid.junctions) (ordered : low ≤ℤ high) where
  -- one certificate can't lie above the target where another lies below
  not-both : IsShownSafe grid j high → IsShownLow grid j low → ⊥
  not-both safe short =
      let one = safe.certificate.one_each in
      let apart = lower-below grid steady Main Main short.heads safe.heads (pos 0) short.certificate safe.certificate
      (omega (arith, ints)) (λ m. let f = main-fixed grid Upper Main order m in omega (arith, ints, f)) j
      (omega (arith, one, inside)) in
      let enough = safe.enough in
      let little = short.too_little in
      omega (arith, ints, apart, enough, little, ordered)

  -- one side can't have none and have one
  no-none : HasTight grid Upper → HasTight grid Lower → HasNoneOn grid Upper ⊎ HasNoneOn grid Lower → ⊥
  no-none upper lower (inl none) = none upper.0 upper.1.is_certificate
  no-none upper lower (inr none) = none lower.0 lower.1.is_certificate

  pub one-word : (r s : ℕ) (a b : ClosureWord) → a ≢ WordSpent → b ≢ WordSpent → IsWord grid r j low high a
      → IsWord grid s j low high b → a ≡ b
  one-word r s WordSpent b not-a not-b x y = absurd (not-a refl)
  one-word r s Safe WordSpent not-a not-b x y = absurd (not-b refl)
  one-word r s Safe Safe not-a not-b x y = refl
  one-word r s Safe Low not-a not-b x y = absurd (not-both x y)
  one-word r s Safe NoCertificate not-a not-b x y = absurd (y.is_open.not_safe x)
  one-word r s Safe Unsure not-a not-b x y = absurd (y.is_open.not_safe x)
  one-word r s Low WordSpent not-a not-b x y = absurd (not-b refl)
  one-word r s Low Safe not-a not-b x y = absurd (not-both y x)
  one-word r s Low Low not-a not-b x y = refl
  one-word r s Low NoCertificate not-a not-b x y = absurd (y.is_open.not_low x)
  one-word r s Low Unsure not-a not-b x y = absurd (y.is_open.not_low x)
  one-word r s NoCertificate WordSpent not-a not-b x y = absurd (not-b refl)
  one-word r s NoCertificate Safe not-a not-b x y = absurd (x.is_open.not_safe y)
  one-word r s NoCertificate Low not-a not-b x y = absurd (x.is_open.not_low y)
  one-word r s NoCertificate NoCertificate not-a not-b x y = refl
  one-word r s NoCertificate Unsure not-a not-b x y = absurd (no-none y.upper y.lower x.none)
  one-word r s Unsure WordSpent not-a not-b x y = absurd (not-b refl)
  one-word r s Unsure Safe not-a not-b x y = absurd (x.is_open.not_safe y)
  one-word r s Unsure Low not-a not-b x y = absurd (x.is_open.not_low y)
  one-word r s Unsure NoCertificate not-a not-b x y = absurd (no-none x.upper x.lower y.none)
  one-word r s Unsure Unsure not-a not-b x y = refl

-- ---- edges

same-heads : (u v : List ℤ) → length u ≡ length v → ((j : ℕ) → j < length u → head_at u j ≡ head_at v j) → u ≡ v
same-heads [] [] e each = refl
same-heads [] (y ∷ v) e each = absurd (omega (arith, e))
same-heads (x ∷ u) [] e each = absurd (omega (arith, e))
same-heads (x ∷ u) (y ∷ v) e each =
    let first : x ≡ y = each 0 (omega arith) in
    let rest = same-heads u v (omega (arith, e)) (λ j le. each (suc j) (omega (arith, le))) in
    cc

both-beyond : (side : Side) (x y : ℤ) → IsBeyond side x y → IsBeyond side y x → x ≡ y
both-beyond Upper x y l m = omega (arith, ints, l, m)
both-beyond Lower x y l m = omega (arith, ints, l, m)

module _ (grid : Grid) (side : Side) (held : HeldJunction) where
  same-vector : (u v : List ℤ) → IsTightHolding (Some held) grid Main side u
      → IsTightHolding (Some held) grid Main side v → u ≡ v
  same-vector u v a b =
      let own = a.is_certificate.one_each in
      let other = b.is_certificate.one_each in
      same-heads u v (own ∙ sym other) (λ j le.
      let here = item_there grid.junctions j (omega (arith, own, le)) in
      both-beyond side (head_at u j) (head_at v j) (a.nearest v b.is_certificate j here.0 here.1)
      (b.nearest u a.is_certificate j here.0 here.1))

  same-draw : (a b : ℤ) → IsTightDraw grid side held a → IsTightDraw grid side held b → a ≡ b
  same-draw a b x y =
      let heads = same-vector x.heads y.heads x.tight y.tight in
      let here : x.here ≡ y.here = (let p = x.is_here in let q = y.is_here in cc) in
      x.draw_is ∙ ((λ i. passing_draw grid side (heads i) held.junction (here i)) ∙ sym y.draw_is)

  pub one-edge : (r s : ℕ) (a b : Edge) → a ≢ EdgeSpent → b ≢ EdgeSpent → IsEdge grid side held r a
      → IsEdge grid side held s b → a ≡ b
  one-edge r s EdgeSpent b not-a not-b x y = absurd (not-a refl)
  one-edge r s (Flow a) EdgeSpent not-a not-b x y = absurd (not-b refl)
  one-edge r s (Flow a) (Flow b) not-a not-b x y = ap Flow (same-draw a b x y)
  one-edge r s (Flow a) NoEdge not-a not-b x y = absurd (y x.heads x.tight.is_certificate)
  one-edge r s NoEdge EdgeSpent not-a not-b x y = absurd (not-b refl)
  one-edge r s NoEdge (Flow b) not-a not-b x y = absurd (x y.heads y.tight.is_certificate)
  one-edge r s NoEdge NoEdge not-a not-b x y = refl
