-- Rounds gain no more from heads that stand farther out as a whole, so they stay within a bound and as many steps.
use Rattle.std.proofs.Common.{◌≡◌, ◌≢◌, ℕ, ◌+◌, ◌*◌, ◌<◌, ℤ, pos, ◌+ℤ◌, ◌-ℤ◌, ◌≤ℤ◌, sym, ap}
use Rattle.std.proofs.Common.{subst, ◌∙◌, arith, Bool, true, false, ◌==◌, List, length, inl, inr}
use Rattle.std.specs.Prelude.{Some, slice_get, slice_set, MatchBool}
use Rattle.std.proofs.Math.Nat.{suc-mul}
use Rattle.std.proofs.lemmas.Int.{ints, by_lt_z}
use Rattle.std.proofs.lemmas.Bool.{cases_eq}
use Rattle.std.proofs.lemmas.List.{length-set}
use Rattle.hyd_spec.specs.Assignment.{head_at}
use Rattle.hyd_spec_certificates.specs.declared.Problem.TheVariants.{Main}
use Rattle.hyd_spec_certificates.specs.declared.Side.{Side}
use Rattle.hyd_spec_certificates.specs.declared.Side.TheVariants.{Upper, Lower}
use Rattle.hyd_spec_certificates.specs.declared.HeldJunction.{HeldJunction}
use Rattle.hyd_spec_certificates.specs.PeriodNetwork.{Grid, GridJunction}
use Rattle.hyd_spec_certificates.specs.Certificate.{box_limit, IsInBox, Passes, Suits, IsCandidateHolding}
use Rattle.hyd_spec_certificates.specs.Certificate.{IsRaisedHolding, IsRoundHolding, AreRoundsHolding, none, more}
use Rattle.hyd_spec_certificates.specs.StartsRaisesAndLeaps.{IsStart}
use Rattle.hyd_theorems_on_definitions.specs.SoundLawsAndGrids.{IsSteady}
use Rattle.hyd_theorems_on_definitions.specs.Sides.{along}
use Rattle.hyd_lemmas.proofs.ListsOptionsAndResults.{item_there}
use Rattle.hyd_theorems_on_raises.proofs.WhereOneLiesBeyondByMost.{beyond-is, is-beyond, lead, IsLeading}
use Rattle.hyd_theorems_on_raises.proofs.WhereOneLiesBeyondByMost.{passes-leading}
use Rattle.hyd_theorems_on_raises.proofs.RaisesAndTightVector.{set-here, set-there, along-ceiling, along-floor}
use Rattle.hyd_sweep.specs.Sweeps.{further}
use Rattle.hyd_sweep.proofs.RaiseValues.{along-further, free-suits}
use Rattle.hyd_spent_rounds.specs.SpentRounds.{AreSpent, IsBound, LiesPast}

box-along : (side : Side) (h : ℤ) → (pos 0 -ℤ pos box_limit) ≤ℤ along side h → along side h ≤ℤ pos box_limit → IsInBox h
box-along Upper h least most = record { above_floor = omega (arith, ints, least); below_ceiling = most }
box-along Lower h least most = record {
  above_floor = omega (arith, ints, most);
  below_ceiling = omega (arith, ints, least);
}

-- what is asked of a held junction: it stands at its head
held-stands : (grid : Grid) (side : Side) (held : HeldJunction) (u : List ℤ) (i : ℕ) (junction : GridJunction)
    → i ≡ held.junction → Suits (Some held) grid Main side u i junction → head_at u i ≡ held.head
held-stands grid side held u i junction e = by (held.junction == i) (search (arith, e))
  where
    by : (b : Bool) → b ≡ true → MatchBool b (head_at u i ≡ held.head) (Passes grid Main side u i junction)
        → head_at u i ≡ held.head
    by true same is = is
    by false same is = absurd (cc)

module _ (held : HeldJunction) (grid : Grid) (steady : IsSteady grid) (side : Side) (start x : List ℤ) (step : ℕ)
    (bound : IsBound held grid side start x step) (long : length x ≡ length grid.junctions) where
  -- the heads of a vector lie at most so many ticks beyond the bound
  abbrev pub IsWithin : List ℤ → ℕ → Type 0
  IsWithin u t = (m : ℕ) → m < length x → lead side u x m ≤ℤ pos t

  -- a junction that isn't held passes so many ticks and a step beyond the bound
  module _ (t : ℕ) (u : List ℤ) (same : length u ≡ length x) (within : IsWithin u t) (i : ℕ) (inside : i < length x)
      (junction : GridJunction) (at : slice_get grid.junctions i ≡ Some junction) (free : i ≢ held.junction) where
    abbrev there : ℤ
    there = further side (head_at x i) (t + step)

    abbrev near : ℤ
    near = further side (head_at x i) step

    there-is : along side there ≡ along side (head_at x i) +ℤ pos (t + step)
    there-is = along-further side (head_at x i) (t + step)

    ahead-here : lead side (slice_set u i there) (slice_set x i near) i ≡ pos t
    ahead-here =
        let a = ap (along side) (set-here u i there (omega (arith, inside, same))) in
        let b = ap (along side) (set-here x i near inside) in
        let d = along-further side (head_at x i) step in
        let c = there-is in
        omega (arith, ints, a, b, c, d)

    ahead-each : (m : ℕ) → m < length x
        → lead side (slice_set u i there) (slice_set x i near) m
        ≤ℤ lead side (slice_set u i there) (slice_set x i near) i
    ahead-each m lt = elim (cases_eq m i) [
      | inl e ↦ subst (λ (n : ℕ). lead side (slice_set u i there) (slice_set x i near) n
          ≤ℤ lead side (slice_set u i there) (slice_set x i near) i) (sym e) (omega (arith, ints))
      | inr ne ↦ (let a = ap (along side) (set-there u i m there ne) in
          let b = ap (along side) (set-there x i m near ne) in
          let w = within m lt in let h = ahead-here in omega (arith, ints, a, b, w, h))
    ]

    leading : IsLeading grid steady Main side (slice_set u i there) (slice_set x i near) i
    leading = record {
      same = (let a = length-set u i there in let b = length-set x i near in omega (arith, a, b, same));
      inside = (let a = length-set u i there in omega (arith, a, inside, same));
      ahead = (let h = ahead-here in omega (arith, ints, h));
      most = λ m lt. ahead-each m (let a = length-set u i there in omega (arith, a, lt, same));
    }

    passes-there : Passes grid Main side (slice_set u i there) i junction
    passes-there = passes-leading grid steady Main side (slice_set u i there) (slice_set x i near) i junction leading at
        ((bound.each i inside).gains free junction at)

    candidate-there : along side there ≤ℤ pos box_limit
        → IsCandidateHolding (Some held) grid Main side u i junction there
    candidate-there most = record {
      in_box = box-along side there (let f = along-floor side (head_at x i) (bound.in_box i (pos 0) inside) in
          let c = there-is in omega (arith, ints, f, c)) most;
      beyond = is-beyond side (head_at u i) there (let w = within i inside in let c = there-is in
          omega (arith, ints, w, c));
      passes = free-suits (Some held) grid steady Main side u i (omega (arith, inside, same))
          (slice_set u i there) junction (λ e. free (sym e)) passes-there;
    }

    -- so a raise leads no farther
    raised-within : (v : ℤ) → IsRaisedHolding (Some held) grid Main side u i junction v
        → (along side v -ℤ along side (head_at x i)) ≤ℤ pos (t + step)
    raised-within v raise = by_lt_z (pos box_limit) (along side there)
        (λ out. let top = along-ceiling side v raise.is_candidate.in_box in let c = there-is in
        omega (arith, ints, out, top, c))
        (λ most. let far = beyond-is side v there (raise.nearest there (candidate-there most)) in let c = there-is in
        omega (arith, ints, far, c))

  -- one round
  pub round-within : (t : ℕ) (u v : List ℤ) → length u ≡ length x → IsWithin u t
      → IsRoundHolding (Some held) grid Main side u v → IsWithin v (t + step)
  round-within t u v same within round m lt =
      let at = item_there grid.junctions m (omega (arith, lt, long)) in
      let raise = round.raised m at.0 at.1 in
      elim (cases_eq m held.junction) [
        | inl e ↦ (let stood = held-stands grid side held (slice_set u m (head_at v m)) m at.0 e
            raise.is_candidate.passes in
            let here = set-here u m (head_at v m) (omega (arith, lt, same)) in
            let a = ap (along side) (sym here ∙ (stood ∙ sym ((bound.each m lt).stands e))) in
            omega (arith, ints, a))
        | inr ne ↦ raised-within t u same within m lt at.0 at.1 ne (head_at v m) raise
      ]

  -- rounds, one after another
  pub rounds-within : (n t : ℕ) (u v : List ℤ) → length u ≡ length x → IsWithin u t
      → AreRoundsHolding (Some held) grid Main side n u v → IsWithin v (t + n * step)
  rounds-within _ t u _ same within none m lt = let w = within m lt in omega (arith, ints, w)
  rounds-within _ t u w same within (more {n = n} {v = v} first rest) m lt =
      let r = rounds-within n (t + step) v w (first.one_each ∙ same) (round-within t u v same within first) rest m lt in
      let e = suc-mul n step in
      omega (arith, ints, r, e)

  -- rounds that lead to no certificate, where every one lies past the bound and as many steps
  pub spent-past : (rounds : ℕ) (u : List ℤ) → IsStart (Some held) grid Main side u → LiesPast side rounds step x u
      → AreSpent held grid side rounds start
  spent-past rounds u begins past reached by_rounds holds =
      let one = bound.one_each in
      let each = begins.one_each in
      let inside = past.1.0 in
      let farther = past.1.1 in
      let r = rounds-within rounds 0 start reached (sym one) (λ m lt.
      (let b = beyond-is side (head_at start m) (head_at x m) (bound.each m lt).ahead in omega (arith, ints, b)))
      by_rounds past.0 inside in
      let b = beyond-is side (head_at u past.0) (head_at reached past.0)
      (begins.nearer reached holds past.0 (omega (arith, inside, long, each))) in
      omega (arith, ints, r, b, farther)
