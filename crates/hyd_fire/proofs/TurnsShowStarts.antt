-- Turns that lead from one tick nearer to proposed heads show that every certificate lies beyond these, also where a
-- junction is held.
use Rattle.std.proofs.Common.{◌≡◌, ℕ, ◌<◌, ℤ, pos, ◌-ℤ◌, ◌≤ℤ◌, ◌<ℤ◌, sym, ap, subst, ◌∙◌, arith, List, length}
use Rattle.std.proofs.Common.{inl, inr}
use Rattle.std.specs.Prelude.{Option, Some, slice_get, slice_set}
use Rattle.std.proofs.lemmas.Int.{ints, by_lt_z}
use Rattle.std.proofs.lemmas.Bool.{cases_eq}
use Rattle.std.proofs.lemmas.List.{length-set}
use Rattle.hyd_spec.specs.Assignment.{head_at}
use Rattle.hyd_spec_certificates.specs.declared.Problem.TheVariants.{Main}
use Rattle.hyd_spec_certificates.specs.declared.Side.{Side}
use Rattle.hyd_spec_certificates.specs.declared.Side.TheVariants.{Upper, Lower}
use Rattle.hyd_spec_certificates.specs.declared.HeldJunction.{HeldJunction}
use Rattle.hyd_spec_certificates.specs.PeriodNetwork.{Grid, GridJunction}
use Rattle.hyd_spec_certificates.specs.Certificate.{box_limit, IsCertificateHolding}
use Rattle.hyd_spec_certificates.specs.StartsRaisesAndLeaps.{IsStart, Fails}
use Rattle.hyd_lemmas.proofs.ListsOptionsAndResults.{item_there}
use Rattle.hyd_theorems_on_definitions.specs.SoundLawsAndGrids.{IsSteady}
use Rattle.hyd_theorems_on_definitions.specs.Sides.{along, near_end}
use Rattle.hyd_theorems_on_definitions.proofs.HeadsOfAllNodes.{IsGreatestBelow, greatest_below}
use Rattle.hyd_theorems_on_raises.proofs.WhereOneLiesBeyondByMost.{is-beyond, lead, fails-leading}
use Rattle.hyd_theorems_on_raises.proofs.RaisesAndTightVector.{set-here, set-there, set-in-box, along-floor}
use Rattle.hyd_sweep.specs.Leaps.{nearer}
use Rattle.hyd_sweep.proofs.LeapsInTurn.{along-nearer}
use Rattle.hyd_sweep.proofs.RaiseValues.{suits-there}
use Rattle.hyd_fire.specs.TurnsWithHeldJunction.{StandsHeld, IsSettled, IsBeforeTurns, Leads, AreInTurn}

along-end : (side : Side) → along side (near_end side) ≡ pos 0 -ℤ pos box_limit
along-end Upper = omega (arith, ints)
along-end Lower = omega (arith, ints)

module _ (held : Option HeldJunction) (grid : Grid) (steady : IsSteady grid) (side : Side) where
  -- a certificate lies beyond a head that needs no turn
  beyond-settled : (v w : List ℤ) (i : ℕ) → length v ≡ length grid.junctions → i < length v
      → IsCertificateHolding held grid Main side w → IsSettled held side i (head_at v i) → lead side v w i ≤ℤ pos 0
  beyond-settled v w i long inside certificate (inl at) =
      let there = item_there grid.junctions i (omega (arith, inside, long)) in
      let is = (suits-there held grid steady Main side v i inside (head_at v i) w there.0 at).1
      (certificate.passes i there.0 there.1) in
      let e = ap (along side) is in omega (arith, ints, e)
  beyond-settled v w i long inside certificate (inr at) =
      let each = certificate.one_each in
      let a = along-floor side (head_at w i) (certificate.in_box i (pos 0) (omega (arith, inside, long, each))) in
      let b = ap (along side) at in
      let c = along-end side in omega (arith, ints, a, b, c)

  -- before the first turn
  pub turns-begin : (v y : List ℤ) → length v ≡ length grid.junctions → IsBeforeTurns held side v y
      → AreInTurn held grid side v y
  turns-begin v y long before = record {
    one_each = before.one_each;
    in_box = before.in_box;
    to_in_box = before.to_in_box;
    stands = λ k h lt at. (before.first k lt).stands h at;
    near = λ k lt. elim ((before.first k lt).near) [
      | inl e ↦ inr e
      | inr e ↦ inl e.0
    ];
    less = λ w certificate most some leads i lt same. elim ((before.first i lt).near) [
      | inl e ↦
          let a = ap (along side) (sym same ∙ e) in
          let b = along-nearer side (head_at v i) in absurd (omega (arith, ints, a, b))
      | inr e ↦
          let b = beyond-settled v w i long lt certificate e.1 in omega (arith, ints, b, some)
    ];
  }

  -- one turn more
  pub turns-more : (v y : List ℤ) (i : ℕ) (junction : GridJunction)
      → length v ≡ length grid.junctions → i < length v → slice_get grid.junctions i ≡ Some junction
      → Fails held grid Main side y i junction → AreInTurn held grid side v y
      → AreInTurn held grid side v (slice_set y i (head_at v i))
  turns-more v y i junction long inside at fails turns = record {
    one_each = length-set y i (head_at v i) ∙ turns.one_each;
    in_box = set-in-box y i (head_at v i) (turns.to_in_box i (pos 0) inside) turns.in_box;
    to_in_box = turns.to_in_box;
    stands = turns.stands;
    near = λ k lt. elim (cases_eq k i) [
      | inl e ↦ inl (here k e)
      | inr ne ↦ elim (turns.near k lt) [
        | inl e ↦ inl (set-there y i k (head_at v i) ne ∙ e)
        | inr e ↦ inr (set-there y i k (head_at v i) ne ∙ e)
      ]
    ];
    less = λ w certificate most some leads k lt same. elim (cases_eq k i) [
      | inl e ↦ subst (λ (m : ℕ). Leads side v w (most -ℤ pos 1) m) (sym e) (own w certificate most some leads)
      | inr ne ↦ turns.less w certificate most some leads k lt (sym (set-there y i k (head_at v i) ne) ∙ same)
    ];
  }
    where
      here : (k : ℕ) → k ≡ i → head_at (slice_set y i (head_at v i)) k ≡ head_at v k
      here k e = subst (λ (m : ℕ). head_at (slice_set y i (head_at v i)) m ≡ head_at v m) (sym e)
          (set-here y i (head_at v i) (let l = turns.one_each in omega (arith, inside, l)))

      own : (w : List ℤ) → IsCertificateHolding held grid Main side w → (most : ℤ) → pos 1 ≤ℤ most
          → ((k : ℕ) → k < length v → Leads side v w most k) → Leads side v w (most -ℤ pos 1) i
      own w certificate most some leads = elim (turns.near i inside) [
        | inl e ↦ turns.less w certificate most some leads i inside e
        | inr e ↦ by_lt_z (most -ℤ pos 1) (lead side v w i)
            (λ lt. absurd (fails-leading grid steady Main held side y w i junction
            (turns.one_each ∙ (long ∙ sym certificate.one_each)) (let l = turns.one_each in omega (arith, inside, l))
            (let o = at-i e in omega (arith, ints, o, lt, some))
            (λ k within. led e lt k (let l = turns.one_each in omega (arith, within, l)))
            at fails (certificate.passes i junction at)))
            (λ le. le)
      ]
        where
          at-i : head_at y i ≡ nearer side (head_at v i) → lead side y w i ≡ lead side v w i -ℤ pos 1
          at-i e = let f = ap (along side) e in let a = along-nearer side (head_at v i) in omega (arith, ints, f, a)

          led : head_at y i ≡ nearer side (head_at v i) → (most -ℤ pos 1) <ℤ lead side v w i → (k : ℕ) → k < length v
              → lead side y w k ≤ℤ lead side y w i
          led e lt k within = elim (turns.near k within) [
            | inl same ↦ (
                let o = at-i e in
                let f = ap (along side) same in
                let l = turns.less w certificate most some leads k within same in omega (arith, ints, o, f, l, lt)
                )
            | inr short ↦ (
                let o = at-i e in
                let f = ap (along side) short in
                let a = along-nearer side (head_at v k) in
                let l = leads k within in omega (arith, ints, o, f, a, l, lt)
                )
          ]

  -- after the last one
  pub turns-end : (v y : List ℤ) → length v ≡ length grid.junctions → AreInTurn held grid side v y
      → ((k : ℕ) → k < length v → head_at y k ≡ head_at v k) → IsStart held grid Main side y
  turns-end v y long turns same = record {
    one_each = turns.one_each ∙ long;
    in_box = turns.in_box;
    nearer = λ w certificate m lt.
        let l = turns.one_each in
        let within : m < length v = omega (arith, lt, l) in
        let e = ap (along side) (same m within) in
        let n = none w certificate m within in is-beyond side (head_at y m) (head_at w m) (omega (arith, ints, e, n));
  }
    where
      none : (w : List ℤ) → IsCertificateHolding held grid Main side w → (m : ℕ) → m < length v
          → lead side v w m ≤ℤ pos 0
      none w certificate m within = against (greatest_below (lead side v w) (length v) (omega (arith, within)))
        where
          against : ((i : ℕ) × IsGreatestBelow (lead side v w) (length v) i) → lead side v w m ≤ℤ pos 0
          against (i, best) = by_lt_z (pos 0) (lead side v w i)
              (λ lt. (
              let l = turns.less w certificate (lead side v w i) (omega (arith, ints, lt)) best.each i best.below
              (same i best.below) in
              absurd (omega (arith, ints, l))
              ))
              (λ le. (let b = best.each m within in omega (arith, ints, b, le)))

  -- a held junction stands at its head then
  pub turns-stand : (v y : List ℤ) → AreInTurn held grid side v y
      → ((k : ℕ) → k < length v → head_at y k ≡ head_at v k) → StandsHeld held y
  turns-stand v y turns same k h lt at =
      let l = turns.one_each in
      let within : k < length v = omega (arith, lt, l) in
      same k within ∙ turns.stands k h within at
