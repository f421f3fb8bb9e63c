-- Turns that lead from one tick nearer to proposed heads show that every certificate lies beyond these.
use Rattle.std.proofs.Common.{◌≡◌, ℕ, ◌<◌, ℤ, pos, ◌-ℤ◌, ◌≤ℤ◌, ◌<ℤ◌, sym, ap, subst, ◌∙◌, arith, List, length, inl, inr}
use Rattle.std.specs.Prelude.{None, Some, All, slice_get, slice_set}
use Rattle.std.proofs.lemmas.Int.{ints, by_lt_z}
use Rattle.std.proofs.lemmas.Bool.{cases_eq}
use Rattle.std.proofs.lemmas.List.{length-set}
use Rattle.hyd_spec.specs.Assignment.{head_at}
use Rattle.hyd_spec_certificates.specs.declared.Problem.{Problem}
use Rattle.hyd_spec_certificates.specs.declared.Side.{Side}
use Rattle.hyd_spec_certificates.specs.PeriodNetwork.{Grid, GridJunction}
use Rattle.hyd_spec_certificates.specs.Certificate.{IsInBox, IsBeyond, IsCertificate}
use Rattle.hyd_spec_certificates.specs.StartsRaisesAndLeaps.{IsStart, Fails}
use Rattle.hyd_theorems_on_definitions.specs.SoundLawsAndGrids.{IsSteady}
use Rattle.hyd_theorems_on_definitions.specs.Sides.{along}
use Rattle.hyd_theorems_on_definitions.proofs.HeadsOfAllNodes.{IsGreatestBelow, greatest_below}
use Rattle.hyd_theorems_on_raises.proofs.WhereOneLiesBeyondByMost.{is-beyond, lead, fails-leading}
use Rattle.hyd_theorems_on_raises.proofs.RaisesAndTightVector.{beyond-self, set-here, set-there, set-in-box}
use Rattle.hyd_theorems_on_raises.proofs.RaisesInAnyOrder.{one-vector}
use Rattle.hyd_sweep.specs.Leaps.{nearer}
use Rattle.hyd_period_vectors.specs.WayToProposedHeads.{no_turn, one_turn, ComesInTurn, Leads, AreInTurn}
use Rattle.hyd_sweep.proofs.LeapsInTurn.{along-nearer}

module _ (grid : Grid) (problem : Problem) (side : Side) where
  -- before the first turn all heads are one tick nearer
  pub turns-begin : (v y : List ℤ) → length y ≡ length v → All IsInBox y → All IsInBox v
      → ((k : ℕ) → k < length v → head_at y k ≡ nearer side (head_at v k)) → AreInTurn grid problem side v y
  turns-begin v y long in-box to-in-box short = record {
    comes = record { before = y; one_each = long; in_box = in-box; short = short; turns = no_turn };
    one_each = long;
    in_box = in-box;
    to_in_box = to-in-box;
    near = λ k lt. inr (short k lt);
    less = λ w certificate most some leads i lt same.
        let e = ap (along side) (sym same ∙ short i lt) in
        let a = along-nearer side (head_at v i) in absurd (omega (arith, ints, e, a));
  }

  -- one turn more
  pub turns-more : (steady : IsSteady grid) (v y : List ℤ) (i : ℕ) (junction : GridJunction)
      → length v ≡ length grid.junctions → i < length v → slice_get grid.junctions i ≡ Some junction
      → Fails None grid problem side y i junction → AreInTurn grid problem side v y
      → AreInTurn grid problem side v (slice_set y i (head_at v i))
  turns-more steady v y i junction long inside at fails turns = record {
    comes = record {
      before = turns.comes.before;
      one_each = turns.comes.one_each;
      in_box = turns.comes.in_box;
      short = turns.comes.short;
      turns = one_turn i junction turns.comes.turns at fails;
    };
    one_each = length-set y i (head_at v i) ∙ turns.one_each;
    in_box = set-in-box y i (head_at v i) (turns.to_in_box i (pos 0) inside) turns.in_box;
    to_in_box = turns.to_in_box;
    near = λ k lt. elim (cases_eq k i) [
      | inl e ↦ inl (here k e)
      | inr ne ↦ elim (turns.near k lt) [
        | inl e ↦ inl (set-there y i k (head_at v i) ne ∙ e)
        | inr e ↦ inr (set-there y i k (head_at v i) ne ∙ e)
      ]
    ];
    less = λ w certificate most some leads k lt same. elim (cases_eq k i) [
      | inl e ↦ subst (λ (m : ℕ). Leads side v w (most -ℤ pos 1) m) (sym e) (own w certificate most some leads)
      | inr ne ↦ turns.less w certificate most some leads k lt (sym (set-there y i k (head_at v i) ne) ∙ same)
    ];
  }
    where
      here : (k : ℕ) → k ≡ i → head_at (slice_set y i (head_at v i)) k ≡ head_at v k
      here k e = subst (λ (m : ℕ). head_at (slice_set y i (head_at v i)) m ≡ head_at v m) (sym e)
          (set-here y i (head_at v i) (let l = turns.one_each in omega (arith, inside, l)))

      own : (w : List ℤ) → IsCertificate grid problem side w → (most : ℤ) → pos 1 ≤ℤ most
          → ((k : ℕ) → k < length v → Leads side v w most k) → Leads side v w (most -ℤ pos 1) i
      own w certificate most some leads = elim (turns.near i inside) [
        | inl e ↦ turns.less w certificate most some leads i inside e
        | inr e ↦ by_lt_z (most -ℤ pos 1) (lead side v w i)
            (λ lt. absurd (fails-leading grid steady problem None side y w i junction
            (turns.one_each ∙ (long ∙ sym certificate.one_each)) (let l = turns.one_each in omega (arith, inside, l))
            (let o = at-i e in omega (arith, ints, o, lt, some))
            (λ k within. led e lt k (let l = turns.one_each in omega (arith, within, l)))
            at fails (certificate.passes i junction at)))
            (λ le. le)
      ]
        where
          at-i : head_at y i ≡ nearer side (head_at v i) → lead side y w i ≡ lead side v w i -ℤ pos 1
          at-i e = let f = ap (along side) e in let a = along-nearer side (head_at v i) in omega (arith, ints, f, a)

          led : head_at y i ≡ nearer side (head_at v i) → (most -ℤ pos 1) <ℤ lead side v w i → (k : ℕ) → k < length v
              → lead side y w k ≤ℤ lead side y w i
          led e lt k within = elim (turns.near k within) [
            | inl same ↦ (
                let o = at-i e in
                let f = ap (along side) same in
                let l = turns.less w certificate most some leads k within same in omega (arith, ints, o, f, l, lt)
                )
            | inr short ↦ (
                let o = at-i e in
                let f = ap (along side) short in
                let a = along-nearer side (head_at v k) in
                let l = leads k within in omega (arith, ints, o, f, a, l, lt)
                )
          ]

  -- after the last one
  pub turns-end : (v y : List ℤ) → length v ≡ length grid.junctions → AreInTurn grid problem side v y
      → ((k : ℕ) → k < length v → head_at y k ≡ head_at v k) → IsStart None grid problem side y
  turns-end v y long turns same = record {
    one_each = turns.one_each ∙ long;
    in_box = turns.in_box;
    nearer = λ w certificate m lt.
        let l = turns.one_each in
        let within : m < length v = omega (arith, lt, l) in
        let e = ap (along side) (same m within) in
        let n = none w certificate m within in is-beyond side (head_at y m) (head_at w m) (omega (arith, ints, e, n));
  }
    where
      none : (w : List ℤ) → IsCertificate grid problem side w → (m : ℕ) → m < length v → lead side v w m ≤ℤ pos 0
      none w certificate m within = against (greatest_below (lead side v w) (length v) (omega (arith, within)))
        where
          against : ((i : ℕ) × IsGreatestBelow (lead side v w) (length v) i) → lead side v w m ≤ℤ pos 0
          against (i, best) = by_lt_z (pos 0) (lead side v w i)
              (λ lt. (
              let l = turns.less w certificate (lead side v w i) (omega (arith, ints, lt)) best.each i best.below
              (same i best.below) in
              absurd (omega (arith, ints, l))
              ))
              (λ le. (let b = best.each m within in omega (arith, ints, b, le)))

  -- the heads that it leads to are those that were proposed
  pub turns-come : (v y : List ℤ) → AreInTurn grid problem side v y
      → ((k : ℕ) → k < length v → head_at y k ≡ head_at v k) → ComesInTurn grid problem side y y
  turns-come v y turns same =
      let l = turns.one_each in
      let one : v ≡ y = one-vector side v y (sym l)
      (λ m lt. subst (λ (h : ℤ). IsBeyond side h (head_at y m)) (same m lt) (beyond-self side (head_at y m)))
      (λ m lt. subst (λ (h : ℤ). IsBeyond side (head_at y m) h) (same m (omega (arith, lt, l)))
      (beyond-self side (head_at y m))) in
      subst (λ (u : List ℤ). ComesInTurn grid problem side u y) one turns.comes
