-- Leaps in turn lead from a start to a start.
use Rattle.std.proofs.Common.{◌≡◌, ℕ, zero, suc, ◌+◌, ◌<◌, ◌≤◌, ℤ, pos, ◌-ℤ◌, ◌≤ℤ◌, ◌<ℤ◌, Bool, true, false, refl, sym}
use Rattle.std.proofs.Common.{ap, subst, ◌∙◌, arith, List, [], ◌∷◌, ◌==◌, length, inl, inr}
use Rattle.std.specs.Prelude.{Option, None, Some, MatchBool, slice_get, slice_set, if◌then◌else◌}
use Rattle.std.proofs.lemmas.Int.{ints}
use Rattle.std.proofs.lemmas.Bool.{cases_eq, cases_lt}
use Rattle.std.proofs.lemmas.List.{length-set}
use Rattle.hyd_spec.specs.Assignment.{head_at}
use Rattle.hyd_spec_certificates.specs.declared.Problem.{Problem}
use Rattle.hyd_spec_certificates.specs.declared.Side.{Side}
use Rattle.hyd_spec_certificates.specs.declared.Side.TheVariants.{Upper, Lower}
use Rattle.hyd_spec_certificates.specs.declared.HeldJunction.{HeldJunction}
use Rattle.hyd_spec_certificates.specs.PeriodNetwork.{Grid, GridJunction}
use Rattle.hyd_spec_certificates.specs.Certificate.{Passes, IsBeyond, IsCertificateHolding}
use Rattle.hyd_spec_certificates.specs.StartsRaisesAndLeaps.{IsStart, IsLeap, Fails}
use Rattle.hyd_theorems_on_definitions.specs.SoundLawsAndGrids.{IsSteady}
use Rattle.hyd_theorems_on_definitions.specs.Sides.{along}
use Rattle.hyd_theorems_on_definitions.proofs.HeadsOfAllNodes.{IsGreatestBelow, greatest_below}
use Rattle.hyd_lemmas.proofs.Integers.{same-or-not}
use Rattle.hyd_lemmas.proofs.ListsOptionsAndResults.{item_there}
use Rattle.hyd_theorems_on_raises.proofs.WhereOneLiesBeyondByMost.{beyond-is, lead, IsLeading, passes-leading}
use Rattle.hyd_theorems_on_raises.proofs.WhereOneLiesBeyondByMost.{fails-leading}
use Rattle.hyd_theorems_on_raises.proofs.RaisesAndTightVector.{beyond-self, by-beyond, set-here, set-there}
use Rattle.hyd_theorems_on_raises.proofs.RaisesInAnyOrder.{one-vector, vector-self, vector-trans}
use Rattle.hyd_sweep.specs.Leaps.{nearer, IsTurn, IsLeapInTurn, LeapsLeadTo}

pub along-nearer : (side : Side) (h : ℤ) → along side (nearer side h) ≡ along side h -ℤ pos 1
along-nearer Upper h = refl
along-nearer Lower h = omega (arith, ints)

-- ---- the heads at a turn

module _ (side : Side) where
  -- there are such heads
  pub turn-of : (u v : List ℤ) (i : ℕ) → length v ≡ length u → (y : List ℤ) × IsTurn side u v y i
  turn-of [] [] i same = (
    [],
    record {
      one_each = refl;
      before = λ m lt. refl;
      still = λ m le e. refl;
      short = λ m le ne. absurd (ne refl);
    },
  )
  turn-of [] (b ∷ v) i same = absurd (omega (arith, same))
  turn-of (a ∷ u) [] i same = absurd (omega (arith, same))
  turn-of (a ∷ u) (b ∷ v) (suc i) same =
      let rest = turn-of u v i (omega (arith, same)) in
      let turn = rest.1 in (
        b ∷ rest.0,
        record {
          one_each = (let e = turn.one_each in omega (arith, e));
          before = by turn;
          still = still turn;
          short = short turn;
        },
      )
    where
      by : {y : List ℤ} → IsTurn side u v y i → (m : ℕ) → m < suc i → head_at (b ∷ y) m ≡ head_at (b ∷ v) m
      by turn zero lt = refl
      by turn (suc m) lt = turn.before m (omega (arith, lt))

      still : {y : List ℤ} → IsTurn side u v y i → (m : ℕ) → suc i ≤ m → head_at (b ∷ v) m ≡ head_at (a ∷ u) m
          → head_at (b ∷ y) m ≡ head_at (b ∷ v) m
      still turn zero le e = absurd (omega (arith, le))
      still turn (suc m) le e = turn.still m (omega (arith, le)) e

      short : {y : List ℤ} → IsTurn side u v y i → (m : ℕ) → suc i ≤ m → (head_at (b ∷ v) m ≡ head_at (a ∷ u) m → ⊥)
          → head_at (b ∷ y) m ≡ nearer side (head_at (b ∷ v) m)
      short turn zero le ne = absurd (omega (arith, le))
      short turn (suc m) le ne = turn.short m (omega (arith, le)) ne
  turn-of (a ∷ u) (b ∷ v) zero same =
      let rest = turn-of u v zero (omega (arith, same)) in
      let turn = rest.1 in
      elim (same-or-not b a) [
        | inl e ↦ (
          b ∷ rest.0,
          record {
            one_each = (let l = turn.one_each in omega (arith, l));
            before = λ m lt. absurd (omega (arith, lt));
            still = still turn;
            short = short-still turn e;
          },
        )
        | inr ne ↦ (
          nearer side b ∷ rest.0,
          record {
            one_each = (let l = turn.one_each in omega (arith, l));
            before = λ m lt. absurd (omega (arith, lt));
            still = still-short turn ne;
            short = short turn;
          },
        )
      ]
    where
      still : {y : List ℤ} → IsTurn side u v y zero → (m : ℕ) → 0 ≤ m → head_at (b ∷ v) m ≡ head_at (a ∷ u) m
          → head_at (b ∷ y) m ≡ head_at (b ∷ v) m
      still turn zero le e = refl
      still turn (suc m) le e = turn.still m (omega arith) e

      short-still : {y : List ℤ} → IsTurn side u v y zero → b ≡ a → (m : ℕ) → 0 ≤ m
          → (head_at (b ∷ v) m ≡ head_at (a ∷ u) m → ⊥) → head_at (b ∷ y) m ≡ nearer side (head_at (b ∷ v) m)
      short-still turn e zero le ne = absurd (ne e)
      short-still turn e (suc m) le ne = turn.short m (omega arith) ne

      still-short : {y : List ℤ} → IsTurn side u v y zero → (b ≡ a → ⊥) → (m : ℕ) → 0 ≤ m
          → head_at (b ∷ v) m ≡ head_at (a ∷ u) m → head_at (nearer side b ∷ y) m ≡ head_at (b ∷ v) m
      still-short turn ne zero le e = absurd (ne e)
      still-short turn ne (suc m) le e = turn.still m (omega arith) e

      short : {y : List ℤ} → IsTurn side u v y zero → (m : ℕ) → 0 ≤ m → (head_at (b ∷ v) m ≡ head_at (a ∷ u) m → ⊥)
          → head_at (nearer side b ∷ y) m ≡ nearer side (head_at (b ∷ v) m)
      short turn zero le ne = refl
      short turn (suc m) le ne = turn.short m (omega arith) ne

  turn-at : (u v y z : List ℤ) (i : ℕ) → IsTurn side u v y i → IsTurn side u v z i → (m : ℕ) → head_at y m ≡ head_at z m
  turn-at u v y z i a b m = elim (cases_lt m i) [
    | inl lt ↦ a.before m lt ∙ sym (b.before m lt)
    | inr ge ↦ elim (same-or-not (head_at v m) (head_at u m)) [
      | inl e ↦ a.still m ge e ∙ sym (b.still m ge e)
      | inr ne ↦ a.short m ge ne ∙ sym (b.short m ge ne)
    ]
  ]

  -- and one list of them
  pub one-turn : (u v y z : List ℤ) (i : ℕ) → IsTurn side u v y i → IsTurn side u v z i → y ≡ z
  one-turn u v y z i a b = one-vector side y z (a.one_each ∙ sym b.one_each)
      (λ m lt. subst (λ (h : ℤ). IsBeyond side (head_at y m) h) (turn-at u v y z i a b m)
      (beyond-self side (head_at y m)))
      (λ m lt. subst (λ (h : ℤ). IsBeyond side (head_at z m) h) (sym (turn-at u v y z i a b m))
      (beyond-self side (head_at z m)))

  -- the next turn
  pub turn-more : (u v y : List ℤ) (i : ℕ) → i < length v → IsTurn side u v y i
      → IsTurn side u v (slice_set y i (head_at v i)) (i + 1)
  turn-more u v y i inside turn = record {
    one_each = length-set y i (head_at v i) ∙ turn.one_each;
    before = λ m lt. elim (cases_eq m i) [
      | inl e ↦ subst (λ (k : ℕ). head_at (slice_set y i (head_at v i)) k ≡ head_at v k) (sym e)
          (set-here y i (head_at v i) (let l = turn.one_each in omega (arith, inside, l)))
      | inr ne ↦ set-there y i m (head_at v i) ne ∙ turn.before m (omega (arith, lt, ne))
    ];
    still = λ m le e. set-there y i m (head_at v i) (λ is. absurd (omega (arith, le, is)))
        ∙ turn.still m (omega (arith, le)) e;
    short = λ m le ne. set-there y i m (head_at v i) (λ is. absurd (omega (arith, le, is)))
        ∙ turn.short m (omega (arith, le)) ne;
  }

  -- after the last one
  pub turn-last : (u v y : List ℤ) → IsTurn side u v y (length v) → y ≡ v
  turn-last u v y turn = one-vector side y v turn.one_each
      (λ m lt. subst (λ (h : ℤ). IsBeyond side (head_at y m) h) (turn.before m (let l = turn.one_each in
      omega (arith, lt, l))) (beyond-self side (head_at y m)))
      (λ m lt. subst (λ (h : ℤ). IsBeyond side (head_at v m) h) (sym (turn.before m lt))
      (beyond-self side (head_at v m)))

-- ---- starts

module _ (held : Option HeldJunction) (grid : Grid) (steady : IsSteady grid) (problem : Problem) (side : Side) where
  pub start-in-turn : (u v : List ℤ) → IsStart held grid problem side u → IsLeapInTurn held grid problem side u v
      → IsStart held grid problem side v
  start-in-turn u v start leap = record {
    one_each = leap.one_each ∙ start.one_each;
    in_box = leap.in_box;
    nearer = λ w certificate m lt. by-beyond side (head_at v m) (head_at w m) (λ beyond. beyond)
        (λ ahead. absurd (none w certificate m lt ahead));
  }
    where
      -- where w is a certificate that v passes by, take the first junction at which v leads it by most
      none : (w : List ℤ) → IsCertificateHolding held grid problem side w → (m : ℕ) → m < length v
          → along side (head_at w m) <ℤ along side (head_at v m) → ⊥
      none w certificate m lt ahead = against (greatest_below (lead side v w) (length v) (omega (arith, lt)))
        where
          near : (k : ℕ) → k < length v → along side (head_at u k) ≤ℤ along side (head_at w k)
          near k inside = beyond-is side (head_at u k) (head_at w k)
              (start.nearer w certificate k (let l = leap.one_each in omega (arith, inside, l)))

          against : (i : ℕ) × IsGreatestBelow (lead side v w) (length v) i → ⊥
          against (i, best) =
              let inside = best.below in
              let most = best.each m lt in
              let long = leap.one_each in let other = start.one_each in
              let at = item_there grid.junctions i (omega (arith, inside, long, other)) in
              elim (same-or-not (head_at v i) (head_at u i)) [
                | inl e ↦ stays e
                | inr moved ↦ elim (leap.moves i (omega (arith, inside, long)) at.0 at.1) [
                  | inl e ↦ stays e
                  | inr fails ↦ (
                      let turn = turn-of side u v i leap.one_each in
                      fails-leading grid steady problem held side turn.0 w i at.0
                      (turn.1.one_each ∙ (leap.one_each ∙ (start.one_each ∙ sym certificate.one_each)))
                      (let l = turn.1.one_each in omega (arith, inside, l))
                      (let o = own turn.0 turn.1 moved in omega (arith, ints, o, most, ahead))
                      (λ k within. led turn.0 turn.1 moved k (let l = turn.1.one_each in omega (arith, within, l)))
                      at.1 (fails turn.0 turn.1) (certificate.passes i at.0 at.1)
                      )
                ]
              ]
            where
              stays : head_at v i ≡ head_at u i → ⊥
              stays e =
                  let inside = best.below in
                  let most = best.each m lt in
                  let f = ap (along side) e in let n = near i inside in absurd (omega (arith, ints, f, n, most, ahead))

              own : (y : List ℤ) → IsTurn side u v y i → (head_at v i ≡ head_at u i → ⊥)
                  → lead side y w i ≡ lead side v w i -ℤ pos 1
              own y turn moved =
                  let e = ap (along side) (turn.short i (omega arith) moved) in
                  let a = along-nearer side (head_at v i) in
                  omega (arith, ints, e, a)

              led : (y : List ℤ) → IsTurn side u v y i → (head_at v i ≡ head_at u i → ⊥) → (k : ℕ) → k < length v
                  → lead side y w k ≤ℤ lead side y w i
              led y turn moved k within = elim (cases_lt k i) [
                | inl before ↦ (
                    let o = own y turn moved in
                    let e = ap (along side) (turn.before k before) in
                    let b = best.before k before in omega (arith, ints, o, e, b)
                    )
                | inr after ↦ elim (same-or-not (head_at v k) (head_at u k)) [
                  | inl e ↦ (
                      let o = own y turn moved in
                      let f = ap (along side) (turn.still k after e ∙ e) in
                      let n = near k within in
                      let most = best.each m lt in omega (arith, ints, o, f, n, most, ahead)
                      )
                  | inr ne ↦ (
                      let o = own y turn moved in
                      let f = ap (along side) (turn.short k after ne) in
                      let a = along-nearer side (head_at v k) in
                      let most = best.each k within in omega (arith, ints, o, f, a, most)
                      )
                ]
              ]

  -- a junction that fails at v fails where v leads by most
  fails-back : (v y : List ℤ) (i : ℕ) (junction : GridJunction) → IsLeading grid steady problem side v y i
      → slice_get grid.junctions i ≡ Some junction → Fails held grid problem side v i junction
      → Fails held grid problem side y i junction
  fails-back v y i junction leading at fails = by held fails
    where
      by-test : (b : Bool) → MatchBool b ⊥ (Passes grid problem side v i junction → ⊥)
          → MatchBool b ⊥ (Passes grid problem side y i junction → ⊥)
      by-test true is = is
      by-test false is = λ passes. is (passes-leading grid steady problem side v y i junction leading at passes)

      by : (some : Option HeldJunction) → Fails some grid problem side v i junction
          → Fails some grid problem side y i junction
      by None is = λ passes. is (passes-leading grid steady problem side v y i junction leading at passes)
      by (Some h) is = by-test (h.junction == i) is

  -- a vector at which all that move fail is a leap in turn
  pub in-turn : (u v : List ℤ) → IsLeap held grid problem side u v → IsLeapInTurn held grid problem side u v
  in-turn u v leap = record {
    one_each = leap.one_each;
    in_box = leap.in_box;
    beyond = leap.beyond;
    moves = λ i lt junction at. elim (same-or-not (head_at v i) (head_at u i)) [
      | inl e ↦ inl e
      | inr moved ↦ elim (leap.fails i junction at) [
        | inl e ↦ inl e
        | inr fails ↦ inr (λ y turn. fails-back v y i junction (leading i lt moved y turn) at fails)
      ]
    ];
  }
    where
      own : (i : ℕ) → (head_at v i ≡ head_at u i → ⊥) → (y : List ℤ) → IsTurn side u v y i → lead side v y i ≡ pos 1
      own i moved y turn =
          let e = ap (along side) (turn.short i (omega arith) moved) in
          let a = along-nearer side (head_at v i) in
          omega (arith, ints, e, a)

      near : (i : ℕ) (y : List ℤ) → IsTurn side u v y i → (m : ℕ) → lead side v y m ≤ℤ pos 1
      near i y turn m = elim (cases_lt m i) [
        | inl before ↦ let e = ap (along side) (turn.before m before) in omega (arith, ints, e)
        | inr after ↦ elim (same-or-not (head_at v m) (head_at u m)) [
          | inl e ↦ let f = ap (along side) (turn.still m after e) in omega (arith, ints, f)
          | inr ne ↦ (let f = ap (along side) (turn.short m after ne) in let a = along-nearer side (head_at v m) in
              omega (arith, ints, f, a))
        ]
      ]

      leading : (i : ℕ) → i < length u → (head_at v i ≡ head_at u i → ⊥) → (y : List ℤ) → IsTurn side u v y i
          → IsLeading grid steady problem side v y i
      leading i lt moved y turn = record {
        same = sym turn.one_each;
        inside = (let l = leap.one_each in omega (arith, lt, l));
        ahead = (let o = own i moved y turn in omega (arith, ints, o));
        most = λ m within. (let o = own i moved y turn in let n = near i y turn m in omega (arith, ints, o, n));
      }

  -- ---- leaps one after another

  pub leads-self : (u : List ℤ) → LeapsLeadTo held grid problem side u u
  leads-self u = record { one_each = refl; in_box = λ is. is; beyond = vector-self side u; start = λ is. is }

  pub leads-leap : (first u v : List ℤ) → LeapsLeadTo held grid problem side first u
      → IsLeapInTurn held grid problem side u v
      → LeapsLeadTo held grid problem side first v
  leads-leap first u v so_far leap = record {
    one_each = leap.one_each ∙ so_far.one_each;
    in_box = λ is. leap.in_box;
    beyond = vector-trans side first u v (sym so_far.one_each) so_far.beyond leap.beyond;
    start = λ is. start-in-turn u v (so_far.start is) leap;
  }

  -- after a leap that was taken or not
  pub leads-more : (first u to new : List ℤ) (taken : Bool) → LeapsLeadTo held grid problem side first u
      → (taken ≡ true → IsLeapInTurn held grid problem side u to) → new ≡ (if taken then to else u)
      → LeapsLeadTo held grid problem side first new
  leads-more first u to new true so_far leap e = subst (λ (v : List ℤ). LeapsLeadTo held grid problem side first v)
      (sym e) (leads-leap first u to so_far (leap refl))
  leads-more first u to new false so_far leap e = subst (λ (v : List ℤ). LeapsLeadTo held grid problem side first v)
      (sym e) so_far
