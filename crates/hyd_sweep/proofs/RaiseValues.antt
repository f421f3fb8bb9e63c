-- To which head a raise puts a junction, and that it is the nearest.
use Rattle.std.proofs.Common.{◌≡◌, ◌≢◌, ℕ, ◌<◌, ◌≤◌, ℤ, pos, ◌+ℤ◌, ◌-ℤ◌, ◌≤ℤ◌, refl, sym, ap, subst, ◌∙◌, arith, Bool}
use Rattle.std.proofs.Common.{true, false, ◌==◌, List, length, inl, inr}
use Rattle.std.specs.Prelude.{Some, None, Option, slice_get, slice_set, unsigned_abs, MatchBool}
use Rattle.std.proofs.lemmas.Int.{ints}
use Rattle.std.proofs.lemmas.Bool.{cases_eq, cases_lt}
use Rattle.std.proofs.lemmas.List.{length-set}
use Rattle.hyd_spec_certificates.specs.declared.Side.{Side}
use Rattle.hyd_spec_certificates.specs.declared.Side.TheVariants.{Upper, Lower}
use Rattle.hyd_spec_certificates.specs.declared.Problem.{Problem}
use Rattle.hyd_spec_certificates.specs.declared.HeldJunction.{HeldJunction}
use Rattle.hyd_spec.specs.Assignment.{head_at}
use Rattle.hyd_spec_certificates.specs.PeriodNetwork.{Grid, GridJunction}
use Rattle.hyd_spec_certificates.specs.Certificate.{box_limit, IsInBox, Passes, Suits, IsBeyond, IsCandidateHolding}
use Rattle.hyd_theorems_on_definitions.specs.SoundLawsAndGrids.{IsSteady}
use Rattle.hyd_spec_certificates.specs.StartsRaisesAndLeaps.{Fails}
use Rattle.hyd_theorems_on_definitions.specs.Sides.{along}
use Rattle.hyd_vector_check.specs.NetOutflowBySide.{PassesWith}
use Rattle.hyd_theorems_on_raises.proofs.WhereOneLiesBeyondByMost.{beyond-is, is-beyond, lead, IsLeading}
use Rattle.hyd_theorems_on_raises.proofs.WhereOneLiesBeyondByMost.{passes-leading}
use Rattle.hyd_theorems_on_raises.proofs.RaisesAndTightVector.{set-here, set-there, along-one, along-ceiling}
use Rattle.hyd_theorems_on_raises.proofs.RaisesAndTightVector.{beyond-self}
use Rattle.hyd_sweep.specs.Sweeps.{IsFree, further, RaisesTo, HasNoValue}

pub along-further : (side : Side) (h : ℤ) (k : ℕ) → along side (further side h k) ≡ along side h +ℤ pos k
along-further Upper h k = refl
along-further Lower h k = omega (arith, ints)

box-along : (side : Side) (x y : ℤ) → IsInBox x → along side x ≤ℤ along side y → along side y ≤ℤ pos box_limit
    → IsInBox y
box-along Upper x y in_box le most = let a = in_box.above_floor in record {
  above_floor = omega (arith, ints, a, le);
  below_ceiling = most;
}
box-along Lower x y in_box le most = let a = in_box.below_ceiling in record {
  above_floor = omega (arith, ints, most);
  below_ceiling = omega (arith, ints, a, le);
}

module _ (held : Option HeldJunction) (grid : Grid) (steady : IsSteady grid) (problem : Problem) (side : Side)
    (u : List ℤ) (i : ℕ) (inside : i < length u) where
  -- what passes goes on passing
  pub passes-later : (h : ℤ) (j k : ℕ) → j ≤ k → PassesWith grid problem side u i (further side h j)
      → PassesWith grid problem side u i (further side h k)
  passes-later h j k le passes junction at = passes-leading grid steady problem side
      (slice_set u i (further side h k)) (slice_set u i (further side h j)) i junction leading at (passes junction at)
    where
      here : lead side (slice_set u i (further side h k)) (slice_set u i (further side h j)) i ≡ pos k -ℤ pos j
      here =
          let a = ap (along side) (set-here u i (further side h k) inside) in
          let b = ap (along side) (set-here u i (further side h j) inside) in
          let c = along-further side h k in let d = along-further side h j in omega (arith, ints, a, b, c, d)

      each : (m : ℕ) → lead side (slice_set u i (further side h k)) (slice_set u i (further side h j)) m
          ≤ℤ lead side (slice_set u i (further side h k)) (slice_set u i (further side h j)) i
      each m = elim (cases_eq m i) [
        | inl e ↦ subst (λ (n : ℕ). lead side (slice_set u i (further side h k)) (slice_set u i (further side h j)) n
            ≤ℤ lead side (slice_set u i (further side h k)) (slice_set u i (further side h j)) i) (sym e)
            (omega (arith, ints))
        | inr ne ↦ (let a = ap (along side) (set-there u i m (further side h k) ne) in
            let b = ap (along side) (set-there u i m (further side h j) ne) in omega (arith, ints, a, b, here, le))
      ]

      leading : IsLeading grid steady problem side (slice_set u i (further side h k))
          (slice_set u i (further side h j)) i
      leading = record {
        same = (let a = length-set u i (further side h k) in let b = length-set u i (further side h j) in
            omega (arith, a, b));
        inside = (let a = length-set u i (further side h k) in omega (arith, a, inside));
        ahead = omega (arith, ints, here, le);
        most = λ m lt. each m;
      }

  -- of a junction that isn't held it is asked that it passes
  pub free-suits : (v : List ℤ) (junction : GridJunction) → IsFree held i → Passes grid problem side v i junction
      → Suits held grid problem side v i junction
  free-suits v junction free passes = by held free
    where
      by-test : (a : ℕ) (b : Bool) (P : Type 0) → (a == i) ≡ b → a ≢ i
          → MatchBool b P (Passes grid problem side v i junction)
      by-test a true P e ne = absurd (ne (search (arith, e)))
      by-test a false P e ne = passes

      by : (some : Option HeldJunction) → IsFree some i → Suits some grid problem side v i junction
      by None is = passes
      by (Some h) ne = by-test h.junction (h.junction == i) (head_at v i ≡ h.head) refl ne

  pub suits-free : (v : List ℤ) (junction : GridJunction) → IsFree held i → Suits held grid problem side v i junction
      → Passes grid problem side v i junction
  suits-free v junction free suits = by held free suits
    where
      by-test : (a : ℕ) (b : Bool) (P : Type 0) → (a == i) ≡ b → a ≢ i
          → MatchBool b P (Passes grid problem side v i junction) → Passes grid problem side v i junction
      by-test a true P e ne is = absurd (ne (search (arith, e)))
      by-test a false P e ne is = is

      by : (some : Option HeldJunction) → IsFree some i → Suits some grid problem side v i junction
          → Passes grid problem side v i junction
      by None free is = is
      by (Some h) ne is = by-test h.junction (h.junction == i) (head_at v i ≡ h.head) refl ne is

  pub free-fails : (v : List ℤ) (junction : GridJunction) → IsFree held i
      → (Passes grid problem side v i junction → ⊥) → Fails held grid problem side v i junction
  free-fails v junction free fails = by held free
    where
      by-test : (a : ℕ) (b : Bool) → (a == i) ≡ b → a ≢ i → MatchBool b ⊥ (Passes grid problem side v i junction → ⊥)
      by-test a true e ne = ne (search (arith, e))
      by-test a false e ne = fails

      by : (some : Option HeldJunction) → IsFree some i → Fails some grid problem side v i junction
      by None is = fails
      by (Some h) ne = by-test h.junction (h.junction == i) refl ne

  pub fails-free : (v : List ℤ) (junction : GridJunction) → IsFree held i → Fails held grid problem side v i junction
      → Passes grid problem side v i junction → ⊥
  fails-free v junction free fails passes = by held free fails
    where
      by-test : (a : ℕ) (b : Bool) → (a == i) ≡ b → a ≢ i → MatchBool b ⊥ (Passes grid problem side v i junction → ⊥)
          → ⊥
      by-test a true e ne is = is
      by-test a false e ne is = is passes

      by : (some : Option HeldJunction) → IsFree some i → Fails some grid problem side v i junction → ⊥
      by None free is = is passes
      by (Some h) ne is = by-test h.junction (h.junction == i) refl ne is

  -- a held junction never fails
  pub held-stays : (h : ℤ) (v : List ℤ) (junction : GridJunction) → held ≡ Some (record {
    junction = i;
    head = h;
  }) → Fails held grid problem side v i junction → ⊥
  held-stays h v junction e =
      subst (λ (some : Option HeldJunction). Fails some grid problem side v i junction → ⊥) (sym e)
      (by (i == i) (let t : (i == i) ≡ true = search arith in t))
    where
      by : (b : Bool) → b ≡ true → MatchBool b ⊥ (Passes grid problem side v i junction → ⊥) → ⊥
      by true t is = is
      by false t is = absurd (cc)

  pub suits-there : (h : ℤ) (v : List ℤ) (junction : GridJunction) → held ≡ Some (record { junction = i; head = h })
      → (head_at v i ≡ h → Suits held grid problem side v i junction) × (Suits held grid problem side v i junction
      → head_at v i ≡ h)
  suits-there h v junction e =
      subst (λ (some : Option HeldJunction). (head_at v i ≡ h → Suits some grid problem side v i junction)
      × (Suits some grid problem side v i junction → head_at v i ≡ h)) (sym e)
      (by (i == i) (let t : (i == i) ≡ true = search arith in t))
    where
      by : (b : Bool) → b ≡ true → (head_at v i ≡ h → MatchBool b (head_at v i ≡ h)
          (Passes grid problem side v i junction)) × (MatchBool b (head_at v i ≡ h)
          (Passes grid problem side v i junction) → head_at v i ≡ h)
      by true t = ((λ x. x), (λ x. x))
      by false t = absurd (cc)

  record Offset (x : ℤ) : Type 0 where
    ticks : ℕ
    within : pos ticks ≤ℤ (pos box_limit -ℤ along side (head_at u i))
    is : x ≡ further side (head_at u i) ticks

  offset : (x : ℤ) → IsInBox x → IsBeyond side (head_at u i) x → Offset x
  offset x in_box beyond =
      let a = along-ceiling side x in_box in
      let b = beyond-is side (head_at u i) x beyond in
      let k = unsigned_abs (along side x -ℤ along side (head_at u i)) in
      let e = along-further side (head_at u i) k in
      record {
        ticks = k;
        within = omega (arith, ints, a, b);
        is = along-one side x (further side (head_at u i) k) (omega (arith, ints, b, e));
      }

  passing : (junction : GridJunction) (x : ℤ) → slice_get grid.junctions i ≡ Some junction → IsFree held i
      → IsCandidateHolding held grid problem side u i junction x → PassesWith grid problem side u i x
  passing junction x at free is other there =
      let same : ◌≡◌ {A = Option GridJunction} (Some junction) (Some other) = sym at ∙ there in
      let e : junction ≡ other = cc in
      subst (λ (j : GridJunction). Passes grid problem side (slice_set u i x) i j) e
      (suits-free (slice_set u i x) junction free is.passes)

  pub free-raise : (n room : ℕ) → IsFree held i → IsInBox (head_at u i)
      → pos room ≡ pos box_limit -ℤ along side (head_at u i) → n ≤ room
      → ((k : ℕ) → k < n → PassesWith grid problem side u i (further side (head_at u i) k) → ⊥)
      → PassesWith grid problem side u i (further side (head_at u i) n)
      → RaisesTo held grid problem side u i (further side (head_at u i) n)
  free-raise n room free in_box is le before passes junction at =
      let e = along-further side (head_at u i) n in
      record {
        is_candidate = record {
          in_box = box-along side (head_at u i) (further side (head_at u i) n) in_box (omega (arith, ints, e))
              (omega (arith, ints, e, is, le));
          beyond = is-beyond side (head_at u i) (further side (head_at u i) n) (omega (arith, ints, e));
          passes = free-suits (slice_set u i (further side (head_at u i) n)) junction free (passes junction at);
        };
        nearest = λ y other.
            let o = offset y other.in_box other.beyond in
            let p = subst (λ (x : ℤ). PassesWith grid problem side u i x) o.is (passing junction y at free other) in
            let f = along-further side (head_at u i) o.ticks in
            let g = ap (along side) o.is in
            let least : n ≤ o.ticks = elim (cases_lt o.ticks n) [
              | inl lt ↦ absurd (before o.ticks lt p)
              | inr ge ↦ ge
            ] in
            is-beyond side (further side (head_at u i) n) y (omega (arith, ints, e, f, g, least));
      }

  pub free-none : (room : ℕ) → IsFree held i → pos room ≡ pos box_limit -ℤ along side (head_at u i)
      → ((k : ℕ) → k ≤ room → PassesWith grid problem side u i (further side (head_at u i) k) → ⊥)
      → HasNoValue held grid problem side u i
  free-none room free is before junction at x candidate =
      let o = offset x candidate.in_box candidate.beyond in
      let w = o.within in
      before o.ticks (omega (arith, ints, w, is)) (subst (λ (y : ℤ). PassesWith grid problem side u i y) o.is
      (passing junction x at free candidate))

  -- ---- a held junction

  suits-held : (h : HeldJunction) (x : ℤ) (junction : GridJunction) → h.junction ≡ i → x ≡ h.head
      → Suits (Some h) grid problem side (slice_set u i x) i junction
  suits-held h x junction e same = by (h.junction == i) (let t : (h.junction == i) ≡ true = search (arith, e) in t)
    where
      by : (b : Bool) → b ≡ true → MatchBool b (head_at (slice_set u i x) i ≡ h.head)
          (Passes grid problem side (slice_set u i x) i junction)
      by true t = set-here u i x inside ∙ same
      by false t = absurd (cc)

  held-suits : (h : HeldJunction) (x : ℤ) (junction : GridJunction) → h.junction ≡ i
      → Suits (Some h) grid problem side (slice_set u i x) i junction → x ≡ h.head
  held-suits h x junction e suits = by (h.junction == i) (let t : (h.junction == i) ≡ true = search (arith, e) in
      t) suits
    where
      by : (b : Bool) → b ≡ true → MatchBool b (head_at (slice_set u i x) i ≡ h.head)
          (Passes grid problem side (slice_set u i x) i junction) → x ≡ h.head
      by true t is = sym (set-here u i x inside) ∙ is
      by false t is = absurd (cc)

  pub held-raise : (h : HeldJunction) → h.junction ≡ i → IsInBox h.head → IsBeyond side (head_at u i) h.head
      → RaisesTo (Some h) grid problem side u i h.head
  held-raise h e in_box beyond junction at = record {
    is_candidate = record { in_box = in_box; beyond = beyond; passes = suits-held h h.head junction e refl };
    nearest = λ y is. subst (λ (x : ℤ). IsBeyond side h.head x) (sym (held-suits h y junction e is.passes))
        (beyond-self side h.head);
  }

  pub held-none : (h : HeldJunction) → h.junction ≡ i → (IsBeyond side (head_at u i) h.head → ⊥)
      → HasNoValue (Some h) grid problem side u i
  held-none h e not junction at x is = not (subst (λ (y : ℤ). IsBeyond side (head_at u i) y)
      (held-suits h x junction e is.passes) is.beyond)
