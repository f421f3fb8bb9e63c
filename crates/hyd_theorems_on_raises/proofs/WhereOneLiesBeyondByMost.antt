-- Where one vector lies beyond another by most, whatever passes there under the other passes under it.
use Rattle.std.proofs.Common.{◌≡◌, ℕ, zero, suc, ◌<◌, ℤ, pos, ◌-ℤ◌, ◌≤ℤ◌, refl, arith, Bool, true, false, ◌==◌, List}
use Rattle.std.proofs.Common.{[], ◌∷◌, ◌++◌, length}
use Rattle.std.specs.Prelude.{Some, None, Option, slice_get, MatchBool}
use Rattle.std.proofs.lemmas.Int.{ints}
use Rattle.hyd_spec_certificates.specs.declared.Side.{Side}
use Rattle.hyd_spec_certificates.specs.declared.Side.TheVariants.{Upper, Lower}
use Rattle.hyd_spec_certificates.specs.declared.Problem.{Problem}
use Rattle.hyd_spec_certificates.specs.declared.HeldJunction.{HeldJunction}
use Rattle.hyd_spec.specs.Assignment.{head_at}
use Rattle.hyd_spec_certificates.specs.EnclosingFunctions.{low, high}
use Rattle.hyd_spec_certificates.specs.PeriodNetwork.{Grid, GridJunction, all_heads, fixed_heads}
use Rattle.hyd_spec_certificates.specs.Certificate.{Passes, Suits, IsBeyond}
use Rattle.hyd_spec_certificates.specs.StartsRaisesAndLeaps.{LiesBeyond, Fails}
use Rattle.hyd_theorems_on_definitions.specs.SoundLawsAndGrids.{IsSteady}
use Rattle.hyd_theorems_on_definitions.proofs.HeadsOfAllNodes.{head_front}
use Rattle.hyd_theorems_on_definitions.proofs.NetOutflowsRise.{IsTop, net-rises, low-rises, high-rises}
use Rattle.hyd_theorems_on_definitions.proofs.NetOutflowsRise.{outflow-low-rises}
use Rattle.hyd_theorems_on_definitions.proofs.NetOutflowsRise.{outflow-high-rises, demand-at}
use Rattle.hyd_theorems_on_definitions.specs.Sides.{along}

-- ---- the two sides

pub beyond-is : (side : Side) (y x : ℤ) → IsBeyond side y x → along side y ≤ℤ along side x
beyond-is Upper y x le = le
beyond-is Lower y x le = omega (arith, ints, le)

pub is-beyond : (side : Side) (y x : ℤ) → along side y ≤ℤ along side x → IsBeyond side y x
is-beyond Upper y x le = le
is-beyond Lower y x le = omega (arith, ints, le)

-- how far v lies beyond w at a place
abbrev pub lead : Side → List ℤ → List ℤ → ℕ → ℤ
lead side v w m = along side (head_at v m) -ℤ along side (head_at w m)

-- the lead at junctions bounds that at all nodes, since fixed heads are the same
pub lead-after : (side : Side) (v w fixed : List ℤ) (t : ℤ) → length v ≡ length w → pos 0 ≤ℤ t →
    ((m : ℕ) → m < length v → lead side v w m ≤ℤ t)
    → (m : ℕ) → lead side (v ++ fixed) (w ++ fixed) m ≤ℤ t
lead-after side [] [] fixed t same room each m = omega (arith, ints, room)
lead-after side [] (y ∷ w) fixed t same room each m = absurd (omega (arith, same))
lead-after side (x ∷ v) [] fixed t same room each m = absurd (omega (arith, same))
lead-after side (x ∷ v) (y ∷ w) fixed t same room each zero = each 0 (omega arith)
lead-after side (x ∷ v) (y ∷ w) fixed t same room each (suc m) = lead-after side v w fixed t
    (omega (arith, same)) room (λ k lt. each (suc k) (omega (arith, lt))) m

module _ (grid : Grid) (steady : IsSteady grid) (problem : Problem) where
  -- v leads w by most at junction i, and by at least nothing
  pub record IsLeading (side : Side) (v w : List ℤ) (i : ℕ) : Type 0 where
    pub same : length v ≡ length w
    pub inside : i < length v
    pub ahead : pos 0 ≤ℤ lead side v w i
    pub most : (m : ℕ) → m < length v → lead side v w m ≤ℤ lead side v w i

  all-lead : (side : Side) (v w fixed : List ℤ) (i : ℕ) → IsLeading side v w i → (m : ℕ) → lead side (v ++ fixed)
      (w ++ fixed) m ≤ℤ lead side (v ++ fixed) (w ++ fixed) i
  all-lead side v w fixed i leading m =
      let e = lead-after side v w fixed (lead side v w i) leading.same leading.ahead leading.most m in
      rw (
        head_front v fixed i leading.inside,
        head_front w fixed i
            (let a = leading.inside in let b = leading.same in omega (arith, a, b)),
      ) e

  pub passes-leading : (side : Side) (v w : List ℤ) (i : ℕ) (junction : GridJunction) → IsLeading side v w i
      → slice_get grid.junctions i ≡ Some junction
      → Passes grid problem side w i junction → Passes grid problem side v i junction
  passes-leading Upper v w i junction leading at passes =
      let all = all-lead Upper v w (fixed_heads grid problem Upper) i leading in
      let top : IsTop (all_heads grid problem Upper v) (all_heads grid problem Upper w) i = λ m. all m in
      let flows = net-rises low high low-rises high-rises (all_heads grid problem Upper w)
      (all_heads grid problem Upper v) i top grid.links steady.sound.links in
      let ahead = leading.ahead in
      let leaves = outflow-low-rises junction (head_at w i) (head_at v i)
      (demand-at grid.junctions i junction steady.demands at) (omega (arith, ints, ahead)) in
      omega (arith, ints, flows, passes, leaves)
  passes-leading Lower v w i junction leading at passes =
      let all = all-lead Lower v w (fixed_heads grid problem Lower) i leading in
      let top : IsTop (all_heads grid problem Lower w) (all_heads grid problem Lower v) i = λ m.
      (let a = all m in omega (arith, ints, a)) in
      let flows = net-rises high low high-rises low-rises (all_heads grid problem Lower v)
      (all_heads grid problem Lower w) i top grid.links steady.sound.links in
      let ahead = leading.ahead in
      let leaves = outflow-high-rises junction (head_at v i) (head_at w i)
      (demand-at grid.junctions i junction steady.demands at) (omega (arith, ints, ahead)) in
      omega (arith, ints, flows, passes, leaves)

  -- ---- what is asked of a junction

  -- it holds under v too where v is nearer and has the same head there
  pub suits-nearer : (held : Option HeldJunction) (side : Side) (v w : List ℤ) (i : ℕ) (junction : GridJunction)
      → length v ≡ length w → i < length v → LiesBeyond side v w → head_at v i ≡ head_at w i
      → slice_get grid.junctions i ≡ Some junction → Suits held grid problem side w i junction
      → Suits held grid problem side v i junction
  suits-nearer held side v w i junction same inside beyond meets at = by held
    where
      alike : along side (head_at v i) ≡ along side (head_at w i)
      alike = rw meets refl

      leading : IsLeading side v w i
      leading = record {
        same = same;
        inside = inside;
        ahead = omega (arith, ints, alike);
        most = λ m lt. let b = beyond-is side (head_at v m) (head_at w m) (beyond m lt) in omega
            (arith, ints, alike, b);
      }

      by-test : (b : Bool) (h : ℤ) → MatchBool b (head_at w i ≡ h) (Passes grid problem side w i junction)
          → MatchBool b (head_at v i ≡ h) (Passes grid problem side v i junction)
      by-test true h is = rw meets is
      by-test false h is = passes-leading side v w i junction leading at is

      by : (held : Option HeldJunction) → Suits held grid problem side w i junction
          → Suits held grid problem side v i junction
      by None is = passes-leading side v w i junction leading at is
      by (Some h) is = by-test (h.junction == i) h.head is

  -- and where v leads w by most, it holds under w at no junction that fails under v
  pub fails-leading : (held : Option HeldJunction) (side : Side) (v w : List ℤ) (i : ℕ) (junction : GridJunction)
      → length v ≡ length w → i < length v → pos 0 ≤ℤ lead side v w i
      → ((m : ℕ) → m < length v → lead side v w m ≤ℤ lead side v w i)
      → slice_get grid.junctions i ≡ Some junction → Fails held grid problem side v i junction
      → Suits held grid problem side w i junction → ⊥
  fails-leading held side v w i junction same inside ahead most at = by held
    where
      leading : IsLeading side v w i
      leading = record { same = same; inside = inside; ahead = ahead; most = most }

      by-test : (b : Bool) (P : Type 0) → MatchBool b ⊥ (Passes grid problem side v i junction → ⊥) → MatchBool b P
          (Passes grid problem side w i junction) → ⊥
      by-test true P missed is = missed
      by-test false P missed is = missed (passes-leading side v w i junction leading at is)

      by : (held : Option HeldJunction) → Fails held grid problem side v i junction
          → Suits held grid problem side w i junction → ⊥
      by None missed is = missed (passes-leading side v w i junction leading at is)
      by (Some h) missed is = by-test (h.junction == i) (head_at w i ≡ h.head) missed is
