-- Where no link joins two junctions one round leads to a certificate.
use Rattle.std.proofs.Common.{◌≡◌, ℕ, zero, suc, ◌<◌, ◌≤◌, ℤ, pos, ◌-ℤ◌, refl, sym, ap, subst, ◌∙◌, arith, Bool, true}
use Rattle.std.proofs.Common.{false, ◌==◌, List, [], ◌∷◌, ◌++◌, length, inl, inr}
use Rattle.std.specs.Prelude.{Some, None, Option, slice_get, slice_set, MatchBool}
use Rattle.std.specs.List.{AllByRecursion}
use Rattle.std.proofs.lemmas.Int.{ints}
use Rattle.std.proofs.lemmas.Bool.{cases_lt}
use Rattle.std.proofs.lemmas.Option.{slice_get_within}
use Rattle.std.proofs.lemmas.List.{length-set, get_or_default}
use Rattle.hyd_spec.specs.Law.{Law}
use Rattle.hyd_spec_certificates.specs.declared.Side.{Side}
use Rattle.hyd_spec_certificates.specs.declared.Side.TheVariants.{Upper, Lower}
use Rattle.hyd_spec_certificates.specs.declared.Problem.{Problem}
use Rattle.hyd_spec_certificates.specs.declared.HeldJunction.{HeldJunction}
use Rattle.hyd_spec.specs.Assignment.{head_at, where_so}
use Rattle.hyd_spec_certificates.specs.EnclosingFunctions.{low, high}
use Rattle.hyd_spec_certificates.specs.PeriodNetwork.{Grid, GridLink, GridJunction, all_heads, fixed_heads}
use Rattle.hyd_spec_certificates.specs.NetOutflow.{net, outflow_low, outflow_high}
use Rattle.hyd_spec_certificates.specs.Certificate.{IsInBox, Passes, Suits, IsCertificateHolding, IsRoundHolding}
use Rattle.hyd_theorems_on_definitions.proofs.HeadsOfAllNodes.{head_front}
use Rattle.hyd_spec_certificates.specs.StartsRaisesAndLeaps.{JoinsNone}
use Rattle.hyd_theorems_on_raises.proofs.RaisesAndTightVector.{set-here}
use Rattle.hyd_lemmas.proofs.ListsOptionsAndResults.{item_there}

past-same : (xs ys fixed : List ℤ) (m : ℕ) → length xs ≡ length ys → length xs ≤ m → head_at
    (xs ++ fixed) m ≡ head_at (ys ++ fixed) m
past-same [] [] fixed m same le = refl
past-same [] (y ∷ ys) fixed m same le = absurd (omega (arith, same))
past-same (x ∷ xs) [] fixed m same le = absurd (omega (arith, same))
past-same (x ∷ xs) (y ∷ ys) fixed zero same le = absurd (omega (arith, le))
past-same (x ∷ xs) (y ∷ ys) fixed (suc m) same le = past-same xs ys fixed m (omega (arith, same)) (omega (arith, le))

where-same : (b : Bool) (p q : ℤ) → (b ≡ true → p ≡ q) → where_so b p ≡ where_so b q
where-same true p q e = e refl
where-same false p q e = refl

net-same : (out into : Law → ℤ → ℤ) (n i : ℕ) (u v : List ℤ) (links : List GridLink) → i < n
    → head_at u i ≡ head_at v i → ((m : ℕ) → n ≤ m → head_at u m ≡ head_at v m) → AllByRecursion (JoinsNone n) links
    → net out into u i links ≡ net out into v i links
net-same out into n i u v [] lt here fixed none = refl
net-same out into n i u v (link ∷ links) lt here fixed none =
    let a = where-same (link.from == i) (out link.law (head_at u i -ℤ head_at u link.to))
    (out link.law (head_at v i -ℤ head_at v link.to)) (λ e.
    let from : link.from ≡ i = search (arith, e) in
    let far : n ≤ link.to = (elim (cases_lt link.to n) [
      | inl less ↦ absurd
          (none.0 (omega (arith, from, lt)) less)
      | inr ge ↦ ge
    ]) in
    let f = fixed link.to far in
    ap (out link.law) (omega (arith, ints, here, f))) in
    let b = where-same (link.to == i) (into link.law (head_at u link.from -ℤ head_at u i))
    (into link.law (head_at v link.from -ℤ head_at v i)) (λ e.
    let to : link.to ≡ i = search (arith, e) in
    let far : n ≤ link.from = (elim (cases_lt link.from n) [
      | inl less ↦ absurd
          (none.0 less (omega (arith, to, lt)))
      | inr ge ↦ ge
    ]) in
    let f = fixed link.from far in
    ap (into link.law) (omega (arith, ints, here, f))) in
    let r = net-same out into n i u v links lt here fixed none.1 in
    omega (arith, ints, a, b, r)

module _ (held : Option HeldJunction) (grid : Grid) (problem : Problem) (side : Side)
    (none : AllByRecursion (JoinsNone (length grid.junctions)) grid.links) where
  passes-alike : (s : Side) (u v : List ℤ) (i : ℕ) (junction : GridJunction) → length u ≡ length grid.junctions
      → length v ≡ length grid.junctions → i < length u → head_at u i ≡ head_at v i
      → Passes grid problem s u i junction → Passes grid problem s v i junction
  passes-alike Upper u v i junction long other inside same passes =
      let front = head_front u (fixed_heads grid problem Upper) i inside ∙
      (same ∙ sym (head_front v (fixed_heads grid problem Upper) i (omega (arith, inside, long, other)))) in
      let flows = net-same low high (length grid.junctions) i (all_heads grid problem Upper u)
      (all_heads grid problem Upper v) grid.links (omega (arith, inside, long)) front
      (λ m le. past-same u v (fixed_heads grid problem Upper) m (long ∙ sym other) (omega (arith, le, long))) none in
      let leaves = ap (outflow_low junction) same in
      omega (arith, ints, flows, leaves, passes)
  passes-alike Lower u v i junction long other inside same passes =
      let front = head_front u (fixed_heads grid problem Lower) i inside ∙
      (same ∙ sym (head_front v (fixed_heads grid problem Lower) i (omega (arith, inside, long, other)))) in
      let flows = net-same high low (length grid.junctions) i (all_heads grid problem Lower u)
      (all_heads grid problem Lower v) grid.links (omega (arith, inside, long)) front
      (λ m le. past-same u v (fixed_heads grid problem Lower) m (long ∙ sym other) (omega (arith, le, long))) none in
      let leaves = ap (outflow_high junction) same in
      omega (arith, ints, flows, leaves, passes)

  pub one-round : (u v : List ℤ) → length u ≡ length grid.junctions → IsRoundHolding held grid problem side u v
      → IsCertificateHolding held grid problem side v
  one-round u v long round = record {
    one_each = round.one_each ∙ long;
    in_box = λ k d lt.
        let l = round.one_each in
        let at = item_there grid.junctions k (omega (arith, lt, l, long)) in
        subst IsInBox (get_or_default v k (pos 0) d lt) (round.raised k at.0 at.1).is_candidate.in_box;
    passes = λ i junction at. by i junction (inside i junction at) held
        (round.raised i junction at).is_candidate.passes;
  }
    where
      inside : (i : ℕ) (junction : GridJunction) → slice_get grid.junctions i ≡ Some junction → i < length u
      inside i junction at = let a = slice_get_within grid.junctions i junction at in omega (arith, a, long)

      alike : (i : ℕ) (junction : GridJunction) → i < length u → Passes grid problem side
          (slice_set u i (head_at v i)) i junction → Passes grid problem side v i junction
      alike i junction lt passes =
          let l = length-set u i (head_at v i) in
          passes-alike side (slice_set u i (head_at v i)) v i junction (l ∙ long) (round.one_each ∙ long)
          (omega (arith, lt, l)) (set-here u i (head_at v i) lt) passes

      by-test : (i : ℕ) (junction : GridJunction) → i < length u → (b : Bool) (h : ℤ) → MatchBool b
          (head_at (slice_set u i (head_at v i)) i ≡ h) (Passes grid problem side
          (slice_set u i (head_at v i)) i junction)
          → MatchBool b (head_at v i ≡ h) (Passes grid problem side v i junction)
      by-test i junction lt true h is = sym (set-here u i (head_at v i) lt) ∙ is
      by-test i junction lt false h is = alike i junction lt is

      by : (i : ℕ) (junction : GridJunction) → i < length u → (some : Option HeldJunction)
          → Suits some grid problem side (slice_set u i (head_at v i)) i junction
          → Suits some grid problem side v i junction
      by i junction lt None is = alike i junction lt is
      by i junction lt (Some h) is = by-test i junction lt (h.junction == i) h.head is
