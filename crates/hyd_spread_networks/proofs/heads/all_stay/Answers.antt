use Rattle.std.proofs.Common.{◌≡◌, ℕ, ℤ, ◌*ℤ◌, ◌^◌, List, pos, slice_index_or, inl, inr, to_z, of_z, w64, refl, sym}
use Rattle.std.proofs.Common.{subst, arith}
use Rattle.std.specs.Int.{w128}
use Rattle.std.proofs.lemmas.Int.{ints}
use Rattle.std.proofs.lemmas.Bool.{cases_eq}
use Rattle.hyd_spec.specs.WholeNumbers.{cut}
use Rattle.hyd_spec_spread_rows.specs.TextsOfSpreads.{interval_from}
use Rattle.hyd_spread_networks.specs.HeadsBySpreads.{StaysHead}
use Rattle.hyd_spread_networks.proofs.ListsByNumber.{any}
use Rattle.hyd_spread_networks.proofs.HeadLemmas.{stays_by}
use Rattle.hyd_spread_networks.proofs.heads.all_stay.Goals as goal

pub returns-then-not-stays-clause-no : goal.returns-then-not-stays-clause-no
returns-then-not-stays-clause-no c all =
    let i : ℕ = c.loop-i.i in
    let offsets = interval_from c.args.offsets in
    let head : ℤ = c.args.head in
    let m : ℤ = slice_index_or c.args.multipliers.now i (pos 0) in
    let here = stays_by offsets (to_z w64 (of_z w64 head)) (to_z w64 (of_z w64 m)) head m (cut (head *ℤ m) (10 ^ 9))
    refl (omega (arith, ints)) (omega (arith, ints)) (all i (pos 0) (omega arith)) in
    let fits = c.times.type_inv in
    let kept : to_z w128 (of_z w128 c.times.result) ≡ c.times.result = omega (arith, ints, fits) in
    c.if-not-stays.ensures.no
    (subst (StaysHead offsets) (sym kept) (subst (StaysHead offsets) (sym c.times.ensures.value) here))

pub loop-i-preserved : goal.loop-i-preserved
loop-i-preserved c k d lt =
    let i : ℕ = c.loop-i.i in
    let ms : List ℤ = c.args.multipliers.now in
    let head : ℤ = to_z w64 (of_z w64 c.args.head) in
    elim (cases_eq k i) [
      | inl e ↦ (
          let same = any ms i (pos 0) d (omega arith) in
          let fits = c.times.type_inv in
          let kept : to_z w128 (of_z w128 c.times.result) ≡ c.times.result = omega (arith, ints, fits) in
          let here = stays_by (interval_from c.args.offsets) head (slice_index_or ms i d) head
          (to_z w64 (of_z w64 (slice_index_or ms i (pos 0)))) c.times.result c.times.ensures.value refl
          (omega (arith, ints, same))
          (subst (StaysHead (interval_from c.args.offsets)) kept c.if-not-stays.ensures.yes) in
          subst (λ (n : ℕ). StaysHead (interval_from c.args.offsets) (cut (head *ℤ slice_index_or ms n d) (10 ^ 9)))
          (sym e) here)
      | inr ne ↦ c.loop-i.invariant k d (omega (arith, ne, lt))
    ]

pub returns-clause-yes : goal.returns-clause-yes
returns-clause-yes c k d lt =
    let head : ℤ = to_z w64 (of_z w64 c.args.head) in
    let same : head ≡ c.args.head = omega (arith, ints) in
    subst (λ (x : ℤ). StaysHead (interval_from c.args.offsets)
    (cut (x *ℤ slice_index_or c.args.multipliers.now k d) (10 ^ 9))) same (c.loop-i.invariant k d (omega (arith, lt)))
