-- A junction passes where its net outflow exceeds its margin, along the side.
use Rattle.std.proofs.Common.{◌≡◌, ℕ, ◌<◌, ℤ, pos, neg_ℤ, ◌+ℤ◌, ◌-ℤ◌, ◌≤ℤ◌, arith, List, length}
use Rattle.std.specs.Prelude.{slice_set, slice_get, Some, ◌↔◌}
use Rattle.std.proofs.lemmas.Int.{ints}
use Rattle.hyd_spec_certificates.specs.declared.Problem.{Problem}
use Rattle.hyd_spec_certificates.specs.declared.Side.{Side}
use Rattle.hyd_spec_certificates.specs.declared.Side.TheVariants.{Upper, Lower}
use Rattle.hyd_spec_certificates.specs.PeriodNetwork.{Grid, GridJunction}
use Rattle.hyd_spec_certificates.specs.NetOutflow.{margin}
use Rattle.hyd_vector_check.specs.NetOutflowBySide.{net_outflow, surplus, PassesWith}
use Rattle.hyd_lemmas.proofs.ListsOptionsAndResults.{item_there}

-- q is the net outflow of junction i with the head h in place of its own
abbrev pub IsNetOutflow : Grid → Problem → Side → List ℤ → ℕ → ℤ → ℤ → Type 0
IsNetOutflow grid problem side u i h q = (junction : GridJunction) → slice_get grid.junctions i ≡ Some junction
    → q ≡ net_outflow side grid problem (slice_set u i h) i junction

pub upper-passes : (grid : Grid) (problem : Problem) (side : Side) (u : List ℤ) (i : ℕ) (h q m s : ℤ) → side ≡ Upper
    → i < length grid.junctions → IsNetOutflow grid problem side u i h q → m ≡ margin grid i → s ≡ q -ℤ (m +ℤ pos 1)
    → pos 0 ≤ℤ s ↔ PassesWith grid problem side u i h
upper-passes grid problem side u i h q m s is inside flows margin-is beyond = by side is flows
  where
    by : (s' : Side) → s' ≡ Upper → IsNetOutflow grid problem s' u i h q → pos 0 ≤ℤ s ↔ PassesWith grid problem s' u i h
    by Upper e are = (
      (λ le junction at. (let f = are junction at in omega (arith, ints, le, f, margin-is, beyond))),
      (λ passes. (let at = item_there grid.junctions i inside in let f = are at.0 at.1 in
          let p = passes at.0 at.1 in
          omega (arith, ints, p, f, margin-is, beyond))),
    )
    by Lower e are = absurd (cc)

pub lower-passes : (grid : Grid) (problem : Problem) (side : Side) (u : List ℤ) (i : ℕ) (h q m s : ℤ) → side ≡ Lower
    → i < length grid.junctions → IsNetOutflow grid problem side u i h q → m ≡ margin grid i
    → s ≡ neg_ℤ q -ℤ (m +ℤ pos 1) → pos 0 ≤ℤ s ↔ PassesWith grid problem side u i h
lower-passes grid problem side u i h q m s is inside flows margin-is beyond = by side is flows
  where
    by : (s' : Side) → s' ≡ Lower → IsNetOutflow grid problem s' u i h q → pos 0 ≤ℤ s ↔ PassesWith grid problem s' u i h
    by Upper e are = absurd (cc)
    by Lower e are = (
      (λ le junction at. (let f = are junction at in omega (arith, ints, le, f, margin-is, beyond))),
      (λ passes. (let at = item_there grid.junctions i inside in let f = are at.0 at.1 in
          let p = passes at.0 at.1 in
          omega (arith, ints, p, f, margin-is, beyond))),
    )

-- s is by how much junction i passes with the head h in place of its own
abbrev pub IsSurplus : Grid → Problem → Side → List ℤ → ℕ → ℤ → ℤ → Type 0
IsSurplus grid problem side u i h s = (junction : GridJunction) → slice_get grid.junctions i ≡ Some junction
    → s ≡ surplus side grid problem (slice_set u i h) i junction

pub upper-surplus : (grid : Grid) (problem : Problem) (side : Side) (u : List ℤ) (i : ℕ) (h q m s : ℤ) → side ≡ Upper
    → IsNetOutflow grid problem side u i h q → m ≡ margin grid i → s ≡ q -ℤ (m +ℤ pos 1)
    → IsSurplus grid problem side u i h s
upper-surplus grid problem side u i h q m s is flows margin-is beyond = by side is flows
  where
    by : (s' : Side) → s' ≡ Upper → IsNetOutflow grid problem s' u i h q → IsSurplus grid problem s' u i h s
    by Upper e are = λ junction at. (let f = are junction at in omega (arith, ints, f, margin-is, beyond))
    by Lower e are = absurd (cc)

pub lower-surplus : (grid : Grid) (problem : Problem) (side : Side) (u : List ℤ) (i : ℕ) (h q m s : ℤ) → side ≡ Lower
    → IsNetOutflow grid problem side u i h q → m ≡ margin grid i → s ≡ neg_ℤ q -ℤ (m +ℤ pos 1)
    → IsSurplus grid problem side u i h s
lower-surplus grid problem side u i h q m s is flows margin-is beyond = by side is flows
  where
    by : (s' : Side) → s' ≡ Lower → IsNetOutflow grid problem s' u i h q → IsSurplus grid problem s' u i h s
    by Upper e are = absurd (cc)
    by Lower e are = λ junction at. (let f = are junction at in omega (arith, ints, f, margin-is, beyond))
