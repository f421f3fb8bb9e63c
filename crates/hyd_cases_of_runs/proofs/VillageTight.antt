-- The vectors of the village are tight: one tick nearer a junction fails, and so it does at every head nearer still.
use Rattle.std.proofs.Common.{◌≡◌, zero, suc, ℤ, pos, negsuc, ◌+ℤ◌, ◌-ℤ◌, ◌*ℤ◌, neg_ℤ, ◌⊎◌, inl, inr, ◌≤ℤ◌, ◌<ℤ◌, true}
use Rattle.std.proofs.Common.{false, List, [], ◌∷◌, length, refl, sym, subst, arith}
use Rattle.std.specs.Int.{int_div_euclid}
use Rattle.std.proofs.lemmas.Int.{ints, clamps, by_lt_z}
use Rattle.hyd_spec_certificates.specs.declared.Problem.{Problem}
use Rattle.hyd_spec_certificates.specs.declared.Problem.TheVariants.{Main, Pinned}
use Rattle.hyd_spec_certificates.specs.declared.Side.{Side}
use Rattle.hyd_spec_certificates.specs.declared.Side.TheVariants.{Upper, Lower}
use Rattle.hyd_spec.specs.Lists.{Each}
use Rattle.hyd_spec_certificates.specs.Interval.{Interval}
use Rattle.hyd_spec.specs.Law.{Law, Shut, LinearLaw, Capped}
use Rattle.hyd_spec_certificates.specs.EnclosingFunctions.{low, high}
use Rattle.hyd_spec_certificates.specs.PeriodNetwork.{Grid, GridJunction, end_on, tank_side}
use Rattle.hyd_spec.specs.Assignment.{head_at}
use Rattle.hyd_spec_certificates.specs.Certificate.{IsBeyond, Passes, IsCertificate, IsTight}
use Rattle.hyd_spec_certificates.specs.RecordAndStanding.{Record, Vectors, vector_of}
use Rattle.hyd_spec_certificates.specs.Valid.{IsProblem}
use Rattle.hyd_cases_of_runs.specs.Village.{village}
use Rattle.hyd_cases_of_runs.specs.VillageRun.{grid_0, grid_1, grid_2, grid_3, grid_4, row_0, row_1, row_2, row_3}
use Rattle.hyd_cases_of_runs.specs.VillageRun.{row_4}
use Rattle.hyd_cases_of_runs.specs.VillagePeriods.{village_grid, grid_mill, grid_farm}
use Rattle.hyd_cases_of_runs.proofs.VillageCertificates.{passing, passes_test, is_certificate, certificate}
use Rattle.hyd_lemmas.proofs.Each.{each_two}

-- ---- laws

quotient_low : (z : ℤ) → (pos 1000000 *ℤ int_div_euclid z (pos 1000000)) ≤ℤ z
quotient_low (pos n) = omega (arith, ints)
quotient_low (negsuc n) = omega (arith, ints)

quotient_high : (z : ℤ) → z <ℤ ((pos 1000000 *ℤ int_div_euclid z (pos 1000000)) +ℤ pos 1000000)
quotient_high (pos n) = omega (arith, ints)
quotient_high (negsuc n) = omega (arith, ints)

quotient_rises : (y z : ℤ) → y ≤ℤ z → int_div_euclid y (pos 1000000) ≤ℤ int_div_euclid z (pos 1000000)
quotient_rises y z le = omega (arith, ints, quotient_low y, quotient_high z, le)

-- A law whose enclosing functions don't fall.
pub record IsRising (law : Law) : Type 0 where
  pub low_rises : (c d : ℤ) → c ≤ℤ d → low law c ≤ℤ low law d
  pub high_rises : (c d : ℤ) → c ≤ℤ d → high law c ≤ℤ high law d

pub straight_rises : IsRising LinearLaw
straight_rises = record {
  low_rises = λ c d le. quotient_rises (pos 8026822656 *ℤ c) (pos 8026822656 *ℤ d) (omega (arith, ints, le));
  high_rises = λ c d le.
      let q = quotient_rises (neg_ℤ (pos 8026822656 *ℤ d)) (neg_ℤ (pos 8026822656 *ℤ c)) (omega (arith, ints, le)) in
      omega (arith, ints, q);
}

pub shut_rises : IsRising Shut
shut_rises = record { low_rises = λ c d le. omega (arith, ints); high_rises = λ c d le. omega (arith, ints) }

pub capped_rises : (cap : ℤ) → IsRising (Capped cap LinearLaw)
capped_rises cap = record {
  low_rises = λ c d le. let r = straight_rises.low_rises c d le in omega (arith, ints, clamps, r);
  high_rises = λ c d le. let r = straight_rises.high_rises c d le in omega (arith, ints, clamps, r);
}

-- ---- heads further out

abbrev lake : ℤ
lake = pos 1000000000000000

module _ (demand : ℤ) (feed drop : Law) (head : Interval) (problem : Problem) (rising : IsRising feed)
    (dropping : IsRising drop) where
  abbrev tower_head : Side → ℤ
  tower_head side = end_on (tank_side problem side 0) head

  mill_further : (side : Side) (x further y : ℤ) → IsBeyond side x further
      → Passes (village_grid demand feed drop head) problem side (x ∷ y ∷ []) 0 (grid_mill demand)
      → Passes (village_grid demand feed drop head) problem side (further ∷ y ∷ []) 0 (grid_mill demand)
  mill_further Upper x further y le passes =
      let into = straight_rises.high_rises (lake -ℤ further) (lake -ℤ x) (omega (arith, ints, le)) in
      let out = rising.low_rises (x -ℤ tower_head Upper) (further -ℤ tower_head Upper) (omega (arith, ints, le)) in
      omega (arith, ints, into, out, passes)
  mill_further Lower x further y le passes =
      let into = straight_rises.low_rises (lake -ℤ x) (lake -ℤ further) (omega (arith, ints, le)) in
      let out = rising.high_rises (further -ℤ tower_head Lower) (x -ℤ tower_head Lower) (omega (arith, ints, le)) in
      omega (arith, ints, into, out, passes)

  farm_further : (side : Side) (x y further : ℤ) → IsBeyond side y further
      → Passes (village_grid demand feed drop head) problem side (x ∷ y ∷ []) 1 grid_farm
      → Passes (village_grid demand feed drop head) problem side (x ∷ further ∷ []) 1 grid_farm
  farm_further Upper x y further le passes =
      let into = dropping.high_rises (tower_head Upper -ℤ further) (tower_head Upper -ℤ y) (omega (arith, ints, le)) in
      omega (arith, ints, into, passes)
  farm_further Lower x y further le passes =
      let into = dropping.low_rises (tower_head Lower -ℤ y) (tower_head Lower -ℤ further) (omega (arith, ints, le)) in
      omega (arith, ints, into, passes)

-- ---- tight vectors

-- one tick nearer
abbrev pub nearer : Side → ℤ → ℤ
nearer Upper x = x -ℤ pos 1
nearer Lower x = x +ℤ pos 1

-- a head that isn't beyond another has the one next to that beyond it
pub next_beyond : (side : Side) (x y : ℤ) → IsBeyond side x y ⊎ IsBeyond side y (nearer side x)
next_beyond Upper x y = by_lt_z y x (λ lt. inr (omega (arith, ints, lt))) (λ ge. inl ge)
next_beyond Lower x y = by_lt_z x y (λ lt. inr (omega (arith, ints, lt))) (λ ge. inl ge)

-- A list of two heads.
pub record IsTwo (v : List ℤ) : Type 0 where
  pub first : ℤ
  pub second : ℤ
  pub is : v ≡ first ∷ second ∷ []

pub two_heads : (v : List ℤ) → length v ≡ 2 → IsTwo v
two_heads [] e = absurd (omega (arith, e))
two_heads (x ∷ []) e = absurd (omega (arith, e))
two_heads (x ∷ y ∷ []) e = record { first = x; second = y; is = refl }
two_heads (x ∷ y ∷ z ∷ v) e = absurd (omega (arith, e))

module _ (demand : ℤ) (feed drop : Law) (head : Interval) (rising : IsRising feed) (dropping : IsRising drop)
    (problem : Problem) (side : Side) (a b : ℤ) where
  abbrev grid : Grid
  grid = village_grid demand feed drop head

  mill_beyond : ((other : ℤ) → passing grid problem side (nearer side a ∷ other ∷ []) 0 (grid_mill demand) ≡ false)
      → (x y : ℤ) → Passes grid problem side (x ∷ y ∷ []) 0 (grid_mill demand) → IsBeyond side a x
  mill_beyond fails x y passes = elim (next_beyond side a x) [
    | inl l ↦ l
    | inr n ↦ let t = passes_test grid problem side (nearer side a ∷ y ∷ []) 0 (grid_mill demand)
        (mill_further demand feed drop head problem rising dropping side x (nearer side a) y n passes) in
        let f = fails y in absurd (cc)
  ]

  farm_beyond : ((other : ℤ) → passing grid problem side (other ∷ nearer side b ∷ []) 1 grid_farm ≡ false)
      → (x y : ℤ) → Passes grid problem side (x ∷ y ∷ []) 1 grid_farm → IsBeyond side b y
  farm_beyond fails x y passes = elim (next_beyond side b y) [
    | inl l ↦ l
    | inr n ↦ let t = passes_test grid problem side (x ∷ nearer side b ∷ []) 1 grid_farm
        (farm_further demand feed drop head problem rising dropping side x y (nearer side b) n passes) in
        let f = fails x in absurd (cc)
  ]

  -- a vector is tight where each junction fails one tick nearer, whatever the other's head
  pub tight : is_certificate grid problem side (a ∷ b ∷ []) ≡ true
      → ((other : ℤ) → passing grid problem side (nearer side a ∷ other ∷ []) 0 (grid_mill demand) ≡ false)
      → ((other : ℤ) → passing grid problem side (other ∷ nearer side b ∷ []) 1 grid_farm ≡ false)
      → IsTight grid problem side (a ∷ b ∷ [])
  tight passed mill_fails farm_fails = record {
    is_certificate = certificate grid problem side (a ∷ b ∷ []) passed;
    nearest = λ v is.
        let heads = two_heads v is.one_each in
        let two : IsCertificate grid problem side (heads.first ∷ heads.second ∷ []) =
        subst (IsCertificate grid problem side) heads.is is in
        subst (λ (w : List ℤ). Each grid.junctions (λ i junction. IsBeyond side (head_at (a ∷ b ∷ []) i)
        (head_at w i))) (sym heads.is)
        (each_two GridJunction (λ i junction. IsBeyond side (head_at (a ∷ b ∷ []) i)
        (head_at (heads.first ∷ heads.second ∷ []) i)) (grid_mill demand) grid_farm
        (mill_beyond mill_fails heads.first heads.second (two.passes 0 (grid_mill demand) refl))
        (farm_beyond farm_fails heads.first heads.second (two.passes 1 grid_farm refl)));
  }

-- ---- records

-- the four vectors of a record of a network with one tank
throughout : (grid : Grid) (row : Record) (vectors : Vectors) → row.pinned ≡ vectors ∷ []
    → IsTight grid Main Upper row.main.upper → IsTight grid Main Lower row.main.lower
    → IsTight grid (Pinned 0) Upper vectors.upper → IsTight grid (Pinned 0) Lower vectors.lower
    → (problem : Problem) (side : Side) → IsProblem village problem
    → IsTight grid problem side (vector_of row problem side)
throughout grid row vectors pinned a b c d Main Upper is = a
throughout grid row vectors pinned a b c d Main Lower is = b
throughout grid row vectors pinned a b c d (Pinned zero) Upper is = rw pinned c
throughout grid row vectors pinned a b c d (Pinned zero) Lower is = rw pinned d
throughout grid row vectors pinned a b c d (Pinned (suc k)) side is = absurd (omega (arith, is))

pub first_tight : (problem : Problem) (side : Side) → IsProblem village problem
    → IsTight grid_0 problem side (vector_of row_0 problem side)
first_tight = throughout grid_0 row_0 _ refl
    (tight _ _ _ _ (capped_rises (pos 10000000000)) straight_rises Main Upper _ _ refl (λ other. refl) (λ other. refl))
    (tight _ _ _ _ (capped_rises (pos 10000000000)) straight_rises Main Lower _ _ refl (λ other. refl) (λ other. refl))
    (tight _ _ _ _ (capped_rises (pos 10000000000)) straight_rises (Pinned 0) Upper _ _ refl (λ other. refl)
    (λ other. refl))
    (tight _ _ _ _ (capped_rises (pos 10000000000)) straight_rises (Pinned 0) Lower _ _ refl (λ other. refl)
    (λ other. refl))

pub second_tight : (problem : Problem) (side : Side) → IsProblem village problem
    → IsTight grid_1 problem side (vector_of row_1 problem side)
second_tight = throughout grid_1 row_1 _ refl
    (tight _ _ _ _ (capped_rises (pos 10000000000)) straight_rises Main Upper _ _ refl (λ other. refl) (λ other. refl))
    (tight _ _ _ _ (capped_rises (pos 10000000000)) straight_rises Main Lower _ _ refl (λ other. refl) (λ other. refl))
    (tight _ _ _ _ (capped_rises (pos 10000000000)) straight_rises (Pinned 0) Upper _ _ refl (λ other. refl)
    (λ other. refl))
    (tight _ _ _ _ (capped_rises (pos 10000000000)) straight_rises (Pinned 0) Lower _ _ refl (λ other. refl)
    (λ other. refl))

pub third_tight : (problem : Problem) (side : Side) → IsProblem village problem
    → IsTight grid_2 problem side (vector_of row_2 problem side)
third_tight = throughout grid_2 row_2 _ refl
    (tight _ _ _ _ shut_rises straight_rises Main Upper _ _ refl (λ other. refl) (λ other. refl))
    (tight _ _ _ _ shut_rises straight_rises Main Lower _ _ refl (λ other. refl) (λ other. refl))
    (tight _ _ _ _ shut_rises straight_rises (Pinned 0) Upper _ _ refl (λ other. refl) (λ other. refl))
    (tight _ _ _ _ shut_rises straight_rises (Pinned 0) Lower _ _ refl (λ other. refl) (λ other. refl))

pub fourth_tight : (problem : Problem) (side : Side) → IsProblem village problem
    → IsTight grid_3 problem side (vector_of row_3 problem side)
fourth_tight = throughout grid_3 row_3 _ refl
    (tight _ _ _ _ (capped_rises (pos 3000000000)) straight_rises Main Upper _ _ refl (λ other. refl) (λ other. refl))
    (tight _ _ _ _ (capped_rises (pos 3000000000)) straight_rises Main Lower _ _ refl (λ other. refl) (λ other. refl))
    (tight _ _ _ _ (capped_rises (pos 3000000000)) straight_rises (Pinned 0) Upper _ _ refl (λ other. refl)
    (λ other. refl))
    (tight _ _ _ _ (capped_rises (pos 3000000000)) straight_rises (Pinned 0) Lower _ _ refl (λ other. refl)
    (λ other. refl))

pub fifth_tight : (problem : Problem) (side : Side) → IsProblem village problem
    → IsTight grid_4 problem side (vector_of row_4 problem side)
fifth_tight = throughout grid_4 row_4 _ refl
    (tight _ _ _ _ (capped_rises (pos 3000000000)) straight_rises Main Upper _ _ refl (λ other. refl) (λ other. refl))
    (tight _ _ _ _ (capped_rises (pos 3000000000)) straight_rises Main Lower _ _ refl (λ other. refl) (λ other. refl))
    (tight _ _ _ _ (capped_rises (pos 3000000000)) straight_rises (Pinned 0) Upper _ _ refl (λ other. refl)
    (λ other. refl))
    (tight _ _ _ _ (capped_rises (pos 3000000000)) straight_rises (Pinned 0) Lower _ _ refl (λ other. refl)
    (λ other. refl))
