-- Certificates are recognised by computing: each head is tried, and each junction.
use Rattle.std.proofs.Common.{◌≡◌, ℕ, zero, suc, ◌+◌, ℤ, pos, neg_ℤ, ◌+ℤ◌, Bool, true, false, ◌&&◌, List, [], ◌∷◌, eqb}
use Rattle.std.proofs.Common.{length, int_le, refl, subst, arith}
use Rattle.std.specs.Prelude.{◌^◌, slice_get, Some, All}
use Rattle.std.proofs.lemmas.Bool.{eqb-true}
use Rattle.std.proofs.lemmas.List.Elements.{All-nil, All-cons}
use Rattle.hyd_spec_certificates.specs.declared.Problem.{Problem}
use Rattle.hyd_spec_certificates.specs.declared.Problem.TheVariants.{Main, Pinned}
use Rattle.hyd_spec_certificates.specs.declared.Side.{Side}
use Rattle.hyd_spec_certificates.specs.declared.Side.TheVariants.{Upper, Lower}
use Rattle.hyd_spec_certificates.specs.PeriodNetwork.{Grid, GridJunction}
use Rattle.hyd_spec_certificates.specs.NetOutflow.{net_low, net_high, margin}
use Rattle.hyd_spec_certificates.specs.Certificate.{IsInBox, Passes, IsCertificate}
use Rattle.hyd_spec_certificates.specs.RecordAndStanding.{Record, Vectors, vector_of}
use Rattle.hyd_spec_certificates.specs.Valid.{IsProblem, AreCertificates}
use Rattle.hyd_spec_certificates.specs.TurnsOfProblems.{EarlierHaveCertificates}
use Rattle.hyd_cases_of_runs.specs.Village.{Choice, village_with}
use Rattle.hyd_lemmas.proofs.BooleanTests.{le-yes, le-from, both-first, both-second, all_pass, each_passes}

-- ---- heads and junctions

abbrev pub inside : ℤ → Bool
inside h = int_le (neg_ℤ (pos (10 ^ 18))) h && int_le h (pos (10 ^ 18))

abbrev pub all_inside : List ℤ → Bool
all_inside [] = true
all_inside (h ∷ hs) = inside h && all_inside hs

pub in_box : (h : ℤ) → inside h ≡ true → IsInBox h
in_box h e =
    let low = int_le (neg_ℤ (pos (10 ^ 18))) h in
    let high = int_le h (pos (10 ^ 18)) in
    record {
      above_floor = le-yes (neg_ℤ (pos (10 ^ 18))) h (both-first low high e);
      below_ceiling = le-yes h (pos (10 ^ 18)) (both-second low high e);
    }

pub all_in_box : (hs : List ℤ) → all_inside hs ≡ true → All IsInBox hs
all_in_box [] e = All-nil IsInBox
all_in_box (h ∷ hs) e = All-cons IsInBox h hs (in_box h (both-first (inside h) (all_inside hs) e))
    (all_in_box hs (both-second (inside h) (all_inside hs) e))

-- whether a junction passes
abbrev pub passing : Grid → Problem → Side → List ℤ → ℕ → GridJunction → Bool
passing grid problem Upper u i junction = int_le (margin grid i +ℤ pos 1) (net_low grid problem u i junction)
passing grid problem Lower u i junction = int_le (net_high grid problem u i junction) (neg_ℤ (margin grid i +ℤ pos 1))

pub passes : (grid : Grid) (problem : Problem) (side : Side) (u : List ℤ) (i : ℕ) (junction : GridJunction)
    → passing grid problem side u i junction ≡ true → Passes grid problem side u i junction
passes grid problem Upper u i junction e = le-yes (margin grid i +ℤ pos 1) (net_low grid problem u i junction) e
passes grid problem Lower u i junction e = le-yes (net_high grid problem u i junction)
    (neg_ℤ (margin grid i +ℤ pos 1)) e

pub passes_test : (grid : Grid) (problem : Problem) (side : Side) (u : List ℤ) (i : ℕ) (junction : GridJunction)
    → Passes grid problem side u i junction → passing grid problem side u i junction ≡ true
passes_test grid problem Upper u i junction p = le-from (margin grid i +ℤ pos 1) (net_low grid problem u i junction) p
passes_test grid problem Lower u i junction p = le-from (net_high grid problem u i junction)
    (neg_ℤ (margin grid i +ℤ pos 1)) p

-- ---- vectors

abbrev pub is_certificate : Grid → Problem → Side → List ℤ → Bool
is_certificate grid problem side u =
    eqb (length u) (length grid.junctions) && (all_inside u && all_pass (passing grid problem side u) 0 grid.junctions)

pub certificate : (grid : Grid) (problem : Problem) (side : Side) (u : List ℤ) → is_certificate grid problem side u
    ≡ true
    → IsCertificate grid problem side u
certificate grid problem side u e =
    let one_each = eqb (length u) (length grid.junctions) in
    let passed = all_pass (passing grid problem side u) 0 grid.junctions in
    let rest = both-second one_each (all_inside u && passed) e in
    record {
      one_each = eqb-true (length u) (length grid.junctions) (both-first one_each (all_inside u && passed) e);
      in_box = all_in_box u (both-first (all_inside u) passed rest);
      passes = λ j junction at. passes grid problem side u j junction
          (let t = each_passes GridJunction (passing grid problem side u) 0 grid.junctions
          (both-second (all_inside u) passed rest) j junction at in
          let number : 0 + j ≡ j = omega arith in
          subst (λ (n : ℕ). passing grid problem side u n junction ≡ true) number t);
    }

-- a vector at which a junction fails isn't one
pub no_certificate : (grid : Grid) (problem : Problem) (side : Side) (u : List ℤ) (j : ℕ) (junction : GridJunction)
    → slice_get grid.junctions j ≡ Some junction → passing grid problem side u j junction ≡ false
    → IsCertificate grid problem side u → ⊥
no_certificate grid problem side u j junction at e is = let t = passes_test grid problem side u j junction
    (is.passes j junction at) in cc

-- before MAIN LOWER stands MAIN UPPER alone
pub before_lower : (choice : Choice) (grid : Grid) (u : List ℤ) → is_certificate grid Main Upper u ≡ true
    → EarlierHaveCertificates (village_with choice) grid Main Lower
before_lower choice grid u e Main Upper is lt = (u, certificate grid Main Upper u e)
before_lower choice grid u e Main Lower is lt = absurd (omega (arith, lt))
before_lower choice grid u e (Pinned tank) Upper is lt = absurd (omega (arith, lt))
before_lower choice grid u e (Pinned tank) Lower is lt = absurd (omega (arith, lt))

-- ---- records

-- a record with the four vectors of a network with one tank
pub certificates : (choice : Choice) (grid : Grid) (row : Record) (vectors : Vectors) → row.pinned ≡ vectors ∷ []
    → is_certificate grid Main Upper row.main.upper ≡ true → is_certificate grid Main Lower row.main.lower ≡ true
    → is_certificate grid (Pinned 0) Upper vectors.upper ≡ true → is_certificate grid (Pinned 0) Lower vectors.lower
    ≡ true
    → AreCertificates (village_with choice) grid row
certificates choice grid row vectors pinned a b c d = record { pinned_each = rw pinned refl; each = each }
  where
    each : (problem : Problem) (side : Side) → IsProblem (village_with choice) problem
        → IsCertificate grid problem side (vector_of row problem side)
    each Main Upper is = certificate grid Main Upper row.main.upper a
    each Main Lower is = certificate grid Main Lower row.main.lower b
    each (Pinned zero) Upper is = rw pinned (certificate grid (Pinned 0) Upper vectors.upper c)
    each (Pinned zero) Lower is = rw pinned (certificate grid (Pinned 0) Lower vectors.lower d)
    each (Pinned (suc k)) side is = absurd (omega (arith, is))
