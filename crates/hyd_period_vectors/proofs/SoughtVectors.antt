-- Vectors that are sought and found.
use Rattle.std.proofs.Common.{◌≡◌, ℕ, ◌≤◌, ℤ, Bool, true, false, List, length, inl, inr, refl, sym, subst}
use Rattle.std.specs.Prelude.{All, Option, Some, None}
use Rattle.hyd_spec_certificates.specs.declared.Problem.{Problem}
use Rattle.hyd_spec_certificates.specs.declared.Side.{Side}
use Rattle.hyd_spec_certificates.specs.PeriodNetwork.{Grid}
use Rattle.hyd_spec_certificates.specs.Certificate.{IsInBox, IsCertificate, IsTight}
use Rattle.hyd_period_network.specs.NetView.{NetView}
use Rattle.hyd_finders.specs.ProposedVectors.{Leaves, IsOfSize, told_vector}
use Rattle.hyd_sweep.specs.LeapingRounds.{AreLeapingRounds, SweepGoes}
use Rattle.hyd_sweep.specs.declared.answers_of_sweeps.Swept.TheVariants.{NoCertificate}
use Rattle.hyd_period_vectors.specs.SoughtVectors.{IsTold, IsFound, IsSought, IsAtHand, IsBegun, IsReached, Tells}
use Rattle.hyd_period_vectors.specs.SoughtVectors.{Comes, IsStuck}

-- where a finder tells no certificate the tight vector is one that is found
pub tight-sought : (tight : Bool) (told : Option (List ℤ)) (grid : Grid) (tanks : ℕ) (problem : Problem) (side : Side)
    (u : List ℤ) → tight ≡ false → ((w : List ℤ) → IsTold told grid tanks problem side w → ⊥)
    → IsTight grid problem side u → IsSought tight told grid tanks problem side u
tight-sought tight told grid tanks problem side u e none t =
    subst (λ (b : Bool). IsSought b told grid tanks problem side u) (sym e)
    (let found : IsFound told grid tanks problem side u =
    record { certificate = t.is_certificate; proposal = λ w is. absurd (none w is) } in found)

-- what passes and was left by a finder that tells its vectors is one of these
pub left-told : (told : Option (List ℤ)) (net : NetView) (grid : Grid) (problem : Problem) (side : Side) (u : List ℤ)
    → length grid.junctions ≡ length net.junctions → Leaves told net problem side u → IsCertificate grid problem side u
    → Tells told (length grid.junctions) (length net.tanks) → IsTold told grid (length net.tanks) problem side u
left-told None net grid problem side u long left passes tells = absurd (let e = tells.told_is in cc)
left-told (Some heads) net grid problem side u long left passes tells =
    let e = tells.told_is in
    let same : tells.heads ≡ heads = cc in
    let size : IsOfSize (length grid.junctions) (length net.tanks) heads =
    subst (λ (h : List ℤ). IsOfSize (length grid.junctions) (length net.tanks) h) same tells.size in
    record {
      heads = heads;
      told_is = refl;
      size = size;
      vector = subst (λ (n : ℕ). u ≡ told_vector heads n problem side) (sym long)
          (left (subst (λ (n : ℕ). IsOfSize n (length net.tanks) heads) long size));
      certificate = passes;
    }

-- rounds from where they begin
pub reached : (Begins : Grid → Problem → Side → List ℤ → Type 0) (grid : Grid) (problem : Problem) (side : Side)
    (rounds : ℕ) (first u : List ℤ) → Begins grid problem side first
    → (n : ℕ) × ((n ≤ rounds) × AreLeapingRounds None grid problem side n first u)
    → IsReached Begins grid problem side rounds u
reached Begins grid problem side rounds first u begun goes =
    record { first = first; begun = begun; made = goes.0; most = goes.1.0; by_rounds = goes.1.1 }

-- a junction without a value where they lead
pub stuck-there : (grid : Grid) (problem : Problem) (side : Side) (rounds junction : ℕ) (first reached : List ℤ)
    → IsBegun grid problem side first → All IsInBox reached
    → SweepGoes None grid problem side rounds first reached (NoCertificate junction)
    → IsStuck grid problem side rounds junction
stuck-there grid problem side rounds junction first reached begun inside (made, (fewer, (before, (goes, last)))) =
    record {
      first = first;
      begun = begun;
      made = made;
      fewer = fewer;
      before = before;
      by_rounds = goes;
      reached = reached;
      in_box = inside;
      no_value = last;
    }

-- what is sought comes so
pub tight-comes : (tight : Bool) (told : Option (List ℤ)) (grid : Grid) (tanks rounds : ℕ) (problem : Problem)
    (side : Side) (u : List ℤ) → tight ≡ true → IsReached IsBegun grid problem side rounds u
    → Comes tight told grid tanks rounds problem side u
tight-comes tight told grid tanks rounds problem side u e is =
    subst (λ (b : Bool). Comes b told grid tanks rounds problem side u) (sym e)
    (let comes : Comes true told grid tanks rounds problem side u = is in comes)

pub other-comes : (tight : Bool) (told : Option (List ℤ)) (grid : Grid) (tanks rounds : ℕ) (problem : Problem)
    (side : Side) (u : List ℤ) → tight ≡ false → IsReached IsAtHand grid problem side rounds u
    → Comes tight told grid tanks rounds problem side u
other-comes tight told grid tanks rounds problem side u e is =
    subst (λ (b : Bool). Comes b told grid tanks rounds problem side u) (sym e)
    (let comes : Comes false told grid tanks rounds problem side u = λ tells. inl is in comes)

pub told-comes : (tight : Bool) (told : Option (List ℤ)) (grid : Grid) (tanks rounds : ℕ) (problem : Problem)
    (side : Side) (u : List ℤ) → tight ≡ false
    → (Tells told (length grid.junctions) tanks → IsTold told grid tanks problem side u)
    → Comes tight told grid tanks rounds problem side u
told-comes tight told grid tanks rounds problem side u e is =
    subst (λ (b : Bool). Comes b told grid tanks rounds problem side u) (sym e)
    (let comes : Comes false told grid tanks rounds problem side u = λ tells. inr (is tells) in comes)

-- what is sought is a certificate
pub sought-certificate : (tight : Bool) (told : Option (List ℤ)) (grid : Grid) (tanks : ℕ) (problem : Problem)
    (side : Side) (u : List ℤ) → IsSought tight told grid tanks problem side u → IsCertificate grid problem side u
sought-certificate true told grid tanks problem side u t = t.is_certificate
sought-certificate false told grid tanks problem side u f = f.certificate
