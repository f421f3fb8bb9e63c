-- The first problem and side that lacks a vector, and why it does.
use Rattle.std.proofs.Common.{◌≡◌, ℕ, ℤ, Bool, false, List, length, inl, inr}
use Rattle.std.specs.Prelude.{◌⊎◌, Result, Ok, Err, OnOk, IfErr, Option}
use Rattle.hyd_spec_certificates.specs.declared.Problem.{Problem}
use Rattle.hyd_spec_certificates.specs.declared.Problem.TheVariants.{Main}
use Rattle.hyd_spec_certificates.specs.declared.Side.{Side}
use Rattle.hyd_spec_certificates.specs.declared.Side.TheVariants.{Upper}
use Rattle.hyd_spec_certificates.specs.PeriodNetwork.{Grid}
use Rattle.hyd_spec_certificates.specs.Certificate.{IsCertificate}
use Rattle.hyd_spec_certificates.specs.RecordAndStanding.{Record, vector_of}
use Rattle.hyd_theorems_on_definitions.specs.SoundLawsAndGrids.{IsSteady, TanksInOrder}
use Rattle.hyd_theorems_on_definitions.proofs.OneStandingAndTightVector.{one_vector}
use Rattle.hyd_period_vectors.specs.SoughtVectors.{IsAtHand, IsFound, IsReached, IsSought, IsTold, Comes, Tells}
use Rattle.hyd_period_vectors.specs.SoughtVectors.{Lacks, AreTold, HaveSame, LacksFirst, OfEach}
use Rattle.hyd_period_vectors.specs.declared.missing_vector.Lack.{Lack}
use Rattle.hyd_period_vectors.specs.declared.missing_vector.Lack.TheVariants.{NoCertificate, RoundsSpent}
use Rattle.hyd_sim.specs.PeriodAttempt.{AreSought}
use Rattle.hyd_sim.specs.NarrowRecordsAndStops.{LacksOne}
use Rattle.hyd_sim.specs.Steps.{IsLeftToRounds, AreToldOrLeft}
use Rattle.hyd_period_vectors.proofs.SoughtVectors.{sought-certificate}
use Rattle.hyd_sim.proofs.ReachedAreTight.{tight-reached}

-- the first that lacks a vector
pub lacks-one : (tight : Bool) (told : Option (List ℤ)) (grid : Grid) (tanks rounds : ℕ) (row : Record) (lack : Lack)
    → LacksFirst tight told grid tanks rounds row lack → LacksOne grid tanks rounds lack
lacks-one tight told grid tanks rounds row lack first = record {
  problem = first.problem;
  side = first.side;
  is_problem = first.is_problem;
  lacks = first.lacks;
  earlier = λ other face there before. (
    vector_of row other face,
    sought-certificate tight told grid tanks other face (vector_of row other face)
        (first.earlier other face there before),
  );
}

-- what holds of an error
pub if-err : {A E : Type 0} (P Q : E → Type 0) (result : Result A E) → ((fault : E) → P fault → Q fault)
    → IfErr result P → IfErr result Q
if-err P Q (Ok value) f p = p
if-err P Q (Err fault) f p = f fault p

-- the vector that is found is the one that the finder tells, or that is left to rounds
module _ (told : Option (List ℤ)) (grid : Grid) (tanks rounds : ℕ) where
  module _ (steady : IsSteady grid) (order : TanksInOrder grid) where
    same-vector : (problem : Problem) (side : Side) (u v : List ℤ) → Tells told (length grid.junctions) tanks
        → IsFound told grid tanks problem side u → Comes false told grid tanks rounds problem side u
        → IsTold told grid tanks problem side v ⊎ IsLeftToRounds told grid tanks rounds problem side v → u ≡ v
    same-vector problem side u v tells found comes (inl is) = found.proposal v is
    same-vector problem side u v tells found comes (inr left) = by (comes tells)
      where
        by : IsReached IsAtHand grid problem side rounds u ⊎ IsTold told grid tanks problem side u → u ≡ v
        by (inl reached) =
            one_vector grid problem side u v
            (tight-reached grid steady order problem side rounds u reached found.certificate) left.tight
        by (inr is) = absurd (left.untold u is)

    pub same-as-given : (row w : Record) → AreSought false told grid tanks rounds row
        → AreToldOrLeft told grid tanks rounds w → HaveSame tanks row w
    same-as-given row w sought given = λ problem side there.
        same-vector problem side (vector_of row problem side) (vector_of w problem side) given.tells
        (sought.each problem side there) (sought.come problem side there) (given.each problem side there)

  -- nothing is lacking where each vector of a record is told or left to rounds
  pub none-lacking : (row w : Record) (lack : Lack) → LacksFirst false told grid tanks rounds row lack
      → AreToldOrLeft told grid tanks rounds w → ⊥
  none-lacking row w lack first given =
      by lack first.lacks (given.each first.problem first.side first.is_problem)
    where
      by : (why : Lack) → Lacks grid first.problem first.side rounds why
          → IsTold told grid tanks first.problem first.side (vector_of w first.problem first.side)
          ⊎ IsLeftToRounds told grid tanks rounds first.problem first.side (vector_of w first.problem first.side) → ⊥
      by why lacks (inl is) = first.unoffered (vector_of w first.problem first.side) is
      by (NoCertificate problem side junction) lacks (inr left) =
          lacks.1.1.1.0 (vector_of w first.problem first.side) left.tight.is_certificate
      by (RoundsSpent problem side) lacks (inr left) = left.unspent lacks.1.1

  -- a record all of whose vectors the finder tells has none that is left to rounds
  pub all-told : (w : Record) → AreTold told grid tanks w → AreToldOrLeft told grid tanks rounds w
  all-told w all =
      let first : IsTold told grid tanks Main Upper (vector_of w Main Upper) = all Main Upper tt in
      record {
        tells = record { heads = first.heads; told_is = first.told_is; size = first.size };
        each = λ problem side there. inl (all problem side there);
      }

-- vectors that are sought are certificates
pub sought-all : (tight : Bool) (told : Option (List ℤ)) (grid : Grid) (tanks : ℕ) (row : Record)
    → OfEach (IsSought tight told grid tanks) tanks row → OfEach (IsCertificate grid) tanks row
sought-all tight told grid tanks row all = λ problem side there.
    sought-certificate tight told grid tanks problem side (vector_of row problem side) (all problem side there)

-- what holds of an answer that is there, from four things that do
pub on-ok-four : {A E : Type 0} (P Q R T U : Type 0) (result : Result A E) → (P → Q → R → T → U) → OnOk result P
    → OnOk result Q → OnOk result R → OnOk result T → OnOk result U
on-ok-four P Q R T U (Ok value) f p q r t = f p q r t
on-ok-four P Q R T U (Err fault) f p q r t = p
