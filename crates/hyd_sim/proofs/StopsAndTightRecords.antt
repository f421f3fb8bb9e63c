-- Stops by a vector that lacks or by a matter that is open, and tight rows.
use Rattle.std.proofs.Common.{◌≡◌, ℕ, ◌<◌, ◌≤◌, ℤ, length, refl, sym, ap, subst, ◌∙◌, arith}
use Rattle.std.specs.Prelude.{unsigned_abs}
use Rattle.std.proofs.lemmas.Option.{slice_get_within, get_or_from_slice_get}
use Rattle.hyd_spec.specs.DemandsHeadsAndPumpLifts.{demand_of}
use Rattle.hyd_spec.specs.ProgramTypes.{Project, Junction}
use Rattle.hyd_spec.specs.NodeNumbers.{junction_count, tank_count}
use Rattle.hyd_spec_certificates.specs.declared.Problem.{Problem}
use Rattle.hyd_spec_certificates.specs.declared.Problem.TheVariants.{Main, Pinned}
use Rattle.hyd_spec_certificates.specs.declared.Side.{Side}
use Rattle.hyd_spec_certificates.specs.PeriodNetwork.{Grid}
use Rattle.hyd_spec_certificates.specs.Certificate.{IsCertificate, IsTight}
use Rattle.hyd_spec_certificates.specs.RecordAndStanding.{Record, Standing}
use Rattle.hyd_spec_certificates.specs.Valid.{IsProblem, IsGridAt, DemandsAreInRange, AreCertificates, demand_limit}
use Rattle.hyd_spec_certificates.specs.Stops.{Stops, IsFirstDemand, IsTightRow, HasNoCertificate}
use Rattle.hyd_spec_certificates.specs.TurnsOfProblems.{EarlierHaveCertificates}
use Rattle.hyd_spec_certificates.specs.Stops.{SpendsRounds}
use Rattle.hyd_cert.specs.RecordView.{IsProblemOf}
use Rattle.hyd_period_network.proofs.NetOfSoundProject.{long_zipped}
use Rattle.hyd_period_network.specs.NetView.{NetView}
use Rattle.hyd_period_network.specs.NetsSetToPeriods.{IsNetOf}
use Rattle.hyd_period_vectors.specs.SoughtVectors.{OfEach, Lacks, HasNone, IsStuck, AreSpent}
use Rattle.hyd_period_vectors.specs.declared.missing_vector.Lack.{Lack}
use Rattle.hyd_period_vectors.specs.declared.missing_vector.Lack.TheVariants.{NoCertificate as LacksCertificate}
use Rattle.hyd_period_vectors.specs.declared.missing_vector.Lack.TheVariants.{RoundsSpent as SpentRounds}
use Rattle.hyd_period_end.specs.OpenMatters.{IsOpenAt}
use Rattle.hyd_period_end.specs.declared.undecided.Open.{Open}
use Rattle.hyd_period_end.specs.declared.undecided.Open.TheVariants.{Rule as RuleIsFound, Event as EventIsFound}
use Rattle.hyd_period_end.specs.declared.undecided.Open.TheVariants.{Tank as TankIsFound, Control as ControlIsFound}
use Rattle.hyd_sim.specs.NarrowRecordsAndStops.{LacksOne, NamesStuck, stop_of, open_stop_of}
use Rattle.hyd_sim.specs.Steps.{AreTight}
use Rattle.hyd_sim.proofs.OpenMattersStop.{rule-stops, event-stops, tank-stops, control-stops}

-- a net has the junctions of its network
pub net-junctions : (project : Project) (net : NetView) → IsNetOf project net
    → length project.junctions.list ≡ length net.junctions
net-junctions project net of = long_zipped _ _ _ of.junctions

-- a problem of a network is one of its count of tanks
pub problem-of : (project : Project) (problem : Problem) → IsProblem project problem
    → IsProblemOf (tank_count project) problem
problem-of project Main is = tt
problem-of project (Pinned tank) is = is

pub problem-in : (project : Project) (problem : Problem) → IsProblemOf (tank_count project) problem
    → IsProblem project problem
problem-in project Main is = tt
problem-in project (Pinned tank) is = is

-- the stop of a period that lacks a vector
pub lack-stops : (project : Project) (standing : Standing) (grid : Grid) (tanks rounds : ℕ) (lack : Lack)
    → tanks ≡ tank_count project → length grid.junctions ≡ junction_count project
    → DemandsAreInRange project standing.time → IsGridAt project standing grid → LacksOne grid tanks rounds lack
    → Stops project standing rounds (stop_of standing.number rounds lack)
lack-stops project standing grid tanks rounds lack each count in_range is one =
    by lack one.lacks
  where
    there : (problem : Problem) → IsProblemOf tanks problem → IsProblem project problem
    there problem is = problem-in project problem (subst (λ (n : ℕ). IsProblemOf n problem) each is)

    back : (problem : Problem) → IsProblem project problem → IsProblemOf tanks problem
    back problem is = subst (λ (n : ℕ). IsProblemOf n problem) (sym each) (problem-of project problem is)

    earlier : EarlierHaveCertificates project grid one.problem one.side
    earlier = λ problem side is less. one.earlier problem side (back problem is) less

    none : HasNone grid one.problem one.side → HasNoCertificate project standing one.problem one.side
    none lacking = record {
      in_range = in_range;
      is_problem = there one.problem one.is_problem;
      grid = grid;
      is_grid = is;
      earlier = earlier;
      none = lacking;
    }

    spent : AreSpent grid one.problem one.side rounds
        → SpendsRounds project standing one.problem one.side rounds
    spent rounds_spent = record {
      in_range = in_range;
      is_problem = there one.problem one.is_problem;
      grid = grid;
      is_grid = is;
      earlier = earlier;
      reached = rounds_spent.reached;
      by_rounds = rounds_spent.by_rounds;
      not_one = rounds_spent.not_one;
    }

    moved : (P : Problem → Side → Type 0) (problem : Problem) (side : Side) → problem ≡ one.problem → side ≡ one.side
        → P one.problem one.side → P problem side
    moved P problem side p s holds =
        subst (λ (q : Problem). P q side) (sym p) (subst (λ (t : Side). P one.problem t) (sym s) holds)

    by : (l : Lack) → Lacks grid one.problem one.side rounds l
        → Stops project standing rounds (stop_of standing.number rounds l)
    by (LacksCertificate problem side junction) (p, (s, (less, (lacking, stuck)))) = record {
      period_is = refl;
      holds = (
        subst (λ (n : ℕ). junction < n) count less,
        moved (HasNoCertificate project standing) problem side p s (none lacking),
      );
    }
    by (SpentRounds problem side) (p, (s, over)) = record {
      period_is = refl;
      holds = (
        refl,
        moved (λ q t. SpendsRounds project standing q t rounds) problem side p s (spent over),
      );
    }

-- the junction that it names
pub lack-stuck : (project : Project) (standing : Standing) (grid : Grid) (tanks rounds : ℕ) (lack : Lack)
    → IsGridAt project standing grid → LacksOne grid tanks rounds lack
    → NamesStuck project standing rounds (stop_of standing.number rounds lack)
lack-stuck project standing grid tanks rounds lack is one = by lack one.lacks
  where
    by : (l : Lack) → Lacks grid one.problem one.side rounds l
        → NamesStuck project standing rounds (stop_of standing.number rounds l)
    by (LacksCertificate problem side junction) (p, (s, (less, (lacking, stuck)))) = record {
      stuck = λ period q t j e.
          let a : one.problem ≡ q = cc in
          let b : one.side ≡ t = cc in
          let d : junction ≡ j = cc in
          record {
            grid = grid;
            is_grid = is;
            stuck = subst (λ (k : ℕ). IsStuck grid q t rounds k) d
                (subst (λ (f : Side). IsStuck grid q f rounds junction) b
                (subst (λ (r : Problem). IsStuck grid r one.side rounds junction) a stuck));
          };
    }
    by (SpentRounds problem side) (p, (s, over)) = record { stuck = λ period q t j e. absurd (cc) }

-- an open matter names no junction
pub open-stuck : (project : Project) (standing : Standing) (rounds number : ℕ) (found : Open)
    → NamesStuck project standing rounds (open_stop_of number found)
open-stuck project standing rounds number (RuleIsFound found) = record { stuck = λ period q t j e. absurd (cc) }
open-stuck project standing rounds number (EventIsFound earliest latest) =
    record { stuck = λ period q t j e. absurd (cc) }
open-stuck project standing rounds number (TankIsFound found) = record { stuck = λ period q t j e. absurd (cc) }
open-stuck project standing rounds number (ControlIsFound found) = record { stuck = λ period q t j e. absurd (cc) }

-- certificates of each problem and side
pub certificates-of : (project : Project) (grid : Grid) (tanks : ℕ) (row : Record) → tanks ≡ tank_count project
    → length row.pinned ≡ tanks → OfEach (IsCertificate grid) tanks row → AreCertificates project grid row
certificates-of project grid tanks row each pinned all = record {
  pinned_each = pinned ∙ each;
  each = λ problem side is. all problem side
      (subst (λ (n : ℕ). IsProblemOf n problem) (sym each) (problem-of project problem is));
}

-- what is tight of each problem is so of the network's
pub tight-of : (project : Project) (grid : Grid) (row : Record)
    → OfEach (IsTight grid) (tank_count project) row → AreTight project grid row
tight-of project grid row all = λ problem side is. all problem side (problem-of project problem is)

-- tight vectors make a tight row
pub tight-row : (project : Project) (standing : Standing) (grid : Grid) (row : Record)
    → DemandsAreInRange project standing.time → IsGridAt project standing grid → length row.pinned ≡ tank_count project
    → OfEach (IsTight grid) (tank_count project) row → IsTightRow project standing grid row
tight-row project standing grid row in_range is pinned all = record {
  in_range = in_range;
  is_grid = is;
  one_each = pinned;
  each = tight-of project grid row all;
}

-- a matter that tight vectors leave open stops the run
pub open-stops : (project : Project) (standing : Standing) (rounds : ℕ) (grid : Grid) (row : Record)
    → IsTightRow project standing grid row → (found : Open) → IsOpenAt project grid standing row found
    → Stops project standing rounds (open_stop_of standing.number found)
open-stops project standing rounds grid row tight (RuleIsFound found) o =
    rule-stops project standing rounds grid row tight found.rule found.clause found.lo found.hi o
open-stops project standing rounds grid row tight (EventIsFound earliest latest) o =
    event-stops project standing rounds grid row tight earliest latest o
open-stops project standing rounds grid row tight (TankIsFound found) o =
    tank-stops project standing rounds grid row tight o.seconds o.links o.leaves found.tank found.lo found.hi
    o.at_levels.first o.at_levels.level
open-stops project standing rounds grid row tight (ControlIsFound found) o =
    let at = o.at_levels in
    control-stops project standing rounds grid row tight o.seconds o.links o.leaves found.control at.tank at.above
    at.ticks at.control found.lo found.hi at.tanks_decided at.first at.is_control at.is_level at.level_is

-- ---- the standing behind a period

-- a demand in range isn't one that is out of range
pub no-demand-out : (project : Project) (time j : ℕ) (demand : ℤ) → DemandsAreInRange project time
    → IsFirstDemand project time j demand → ⊥
no-demand-out project time j demand all first =
    let within = slice_get_within project.junctions.list j first.junction first.is_junction in
    let small = all j first.junction within in
    let here = get_or_from_slice_get project.junctions.list j first.junction first.junction first.is_junction in
    let kept : unsigned_abs (demand_of project time first.junction) ≤ demand_limit =
    subst (λ (x : Junction). unsigned_abs (demand_of project time x) ≤ demand_limit) here small in
    let out = first.out_of_range in
    let same = ap unsigned_abs first.is_demand in
    omega (arith, kept, out, same)
