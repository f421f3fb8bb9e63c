-- Records that are handed in: what is taken of one, and why one is refused.
use Rattle.std.proofs.Common.{◌≡◌, ◌≢◌, ℕ, List, length, refl, sym, ap, subst, ◌∙◌}
use Rattle.std.specs.Prelude.{true, Result, Ok, Err, IfErr, IsOk, is_err, slice_index_or}
use Rattle.std.proofs.lemmas.Bool.{false≢true}
use Rattle.hyd_spec.specs.ProgramTypes.{Project, LinkState}
use Rattle.hyd_spec.specs.NodeNumbers.{tank_count}
use Rattle.hyd_spec_certificates.specs.declared.Problem.{Problem}
use Rattle.hyd_spec_certificates.specs.declared.Problem.TheVariants.{Main, Pinned}
use Rattle.hyd_spec_certificates.specs.declared.Side.{Side}
use Rattle.hyd_spec_certificates.specs.PeriodNetwork.{Grid}
use Rattle.hyd_spec_certificates.specs.Certificate.{IsCertificate}
use Rattle.hyd_spec_certificates.specs.RecordAndStanding.{Record, Standing, Vectors, vector_of, vector_on, no_vectors}
use Rattle.hyd_spec_certificates.specs.Decided.{ByRules, WithoutRules, RuleIsOpen, EventIsOpen}
use Rattle.hyd_spec_certificates.specs.Valid.{IsProblem, AreCertificates, LeavesLinks, by_rules, by_clock, LeadsOn}
use Rattle.hyd_spec_certificates.specs.Valid.{continues, finishes, IsValid, DemandsAreInRange}
use Rattle.hyd_spec_certificates.specs.declared.CertRefused.TheVariants.{Demand, Fails, Open as MatterOpen, Length}
use Rattle.hyd_spec_certificates.specs.RefusedRecords.{IsRefused, IsInPlace, HasItsGrid, LeavesOpen, rule, event, tank}
use Rattle.hyd_spec_certificates.specs.RefusedRecords.{control, HasOtherLength, at_end, before_end}
use Rattle.hyd_theorems_on_definitions.proofs.OneLength.{ends_again}
use Rattle.hyd_theorems_on_definitions.proofs.OneRefusal.{refused_invalid}
use Rattle.hyd_cert.specs.RecordView.{row_of, IsProblemOf}
use Rattle.hyd_cert.specs.VectorsOfRecord.{two_vectors, behind_two, problems_in}
use Rattle.hyd_cert.specs.declared.record.Record.{Record as Row}
use Rattle.hyd_period_end.specs.OpenMatters.{SharesVectors, IsOpenAt, open_rule}
use Rattle.hyd_period_end.specs.declared.undecided.Open.{Open}
use Rattle.hyd_period_end.specs.declared.undecided.Open.TheVariants.{Rule as RuleIsFound, Event as EventIsFound}
use Rattle.hyd_period_end.specs.declared.undecided.Open.TheVariants.{Tank as TankIsFound, Control as ControlIsFound}
use Rattle.hyd_period_end.specs.declared.period_end.PeriodEnd.{PeriodEnd}
use Rattle.hyd_period_facts.specs.declared.facts.Facts.{Facts}
use Rattle.hyd_period_network.specs.NetView.{NetView}
use Rattle.hyd_sim.specs.Acceptance.{FailsAt, IsTaken}
use Rattle.hyd_sim.specs.PeriodAttempt.{IsMade, next_standing}
use Rattle.hyd_sim.specs.RunView.{standing_for}
use Rattle.hyd_sim.specs.declared.standing_between_periods.Standing.{Standing as Here}
use Rattle.hyd_sim.specs.declared.given_vectors.Failing.{Failing}
use Rattle.hyd_sim.proofs.ProposedRecordIsTaken.{same-record}
use Rattle.hyd_sim.proofs.StopsAndTightRecords.{problem-of, problem-in}

-- ---- vectors

-- a record takes the vectors of another with as many junctions and tanks
pub shares-taken : (row given now : Row) → given.junctions ≡ row.junctions → given.tanks ≡ row.tanks
    → now.vectors.list ≡ given.vectors.list → now.junctions ≡ row.junctions → now.tanks ≡ row.tanks
    → SharesVectors (row_of given) (row_of now)
shares-taken row given now junctions tanks vectors own_junctions own_tanks =
    let j = junctions ∙ sym own_junctions in
    let t = tanks ∙ sym own_tanks in
    let v = sym vectors in
    record {
      main = λ i. two_vectors (j i) (v i);
      pinned = λ i. problems_in (j i) (t i) (behind_two (j i) (v i));
    }

-- records that share their vectors have the same certificates
pub certificates-shared : (project : Project) (grid : Grid) (row other : Record) → SharesVectors row other
    → AreCertificates project grid row → AreCertificates project grid other
certificates-shared project grid row other share are = record {
  pinned_each = ap length (sym share.pinned) ∙ are.pinned_each;
  each = λ problem side is. by problem side is;
}
  where
    by : (problem : Problem) (side : Side) → IsProblem project problem
        → IsCertificate grid problem side (vector_of other problem side)
    by Main side is =
        subst (λ (x : Vectors). IsCertificate grid Main side (vector_on side x)) share.main (are.each Main side is)
    by (Pinned k) side is =
        subst (λ (xs : List Vectors). IsCertificate grid (Pinned k) side
        (vector_on side (slice_index_or xs k no_vectors))) share.pinned (are.each (Pinned k) side is)

-- and share them with that with another length
pub shares-again : (row : Record) (now later : Row) → SharesVectors row (row_of now)
    → later ≡ record now { length = later.length } → SharesVectors row (row_of later)
shares-again row now later share same = subst (λ (r : Row). SharesVectors row (row_of r)) (sym same)
    (record { main = share.main; pinned = share.pinned })

-- the first vector that isn't a certificate
pub fails-refused : (project : Project) (standing : Standing) (grid : Grid) (row : Record) (tanks : ℕ)
    (failing : Failing) → tanks ≡ tank_count project → HasItsGrid project standing grid row
    → FailsAt grid tanks row failing
    → IsRefused project standing row (Fails standing.number failing.problem failing.side failing.junction)
fails-refused project standing grid row tanks failing each has fails = record {
  period_is = refl;
  refused_by = (
    grid,
    (
      has,
      record {
        is_problem = problem-in project failing.problem
            (subst (λ (n : ℕ). IsProblemOf n failing.problem) each fails.is_problem);
        earlier = λ before other is less. fails.earlier before other
            (subst (λ (n : ℕ). IsProblemOf n before) (sym each) (problem-of project before is)) less;
        fails = fails.fails;
      },
    ),
  );
}

-- ---- matters

-- what a record leaves open
pub leaves-open : (project : Project) (grid : Grid) (standing : Standing) (row : Record) (found : Open)
    → IsOpenAt project grid standing row found → LeavesOpen project grid standing row
leaves-open project grid standing row (RuleIsFound found) o = rule (open_rule found) o
leaves-open project grid standing row (EventIsFound earliest latest) o = event earliest latest o
leaves-open project grid standing row (TankIsFound found) o =
    tank o.seconds o.links found.tank o.leaves o.at_levels.first
leaves-open project grid standing row (ControlIsFound found) o =
    control o.seconds o.links found.control o.leaves o.at_levels.first

pub open-refused : (project : Project) (standing : Standing) (grid : Grid) (row : Record) (found : Open)
    → HasItsGrid project standing grid row → AreCertificates project grid row
    → IsOpenAt project grid standing row found → IsRefused project standing row (MatterOpen standing.number)
open-refused project standing grid row found has are is = record {
  period_is = refl;
  refused_by = (
    grid,
    (
      record { has_grid = has; certificates = are },
      leaves-open project grid standing row found is,
    ),
  );
}

-- ---- lengths

module _ (project : Project) (standing : Standing) (grid : Grid) (row : Record) (next : Standing)
    (valid : IsValid project standing grid row next) (seconds : ℕ) (other : seconds ≢ row.length) where
  -- the record with this length in place of its own
  abbrev again : Record
  again = record row { length = seconds }

  leaves-again : (n : ℕ) (links : List LinkState) → LeavesLinks project grid standing row n links
      → LeavesLinks project grid standing again n links
  leaves-again n _ (by_rules e) = by_rules (ends_again project grid standing row seconds (ByRules n) e)
  leaves-again n _ (by_clock e) = by_clock (ends_again project grid standing row seconds (WithoutRules n) e)

  leaves-back : (n : ℕ) (links : List LinkState) → LeavesLinks project grid standing again n links
      → LeavesLinks project grid standing row n links
  leaves-back n _ (by_rules e) = by_rules (ends_again project grid standing again row.length (ByRules n) e)
  leaves-back n _ (by_clock e) = by_clock (ends_again project grid standing again row.length (WithoutRules n) e)

  open-back : LeavesOpen project grid standing again → LeavesOpen project grid standing row
  open-back (rule found e) = rule found (ends_again project grid standing again row.length (RuleIsOpen found) e)
  open-back (event earliest latest e) =
      event earliest latest (ends_again project grid standing again row.length (EventIsOpen earliest latest) e)
  open-back (tank n links number leaves is) = tank n links number (leaves-back n links leaves) is
  open-back (control n links number leaves is) = control n links number (leaves-back n links leaves) is

  has-grid : HasItsGrid project standing grid row
  has-grid = record {
    in_place = record {
      unfinished = valid.unfinished;
      due = record { number = valid.number; time = valid.time };
    };
    in_range = valid.demands;
    is_grid = valid.is_grid;
  }

  shut : LeavesOpen project grid standing again → ⊥
  shut open_there = refused_invalid project standing row (MatterOpen standing.number) (record {
    period_is = refl;
    refused_by = (
      grid,
      (
        record { has_grid = has-grid; certificates = valid.certificates },
        open-back open_there,
      ),
    );
  }) grid next valid

  other-length : LeadsOn project grid standing row next → HasOtherLength project grid standing again
  other-length (continues c) = before_end row.length next.commanded
      (leaves-again row.length next.commanded c.leaves_links) other
  other-length (finishes f) = at_end f.is_last (λ none. other (none ∙ sym f.no_length))

  pub length-refused : IsRefused project standing again (Length standing.number)
  length-refused = record {
    period_is = refl;
    refused_by = (
      grid,
      (
        record {
          has_grid = record {
            in_place = record {
              unfinished = valid.unfinished;
              due = record { number = valid.number; time = valid.time };
            };
            in_range = valid.demands;
            is_grid = valid.is_grid;
          };
          certificates = certificates-shared project grid row again (record { main = refl; pinned = refl })
              valid.certificates;
        },
        (shut, other-length valid.leads_on),
      ),
    );
  }

-- a record with the vectors, number and time of a valid one, and another length
pub other-length-refused : (project : Project) (standing : Standing) (grid : Grid) (given row : Record)
    (next : Standing) → IsValid project standing grid row next → SharesVectors given row
    → given.number ≡ row.number → given.time ≡ row.time → given.length ≢ row.length
    → IsRefused project standing given (Length standing.number)
other-length-refused project standing grid given row next valid share number time other =
    subst (λ (r : Record). IsRefused project standing r (Length standing.number))
    (sym (same-record (record row { length = given.length }) given
    (record { main = share.main; pinned = share.pinned }) number time refl))
    (length-refused project standing grid row next valid given.length other)

-- a record whose vectors leave a matter open
pub some-open-refused : {A : Type 0} (project : Project) (standing : Standing) (grid : Grid) (given row : Record)
    (result : Result A Open) → is_err result ≡ true
    → IfErr result (λ found. (other : Record) → SharesVectors other row → IsOpenAt project grid standing other found)
    → SharesVectors given row → HasItsGrid project standing grid given → AreCertificates project grid given
    → IsRefused project standing given (MatterOpen standing.number)
some-open-refused project standing grid given row (Ok value) e is share has are = absurd (false≢true e)
some-open-refused project standing grid given row (Err found) e is share has are =
    open-refused project standing grid given found has are (is given share)

-- demands that are out of range
pub demand-refused : {A : Type 0} {E : Type 0} (project : Project) (standing : Standing) (row : Record)
    (result : Result A E) → is_err result ≡ true → (DemandsAreInRange project standing.time → IsOk result)
    → IsInPlace standing row → IsRefused project standing row (Demand standing.number)
demand-refused project standing row (Ok value) e started place = absurd (false≢true e)
demand-refused project standing row (Err fault) e started place = record {
  period_is = refl;
  refused_by = (place, λ in_range. absurd (false≢true (started in_range)));
}

-- ---- a record that is taken

-- the period of a record that was made, and the standing behind it
pub taken-of : (project : Project) (here : Here) (net : NetView) (row : Row) (facts : Facts) (close : PeriodEnd)
    (now : Here) → standing_for now ≡ next_standing project here row.length close
    → IsMade project here net row facts close
    → IsTaken project (standing_for here) net row facts (standing_for now)
taken-of project here net row facts close now same made =
    subst (IsTaken project (standing_for here) net row facts) (sym same) (record {
      valid = made.valid;
      facts_are = made.over.facts_are;
      have = made.over.have;
      order = made.order;
      states = made.states;
      links = made.links;
    })
