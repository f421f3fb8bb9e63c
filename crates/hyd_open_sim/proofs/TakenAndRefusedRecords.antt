-- Records that are handed in: what is taken of one, and why one is refused.
use Rattle.std.proofs.Common.{◌≡◌, ℕ, true, false, length, refl, sym, ap, subst, ◌∙◌}
use Rattle.std.specs.Prelude.{Result, Ok, Err, OnOk, OnErr, IsOk, is_err}
use Rattle.std.proofs.lemmas.Bool.{false≢true, true≢false}
use Rattle.hyd_spec.specs.ProgramTypes.{Project}
use Rattle.hyd_spec.specs.NodeNumbers.{tank_count}
use Rattle.hyd_spec_certificates.specs.PeriodNetwork.{Grid}
use Rattle.hyd_spec_certificates.specs.RecordAndStanding.{Record}
use Rattle.hyd_spec_certificates.specs.Valid.{AreCertificates, DemandsAreInRange}
use Rattle.hyd_spec_certificates.specs.declared.Event.{Event}
use Rattle.hyd_spec_certificates.specs.declared.CertRefused.TheVariants.{Demand, Fails, Open as MatterOpen, Length}
use Rattle.hyd_spec_open_ends.specs.OpenStandings.{OpenRecord, OpenStanding}
use Rattle.hyd_spec_open_refusals.specs.RefusedOpenRecords.{HasItsGridOpenly, IsInPlaceOpenly, IsRefusedOpenly}
use Rattle.hyd_spec_open_refusals.specs.RefusedOpenRecords.{HasLengths, HasOtherLengths, LeavesMatterOpen}
use Rattle.hyd_net.specs.ListView.{ListView}
use Rattle.hyd_cert.specs.RecordView.{row_of, IsProblemOf}
use Rattle.hyd_cert.specs.declared.record.Record.{Record as Row}
use Rattle.hyd_period_facts.specs.declared.facts.Facts.{Facts}
use Rattle.hyd_period_network.specs.NetView.{NetView}
use Rattle.hyd_period_end.specs.OpenMatters.{SharesVectors}
use Rattle.hyd_open_certificates.specs.OpenRowView.{open_record_of}
use Rattle.hyd_open_certificates.specs.declared.open_row.OpenRow.{OpenRow}
use Rattle.hyd_open_period_end.specs.declared.open_period_end.OpenPeriodEnd.{OpenPeriodEnd}
use Rattle.hyd_open_sim_start.specs.GivenVectors.{FailsAt}
use Rattle.hyd_open_sim_start.specs.StandingsOfOpenRuns.{standing_for}
use Rattle.hyd_open_sim_start.specs.declared.given_vectors.Failing.{Failing}
use Rattle.hyd_open_sim_start.specs.declared.standing.Standing.{Standing as Here}
use Rattle.hyd_sim.proofs.StopsAndTightRecords.{problem-of, problem-in}
use Rattle.hyd_open_sim.specs.Acceptance.{IsTaken}
use Rattle.hyd_open_sim.specs.EndedPeriods.{IsMade, next_standing}

-- what holds of an answer that is an error
pub not-ok : {A E : Type 0} (P : Type 0) (result : Result A E) → is_err result ≡ true → OnErr result P → P
not-ok P (Ok value) e p = absurd (false≢true e)
not-ok P (Err fault) e p = p

module _ (project : Project) (standing : OpenStanding) (found : OpenRecord) where
  -- demands that are out of range
  pub demand-refused : {A : Type 0} {E : Type 0} (result : Result A E) → is_err result ≡ true
      → (DemandsAreInRange project standing.known.time → IsOk result) → IsInPlaceOpenly standing found
      → IsRefusedOpenly project standing found (Demand standing.known.number)
  demand-refused (Ok value) e started place = absurd (false≢true e)
  demand-refused (Err fault) e started place = record {
    period_is = refl;
    refused_by = (place, λ in_range. absurd (false≢true (started in_range)));
  }

  module _ (grid : Grid) (has : HasItsGridOpenly project standing grid found) where
    -- the first vector that isn't a certificate
    pub fails-refused : (tanks : ℕ) (failing : Failing) → tanks ≡ tank_count project
        → FailsAt grid tanks found.row failing
        → IsRefusedOpenly project standing found
        (Fails standing.known.number failing.problem failing.side failing.junction)
    fails-refused tanks failing each fails = record {
      period_is = refl;
      refused_by = (
        grid,
        (
          has,
          record {
            is_problem = problem-in project failing.problem
                (subst (λ (n : ℕ). IsProblemOf n failing.problem) each fails.is_problem);
            earlier = λ before other is less. fails.earlier before other
                (subst (λ (n : ℕ). IsProblemOf n before) (sym each) (problem-of project before is)) less;
            fails = fails.fails;
          },
        ),
      );
    }

    -- vectors that leave a matter open
    pub open-refused : AreCertificates project grid found.row → LeavesMatterOpen project grid standing found
        → IsRefusedOpenly project standing found (MatterOpen standing.known.number)
    open-refused are is = record {
      period_is = refl;
      refused_by = (grid, (record { has_grid = has; certificates = are }, is));
    }

    -- lengths that aren't the decided ones
    pub lengths-refused : AreCertificates project grid found.row
        → (LeavesMatterOpen project grid standing found → ⊥) → HasOtherLengths project grid standing found
        → IsRefusedOpenly project standing found (Length standing.known.number)
    lengths-refused are closed other = record {
      period_is = refl;
      refused_by = (grid, (record { has_grid = has; certificates = are }, (closed, other)));
    }

-- ---- a record that is taken

-- records with the same vectors, numbers, times and lengths are the same
pub same-found : (found given : OpenRecord) → SharesVectors given.row found.row
    → found.row.number ≡ given.row.number → found.row.time ≡ given.row.time → found.late ≡ given.late
    → found.shortest ≡ given.shortest → found.row.length ≡ given.row.length → found ≡ given
same-found found given share number time late short long = λ i. record {
  row = record {
    number = number i;
    time = time i;
    length = long i;
    main = sym share.main i;
    pinned = sym share.pinned i;
  };
  late = late i;
  shortest = short i;
}

-- the period of a record that was made, and the standing behind it
pub taken-of : (project : Project) (here : Here) (net : NetView) (found : OpenRow) (facts : Facts)
    (close : OpenPeriodEnd) (now : Here) (left : OpenPeriodEnd) → standing_for now ≡ next_standing project here close
    → left.first ≡ close.first → left.late ≡ close.late → left.opened ≡ close.opened
    → ((slack : ℕ) × IsMade project slack here net found facts close)
    → IsTaken project (standing_for here) net found facts left.first left.late left.opened.list (standing_for now)
taken-of project here net found facts close now left same first late opened some =
    subst (IsTaken project (standing_for here) net found facts left.first left.late left.opened.list) (sym same)
    (subst (λ (n : ℕ). IsTaken project (standing_for here) net found facts n left.late left.opened.list
    (next_standing project here close)) (sym first)
    (subst (λ (n : ℕ). IsTaken project (standing_for here) net found facts close.first n left.opened.list
    (next_standing project here close)) (sym late)
    (subst (λ (l : ListView Event). IsTaken project (standing_for here) net found facts close.first close.late l.list
    (next_standing project here close)) (sym opened) (record {
      valid = some.1.valid;
      facts_are = some.1.over.facts_are;
      have = some.1.over.have;
      order = some.1.order;
      states = some.1.states;
      links = some.1.links;
    }))))
