-- Records that are handed in for a spread: their vectors on the nets of both sides, and why one is refused.
use Rattle.std.proofs.Common.{◌≡◌, ℕ, ◌<◌, ℤ, true, List, length, refl, sym, ap, subst, ◌∙◌}
use Rattle.std.specs.Prelude.{Result, Ok, Err, IsOk, is_err, slice_index_or}
use Rattle.std.proofs.lemmas.Bool.{false≢true}
use Rattle.hyd_spec.specs.ProgramTypes.{Project}
use Rattle.hyd_spec.specs.NodeNumbers.{tank_count}
use Rattle.hyd_spec_certificates.specs.declared.Problem.{Problem}
use Rattle.hyd_spec_certificates.specs.declared.Problem.TheVariants.{Main, Pinned}
use Rattle.hyd_spec_certificates.specs.declared.Side.{Side}
use Rattle.hyd_spec_certificates.specs.declared.Side.TheVariants.{Upper, Lower}
use Rattle.hyd_spec_certificates.specs.declared.CertRefused.TheVariants.{Demand, Fails, Open as MatterOpen, Length}
use Rattle.hyd_spec_certificates.specs.Certificate.{IsCertificate}
use Rattle.hyd_spec_certificates.specs.PeriodNetwork.{Grid}
use Rattle.hyd_spec_certificates.specs.RecordAndStanding.{Record, Vectors, vector_of, vector_on, no_vectors}
use Rattle.hyd_spec_certificates.specs.Valid.{IsProblem}
use Rattle.hyd_spec_open_ends.specs.OpenStandings.{OpenRecord, OpenStanding}
use Rattle.hyd_spec_open_refusals.specs.RefusedOpenRecords.{IsInPlaceOpenly}
use Rattle.hyd_spec_spread.specs.Spreads.{Spread}
use Rattle.hyd_spec_spread_refusals.specs.RefusedSpreadRecords.{LeavesMatterOpenOver, HasOtherLengthsOver}
use Rattle.hyd_spec_spread_refusals.specs.RefusedSpreadRecords.{HasItsPair, IsRefusedOver}
use Rattle.hyd_spec_spread_runs.specs.OutermostPairs.{Pair, grid_on}
use Rattle.hyd_spec_spread_runs.specs.RunsForSpreads.{AreDemandsInRange, AreCertificatesOver}
use Rattle.hyd_cert.specs.RecordView.{row_of, header_of, IsProblemOf}
use Rattle.hyd_cert.specs.VectorsOfRecord.{behind_two}
use Rattle.hyd_cert.specs.declared.record.Record.{Record as Row}
use Rattle.hyd_cert.proofs.VectorLemmas.{problems_length}
use Rattle.hyd_open_certificates.specs.OpenRowView.{open_header_of}
use Rattle.hyd_open_certificates.specs.declared.open_row.OpenRow.{OpenRow}
use Rattle.hyd_period_network.specs.NetAsPeriodNetwork.{grid_of}
use Rattle.hyd_period_network.specs.NetView.{NetView}
use Rattle.hyd_period_network.specs.SoundNets.{HasProblem}
use Rattle.hyd_period_end.specs.OpenMatters.{SharesVectors}
use Rattle.hyd_period_vectors.specs.SoughtVectors.{OfEach, Fits}
use Rattle.hyd_open_sim.specs.RunView.{header_for}
use Rattle.hyd_open_sim_start.specs.declared.given_vectors.Failing.{Failing}
use Rattle.hyd_sim.proofs.StopsAndTightRecords.{problem-of, problem-in}
use Rattle.hyd_spread_networks.specs.NetsOfSpreads.{SpreadNetsView, AreNetsOf, net_on, pair_of}
use Rattle.hyd_spread_sim.specs.GivenVectors.{IsCertificateOn, FailsAtOver}
use Rattle.hyd_spread_sim.proofs.PeriodsOverSpreads.{fits-net}

-- ---- vectors on the nets of both sides

-- what holds on the net of a side holds on its grid
pub on-side : (nets : SpreadNetsView) (side : Side) (net : NetView) → net ≡ net_on side nets
    → (P : Grid → List ℤ → Type 0) (u v : List ℤ) → u ≡ v → P (grid_of net) u → P (grid_on side (pair_of nets)) v
on-side nets Upper net same P u v vectors is =
    subst (P (grid_of nets.upper)) vectors (subst (λ (n : NetView). P (grid_of n) u) same is)
on-side nets Lower net same P u v vectors is =
    subst (P (grid_of nets.lower)) vectors (subst (λ (n : NetView). P (grid_of n) u) same is)

-- a problem of a record is one of a net with as many tanks
pub problem-on : (net own : NetView) (tanks : ℕ) (problem : Problem) → own ≡ net → tanks ≡ length net.tanks
    → IsProblemOf tanks problem → HasProblem own problem
problem-on net own tanks Main same each is = tt
problem-on net own tanks (Pinned tank) same each is =
    subst (λ (n : ℕ). tank < n) (each ∙ sym (ap (λ (x : NetView). length x.tanks) same)) is

-- a record of the network fits the nets of both sides
pub fits-both : (project : Project) (nets : SpreadNetsView) (given : OpenRow) → AreNetsOf project nets
    → open_header_of given ≡ header_for project → (side : Side) → Fits (net_on side nets) (header_of given.row)
fits-both project nets given of header side =
    fits-net project (net_on side nets) (net_on side nets) given refl (of.each side) header

-- certificates of each problem and side
pub certificates-over : (project : Project) (pair : Pair) (row : Row) → row.tanks ≡ tank_count project
    → OfEach (IsCertificateOn pair) row.tanks (row_of row) → AreCertificatesOver project pair (row_of row)
certificates-over project pair row each all = record {
  pinned_each = problems_length row.junctions row.tanks (behind_two row.junctions row.vectors.list) ∙ each;
  each = λ problem side is. all problem side
      (subst (λ (n : ℕ). IsProblemOf n problem) (sym each) (problem-of project problem is));
}

-- records that share their vectors have the same certificates
pub certificates-shared-over : (project : Project) (pair : Pair) (row other : Record) → SharesVectors row other
    → AreCertificatesOver project pair row → AreCertificatesOver project pair other
certificates-shared-over project pair row other share are = record {
  pinned_each = ap length (sym share.pinned) ∙ are.pinned_each;
  each = λ problem side is. by problem side is;
}
  where
    by : (problem : Problem) (side : Side) → IsProblem project problem
        → IsCertificate (grid_on side pair) problem side (vector_of other problem side)
    by Main side is = subst (λ (x : Vectors). IsCertificate (grid_on side pair) Main side (vector_on side x)) share.main
        (are.each Main side is)
    by (Pinned k) side is =
        subst (λ (xs : List Vectors). IsCertificate (grid_on side pair) (Pinned k) side
        (vector_on side (slice_index_or xs k no_vectors))) share.pinned (are.each (Pinned k) side is)

-- ---- refusals

module _ (project : Project) (spread : Spread) (standing : OpenStanding) (found : OpenRecord) where
  -- demands of which an end is out of range
  pub demand-refused-over : {A : Type 0} {E : Type 0} (result : Result A E) → is_err result ≡ true
      → (AreDemandsInRange project spread standing.known.time → IsOk result) → IsInPlaceOpenly standing found
      → IsRefusedOver project spread standing found (Demand standing.known.number)
  demand-refused-over (Ok value) e started place = absurd (false≢true e)
  demand-refused-over (Err fault) e started place = record {
    period_is = refl;
    refused_by = (place, λ in_range. absurd (false≢true (started in_range)));
  }

  module _ (pair : Pair) (has : HasItsPair project spread standing pair found) where
    -- the first vector that isn't a certificate
    pub fails-refused-over : (tanks : ℕ) (failing : Failing) → tanks ≡ tank_count project
        → FailsAtOver pair tanks found.row failing
        → IsRefusedOver project spread standing found
        (Fails standing.known.number failing.problem failing.side failing.junction)
    fails-refused-over tanks failing each fails = record {
      period_is = refl;
      refused_by = (
        pair,
        (
          has,
          record {
            is_problem = problem-in project failing.problem
                (subst (λ (n : ℕ). IsProblemOf n failing.problem) each fails.is_problem);
            earlier = λ before other is less. fails.earlier before other
                (subst (λ (n : ℕ). IsProblemOf n before) (sym each) (problem-of project before is)) less;
            fails = fails.fails;
          },
        ),
      );
    }

    -- vectors that leave a matter open
    pub open-refused-over : AreCertificatesOver project pair found.row
        → LeavesMatterOpenOver project pair standing found
        → IsRefusedOver project spread standing found (MatterOpen standing.known.number)
    open-refused-over are is = record {
      period_is = refl;
      refused_by = (pair, (record { has_pair = has; certificates = are }, is));
    }

    -- lengths that aren't the decided ones
    pub lengths-refused-over : AreCertificatesOver project pair found.row
        → (LeavesMatterOpenOver project pair standing found → ⊥) → HasOtherLengthsOver project pair standing found
        → IsRefusedOver project spread standing found (Length standing.known.number)
    lengths-refused-over are closed other = record {
      period_is = refl;
      refused_by = (pair, (record { has_pair = has; certificates = are }, (closed, other)));
    }
