-- Periods of a run for a spread by found vectors.
use Rattle.std.proofs.Common.{◌≡◌, ℕ, Bool, false, length, sym, ap, subst, ◌∙◌}
use Rattle.hyd_net.specs.ListView.{ListView}
use Rattle.hyd_spec.specs.ProgramTypes.{Project, LinkState}
use Rattle.hyd_spec_certificates.specs.declared.Problem.{Problem}
use Rattle.hyd_spec_certificates.specs.declared.Problem.TheVariants.{Main, Pinned}
use Rattle.hyd_spec_certificates.specs.declared.Side.{Side}
use Rattle.hyd_spec_certificates.specs.Certificate.{IsCertificate}
use Rattle.hyd_spec_certificates.specs.RecordAndStanding.{vector_of}
use Rattle.hyd_spec_certificates.specs.Valid.{IsProblem}
use Rattle.hyd_spec_spread_runs.specs.OutermostPairs.{Pair, grid_on}
use Rattle.hyd_spec_spread_runs.specs.RunsForSpreads.{AreCertificatesOver}
use Rattle.hyd_cert.specs.Lines.{Header}
use Rattle.hyd_cert.specs.RecordView.{row_of, header_of}
use Rattle.hyd_cert.specs.declared.record.Record.{Record as Row}
use Rattle.hyd_open_certificates.specs.OpenRowView.{open_header_of}
use Rattle.hyd_open_certificates.specs.declared.open_row.OpenRow.{OpenRow}
use Rattle.hyd_period_facts.specs.declared.facts.Facts.{Facts}
use Rattle.hyd_period_network.specs.NetView.{NetView}
use Rattle.hyd_period_network.specs.GivenData.{HasElevation, IsNetButEmitters}
use Rattle.hyd_period_network.proofs.NetOfSoundProject.{long_zipped}
use Rattle.hyd_period_vectors.specs.SoughtVectors.{Fits}
use Rattle.hyd_open_period_end.specs.declared.open_period_end.OpenPeriodEnd.{OpenPeriodEnd}
use Rattle.hyd_open_sim_start.specs.StandingsOfOpenRuns.{standing_for}
use Rattle.hyd_open_sim_start.specs.declared.standing.Standing.{Standing as Here}
use Rattle.hyd_open_sim.specs.RunView.{header_for}
use Rattle.hyd_sim.proofs.PeriodsByFoundVectors.{each-again}
use Rattle.hyd_spread_networks.specs.NetsOfSpreads.{SpreadNetsView, pair_of as pair_on}
use Rattle.hyd_spread_vectors.specs.VectorsOfBothNetworks.{Told, IsSoughtOver, ComesOver, pair_of}
use Rattle.hyd_spread_period_end.specs.EndedOverSpreads.{IsOverOnBoth}
use Rattle.hyd_spread_start.specs.StartsOver.{IsStartedOver}
use Rattle.hyd_spread_sim.specs.MadeOver.{IsMadeOver}
use Rattle.hyd_spread_sim.specs.PeriodAttempt.{AreSoughtOver}

-- ---- nets

-- a record of the network fits a net that is the network's but for its emitters
pub fits-net : (project : Project) (net own : NetView) (found : OpenRow) → own ≡ net → IsNetButEmitters project net
    → open_header_of found ≡ header_for project → Fits own (header_of found.row)
fits-net project net own found same of header = subst (λ (n : NetView). Fits n (header_of found.row)) (sym same)
    (record {
      junctions = ap (λ (h : Header). h.junctions) header
          ∙ long_zipped HasElevation project.junctions.list net.junctions of.junctions;
      tanks = ap (λ (h : Header). h.tanks) header ∙ sym of.each_tank;
    })

-- the pair of the nets of both sides, one by one
pair-alike : (nets : SpreadNetsView) (upper lower : NetView) → upper ≡ nets.upper → lower ≡ nets.lower
    → pair_of upper lower ≡ pair_on nets
pair-alike nets upper lower above below =
    ap (λ (u : NetView). pair_of u lower) above ∙ ap (λ (l : NetView). pair_of nets.upper l) below

-- what holds of the vectors on both nets holds on their pair, for the tanks of the network
pub each-over : (nets : SpreadNetsView) (upper lower : NetView) → upper ≡ nets.upper → lower ≡ nets.lower
    → (P : Pair → ℕ → Type 0) (tanks count : ℕ) → tanks ≡ count → P (pair_of upper lower) tanks
    → P (pair_on nets) count
each-over nets upper lower above below P tanks count same is =
    subst (λ (n : ℕ). P (pair_on nets) n) same
    (subst (λ (p : Pair). P p tanks) (pair-alike nets upper lower above below) is)

-- ---- records with another length

module _ (row now : Row) (same : now ≡ record row { length = now.length }) where
  pub certificates-again : (project : Project) (pair : Pair) → AreCertificatesOver project pair (row_of row)
      → AreCertificatesOver project pair (row_of now)
  certificates-again project pair are = subst (λ (r : Row). AreCertificatesOver project pair (row_of r)) (sym same)
      (record { pinned_each = are.pinned_each; each = λ problem side is. by problem side is })
    where
      by : (problem : Problem) (side : Side) → IsProblem project problem
          → IsCertificate (grid_on side pair) problem side
          (vector_of (row_of (record row { length = now.length })) problem side)
      by Main side is = are.each Main side is
      by (Pinned tank) side is = are.each (Pinned tank) side is

  pub sought-again : (tight : Bool) (told : Told) (pair : Pair) (tanks rounds : ℕ)
      → AreSoughtOver tight told pair tanks rounds (row_of row)
      → AreSoughtOver tight told pair tanks rounds (row_of now)
  sought-again tight told pair tanks rounds are = record {
    each = each-again row now same (IsSoughtOver tight told pair tanks) tanks are.each;
    come = each-again row now same (ComesOver tight told pair tanks rounds) tanks are.come;
  }

-- ---- what was made

-- a period that was started and is over by certificates
pub made-of : (project : Project) (slack : ℕ) (here : Here) (nets : SpreadNetsView) (started found : OpenRow)
    (begun facts : Facts) (close : OpenPeriodEnd)
    → IsStartedOver project nets.spread (standing_for here) nets started begun
    → here.finished ≡ false → found.row.number ≡ started.row.number → found.row.time ≡ started.row.time
    → found.late ≡ started.late → facts.links ≡ begun.links
    → AreCertificatesOver project (pair_on nets) (row_of found.row)
    → IsOverOnBoth project slack here (pair_on nets) found facts close
    → IsMadeOver project slack here nets found facts close
made-of project slack here nets started found begun facts close is unfinished number time late links certificates
    over = record {
      valid = record {
        unfinished = unfinished;
        number = number ∙ is.number;
        time = time ∙ is.time;
        late = late ∙ is.late;
        demands = is.in_range;
        are_pair = is.are_pair;
        certificates = certificates;
        leads_on = over.leads_on;
      };
      over = over;
      order = is.order;
      states = is.states;
      links = λ side. is.links side ∙ sym (ap (λ (l : ListView LinkState). l.list) links);
    }
