-- From the last period of a run for a spread to what its report needs.
use Rattle.std.proofs.Common.{◌≡◌, ℕ, suc, ◌<◌, ◌≤◌, ◌+◌, ◌^◌, ℤ, List, length, sym, ap, ◌∙◌, arith}
use Rattle.std.proofs.lemmas.List.Elements.{All-from_get_or}
use Rattle.hyd_net.specs.Sound.{IsSound}
use Rattle.hyd_spec.specs.ProgramTypes.{Project}
use Rattle.hyd_spec.specs.NodeNumbers.{junction_count, tank_count}
use Rattle.hyd_spec_certificates.specs.declared.Problem.{Problem}
use Rattle.hyd_spec_certificates.specs.declared.Problem.TheVariants.{Main, Pinned}
use Rattle.hyd_spec_certificates.specs.declared.Side.{Side}
use Rattle.hyd_spec_certificates.specs.declared.Side.TheVariants.{Upper, Lower}
use Rattle.hyd_spec_certificates.specs.Certificate.{IsCertificate}
use Rattle.hyd_spec_certificates.specs.CertificateText.{IsRow, IsVector as IsRowVector}
use Rattle.hyd_spec_certificates.specs.RecordAndStanding.{Record, Standing, Vectors, no_vectors}
use Rattle.hyd_spec_open_ends.specs.OpenStandings.{OpenStanding, OpenRecord}
use Rattle.hyd_spec_open_ends.specs.OpenRecords.{LeadsOnOpenly, continues, finishes}
use Rattle.hyd_spec_spread.specs.Spreads.{Spread}
use Rattle.hyd_spec_spread_runs.specs.OutermostPairs.{Pair, grid_on, spanned}
use Rattle.hyd_spec_spread_runs.specs.RunsForSpreads.{AreCertificatesOver}
use Rattle.hyd_spec_open_spreads.specs.OpenRunsForSpreads.{IsValidOpenlyOver, spanning_openly}
use Rattle.hyd_theorems_on_definitions.specs.SoundLawsAndGrids.{IsSteady, TanksInOrder}
use Rattle.hyd_cert.specs.RecordView.{row_of}
use Rattle.hyd_cert.specs.declared.record.Record.{Record as Row}
use Rattle.hyd_period_facts.specs.declared.facts.Facts.{Facts}
use Rattle.hyd_period_network.specs.GivenData.{HasElevation, IsNetButEmitters}
use Rattle.hyd_period_network.specs.LawsInSettings.{AreStates}
use Rattle.hyd_period_network.specs.NetAsPeriodNetwork.{grid_of, states_of}
use Rattle.hyd_period_network.specs.NetView.{NetView}
use Rattle.hyd_period_network.proofs.GridJunctionsAndLinks.{junctions_count}
use Rattle.hyd_period_network.proofs.NetOfSoundProject.{long_zipped}
use Rattle.hyd_report.specs.PeriodLines.{AreTankFacts}
use Rattle.hyd_run.specs.Runs.{periods_left}
use Rattle.hyd_run.proofs.PeriodLemmas.{tank-facts-of}
use Rattle.hyd_spread_bounds.specs.BothSides.{IsOrderedPair, pair_of as pair_between}
use Rattle.hyd_spread_bounds.proofs.HeadsOfBothSides.{main-order}
use Rattle.hyd_spread_bounds.proofs.OrderedPairs.{ordered-pair}
use Rattle.hyd_spread_networks.specs.NetsOfSpreads.{SpreadNetsView, AreNetsOf, pair_of}
use Rattle.hyd_spread_report.specs.LinesOverBothSides.{AreBoundsOver}
use Rattle.hyd_spread_sim.specs.SpreadRunView.{SpreadSimView, IsSpreadSim, standing_of}
use Rattle.hyd_spread_sim.specs.SpreadSteps.{LeadsOver}
use Rattle.hyd_spread_run.specs.PeriodsOfSpreadRuns.{IsOfPeriod}

-- ---- nets of both sides

junctions-of : (project : Project) (net : NetView) → IsNetButEmitters project net
    → length (grid_of net).junctions ≡ length net.junctions
junctions-of project net of =
    junctions_count net.junctions net.demands
    (of.each_demand ∙ long_zipped HasElevation project.junctions.list net.junctions of.junctions)

grid-count : (project : Project) (net : NetView) → IsNetButEmitters project net
    → length (grid_of net).junctions ≡ junction_count project
grid-count project net of =
    junctions-of project net of
    ∙ sym (long_zipped HasElevation project.junctions.list net.junctions of.junctions)

pub grid-counts : (project : Project) (nets : SpreadNetsView) → AreNetsOf project nets → (side : Side)
    → length (grid_on side (pair_of nets)).junctions ≡ junction_count project
grid-counts project nets of Upper = grid-count project nets.upper (of.each Upper)
grid-counts project nets of Lower = grid-count project nets.lower (of.each Lower)

-- certificates on both nets are bounds where the tanks' intervals are in order
bounds-over : (project : Project) (upper lower : NetView) (row : Record) → IsNetButEmitters project upper
    → IsNetButEmitters project lower → IsOrderedPair (pair_between upper lower) → IsSteady (grid_of lower)
    → TanksInOrder (grid_of lower) → AreCertificatesOver project (pair_between upper lower) row
    → AreBoundsOver upper lower row
bounds-over project upper lower row above below ordered steady order certificates =
    let under : IsCertificate (grid_of lower) Main Lower row.main.lower = certificates.each Main Lower tt in
    let over : IsCertificate (grid_of upper) Main Upper row.main.upper = certificates.each Main Upper tt in
    record {
      low = record { one_each = under.one_each ∙ junctions-of project lower below; in_box = under.in_box };
      high = record { one_each = over.one_each ∙ junctions-of project upper above; in_box = over.in_box };
      ordered = main-order (pair_between upper lower) ordered steady order row.main.lower row.main.upper under over;
    }

-- ---- a period that is reported

-- what a period leaves is of one period
pub of-leads : (sim : SpreadSimView) → IsSpreadSim sim → (before : OpenStanding)
    → LeadsOver sim.project before sim.nets sim.found sim.facts sim.close.first sim.close.late sim.close.opened.list
    (standing_of sim) → IsOfPeriod sim
of-leads sim is before leads = record {
  pair = ordered-pair sim.project sim.nets.spread is.spread before.known (pair_of sim.nets) leads.valid.are_pair;
  certificates = leads.valid.certificates;
  have = leads.have;
  order = leads.order Lower;
  states = leads.states Upper;
  links = leads.links Upper;
}

module _ (sim : SpreadSimView) (is : IsSpreadSim sim) (of : IsOfPeriod sim) (project : Project) (nets : SpreadNetsView)
    (row : Row) (facts : Facts) (p : project ≡ sim.project) (n : nets ≡ sim.nets) (r : row ≡ sim.found.row)
    (f : facts ≡ sim.facts) where
  pub sound-there : IsSound project
  sound-there = rw p is.sound

  pub nets-there : AreNetsOf project nets
  nets-there = rw (p, n) is.nets

  pub pair-there : IsOrderedPair (pair_of nets)
  pair-there = rw n of.pair

  pub states-there : AreStates project (states_of nets.upper)
  states-there = rw (p, n) of.states

  pub bounds-there : IsSteady (grid_of nets.lower) → AreBoundsOver nets.upper nets.lower (row_of row)
  bounds-there steady =
      bounds-over project nets.upper nets.lower (row_of row) (nets-there.each Upper) (nets-there.each Lower) pair-there
      steady (rw n of.order) (rw (p, n, r) of.certificates)

  pub tanks-there : AreTankFacts project facts
  tanks-there = rw (p, f) (tank-facts-of sim.project sim.facts of.have)

  pub links-there : states_of nets.upper ≡ facts.links.list
  links-there = rw (n, f) of.links

-- ---- records that a certificate can hold

pub row-fits : (project : Project) (pair : Pair) (row : Record)
    → ((side : Side) → length (grid_on side pair).junctions ≡ junction_count project)
    → AreCertificatesOver project pair row → row.number < 2 ^ 32 → row.time < 2 ^ 32 → row.length < 2 ^ 32
    → IsRow (junction_count project) (tank_count project) row
row-fits project pair row count certificates number time seconds = record {
  number_fits = number;
  time_fits = time;
  length_fits = seconds;
  main_upper = fits Upper Main row.main.upper (certificates.each Main Upper tt);
  main_lower = fits Lower Main row.main.lower (certificates.each Main Lower tt);
  pinned_each = certificates.pinned_each;
  pinned_upper = All-from_get_or (λ (v : Vectors). IsRowVector (junction_count project) v.upper) row.pinned no_vectors
      (λ k inside. fits Upper (Pinned k) _ (certificates.each (Pinned k) Upper (inside-of k inside)));
  pinned_lower = All-from_get_or (λ (v : Vectors). IsRowVector (junction_count project) v.lower) row.pinned no_vectors
      (λ k inside. fits Lower (Pinned k) _ (certificates.each (Pinned k) Lower (inside-of k inside)));
}
  where
    fits : (side : Side) (problem : Problem) (u : List ℤ) → IsCertificate (grid_on side pair) problem side u
        → IsRowVector (junction_count project) u
    fits side problem u is = record { one_each = is.one_each ∙ count side; in_box = is.in_box }

    inside-of : (k : ℕ) → k < length row.pinned → k < tank_count project
    inside-of k inside = let e = certificates.pinned_each in omega (arith, inside, e)

-- ---- the number of the next standing

pub number-next : (project : Project) (spread : Spread) (standing : OpenStanding) (pair : Pair) (found : OpenRecord)
    (next : OpenStanding) → IsValidOpenlyOver project spread standing pair found next
    → next.known.number ≡ suc standing.known.number
number-next project spread standing pair found next valid = by valid.leads_on
  where
    by : LeadsOnOpenly project (spanned pair) standing (spanning_openly pair found) next
        → next.known.number ≡ suc standing.known.number
    by (continues c) = c.number
    by (finishes f) = ap (λ (s : Standing). s.number) f.next_known

-- no more periods were done than a run has seconds, but for the one at its end
few-periods : (sim : SpreadSimView) → IsSpreadSim sim
    → (standing_of sim).known.number ≤ suc sim.project.times.duration
few-periods sim is =
    let few : sim.here.number ≤ sim.here.time + 1 = is.standing.few in
    let time : sim.here.time ≤ sim.project.times.duration = is.standing.firm.tidy.in_time in
    omega (arith, few, time)

pub fewer-left : (before now : SpreadSimView) → IsSpreadSim now
    → (standing_of now).known.number ≡ suc (standing_of before).known.number
    → periods_left now.project (standing_of now).known < periods_left now.project (standing_of before).known
fewer-left before now is next = let few = few-periods now is in omega (arith, next, few)
