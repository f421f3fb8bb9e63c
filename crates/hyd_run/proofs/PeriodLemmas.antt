-- From a period that was done to what is found, and what its report needs.
use Rattle.std.proofs.Common.{◌≡◌, ℕ, suc, ◌<◌, ◌≤◌, ◌+◌, ◌^◌, ℤ, pos, List, length, sym, ap, ◌∙◌, arith}
use Rattle.std.proofs.lemmas.Int.{ints}
use Rattle.std.proofs.lemmas.List.Elements.{All-from_get_or}
use Rattle.std.proofs.lemmas.List.{length-map}
use Rattle.hyd_spec.specs.ProgramTypes.{Project}
use Rattle.hyd_spec.specs.Lists.{map_from}
use Rattle.hyd_spec.specs.NodeNumbers.{junction_count, tank_count}
use Rattle.hyd_spec_certificates.specs.declared.Problem.TheVariants.{Main, Pinned}
use Rattle.hyd_spec_certificates.specs.declared.Side.{Side}
use Rattle.hyd_spec_certificates.specs.declared.Side.TheVariants.{Upper, Lower}
use Rattle.hyd_spec_certificates.specs.Interval.{Interval}
use Rattle.hyd_spec_certificates.specs.PeriodNetwork.{Grid}
use Rattle.hyd_spec_certificates.specs.Certificate.{IsCertificate}
use Rattle.hyd_spec_certificates.specs.RecordAndStanding.{Record, Standing, Vectors, no_vectors}
use Rattle.hyd_spec_certificates.specs.Valid.{AreCertificates, IsValid, LeadsOn, continues, finishes}
use Rattle.hyd_spec_certificates.specs.CertificateText.{IsRow, IsVector as IsRowVector}
use Rattle.hyd_theorems_on_definitions.specs.SoundLawsAndGrids.{IsSteady, TanksInOrder}
use Rattle.hyd_theorems_on_definitions.proofs.HeadLists.{fixed-in-order, ends-in-order}
use Rattle.hyd_theorems_on_definitions.proofs.TwoSides.{heads_below_plus}
use Rattle.hyd_period_network.specs.NetAsPeriodNetwork.{grid_of}
use Rattle.hyd_period_network.specs.NetView.{NetView}
use Rattle.hyd_period_network.specs.NetsSetToPeriods.{IsNetOf, ends_of}
use Rattle.hyd_period_network.proofs.GridJunctionsAndLinks.{junctions_count, links_count}
use Rattle.hyd_period_network.proofs.NetOfSoundProject.{long_zipped}
use Rattle.hyd_report.specs.PeriodLines.{AreBounds, AreTankFacts}
use Rattle.hyd_sim.specs.RunView.{SimView, IsSim, standing_of, Facts, HaveTanks}
use Rattle.hyd_run.specs.Runs.{periods_left}

-- ---- bounds

-- certificates are bounds of a net whose tanks' intervals are in order
pub bounds-of : (project : Project) (net : NetView) (row : Record) → IsNetOf project net → IsSteady (grid_of net)
    → TanksInOrder (grid_of net) → AreCertificates project (grid_of net) row → AreBounds net row
bounds-of project net row of steady order certificates =
    let under : IsCertificate (grid_of net) Main Lower row.main.lower = certificates.each Main Lower tt in
    let over : IsCertificate (grid_of net) Main Upper row.main.upper = certificates.each Main Upper tt in
    let count = junctions_count net.junctions net.demands (of.each_demand ∙ long_zipped _ _ _ of.junctions) in
    record {
      lower = record { one_each = under.one_each ∙ count; in_box = under.in_box };
      upper = record { one_each = over.one_each ∙ count; in_box = over.in_box };
      ordered = λ m. heads_below_plus (grid_of net) steady Main Main row.main.upper row.main.lower (pos 0) over under
          (omega (arith, ints))
          (λ k. (let f = fixed-in-order (grid_of net).reservoirs
          (map_from (λ (i : ℕ) (x : Interval). x.lo) 0 (grid_of net).tanks)
          (map_from (λ (i : ℕ) (x : Interval). x.hi) 0 (grid_of net).tanks)
          (ends-in-order 0 (grid_of net).tanks order) k in omega (arith, ints, f))) m;
    }

-- ---- tanks

pub tank-facts-of : (project : Project) (facts : Facts) → HaveTanks project facts → AreTankFacts project facts
tank-facts-of project facts have = record {
  levels = have.levels;
  inflows = have.inflows;
  states = have.tanks;
  small = λ k d inside. (let s = have.small k d inside in record { low = s.lo; high = s.hi });
}

-- ---- records that a certificate can hold

pub row-fits : (project : Project) (grid : Grid) (row : Record) → length grid.junctions ≡ junction_count project
    → AreCertificates project grid row → row.number < 2 ^ 32 → row.time < 2 ^ 32 → row.length < 2 ^ 32
    → IsRow (junction_count project) (tank_count project) row
row-fits project grid row count certificates number time seconds = record {
  number_fits = number;
  time_fits = time;
  length_fits = seconds;
  main_upper = fits (certificates.each Main Upper tt);
  main_lower = fits (certificates.each Main Lower tt);
  pinned_each = certificates.pinned_each;
  pinned_upper = All-from_get_or (λ (v : Vectors). IsRowVector (junction_count project) v.upper) row.pinned no_vectors
      (λ k inside. fits (certificates.each (Pinned k) Upper (inside-of k inside)));
  pinned_lower = All-from_get_or (λ (v : Vectors). IsRowVector (junction_count project) v.lower) row.pinned no_vectors
      (λ k inside. fits (certificates.each (Pinned k) Lower (inside-of k inside)));
}
  where
    fits : {problem : _} {side : Side} {u : List ℤ} → IsCertificate grid problem side u
        → IsRowVector (junction_count project) u
    fits is = record { one_each = is.one_each ∙ count; in_box = is.in_box }

    inside-of : (k : ℕ) → k < length row.pinned → k < tank_count project
    inside-of k inside = let e = certificates.pinned_each in omega (arith, inside, e)

pub grid-count : (project : Project) (net : NetView) → IsNetOf project net
    → length (grid_of net).junctions ≡ junction_count project
grid-count project net of =
    let same = long_zipped _ _ _ of.junctions in
    junctions_count net.junctions net.demands (of.each_demand ∙ same) ∙ sym same

-- the grid has each link
pub each-link : (now : SimView) → IsSim now → length (grid_of now.net).links ≡ length now.project.links.list
each-link now is =
    let ends : length now.net.ends ≡ length now.project.links.list =
    ap length is.net.ends ∙ length-map now.project.links.list ends_of in
    links_count now.net.ends now.net.settings now.net.own (is.net.each_setting ∙ sym ends) (is.net.each_own ∙ sym ends)
    ∙ ends

-- ---- the number of the next standing

-- no more periods were done than a run has seconds, but for the one at its end
pub few-periods : (sim : SimView) → IsSim sim → (standing_of sim).number ≤ suc sim.project.times.duration
few-periods sim is =
    let few : sim.here.number ≤ sim.here.time + 1 = is.standing.few in
    let time : sim.here.time ≤ sim.project.times.duration = is.standing.tidy.in_time in
    omega (arith, few, time)

pub small-number : (sim : SimView) → IsSim sim → (standing_of sim).number < 2 ^ 32
small-number sim is =
    let few = few-periods sim is in
    let most = is.sound.times.duration in
    omega (arith, few, most)

pub number-next : (project : Project) (standing : Standing) (grid : Grid) (row : Record) (next : Standing)
    → IsValid project standing grid row next → next.number ≡ suc standing.number
number-next project standing grid row next valid = by valid.leads_on
  where
    by : LeadsOn project grid standing row next → next.number ≡ suc standing.number
    by (continues c) = c.number
    by (finishes f) = ap (λ (s : Standing). s.number) f.next_is

pub fewer-left : (before now : SimView) → IsSim now → (standing_of now).number ≡ suc (standing_of before).number
    → periods_left now.project (standing_of now) < periods_left now.project (standing_of before)
fewer-left before now is next = let few = few-periods now is in omega (arith, next, few)
