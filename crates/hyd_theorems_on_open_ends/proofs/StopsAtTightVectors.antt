-- Where the tight vectors leave an end open, no record with certificates decides it: a stop is a fact about the
-- tightest vectors.
use Rattle.std.proofs.Common.{ℕ, ◌<◌, ◌≤◌, subst, arith}
use Rattle.std.proofs.lemmas.Int.{ints}
use Rattle.hyd_net.specs.Sound.{IsSound}
use Rattle.hyd_spec.specs.ProgramTypes.{Project}
use Rattle.hyd_spec_certificates.specs.declared.Side.TheVariants.{Upper, Lower}
use Rattle.hyd_spec_certificates.specs.PeriodNetwork.{Grid}
use Rattle.hyd_spec_certificates.specs.RecordAndStanding.{Record, Standing, vector_of}
use Rattle.hyd_spec_certificates.specs.Decided.{End}
use Rattle.hyd_spec_certificates.specs.Valid.{IsGridAt, AreCertificates}
use Rattle.hyd_spec_certificates.specs.Stops.{IsTightRow}
use Rattle.hyd_spec_open_ends.specs.OpenStandings.{OpenStanding}
use Rattle.hyd_spec_open_ends.specs.OpenEnds.{Way, EndsIn, late_at_end, IsFirstOpen}
use Rattle.hyd_spec_open_ends.specs.OpenStops.{LeavesEndOpen}
use Rattle.hyd_theorems_on_definitions.proofs.OneGrid.{one_grid}
use Rattle.hyd_theorems_on_definitions.proofs.SoundTankLemmas.{vessels}
use Rattle.hyd_theorems_on_histories.specs.Agreement.{IsKept}
use Rattle.hyd_theorems_on_nesting.specs.Nesting.{AreNested}
use Rattle.hyd_theorems_on_nesting.specs.StandingsOfRuns.{IsTidy}
use Rattle.hyd_theorems_on_nesting.proofs.TightVectorsDecide.{steady_at}
use Rattle.hyd_theorems_on_open_ends.specs.WaysInside.{HasFate, IsWayInside}
use Rattle.hyd_theorems_on_open_ends.proofs.OneOpenEnd.{not_both}
use Rattle.hyd_theorems_on_open_ends.proofs.NestedWays.{way_in, narrower}
use Rattle.hyd_theorems_on_open_ends.proofs.SecondsExist.{seconds_are}
use Rattle.hyd_theorems_on_open_ends.proofs.EveryOpenPeriodEnds.{some_fate}

-- a record with certificates inside itself
self-nested : (project : Project) (standing : Standing) (grid : Grid) (outer inner : Record)
    → AreNested project standing grid outer inner → AreNested project standing grid inner inner
self-nested project standing grid outer inner nested = record {
  is_grid = nested.is_grid;
  steady = nested.steady;
  levels_each = nested.levels_each;
  ordered = nested.ordered;
  outer_certificates = nested.inner_certificates;
  inner_certificates = nested.inner_certificates;
  about = record {
    upper = λ problem is i junction at. omega (arith, ints);
    lower = λ problem is i junction at. omega (arith, ints);
  };
  vessels = nested.vessels;
}

-- each period before the end of the run ends in some way under a record with certificates, or some matter is open first
pub every_fate : (project : Project) (grid : Grid) (standing : OpenStanding) (row : Record)
    → AreNested project standing.known grid row row → standing.known.time < project.times.duration → (slack : ℕ)
    → HasFate project grid standing row slack
every_fate project grid standing row nested before slack =
    let has = seconds_are project grid standing.known row nested before in
    some_fate project grid standing row slack has.cap has.earliest has.latest has.are

-- what an outer record decides an inner one decides
pub inner_way : (project : Project) → IsSound project → (standing : OpenStanding) (grid : Grid) (outer inner : Record)
    → AreNested project standing.known grid outer inner → standing.known.time < project.times.duration → (way : Way)
    → EndsIn project grid standing outer way
    → (inside : Way) × (EndsIn project grid standing inner inside × IsWayInside inside way)
inner_way project sound standing grid outer inner nested before way ends =
    let has = seconds_are project grid standing.known inner (self-nested project standing.known grid outer inner nested)
    before in
    way_in project sound standing grid outer inner nested way has.cap has.earliest has.latest ends has.are

module _ (project : Project) (sound : IsSound project) (standing : OpenStanding) (kept : IsKept project standing.known)
    (tidy : IsTidy project standing.known) (grid : Grid) (row : Record) (is : IsGridAt project standing.known grid)
    (certificates : AreCertificates project grid row) where
  tight-inside : (tight : Record) → IsTightRow project standing.known grid tight
      → AreNested project standing.known grid row tight
  tight-inside tight tightest = record {
    is_grid = is;
    steady = steady_at project sound standing.known grid kept is;
    levels_each = tidy.levels_each;
    ordered = tidy.ordered;
    outer_certificates = certificates;
    inner_certificates = record {
      pinned_each = tightest.one_each;
      each = λ problem side of. (tightest.each problem side of).is_certificate;
    };
    about = record {
      upper = λ problem of. (tightest.each problem Upper of).nearest (vector_of row problem Upper)
          (certificates.each problem Upper of);
      lower = λ problem of. (tightest.each problem Lower of).nearest (vector_of row problem Lower)
          (certificates.each problem Lower of);
    };
    vessels = vessels project sound;
  }

  pub no_way_where_open : standing.known.time < project.times.duration → (slack : ℕ) (end : End)
      → LeavesEndOpen project standing slack end → (way : Way) → EndsIn project grid standing row way
      → late_at_end standing.late way ≤ slack → ⊥
  no_way_where_open before slack end leaves way ends within =
      let same = one_grid project standing.known leaves.grid grid leaves.tight.is_grid is in
      let tightest = subst (λ g. IsTightRow project standing.known g leaves.row) same leaves.tight in
      let still = subst (λ g. IsFirstOpen project g standing leaves.row slack end) same leaves.is_open in
      let inner = inner_way project sound standing grid row leaves.row (tight-inside leaves.row tightest) before way
      ends
      in
      not_both project grid standing leaves.row slack inner.0 end inner.1.0
      (let n = narrower standing.late inner.0 way inner.1.1 in omega (arith, n, within)) still
