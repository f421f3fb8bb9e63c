-- Vectors of records, demands in range, and nets that are set for moments.
use Rattle.std.proofs.Common.{◌≡◌, ℕ, ◌*◌, ◌<◌, ℤ, List, length, drop, sym, ap, ap₂, subst, ◌∙◌, arith}
use Rattle.std.specs.Prelude.{unsigned_abs}
use Rattle.std.proofs.lemmas.List.{length-take-le, length-drop}
use Rattle.std.proofs.lemmas.Option.{slice_get_within}
use Rattle.hyd_spec.specs.DemandsHeadsAndPumpLifts.{demand_of}
use Rattle.hyd_spec.specs.History.{tank_states}
use Rattle.hyd_spec.specs.ProgramTypes.{Project, LinkState}
use Rattle.hyd_spec.specs.PumpPatternsAndSimpleControls.{started, acts_at}
use Rattle.hyd_spec_certificates.specs.declared.Problem.{Problem}
use Rattle.hyd_spec_certificates.specs.declared.Side.{Side}
use Rattle.hyd_spec_certificates.specs.RecordAndStanding.{vector_of}
use Rattle.hyd_spec_certificates.specs.Stops.{IsFirstDemand}
use Rattle.hyd_spec_certificates.specs.Valid.{DemandsAreInRange, demand_limit}
use Rattle.hyd_spec_witnesses.specs.MetPeriods.{Moment, Reached, commanded_at}
use Rattle.hyd_spec_witnesses.specs.MiddleCandidate.{halves}
use Rattle.hyd_lemmas.proofs.ListsOptionsAndResults.{item_is}
use Rattle.hyd_cert.specs.RecordView.{row_of, IsProblemOf}
use Rattle.hyd_cert.specs.VectorsOfRecord.{place_in}
use Rattle.hyd_cert.specs.declared.record.Record.{Record}
use Rattle.hyd_cert.proofs.VectorLemmas.{vector_at, vector_within}
use Rattle.hyd_middle_flows.specs.CandidateParts.{IsSetFor}
use Rattle.hyd_course.specs.NetsSetForMoments.{IsSetAt}
use Rattle.hyd_course.specs.declared.set_net.SetNet.{SetNet}

-- a vector of a record has a head for each junction
pub vector_long : (row : Record) (problem : Problem) (side : Side) → IsProblemOf row.tanks problem
    → length (vector_of (row_of row) problem side) ≡ row.junctions
vector_long row problem side there =
    let n = row.junctions in
    let heads = row.vectors.list in
    let from = place_in problem side * n in
    let within = vector_within n row.tanks heads problem side row.whole there in
    let left = length-drop from heads in
    ap length (sym (vector_at n row.tanks row.number row.time row.length heads problem side there))
    ∙ length-take-le n (drop from heads) (omega (arith, within, left))

-- where demands are in range, none is the first that isn't
pub no_fault : (project : Project) (time j : ℕ) (demand : ℤ) → DemandsAreInRange project time
    → IsFirstDemand project time j demand → ⊥
no_fault project time j demand all first =
    let there = slice_get_within project.junctions.list j first.junction first.is_junction in
    let same = item_is project.junctions.list j first.junction first.junction first.is_junction in
    let small = all j first.junction there in
    let is = first.is_demand ∙ ap (demand_of project time) (sym same) in
    let out = subst (λ (z : ℤ). demand_limit < unsigned_abs z) is first.out_of_range in
    omega (arith, small, out)

-- a net that is set at a moment's time and levels is set for it
pub set_for : (project : Project) (reached : Reached) (moment : Moment) (S : ℕ) (levels : List ℤ)
    (commanded : List LinkState) (set : SetNet) → S ≡ halves → levels ≡ moment.levels
    → commanded ≡ commanded_at project halves reached.last → IsSetAt project S moment.time levels commanded set
    → IsSetFor project reached moment set.net set.tanks.items
set_for project reached moment S levels commanded set e f g is = record {
  tanks_are = is.tanks ∙ ap₂ (λ (s : ℕ) (l : List ℤ). tank_states s project.tanks.list l) e f;
  links_are = is.states ∙ (is.links
      ∙ (ap₂ (λ (s : ℕ) (l : List ℤ). started project moment.time (acts_at s l) commanded) e f
      ∙ ap (started project moment.time (acts_at halves moment.levels)) g));
  junctions_are = is.junctions;
}
