-- How a period ends by the vectors that were found for it.
use Rattle.std.proofs.Common.{◌≡◌, ◌≢◌, ℕ, ◌+◌, ◌<◌, ℤ, Bool, false, List, [], ◌∷◌, ◌++◌, length, map}
use Rattle.std.proofs.Common.{refl, sym, ap, subst, ◌∙◌, arith, inl, inr}
use Rattle.std.specs.Prelude.{All, Option}
use Rattle.std.proofs.lemmas.Bool.{cases_lt}
use Rattle.hyd_spec.specs.ProgramTypes.{Project, Tank, LinkState}
use Rattle.hyd_spec.specs.Lists.{map_from}
use Rattle.hyd_spec.specs.declared.Change.{Change}
use Rattle.hyd_spec_certificates.specs.SpansAsIntervals.{levels_of, flows_of}
use Rattle.hyd_spec_certificates.specs.declared.Problem.{Problem}
use Rattle.hyd_spec_certificates.specs.declared.Problem.TheVariants.{Main, Pinned}
use Rattle.hyd_spec_certificates.specs.declared.Side.{Side}
use Rattle.hyd_spec_certificates.specs.Interval.{Interval}
use Rattle.hyd_spec_certificates.specs.PeriodNetwork.{Grid}
use Rattle.hyd_spec_certificates.specs.RecordAndStanding.{vector_of}
use Rattle.hyd_spec_certificates.specs.Decided.{inflow_of_tank}
use Rattle.hyd_spec_certificates.specs.Valid.{AreCertificates, AreStates, ControlsAreDecided, IsProblem, LeadsOn}
use Rattle.hyd_spec_certificates.specs.Valid.{continues, finishes}
use Rattle.hyd_spec_certificates.specs.declared.Event.{Event}
use Rattle.hyd_spec_certificates.specs.EndsOfPeriods.{EndBrings, at_end}
use Rattle.hyd_spec_certificates.specs.ChangesAtStart.{changes_at}
use Rattle.hyd_spec_certificates.specs.Certificate.{IsCertificate}
use Rattle.hyd_net.specs.ListView.{ListView}
use Rattle.hyd_cert.specs.RecordView.{row_of, IsProblemOf}
use Rattle.hyd_cert.specs.declared.record.Record.{Record as Row}
use Rattle.hyd_tank.specs.StockIntervals.{IsInflow, volumes_of}
use Rattle.hyd_period_facts.specs.declared.facts.Facts.{Facts}
use Rattle.hyd_period_network.specs.NetAsPeriodNetwork.{grid_of}
use Rattle.hyd_period_network.specs.NetView.{NetView}
use Rattle.hyd_period_facts.specs.FactsBeforeEnd.{HaveTanks}
use Rattle.hyd_period_end.specs.FactsBeforeVectors.{AreBegun, AreReady}
use Rattle.hyd_period_end.specs.EndOfPeriod.{AreKeptIn, IsClosed}
use Rattle.hyd_period_end.specs.declared.period_end.PeriodEnd.{PeriodEnd}
use Rattle.hyd_period_end.proofs.FactsByVectors.{have-tanks}
use Rattle.hyd_period_vectors.specs.SoughtVectors.{OfEach, IsSought, Comes}
use Rattle.hyd_sim.specs.PeriodAttempt.{AreSought, IsMade, IsOver, IsStarted}
use Rattle.hyd_sim.specs.RunView.{IsStanding, standing_for}
use Rattle.hyd_sim.specs.declared.standing_between_periods.Standing.{Standing as Here}
use Rattle.hyd_sim.proofs.StandingAfter.{at-last, at-later}

no-more : (xs : List Change) → xs ++ [] ≡ xs
no-more [] = refl
no-more (x ∷ xs) = ap (λ (ys : List Change). x ∷ ys) (no-more xs)

-- ---- the end of the run

module _ (project : Project) (here : Here) (grid : Grid) (row : Row) (before now : Facts) (close : PeriodEnd)
    (last : here.time ≡ project.times.duration) (begun : AreBegun project (standing_for here) before)
    (ready : AreReady project before) (no_length : row.length ≡ 0)
    (keeps : now ≡ record before { length = 0; inflows = now.inflows; events = now.events })
    (inflows : map flows_of now.inflows.list
    ≡ map_from (λ k (tank : Tank). inflow_of_tank project grid (row_of row) k) 0 project.tanks.list)
    (small : All IsInflow now.inflows.list) (no_events : now.events.list ≡ []) where
  pub last-over : IsOver project here grid row now close
  last-over = record {
    leads_on = finishes (record {
      is_last = last;
      no_length = no_length;
      next_is = at-last project here row.length close last;
    });
    facts_are = record {
      time = ap (λ (f : Facts). f.time) keeps ∙ begun.time;
      length = ap (λ (f : Facts). f.length) keeps ∙ sym no_length;
      levels = ap (λ (f : Facts). map levels_of f.levels.list) keeps ∙ begun.levels;
      volumes = ap (λ (f : Facts). map volumes_of f.volumes.list) keeps ∙ begun.volumes;
      inflows = inflows;
      tanks = ap (λ (f : Facts). f.tanks.list) keeps ∙ begun.tanks;
      links = ap (λ (f : Facts). f.links.list) keeps ∙ begun.links;
      by_rules = [];
      changes = ap (λ (f : Facts). f.changes.list) keeps ∙ begun.changes
          ∙ sym (no-more (changes_at project (standing_for here)));
      brings = subst (λ (es : List Event). EndBrings project grid (standing_for here) (row_of row) es [])
          (sym no_events) (at_end last);
    };
    have = subst (HaveTanks project) (sym keeps) have-now;
    held = λ other. absurd (other last);
    later = λ other. absurd (other last);
  }
    where
      have-inflows : HaveTanks project (record before { inflows = now.inflows })
      have-inflows = have-tanks project grid (row_of row) before now.inflows ready inflows small

      have-now : HaveTanks project (record before { length = 0; inflows = now.inflows; events = now.events })
      have-now = record {
        levels = have-inflows.levels;
        volumes = have-inflows.volumes;
        inflows = have-inflows.inflows;
        tanks = have-inflows.tanks;
        held = have-inflows.held;
        small = have-inflows.small;
      }

-- ---- any other end

pub closed-over : (project : Project) (here : Here) (grid : Grid) (row : Row) (facts : Facts) (close : PeriodEnd)
    → here.time ≢ project.times.duration → IsClosed project grid (standing_for here) (row_of row) facts close
    → AreKeptIn project close.next → HaveTanks project facts → 0 < row.length
    → IsOver project here grid row facts close
closed-over project here grid row facts close other closed held have some = record {
  leads_on = subst (LeadsOn project grid (standing_for here) (row_of row))
      (sym (at-later project here row.length close other)) (continues (record {
        not_last = other;
        leaves_links = closed.leaves;
        levels = closed.levels;
        volumes = closed.volumes;
        tanks = subst (λ (ls : List Interval). AreStates project ls close.next.tanks.list) (sym closed.levels)
            closed.tanks;
        controls = subst (ControlsAreDecided project) (sym closed.levels) closed.controls;
        number = refl;
        time = refl;
        unfinished = refl;
      }));
  facts_are = closed.facts_are;
  have = have;
  held = λ o. held;
  later = λ o. some;
}

-- a period that doesn't begin at the end of the run begins before it
pub begins-before : (project : Project) (here : Here) → IsStanding project here → here.time ≢ project.times.duration
    → here.time < project.times.duration
begins-before project here is other = elim (cases_lt here.time project.times.duration) [
  | inl less ↦ less
  | inr more ↦ (let within = is.tidy.in_time in absurd (other (omega (arith, within, more))))
]

-- ---- what was made

module _ (row now : Row) (same : now ≡ record row { length = now.length }) where
  -- a record with another length has the same certificates
  pub certificates-again : (project : Project) (grid : Grid) → AreCertificates project grid (row_of row)
      → AreCertificates project grid (row_of now)
  certificates-again project grid are = subst (λ (r : Row). AreCertificates project grid (row_of r)) (sym same)
      (record { pinned_each = are.pinned_each; each = λ problem side is. by problem side is })
    where
      by : (problem : Problem) (side : Side) → IsProblem project problem
          → IsCertificate grid problem side (vector_of (row_of (record row { length = now.length })) problem side)
      by Main side is = are.each Main side is
      by (Pinned tank) side is = are.each (Pinned tank) side is

  pub each-again : (P : Problem → Side → List ℤ → Type 0) (tanks : ℕ) → OfEach P tanks (row_of row)
      → OfEach P tanks (row_of now)
  each-again P tanks all = subst (λ (r : Row). OfEach P tanks (row_of r)) (sym same)
      (λ problem side is. by problem side is)
    where
      by : (problem : Problem) (side : Side) → IsProblemOf tanks problem
          → P problem side (vector_of (row_of (record row { length = now.length })) problem side)
      by Main side is = all Main side is
      by (Pinned tank) side is = all (Pinned tank) side is

  pub sought-again : (tight : Bool) (told : Option (List ℤ)) (grid : Grid) (tanks rounds : ℕ)
      → AreSought tight told grid tanks rounds (row_of row) → AreSought tight told grid tanks rounds (row_of now)
  sought-again tight told grid tanks rounds are = record {
    each = each-again (IsSought tight told grid tanks) tanks are.each;
    come = each-again (Comes tight told grid tanks rounds) tanks are.come;
  }

-- a period that was started and is over by certificates
pub made-of : (project : Project) (here : Here) (net : NetView) (started row : Row) (begun facts : Facts)
    (close : PeriodEnd)
    → IsStarted project here net started begun → here.finished ≡ false → row.number ≡ started.number
    → row.time ≡ started.time → facts.links ≡ begun.links → AreCertificates project (grid_of net) (row_of row)
    → IsOver project here (grid_of net) row facts close → IsMade project here net row facts close
made-of project here net started row begun facts close is unfinished number time links certificates over = record {
  valid = record {
    unfinished = unfinished;
    number = number ∙ is.number;
    time = time ∙ is.time;
    demands = is.in_range;
    is_grid = is.is_grid;
    certificates = certificates;
    leads_on = over.leads_on;
  };
  over = over;
  order = is.order;
  states = is.states;
  links = is.links ∙ sym (ap (λ (l : ListView LinkState). l.list) links);
}
