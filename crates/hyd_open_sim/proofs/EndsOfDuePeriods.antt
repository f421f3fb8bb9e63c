-- How a period ends by the vectors of its record.
use Rattle.std.proofs.Common.{◌≡◌, ◌≢◌, ◌≤◌, ℕ, false, List, [], ◌∷◌, ◌++◌, map, refl, sym, ap, subst, ◌∙◌, arith}
use Rattle.std.specs.Prelude.{Result, Ok, Err, OnOk, OnErr}
use Rattle.hyd_spec.specs.ProgramTypes.{Project, Tank, LinkState}
use Rattle.hyd_spec.specs.Lists.{map_from}
use Rattle.hyd_spec.specs.declared.Change.{Change}
use Rattle.hyd_spec_certificates.specs.SpansAsIntervals.{levels_of, flows_of}
use Rattle.hyd_spec_certificates.specs.PeriodNetwork.{Grid}
use Rattle.hyd_spec_certificates.specs.Decided.{inflow_of_tank}
use Rattle.hyd_spec_certificates.specs.Valid.{AreCertificates}
use Rattle.hyd_spec_certificates.specs.declared.Event.{Event}
use Rattle.hyd_spec_certificates.specs.ChangesAtStart.{changes_at}
use Rattle.hyd_spec_open_ends.specs.OpenStandings.{OpenRecord, OpenStanding}
use Rattle.hyd_spec_open_ends.specs.OpenRecords.{LeadsOnOpenly, continues, finishes}
use Rattle.hyd_spec_open_refusals.specs.RefusedOpenRecords.{HasLengths, HasOtherLengths, LeavesMatterOpen, at_end}
use Rattle.hyd_net.specs.ListView.{ListView}
use Rattle.hyd_cert.specs.RecordView.{row_of}
use Rattle.hyd_tank.specs.StockIntervals.{volumes_of}
use Rattle.hyd_period_facts.specs.FactsBeforeEnd.{HaveTanks}
use Rattle.hyd_period_facts.specs.declared.facts.Facts.{Facts}
use Rattle.hyd_period_network.specs.NetAsPeriodNetwork.{grid_of}
use Rattle.hyd_period_network.specs.NetView.{NetView}
use Rattle.hyd_period_end.specs.EndOfPeriod.{AreKeptIn}
use Rattle.hyd_period_end.specs.FactsBeforeVectors.{AreBegun}
use Rattle.hyd_open_certificates.specs.OpenRowView.{open_record_of}
use Rattle.hyd_open_certificates.specs.declared.open_row.OpenRow.{OpenRow}
use Rattle.hyd_open_facts.specs.FactsOfOpenPeriod.{AreOpenFacts, EndBringsOpenly, at_last}
use Rattle.hyd_open_period_end.specs.EndOfOpenPeriod.{IsClosedOpenly}
use Rattle.hyd_open_period_end.specs.declared.open_period_end.OpenPeriodEnd.{OpenPeriodEnd}
use Rattle.hyd_open_sim_start.specs.StandingsOfOpenRuns.{IsStanding, known_for, standing_for}
use Rattle.hyd_open_sim_start.specs.StartedPeriods.{IsStarted}
use Rattle.hyd_open_sim_start.specs.declared.standing.Standing.{Standing as Here}
use Rattle.hyd_open_sim_start.proofs.StandingsAtStarts.{late-at-last}
use Rattle.hyd_theorems_on_open_refusals.proofs.OneOpenRefusal.{open-not-last}
use Rattle.hyd_open_sim.specs.EndedPeriods.{IsMade, IsOver, IsOverBy, next_standing}
use Rattle.hyd_open_sim.proofs.StandingsBehindPeriods.{at-last, at-later}

-- what follows of an answer that is there
pub on-ok : {A E : Type 0} (P Q : Type 0) (result : Result A E) → (P → Q) → OnOk result P → OnOk result Q
on-ok P Q (Ok value) f p = f p
on-ok P Q (Err fault) f p = p

-- and of an error
pub on-err : {A E : Type 0} (P Q : Type 0) (result : Result A E) → (P → Q) → OnErr result P → OnErr result Q
on-err P Q (Ok value) f p = p
on-err P Q (Err fault) f p = f p

no-more : (xs : List Change) → xs ++ [] ≡ xs
no-more [] = refl
no-more (x ∷ xs) = ap (λ (ys : List Change). x ∷ ys) (no-more xs)

-- ---- the end of the run

module _ (project : Project) (here : Here) (grid : Grid) (found : OpenRecord) (before now : Facts)
    (close : OpenPeriodEnd) (is : IsStanding project here) (last : here.time ≡ project.times.duration)
    (begun : AreBegun project (known_for here) before) (have : HaveTanks project before)
    (no_shortest : found.shortest ≡ 0) (no_length : found.row.length ≡ 0) (no_first : close.first ≡ 0)
    (no_late : close.late ≡ 0) (none_opened : close.opened.list ≡ [])
    (keeps : now ≡ record before { length = 0; events = now.events })
    (inflows : map flows_of before.inflows.list
    ≡ map_from (λ k (tank : Tank). inflow_of_tank project grid found.row k) 0 project.tanks.list)
    (no_events : now.events.list ≡ []) where
  late-none : here.late ≡ 0
  late-none = late-at-last project here is last

  have-now : HaveTanks project (record before { length = 0; events = now.events })
  have-now = record {
    levels = have.levels;
    volumes = have.volumes;
    inflows = have.inflows;
    tanks = have.tanks;
    held = have.held;
    small = have.small;
  }

  brings-nothing : EndBringsOpenly project grid (standing_for here) found close.first close.late now.events.list
      close.opened.list []
  brings-nothing =
      subst (λ (es : List Event). EndBringsOpenly project grid (standing_for here) found close.first close.late es
      close.opened.list []) (sym no_events)
      (subst (λ (es : List Event). EndBringsOpenly project grid (standing_for here) found close.first close.late [] es
      []) (sym none_opened)
      (subst (λ (n : ℕ). EndBringsOpenly project grid (standing_for here) found n close.late [] [] []) (sym no_first)
      (subst (λ (n : ℕ). EndBringsOpenly project grid (standing_for here) found 0 n [] [] []) (sym no_late)
      (at_last last))))

  facts-last : AreOpenFacts project grid (standing_for here) found close.first close.late close.opened.list now
  facts-last = record {
    time = ap (λ (f : Facts). f.time) keeps ∙ begun.time;
    length = ap (λ (f : Facts). f.length) keeps ∙ sym no_first;
    levels = ap (λ (f : Facts). map levels_of f.levels.list) keeps ∙ begun.levels;
    volumes = ap (λ (f : Facts). map volumes_of f.volumes.list) keeps ∙ begun.volumes;
    inflows = ap (λ (f : Facts). map flows_of f.inflows.list) keeps ∙ inflows;
    tanks = ap (λ (f : Facts). f.tanks.list) keeps ∙ begun.tanks;
    links = ap (λ (f : Facts). f.links.list) keeps ∙ begun.links;
    by_rules = [];
    changes = ap (λ (f : Facts). f.changes.list) keeps ∙ begun.changes
        ∙ sym (no-more (changes_at project (known_for here)));
    brings = brings-nothing;
  }

  pub last-over : (slack : ℕ) → IsOverBy project slack here grid found now close
  last-over slack = record {
    leads_on = subst (LeadsOnOpenly project grid (standing_for here) found)
        (sym (at-last project here close last)) (finishes (record {
          is_last = last;
          no_shortest = no_shortest;
          no_length = no_length;
          next_known = refl;
          next_late = late-none;
        }));
    within = (let e = ap (λ (s : OpenStanding). s.late) (at-last project here close last) in let none = late-none in
        omega (arith, e, none));
    facts_are = facts-last;
    have = subst (HaveTanks project) (sym keeps) have-now;
    held = λ other. absurd (other last);
    later = λ other. absurd (other last);
  }

-- at the end of the run no matter is open
pub last-decided : (project : Project) (here : Here) (grid : Grid) (other : OpenRecord)
    → here.time ≡ project.times.duration → LeavesMatterOpen project grid (standing_for here) other → ⊥
last-decided project here grid other last is = open-not-last project grid (standing_for here) other is last

-- and a record that lasts has another length
pub last-lengths : (project : Project) (here : Here) (grid : Grid) (other : OpenRecord) (shortest longest : ℕ)
    → here.time ≡ project.times.duration → shortest ≡ 0 → longest ≡ 0 → (HasLengths other shortest longest → ⊥)
    → HasOtherLengths project grid (standing_for here) other
last-lengths project here grid other shortest longest last short long apart =
    at_end last (λ has. apart (has.0 ∙ sym short, has.1 ∙ sym long))

-- ---- any other end

pub closed-over : (project : Project) (slack : ℕ) (here : Here) (grid : Grid) (found : OpenRecord) (facts : Facts)
    (close : OpenPeriodEnd) → here.time ≢ project.times.duration
    → IsClosedOpenly project grid (standing_for here) found facts close → close.late ≤ slack
    → AreKeptIn project close.next → HaveTanks project facts → IsOverBy project slack here grid found facts close
closed-over project slack here grid found facts close other closed within held have = record {
  leads_on = subst (LeadsOnOpenly project grid (standing_for here) found)
      (sym (at-later project here close other)) (continues closed.continues);
  within = (let e = ap (λ (s : OpenStanding). s.late) (at-later project here close other) in omega (arith, e, within));
  facts_are = closed.facts_are;
  have = have;
  held = λ o. held;
  later = λ o. closed.later;
}

-- ---- what was made

-- a period that was started and is over by certificates
pub made-of : (project : Project) (slack : ℕ) (here : Here) (net : NetView) (started found : OpenRow)
    (begun facts : Facts) (close : OpenPeriodEnd) → IsStarted project (standing_for here) net started begun
    → here.finished ≡ false → found.row.number ≡ started.row.number → found.row.time ≡ started.row.time
    → found.late ≡ started.late → facts.links ≡ begun.links → AreCertificates project (grid_of net) (row_of found.row)
    → IsOver project slack here (grid_of net) found facts close → IsMade project slack here net found facts close
made-of project slack here net started found begun facts close is unfinished number time late links certificates over =
    record {
      valid = record {
        unfinished = unfinished;
        number = number ∙ is.number;
        time = time ∙ is.time;
        late = late ∙ is.late;
        demands = is.in_range;
        is_grid = is.is_grid;
        certificates = certificates;
        leads_on = over.leads_on;
      };
      over = over;
      order = is.order;
      states = is.states;
      links = is.links ∙ sym (ap (λ (l : ListView LinkState). l.list) links);
    }
