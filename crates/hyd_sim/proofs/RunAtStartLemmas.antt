-- The standing at which a run begins.
use Rattle.std.proofs.Common.{◌≡◌, ℕ, ◌<◌, List, length, false, sym, ◌∙◌, subst, arith, map}
use Rattle.std.specs.Prelude.{slice_index_or}
use Rattle.std.proofs.lemmas.List.{same_lists, length-map}
use Rattle.hyd_net.specs.Sound.{IsSound}
use Rattle.hyd_spec.specs.ProgramTypes.{Project, Link, LinkState}
use Rattle.hyd_spec_certificates.specs.SpansAsIntervals.{levels_of}
use Rattle.hyd_spec_certificates.specs.RecordAndStanding.{initial_standing}
use Rattle.hyd_lemmas.proofs.ListsOptionsAndResults.{item_there, mapped}
use Rattle.hyd_theorems_on_histories.specs.Agreement.{IsKept}
use Rattle.hyd_theorems_on_histories.proofs.AgreementAfterPeriod.{kept_at_start}
use Rattle.hyd_theorems_on_nesting.specs.StandingsOfRuns.{IsTidy}
use Rattle.hyd_theorems_on_nesting.proofs.TightVectorsDecide.{tidy_at_start}
use Rattle.hyd_tank.specs.StockIntervals.{volumes_of}
use Rattle.hyd_period_facts.specs.RoomForStocks.{HasRoom}
use Rattle.hyd_period_end.specs.EndOfPeriod.{AreKeptIn}
use Rattle.hyd_sim.specs.RunView.{IsStanding, standing_for}
use Rattle.hyd_sim.specs.declared.standing_between_periods.Standing.{Standing as Here}

module _ (project : Project) (here : Here) (number : here.number ≡ 0) (time : here.time ≡ 0)
    (levels : map levels_of here.stocks.levels.list ≡ (initial_standing project).levels)
    (volumes : map volumes_of here.stocks.volumes.list ≡ (initial_standing project).volumes)
    (tanks : here.stocks.tanks.list ≡ (initial_standing project).tanks)
    (commanded : here.commanded.items ≡ (initial_standing project).commanded) (finished : here.finished ≡ false) where
  pub first-is : standing_for here ≡ initial_standing project
  first-is = λ i. record {
    number = number i;
    time = time i;
    levels = levels i;
    volumes = volumes i;
    tanks = tanks i;
    commanded = commanded i;
    finished = finished i;
  }

  pub first-stands : IsSound project → AreKeptIn project here.stocks → HasRoom project here.stocks
      → IsStanding project here
  first-stands sound held room = record {
    kept = subst (IsKept project) (sym first-is) (kept_at_start project sound);
    tidy = subst (IsTidy project) (sym first-is) (tidy_at_start project sound);
    held = held;
    room = room;
    few = omega (arith, number, time);
    unfinished = λ e. omega (arith, number, time);
  }

-- each link is in the state in which it starts
pub starts-are : (project : Project) (states : List LinkState) → length states ≡ length project.links.list
    → ((k : ℕ) (link : Link) (state : LinkState) → k < length project.links.list
    → slice_index_or states k state ≡ (slice_index_or project.links.list k link).start)
    → states ≡ map (λ (link : Link). link.start) project.links.list
starts-are project states long are =
    same_lists states (map (λ (link : Link). link.start) project.links.list)
    (long ∙ sym (length-map project.links.list (λ (link : Link). link.start)))
    (λ k d lt.
    let within : k < length project.links.list = omega (arith, long, lt) in
    let link = (item_there project.links.list k within).0 in
    are k link d within ∙ sym (mapped (λ (l : Link). l.start) project.links.list k d link within))
