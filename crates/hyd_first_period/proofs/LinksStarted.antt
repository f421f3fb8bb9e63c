-- The states of links at the start of a first period, whatever levels it begins with: they are those of each standing
-- that is one at time 0 with the file's states, and links can have them, one of them closed too.
use Rattle.std.proofs.Common.{◌≡◌, ◌∙◌, ℕ, zero, suc, List, [], ◌∷◌, length, map, sym, subst}
use Rattle.std.specs.Prelude.{slice_set}
use Rattle.std.specs.List.{AllZip}
use Rattle.hyd_net.specs.Sound.{IsSound}
use Rattle.hyd_net.specs.LinkStates.{CanHave}
use Rattle.hyd_net.specs.declared.links.LinkKind.TheVariants.{Pipe, CheckPipe, Pump, CurvePump, Tcv, Fcv, Gpv}
use Rattle.hyd_spec.specs.ProgramTypes.{Project, Link, LinkKind, LinkState, Closed}
use Rattle.hyd_spec.specs.PumpPatternsAndSimpleControls.{started}
use Rattle.hyd_spec.specs.History.{initial_links}
use Rattle.hyd_spec_certificates.specs.SpansAsIntervals.{levels_of}
use Rattle.hyd_spec_certificates.specs.declared.LevelSpan.{LevelSpan}
use Rattle.hyd_spec_certificates.specs.Interval.{Interval}
use Rattle.hyd_spec_certificates.specs.RecordAndStanding.{Standing}
use Rattle.hyd_spec_certificates.specs.Decided.{links_at, acts_on}
use Rattle.hyd_theorems_on_histories.specs.Agreement.{IsOwnState}
use Rattle.hyd_theorems_on_histories.proofs.CommandedLinkStates.{initial_own, started_own}
use Rattle.hyd_period_network.specs.LawsInSettings.{AreStates}
use Rattle.hyd_sim.proofs.LinkStatesAtStart.{own-states, zip-length}

-- each kind of link can be closed
can-close : (kind : LinkKind) → CanHave kind Closed
can-close (Pipe cap) = tt
can-close (CheckPipe cap) = tt
can-close (Pump cap shutoff head pattern) = tt
can-close (CurvePump bend pattern) = tt
can-close (Tcv valve) = tt
can-close (Fcv valve) = tt
can-close (Gpv bend) = tt

own-with-shut : (project : Project) (links : List Link) (states : List LinkState) (k : ℕ)
    → AllZip (IsOwnState project) links states → AllZip (IsOwnState project) links (slice_set states k Closed)
own-with-shut project [] [] k all = tt
own-with-shut project [] (s ∷ states) k all = absurd all
own-with-shut project (l ∷ links) [] k all = absurd all
own-with-shut project (l ∷ links) (s ∷ states) zero all = (record { made = tt; can = can-close l.kind }, all.1)
own-with-shut project (l ∷ links) (s ∷ states) (suc k) all = (all.0, own-with-shut project links states k all.1)

-- they are those of a standing
pub started-at : (project : Project) (standing : Standing) → standing.time ≡ 0
    → standing.commanded ≡ initial_links project → (levels : List LevelSpan) → map levels_of levels ≡ standing.levels
    → (states : List LinkState)
    → states ≡ started project 0 (acts_on (map levels_of levels)) (initial_links project)
    → states ≡ links_at project standing
started-at project standing time commanded levels same states is =
    is ∙ sym (λ i. started project (time i) (acts_on (sym same i)) (commanded i))

module _ (project : Project) (sound : IsSound project) (levels : List Interval) where
  own-started : AllZip (IsOwnState project) project.links.list
      (started project 0 (acts_on levels) (initial_links project))
  own-started = started_own project sound 0 (acts_on levels) (initial_links project) (initial_own project sound)

  -- links can have them
  pub states-started : (states : List LinkState) → states ≡ started project 0 (acts_on levels) (initial_links project)
      → AreStates project states
  states-started states e = subst (AreStates project) (sym e)
      (own-states project (started project 0 (acts_on levels) (initial_links project)) own-started)

  -- also with one closed
  pub states-started-shut : (states : List LinkState) (k : ℕ)
      → states ≡ slice_set (started project 0 (acts_on levels) (initial_links project)) k Closed
      → AreStates project states
  states-started-shut states k e = subst (AreStates project) (sym e)
      (own-states project (slice_set (started project 0 (acts_on levels) (initial_links project)) k Closed)
      (own-with-shut project project.links.list (started project 0 (acts_on levels) (initial_links project)) k
      own-started))

  -- and there are as many states as links
  pub long-started : length (started project 0 (acts_on levels) (initial_links project)) ≡ length project.links.list
  long-started = zip-length project project.links.list (started project 0 (acts_on levels) (initial_links project))
      own-started
