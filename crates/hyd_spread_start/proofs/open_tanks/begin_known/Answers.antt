use Rattle.std.proofs.Common.{◌≡◌, List, ap, subst, ◌∙◌, length}
use Rattle.std.specs.Prelude.{IfErr, map}
use Rattle.hyd_spec_certificates.specs.SpansAsIntervals.{levels_of}
use Rattle.hyd_spec_certificates.specs.Interval.{Interval}
use Rattle.hyd_spec_certificates.specs.RecordAndStanding.{initial_standing}
use Rattle.hyd_spec_certificates.specs.Valid.{AreStates, ControlsAreDecided}
use Rattle.hyd_spec_spread.specs.IntervalsOfData.{known_levels}
use Rattle.hyd_spec_spread_runs.specs.RunsForSpreads.{StartIsDecided}
use Rattle.hyd_spec_spread_starts.specs.StartsOfSpreads.{IsOpenTank}
use Rattle.hyd_lemmas.proofs.ListsOptionsAndResults.{on-ok}
use Rattle.hyd_theorems_on_spread_starts.proofs.StartsWithRows.{states-own}
use Rattle.hyd_spread_rows.specs.SpreadsRead.{spread_of}
use Rattle.hyd_spread_start.proofs.StandingsWithin.{on-both}
use Rattle.hyd_spread_start.proofs.open_tanks.begin_known.Goals as goal

pub put_settled-requires-clause-each_level : goal.put_settled-requires-clause-each_level
put_settled-requires-clause-each_level c = ap length c.as_slice.ensures ∙ c.put_known.ensures.levels_count

pub returns-clause-tanks : goal.returns-clause-tanks
returns-clause-tanks c =
    let project = c.args.project.now in
    let spread = spread_of c.args.rows.now in
    let levels = ap (map levels_of) c.as_slice.ensures ∙ c.put_known.ensures.levels in
    let states = c.put_settled.new.states.list in
    on-ok (AreStates project (map levels_of c.as_slice.result.now) states)
    (states ≡ (initial_standing project).tanks) c.put_settled.result
    (λ are. states-own project spread c.requires.spread states
    (subst (λ (ls : List Interval). AreStates project ls states) levels are)) c.put_settled.ensures.states

pub returns-clause-decided : goal.returns-clause-decided
returns-clause-decided c =
    let project = c.args.project.now in
    let spread = spread_of c.args.rows.now in
    let levels = ap (map levels_of) c.as_slice.ensures ∙ c.put_known.ensures.levels in
    let states = c.put_settled.new.states.list in
    on-both (AreStates project (map levels_of c.as_slice.result.now) states)
    (ControlsAreDecided project (map levels_of c.as_slice.result.now)) (StartIsDecided project spread)
    c.put_settled.result
    (λ are controls.
    let there : AreStates project (known_levels project spread) states =
    subst (λ (ls : List Interval). AreStates project ls states) levels are in
    record {
      states = subst (AreStates project (known_levels project spread))
          (states-own project spread c.requires.spread states there) there;
      controls = subst (ControlsAreDecided project) levels controls;
    })
    c.put_settled.ensures.states c.put_settled.ensures.controls

pub returns-clause-open : goal.returns-clause-open
returns-clause-open c =
    let project = c.args.project.now in
    subst (λ (ls : List Interval). IfErr c.put_settled.result (IsOpenTank project ls))
    (ap (map levels_of) c.as_slice.ensures ∙ c.put_known.ensures.levels) c.put_settled.ensures.open
