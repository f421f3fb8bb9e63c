use Rattle.std.proofs.Common.{List, length, map, sym, ap, subst, ◌∙◌, arith}
use Rattle.std.specs.List.{AllZip}
use Rattle.std.proofs.lemmas.List.{length-map}
use Rattle.hyd_spec.specs.ProgramTypes.{LinkState}
use Rattle.hyd_spec.specs.PumpPatternsAndSimpleControls.{started}
use Rattle.hyd_spec_certificates.specs.SpansAsIntervals.{levels_of}
use Rattle.hyd_spec_certificates.specs.Decided.{acts_on}
use Rattle.hyd_spec_certificates.specs.Valid.{ControlsAreDecided}
use Rattle.hyd_spec_certificates.specs.declared.LevelSpan.{LevelSpan}
use Rattle.hyd_spec_certificates.specs.ChangesAtStart.{start_changes}
use Rattle.hyd_theorems_on_histories.specs.Agreement.{IsOwnState}
use Rattle.hyd_theorems_on_histories.proofs.CommandedLinkStates.{started_own}
use Rattle.hyd_tank.specs.StockIntervals.{volumes_of}
use Rattle.hyd_period_facts.specs.declared.facts.Facts.{Facts}
use Rattle.hyd_period_network.specs.LawsInSettings.{AreStates}
use Rattle.hyd_sim.proofs.LinkStatesAtStart.{own-states, zip-length}
use Rattle.hyd_open_sim_start.proofs.StandingsAtStarts.{ready-of}
use Rattle.hyd_open_sim_start.proofs.facts_and_links_at_start.begin.Goals as goal

pub put_tanks-requires-clause-levels : goal.put_tanks-requires-clause-levels
put_tanks-requires-clause-levels c =
    let here = c.args.standing.now in
    let room = c.requires.room.levels in
    let long = length-map here.stocks.levels.list levels_of in
    let each = c.requires.standing.firm.tidy.levels_each in
    omega (arith, room, long, each)

pub put_tanks-requires-clause-volumes : goal.put_tanks-requires-clause-volumes
put_tanks-requires-clause-volumes c =
    let here = c.args.standing.now in
    let room = c.requires.room.volumes in
    let long = length-map here.stocks.volumes.list volumes_of in
    let each = c.requires.standing.firm.tidy.volumes_each in
    omega (arith, room, long, each)

pub put_tanks-requires-clause-tanks : goal.put_tanks-requires-clause-tanks
put_tanks-requires-clause-tanks c =
    let room = c.requires.room.tanks in
    let each = c.requires.standing.firm.tidy.tanks_each in
    omega (arith, room, each)

pub start_links-requires-clause-each_level : goal.start_links-requires-clause-each_level
start_links-requires-clause-each_level c =
    ap length c.as_slice.ensures ∙ (sym (length-map c.args.standing.now.stocks.levels.list levels_of)
    ∙ c.requires.standing.firm.tidy.levels_each)

pub start_links-requires-clause-decided : goal.start_links-requires-clause-decided
start_links-requires-clause-decided c =
    subst (λ (xs : List LevelSpan). ControlsAreDecided c.args.project.now (map levels_of xs)) (sym c.as_slice.ensures)
    c.requires.standing.firm.kept.controls

pub start_links-requires-clause-each_state : goal.start_links-requires-clause-each_state
start_links-requires-clause-each_state c =
    ap length c.deref.ensures.value ∙ zip-length c.args.project.now c.args.project.now.links.list
    c.args.standing.now.commanded.items c.requires.standing.firm.kept.states

pub start_links-requires-clause-room : goal.start_links-requires-clause-room
start_links-requires-clause-room c =
    let room = c.requires.room.changes in
    let list = ap (λ (f : Facts). length f.changes.list) c.put_tanks.ensures.keeps in
    let spare = ap (λ (f : Facts). f.changes.spare) c.put_tanks.ensures.keeps in
    omega (arith, room, list, spare)

pub refill-requires : goal.refill-requires
refill-requires c =
    let room = c.requires.room.links in
    let each = c.start_links.ensures.each in
    let before = c.requires.each in
    let list = ap (λ (f : Facts). length f.links.list) c.put_tanks.ensures.keeps in
    let spare = ap (λ (f : Facts). f.links.spare) c.put_tanks.ensures.keeps in
    omega (arith, room, each, before, list, spare)

pub returns-clause-begun : goal.returns-clause-begun
returns-clause-begun c =
    let project = c.args.project.now in
    let here = c.args.standing.now in
    record {
      time = ap (λ (f : Facts). f.time) c.put_tanks.ensures.keeps;
      levels = ap (map levels_of) c.put_tanks.ensures.levels;
      volumes = ap (map volumes_of) c.put_tanks.ensures.volumes;
      tanks = c.put_tanks.ensures.tanks;
      links = c.refill.ensures.items ∙ (c.start_links.ensures.links
          ∙ (ap (λ (xs : List LevelSpan). started project here.time (acts_on (map levels_of xs)) c.deref.result.now)
          c.as_slice.ensures
          ∙ ap (λ (ss : List LinkState). started project here.time (acts_on (map levels_of here.stocks.levels.list)) ss)
          c.deref.ensures.value));
      changes = c.start_links.ensures.changes
          ∙ (ap (λ (xs : List LevelSpan). start_changes project here.time (acts_on (map levels_of xs))
          c.deref.result.now) c.as_slice.ensures
          ∙ ap (λ (ss : List LinkState). start_changes project here.time
          (acts_on (map levels_of here.stocks.levels.list)) ss) c.deref.ensures.value);
    }

pub returns-clause-states : goal.returns-clause-states
returns-clause-states c =
    let project = c.args.project.now in
    let here = c.args.standing.now in
    let own : AllZip (IsOwnState project) project.links.list c.deref.result.now =
    subst (AllZip (IsOwnState project) project.links.list) (sym c.deref.ensures.value)
    c.requires.standing.firm.kept.states in
    subst (AreStates project) (sym c.start_links.ensures.links)
    (own-states project (started project here.time (acts_on (map levels_of c.as_slice.result.now)) c.deref.result.now)
    (started_own project c.requires.sound here.time (acts_on (map levels_of c.as_slice.result.now))
    c.deref.result.now own))

pub returns-clause-ready : goal.returns-clause-ready
returns-clause-ready c =
    ready-of c.args.project.now c.args.standing.now _ c.requires.standing c.put_tanks.ensures.levels
    c.put_tanks.ensures.volumes c.put_tanks.ensures.tanks
    (ap length c.refill.ensures.items ∙ (c.start_links.ensures.each ∙ c.requires.each)) c.start_links.ensures.few
    (record {
      levels = (let room = c.requires.room.levels in let stays = c.put_tanks.ensures.levels_room in
          omega (arith, room, stays));
      volumes = (let room = c.requires.room.volumes in let stays = c.put_tanks.ensures.volumes_room in
          omega (arith, room, stays));
      inflows = (let room = c.requires.room.inflows in
          let list = ap (λ (f : Facts). length f.inflows.list) c.put_tanks.ensures.keeps in
          let spare = ap (λ (f : Facts). f.inflows.spare) c.put_tanks.ensures.keeps in
          omega (arith, room, list, spare));
      tanks = (let room = c.requires.room.tanks in let stays = c.put_tanks.ensures.tanks_room in
          omega (arith, room, stays));
      links = (let room = c.requires.room.links in let stays = c.refill.ensures.room in
          let list = ap (λ (f : Facts). length f.links.list) c.put_tanks.ensures.keeps in
          let spare = ap (λ (f : Facts). f.links.spare) c.put_tanks.ensures.keeps in
          omega (arith, room, stays, list, spare));
      changes = (let room = c.requires.room.changes in let stays = c.start_links.ensures.room in
          let list = ap (λ (f : Facts). length f.changes.list) c.put_tanks.ensures.keeps in
          let spare = ap (λ (f : Facts). f.changes.spare) c.put_tanks.ensures.keeps in
          omega (arith, room, stays, list, spare));
      events = (let room = c.requires.room.events in
          let list = ap (λ (f : Facts). length f.events.list) c.put_tanks.ensures.keeps in
          let spare = ap (λ (f : Facts). f.events.spare) c.put_tanks.ensures.keeps in
          omega (arith, room, list, spare));
    })
