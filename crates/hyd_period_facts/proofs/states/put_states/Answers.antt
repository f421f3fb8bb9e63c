use Rattle.std.proofs.Common.{◌≡◌, ◌∙◌, ◌<◌, ℕ, ap, sym, length, List, arith}
use Rattle.std.specs.Prelude.{Option, Some, map, slice_get, slice_index_or}
use Rattle.std.proofs.lemmas.List.{length_push}
use Rattle.hyd_spec.specs.ProgramTypes.{Tank}
use Rattle.hyd_spec.specs.declared.TankState.{TankState}
use Rattle.hyd_spec_certificates.specs.SpansAsIntervals.{levels_of}
use Rattle.hyd_spec_certificates.specs.Interval.{Interval}
use Rattle.hyd_spec_certificates.specs.Stocks.{state_of}
use Rattle.hyd_spec_certificates.specs.Decided.{nowhere}
use Rattle.hyd_period_facts.proofs.ItemForEachNumber.{one_more, all_there}
use Rattle.hyd_period_facts.proofs.DecidedTankStates.{known_more, first_open}
use Rattle.hyd_period_facts.proofs.states.put_states.Goals as goal

pub loop-tank-preserved : goal.loop-tank-preserved
loop-tank-preserved c =
    let project = c.args.project.now in
    let levels : List Interval = map levels_of c.args.levels.now in
    let i : ℕ = c.loop-tank.tank in
    let end = c.len-tank-end.ensures in
    let test = c.loop-tank-test.true in
    let within : i < length project.tanks.list = omega (arith, end, test) in
    let state : TankState = c.in-Some.state in
    let listed = c.add_state.ensures.list in
    let long = length_push c.loop-tank.states.list state in
    let count = c.loop-tank.invariant.count in
    let spare = c.add_state.ensures.spare in
    let room = c.loop-tank.invariant.room in
    record {
      count = omega (arith, ap length listed, long, count);
      states = ap (map {B = Option TankState} Some) listed
          ∙ one_more {Y = Option TankState} Some (λ k (tank : Tank). state_of tank
          (slice_index_or levels k nowhere)) project.tanks.list
          c.loop-tank.states.list state i within c.loop-tank.invariant.states c.in-Some.ensures;
      known = known_more project levels i state within c.loop-tank.invariant.known c.in-Some.ensures;
      room = omega (arith, ap length listed, long, spare, room);
    }

pub returns-in-None-clause-open : goal.returns-in-None-clause-open
returns-in-None-clause-open c =
    let project = c.args.project.now in
    let levels : List Interval = map levels_of c.args.levels.now in
    let end = c.len-tank-end.ensures in
    let test = c.loop-tank-test.true in
    let tank : c.open_at.result.tank ≡ c.loop-tank.tank = c.open_at.ensures.tank in
    record {
      first = first_open project levels c.loop-tank.tank (omega
          (arith, end, test)) c.loop-tank.invariant.known c.in-None.ensures
          ∙ ap (λ (n : ℕ). Some n) (sym tank);
      level = ap (λ (n : ℕ). slice_get levels n) tank ∙ c.open_at.ensures.level;
    }

pub returns-clause-decided : goal.returns-clause-decided
returns-clause-decided c =
    let project = c.args.project.now in
    let levels : List Interval = map levels_of c.args.levels.now in
    let end = c.len-tank-end.ensures in
    let test = c.loop-tank-test.false in
    sym (all_there {Y = Option TankState} (λ k (tank : Tank). state_of tank
    (slice_index_or levels k nowhere)) project.tanks.list
    (map {B = Option TankState} Some c.loop-tank.states.list) c.loop-tank.tank (omega
    (arith, end, test)) c.loop-tank.invariant.states)
