use Rattle.std.proofs.Common.{◌≡◌, pos, None, slice_index_or, to_z, of_z, w64, arith}
use Rattle.std.proofs.lemmas.Int.{ints}
use Rattle.hyd_net.specs.declared.nodes.Reservoir.{Reservoir}
use Rattle.hyd_demands_and_reservoir_heads.specs.DemandsAndHeadsByNumber.{head_of_reservoir}
use Rattle.hyd_demands_and_reservoir_heads.proofs.DemandsAndReservoirHeads.{head_by_pattern, head_alone}
use Rattle.hyd_demands_and_reservoir_heads.proofs.reservoirs.head_at.Goals as goal

pub returns-in-Some-clause-value : goal.returns-in-Some-clause-value
returns-in-Some-clause-value c =
    let none : Reservoir = record { head = pos 0; pattern = None } in
    let value : c.head_by_pattern.result ≡ head_of_reservoir c.args.project.now c.args.time c.args.reservoir =
    head_by_pattern c.args.project.now c.args.time c.args.reservoir c.in-Some.pattern c.as_slice.result.now none
    (to_z w64 (of_z w64 (slice_index_or c.as_slice.result.now c.args.reservoir none).head)) c.head_by_pattern.result
    c.requires.in_range c.as_slice.ensures c.in-Some.is (omega (arith, ints)) c.head_by_pattern.ensures.value in
    omega (arith, ints, value)

pub returns-in-None-clause-value : goal.returns-in-None-clause-value
returns-in-None-clause-value c =
    let none : Reservoir = record { head = pos 0; pattern = None } in
    let value = head_alone c.args.project.now c.args.time c.args.reservoir c.as_slice.result.now none
    c.requires.in_range c.as_slice.ensures c.in-None.is in
    omega (arith, ints, value)
