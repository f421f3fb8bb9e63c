-- The node of the junction or reservoir that is refused is one of the network's.
use Rattle.std.proofs.Common.{arith}
use Rattle.hyd_spec_spread_rows.specs.TextsOfSpreads.{spread_in}
use Rattle.hyd_spread_networks.specs.RefusedSpreads.{IsRefusedFor, IsFirstHead}
use Rattle.hyd_spread_networks.specs.declared.fault.SpreadNetsRefused.TheVariants.{Emitter}
use Rattle.hyd_spread_files.proofs.OpenedRuns.{emitter-within, head-within, reservoir-within}
use Rattle.hyd_spread_files.proofs.nets_refused.nets_fault.Goals as goal

pub fault_at-requires-clause-node : goal.fault_at-requires-clause-node
fault_at-requires-clause-node c =
    let project = c.args.project.now in
    let spread = spread_in project c.args.text.now in
    let refused : IsRefusedFor project spread (Emitter c.in-Emitter.junction) =
    rw c.in-Emitter.is at c.requires.refused in
    emitter-within project spread c.in-Emitter.junction c.requires.sound refused.1

pub overflow_cast-node-in-Head : goal.overflow_cast-node-in-Head
overflow_cast-node-in-Head c =
    let project = c.args.project.now in
    let refused : IsFirstHead project (spread_in project c.args.text.now) c.in-Head.reservoir =
    rw c.in-Head.is at c.requires.refused in
    let here = reservoir-within project (spread_in project c.args.text.now) c.in-Head.reservoir refused in
    let few = c.requires.sound.counts.reservoirs in
    let junctions = c.requires.sound.counts.junctions in
    let count = c.len.ensures in
    omega (arith, here, few, junctions, count)

pub fault_at-requires-in-Head-clause-node : goal.fault_at-requires-in-Head-clause-node
fault_at-requires-in-Head-clause-node c =
    let project = c.args.project.now in
    let spread = spread_in project c.args.text.now in
    let refused : IsFirstHead project spread c.in-Head.reservoir = rw c.in-Head.is at c.requires.refused in
    let within = head-within project spread c.in-Head.reservoir c.requires.sound refused in
    let count = c.len.ensures in
    omega (arith, within, count)
