use Rattle.std.proofs.Common.{◌<◌, ℕ, List, length, map, slice_index_or, pos, rules, subst, sym, ap, ◌∙◌, arith}
use Rattle.hyd_spec.specs.ProgramTypes.{Tank}
use Rattle.hyd_spec_certificates.specs.SpansAsIntervals.{levels_of}
use Rattle.hyd_spec_certificates.specs.PeriodNetwork.{tank_intervals}
use Rattle.hyd_spec_certificates.specs.declared.LevelSpan.{LevelSpan}
use Rattle.hyd_period_network.specs.SoundNets.{AreHeads}
use Rattle.hyd_period_network.specs.NetsSetToPeriods.{HasHeads}
use Rattle.hyd_period_network.proofs.ListsItemByItem.{more_set, intervals, heads_at}
use Rattle.hyd_period_network.proofs.fixed_heads.set_tanks.Goals as goal

pub loop-i-preserved : goal.loop-i-preserved
loop-i-preserved c =
    let n = ap length c.as_slice-tanks.ensures in
    let count = c.loop-i.invariant.count in
    let each = c.requires.levels.each in
    let same = c.set_heads.ensures in
    let nothing : LevelSpan = record { lo = pos 0; hi = pos 0 } in
    let within : c.loop-i.i < length c.loop-i.heads = omega (arith, n, count, c.loop-i-test.true) in
    record {
      count = search rules;
      set = more_set (λ (k : ℕ) (s : LevelSpan). (tank : Tank) (levels : LevelSpan)
          → HasHeads (slice_index_or c.as_slice-tanks.result.now k tank) (slice_index_or c.args.levels.now k levels) s)
          c.loop-i.heads c.loop-i.i c.set_heads.new.heads within c.loop-i.invariant.set
          (heads_at c.as_slice-tanks.result.now c.args.levels.now c.loop-i.i c.index-tanks-i.result nothing
          c.set_heads.new.heads c.loop-i-test.true
          (omega (arith, n, each, c.loop-i-test.true))
          (subst (λ (h : LevelSpan). HasHeads (slice_index_or c.as_slice-tanks.result.now c.loop-i.i
          c.index-tanks-i.result) (slice_index_or c.args.levels.now c.loop-i.i nothing) h) (sym same)
          (subst (λ (t : Tank). HasHeads t (slice_index_or c.args.levels.now c.loop-i.i nothing) c.heads_of.result)
          c.index-tanks-i.is c.heads_of.ensures)));
      range = more_set (λ (k : ℕ) (s : LevelSpan). AreHeads s) c.loop-i.heads c.loop-i.i c.set_heads.new.heads within
          c.loop-i.invariant.range (subst AreHeads (sym same) c.heads_of.ensures.range);
    }

pub returns-clause-set : goal.returns-clause-set
returns-clause-set c =
    let n = ap length c.as_slice-tanks.ensures in
    let i = intervals c.as_slice-tanks.result.now c.args.levels.now c.loop-i.heads
    (omega (arith, n, c.requires.levels.each)) (omega (arith, n, c.loop-i.invariant.count))
    (λ k s h. c.loop-i.invariant.set k s (omega (arith, h, c.loop-i-test.false))) in
    i ∙ ap (λ (ts : List Tank). tank_intervals ts (map levels_of c.args.levels.now)) c.as_slice-tanks.ensures

pub returns-clause-range : goal.returns-clause-range
returns-clause-range c k d h =
    let n = ap length c.as_slice-tanks.ensures in
    c.loop-i.invariant.range k d (omega (arith, n, h, c.loop-i.invariant.count, c.loop-i-test.false))
