use Rattle.std.proofs.Common.{◌+◌, ◌*◌, ℕ, sym, ap, subst, arith}
use Rattle.hyd_cert.specs.Lines.{Header}
use Rattle.hyd_cert.specs.RecordView.{row_of}
use Rattle.hyd_period_vectors.specs.SoughtVectors.{EachBefore}
use Rattle.hyd_period_vectors.proofs.VectorsInTurn.{before-none}
use Rattle.hyd_spread_vectors.specs.VectorsOfBothNetworks.{IsHeldIn, held_in}
use Rattle.hyd_spread_vectors.proofs.VectorsOfSides.{next-tank, all-written, stays-on, counts-stay}
use Rattle.hyd_spread_vectors.proofs.written_sides.write_sides.Goals as goal

pub loop-tank-init : goal.loop-tank-init
loop-tank-init c =
    let row = c.args.row.now in
    let next = c.write_both.new.row in
    record {
      each = c.write_both.ensures.both;
      above = counts-stay c.args.above.now row next c.write_both.ensures.stays c.requires.above;
      below = counts-stay c.args.below.now row next c.write_both.ensures.stays c.requires.below;
      stays = c.write_both.ensures.stays;
    }

pub loop-tank-preserved : goal.loop-tank-preserved
loop-tank-preserved c =
    let inv = c.loop-tank.invariant in
    let row = c.loop-tank.row in
    let next = c.write_both-in-loop-tank.new.row in
    let stays = c.write_both-in-loop-tank.ensures.stays in
    record {
      each = next-tank (IsHeldIn (held_in c.args.above.now c.args.below.now)) row.tanks c.args.row.now.tanks
          c.loop-tank.tank (row_of next) (ap (λ (h : Header). h.tanks) inv.stays.header)
          c.write_both-in-loop-tank.ensures.both;
      above = counts-stay c.args.above.now row next stays inv.above;
      below = counts-stay c.args.below.now row next stays inv.below;
      stays = stays-on c.args.row.now row next stays inv.stays;
    }

pub write_both-requires-clause-before : goal.write_both-requires-clause-before
write_both-requires-clause-before c =
    before-none (IsHeldIn (held_in c.args.above.now c.args.below.now)) c.args.row.now.tanks (row_of c.args.row.now)

pub write_both-requires-in-loop-tank-clause-problem : goal.write_both-requires-in-loop-tank-clause-problem
write_both-requires-in-loop-tank-clause-problem c =
    let test = c.loop-tank-test.true in
    let first = ap (λ (h : Header). h.tanks) c.write_both.ensures.stays.header in
    let later = ap (λ (h : Header). h.tanks) c.loop-tank.invariant.stays.header in
    omega (arith, test, first, later)

pub write_both-requires-in-loop-tank-clause-before : goal.write_both-requires-in-loop-tank-clause-before
write_both-requires-in-loop-tank-clause-before c =
    let inv = c.loop-tank.invariant in
    subst (λ (n : ℕ). EachBefore (IsHeldIn (held_in c.args.above.now c.args.below.now)) n (2 * c.loop-tank.tank + 2)
    (row_of c.loop-tank.row)) (sym (ap (λ (h : Header). h.tanks) inv.stays.header)) inv.each

pub returns-clause-each : goal.returns-clause-each
returns-clause-each c =
    let test = c.loop-tank-test.false in
    let first = ap (λ (h : Header). h.tanks) c.write_both.ensures.stays.header in
    all-written (IsHeldIn (held_in c.args.above.now c.args.below.now)) c.args.row.now.tanks c.loop-tank.tank
    (row_of c.loop-tank.row) (omega (arith, test, first)) c.loop-tank.invariant.each
