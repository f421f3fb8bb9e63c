use Rattle.std.proofs.Common.{◌≤◌, ◌<◌, ◌/◌, ◌^◌, ◌-◌, arith}
use Rattle.hyd_num.proofs.RoundingLemmas.{log_least, first_digits}
use Rattle.hyd_num.proofs.binary_arithmetic.shortened.Goals as goal

pub overflow_sub-spare : goal.overflow_sub-spare
overflow_sub-spare c = log_least 62 c.args.total c.ilog2-spare.result c.requires.least
    c.ilog2-spare.ensures.next_power_gt

pub overflow_cast-total : goal.overflow_cast-total
overflow_cast-total c =
    let l : 62 ≤ c.ilog2-spare.result = log_least 62 c.args.total c.ilog2-spare.result c.requires.least
    c.ilog2-spare.ensures.next_power_gt in
    let s : c.args.total / 2 ^ (c.ilog2-spare.result - 62) < 2 ^ 63 =
    (first_digits c.args.total c.ilog2-spare.result l c.ilog2-spare.ensures.power_le
    c.ilog2-spare.ensures.next_power_gt).1 in
    rw c.power_of_two-unit.ensures (record { fits = omega arith })

pub cut_at-requires-clause-normal : goal.cut_at-requires-clause-normal
cut_at-requires-clause-normal c =
    let l : 62 ≤ c.ilog2-spare.result = log_least 62 c.args.total c.ilog2-spare.result c.requires.least
    c.ilog2-spare.ensures.next_power_gt in
    rw c.power_of_two-unit.ensures ((first_digits c.args.total c.ilog2-spare.result l c.ilog2-spare.ensures.power_le
    c.ilog2-spare.ensures.next_power_gt).0)

pub cut_at-requires-clause-short : goal.cut_at-requires-clause-short
cut_at-requires-clause-short c =
    let l : 62 ≤ c.ilog2-spare.result = log_least 62 c.args.total c.ilog2-spare.result c.requires.least
    c.ilog2-spare.ensures.next_power_gt in
    rw c.power_of_two-unit.ensures ((first_digits c.args.total c.ilog2-spare.result l c.ilog2-spare.ensures.power_le
    c.ilog2-spare.ensures.next_power_gt).1)
