use Rattle.std.proofs.Common.{◌≡◌, ◌+◌, ◌*◌, ◌^◌, min}
use Rattle.hyd_num.proofs.numerals.times_ten.Given as goal

abbrev pub invariant-loop : goal.invariant-loop
invariant-loop l = l.number ≡ min (l.first * 10 ^ l.counter) (10 ^ 21 + 1)
