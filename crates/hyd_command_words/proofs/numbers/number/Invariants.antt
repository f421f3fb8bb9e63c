use Rattle.std.proofs.Common.{◌≡◌, ◌+◌, ◌*◌, ◌-◌, ◌^◌, min, fold, take}
use Rattle.hyd_command_words.proofs.numbers.number.Given as goal

abbrev pub invariant-loop-c : goal.invariant-loop-c
invariant-loop-c l = l.number ≡ min (fold (λ n c. 10 * n + (c - 48)) 0 (take l.c-index l.digits)) (10 ^ 10)
