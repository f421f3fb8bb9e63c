use Rattle.std.proofs.Common.{◌≤◌, length}
use Rattle.hyd_stored_rows.proofs.lists_and_factors.put_names.Given as goal

-- there are no more names than there were numbers
abbrev pub invariant-loop-number : goal.invariant-loop-number
invariant-loop-number l = length l.names ≤ l.number-counter
