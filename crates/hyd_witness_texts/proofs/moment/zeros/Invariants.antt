use Rattle.std.proofs.Common.{◌≡◌, length, pos}
use Rattle.std.specs.Prelude.{All}
use Rattle.hyd_witness_texts.proofs.moment.zeros.Given as goal

-- so many values were appended, each 0
abbrev pub invariant-loop : goal.invariant-loop
invariant-loop l = record {
  count : length l.values.list ≡ l.counter;
  zeros : All (λ v. v ≡ pos 0) l.values.list;
}
