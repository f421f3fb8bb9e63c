use Rattle.std.proofs.Common.{◌≡◌, ◌≢◌, ℕ, ◌<◌, ◌^◌}
use Rattle.hyd_witness_texts.proofs.numbers_read.is_scale.Given as goal

-- the number is no power of two so far
abbrev pub invariant-loop : goal.invariant-loop
invariant-loop l = record {
  power : l.scale ≡ 2 ^ l.counter;
  none : (p : ℕ) → p < l.counter → l.number ≢ 2 ^ p;
}
