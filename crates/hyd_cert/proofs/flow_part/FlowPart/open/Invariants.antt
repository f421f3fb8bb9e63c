use Rattle.std.proofs.Common.{◌≡◌, All, length}
use Rattle.hyd_cert.specs.declared.named_vectors.NamedVectors.{NamedVectors}
use Rattle.hyd_cert.proofs.flow_part.FlowPart.open.Given as goal

-- so many links were opened, each for the junctions
abbrev pub invariant-loop : goal.invariant-loop
invariant-loop l = record {
  count : length l.named.list ≡ l.counter;
  each : All (λ (one : NamedVectors). one.junctions ≡ l.junctions) l.named.list;
}
