use Rattle.std.proofs.Common.{◌≡◌, All, take, map}
use Rattle.hyd_cert.specs.declared.named_vectors.NamedVectors.{NamedVectors}
use Rattle.hyd_cert.proofs.flow_part.FlowPart.name.Given as goal

-- the links so far were named
abbrev pub invariant-loop-i : goal.invariant-loop-i
invariant-loop-i l = record {
  names : map (λ (one : NamedVectors). one.link) (take l.i l.named) ≡ take l.i l.links;
  each : All (λ (one : NamedVectors). one.junctions ≡ l.fn.self.junctions) l.named;
}
