use Rattle.std.proofs.Common.{◌≡◌, ◌++◌, string_bytes}
use Rattle.std.specs.List.{flat_map}
use Rattle.hyd_spec_certificates.specs.CertificateText.{line}
use Rattle.hyd_spec_generated.specs.GeneratedText.{numbers, pipes_from}
use Rattle.hyd_gen.proofs.pipes.write_pipes.Given as goal

-- the pipes that begin at the junctions so far were written
abbrev pub invariant-loop-before : goal.invariant-loop-before
invariant-loop-before l =
    string_bytes l.text ≡ string_bytes l.fn.text ++ flat_map line (flat_map (pipes_from l.junctions) (numbers l.before))
