use Rattle.std.proofs.Common.{◌≡◌, ◌++◌, map, string_bytes}
use Rattle.std.specs.List.{flat_map}
use Rattle.hyd_spec_certificates.specs.CertificateText.{line}
use Rattle.hyd_spec_generated.specs.Sequence.{drawn}
use Rattle.hyd_spec_generated.specs.GeneratedText.{numbers, junction_line}
use Rattle.hyd_gen.proofs.junctions.write_junctions.Given as goal

-- the lines of the junctions so far were written, and the sequence stands at the last one's number
abbrev pub invariant-loop-before : goal.invariant-loop-before
invariant-loop-before l = record {
  number : l.number ≡ drawn l.seed l.before;
  text : string_bytes l.text ≡ string_bytes l.fn.text ++ flat_map line (map (junction_line l.seed) (numbers l.before));
}
