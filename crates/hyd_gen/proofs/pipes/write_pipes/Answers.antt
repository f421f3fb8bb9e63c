use Rattle.std.proofs.Common.{◌+◌, string_bytes, refl}
use Rattle.std.specs.List.{flat_map}
use Rattle.hyd_spec_certificates.specs.CertificateText.{line}
use Rattle.hyd_spec_generated.specs.GeneratedText.{numbers, next_pipe, under_pipe, pipes_from}
use Rattle.hyd_gen.proofs.OneJunctionMore.{pipes_more, two_more}
use Rattle.hyd_gen.proofs.pipes.write_pipes.Goals as goal

pub loop-before-preserved : goal.loop-before-preserved
loop-before-preserved c =
    let i = c.loop-before.before + 1 in
    two_more (string_bytes c.args.text.now) (flat_map line (flat_map (pipes_from c.args.junctions) (numbers
    c.loop-before.before))) (flat_map line (next_pipe c.args.junctions i)) (flat_map line
    (under_pipe c.args.junctions i)) _ (string_bytes c.loop-before.text) (string_bytes c.write_next_pipe.new.text) _
    c.loop-before.invariant
    c.in_ok-write_next_pipe.ensures c.in_ok-write_under_pipe.ensures
    (pipes_more c.args.junctions c.loop-before.before i refl)
