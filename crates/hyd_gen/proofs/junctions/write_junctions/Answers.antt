use Rattle.std.proofs.Common.{◌≡◌, ◌+◌, ◌++◌, map, string_bytes, refl, ap, sym, ◌∙◌}
use Rattle.std.specs.List.{flat_map}
use Rattle.hyd_spec_certificates.specs.CertificateText.{line}
use Rattle.hyd_spec_generated.specs.Sequence.{following, digit_of, drawn}
use Rattle.hyd_spec_generated.specs.GeneratedText.{numbers, junction_with, junction_line}
use Rattle.hyd_gen.proofs.OneJunctionMore.{drawn_more, junctions_more, one_more}
use Rattle.hyd_gen.proofs.junctions.write_junctions.Goals as goal

pub loop-before-preserved : goal.loop-before-preserved
loop-before-preserved c =
    let so_far = c.loop-before.invariant in
    let i = c.loop-before.before + 1 in
    let number : c.following-number.result ≡ drawn c.args.seed i =
    c.following-number.ensures
    ∙ (ap following so_far.number ∙ sym (drawn_more c.args.seed c.loop-before.before i refl)) in
    let piece : line (junction_with i c.digit_of.result) ≡ line (junction_line c.args.seed i) =
    ap (λ d. line (junction_with i d)) (c.digit_of.ensures ∙ ap digit_of number) in
    record {
      number = number;
      text = one_more (string_bytes c.args.text.now) (flat_map line (map (junction_line c.args.seed) (numbers
          c.loop-before.before))) (line (junction_line c.args.seed i)) _ (string_bytes c.loop-before.text) _ so_far.text
          (c.in_ok-write_junction.ensures ∙ ap (λ t. string_bytes c.loop-before.text ++ t) piece)
          (junctions_more c.args.seed c.loop-before.before i refl);
    }
