use Rattle.std.proofs.Common.{◌≡◌, [], ◌∷◌, ◌++◌, map, codes, string_bytes, ap, sym, ◌∙◌, rules}
use Rattle.std.specs.List.{flat_map}
use Rattle.hyd_spec_certificates.specs.CertificateText.{line}
use Rattle.hyd_spec_generated.specs.GeneratedText.{first_lines, junction_line, numbers, source_lines, pipes_from}
use Rattle.hyd_spec_generated.specs.GeneratedText.{source_pipes}
use Rattle.hyd_gen.proofs.OneJunctionMore.{five, parts}
use Rattle.hyd_gen.proofs.whole_text.generate.Goals as goal

pub returns : goal.returns
returns c =
    let seed = c.args.seed in
    let junctions = c.args.junctions in
    let count : c.from-count.result ≡ junctions = search rules in
    let made : c.into_bytes.result.items ≡ string_bytes c.write_source_pipes.new.text = search rules in
    made
    ∙ (five (flat_map line first_lines) (flat_map line (map (junction_line seed) (numbers junctions)))
    (flat_map line source_lines ++ line (codes "[PIPES]" ∷ []))
    (flat_map line (flat_map (pipes_from junctions) (numbers junctions))) (flat_map line (source_pipes junctions))
    (string_bytes c.in_ok-text.text) (string_bytes c.push_str.new.self) (string_bytes c.write_junctions.new.text)
    (string_bytes c.push_str-2.new.self) (string_bytes c.write_pipes.new.text)
    (string_bytes c.write_source_pipes.new.text)
    c.in_ok-text.ensures.bytes c.in_ok-push_str.ensures.bytes c.in_ok-write_junctions.ensures
    c.in_ok-push_str-2.ensures.bytes
    (c.in_ok-write_pipes.ensures ∙ ap (λ n. string_bytes c.push_str-2.new.self ++ flat_map line (flat_map (pipes_from n)
    (numbers n))) count)
    (c.in_ok-write_source_pipes.ensures ∙ ap (λ n. string_bytes c.write_pipes.new.text ++ flat_map line
    (source_pipes n)) count)
    ∙ sym (parts first_lines (map (junction_line seed) (numbers junctions)) source_lines
    (flat_map (pipes_from junctions) (numbers junctions)) (source_pipes junctions) (codes "[PIPES]" ∷ [])))
