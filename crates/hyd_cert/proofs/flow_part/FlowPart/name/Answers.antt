use Rattle.std.proofs.Common.{◌≡◌, ℕ, length, map, take, ap, sym, ◌∙◌, arith, List}
use Rattle.std.proofs.lemmas.List.{take_all}
use Rattle.hyd_spec_flows.specs.FlowParts.{names_of}
use Rattle.hyd_cert.specs.FlowPartView.{links_in}
use Rattle.hyd_cert.specs.declared.named_vectors.NamedVectors.{NamedVectors}
use Rattle.hyd_cert.proofs.VectorLemmas.{refill_whole}
use Rattle.hyd_cert.proofs.FlowTextLemmas.{names_are}
use Rattle.hyd_cert.proofs.flow_part.FlowPart.name.Goals as goal

pub returns-clause-names : goal.returns-clause-names
returns-clause-names c =
    let links = c.args.links.now in
    let old = c.args.self.now.named.list in
    let many : length c.loop-i.named ≡ length old = c.loop-i.auto.named ∙ ap length c.as_mut_slice-named.ensures.items
    in
    let at : c.loop-i.i ≡ length links = (let low = c.loop-i.auto.i-end in omega (arith, low, c.loop-i-test.false)) in
    ap (λ (xs : List NamedVectors). names_of (links_in (take (length links) xs)))
    (refill_whole old c.loop-i.named many)
    ∙ (names_are (take (length links) c.loop-i.named)
    ∙ (ap (λ (k : ℕ). map (λ (one : NamedVectors). one.link) (take k c.loop-i.named)) (sym at)
    ∙ (c.loop-i.invariant.names ∙ take_all c.loop-i.i links (omega (arith, at)))))
