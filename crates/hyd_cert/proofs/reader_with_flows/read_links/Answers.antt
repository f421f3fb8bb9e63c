use Rattle.std.proofs.lemmas.Result.{err_from_is_err_and}
use Rattle.std.proofs.Common.{◌≡◌, ℕ, ◌+◌, ◌*◌, ◌<◌, All, length, ap, sym, ◌∙◌, subst, arith, take, map}
use Rattle.hyd_io.specs.DeskBytes.{prepend_known}
use Rattle.hyd_io.proofs.LeftAsItWasLemmas.{output_kept_then}
use Rattle.hyd_spec.specs.Lists.{joined}
use Rattle.std.proofs.lemmas.List.Elements.{All-set}
use Rattle.hyd_spec_flows.specs.FlowTexts.{IsNamed, named_text}
use Rattle.hyd_cert.specs.Faults.{lines_on}
use Rattle.hyd_cert.specs.FlowPartView.{named_of, links_in}
use Rattle.hyd_cert.specs.declared.named_vectors.NamedVectors.{NamedVectors}
use Rattle.hyd_cert.proofs.FlowTextLemmas.{links_text_more, links_named_more, links_count}
use Rattle.hyd_cert.proofs.FlowFaultLemmas.{stuck_in_links}
use Rattle.hyd_cert.proofs.reader_with_flows.read_links.Goals as goal

pub returns-in_err-read_link-clause-stuck : goal.returns-in_err-read_link-clause-stuck
returns-in_err-read_link-clause-stuck g c =
    let p = err_from_is_err_and c.from_residual.result c.from_residual.ensures.1 in
    rw (p.1, p.2) (λ header all.
    let n = header.junctions in
    let same : length c.loop-i.into ≡ length c.args.into.now = c.loop-i.auto.into in
    let low : c.loop-i.i < length c.loop-i.into = omega (arith, c.loop-i-test.true, same, c.requires) in
    let part = links_in (take c.loop-i.i c.loop-i.into) in
    let many : length part ≡ c.loop-i.i = links_count c.loop-i.i c.loop-i.into (omega (arith, low)) in
    let here = c.loop-i.invariant.junctions n all c.loop-i.i c.index-into-i.result low in
    stuck_in_links header part c.args.count _ _ _ _ _ _ _ c.in_err-read_link.field-0.0 (omega (arith, many, c.loop-i-test.true))
    (c.loop-i.invariant.named n all) c.loop-i.invariant.text
    (c.loop-i.invariant.line n all ∙ ap (λ k. lines_on c.args.lines.now.line (k * (1 + 2 * n))) (sym many))
    c.loop-i.invariant.steady (λ left. c.in_err-read_link.ensures.stuck header left (sym here)))

pub returns-in_err-read_link-clause-junctions : goal.returns-in_err-read_link-clause-junctions
returns-in_err-read_link-clause-junctions g c =
    λ n all.
    let same : length c.loop-i.into ≡ length c.args.into.now = c.loop-i.auto.into in
    let low : c.loop-i.i < length c.loop-i.into = omega (arith, c.loop-i-test.true, same, c.requires) in
    let kept = c.loop-i.invariant.junctions n all in
    let here = kept c.loop-i.i c.index-into-i.result low in
    All-set (λ (one : NamedVectors). one.junctions ≡ n) c.loop-i.into c.loop-i.i c.read_link.new.into
    (c.in_err-read_link.ensures.junctions ∙ here) kept

pub loop-i-preserved : goal.loop-i-preserved
loop-i-preserved g c =
    let same : length c.loop-i.into ≡ length c.args.into.now = c.loop-i.auto.into in
    let low : c.loop-i.i < length c.loop-i.into = omega (arith, c.loop-i-test.true, same, c.requires) in
    let its : (n : ℕ) → All (λ (one : NamedVectors). one.junctions ≡ n) c.args.into.now
    → c.read_link.new.into.junctions ≡ n = λ n all.
    c.in_ok-read_link.ensures.junctions ∙ c.loop-i.invariant.junctions n all c.loop-i.i c.index-into-i.result low in
    record {
      text = links_text_more c.loop-i.i c.loop-i.into c.read_link.new.into _ _ _ low c.loop-i.invariant.text
          c.in_ok-read_link.ensures.text;
      named = λ n all. links_named_more n c.loop-i.i c.loop-i.into c.read_link.new.into low
          (c.loop-i.invariant.named n all)
          (subst (λ (k : ℕ). IsNamed k (named_of c.read_link.new.into)) (its n all) c.in_ok-read_link.ensures.named);
      line = λ n all. (let l = c.loop-i.invariant.line n all in let m = c.in_ok-read_link.ensures.line in let k = its n all in
          let double : 2 * c.read_link.new.into.junctions ≡ 2 * n = ap (λ j. 2 * j) k in
          let more : (c.loop-i.i + 1) * (1 + 2 * n) ≡ c.loop-i.i * (1 + 2 * n) + (1 + 2 * n) = omega arith in
          omega (arith, l, m, double, more));
      junctions = λ n all. All-set (λ (one : NamedVectors). one.junctions ≡ n) c.loop-i.into c.loop-i.i
          c.read_link.new.into (its n all) (c.loop-i.invariant.junctions n all);
      steady = c.in_ok-read_link.ensures.steady ∙ c.loop-i.invariant.steady;
      stays = output_kept_then _ _ _ c.loop-i.invariant.stays c.in_ok-read_link.ensures.stays;
    }

pub returns-clause-text : goal.returns-clause-text
returns-clause-text g c =
    let at : c.loop-i.i ≡ c.args.count = (let low = c.loop-i.auto.i-end in omega (arith, low, c.loop-i-test.false)) in
    c.loop-i.invariant.text
    ∙ ap (λ (k : ℕ). prepend_known (joined (map named_text (links_in (take k c.loop-i.into))))
    (prepend_known c.loop-i.lines.source (g.D.Desk.rest c.loop-i.desk))) at

pub returns-clause-named : goal.returns-clause-named
returns-clause-named g c = λ n all.
    let at : c.loop-i.i ≡ c.args.count = (let low = c.loop-i.auto.i-end in omega (arith, low, c.loop-i-test.false)) in
    subst (λ (k : ℕ). All (IsNamed n) (links_in (take k c.loop-i.into))) at (c.loop-i.invariant.named n all)

pub returns-clause-line : goal.returns-clause-line
returns-clause-line g c = λ n all.
    let at : c.loop-i.i ≡ c.args.count = (let low = c.loop-i.auto.i-end in omega (arith, low, c.loop-i-test.false)) in
    c.loop-i.invariant.line n all ∙ ap (λ (k : ℕ). lines_on c.args.lines.now.line (k * (1 + 2 * n))) at
