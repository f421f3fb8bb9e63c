use Rattle.std.proofs.Common.{◌≡◌, List, All, length, ap, ◌∙◌, subst, sym, arith}
use Rattle.hyd_cert.specs.declared.named_vectors.NamedVectors.{NamedVectors}
use Rattle.hyd_cert.proofs.VectorLemmas.{refill_whole}
use Rattle.hyd_cert.proofs.FlowTextLemmas.{part_read, part_is, part_passed}
use Rattle.hyd_cert.proofs.FlowFaultLemmas.{stuck_at_flows, part_fault}
use Rattle.hyd_cert.proofs.reader_with_flows.read_part.Goals as goal

pub invariant_of-into : goal.invariant_of-into
invariant_of-into g c =
    let old = c.args.into.now in
    let many : length c.read_links.new.into ≡ length old.named.list = c.read_links.auto.into
    ∙ ap length c.as_mut_slice.ensures.items in
    let same = refill_whole old.named.list c.read_links.new.into many in
    record {
      most = (let fits = c.in-Ok.ensures.fits.1 in omega (arith, fits));
      room = ap length same ∙ (many ∙ old.room);
      each = subst (λ (xs : List NamedVectors). All (λ (one : NamedVectors). one.junctions ≡ old.junctions) xs)
          (sym same) (c.read_links.ensures.junctions old.junctions (subst (λ (xs : List NamedVectors).
          All (λ (one : NamedVectors). one.junctions ≡ old.junctions) xs) (sym c.as_mut_slice.ensures.items)
          old.each));
    }

pub returns-in-Ok-clause-text : goal.returns-in-Ok-clause-text
returns-in-Ok-clause-text g c =
    let old = c.args.into.now in
    let many : length c.read_links.new.into ≡ length old.named.list = c.read_links.auto.into
    ∙ ap length c.as_mut_slice.ensures.items in
    let same = refill_whole old.named.list c.read_links.new.into many in
    part_read c.read_links.result c.in-Ok.count c.read_links.new.into _ _ _ _
    (let fits = c.in-Ok.ensures.fits.1 in omega (arith, fits)) (ap length same ∙ (many ∙ old.room)) same
    c.in-Ok.ensures.text c.read_links.ensures.text

pub returns-in-Ok-clause-part : goal.returns-in-Ok-clause-part
returns-in-Ok-clause-part g c =
    let old = c.args.into.now in
    let many : length c.read_links.new.into ≡ length old.named.list = c.read_links.auto.into
    ∙ ap length c.as_mut_slice.ensures.items in
    let same = refill_whole old.named.list c.read_links.new.into many in
    part_is c.read_links.result old.junctions c.in-Ok.count c.read_links.new.into _ c.in-Ok.ensures.fits.0
    (let fits = c.in-Ok.ensures.fits.1 in omega (arith, fits)) (ap length same ∙ (many ∙ old.room)) same
    (c.read_links.ensures.named old.junctions (subst (λ (xs : List NamedVectors).
    All (λ (one : NamedVectors). one.junctions ≡ old.junctions) xs) (sym c.as_mut_slice.ensures.items) old.each))

pub returns-in-Ok-clause-line : goal.returns-in-Ok-clause-line
returns-in-Ok-clause-line g c =
    let old = c.args.into.now in
    let many : length c.read_links.new.into ≡ length old.named.list = c.read_links.auto.into
    ∙ ap length c.as_mut_slice.ensures.items in
    let same = refill_whole old.named.list c.read_links.new.into many in
    part_passed c.read_links.result old.junctions c.in-Ok.count c.args.lines.now.line _ _ _
    (let fits = c.in-Ok.ensures.fits.1 in omega (arith, fits)) (ap length same ∙ (many ∙ old.room))
    c.in-Ok.ensures.line
    (c.read_links.ensures.line old.junctions (subst (λ (xs : List NamedVectors).
    All (λ (one : NamedVectors). one.junctions ≡ old.junctions) xs) (sym c.as_mut_slice.ensures.items) old.each))

pub returns-in-Ok-clause-stuck : goal.returns-in-Ok-clause-stuck
returns-in-Ok-clause-stuck g c =
    let old = c.args.into.now in
    part_fault old.junctions c.in-Ok.count _ _ _ _ _ _ _ c.read_links.result c.in-Ok.ensures.fits.0
    c.in-Ok.ensures.fits.1 c.in-Ok.ensures.text c.in-Ok.ensures.line c.in-Ok.ensures.steady
    (λ header e. c.read_links.ensures.stuck header (subst (λ (xs : List NamedVectors). All (λ (one : NamedVectors).
    one.junctions ≡ header.junctions) xs) (sym c.as_mut_slice.ensures.items)
    (λ k d low. old.each k d low ∙ sym e)))

pub returns-in-Err-clause-stuck : goal.returns-in-Err-clause-stuck
returns-in-Err-clause-stuck g c = λ header e.
    stuck_at_flows header _ _ _ _ c.in-Err.fault c.in-Err.ensures.fault
