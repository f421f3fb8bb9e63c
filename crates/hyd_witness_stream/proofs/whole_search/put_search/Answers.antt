-- The header line, the records, and the END line.
use Rattle.std.proofs.Common.{◌≡◌, ◌∙◌, ℕ, ap, refl, subst, sym}
use Rattle.hyd_cert.specs.ReaderView.{IsGoing, ReaderView}
use Rattle.hyd_sim.specs.RunView.{standing_of}
use Rattle.hyd_spec_witnesses.specs.WitnessText.{Counts, counts_of, witness_header}
use Rattle.hyd_witness_stream.specs.declared.ending.SearchFault.TheVariants.{Output}
use Rattle.hyd_witness_stream.proofs.FoundLemmas.{found-begins, header-broken}
use Rattle.hyd_witness_stream.proofs.PenLemmas.{cut-as, on-file, write-cut, written-as, written-in}
use Rattle.hyd_witness_stream.proofs.whole_search.put_search.Goals as goal

header-is : (parts S : ℕ) (counts known : Counts) → parts ≡ S → counts ≡ known
    → witness_header parts counts ≡ witness_header S known
header-is parts S counts known same are =
    ap (λ (s : ℕ). witness_header s counts) same ∙ ap (witness_header S) are

pub counts_of-counts-requires : goal.counts_of-counts-requires
counts_of-counts-requires g c = rw c.project-project.ensures.project c.project-project.ensures.is_sim.sound

pub put_witness_header-requires : goal.put_witness_header-requires
put_witness_header-requires g c = on-file _ _ c.requires.ready

pub take_records-requires-clause-going : goal.take_records-requires-clause-going
take_records-requires-clause-going g c = subst (λ (v : ReaderView). IsGoing v.stand) (sym c.requires.reader) tt

pub take_records-requires-clause-writing : goal.take_records-requires-clause-writing
take_records-requires-clause-writing g c =
    let r = c.args.reader.now in
    (written-in _ r r _ _ _ _ c.requires.writing c.in-Ok.ensures).writing

pub returns-in-Err-clause-puts : goal.returns-in-Err-clause-puts
returns-in-Err-clause-puts g c = λ S stands.
    let r = c.args.reader.now in
    let project = c.args.sim.now.project in
    let e = header-is c.parts-parts.result S _ (counts_of project) (c.parts-parts.ensures.value ∙ stands.stands.scale)
    (c.counts_of-counts.ensures ∙ ap counts_of c.project-project.ensures.project) in
    header-broken project S (Output c.in-Err.fault) _ _
    (cut-as _ _ _ _ _ e (write-cut _ c.in-Err.fault r r _ _ _ _ c.requires.writing c.in-Err.ensures))

pub returns-in-Ok-take_records-clause-puts : goal.returns-in-Ok-take_records-clause-puts
returns-in-Ok-take_records-clause-puts g c = λ S stands.
    let r = c.args.reader.now in
    let project = c.args.sim.now.project in
    let e = header-is c.parts-parts.result S _ (counts_of project) (c.parts-parts.ensures.value ∙ stands.stands.scale)
    (c.counts_of-counts.ensures ∙ ap counts_of c.project-project.ensures.project) in
    let begun = found-begins project S (standing_of c.args.sim.now) c.args.moments.now.course _ _ c.requires.standing
    c.requires.reader refl c.in-Ok.ensures.rest_stays stands
    (written-as _ _ _ _ e (written-in _ r r _ _ _ _ c.requires.writing c.in-Ok.ensures)) in
    c.put_end.ensures S project _ c.take_records.new.reader (c.in-Ok-take_records.ensures.give S _ begun)

pub returns-in-Err-take_records-clause-puts : goal.returns-in-Err-take_records-clause-puts
returns-in-Err-take_records-clause-puts g c = λ S stands.
    let r = c.args.reader.now in
    let project = c.args.sim.now.project in
    let e = header-is c.parts-parts.result S _ (counts_of project) (c.parts-parts.ensures.value ∙ stands.stands.scale)
    (c.counts_of-counts.ensures ∙ ap counts_of c.project-project.ensures.project) in
    let begun = found-begins project S (standing_of c.args.sim.now) c.args.moments.now.course _ _ c.requires.standing
    c.requires.reader refl c.in-Ok.ensures.rest_stays stands
    (written-as _ _ _ _ e (written-in _ r r _ _ _ _ c.requires.writing c.in-Ok.ensures)) in
    c.in-Err-take_records.ensures.give S _ begun
