-- A record is judged, and a moment is found for it and put in.
use Rattle.std.proofs.Common.{refl, sym, ◌∙◌}
use Rattle.hyd_run.proofs.PeriodLemmas.{small-number}
use Rattle.hyd_witness_stream.specs.declared.ending.SearchFault.TheVariants.{Output}
use Rattle.hyd_witness_stream.proofs.FoundLemmas.{demands-there, found-more, has-met, judged-halts, moments-of-project}
use Rattle.hyd_witness_stream.proofs.FoundLemmas.{more-broken, one-fewer, unfound-halts}
use Rattle.hyd_witness_stream.proofs.PenLemmas.{on-file, write-cut, written-in}
use Rattle.hyd_witness_stream.proofs.records.try_record.Goals as goal

pub find_next-requires-clause-demands : goal.find_next-requires-clause-demands
find_next-requires-clause-demands g c =
    demands-there _ _ _ _ c.in_default.ensures.judges

pub find_next-requires-clause-moments : goal.find_next-requires-clause-moments
find_next-requires-clause-moments g c = moments-of-project _ _ _ c.judge_entry.ensures.project c.requires.moments

pub put_moment-requires : goal.put_moment-requires
put_moment-requires g c =
    let is = c.find_next.ensures.moments.moment in
    record {
      stocks = is.levels.one_each ∙ sym is.volumes.one_each;
      ready = on-file _ _ c.requires.ready;
    }

pub returns-in-Some-clause-tries : goal.returns-in-Some-clause-tries
returns-in-Some-clause-tries g c = λ S start before reader so read none periods same.
    judged-halts c.args.sim.now _ c.project-refused.ensures.is_sim c.judge_entry.ensures.project _ _ S _ start before
    so reader _ read c.in-Some.halt c.in-Some.ensures.judges periods _ same none

pub returns-then-not-find_next-clause-tries : goal.returns-then-not-find_next-clause-tries
returns-then-not-find_next-clause-tries g c = λ S start before reader so read none periods same.
    unfound-halts c.args.sim.now _ c.project-project.ensures.is_sim c.judge_entry.ensures.project _ _ S _ start before
    so reader _ read c.in_default.ensures.judges c.find_next.result c.find_next.new.moments periods _
    c.find_next.ensures.finds c.if-not-find_next.true same none

pub returns-in-Ok-clause-tries : goal.returns-in-Ok-clause-tries
returns-in-Ok-clause-tries g c = λ S start before reader so read none.
    let is = c.project-project.ensures.is_sim in
    let p = c.judge_entry.ensures.project in
    let taken = c.in_default.ensures.judges in
    let moments = c.find_next.new.moments in
    let are = moments-of-project _ _ _ (sym p) c.find_next.ensures.moments in
    found-more c.args.sim.now _ is p _ _ S _ start before so reader _ read taken moments are.moment
    (has-met c.args.sim.now _ is p _ _ S _ start before so reader _ read taken c.find_next.result moments
    c.find_next.ensures.finds c.if-not-find_next.false) _ _ refl c.in-Ok.ensures.rest_stays none
    (written-in _ reader reader _ _ _ _ c.requires.writing c.in-Ok.ensures)

pub returns-in-Err-clause-tries : goal.returns-in-Err-clause-tries
returns-in-Err-clause-tries g c = λ S start before reader so read none.
    let is = c.project-project.ensures.is_sim in
    let p = c.judge_entry.ensures.project in
    let taken = c.in_default.ensures.judges in
    let moments = c.find_next.new.moments in
    let are = moments-of-project _ _ _ (sym p) c.find_next.ensures.moments in
    more-broken c.args.sim.now _ is p _ _ S _ start before so reader _ read taken moments are.moment
    (has-met c.args.sim.now _ is p _ _ S _ start before so reader _ read taken c.find_next.result moments
    c.find_next.ensures.finds c.if-not-find_next.false) (Output c.in-Err.fault) _ _ (small-number _ is) none
    (write-cut _ c.in-Err.fault reader reader _ _ _ _ c.requires.writing c.in-Err.ensures)

pub returns-in-Ok-clause-one_more : goal.returns-in-Ok-clause-one_more
returns-in-Ok-clause-one_more g c =
    one-fewer _ _ c.project-project.ensures.is_sim c.judge_entry.ensures.project _ _
    c.in_default.ensures.judges

pub returns-in-Ok-clause-writing : goal.returns-in-Ok-clause-writing
returns-in-Ok-clause-writing g c = record {
  to = c.in-Ok.ensures.to_stays ∙ c.requires.writing.to;
  no_fault = c.in-Ok.ensures.no_fault;
}
