-- What the passes leave one after another.
use Rattle.std.proofs.lemmas.Result.{err_from_is_err_and}
use Rattle.std.proofs.Common.{◌≡◌, ◌≢◌, subst, arith, rules}
use Rattle.hyd_laws_at_scale.specs.Scales.{parts_of}
use Rattle.hyd_spec.specs.ProgramTypes.{Project}
use Rattle.hyd_command_answers.specs.DeskContents.{seen}
use Rattle.hyd_witness_stream.specs.declared.ending.Halt.TheVariants.{NoMoment}
use Rattle.hyd_written_witnesses.specs.WitnessAnswers.{ends_at, ends_with_answer}
use Rattle.hyd_written_witnesses.specs.WrittenPasses.{Passed}
use Rattle.hyd_written_witnesses.proofs.PassesInTurn.{passed_where_none_lacks, passed_broken}
use Rattle.hyd_written_witnesses.proofs.PassesInTurn.{passed_then, broken_of_more, opens_behind}
use Rattle.hyd_written_witnesses.proofs.passes.write_passes.Goals as goal

-- ---- a fault broke the first one off

pub returns-in_err-end-clause-passed : goal.returns-in_err-end-clause-passed
returns-in_err-end-clause-passed g c =
    let p = err_from_is_err_and c.from_residual.result c.from_residual.ensures.1 in
    rw (p.1, p.2) (passed_broken c.args.bench.now.sim.project c.args.cert.now c.args.out.now _ _ _ _ (parts_of c.halves.result)
    c.in_err-end.field-0.0 c.in_err-end.ensures.passed)

pub returns-in_err-end-clause-opens : goal.returns-in_err-end-clause-opens
returns-in_err-end-clause-opens g c =
    let p = err_from_is_err_and c.from_residual.result c.from_residual.ensures.1 in
    rw (p.1, p.2) (broken_of_more 1 3 (omega arith) _ _ c.in_err-end.field-0.0 c.in_err-end.ensures.opens)

-- ---- no moment lacked

pub returns-then-not-lacks_moment-clause-passed : goal.returns-then-not-lacks_moment-clause-passed
returns-then-not-lacks_moment-clause-passed g c =
    let none : c.in_ok-end.end.halt ≢ NoMoment = search rules in
    passed_where_none_lacks c.args.bench.now.sim.project c.args.cert.now c.args.out.now _ _ _ _
    (parts_of c.halves.result) c.in_ok-end.end none c.in_ok-end.ensures.passed

-- ---- another pass came behind the first one

pub returns-clause-passed : goal.returns-clause-passed
returns-clause-passed g c =
    let project = c.args.bench.now.sim.project in
    let cert = c.args.cert.now in
    let out = c.args.out.now in
    let before = seen g.D.Desk.files g.D.Desk.written g.D.Desk.printed c.args.desk.now in
    let between = seen g.D.Desk.files g.D.Desk.written g.D.Desk.printed c.write_pass.new.desk in
    let now = seen g.D.Desk.files g.D.Desk.written g.D.Desk.printed c.write_finer.new.desk in
    let start = g.D.Desk.counts c.args.desk.now in
    let middle = g.D.Desk.counts c.write_pass.new.desk in
    let stop = g.D.Desk.counts c.write_finer.new.desk in
    let others : Passed project cert out (ends_with_answer project) c.write_finer.result between now middle stop =
    subst (λ (p : Project). Passed p cert out (ends_with_answer p) c.write_finer.result between now middle stop)
    c.write_pass.ensures.project c.write_finer.ensures.passed in
    passed_then project cert out (ends_at project (parts_of c.halves.result)) (ends_with_answer project) c.in_ok-end.end
    before between now start middle stop c.requires.apart c.in_ok-end.ensures.passed c.write_finer.result others

pub returns-clause-opens : goal.returns-clause-opens
returns-clause-opens g c =
    let lacks : c.in_ok-end.end.halt ≡ NoMoment = search rules in
    opens_behind 2 (g.D.Desk.openings c.args.desk.now) (g.D.Desk.openings c.write_pass.new.desk)
    (g.D.Desk.openings c.write_finer.new.desk) (c.in_ok-end.ensures.opens.1 lacks) c.write_finer.result
    c.write_finer.ensures.opens
