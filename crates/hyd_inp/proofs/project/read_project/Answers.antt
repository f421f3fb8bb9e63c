use Rattle.std.proofs.lemmas.Result.{err_from_is_err_and}
use Rattle.hyd_inp.proofs.FaultFromFindings.{fault_read, alone_read, among_read, sound_read}
use Rattle.hyd_inp.proofs.project.read_project.Goals as goal

pub returns-in_err-tables-clause-fault : goal.returns-in_err-tables-clause-fault
returns-in_err-tables-clause-fault c =
    let out = err_from_is_err_and c.from_residual-in_err-tables.result c.from_residual-in_err-tables.ensures.1 in
    rw (out.1, out.2) (fault_read c.args.text.now c.new-reader.result.text c.in_err-tables.field-0.0
    c.new-reader.ensures.text c.if-text-gt-LONGEST_TEXT.false c.in_err-tables.ensures.fault)

pub returns-in_err-project-clause-fault : goal.returns-in_err-project-clause-fault
returns-in_err-project-clause-fault c =
    let out = err_from_is_err_and c.from_residual-in_err-project.result c.from_residual-in_err-project.ensures.1 in
    rw (out.1, out.2) tt

pub build-requires-clause-by_itself : goal.build-requires-clause-by_itself
build-requires-clause-by_itself c = alone_read c.args.text.now c.new-reader.result.text c.as_slice-lines.result.now
    c.in_ok-gathered.gathered.lines.items c.new-reader.ensures.text c.as_slice-lines.ensures.value
    c.in_ok-gathered.ensures.rows c.in_ok-tables.ensures.none

pub build-requires-clause-with_others : goal.build-requires-clause-with_others
build-requires-clause-with_others c = among_read c.args.text.now c.new-reader.result.text c.as_slice-lines.result.now
    c.in_ok-gathered.gathered.lines.items c.new-reader.ensures.text c.as_slice-lines.ensures.value
    c.in_ok-gathered.ensures.rows c.in_ok-tables.ensures.none

pub returns-clause-sound : goal.returns-clause-sound
returns-clause-sound c = sound_read c.args.text.now c.new-reader.result.text c.as_slice-lines.result.now
    c.in_ok-gathered.gathered.lines.items c.in_ok-project.project c.new-reader.ensures.text
    c.as_slice-lines.ensures.value
    c.in_ok-gathered.ensures.rows c.in_ok-tables.ensures.none
    c.in_ok-project.ensures
