-- What was written to the file that was created.
use Rattle.std.proofs.Common.{inr, rules}
use Rattle.std.proofs.lemmas.Result.{on_ok_weaker, on_err_weaker}
use Rattle.hyd_run.specs.Pens.{told}
use Rattle.hyd_command_answers.specs.DeskContents.{seen}
use Rattle.hyd_cli.proofs.GenLemmas.{Created, text_written, text_cut_off}
use Rattle.hyd_cli.proofs.command_gen.write_text.Goals as goal

pub returns-clause-whole : goal.returns-clause-whole
returns-clause-whole g c =
    let before = seen g.D.Desk.files g.D.Desk.written g.D.Desk.printed c.args.desk.now in
    let created = told g.D.Desk.files g.D.Desk.rest g.D.Desk.written g.D.Desk.printed g.D.Desk.target g.D.Desk.ready
    g.D.Desk.counts g.D.Desk.openings c.create.new.self in
    let after = told g.D.Desk.files g.D.Desk.rest g.D.Desk.written g.D.Desk.printed g.D.Desk.target g.D.Desk.ready
    g.D.Desk.counts g.D.Desk.openings c.put_text.new.desk in
    let made : Created c.args.net.now before created = record {
      begun = search rules;
      printed = c.create.ensures.printed_stays;
      target = search rules;
      still_told = c.create.ensures.still_told;
      others = c.create.ensures.others;
    } in
    on_ok_weaker c.put_text.result (λ out. text_written c.args.text.now c.args.net.now before created after made
    c.put_text.ensures.leaves (search rules) c.put_text.ensures.printed_stays out) c.put_text.ensures.whole

pub returns-clause-cut_off : goal.returns-clause-cut_off
returns-clause-cut_off g c =
    let before = seen g.D.Desk.files g.D.Desk.written g.D.Desk.printed c.args.desk.now in
    let created = told g.D.Desk.files g.D.Desk.rest g.D.Desk.written g.D.Desk.printed g.D.Desk.target g.D.Desk.ready
    g.D.Desk.counts g.D.Desk.openings c.create.new.self in
    let after = told g.D.Desk.files g.D.Desk.rest g.D.Desk.written g.D.Desk.printed g.D.Desk.target g.D.Desk.ready
    g.D.Desk.counts g.D.Desk.openings c.put_text.new.desk in
    let made : Created c.args.net.now before created = record {
      begun = search rules;
      printed = c.create.ensures.printed_stays;
      target = search rules;
      still_told = c.create.ensures.still_told;
      others = c.create.ensures.others;
    } in
    on_err_weaker c.put_text.result (λ out. inr (text_cut_off c.args.text.now c.args.net.now before created after
    made c.put_text.ensures.leaves (search rules) c.put_text.ensures.printed_stays out)) c.put_text.ensures.front
