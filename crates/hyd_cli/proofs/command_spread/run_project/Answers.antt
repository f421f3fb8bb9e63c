-- What the calls of a run leave, said of the moment before the file of the spread was opened.
use Rattle.std.proofs.Common.{◌∙◌, ◌<◌, ◌^◌, length, Option, sym, ap, subst}
use Rattle.std.proofs.lemmas.Bool.{false≢true}
use Rattle.hyd_io.specs.DeskBytes.{Files, file_at}
use Rattle.hyd_spec_spread_rows.specs.TextsOfSpreads.{spread_in}
use Rattle.hyd_command_words.specs.CommandView.{run_seen}
use Rattle.hyd_command_answers.specs.DeskContents.{seen}
use Rattle.hyd_command_answers.proofs.AnswerLemmas.{opens_once}
use Rattle.hyd_open_command.specs.OpenAnswers.{Asked}
use Rattle.hyd_spread_command.specs.PassedOn.{IsNoSpread, IsText}
use Rattle.hyd_spread_command.specs.PassedOn.{Rows}
use Rattle.hyd_spread_command.specs.SpreadAnswers.{AnswersWithin}
use Rattle.hyd_cli.proofs.SpreadRunLemmas.{alone_since, alone_leaves_since, alone_holds_since, over, within_since}
use Rattle.hyd_cli.proofs.SpreadRunLemmas.{within_leaves_since, within_holds_since, refusal_since}
use Rattle.hyd_cli.proofs.SpreadRunLemmas.{refusal_leaves_since, refusal_holds_since}
use Rattle.hyd_cli.proofs.command_spread.run_project.Goals as goal

-- ---- a text without rows

pub returns-in-Ok-NoRows-clause-answers : goal.returns-in-Ok-NoRows-clause-answers
returns-in-Ok-NoRows-clause-answers g c text told =
    let before = seen g.D.Desk.files g.D.Desk.written g.D.Desk.printed c.args.desk.now in
    let between = seen g.D.Desk.files g.D.Desk.written g.D.Desk.printed c.read_spread_file.new.desk in
    let now = seen g.D.Desk.files g.D.Desk.written g.D.Desk.printed c.run_alone.new.desk in
    let none : IsNoSpread text = rw c.in-Ok-NoRows.field-0-is at (c.in-Ok-NoRows.ensures.text text told) in
    alone_since c.args.project text (run_seen c.args.words.now.run) c.run_alone.result before between now
    c.read_spread_file.ensures.untouched none c.run_alone.ensures.answers

pub returns-in-Ok-NoRows-clause-leaves : goal.returns-in-Ok-NoRows-clause-leaves
returns-in-Ok-NoRows-clause-leaves g c =
    let before = seen g.D.Desk.files g.D.Desk.written g.D.Desk.printed c.args.desk.now in
    let between = seen g.D.Desk.files g.D.Desk.written g.D.Desk.printed c.read_spread_file.new.desk in
    let now = seen g.D.Desk.files g.D.Desk.written g.D.Desk.printed c.run_alone.new.desk in
    alone_leaves_since c.args.project (run_seen c.args.words.now.run) _ c.run_alone.result before between now
    c.read_spread_file.ensures.untouched c.run_alone.ensures.answers

pub returns-in-Ok-NoRows-clause-holds : goal.returns-in-Ok-NoRows-clause-holds
returns-in-Ok-NoRows-clause-holds g c =
    let before = seen g.D.Desk.files g.D.Desk.written g.D.Desk.printed c.args.desk.now in
    let between = seen g.D.Desk.files g.D.Desk.written g.D.Desk.printed c.read_spread_file.new.desk in
    let now = seen g.D.Desk.files g.D.Desk.written g.D.Desk.printed c.run_alone.new.desk in
    alone_holds_since c.args.project (run_seen c.args.words.now.run) _ c.run_alone.result before between now
    c.read_spread_file.ensures.untouched c.run_alone.ensures.answers

pub returns-in-Ok-NoRows-clause-others : goal.returns-in-Ok-NoRows-clause-others
returns-in-Ok-NoRows-clause-others g c other differs =
    c.run_alone.ensures.others other differs
    ∙ ap (λ (files : Option Files). file_at files other) c.read_spread_file.ensures.untouched.files

pub returns-in-Ok-NoRows-clause-once : goal.returns-in-Ok-NoRows-clause-once
returns-in-Ok-NoRows-clause-once g c =
    opens_once c.run_alone.result (g.D.Desk.openings c.args.desk.now) (g.D.Desk.openings c.read_spread_file.new.desk)
    (g.D.Desk.openings c.run_alone.new.desk) c.read_spread_file.ensures.opened c.run_alone.ensures.opens

-- ---- a text with rows

pub returns-in-Ok-Rows-clause-answers : goal.returns-in-Ok-Rows-clause-answers
returns-in-Ok-Rows-clause-answers g c text told =
    let before = seen g.D.Desk.files g.D.Desk.written g.D.Desk.printed c.args.desk.now in
    let between = seen g.D.Desk.files g.D.Desk.written g.D.Desk.printed c.read_spread_file.new.desk in
    let now = seen g.D.Desk.files g.D.Desk.written g.D.Desk.printed c.run_within.new.desk in
    let found : IsText text (Rows c.in-Ok-Rows.text) =
    rw c.in-Ok-Rows.field-0-is at (c.in-Ok-Rows.ensures.text text told) in
    within_since c.args.project c.deref.result.now text (run_seen c.args.words.now.run) c.run_within.result
    before between now c.read_spread_file.ensures.untouched (c.deref.ensures.value ∙ found.0)
    (λ none. false≢true (sym none.rows ∙ found.1))
    (subst (λ (a : Asked). AnswersWithin c.args.project c.deref.result.now (over a (spread_in c.args.project
    c.deref.result.now)) (run_seen c.args.words.now.run).files.cert c.run_within.result between now)
    c.open_settings_of-settings.ensures c.run_within.ensures.answers)

pub returns-in-Ok-Rows-clause-leaves : goal.returns-in-Ok-Rows-clause-leaves
returns-in-Ok-Rows-clause-leaves g c =
    let before = seen g.D.Desk.files g.D.Desk.written g.D.Desk.printed c.args.desk.now in
    let between = seen g.D.Desk.files g.D.Desk.written g.D.Desk.printed c.read_spread_file.new.desk in
    let now = seen g.D.Desk.files g.D.Desk.written g.D.Desk.printed c.run_within.new.desk in
    within_leaves_since c.args.project c.deref.result.now _ _ c.run_within.result before between now
    c.read_spread_file.ensures.untouched c.run_within.ensures.answers

pub returns-in-Ok-Rows-clause-holds : goal.returns-in-Ok-Rows-clause-holds
returns-in-Ok-Rows-clause-holds g c =
    let before = seen g.D.Desk.files g.D.Desk.written g.D.Desk.printed c.args.desk.now in
    let between = seen g.D.Desk.files g.D.Desk.written g.D.Desk.printed c.read_spread_file.new.desk in
    let now = seen g.D.Desk.files g.D.Desk.written g.D.Desk.printed c.run_within.new.desk in
    within_holds_since c.args.project c.deref.result.now _ _ c.run_within.result before between now
    c.read_spread_file.ensures.untouched c.run_within.ensures.answers

pub returns-in-Ok-Rows-clause-others : goal.returns-in-Ok-Rows-clause-others
returns-in-Ok-Rows-clause-others g c other differs =
    c.run_within.ensures.others other differs
    ∙ ap (λ (files : Option Files). file_at files other) c.read_spread_file.ensures.untouched.files

pub returns-in-Ok-Rows-clause-once : goal.returns-in-Ok-Rows-clause-once
returns-in-Ok-Rows-clause-once g c =
    opens_once c.run_within.result (g.D.Desk.openings c.args.desk.now) (g.D.Desk.openings c.read_spread_file.new.desk)
    (g.D.Desk.openings c.run_within.new.desk) c.read_spread_file.ensures.opened c.run_within.ensures.opens

-- ---- a text of more than 64 MiB

pub returns-in-Ok-TooLong-clause-answers : goal.returns-in-Ok-TooLong-clause-answers
returns-in-Ok-TooLong-clause-answers g c text told =
    let before = seen g.D.Desk.files g.D.Desk.written g.D.Desk.printed c.args.desk.now in
    let between = seen g.D.Desk.files g.D.Desk.written g.D.Desk.printed c.read_spread_file.new.desk in
    let now = seen g.D.Desk.files g.D.Desk.written g.D.Desk.printed c.refuse_spread.new.desk in
    let long : 2 ^ 26 < length text = rw c.in-Ok-TooLong.field-0-is at (c.in-Ok-TooLong.ensures.text text told) in
    refusal_since c.args.project text (run_seen c.args.words.now.run) c.refuse_spread.result before between now
    c.read_spread_file.ensures.untouched long c.refuse_spread.ensures.answers

pub returns-in-Ok-TooLong-clause-leaves : goal.returns-in-Ok-TooLong-clause-leaves
returns-in-Ok-TooLong-clause-leaves g c =
    let before = seen g.D.Desk.files g.D.Desk.written g.D.Desk.printed c.args.desk.now in
    let between = seen g.D.Desk.files g.D.Desk.written g.D.Desk.printed c.read_spread_file.new.desk in
    let now = seen g.D.Desk.files g.D.Desk.written g.D.Desk.printed c.refuse_spread.new.desk in
    refusal_leaves_since c.refuse_spread.result before between now c.read_spread_file.ensures.untouched
    c.refuse_spread.ensures.answers

pub returns-in-Ok-TooLong-clause-holds : goal.returns-in-Ok-TooLong-clause-holds
returns-in-Ok-TooLong-clause-holds g c =
    let before = seen g.D.Desk.files g.D.Desk.written g.D.Desk.printed c.args.desk.now in
    let between = seen g.D.Desk.files g.D.Desk.written g.D.Desk.printed c.read_spread_file.new.desk in
    let now = seen g.D.Desk.files g.D.Desk.written g.D.Desk.printed c.refuse_spread.new.desk in
    refusal_holds_since c.refuse_spread.result _ before between now c.read_spread_file.ensures.untouched
    c.refuse_spread.ensures.answers

pub returns-in-Ok-TooLong-clause-others : goal.returns-in-Ok-TooLong-clause-others
returns-in-Ok-TooLong-clause-others g c other differs =
    c.refuse_spread.ensures.others other
    ∙ ap (λ (files : Option Files). file_at files other) c.read_spread_file.ensures.untouched.files

pub returns-in-Ok-TooLong-clause-once : goal.returns-in-Ok-TooLong-clause-once
returns-in-Ok-TooLong-clause-once g c =
    opens_once c.refuse_spread.result (g.D.Desk.openings c.args.desk.now)
    (g.D.Desk.openings c.read_spread_file.new.desk) (g.D.Desk.openings c.refuse_spread.new.desk)
    c.read_spread_file.ensures.opened c.refuse_spread.ensures.opens
