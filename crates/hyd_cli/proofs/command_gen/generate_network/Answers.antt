-- The text that was made is the one that is run.
use Rattle.std.proofs.Common.{◌≡◌, ◌∙◌, ℕ, List, sym, subst}
use Rattle.hyd_spec_input.specs.Faults.{IsFault, HasNoFault}
use Rattle.hyd_command_words.specs.CommandView.{gen_seen, files_seen}
use Rattle.hyd_command_answers.specs.DeskContents.{seen}
use Rattle.hyd_cli.specs.GenAnswers.{text_of, AnswersGen, KeepsCert}
use Rattle.hyd_cli.proofs.command_gen.generate_network.Goals as goal

pub returns-in-Ok-clause-refused : goal.returns-in-Ok-clause-refused
returns-in-Ok-clause-refused g c line cause fault =
    let same : c.deref.result.now ≡ text_of (gen_seen c.args.words.now) = c.deref.ensures.value ∙ c.in-Ok.ensures in
    c.run_text.ensures.refused line cause (subst (λ (t : List ℕ). IsFault t line cause) (sym same) fault)

pub returns-in-Ok-clause-answers : goal.returns-in-Ok-clause-answers
returns-in-Ok-clause-answers g c none =
    let before = seen g.D.Desk.files g.D.Desk.written g.D.Desk.printed c.args.desk.now in
    let now = seen g.D.Desk.files g.D.Desk.written g.D.Desk.printed c.run_text.new.desk in
    let same : c.deref.result.now ≡ text_of (gen_seen c.args.words.now) = c.deref.ensures.value ∙ c.in-Ok.ensures in
    subst (λ (t : List ℕ). HasNoFault t → AnswersGen t (files_seen c.args.words.now.files) c.run_text.result before now
    (g.D.Desk.openings c.args.desk.now) (g.D.Desk.openings c.run_text.new.desk) (g.D.Desk.ready c.run_text.new.desk))
    same c.run_text.ensures.answers none

pub returns-in-Ok-clause-keeps_cert : goal.returns-in-Ok-clause-keeps_cert
returns-in-Ok-clause-keeps_cert g c =
    let before = seen g.D.Desk.files g.D.Desk.written g.D.Desk.printed c.args.desk.now in
    let now = seen g.D.Desk.files g.D.Desk.written g.D.Desk.printed c.run_text.new.desk in
    let same : c.deref.result.now ≡ text_of (gen_seen c.args.words.now) = c.deref.ensures.value ∙ c.in-Ok.ensures in
    subst (λ (t : List ℕ). KeepsCert t (files_seen c.args.words.now.files) before now (g.D.Desk.openings
    c.args.desk.now) (g.D.Desk.openings c.run_text.new.desk)) same c.run_text.ensures.keeps_cert
