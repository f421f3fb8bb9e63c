-- The text was written, and then a run was put out.
use Rattle.std.proofs.lemmas.Result.{err_from_is_err_and}
use Rattle.std.proofs.Common.{rules, inl, inr, sym, ap, ◌∙◌}
use Rattle.std.proofs.lemmas.Result.{IfOk-weaker, IfErr-weaker}
use Rattle.hyd_io.specs.declared.desk.Openings.{Openings}
use Rattle.hyd_io.specs.DeskCounts.{with_created}
use Rattle.hyd_run.specs.Pens.{told}
use Rattle.hyd_run.specs.Runs.{outcome_of}
use Rattle.hyd_command_words.specs.CommandView.{files_seen}
use Rattle.hyd_command_answers.specs.DeskContents.{seen}
use Rattle.hyd_cli.proofs.GenLemmas.{Created, text_breaks_off, text_alone, text_stays, generated}
use Rattle.hyd_cli.proofs.GenLemmas.{generated_short}
use Rattle.hyd_cli.proofs.command_gen.put_generated.Goals as goal

-- ---- NET couldn't be created or written

pub returns-in_err-write_text-clause-broken_off : goal.returns-in_err-write_text-clause-broken_off
returns-in_err-write_text-clause-broken_off g c =
    let p = err_from_is_err_and c.from_residual.result c.from_residual.ensures.1 in
    rw p.1 (text_breaks_off c.args.sim.now.project c.args.text.now (files_seen c.args.files) _ _ _ _ _
    (c.write_text.ensures.others c.args.files.cert.now (λ same. c.requires.apart (sym same)))
    c.write_text.ensures.creates c.in_err-write_text.ensures.cut_off)

pub returns-in_err-write_text-clause-keeps_cert : goal.returns-in_err-write_text-clause-keeps_cert
returns-in_err-write_text-clause-keeps_cert g c =
    inl (c.write_text.ensures.others c.args.files.cert.now (λ same. c.requires.apart (sym same)))

-- ---- CERT couldn't be created

pub returns-then-is_err-clause-broken_off : goal.returns-then-is_err-clause-broken_off
returns-then-is_err-clause-broken_off g c =
    text_alone c.args.sim.now.project c.args.text.now (files_seen c.args.files) _ _ _ _ _ _ c.in_ok-write_text.ensures.whole
    (c.write_text.ensures.others c.args.files.cert.now (λ same. c.requires.apart (sym same)))
    (record { files = search rules; written = search rules; printed = c.create.ensures.printed_stays })
    (c.create.ensures.creates_once ∙ ap (λ (o : Openings). with_created o) c.write_text.ensures.creates) (search rules)

pub returns-then-is_err-clause-keeps_cert : goal.returns-then-is_err-clause-keeps_cert
returns-then-is_err-clause-keeps_cert g c =
    inr (
      c.create.ensures.creates_once ∙ ap (λ (o : Openings). with_created o) c.write_text.ensures.creates,
      c.create.ensures.others c.args.files.net.now c.requires.apart ∙ c.in_ok-write_text.ensures.whole.held,
    )

-- ---- both were created

pub returns-clause-whole : goal.returns-clause-whole
returns-clause-whole g c =
    let before = seen g.D.Desk.files g.D.Desk.written g.D.Desk.printed c.args.desk.now in
    let between = seen g.D.Desk.files g.D.Desk.written g.D.Desk.printed c.write_text.new.desk in
    let created = told g.D.Desk.files g.D.Desk.rest g.D.Desk.written g.D.Desk.printed g.D.Desk.target g.D.Desk.ready
    g.D.Desk.counts g.D.Desk.openings c.create.new.self in
    let after = told g.D.Desk.files g.D.Desk.rest g.D.Desk.written g.D.Desk.printed g.D.Desk.target g.D.Desk.ready
    g.D.Desk.counts g.D.Desk.openings c.run_summed.new.desk in
    let made : Created c.args.files.cert.now between created = record {
      begun = search rules;
      printed = c.create.ensures.printed_stays;
      target = search rules;
      still_told = c.create.ensures.still_told;
      others = c.create.ensures.others;
    } in
    IfOk-weaker c.run_summed.result _ _ (λ end out. generated c.args.sim.now.project c.args.sim.now.settings
    c.args.text.now (files_seen c.args.files) before between created after (outcome_of end) c.requires.usual
    c.requires.apart c.in_ok-write_text.ensures.whole made c.run_summed.ensures.leaves (search rules) out)
    c.run_summed.ensures.whole

pub returns-clause-broken_off : goal.returns-clause-broken_off
returns-clause-broken_off g c =
    let before = seen g.D.Desk.files g.D.Desk.written g.D.Desk.printed c.args.desk.now in
    let between = seen g.D.Desk.files g.D.Desk.written g.D.Desk.printed c.write_text.new.desk in
    let created = told g.D.Desk.files g.D.Desk.rest g.D.Desk.written g.D.Desk.printed g.D.Desk.target g.D.Desk.ready
    g.D.Desk.counts g.D.Desk.openings c.create.new.self in
    let after = told g.D.Desk.files g.D.Desk.rest g.D.Desk.written g.D.Desk.printed g.D.Desk.target g.D.Desk.ready
    g.D.Desk.counts g.D.Desk.openings c.run_summed.new.desk in
    let made : Created c.args.files.cert.now between created = record {
      begun = search rules;
      printed = c.create.ensures.printed_stays;
      target = search rules;
      still_told = c.create.ensures.still_told;
      others = c.create.ensures.others;
    } in
    IfErr-weaker c.run_summed.result _ _ (λ fault out. generated_short c.args.sim.now.project
    c.args.sim.now.settings c.args.text.now (files_seen c.args.files) before between created after
    (g.D.Desk.openings c.args.desk.now) (c.run_summed.ensures.leaves.openings_stay ∙ (c.create.ensures.creates_once
    ∙ ap (λ (o : Openings). with_created o) c.write_text.ensures.creates)) c.requires.usual
    c.requires.apart c.in_ok-write_text.ensures.whole made c.run_summed.ensures.leaves (search rules) out)
    c.run_summed.ensures.broken_off

pub returns-clause-keeps_cert : goal.returns-clause-keeps_cert
returns-clause-keeps_cert g c =
    let before = seen g.D.Desk.files g.D.Desk.written g.D.Desk.printed c.args.desk.now in
    let between = seen g.D.Desk.files g.D.Desk.written g.D.Desk.printed c.write_text.new.desk in
    let created = told g.D.Desk.files g.D.Desk.rest g.D.Desk.written g.D.Desk.printed g.D.Desk.target g.D.Desk.ready
    g.D.Desk.counts g.D.Desk.openings c.create.new.self in
    let after = told g.D.Desk.files g.D.Desk.rest g.D.Desk.written g.D.Desk.printed g.D.Desk.target g.D.Desk.ready
    g.D.Desk.counts g.D.Desk.openings c.run_summed.new.desk in
    let made : Created c.args.files.cert.now between created = record {
      begun = search rules;
      printed = c.create.ensures.printed_stays;
      target = search rules;
      still_told = c.create.ensures.still_told;
      others = c.create.ensures.others;
    } in
    inr (
      c.run_summed.ensures.leaves.openings_stay ∙ (c.create.ensures.creates_once
          ∙ ap (λ (o : Openings). with_created o) c.write_text.ensures.creates),
      text_stays c.args.text.now (files_seen c.args.files) before between created after c.requires.apart
          c.in_ok-write_text.ensures.whole made c.run_summed.ensures.leaves,
    )
