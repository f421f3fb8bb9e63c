-- What a reader says of the file that was opened is said of its text.
use Rattle.std.proofs.Common.{◌≡◌, ◌∙◌, ap, subst, rules}
use Rattle.hyd_io.specs.DeskBytes.{file_at}
use Rattle.hyd_cert.specs.ReaderView.{ReaderView}
use Rattle.hyd_open_certificates.specs.OpenFaults.{HasOpenHeader, LacksOpenHeader}
use Rattle.hyd_check_command.proofs.CheckLemmas.{fresh_comes}
use Rattle.hyd_check_command.proofs.begun_reading.begin_reading.Goals as goal

pub returns-in-Ok-clause-text : goal.returns-in-Ok-clause-text
returns-in-Ok-clause-text g c certificate told =
    let opened : g.D.Desk.rest c.open.new.self ≡ file_at (g.D.Desk.files c.args.desk.now) c.args.cert.now =
    search rules in
    c.in-Ok.ensures.same ∙ fresh_comes c.args.reader.now (g.D.Desk.rest c.open.new.self) certificate c.requires.fresh
    (opened ∙ told)

pub returns-in-Ok-clause-yes : goal.returns-in-Ok-clause-yes
returns-in-Ok-clause-yes g c certificate told = λ is_open.
    let opened : g.D.Desk.rest c.open.new.self ≡ file_at (g.D.Desk.files c.args.desk.now) c.args.cert.now =
    search rules in
    subst HasOpenHeader (fresh_comes c.args.reader.now (g.D.Desk.rest c.open.new.self) certificate c.requires.fresh
    (opened ∙ told)) (c.in-Ok.ensures.yes is_open)

pub returns-in-Ok-clause-no : goal.returns-in-Ok-clause-no
returns-in-Ok-clause-no g c certificate told = λ isnt.
    let opened : g.D.Desk.rest c.open.new.self ≡ file_at (g.D.Desk.files c.args.desk.now) c.args.cert.now =
    search rules in
    subst LacksOpenHeader (fresh_comes c.args.reader.now (g.D.Desk.rest c.open.new.self) certificate c.requires.fresh
    (opened ∙ told)) (c.in-Ok.ensures.no isnt)

pub returns-in-Ok-clause-start : goal.returns-in-Ok-clause-start
returns-in-Ok-clause-start g c = record {
  stand = c.in-Ok.ensures.stand ∙ ap (λ (r : ReaderView). r.stand) c.requires.fresh;
  line = c.has_open_header.ensures.line ∙ ap (λ (r : ReaderView). r.line) c.requires.fresh;
}
