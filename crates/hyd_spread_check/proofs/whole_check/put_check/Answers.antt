-- The first lines, the records, and the last line.
use Rattle.std.proofs.lemmas.Result.{err_from_is_err_and}
use Rattle.std.proofs.Common.{sym, subst, ap, ◌∙◌, refl}
use Rattle.hyd_cert.specs.ReaderView.{IsGoing}
use Rattle.hyd_cert.specs.declared.answers_of_reader.Stand.{Stand}
use Rattle.hyd_spread_networks.specs.NetsOfSpreads.{SpreadNetsView}
use Rattle.hyd_spread_run.specs.PeriodsOfSpreadRuns.{standing_of}
use Rattle.hyd_spread_check.proofs.SpreadRecordLemmas.{sound-there, spread-there, decided-there, begun-at, begun-short}
use Rattle.hyd_spread_check.proofs.SpreadRecordLemmas.{ended-as}
use Rattle.hyd_spread_check.proofs.whole_check.put_check.Goals as goal

pub begin_check-requires : goal.begin_check-requires
begin_check-requires g c =
    let is = c.project.ensures.is_sim in
    let p = c.project.ensures.project in
    let s = c.spread.ensures ∙ ap (λ (n : SpreadNetsView). n.spread) c.nets.ensures in
    record {
      sound = sound-there _ is _ _ p s;
      spread = spread-there _ is _ _ p s;
      decided = decided-there _ is _ _ p s;
      unbroken = c.requires.unbroken;
    }

pub take_records-requires : goal.take_records-requires
take_records-requires g c = record {
  running = c.requires.running;
  header = c.requires.header;
  going = record {
    going = subst (λ (s : Stand). IsGoing s) (sym c.requires.reader) tt;
    pen = c.in_ok-begin_check.ensures.unbroken;
  };
}

pub end_check-requires : goal.end_check-requires
end_check-requires g c =
    let own = c.project-in-Ok.ensures in
    record {
      sound = sound-there _ own.is_sim _ _ own.project refl;
      unbroken = c.in-Ok.ensures.unbroken;
    }

pub returns-in_err-begin_check-clause-puts : goal.returns-in_err-begin_check-clause-puts
returns-in_err-begin_check-clause-puts g c =
    let p = err_from_is_err_and c.from_residual.result c.from_residual.ensures.1 in
    rw (p.1, p.2) (begun-short _ _ _ _ c.in_err-begin_check.field-0.0 _ _ c.project.ensures.project
    (c.spread.ensures ∙ ap (λ (n : SpreadNetsView). n.spread) c.nets.ensures)
    (c.in_err-begin_check.ensures.begins c.args.reader.now c.requires.reader c.requires.line))

pub returns-in-Err-clause-puts : goal.returns-in-Err-clause-puts
returns-in-Err-clause-puts g c =
    c.in-Err.ensures.give _ (begun-at _ _ _ _ _ _ _ c.project.ensures.project
    (c.spread.ensures ∙ ap (λ (n : SpreadNetsView). n.spread) c.nets.ensures) (sym c.requires.start)
    (c.in_ok-begin_check.ensures.begins c.args.reader.now c.requires.reader c.requires.line))

pub returns-in-Ok-clause-puts : goal.returns-in-Ok-clause-puts
returns-in-Ok-clause-puts g c =
    let sim = c.args.sim.now in
    let begun = begun-at _ _ _ _ _ _ _ c.project.ensures.project
    (c.spread.ensures ∙ ap (λ (n : SpreadNetsView). n.spread) c.nets.ensures) (sym c.requires.start)
    (c.in_ok-begin_check.ensures.begins c.args.reader.now c.requires.reader c.requires.line) in
    let same = c.project-in-Ok.ensures.project ∙ c.take_records.ensures.project in
    ended-as _ _ sim.nets.spread c.in-Ok.conclusion (standing_of c.take_records.new.sim) _ _ _ _ same
    (λ start read. c.end_check.ensures sim.nets.spread (standing_of c.take_records.new.sim) start
    c.take_records.new.reader (spread-there sim c.project.ensures.is_sim _ sim.nets.spread same refl)
    (sym c.number.ensures) read) (c.in-Ok.ensures.give _ begun)
