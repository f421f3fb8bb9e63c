-- The first line, the records, and the last line.
use Rattle.std.proofs.lemmas.Result.{err_from_is_err_and}
use Rattle.std.proofs.Common.{sym, subst, ap, ◌∙◌}
use Rattle.hyd_net.specs.Sound.{IsSound}
use Rattle.hyd_spec.specs.ProgramTypes.{Project}
use Rattle.hyd_spec_open_ends.specs.OpenStandings.{OpenStanding}
use Rattle.hyd_cert.specs.ReaderView.{IsGoing}
use Rattle.hyd_cert.specs.declared.answers_of_reader.Stand.{Stand}
use Rattle.hyd_open_run.specs.PeriodsOfOpenRuns.{standing_of}
use Rattle.hyd_open_check.proofs.OpenRecordLemmas.{begun-at, ended-as}
use Rattle.hyd_open_check.proofs.whole_check.put_check.Goals as goal

pub begin_check-requires : goal.begin_check-requires
begin_check-requires g c = record {
  sound = subst IsSound (sym c.project.ensures.project) c.project.ensures.is_sim.sound;
  unbroken = c.requires.unbroken;
}

pub take_records-requires : goal.take_records-requires
take_records-requires g c = record {
  running = c.requires.running;
  header = c.requires.header;
  going = record {
    going = subst (λ (s : Stand). IsGoing s) (sym c.requires.reader) tt;
    pen = c.in_ok-begin_check.ensures.unbroken;
  };
}

pub end_check-requires : goal.end_check-requires
end_check-requires g c = record {
  sound = subst IsSound (sym c.project-in-Ok.ensures.project) c.project-in-Ok.ensures.is_sim.sound;
  unbroken = c.in-Ok.ensures.unbroken;
}

pub returns-in_err-begin_check-clause-puts : goal.returns-in_err-begin_check-clause-puts
returns-in_err-begin_check-clause-puts g c =
    let p = err_from_is_err_and c.from_residual.result c.from_residual.ensures.1 in
    rw (p.1, p.2) (rw c.project.ensures.project at (c.in_err-begin_check.ensures.begins c.args.reader.now c.requires.reader c.requires.line))

pub returns-in-Err-clause-puts : goal.returns-in-Err-clause-puts
returns-in-Err-clause-puts g c =
    c.in-Err.ensures.give _ (begun-at _ _ _ _ _ c.project.ensures.project (sym c.requires.start)
    (c.in_ok-begin_check.ensures.begins c.args.reader.now c.requires.reader c.requires.line))

pub returns-in-Ok-clause-puts : goal.returns-in-Ok-clause-puts
returns-in-Ok-clause-puts g c =
    let begun = begun-at _ _ _ _ _ c.project.ensures.project (sym c.requires.start)
    (c.in_ok-begin_check.ensures.begins c.args.reader.now c.requires.reader c.requires.line) in
    ended-as _ _ c.in-Ok.conclusion (standing_of c.take_records.new.sim) _ _ _ _
    (c.project-in-Ok.ensures.project ∙ c.take_records.ensures.project)
    (λ start read. c.end_check.ensures (standing_of c.take_records.new.sim) start c.take_records.new.reader
    (sym c.number.ensures) read) (c.in-Ok.ensures.give _ begun)
