-- What was put in went out.
use Rattle.hyd_summarised_run.proofs.RunLemmas.{gives-whole, gives-broken, gives-rose, gives-steady, gives-rest}
use Rattle.hyd_summarised_run.proofs.whole_run.run_summed.Goals as goal

pub returns-clause-whole : goal.returns-clause-whole
returns-clause-whole g c =
    gives-whole _ _ _ _ c.put_run.ensures.sound c.requires.certificate c.requires.report c.put_run.result
    c.put_run.ensures.puts c.put_run.ensures.certificate c.put_run.ensures.report

pub returns-clause-broken_off : goal.returns-clause-broken_off
returns-clause-broken_off g c =
    gives-broken _ _ _ _ c.put_run.ensures.sound c.requires.certificate c.requires.report c.put_run.result
    c.put_run.ensures.puts

pub returns-clause-cause : goal.returns-clause-cause
returns-clause-cause g c =
    gives-rose _ _ _ _ c.put_run.ensures.sound c.requires.certificate c.requires.report c.put_run.result
    c.put_run.ensures.puts

pub returns-clause-steady : goal.returns-clause-steady
returns-clause-steady g c =
    gives-steady _ _ _ _ c.put_run.ensures.sound c.requires.certificate c.requires.report c.put_run.result
    c.put_run.ensures.puts

pub returns-clause-leaves : goal.returns-clause-leaves
returns-clause-leaves g c =
    gives-rest _ _ _ _ c.put_run.ensures.sound c.requires.certificate c.requires.report c.put_run.result
    c.put_run.ensures.puts
