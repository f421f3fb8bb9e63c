-- What a step finds.
use Rattle.std.proofs.Common.{◌≡◌, ◌<◌, ◌^◌, [], length}
use Rattle.hyd_cert.specs.RecordView.{row_of}
use Rattle.hyd_cert.specs.declared.record.Record.{Record as Row}
use Rattle.hyd_period_facts.specs.declared.facts.Facts.{Facts}
use Rattle.hyd_period_network.specs.NetAsPeriodNetwork.{grid_of, states_of}
use Rattle.hyd_spec_certificates.specs.CertificateText.{record_text}
use Rattle.hyd_io.specs.declared.output.OutFault.{OutFault}
use Rattle.hyd_sim.specs.RunView.{SimView, IsSim}
use Rattle.hyd_sim.specs.Steps.{IsPeriod}
use Rattle.hyd_run.specs.Pens.{RunMoment, PutIn, IsCutOff}
use Rattle.hyd_run.proofs.PeriodLemmas.{small-number, fewer-left}
use Rattle.hyd_summarised_run.specs.SummarisedRuns.{SumsPeriod, LosesPeriod}
use Rattle.hyd_run.proofs.StepLemmas.{found-of, number-is, step-of}
use Rattle.hyd_summarised_run.proofs.EventLemmas.{period-events}

module _ (before now : SimView) (is : IsSim now) (period : IsPeriod before now) where
  pub did-there : (row : Row) (facts : Facts) (m o : RunMoment) → row ≡ now.row → facts ≡ now.facts
      → row.number < 2 ^ 32
      → row.time < 2 ^ 32 → row.length < 2 ^ 32 → PutIn (record_text (row_of row)) [] m o
      → SumsPeriod (length facts.events.list) before now m o
  did-there row facts m o r f number time seconds put = record {
    found = found-of before now;
    step = step-of before now is period (rw r at number) (rw r at time) (rw r at seconds);
    fewer = fewer-left before now is (number-is before now is period);
    next = number-is before now is period;
    few = small-number now is;
    counted = rw f (period-events now.project (grid_of now.net) (states_of now.net) (row_of now.row) now.facts);
    put = rw r at put;
  }

  pub lost-there : (fault : OutFault) (row : Row) (m o : RunMoment) → row ≡ now.row → row.number < 2 ^ 32
      → row.time < 2 ^ 32 → row.length < 2 ^ 32 → IsCutOff fault (record_text (row_of row)) [] m o
      → LosesPeriod fault before now m o
  lost-there fault row m o r number time seconds cut_off = record {
    found = found-of before now;
    step = step-of before now is period (rw r at number) (rw r at time) (rw r at seconds);
    cut_off = rw r at cut_off;
  }
