-- What a text leaves of which the promises for a spread hold.
use Rattle.std.proofs.Common.{ℕ, ℤ, List, refl, sym, ◌∙◌}
use Rattle.hyd_io.specs.declared.output.OutFault.{OutFault}
use Rattle.hyd_io.specs.declared.output.OutFault.TheVariants.{Fault, Stalled as Stall}
use Rattle.hyd_num.specs.Rational.{Rational}
use Rattle.hyd_spec.specs.ProgramTypes.{Project}
use Rattle.hyd_spec_certificates.specs.declared.StopCause.TheVariants.{Demand as DemandOutOfRange}
use Rattle.hyd_spec_reports.specs.ReportLine.{stop_line}
use Rattle.hyd_spec_spread.specs.Spreads.{Spread}
use Rattle.hyd_spec_spread_stops.specs.StopsOfSpreads.{IsFirstDemandOver}
use Rattle.hyd_spec_targets_within.specs.PromisesWithinSpreads.{ClosuresWithinBreakOff, NamesDemandWithin}
use Rattle.hyd_spread_targets.specs.ClosuresPutOutWithin.{AreSoFarWithin}
use Rattle.hyd_command_answers.specs.DeskContents.{Seen, OnlyPrintedFront}
use Rattle.hyd_command_answers.specs.FaultsAndRefusals.{status_of_fault}
use Rattle.hyd_target_commands.specs.PrintedTexts.{Prints}
use Rattle.hyd_spread_target_commands.specs.SpreadDemands.{AnswersDemandOver}

-- a front of the lines of the first closures
pub broken-off : (project : Project) (spread : Spread) (target : Rational) (rounds : ℕ) (text : List ℕ)
    (before now : Seen) → AreSoFarWithin project spread target rounds text → OnlyPrintedFront text before now
    → Prints (ClosuresWithinBreakOff project spread target rounds) before now
broken-off project spread target rounds text before now so only = record {
  text = only.printed.1.front;
  holds = record {
    closures = so.closures;
    each = so.each;
    is_whole = so.is_whole;
    all = so.all;
    unprinted = only.printed.0;
    front = sym only.printed.1.whole ∙ so.is_text;
  };
  only = record { files = only.files; written = only.written; printed = only.printed.1.out };
}

-- ---- a demand of which an end is out of range

module _ (project : Project) (spread : Spread) (junction : ℕ) (demand : ℤ) where
  named : IsFirstDemandOver project spread 0 junction demand
      → NamesDemandWithin project spread (stop_line project 0 (DemandOutOfRange 0 junction demand))
  named first = record { junction = junction; demand = demand; first = first; is_line = refl }

  -- a front of its line
  pub demand-cut-off : (fault : OutFault) (before now : Seen) → IsFirstDemandOver project spread 0 junction demand
      → OnlyPrintedFront (stop_line project 0 (DemandOutOfRange 0 junction demand)) before now
      → AnswersDemandOver project spread (status_of_fault fault) before now
  demand-cut-off Fault before now first only =
      record { text = stop_line project 0 (DemandOutOfRange 0 junction demand); holds = named first; only = only }
  demand-cut-off Stall before now first only =
      record { text = stop_line project 0 (DemandOutOfRange 0 junction demand); holds = named first; only = only }
