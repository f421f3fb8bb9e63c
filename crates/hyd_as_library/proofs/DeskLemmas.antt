-- How what a check leaves at a desk in memory follows from what the calls in it leave.
use Rattle.std.proofs.Common.{◌≡◌, ℕ, List, ◌++◌, Some, inr, ◌⊎◌, ◌∙◌, sym, ap}
use Rattle.hyd_io.specs.DeskInMemory.{Memory}
use Rattle.hyd_io.specs.DeskBytes.{append_known}
use Rattle.hyd_spec.specs.ProgramTypes.{Project}
use Rattle.hyd_cert_check.specs.Checks.{CheckEnds, CheckBreaksOff}
use Rattle.hyd_cert_check.specs.RecordByRecord.{IsPrinted}
use Rattle.hyd_spec_check_ends.specs.declared.CheckEnd.{CheckEnd}
use Rattle.hyd_as_library.specs.AtDesk.{NothingPut, IsCheckAt, IsCheckCutShort}
use Rattle.hyd_lemmas.proofs.ListsOptionsAndResults.{same_item}

-- what was printed behind what a call left as it was
printed_since : (before between now report : List ℕ) → Some between ≡ Some before
    → Some now ≡ append_known (Some between) report → now ≡ before ++ report
printed_since before between now report same out =
    same_item _ now (between ++ report) out ∙ ap (λ p. p ++ report) (same_item _ between before same)

-- a file was opened, and what was left to read of it then was checked
module _ (project : Project) (name : List ℕ) (before opened after : Memory)
    (held : Some opened.unread ≡ before.files name) (printed : Some opened.printed ≡ Some before.printed) where
  pub checked : (end : CheckEnd)
      → IsPrinted (λ report. CheckEnds project opened.unread report end) (Some opened.printed) (Some after.printed)
      → IsCheckAt project name end before after
  checked end out = record {
    certificate = opened.unread;
    report = out.report;
    held = sym held;
    check = out.holds;
    printed = printed_since before.printed opened.printed after.printed out.report printed out.printed;
  }

  pub check_cut_short : IsPrinted (CheckBreaksOff project opened.unread) (Some opened.printed) (Some after.printed)
      → NothingPut before after ⊎ IsCheckCutShort project name before after
  check_cut_short out = inr (record {
    certificate = opened.unread;
    report = out.report;
    held = sym held;
    check = out.holds;
    printed = printed_since before.printed opened.printed after.printed out.report printed out.printed;
  })
