-- A text has one answer and one report, and what a check that was broken off has printed is a front of it.
use Rattle.std.proofs.Common.{◌≡◌, ℕ, Bool, true, false, List, ◌++◌, refl}
use Rattle.hyd_net.specs.Sound.{IsSound}
use Rattle.hyd_spec.specs.ProgramTypes.{Project}
use Rattle.hyd_spec.specs.Lists.{IsFrontOf}
use Rattle.hyd_spec_flows.specs.FlowTexts.{is_with_flows}
use Rattle.hyd_cert_check.specs.Checks.{CheckEnds, CheckFinds, CheckBreaksOff, in_last_line, in_records}
use Rattle.hyd_spec_check_ends.specs.declared.CheckEnd.{CheckEnd}
use Rattle.hyd_theorems_on_checks.proofs.TextsWithoutFlows.{plain_end, plain_find}
use Rattle.hyd_theorems_on_checks.proofs.TextsWithFlows.{naming_end, naming_find}
use Rattle.hyd_theorems_on_reports_of_checks.proofs.OneReason.{one_answer_plainly}
use Rattle.hyd_theorems_on_reports_of_checks.proofs.OneReasonNaming.{one_answer_naming}
use Rattle.hyd_theorems_on_reports_of_checks.proofs.BrokenOff.{found_front}
use Rattle.hyd_theorems_on_reports_of_checks.proofs.BrokenOffNaming.{found_front_naming}

module _ (project : Project) (sound : IsSound project) (text : List ℕ) where
  one_answer : (flows : Bool) → is_with_flows text ≡ flows → (printed other : List ℕ) (a b : CheckEnd)
      → CheckEnds project text printed a → CheckEnds project text other b → (a ≡ b) × (printed ≡ other)
  one_answer false none printed other a b x y =
      one_answer_plainly project sound text printed other a b (plain_end project text none printed a x)
      (plain_end project text none other b y)
  one_answer true some printed other a b x y =
      one_answer_naming project sound text printed other a b (naming_end project text some printed a x)
      (naming_end project text some other b y)

  pub same_end : (printed other : List ℕ) (a b : CheckEnd) → CheckEnds project text printed a
      → CheckEnds project text other b → a ≡ b
  same_end printed other a b x y = (one_answer (is_with_flows text) refl printed other a b x y).0

  pub same_report : (printed other : List ℕ) (a b : CheckEnd) → CheckEnds project text printed a
      → CheckEnds project text other b → printed ≡ other
  same_report printed other a b x y = (one_answer (is_with_flows text) refl printed other a b x y).1

  -- ---- a check that was broken off

  found_before : (flows : Bool) → is_with_flows text ≡ flows → (printed unprinted whole : List ℕ) (end : CheckEnd)
      → CheckFinds project text (printed ++ unprinted) → CheckEnds project text whole end → IsFrontOf printed whole
  found_before false none printed unprinted whole end finds ends =
      found_front project sound text printed unprinted whole end
      (plain_find project text none (printed ++ unprinted) finds) (plain_end project text none whole end ends)
  found_before true some printed unprinted whole end finds ends =
      found_front_naming project sound text printed unprinted whole end
      (naming_find project text some (printed ++ unprinted) finds) (naming_end project text some whole end ends)

  pub broken_front : (printed whole : List ℕ) (end : CheckEnd) → CheckBreaksOff project text printed
      → CheckEnds project text whole end → IsFrontOf printed whole
  broken_front printed whole end (in_last_line other unprinted x) ends =
      (unprinted, same_report (printed ++ unprinted) whole other end x ends)
  broken_front printed whole end (in_records unprinted finds) ends =
      found_before (is_with_flows text) refl printed unprinted whole end finds ends
