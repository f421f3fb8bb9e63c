-- Loops that put a line for each item.
use Rattle.std.proofs.Common.{ℕ, ◌+◌, ◌<◌, Bool, List, length, take, Option}
use Rattle.std.specs.Prelude.{Ok, Err, IfSome, slice_get}
use Rattle.hyd_io.specs.declared.desk.Faults.{Faults}
use Rattle.hyd_io.specs.declared.desk.Openings.{Openings}
use Rattle.hyd_io.specs.declared.output.OutFault.{OutFault}
use Rattle.hyd_io.specs.DeskBytes.{Files}
use Rattle.hyd_io.specs.Output.{PenState}
use Rattle.hyd_spec.specs.ProgramTypes.{Project}
use Rattle.hyd_spec.specs.Lists.{map_from}
use Rattle.hyd_spec_reports.specs.ReportLine.{ReportLine, line_text}
use Rattle.hyd_io.specs.TextPutIn.{Puts}
use Rattle.hyd_report.specs.NodeAndLinkLines.{texts}
use Rattle.hyd_report.proofs.LineLemmas.{there, lines_more, lines_rest, lines_split}
use Rattle.hyd_io.proofs.PutLemmas.{puts_then, puts_cut_off, puts_same}

module _ {S : Type 0} {files : S → Option Files} {rest written printed target : S → Option (List ℕ)} {ready : S → Bool}
    {counts : S → Faults} {openings : S → Openings} {X : Type 0} (project : Project) (line : ℕ → X → ReportLine)
    (xs : List X)
    (i : ℕ) (p q r : PenState) (d e f : S) where
  -- one line more
  pub line_put : i < length xs
      → Puts files rest written printed target ready counts openings (texts project (map_from line 0 (take i xs))) (Ok
      (tt {0})) p q d e
      → IfSome (slice_get xs i) (λ x. Puts files rest written printed target ready counts openings (line_text project
      (line i x)) (Ok (tt {0})) q r e f)
      → Puts files rest written printed target ready counts openings (texts project (map_from line 0 (take
      (i + 1) xs))) (Ok (tt {0})) p r d f
  line_put within so_far step =
      let here = there xs i (λ x. Puts files rest written printed target ready counts openings (line_text project
      (line i x)) (Ok (tt {0})) q r e f) within step in
      puts_same _ _ _ _ _ _ _ (lines_more project line xs i here.0 here.1.0)
      (puts_then _ _ _ _ _ _ _ _ _ so_far here.1.1)

  -- a line is cut off
  pub line_cut_off : (why : OutFault) → i < length xs
      → Puts files rest written printed target ready counts openings (texts project (map_from line 0 (take i xs))) (Ok
      (tt {0})) p q d e
      → IfSome (slice_get xs i) (λ x. Puts files rest written printed target ready counts openings (line_text project
      (line i x)) (Err why) q r e f)
      → Puts files rest written printed target ready counts openings (texts project (map_from line 0 xs))
      (Err why) p r d f
  line_cut_off why within so_far step =
      let here = there xs i (λ x. Puts files rest written printed target ready counts openings (line_text project
      (line i x)) (Err why) q r e f) within step in
      puts_same _ _ _ _ _ _ _ (lines_split project line xs i here.0 here.1.0)
      (puts_cut_off _ (lines_rest project line xs i) why _ _ _ _ (puts_then _ _ _ _ _ _ _ _ _ so_far here.1.1))
