-- The last line.
use Rattle.std.proofs.Common.{ℕ, ap, sym}
use Rattle.hyd_cert_check.specs.declared.outcome.CheckFault.TheVariants.{Output}
use Rattle.hyd_cert_check.proofs.PenLemmas.{not_cert, put-in, put-cut-off, put-as, cut-off-as}
use Rattle.hyd_spread_check_so_far.specs.SpreadCheckSoFar.{conclusion_line}
use Rattle.hyd_spread_check_so_far.proofs.WholeSpreadCheckLemmas.{last-whole, last-cut-short, whole-as}
use Rattle.hyd_spread_check_so_far.proofs.last_report_line.end_check.Goals as goal

pub put_conclusion-requires-clause-ready : goal.put_conclusion-requires-clause-ready
put_conclusion-requires-clause-ready g c = not_cert _ _ c.requires.unbroken.to

pub returns-in-Ok : goal.returns-in-Ok
returns-in-Ok g c = λ spread left start reader is_spread same read.
    let project = c.args.project.now in
    let conclusion = c.args.conclusion in
    let text = ap (λ (n : ℕ). conclusion_line project n conclusion) (sym same) in
    whole-as project spread _ _ start _ (sym c.end_of.ensures)
    (last-whole project spread conclusion left start _ _ c.requires.sound is_spread read
    (put-as _ _ _ _ text (put-in _ reader reader _ _ _ _ c.requires.unbroken c.in-Ok.ensures)))

pub returns-in-Err : goal.returns-in-Err
returns-in-Err g c = λ spread left start reader is_spread same read.
    let project = c.args.project.now in
    let conclusion = c.args.conclusion in
    let text = ap (λ (n : ℕ). conclusion_line project n conclusion) (sym same) in
    last-cut-short project spread conclusion left start _ _ c.requires.sound is_spread read (Output c.in-Err.fault)
    (cut-off-as (Output c.in-Err.fault) _ _ _ _ text (put-cut-off _ c.in-Err.fault reader reader _ _ _ _
    c.requires.unbroken c.in-Err.ensures))
