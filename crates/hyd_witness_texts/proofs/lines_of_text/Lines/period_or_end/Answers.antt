use Rattle.std.proofs.lemmas.Result.{err_from_is_err_and}
use Rattle.std.proofs.Common.{◌≢◌, List, ℕ, take, drop, ◌+◌, subst, arith}
use Rattle.hyd_witness_texts.specs.PeriodOrEndLine.{IsPeriodOrEnd}
use Rattle.hyd_cert.proofs.LineLemmas.{other_lacks}
use Rattle.hyd_witness_texts.proofs.FirstFaultLemmas.{line_fault_of}
use Rattle.hyd_witness_texts.proofs.WitnessLines.{next_line_is_line}
use Rattle.hyd_witness_texts.proofs.lines_of_text.Lines.period_or_end.Goals as goal

pub returns-in_err-n-clause-fault : goal.returns-in_err-n-clause-fault
returns-in_err-n-clause-fault g c =
    let p = err_from_is_err_and c.from_residual.result c.from_residual.ensures.1 in
    rw (p.1, p.2) (line_fault_of _ (IsPeriodOrEnd c.args.periods) _ _ _ _ c.in_err-n.field-0.0 (λ l is.
    next_line_is_line c.args.periods (omega arith) l is) c.in_err-n.ensures.fault)

pub returns-in_default-clause-fault : goal.returns-in_default-clause-fault
returns-in_default-clause-fault g c = (
  omega (arith, c.saturating_add.ensures, c.in_ok-n.ensures.line),
  other_lacks (IsPeriodOrEnd c.args.periods) c.next_line.new.self.source (take c.in_ok-n.n c.next_line.new.self.source)
      (drop (c.in_ok-n.n + 1) c.next_line.new.self.source)
      _ (g.D.Desk.rest c.next_line.new.desk) (λ l is. next_line_is_line c.args.periods (omega arith) l is)
      c.in_ok-n.ensures.some c.in_ok-n.ensures.first
      (subst (λ (h : List ℕ). (l : List ℕ) → (IsPeriodOrEnd c.args.periods) l → take c.in_ok-n.n h ≢ l) c.held.ensures
      c.in_default.ensures.none) c.in_ok-n.ensures.same,
  c.in_ok-n.ensures.steady,
)
