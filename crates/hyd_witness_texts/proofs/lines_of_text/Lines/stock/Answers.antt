use Rattle.std.proofs.lemmas.Result.{err_from_is_err_and}
use Rattle.std.proofs.Common.{◌≢◌, List, ℕ, take, drop, ◌+◌, subst, arith}
use Rattle.hyd_witness_texts.specs.Lines.{IsStockLine}
use Rattle.hyd_cert.proofs.LineLemmas.{other_lacks}
use Rattle.hyd_witness_texts.proofs.FirstFaultLemmas.{line_fault_of}
use Rattle.hyd_witness_texts.proofs.WitnessLines.{stock_is_line}
use Rattle.hyd_witness_texts.proofs.lines_of_text.Lines.stock.Goals as goal

pub returns-in_err-n-clause-fault : goal.returns-in_err-n-clause-fault
returns-in_err-n-clause-fault g c =
    let p = err_from_is_err_and c.from_residual.result c.from_residual.ensures.1 in
    rw (p.1, p.2) (line_fault_of _ (IsStockLine) _ _ _ _ c.in_err-n.field-0.0 (λ l is. stock_is_line l is)
    c.in_err-n.ensures.fault)

pub returns-in_default-clause-fault : goal.returns-in_default-clause-fault
returns-in_default-clause-fault g c = (
  omega (arith, c.saturating_add.ensures, c.in_ok-n.ensures.line),
  other_lacks (IsStockLine) c.next_line.new.self.source (take c.in_ok-n.n c.next_line.new.self.source)
      (drop (c.in_ok-n.n + 1) c.next_line.new.self.source)
      _ (g.D.Desk.rest c.next_line.new.desk) (λ l is. stock_is_line l is)
      c.in_ok-n.ensures.some c.in_ok-n.ensures.first
      (subst (λ (h : List ℕ). (l : List ℕ) → (IsStockLine) l → take c.in_ok-n.n h ≢ l) c.held.ensures
      c.in_default.ensures.none) c.in_ok-n.ensures.same,
  c.in_ok-n.ensures.steady,
)
