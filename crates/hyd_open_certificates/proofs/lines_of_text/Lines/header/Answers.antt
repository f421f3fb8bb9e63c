use Rattle.std.proofs.lemmas.Result.{err_from_is_err_and}
use Rattle.std.proofs.Common.{◌≡◌, ◌≢◌, ◌++◌, sym, ap, ◌∙◌, List, ℕ, take, drop, ◌+◌, ◌∷◌, [], subst, arith}
use Rattle.hyd_io.specs.DeskBytes.{prepend_known}
use Rattle.hyd_cert.specs.Lines.{header_text, header_words}
use Rattle.hyd_cert.proofs.LineLemmas.{other_lacks}
use Rattle.hyd_cert.proofs.HeadLemmas.{line_read}
use Rattle.hyd_open_certificates.specs.OpenLines.{IsOpenHeaderLine}
use Rattle.hyd_open_certificates.specs.OpenRowView.{open_header_of}
use Rattle.hyd_open_certificates.proofs.OpenLineLemmas.{open_header_is_line, open_header_fault_of, begins_with_other}
use Rattle.hyd_open_certificates.proofs.lines_of_text.Lines.header.Goals as goal

pub returns-in_err-n-clause-fault : goal.returns-in_err-n-clause-fault
returns-in_err-n-clause-fault g c =
    let p = err_from_is_err_and c.from_residual.result c.from_residual.ensures.1 in
    rw (p.1, p.2) (open_header_fault_of (open_header_of c.args.found.now) _ _ _ _ c.in_err-n.field-0.0
    c.in_err-n.ensures.fault)

pub returns-then-not-is_open_header_line-clause-fault : goal.returns-then-not-is_open_header_line-clause-fault
returns-then-not-is_open_header_line-clause-fault g c = (
  omega (arith, c.saturating_add.ensures, c.in_ok-n.ensures.line),
  (λ other. other_lacks (IsOpenHeaderLine other) c.next_line.new.self.source
      (take c.in_ok-n.n c.next_line.new.self.source) (drop (c.in_ok-n.n + 1) c.next_line.new.self.source)
      _ (g.D.Desk.rest c.next_line.new.desk) (open_header_is_line other) c.in_ok-n.ensures.some c.in_ok-n.ensures.first
      (subst (λ (h : List ℕ). (l : List ℕ) → IsOpenHeaderLine other l → take c.in_ok-n.n h ≢ l) c.held.ensures
      (c.is_open_header_line.ensures.no c.if-not-is_open_header_line.true other)) c.in_ok-n.ensures.same),
  c.in_ok-n.ensures.steady,
)

pub returns-then-not-is_header_of-clause-fault : goal.returns-then-not-is_header_of-clause-fault
returns-then-not-is_header_of-clause-fault g c =
    let header = open_header_of c.args.found.now in
    let is = c.is_open_header_line.ensures.yes c.if-not-is_open_header_line.false in (
      omega (arith, c.saturating_add-then-not-is_header_of.ensures, c.in_ok-n.ensures.line),
      begins_with_other header is.0 c.next_line.new.self.source (take c.in_ok-n.n c.next_line.new.self.source)
          (drop (c.in_ok-n.n + 1) c.next_line.new.self.source)
          _ (g.D.Desk.rest c.next_line.new.desk)
          (subst (λ (h : List ℕ). IsOpenHeaderLine is.0 (take c.in_ok-n.n h)) c.held.ensures is.1)
          (subst (λ (h : List ℕ). take c.in_ok-n.n h ≢ header_words header) c.held.ensures
          (c.is_header_of.ensures.no c.if-not-is_header_of.true))
          c.in_ok-n.ensures.some c.in_ok-n.ensures.same,
      c.in_ok-n.ensures.steady,
    )

pub returns-clause-text : goal.returns-clause-text
returns-clause-text g c =
    let header = open_header_of c.args.found.now in
    line_read c.next_line.new.self.source (take c.in_ok-n.n c.next_line.new.self.source)
    (drop (c.in_ok-n.n + 1) c.next_line.new.self.source) (header_text header) _ (g.D.Desk.rest c.next_line.new.desk)
    c.in_ok-n.ensures.same c.in_ok-n.ensures.some
    (subst (λ (h : List ℕ). take c.in_ok-n.n h ++ (10 ∷ []) ≡ header_text header) c.held.ensures
    (c.is_header_of.ensures.yes c.if-not-is_header_of.false))
    ∙ ap (λ (r : List ℕ). prepend_known (header_text header) (prepend_known r (g.D.Desk.rest c.next_line.new.desk)))
    (sym c.pass.ensures.source)
