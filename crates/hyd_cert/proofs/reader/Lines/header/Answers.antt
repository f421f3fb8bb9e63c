use Rattle.std.proofs.lemmas.Result.{err_from_is_err_and}
use Rattle.std.proofs.Common.{◌≡◌, ◌≢◌, ◌++◌, sym, ap, ◌∙◌, List, ℕ, take, drop, ◌+◌, ◌∷◌, [], codes, subst, arith}
use Rattle.std.specs.Fmt.{decimal}
use Rattle.hyd_cert.specs.Lines.{header_text, IsHeaderLine}
use Rattle.hyd_spec_certificates.specs.CertificateText.{words}
use Rattle.hyd_io.specs.DeskBytes.{prepend_known}
use Rattle.hyd_cert.specs.RecordView.{header_of}
use Rattle.hyd_cert.proofs.LineLemmas.{header_is_line, other_lacks}
use Rattle.hyd_cert.proofs.HeadLemmas.{header_fault_of, has_other, line_read}
use Rattle.hyd_cert.proofs.reader.Lines.header.Goals as goal

pub returns-in_err-n-clause-fault : goal.returns-in_err-n-clause-fault
returns-in_err-n-clause-fault g c =
    let p = err_from_is_err_and c.from_residual.result c.from_residual.ensures.1 in
    rw (p.1, p.2) (header_fault_of (header_of c.args.row.now) _ _ _ _ c.in_err-n.field-0.0
    c.in_err-n.ensures.fault)

pub returns-then-not-is_header_line-clause-fault : goal.returns-then-not-is_header_line-clause-fault
returns-then-not-is_header_line-clause-fault g c = (
  omega (arith, c.saturating_add.ensures, c.in_ok-n.ensures.line),
  (λ other. other_lacks (IsHeaderLine other) c.next_line.new.self.source (take c.in_ok-n.n c.next_line.new.self.source)
      (drop (c.in_ok-n.n + 1) c.next_line.new.self.source)
      _ (g.D.Desk.rest c.next_line.new.desk) (header_is_line other) c.in_ok-n.ensures.some c.in_ok-n.ensures.first
      (subst (λ (h : List ℕ). (l : List ℕ) → IsHeaderLine other l → take c.in_ok-n.n h ≢ l) c.held.ensures
      (c.is_header_line.ensures.no c.if-not-is_header_line.true other)) c.in_ok-n.ensures.same),
  c.in_ok-n.ensures.steady,
)

pub returns-then-not-is_header_of-clause-fault : goal.returns-then-not-is_header_of-clause-fault
returns-then-not-is_header_of-clause-fault g c =
    let header = header_of c.args.row.now in
    let found = c.is_header_line.ensures.yes c.if-not-is_header_line.false in (
      omega (arith, c.saturating_add-then-not-is_header_of.ensures, c.in_ok-n.ensures.line),
      has_other header found.0 c.next_line.new.self.source (take c.in_ok-n.n c.next_line.new.self.source)
          (drop (c.in_ok-n.n + 1) c.next_line.new.self.source)
          _ (g.D.Desk.rest c.next_line.new.desk)
          (subst (λ (h : List ℕ). IsHeaderLine found.0 (take c.in_ok-n.n h)) c.held.ensures found.1)
          (subst (λ (h : List ℕ). take c.in_ok-n.n h ≢ words (codes "HYDCERT"
          ∷ (decimal header.version ∷ (decimal header.junctions ∷ (decimal header.tanks ∷ []))))) c.held.ensures
          (c.is_header_of.ensures.no c.if-not-is_header_of.true))
          c.in_ok-n.ensures.some c.in_ok-n.ensures.same,
      c.in_ok-n.ensures.steady,
    )

pub returns-clause-text : goal.returns-clause-text
returns-clause-text g c =
    let header = header_of c.args.row.now in
    line_read c.next_line.new.self.source (take c.in_ok-n.n c.next_line.new.self.source)
    (drop (c.in_ok-n.n + 1) c.next_line.new.self.source) (header_text header) _ (g.D.Desk.rest c.next_line.new.desk)
    c.in_ok-n.ensures.same c.in_ok-n.ensures.some
    (subst (λ (h : List ℕ). take c.in_ok-n.n h ++ (10 ∷ []) ≡ header_text header) c.held.ensures
    (c.is_header_of.ensures.yes c.if-not-is_header_of.false))
    ∙ ap (λ (r : List ℕ). prepend_known (header_text header) (prepend_known r (g.D.Desk.rest c.next_line.new.desk)))
    (sym c.pass.ensures.source)
