use Rattle.std.proofs.Common.{◌≡◌, ◌≢◌, List, ℕ, take, drop, ◌+◌, ◌++◌, ◌∷◌, Option, IfSome, IfNone, ◌∙◌, subst}
use Rattle.hyd_io.specs.DeskBytes.{prepend_known}
use Rattle.hyd_line_reader.specs.TextsWithoutLine.{HasNo, HasNoLine}
use Rattle.hyd_cert.proofs.LineLemmas.{other_lacks}
use Rattle.hyd_open_certificates.specs.OpenLines.{IsOpenHeaderLine}
use Rattle.hyd_open_certificates.proofs.OpenLineLemmas.{open_header_is_line, begins_open}
use Rattle.hyd_open_certificates.proofs.lines_of_text.Lines.has_open_header.Goals as goal

pub returns-in-Ok-None-clause-no : goal.returns-in-Ok-None-clause-no
returns-in-Ok-None-clause-no g c = λ none header line rest is told.
    let alone = open_header_is_line header line is in
    let lacks = subst (λ (o : Option ℕ). IfNone o (HasNoLine (prepend_known c.line.new.self
    (g.D.Desk.rest c.line.new.desk)))) c.in-Ok-None.field-0-is c.in-Ok-None.ensures.none in
    lacks line rest alone.0 alone.1 (c.in-Ok-None.ensures.same ∙ told)

pub returns-in-Ok-Some-clause-yes : goal.returns-in-Ok-Some-clause-yes
returns-in-Ok-Some-clause-yes g c = λ yes.
    let is = c.is_open_header_line.ensures.yes yes in
    let n = c.in-Ok-Some.n in
    let held = c.line.new.self in
    let split = subst (λ (o : Option ℕ). IfSome o (λ n. held ≡ take n held ++ (10 ∷ drop (n + 1) held)))
    c.in-Ok-Some.field-0-is c.in-Ok-Some.ensures.some in
    begins_open is.0 held (take n held) (drop (n + 1) held) _ (g.D.Desk.rest c.line.new.desk)
    (subst (λ (h : List ℕ). IsOpenHeaderLine is.0 (take n h)) c.held.ensures is.1) split c.in-Ok-Some.ensures.same

pub returns-in-Ok-Some-clause-no : goal.returns-in-Ok-Some-clause-no
returns-in-Ok-Some-clause-no g c = λ no header.
    let n = c.in-Ok-Some.n in
    let held = c.line.new.self in
    let split = subst (λ (o : Option ℕ). IfSome o (λ n. held ≡ take n held ++ (10 ∷ drop (n + 1) held)))
    c.in-Ok-Some.field-0-is c.in-Ok-Some.ensures.some in
    let first = subst (λ (o : Option ℕ). IfSome o (λ n. HasNo 10 (take n held))) c.in-Ok-Some.field-0-is
    c.in-Ok-Some.ensures.first in
    other_lacks (IsOpenHeaderLine header) held (take n held) (drop (n + 1) held) _ (g.D.Desk.rest c.line.new.desk)
    (open_header_is_line header) split first
    (subst (λ (h : List ℕ). (l : List ℕ) → IsOpenHeaderLine header l → take n h ≢ l) c.held.ensures
    (c.is_open_header_line.ensures.no no header)) c.in-Ok-Some.ensures.same
