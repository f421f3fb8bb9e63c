use Rattle.std.proofs.Common.{◌≡◌, ◌≤◌, ◌<◌, List, ℕ, length, take, get_or, ◌∙◌, ap, subst, sym, arith}
use Rattle.std.proofs.lemmas.List.{take_all}
use Rattle.hyd_line_reader.specs.TextsWithoutLine.{HasNo, HasNoLine}
use Rattle.hyd_io.specs.DeskBytes.{prepend_known}
use Rattle.hyd_line_reader.proofs.SplitTexts.{line_there, line_free, full_none, end_none}
use Rattle.hyd_line_reader.proofs.line_reader.Source.line.Goals as goal

pub returns-in-Some-clause-some : goal.returns-in-Some-clause-some
returns-in-Some-clause-some g c =
    line_there c.loop-n.self c.min.result c.in-Some.n
    (subst (λ (h : List ℕ). c.in-Some.n < length (take c.min.result h)) c.held-held.ensures c.in-Some.ensures.within)
    (subst (λ (h : List ℕ). get_or (take c.min.result h) c.in-Some.n 0 ≡ 10) c.held-held.ensures c.in-Some.ensures.some)

pub returns-then-count-ge-LINE-clause-none : goal.returns-then-count-ge-LINE-clause-none
returns-then-count-ge-LINE-clause-none g c =
    let long : 64 ≤ length c.loop-n.self = subst (λ (h : List ℕ). 64 ≤ length h) c.held-held.ensures
    c.if-count-ge-LINE.true in
    let all : c.min.result ≡ 64 = omega (arith, c.min.ensures, c.if-count-ge-LINE.true) in
    full_none c.loop-n.self (g.D.Desk.rest c.loop-n.desk) long
    (subst (λ (k : ℕ). HasNo 10 (take k c.loop-n.self)) all (subst (λ (h : List ℕ). HasNo 10 (take c.min.result h))
    c.held-held.ensures c.in_default.ensures.none))

pub returns-then-n-eq0-clause-none : goal.returns-then-n-eq0-clause-none
returns-then-n-eq0-clause-none g c =
    let idle = c.in_ok-n.ensures.idle c.if-n-eq0.true in
    let same = c.in_ok-n.ensures.same in
    let len : length c.held-held.result.now ≡ length c.loop-n.self = ap length c.held-held.ensures in
    let whole = take_all c.min.result c.loop-n.self (omega (arith, c.min.ensures, c.if-count-ge-LINE.false, len)) in
    subst (λ (h : List ℕ). HasNoLine (prepend_known h (g.D.Desk.rest c.fill.new.desk))) (sym idle)
    (end_none c.loop-n.self (g.D.Desk.rest c.loop-n.desk) (g.D.Desk.rest c.fill.new.desk)
    (ap (λ (h : List ℕ). prepend_known h (g.D.Desk.rest c.fill.new.desk)) (sym idle) ∙ same)
    (c.in_ok-n.ensures.end c.if-n-eq0.true)
    (subst (HasNo 10) whole (subst (λ (h : List ℕ). HasNo 10 (take c.min.result h)) c.held-held.ensures
    c.in_default.ensures.none)))

pub returns-in-Some-clause-first : goal.returns-in-Some-clause-first
returns-in-Some-clause-first g c =
    line_free c.loop-n.self c.min.result c.in-Some.n
    (subst (λ (h : List ℕ). c.in-Some.n < length (take c.min.result h)) c.held-held.ensures c.in-Some.ensures.within)
    (subst (λ (h : List ℕ). HasNo 10 (take c.in-Some.n (take c.min.result h))) c.held-held.ensures
    c.in-Some.ensures.first)
