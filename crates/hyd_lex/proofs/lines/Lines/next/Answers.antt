use Rattle.std.proofs.Common.{◌≡◌, ◌+◌, [], drop, refl, sym, ap, ◌∙◌, arith}
use Rattle.std.proofs.lemmas.List.{length-drop, drop_all}
use Rattle.hyd_spec_lines.specs.WordsOfLines.{text_lines}
use Rattle.hyd_lex.specs.RemainingRows.{items}
use Rattle.hyd_lex.proofs.RowsByLine.{at_nothing, at_item, row_is, stands_after, line_at_place}
use Rattle.hyd_lex.proofs.lines.Lines.next.Goals as goal

pub loop-self-init : goal.loop-self-init
loop-self-init c = record {
  text_is = ap (λ r. r.text) c.self.view_is;
  rest = ap (λ r. r.rest) c.self.view_is;
  short = c.self.invariant.0;
  within = c.self.invariant.1;
  few = c.self.invariant.2;
  stands = c.self.invariant.3;
}

pub loop-self-preserved-in-Nothing : goal.loop-self-preserved-in-Nothing
loop-self-preserved-in-Nothing c =
    let s = c.loop-self.self-inside in
    at_nothing c.args.self.now s.text.now s.at c.first_line-used.result.1 s.number s.region _ _ _
    c.loop-self.invariant c.loop-self-test.true c.first_line-used.ensures.lines
    c.first_line-used.ensures.feed c.first_line-used.ensures.some c.first_line-used.ensures.within
    c.kind_of-kind.ensures c.region_after-self-inside.ensures (rw c.in-Nothing.is refl)

pub loop-self-preserved : goal.loop-self-preserved
loop-self-preserved c =
    let s = c.loop-self.self-inside in
    at_nothing c.args.self.now s.text.now s.at c.first_line-used.result.1 s.number s.region _ _ _
    c.loop-self.invariant c.loop-self-test.true c.first_line-used.ensures.lines
    c.first_line-used.ensures.feed c.first_line-used.ensures.some c.first_line-used.ensures.within
    c.kind_of-kind.ensures c.region_after-self-inside.ensures (rw c.in-Opens.is refl)

pub invariant_of-self-in-Wrong : goal.invariant_of-self-in-Wrong
invariant_of-self-in-Wrong c =
    let i = c.loop-self.invariant in (
      i.short,
      omega (
        arith,
        i.within,
        c.first_line-used.ensures.within,
        length-drop c.loop-self.self-inside.at c.loop-self.self-inside.text.now,
      ),
      omega (arith, i.few, c.first_line-used.ensures.some),
      stands_after c.loop-self.self-inside.text.now c.loop-self.self-inside.at c.first_line-used.result.1
          c.loop-self.self-inside.number _ i.stands c.loop-self-test.true c.first_line-used.ensures.lines
          c.first_line-used.ensures.feed,
    )

pub returns-in-Wrong-clause-text : goal.returns-in-Wrong-clause-text
returns-in-Wrong-clause-text c = c.loop-self.invariant.text_is

pub returns-in-Wrong-clause-some : goal.returns-in-Wrong-clause-some
returns-in-Wrong-clause-some c =
    let s = c.loop-self.self-inside in
    at_item c.args.self.now s.text.now s.at c.first_line-used.result.1 s.number s.region _ _ _ _
    c.loop-self.invariant c.first_line-used.ensures.lines
    c.kind_of-kind.ensures c.region_after-self-inside.ensures (rw c.in-Wrong.is refl)

pub invariant_of-self-in-Row : goal.invariant_of-self-in-Row
invariant_of-self-in-Row c =
    let i = c.loop-self.invariant in (
      i.short,
      omega (
        arith,
        i.within,
        c.first_line-used.ensures.within,
        length-drop c.loop-self.self-inside.at c.loop-self.self-inside.text.now,
      ),
      omega (arith, i.few, c.first_line-used.ensures.some),
      stands_after c.loop-self.self-inside.text.now c.loop-self.self-inside.at c.first_line-used.result.1
          c.loop-self.self-inside.number _ i.stands c.loop-self-test.true c.first_line-used.ensures.lines
          c.first_line-used.ensures.feed,
    )

pub returns-in-Row-clause-text : goal.returns-in-Row-clause-text
returns-in-Row-clause-text c = c.loop-self.invariant.text_is

pub returns-in-Row-clause-some : goal.returns-in-Row-clause-some
returns-in-Row-clause-some c =
    let s = c.loop-self.self-inside in
    let line = c.first_line-used.result.0.now in
    let place =
    row_is s.text.now s.at line c.body.result.now c.first_line-used.ensures.front c.body.ensures.front
    c.body.ensures.shorter in
    at_item c.args.self.now s.text.now s.at c.first_line-used.result.1 s.number s.region _ _ _ _
    c.loop-self.invariant c.first_line-used.ensures.lines
    c.kind_of-kind.ensures c.region_after-self-inside.ensures
    (rw (c.in-Row.is, ← c.loop-self.invariant.text_is, place, c.body.ensures.body) refl)

pub returns-in-Row-clause-place : goal.returns-in-Row-clause-place
returns-in-Row-clause-place c =
    let s = c.loop-self.self-inside in
    let line = c.first_line-used.result.0.now in
    let place =
    row_is s.text.now s.at line c.body.result.now c.first_line-used.ensures.front c.body.ensures.front
    c.body.ensures.shorter in
    rw (← c.loop-self.invariant.text_is) (line_at_place s.text.now s.at c.first_line-used.result.1 s.number line _
    c.body.result.now c.loop-self.invariant.stands c.loop-self-test.true c.first_line-used.ensures.lines
    c.body.ensures.body place refl refl refl)

pub returns-clause-none : goal.returns-clause-none
returns-clause-none c =
    let s = c.loop-self.self-inside in
    let e : items s.region (s.number + 1) (text_lines (drop s.at s.text.now)) ≡ [] =
    rw (drop_all s.at s.text.now c.loop-self-test.false) refl in
    (sym c.loop-self.invariant.rest ∙ e, e)
