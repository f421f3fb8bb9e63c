use Rattle.std.proofs.Common.{not, length, take, drop, unwrap_or, ap, sym, ◌∙◌}
use Rattle.hyd_spec_lines.specs.WordsOfLines.{is_blank}
use Rattle.hyd_num.proofs.Digits.{place_is}
use Rattle.hyd_lex.proofs.Words.{none_left, split_is, empty_is, filled_is}
use Rattle.hyd_lex.proofs.lines_and_words_split.split_word.Goals as goal

pub returns-then-is_empty-clause-none : goal.returns-then-is_empty-clause-none
returns-then-is_empty-clause-none c =
    let body = c.args.body.now in
    let r = c.behind-rest.ensures ∙ ap (λ o. drop (unwrap_or o (length body)) body) c.not_blank.ensures
    ∙ ap (λ n. drop n body) (place_is (λ b. not (is_blank b)) body) in
    none_left body (sym r ∙ empty_is c.behind-rest.result.now c.is_empty.result c.is_empty.ensures c.if-is_empty.true)

pub returns-clause-some : goal.returns-clause-some
returns-clause-some c =
    let body = c.args.body.now in
    let rest = c.behind-rest.result.now in
    let r = c.behind-rest.ensures ∙ ap (λ o. drop (unwrap_or o (length body)) body) c.not_blank.ensures
    ∙ ap (λ n. drop n body) (place_is (λ b. not (is_blank b)) body) in
    let e = ap (λ o. unwrap_or o (length rest)) c.blank-end.ensures ∙ place_is is_blank rest in
    (split_is body rest c.before-2.result.now c.behind.result.now r
    (filled_is rest c.is_empty.result c.is_empty.ensures c.if-is_empty.false) (c.before-2.ensures
    ∙ ap (λ n. take n rest) e) (c.behind.ensures ∙ ap (λ n. drop n rest) e)).0

pub returns-clause-shorter : goal.returns-clause-shorter
returns-clause-shorter c =
    let body = c.args.body.now in
    let rest = c.behind-rest.result.now in
    let r = c.behind-rest.ensures ∙ ap (λ o. drop (unwrap_or o (length body)) body) c.not_blank.ensures
    ∙ ap (λ n. drop n body) (place_is (λ b. not (is_blank b)) body) in
    let e = ap (λ o. unwrap_or o (length rest)) c.blank-end.ensures ∙ place_is is_blank rest in
    (split_is body rest c.before-2.result.now c.behind.result.now r
    (filled_is rest c.is_empty.result c.is_empty.ensures c.if-is_empty.false) (c.before-2.ensures
    ∙ ap (λ n. take n rest) e) (c.behind.ensures ∙ ap (λ n. drop n rest) e)).1
