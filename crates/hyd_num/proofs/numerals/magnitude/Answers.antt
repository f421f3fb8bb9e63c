use Rattle.std.proofs.Common.{◌≡◌, ◌+◌, ◌-◌, ◌*◌, ◌^◌, ◌++◌, true, min, length, take, fold, pos, ◌+ℤ◌, ◌-ℤ◌, FitsSigned}
use Rattle.std.proofs.Common.{w32, to_z-of_z, pos_of_ne-zero, ap, sym, ◌∙◌, length-append}
use borrow.Author.Differences.{up, down}
use Rattle.std.specs.List.{list_all}
use Rattle.std.proofs.lemmas.Bool.{and_from}
use Rattle.std.proofs.lemmas.List.Folds.{list_all-append}
use Rattle.hyd_num.specs.Numeral.{number, is_digit}
use Rattle.hyd_num.proofs.Digits.{step, capped_rows, capped_power, front_row, shifted_up, shifted_down}
use Rattle.hyd_num.proofs.numerals.magnitude.Goals as goal

pub returns-then-lost-eq0 : goal.returns-then-lost-eq0
returns-then-lost-eq0 c =
    let f : FitsSigned w32 c.args.exponent = c.ranges.exponent in
    let more : c.places-more.result.0 ≡ up ((c.args.exponent +ℤ pos 9) -ℤ pos (length c.args.decimals.now)) =
    rw to_z-of_z at c.places-more.ensures.more in
    let lost : c.places-more.result.1 ≡ down ((c.args.exponent +ℤ pos 9) -ℤ pos (length c.args.decimals.now)) =
    rw to_z-of_z at c.places-more.ensures.lost in
    c.times_ten.ensures
    ∙ ap (λ x. min (x * 10 ^ c.places-more.result.0) (10 ^ 21 + 1))
    (c.capped-then-lost-eq0.ensures
    ∙ ap (λ x. min (fold step x c.args.decimals.now) (10 ^ 21 + 1)) c.capped.ensures
    ∙ capped_rows (10 ^ 21 + 1) c.args.whole.now c.args.decimals.now)
    ∙ capped_power (10 ^ 21 + 1) (number (c.args.whole.now ++ c.args.decimals.now)) c.places-more.result.0
    ∙ ap (λ x. min x (10 ^ 21 + 1)) (shifted_up (number (c.args.whole.now ++ c.args.decimals.now))
    c.places-more.result.0 c.places-more.result.1 _ more lost c.if-lost-eq0.true)

pub returns : goal.returns
returns c =
    let f : FitsSigned w32 c.args.exponent = c.ranges.exponent in
    let more : c.places-more.result.0 ≡ up ((c.args.exponent +ℤ pos 9) -ℤ pos (length c.args.decimals.now)) =
    rw to_z-of_z at c.places-more.ensures.more in
    let lost : c.places-more.result.1 ≡ down ((c.args.exponent +ℤ pos 9) -ℤ pos (length c.args.decimals.now)) =
    rw to_z-of_z at c.places-more.ensures.lost in
    let digits : list_all is_digit (c.args.whole.now ++ c.args.decimals.now) ≡ true =
    list_all-append is_digit c.args.whole.now c.args.decimals.now ∙ and_from (list_all is_digit c.args.whole.now)
    (list_all is_digit c.args.decimals.now) c.requires.whole_digits c.requires.decimal_digits in
    c.front.ensures
    ∙ ap (λ x. min (number (take (x - c.places-more.result.1) (c.args.whole.now ++ c.args.decimals.now)))
    (10 ^ 21 + 1)) (sym (length-append c.args.whole.now c.args.decimals.now))
    ∙ ap (λ x. min x (10 ^ 21 + 1)) (sym (front_row c.places-more.result.1 (c.args.whole.now ++ c.args.decimals.now)
    digits)
    ∙ shifted_down (number (c.args.whole.now ++ c.args.decimals.now)) c.places-more.result.0 c.places-more.result.1 _
    more lost (c.places-more.ensures.one_way (pos_of_ne-zero c.if-lost-eq0.false)))
