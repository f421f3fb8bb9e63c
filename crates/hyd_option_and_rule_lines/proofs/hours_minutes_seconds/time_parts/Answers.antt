use Rattle.std.proofs.Common.{◌∷◌, List, ℕ, sym, ap, ◌∙◌}
use Rattle.hyd_spec_input.specs.TimesAndClockTimes.{is_colon}
use Rattle.hyd_option_and_rule_lines.proofs.Colons.{no_colon, too_many}
use Rattle.hyd_option_and_rule_lines.proofs.hours_minutes_seconds.time_parts.Goals as goal

pub returns-then-has_colon-clause-none : goal.returns-then-has_colon-clause-none
returns-then-has_colon-clause-none c =
    too_many c.args.word.now c.in_ok-hours.hours.now c.in-Some.minutes.now c.in-Some.rest.now
    (c.in_ok-hours.ensures.some ∙ ap (λ (ps : List (List ℕ)). c.in_ok-hours.hours.now ∷ ps) c.in-Some.ensures.some)
    (sym c.has_colon.ensures ∙ c.if-has_colon.true)

pub returns-clause-some : goal.returns-clause-some
returns-clause-some c =
    c.in_ok-hours.ensures.some ∙ ap (λ (ps : List (List ℕ)). c.in_ok-hours.hours.now ∷ ps) (c.in-Some.ensures.some
    ∙ ap (λ (ps : List (List ℕ)). c.in-Some.minutes.now
    ∷ ps) (no_colon is_colon c.in-Some.rest.now (sym c.has_colon.ensures ∙ c.if-has_colon.false)))
