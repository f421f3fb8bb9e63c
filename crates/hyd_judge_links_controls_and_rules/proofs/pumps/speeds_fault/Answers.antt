use Rattle.std.proofs.Common.{refl, sym, ◌∙◌}
use Rattle.std.specs.Prelude.{pos}
use Rattle.hyd_spec_input.specs.Columns.{units}
use Rattle.hyd_judge_links_controls_and_rules.proofs.pumps.speeds_fault.Goals as goal

pub returns-in_default : goal.returns-in_default
returns-in_default c = λ text rows are.
    let e = c.in_default.ensures.between text rows are (pos 0) (units 10) in rw e refl

pub returns-then-not-is_speed : goal.returns-then-not-is_speed
returns-then-not-is_speed c = λ text rows are.
    let e = c.in-Some.ensures.between text rows are (pos 0) (units 10) in
    let least = sym c.is_speed.ensures ∙ c.if-not-is_speed.true in
    rw (e, least) refl

pub returns-then-not-is_speed-2 : goal.returns-then-not-is_speed-2
returns-then-not-is_speed-2 c = λ text rows are.
    let e = c.in-Some.ensures.between text rows are (pos 0) (units 10) in
    let least = sym c.is_speed.ensures ∙ c.if-not-is_speed.false in
    let greatest = sym c.is_speed-2.ensures ∙ c.if-not-is_speed-2.true in
    rw (e, least, greatest) refl

pub returns : goal.returns
returns c = λ text rows are.
    let e = c.in-Some.ensures.between text rows are (pos 0) (units 10) in
    let least = sym c.is_speed.ensures ∙ c.if-not-is_speed.false in
    let greatest = sym c.is_speed-2.ensures ∙ c.if-not-is_speed-2.false in
    rw (e, least, greatest) refl
