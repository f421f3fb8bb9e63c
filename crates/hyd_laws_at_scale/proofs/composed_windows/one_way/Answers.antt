use Rattle.std.proofs.Common.{◌≡◌, to_z, of_z, subst, ap, ◌∙◌, arith}
use Rattle.std.specs.Int.{w128}
use Rattle.std.proofs.lemmas.Int.{ints, to_z-of_z}
use Rattle.hyd_law.specs.ComposedLaws.{directed}
use Rattle.hyd_laws_at_scale.specs.Windows.{IsAnswer}
use Rattle.hyd_laws_at_scale.proofs.ComposedWindows.{one_way_window}
use Rattle.hyd_laws_at_scale.proofs.composed_windows.one_way.Goals as goal

pub returns : goal.returns
returns c = λ S law d is.
    let w = c.in_ok-inside.inside in
    let low : to_z w128 (of_z w128 c.in_ok-inside.inside.low) ≡ c.in_ok-inside.inside.low =
    omega (arith, ints, c.in_ok-inside.inside.low_small) in
    let high : to_z w128 (of_z w128 c.in_ok-inside.inside.high) ≡ c.in_ok-inside.inside.high =
    omega (arith, ints, c.in_ok-inside.inside.high_small) in
    one_way_window c.args.forward S law d w c.window_of.result
    (c.window_of.ensures.low ∙ (to_z-of_z w128 c.directed.result (record { sfits = c.directed.type_inv })
    ∙ (c.directed.ensures.value ∙ ap (directed c.args.forward) low)))
    (c.window_of.ensures.high ∙ (to_z-of_z w128 c.directed-2.result (record { sfits = c.directed-2.type_inv })
    ∙ (c.directed-2.ensures.value ∙ ap (directed c.args.forward) high)))
    (subst (IsAnswer S law d) c.in_ok-inside.was is)
