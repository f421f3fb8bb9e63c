use Rattle.std.proofs.Common.{◌≡◌, to_z, of_z, w64, arith, if◌then◌else◌}
use Rattle.std.proofs.lemmas.Int.{ints}
use Rattle.std.proofs.Common.{false}
use Rattle.hyd_period_network.specs.ExactLaw.{exact_law, one_way_law}
use Rattle.hyd_period_network.specs.LawsInSettings.{restricted}
use Rattle.hyd_laws_at_scale.specs.Scales.{parts_of}
use Rattle.hyd_laws_at_scale.proofs.ComposedWindows.{answered, unanswered}
use Rattle.hyd_laws_at_scale.proofs.link_windows.link_window.Goals as goal

pub returns-clause-some : goal.returns-clause-some
returns-clause-some c =
    let S = parts_of c.args.scale in
    let some = c.in_ok-inside.ensures.some in
    let kept : to_z w64 (of_z w64 c.in_ok-inside.inside) ≡ c.args.d = omega (arith, ints, some.0, some.1) in
    answered S (restricted c.args.no_forward c.args.no_reverse (exact_law c.args.own.now)) c.args.d
    c.restricted.result (c.restricted.ensures S (if c.args.no_forward then one_way_law false (exact_law c.args.own.now)
    else exact_law c.args.own.now) c.args.d
    (c.restricted-one_way.ensures S (exact_law c.args.own.now) c.args.d (rw kept at c.window_at-window.ensures)))

pub returns-clause-none : goal.returns-clause-none
returns-clause-none c =
    let S = parts_of c.args.scale in
    let some = c.in_ok-inside.ensures.some in
    let kept : to_z w64 (of_z w64 c.in_ok-inside.inside) ≡ c.args.d = omega (arith, ints, some.0, some.1) in
    unanswered S (restricted c.args.no_forward c.args.no_reverse (exact_law c.args.own.now)) c.args.d
    c.restricted.result (c.restricted.ensures S (if c.args.no_forward then one_way_law false (exact_law c.args.own.now)
    else exact_law c.args.own.now) c.args.d
    (c.restricted-one_way.ensures S (exact_law c.args.own.now) c.args.d (rw kept at c.window_at-window.ensures)))
