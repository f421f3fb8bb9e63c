use Rattle.std.proofs.Common.{◌≡◌, ◌∙◌, sym, subst, ap, w64, to_z, of_z, arith, ℤ, pos, ◌-ℤ◌}
use Rattle.std.proofs.lemmas.Int.{ints}
use Rattle.hyd_spec.specs.Assignment.{head_at}
use Rattle.hyd_spec_certificates.specs.Certificate.{box_limit}
use Rattle.hyd_theorems_on_definitions.specs.Sides.{along}
use Rattle.hyd_period_network.specs.NetAsPeriodNetwork.{grid_of}
use Rattle.hyd_sweep.specs.Sweeps.{further, RaisesTo}
use Rattle.hyd_sweep.proofs.RaiseValues.{free-raise, free-none}
use Rattle.hyd_sweep.proofs.single_raises.free_value.Goals as goal

pub returns-then-ticks-room : goal.returns-then-ticks-room
returns-then-ticks-room c =
    let u = c.args.u.now in
    let i = c.args.i in
    let k1 : to_z w64 (of_z w64 c.head_of-here.result) ≡ c.head_of-here.result = omega (arith, ints) in
    let here : to_z w64 (of_z w64 c.head_of-here.result) ≡ head_at u i = k1 ∙ c.head_of-here.ensures in
    let far = c.if-ticks-room.true in
    free-none c.args.held (grid_of c.args.net.now) c.requires.steady c.args.problem c.args.side u i c.requires.inside
    c.room-room.result c.requires.free
    (c.room-room.ensures.value ∙ ap (λ (h : ℤ). pos box_limit -ℤ along c.args.side h) here)
    (λ k le. c.ticks_to_pass-ticks.ensures.before k (omega (arith, le, far)))

pub returns : goal.returns
returns c =
    let u = c.args.u.now in
    let i = c.args.i in
    let side = c.args.side in
    let in_box = c.requires.in_box i (pos 0) c.requires.inside in
    let k1 : to_z w64 (of_z w64 c.head_of-here.result) ≡ c.head_of-here.result = omega (arith, ints) in
    let here : to_z w64 (of_z w64 c.head_of-here.result) ≡ head_at u i = k1 ∙ c.head_of-here.ensures in
    let kept : to_z w64 (of_z w64 c.further.result) ≡ c.further.result = omega (arith, ints) in
    let ticks = c.ticks_to_pass-ticks.result in
    let at : to_z w64 (of_z w64 c.further.result) ≡ further side (head_at u i) ticks = kept
    ∙ (c.further.ensures.value ∙ ap (λ (h : ℤ). further side h ticks) here) in
    let near = c.if-ticks-room.false in
    subst (λ (x : ℤ). RaisesTo c.args.held (grid_of c.args.net.now) c.args.problem side u i x) (sym at)
    (free-raise c.args.held (grid_of c.args.net.now) c.requires.steady c.args.problem side u i c.requires.inside ticks
    c.room-room.result c.requires.free in_box
    (c.room-room.ensures.value ∙ ap (λ (h : ℤ). pos box_limit -ℤ along side h) here) near
    c.ticks_to_pass-ticks.ensures.before
    (c.ticks_to_pass-ticks.ensures.after ticks (omega arith) near))
