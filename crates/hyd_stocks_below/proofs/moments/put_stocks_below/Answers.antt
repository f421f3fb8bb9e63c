use Rattle.std.proofs.Common.{◌≡◌, ◌<◌, ◌+◌, ◌∙◌, ℕ, ℤ, pos, List, length, sym, ap, subst, arith}
use Rattle.std.specs.Int.{w128}
use Rattle.std.specs.Prelude.{Some, slice_get}
use Rattle.std.proofs.lemmas.Int.{to_z-of_z}
use Rattle.std.proofs.lemmas.Option.{slice_get_within, slice_get-get_or}
use Rattle.hyd_spec.specs.NodeNumbers.{tank_count}
use Rattle.hyd_spec.specs.PeriodLength.{Period}
use Rattle.hyd_spec.specs.ProgramTypes.{Tank}
use Rattle.hyd_spec.specs.Tank.{Stock as OneStock}
use Rattle.hyd_spec_witnesses.specs.MiddleCandidate.{stock_at}
use Rattle.hyd_spec_witnesses.specs.WitnessText.{AreValues, IsValue}
use Rattle.hyd_stocks_at_scale.specs.Motions.{stock_of}
use Rattle.hyd_stocks_below.specs.KeptStocks.{AreKept}
use Rattle.hyd_stocks_below.proofs.RangesOfTanks.{stock_after}
use Rattle.hyd_stocks_below.proofs.ValuesSoFar.{Have, one_more, values_set}
use Rattle.hyd_stocks_below.proofs.moments.put_stocks_below.Goals as goal

pub loop-tank-preserved : goal.loop-tank-preserved
loop-tank-preserved c =
    let project = c.args.project.now in
    let n = tank_count project in
    let tanks = project.tanks.list in
    let i : ℕ = c.loop-tank.tank in
    let inv = c.loop-tank.invariant in
    let levels = c.loop-tank.levels in
    let volumes = c.loop-tank.volumes in
    let stock = c.stock_in-stock.result in
    let q = c.inflow_in-inflow.result in
    let next = c.stock_below-next.result in
    let kept-flow = to_z-of_z w128 q (record { sfits = c.inflow_in-inflow.type_inv }) in
    let level-small : IsValue next.level = (let s = c.stock_below-next.ensures.small.level in omega (arith, s)) in
    let volume-small : IsValue next.volume = (let s = c.stock_below-next.ensures.small.volume in omega (arith, s)) in
    let inside : i < n = (let a = c.loop-tank-test.true in let b = c.requires.levels.one_each in
    let few = c.requires.sound.counts.tanks in omega (arith, a, b, few)) in
    let level-there : i < length levels = (let b = inv.levels_fit.one_each in omega (arith, inside, b)) in
    let volume-there : i < length volumes = (let b = inv.volumes_fit.one_each in omega (arith, inside, b)) in
    let flow-there : i < length c.args.inflows.now = (let b = c.requires.inflow_each in omega (arith, inside, b)) in
    let flow : slice_get c.args.inflows.now i ≡ Some q = slice_get-get_or c.args.inflows.now i (pos 0) flow-there
    ∙ ap (λ (z : ℤ). Some z) (sym c.inflow_in-inflow.ensures.value) in
    let fact : (before : Period) → AreKept project before c.args.seconds c.args.stocks.now c.args.inflows.now
    → (here : Tank) → slice_get tanks i ≡ Some here → stock_of next ≡ stock_at project (Some before) i here =
    (λ before kept here at. (rw kept-flow at (c.stock_below-next.ensures.value here at))
    ∙ stock_after project before c.args.seconds c.args.stocks.now c.args.inflows.now i here stock q kept
    c.stock_in-stock.ensures.value flow) in
    record {
      levels_fit = subst (AreValues n) (sym c.store.ensures.levels)
          (values_set n levels i next.level inv.levels_fit level-small);
      volumes_fit = subst (AreValues n) (sym c.store.ensures.volumes)
          (values_set n volumes i next.volume inv.volumes_fit volume-small);
      levels = λ before kept. subst (λ (vs : List ℤ). Have (λ k tank z.
          z ≡ (stock_at project (Some before) k tank).level) tanks vs (i + 1)) (sym c.store.ensures.levels)
          (one_more (λ k tank z. z ≡ (stock_at project (Some before) k tank).level) tanks levels i next.level
          level-there (inv.levels before kept) (λ here at. ap (λ (s : OneStock). s.level) (fact before kept here at)));
      volumes = λ before kept. subst (λ (vs : List ℤ). Have (λ k tank z.
          z ≡ (stock_at project (Some before) k tank).volume) tanks vs (i + 1)) (sym c.store.ensures.volumes)
          (one_more (λ k tank z. z ≡ (stock_at project (Some before) k tank).volume) tanks volumes i next.volume
          volume-there (inv.volumes before kept) (λ here at. ap (λ (s : OneStock). s.volume) (fact before kept here at)));
    }

pub returns-clause-levels : goal.returns-clause-levels
returns-clause-levels c = λ before kept k x at.
    let a = slice_get_within c.args.project.now.tanks.list k x at in
    let b = c.requires.levels.one_each in
    let few = c.requires.sound.counts.tanks in
    let past = c.loop-tank-test.false in
    c.loop-tank.invariant.levels before kept k x (omega (arith, a, b, few, past)) at

pub returns-clause-volumes : goal.returns-clause-volumes
returns-clause-volumes c = λ before kept k x at.
    let a = slice_get_within c.args.project.now.tanks.list k x at in
    let b = c.requires.levels.one_each in
    let few = c.requires.sound.counts.tanks in
    let past = c.loop-tank-test.false in
    c.loop-tank.invariant.volumes before kept k x (omega (arith, a, b, few, past)) at
