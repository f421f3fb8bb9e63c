use Rattle.std.proofs.Common.{◌≡◌, ◌∙◌, ℤ, pos, ◌*ℤ◌, ap, ap₂, to_z, of_z, w64, arith}
use Rattle.std.specs.Int.{w128}
use Rattle.std.proofs.lemmas.Int.{ints, to_z-of_z}
use Rattle.hyd_spec.specs.Tank.{Stock, walls_of, kept_volume}
use Rattle.hyd_spec_certificates.specs.Stocks.{Stocks}
use Rattle.hyd_lemmas.proofs.ListsOptionsAndResults.{item_there}
use Rattle.hyd_stocks_below.proofs.RangesOfTanks.{level_small, initial_small}
use Rattle.hyd_stocks_below.proofs.moments.stock_of_file.Goals as goal

pub in_halves-requires : goal.in_halves-requires
in_halves-requires c =
    let project = c.args.project.now in
    let found = item_there project.tanks.list c.args.tank c.requires.tank in
    let e = ap (λ (s : Stocks). s.level.lo) (c.initial_stock-stock.ensures.value found.0 found.1) in
    let small = level_small project c.requires.sound c.args.tank found.0 found.1 in
    omega (arith, ints, e, small)

pub in_halves-requires-2 : goal.in_halves-requires-2
in_halves-requires-2 c =
    let project = c.args.project.now in
    let found = item_there project.tanks.list c.args.tank c.requires.tank in
    let e = ap (λ (s : Stocks). s.volume.lo) (c.initial_stock-stock.ensures.value found.0 found.1) in
    let small = initial_small project c.requires.sound c.args.tank found.0 found.1 in
    omega (arith, ints, e, small)

pub returns-clause-value : goal.returns-clause-value
returns-clause-value c = λ each at.
    let project = c.args.project.now in
    let stock = c.initial_stock-stock.result in
    let value = c.initial_stock-stock.ensures.value each at in
    let e = ap (λ (s : Stocks). s.level.lo) value in
    let f = ap (λ (s : Stocks). s.volume.lo) value in
    let small = level_small project c.requires.sound c.args.tank each at in
    let held = initial_small project c.requires.sound c.args.tank each at in
    let level : to_z w64 (of_z w64 stock.level.lo) ≡ each.initial = omega (arith, ints, e, small) in
    let volume : to_z w64 (of_z w64 stock.volume.lo) ≡ kept_volume (walls_of project each) each.initial =
    omega (arith, ints, f, held) in
    ap₂ (λ (x y : ℤ). (let s : Stock = record { level = x; volume = y } in s))
    (to_z-of_z w128 c.in_halves.result (record { sfits = c.in_halves.type_inv })
    ∙ (c.in_halves.ensures.value ∙ ap (λ (z : ℤ). pos 2 *ℤ z) level))
    (to_z-of_z w128 c.in_halves-2.result (record { sfits = c.in_halves-2.type_inv })
    ∙ (c.in_halves-2.ensures.value ∙ ap (λ (z : ℤ). pos 2 *ℤ z) volume))
