use Rattle.std.proofs.Common.{◌≡◌, ℤ, ◌-ℤ◌, arith, to_z, of_z}
use Rattle.std.specs.Int.{w128}
use Rattle.std.proofs.lemmas.Int.{ints}
use Rattle.hyd_open_stocks.proofs.LevelsOnCurve.{line_floor, product_small, floor_small}
use Rattle.hyd_open_stocks.proofs.NumbersOfCode.{share_in, sum_is}
use Rattle.hyd_known_stocks.proofs.volumes.on_line.Goals as goal

pub mul_div_floor-requires-clause-small : goal.mul_div_floor-requires-clause-small
mul_div_floor-requires-clause-small c =
    let p = c.args.first in
    let q = c.args.second in
    let near = c.requires.neighbours in
    let rise : ℤ = to_z w128 (of_z w128 c.difference-rise.result) in
    let beyond : ℤ = to_z w128 (of_z w128 c.difference-beyond.result) in
    let width : ℤ = to_z w128 (of_z w128 c.difference-width.result) in
    let a : rise ≡ q.volume -ℤ p.volume = omega (arith, ints, c.difference-rise.ensures) in
    let b : beyond ≡ c.args.level -ℤ p.level = omega (arith, ints, c.difference-beyond.ensures) in
    let d : width ≡ q.level -ℤ p.level = omega (arith, ints, c.difference-width.ensures) in
    product_small p q c.args.level rise beyond width near a b d c.requires.from_first c.requires.to_second

pub mul_div_floor-requires-clause-positive : goal.mul_div_floor-requires-clause-positive
mul_div_floor-requires-clause-positive c = omega (arith, ints, c.difference-width.ensures)

pub sum-requires-clause-volume : goal.sum-requires-clause-volume
sum-requires-clause-volume c = record { at_least = omega (arith, ints); at_most = omega (arith, ints) }

pub sum-requires-clause-share : goal.sum-requires-clause-share
sum-requires-clause-share c =
    let p = c.args.first in
    let q = c.args.second in
    let near = c.requires.neighbours in
    let rise : ℤ = to_z w128 (of_z w128 c.difference-rise.result) in
    let beyond : ℤ = to_z w128 (of_z w128 c.difference-beyond.result) in
    let width : ℤ = to_z w128 (of_z w128 c.difference-width.result) in
    let a : rise ≡ q.volume -ℤ p.volume = omega (arith, ints, c.difference-rise.ensures) in
    let b : beyond ≡ c.args.level -ℤ p.level = omega (arith, ints, c.difference-beyond.ensures) in
    let d : width ≡ q.level -ℤ p.level = omega (arith, ints, c.difference-width.ensures) in
    let s = floor_small p q c.args.level rise beyond width near a b d c.mul_div_floor.result c.requires.from_first
    c.requires.to_second c.mul_div_floor.ensures in
    share_in c.mul_div_floor.result rise p.volume q.volume s.0 s.1 a near.some near.most

pub returns : goal.returns
returns c =
    let p = c.args.first in
    let q = c.args.second in
    let near = c.requires.neighbours in
    let rise : ℤ = to_z w128 (of_z w128 c.difference-rise.result) in
    let beyond : ℤ = to_z w128 (of_z w128 c.difference-beyond.result) in
    let width : ℤ = to_z w128 (of_z w128 c.difference-width.result) in
    let a : rise ≡ q.volume -ℤ p.volume = omega (arith, ints, c.difference-rise.ensures) in
    let b : beyond ≡ c.args.level -ℤ p.level = omega (arith, ints, c.difference-beyond.ensures) in
    let d : width ≡ q.level -ℤ p.level = omega (arith, ints, c.difference-width.ensures) in
    let s = floor_small p q c.args.level rise beyond width near a b d c.mul_div_floor.result c.requires.from_first
    c.requires.to_second c.mul_div_floor.ensures in
    let is = line_floor p q c.args.level rise beyond width near a b d c.mul_div_floor.result c.mul_div_floor.ensures in
    sum_is c.sum.result p.volume c.mul_div_floor.result rise q.volume _ s.0 s.1 a near.some near.most c.sum.ensures is
