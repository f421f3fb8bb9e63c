use Rattle.std.proofs.Common.{◌≡◌, pos, ◌+ℤ◌, ◌-ℤ◌, ◌*ℤ◌, arith, to_z, of_z}
use Rattle.std.specs.Int.{w128}
use Rattle.std.proofs.lemmas.Int.{ints, to_z-of_z}
use Rattle.hyd_net.specs.NumberRanges.{Lies}
use Rattle.hyd_spec.specs.Scale.{at_scale, missed_stock_ticks}
use Rattle.hyd_laws_at_scale.specs.Scales.{parts_of}
use Rattle.hyd_stocks_at_scale.specs.Contents.{IsNearBy}
use Rattle.hyd_stocks_at_scale.proofs.Tests.{also_true, also_false}
use Rattle.hyd_stocks_at_scale.proofs.NextContents.{at_least_from, at_most_from, at_least_back, at_most_back}
use Rattle.hyd_stocks_at_scale.proofs.contents.is_near.Goals as goal

pub in_shares-most-requires-clause-content : goal.in_shares-most-requires-clause-content
in_shares-most-requires-clause-content c =
    let m = c.missed-missed.ensures.small in
    omega (arith, ints, c.requires.next, m.at_least, m.at_most)

pub returns-clause-yes : goal.returns-clause-yes
returns-clause-yes c = λ exact lies.
    let m = c.missed-missed.ensures.small in
    let gap = at_scale (parts_of c.args.scale) (pos missed_stock_ticks) in
    let b = to_z-of_z w128 c.args.breadth c.ranges.breadth in
    let s = to_z-of_z w128 c.args.shares c.ranges.shares in
    let l = to_z-of_z w128 c.in_shares-least.result (record { sfits = c.in_shares-least.type_inv }) in
    let r = to_z-of_z w128 c.in_shares-most.result (record { sfits = c.in_shares-most.type_inv }) in
    let down : to_z w128 (of_z w128 (to_z w128 (of_z w128 c.args.next) -ℤ to_z w128 (of_z w128 c.missed-missed.result)))
    ≡ c.args.next -ℤ at_scale (parts_of c.args.scale) (pos missed_stock_ticks) =
    omega (arith, ints, c.requires.next, m.at_least, m.at_most, c.missed-missed.ensures.value) in
    let up : to_z w128 (of_z w128 (to_z w128 (of_z w128 c.args.next) +ℤ to_z w128 (of_z w128 c.missed-missed.result)))
    ≡ c.args.next +ℤ at_scale (parts_of c.args.scale) (pos missed_stock_ticks) =
    omega (arith, ints, c.requires.next, m.at_least, m.at_most, c.missed-missed.ensures.value) in
    let least = rw (b, down) at c.in_shares-least.ensures.value in
    let most = rw (b, up) at c.in_shares-most.ensures.value in
    also_true c.is_within.result
    (Lies (to_z w128 (of_z w128 c.in_shares-least.result)) (to_z w128 (of_z w128 c.in_shares-most.result))
    (to_z w128 (of_z w128 c.args.shares))) (IsNearBy (parts_of c.args.scale) c.args.breadth c.args.next exact)
    c.is_within.ensures.yes
    (λ h. record {
      below = at_least_from exact c.args.shares c.in_shares-least.result
          (c.args.breadth *ℤ (c.args.next -ℤ gap)) (to_z w128 (of_z w128 c.in_shares-least.result))
          (to_z w128 (of_z w128 c.args.shares)) lies l s least c.in_shares-least.ensures.small h.at_least;
      above = at_most_from exact c.args.shares c.in_shares-most.result
          (c.args.breadth *ℤ (c.args.next +ℤ gap)) (to_z w128 (of_z w128 c.in_shares-most.result))
          (to_z w128 (of_z w128 c.args.shares)) lies r s most c.in_shares-most.ensures.small h.at_most;
    })

pub returns-clause-no : goal.returns-clause-no
returns-clause-no c = λ exact lies.
    let m = c.missed-missed.ensures.small in
    let gap = at_scale (parts_of c.args.scale) (pos missed_stock_ticks) in
    let b = to_z-of_z w128 c.args.breadth c.ranges.breadth in
    let s = to_z-of_z w128 c.args.shares c.ranges.shares in
    let l = to_z-of_z w128 c.in_shares-least.result (record { sfits = c.in_shares-least.type_inv }) in
    let r = to_z-of_z w128 c.in_shares-most.result (record { sfits = c.in_shares-most.type_inv }) in
    let down : to_z w128 (of_z w128 (to_z w128 (of_z w128 c.args.next) -ℤ to_z w128 (of_z w128 c.missed-missed.result)))
    ≡ c.args.next -ℤ at_scale (parts_of c.args.scale) (pos missed_stock_ticks) =
    omega (arith, ints, c.requires.next, m.at_least, m.at_most, c.missed-missed.ensures.value) in
    let up : to_z w128 (of_z w128 (to_z w128 (of_z w128 c.args.next) +ℤ to_z w128 (of_z w128 c.missed-missed.result)))
    ≡ c.args.next +ℤ at_scale (parts_of c.args.scale) (pos missed_stock_ticks) =
    omega (arith, ints, c.requires.next, m.at_least, m.at_most, c.missed-missed.ensures.value) in
    let least = rw (b, down) at c.in_shares-least.ensures.value in
    let most = rw (b, up) at c.in_shares-most.ensures.value in
    also_false c.is_within.result
    (Lies (to_z w128 (of_z w128 c.in_shares-least.result)) (to_z w128 (of_z w128 c.in_shares-most.result))
    (to_z w128 (of_z w128 c.args.shares))) (IsNearBy (parts_of c.args.scale) c.args.breadth c.args.next exact)
    c.is_within.ensures.no
    (λ near. record {
      at_least = at_least_back exact c.args.shares c.in_shares-least.result
          (c.args.breadth *ℤ (c.args.next -ℤ gap)) (to_z w128 (of_z w128 c.in_shares-least.result))
          (to_z w128 (of_z w128 c.args.shares)) lies l s least c.in_shares-least.ensures.small near.below;
      at_most = at_most_back exact c.args.shares c.in_shares-most.result
          (c.args.breadth *ℤ (c.args.next +ℤ gap)) (to_z w128 (of_z w128 c.in_shares-most.result))
          (to_z w128 (of_z w128 c.args.shares)) lies r s most c.in_shares-most.ensures.small near.above;
    })
