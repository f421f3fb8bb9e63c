use Rattle.std.proofs.Common.{◌≡◌, ◌+◌, ◌*◌, ◌^◌, ◌≤◌, refl, arith}
use Rattle.std.proofs.lemmas.Int.{ints}
use Rattle.hyd_num.proofs.RoundingLemmas.{IsCut-lost, IsCut-sum_of, sum_places, near_above}
use Rattle.hyd_num.proofs.binary_arithmetic.sum_in_order.Goals as goal
use Rattle.hyd_num.proofs.binary_arithmetic.sum_in_order.Goals.{After-shortened}

pub returns-then-gap-gt64-clause-cut : goal.returns-then-gap-gt64-clause-cut
returns-then-gap-gt64-clause-cut c =
    IsCut-lost c.places_between-gap.result c.args.a c.args.b c.cut_at.result.down c.cut_at.result.exact
    c.if-gap-gt64.true
    c.cut_at.ensures.mantissa (omega (arith, ints)) c.cut_at.ensures.exactness (omega (arith, ints))

total_is : (c : After-shortened) → c.from.result * c.power_of_two.result + c.from-2.result ≡ c.args.a.mant
    * 2 ^ c.places_between-gap.result + c.args.b.mant
total_is c = rw (c.from.ensures, c.from-2.ensures, c.power_of_two.ensures) refl

pub returns-clause-cut : goal.returns-clause-cut
returns-clause-cut c =
    IsCut-sum_of c.places_between-gap.result c.shortened.ensures.cut.0 _ c.args.a c.args.b c.shortened.result.down
    c.shortened.result.exact
    c.shortened.ensures.cut.2 (total_is c) (omega (arith, ints)) (omega (arith, ints, c.shortened.ensures.cut.1))

pub returns-clause-near : goal.returns-clause-near
returns-clause-near c =
    let p : (c.places_between-gap.result ≤ c.shortened.ensures.cut.0)
    × (c.shortened.ensures.cut.0 ≤ c.places_between-gap.result + 1) =
    sum_places c.places_between-gap.result c.shortened.ensures.cut.0 _ c.args.a c.args.b c.shortened.result.down
    c.shortened.result.exact c.shortened.ensures.cut.2 (total_is c) in
    near_above c.args.a c.args.b c.shortened.result.down (omega (arith, ints, c.shortened.ensures.cut.1, p.0, p.1))
    (omega (arith, ints, c.shortened.ensures.cut.1, p.0, p.1))
