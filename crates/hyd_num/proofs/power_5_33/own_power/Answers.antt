use Rattle.std.proofs.Common.{arith, ◌≡◌, ap, inl}
use Rattle.hyd_num.specs.BinaryNumbers.{reach}
use Rattle.hyd_num.proofs.power_5_33.own_power.Goals as goal

pub pow-requires-clause-near : goal.pow-requires-clause-near
pow-requires-clause-near c =
    let a : reach c.own.result.lo ≡ reach c.args.s = ap (λ x. reach x) c.own.ensures.low in
    let b : reach c.own.result.hi ≡ reach c.args.s = ap (λ x. reach x) c.own.ensures.high in
    inl (omega (arith, a, b))
