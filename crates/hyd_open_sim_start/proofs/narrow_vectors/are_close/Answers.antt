use Rattle.std.proofs.Common.{arith}
use Rattle.std.proofs.lemmas.Int.{ints}
use Rattle.hyd_open_sim_start.proofs.narrow_vectors.are_close.Goals as goal

pub returns-clause-close : goal.returns-clause-close
returns-clause-close c = λ e k x at.
    let close = c.are_within.ensures.close e k x at in
    let wide = c.widest.ensures.widest in
    let from = c.from.ensures in
    omega (arith, ints, close, wide, from)

pub returns-clause-wide : goal.returns-clause-wide
returns-clause-wide c = λ e is. c.are_within.ensures.wide e (λ k x at.
    let close = is k x at in
    let wide = c.widest.ensures.widest in
    let from = c.from.ensures in
    omega (arith, ints, close, wide, from))
