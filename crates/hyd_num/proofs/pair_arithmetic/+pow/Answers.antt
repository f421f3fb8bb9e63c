use Rattle.std.proofs.Common.{◌+◌, ◌*◌, ◌/◌, ◌^◌, ◌≤◌, refl, inl, inr, arith}
use Rattle.std.proofs.Math.Nat.{mul-le-mul_right}
use Rattle.hyd_num.specs.Pairs.{once, even, odd, pair_reach}
use Rattle.hyd_num.proofs.EndsInOrder.{twice_half, twice_half_more}
use Rattle.hyd_num.proofs.pair_arithmetic.+pow.Goals as goal

pub returns-then-n-eq1-clause-power : goal.returns-then-n-eq1-clause-power
returns-then-n-eq1-clause-power t c = rw c.if-n-eq1.true once

pub pow-half-requires : goal.pow-half-requires
pow-half-requires t c = (
  search arith,
  (
    search arith,
    elim c.requires.near [
      | inl far ↦ inl (let l : (c.args.n / 2) * pair_reach c.args.x ≤ c.args.n * pair_reach c.args.x =
          mul-le-mul_right (pair_reach c.args.x) (omega arith) in omega (arith, l, far))
      | inr stays ↦ inr (λ k r le is. stays k r (omega (arith, le)) is)
    ],
  ),
)

pub mul-square-requires : goal.mul-square-requires
mul-square-requires t c = elim c.requires.near [
  | inl far ↦
      let l : pair_reach c.pow-half.result + pair_reach c.pow-half.result ≤ c.args.n * pair_reach c.args.x =
      twice_half c.args.n (pair_reach c.args.x) (pair_reach c.pow-half.result) c.pow-half.ensures.near in
      omega (arith, l, far)
  | inr stays ↦
      let l : pair_reach c.pow-half.result ≤ 2 ^ 22 = stays (c.args.n / 2) c.pow-half.result (omega arith)
      c.pow-half.ensures.power in
      omega (arith, l)
]

pub returns-then-n-eq0-clause-power : goal.returns-then-n-eq0-clause-power
returns-then-n-eq0-clause-power t c = even (c.args.n / 2) c.args.n c.pow-half.result c.mul-square.result (omega arith)
    c.pow-half.ensures.power c.mul-square.ensures.product

pub returns-then-n-eq0-clause-near : goal.returns-then-n-eq0-clause-near
returns-then-n-eq0-clause-near t c =
    let l : pair_reach c.pow-half.result + pair_reach c.pow-half.result ≤ c.args.n * pair_reach c.args.x = twice_half
    c.args.n (pair_reach c.args.x) (pair_reach c.pow-half.result) c.pow-half.ensures.near in
    omega (arith, l)

pub mul-requires : goal.mul-requires
mul-requires t c = elim c.requires.near [
  | inl far ↦
      let l : pair_reach c.pow-half.result + pair_reach c.pow-half.result + pair_reach c.args.x ≤ c.args.n
      * pair_reach c.args.x =
      twice_half_more c.args.n (pair_reach c.args.x) (pair_reach c.pow-half.result) c.if-n-eq0.false
      c.pow-half.ensures.near in
      omega (arith, l, far)
  | inr stays ↦
      let square : pair_reach c.mul-square.result ≤ 2 ^ 22 = stays (2 * (c.args.n / 2)) c.mul-square.result
      (omega arith)
      (even (c.args.n / 2) (2 * (c.args.n / 2)) c.pow-half.result c.mul-square.result refl c.pow-half.ensures.power
      c.mul-square.ensures.product) in
      let base : pair_reach c.args.x ≤ 2 ^ 22 = stays 1 c.args.x (omega arith) once in
      omega (arith, square, base)
]

pub returns-clause-power : goal.returns-clause-power
returns-clause-power t c = odd (c.args.n / 2) c.args.n c.pow-half.result c.mul-square.result c.mul.result
    (omega arith) c.pow-half.ensures.power c.mul-square.ensures.product c.mul.ensures.product

pub returns-clause-near : goal.returns-clause-near
returns-clause-near t c =
    let l : pair_reach c.pow-half.result + pair_reach c.pow-half.result + pair_reach c.args.x ≤ c.args.n
    * pair_reach c.args.x =
    twice_half_more c.args.n (pair_reach c.args.x) (pair_reach c.pow-half.result) c.if-n-eq0.false
    c.pow-half.ensures.near in
    omega (arith, l)
