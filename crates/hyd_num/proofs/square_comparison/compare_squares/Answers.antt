use Rattle.std.proofs.Common.{◌≡◌, ℕ, ◌*◌, ap, ◌∙◌, mul_assoc}
use Rattle.hyd_num.proofs.square_comparison.compare_squares.Goals as goal

-- a product with a number twice is that with its square
twice : (w v u a q : ℕ) → w ≡ v * q → v ≡ u * q → u ≡ a → w ≡ a * (q * q)
twice w v u a q e f g = e ∙ ap (λ n. n * q) (f ∙ ap (λ n. n * q) g) ∙ mul_assoc a q q

pub returns : goal.returns
returns c =
    let l = twice _ _ _ c.args.a c.args.q c.times-2.ensures.value c.times.ensures.value c.in_parts.ensures.value in
    let r = twice _ _ _ c.args.b c.args.p c.times-4.ensures.value c.times-3.ensures.value c.in_parts-2.ensures.value in
    rw (← l, ← r) c.order.ensures
