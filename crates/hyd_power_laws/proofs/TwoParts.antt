-- A product by two parts.
use Rattle.std.proofs.Common.{◌≡◌, ℕ, ◌+◌, ◌*◌, ◌/◌, ◌%◌, ap, arith, div-add-mod'}

pub two_parts : (m n b : ℕ) → (m * (n / b) + m * (n % b) / b) * b + m * (n % b) % b ≡ m * n
two_parts m n b =
    let e : n / b * b + n % b ≡ n = div-add-mod' n b in
    let f : m * (n % b) / b * b + m * (n % b) % b ≡ m * (n % b) = div-add-mod' (m * (n % b)) b in
    let g : m * (n / b * b + n % b) ≡ m * n = ap (λ x. m * x) e in
    omega (arith, f, g)
