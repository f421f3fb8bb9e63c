-- A stock that may follow, along equal numbers.
use Rattle.std.proofs.Common.{◌≡◌, ℕ, ℤ, subst}
use Rattle.hyd_spec.specs.ProgramTypes.{Tank}
use Rattle.hyd_spec.specs.Tank.{Stock, Walls, IsNextStock}

pub next_along : (S : ℕ) (walls : Walls) (tank : Tank) (a b : Stock) (q r : ℤ) (s t : ℕ) (m n : Stock) → a ≡ b → q ≡ r
    → s ≡ t → m ≡ n → IsNextStock S walls tank a q s m → IsNextStock S walls tank b r t n
next_along S walls tank a b q r s t m n stock inflow seconds next is =
    subst (λ (x : Stock). IsNextStock S walls tank b r t x) next
    (subst (λ (x : ℕ). IsNextStock S walls tank b r x m) seconds
    (subst (λ (x : ℤ). IsNextStock S walls tank b x s m) inflow
    (subst (λ (x : Stock). IsNextStock S walls tank x q s m) stock is)))
