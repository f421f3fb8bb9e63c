-- The turns of vectors, one after another, and that a search that goes on keeps what came before.
use Rattle.std.proofs.Common.{◌≡◌, ℕ, ◌+◌, ℤ, Bool, List, refl, subst, arith}
use Rattle.std.specs.Prelude.{Option}
use Rattle.hyd_spec_certificates.specs.declared.Problem.{Problem}
use Rattle.hyd_spec_certificates.specs.declared.Problem.TheVariants.{Main, Pinned}
use Rattle.hyd_spec_certificates.specs.declared.Side.TheVariants.{Upper, Lower}
use Rattle.hyd_spec_certificates.specs.PeriodNetwork.{Grid}
use Rattle.hyd_spec_certificates.specs.RecordAndStanding.{Record}
use Rattle.hyd_spec_certificates.specs.TurnsOfProblems.{turn}
use Rattle.hyd_period_vectors.specs.SizeOfSearch.{Room}
use Rattle.hyd_period_vectors.specs.SoughtVectors.{Comes, EachBefore}

-- both sides of a problem come one after the other
pub next-turn : (problem : Problem) → turn problem Lower + 1 ≡ turn problem Upper + 2
next-turn Main = refl
next-turn (Pinned tank) = omega arith

-- the same finder's vectors and the same search
pub before-same : (tight : Bool) (one other : Option (List ℤ)) (grid : Grid) (tanks : ℕ) (a b : Room) (m n : ℕ)
    (row : Record) → one ≡ other → a ≡ b → m ≡ n → EachBefore (Comes tight one grid tanks a.rounds) tanks m row
    → EachBefore (Comes tight other grid tanks b.rounds) tanks n row
before-same tight one other grid tanks a b m n row e f g is =
    subst (λ (k : ℕ). EachBefore (Comes tight other grid tanks b.rounds) tanks k row) g
    (subst (λ (r : Room). EachBefore (Comes tight other grid tanks r.rounds) tanks m row) f
    (subst (λ (t : Option (List ℤ)). EachBefore (Comes tight t grid tanks a.rounds) tanks m row) e is))
