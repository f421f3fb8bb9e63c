-- The vectors of a record, one turn after another.
use Rattle.std.proofs.Common.{◌≡◌, ◌≢◌, ℕ, ◌+◌, ◌*◌, ◌<◌, ℤ, List, refl, sym, subst, ◌∙◌, arith, inl, inr}
use Rattle.std.proofs.lemmas.Bool.{cases_eq}
use Rattle.hyd_spec_certificates.specs.declared.Problem.{Problem}
use Rattle.hyd_spec_certificates.specs.declared.Problem.TheVariants.{Main, Pinned}
use Rattle.hyd_spec_certificates.specs.declared.Side.{Side}
use Rattle.hyd_spec_certificates.specs.declared.Side.TheVariants.{Upper, Lower}
use Rattle.hyd_spec_certificates.specs.RecordAndStanding.{Record, vector_of}
use Rattle.hyd_spec_certificates.specs.TurnsOfProblems.{turn}
use Rattle.hyd_cert.specs.RecordView.{IsProblemOf}
use Rattle.hyd_cert.specs.VectorsOfRecord.{place_in}
use Rattle.hyd_period_vectors.specs.SoughtVectors.{EachBefore, OfEach}

-- the place of a vector in a record is its turn
pub place-turn : (problem : Problem) (side : Side) → place_in problem side ≡ turn problem side
place-turn Main Upper = refl
place-turn Main Lower = refl
place-turn (Pinned tank) Upper = omega arith
place-turn (Pinned tank) Lower = omega arith

-- each problem and side has its own turn
pub own-turn : (P : Problem → Side → Type 0) (problem : Problem) (side : Side) (other : Problem) (face : Side)
    → turn other face ≡ turn problem side → P problem side → P other face
own-turn P Main Upper Main Upper e p = p
own-turn P Main Upper Main Lower e p = absurd (omega (arith, e))
own-turn P Main Upper (Pinned k) Upper e p = absurd (omega (arith, e))
own-turn P Main Upper (Pinned k) Lower e p = absurd (omega (arith, e))
own-turn P Main Lower Main Upper e p = absurd (omega (arith, e))
own-turn P Main Lower Main Lower e p = p
own-turn P Main Lower (Pinned k) Upper e p = absurd (omega (arith, e))
own-turn P Main Lower (Pinned k) Lower e p = absurd (omega (arith, e))
own-turn P (Pinned t) Upper Main Upper e p = absurd (omega (arith, e))
own-turn P (Pinned t) Upper Main Lower e p = absurd (omega (arith, e))
own-turn P (Pinned t) Upper (Pinned k) Upper e p =
    subst (λ (n : ℕ). P (Pinned n) Upper) (let r : t ≡ k = omega (arith, e) in r) p
own-turn P (Pinned t) Upper (Pinned k) Lower e p = absurd (omega (arith, e))
own-turn P (Pinned t) Lower Main Upper e p = absurd (omega (arith, e))
own-turn P (Pinned t) Lower Main Lower e p = absurd (omega (arith, e))
own-turn P (Pinned t) Lower (Pinned k) Upper e p = absurd (omega (arith, e))
own-turn P (Pinned t) Lower (Pinned k) Lower e p =
    subst (λ (n : ℕ). P (Pinned n) Lower) (let r : t ≡ k = omega (arith, e) in r) p

-- one vector more
pub before-more : (P : Problem → Side → List ℤ → Type 0) (tanks : ℕ) (problem : Problem) (side : Side)
    (old new : Record) (heads : List ℤ) → EachBefore P tanks (turn problem side) old
    → vector_of new problem side ≡ heads → P problem side heads
    → ((other : Problem) (face : Side) → IsProblemOf tanks other → place_in other face ≢ place_in problem side
    → vector_of new other face ≡ vector_of old other face)
    → EachBefore P tanks (turn problem side + 1) new
before-more P tanks problem side old new heads before is holds others = λ other face there less.
    elim (cases_eq (turn other face) (turn problem side)) [
      | inl e ↦ own-turn (λ q t. P q t (vector_of new q t)) problem side other face e
          (subst (λ (u : List ℤ). P problem side u) (sym is) holds)
      | inr ne ↦ (let apart : place_in other face ≢ place_in problem side =
          (λ same. ne (sym (place-turn other face) ∙ same ∙ place-turn problem side)) in
          let earlier : turn other face < turn problem side = omega (arith, less, ne) in
          subst (λ (u : List ℤ). P other face u) (sym (others other face there apart))
          (before other face there earlier))
    ]

-- none comes before the first turn
pub before-none : (P : Problem → Side → List ℤ → Type 0) (tanks : ℕ) (row : Record) → EachBefore P tanks 0 row
before-none P tanks row = λ problem side there less. absurd (omega (arith, less))

-- all come before the turn behind the last
pub all-before : (P : Problem → Side → List ℤ → Type 0) (tanks : ℕ) (row : Record)
    → EachBefore P tanks (2 * tanks + 2) row → OfEach P tanks row
all-before P tanks row before Main Upper there = before Main Upper there (omega arith)
all-before P tanks row before Main Lower there = before Main Lower there (omega arith)
all-before P tanks row before (Pinned k) Upper there = before (Pinned k) Upper there (omega (arith, there))
all-before P tanks row before (Pinned k) Lower there = before (Pinned k) Lower there (omega (arith, there))
