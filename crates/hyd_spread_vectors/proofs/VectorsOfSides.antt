-- Vectors that are written into a record, each from the record of its side's network.
use Rattle.std.proofs.Common.{◌≡◌, ◌≢◌, ◌≤◌, ℕ, ◌+◌, ◌*◌, ℤ, List, length, drop, refl, sym, ap, subst, ◌∙◌, arith}
use Rattle.std.proofs.lemmas.List.{length-take-le, length-drop}
use Rattle.hyd_spec_certificates.specs.declared.Problem.{Problem}
use Rattle.hyd_spec_certificates.specs.declared.Problem.TheVariants.{Main, Pinned}
use Rattle.hyd_spec_certificates.specs.declared.Side.{Side}
use Rattle.hyd_spec_certificates.specs.declared.Side.TheVariants.{Upper, Lower}
use Rattle.hyd_spec_certificates.specs.RecordAndStanding.{Record, vector_of}
use Rattle.hyd_spec_certificates.specs.TurnsOfProblems.{turn}
use Rattle.hyd_cert.specs.Lines.{Header}
use Rattle.hyd_cert.specs.RecordView.{row_of, IsProblemOf}
use Rattle.hyd_cert.specs.VectorsOfRecord.{place_in}
use Rattle.hyd_cert.specs.declared.record.Record.{Record as Row}
use Rattle.hyd_cert.proofs.VectorLemmas.{vector_at, vector_within}
use Rattle.hyd_period_vectors.specs.SoughtVectors.{EachBefore, OfEach, Stays}
use Rattle.hyd_period_vectors.proofs.SearchGoesOn.{next-turn}
use Rattle.hyd_period_vectors.proofs.VectorsInTurn.{before-more, all-before}
use Rattle.hyd_spread_vectors.specs.VectorsOfBothNetworks.{Held, held_on, IsHeldIn, HaveSameCounts}

-- a vector of a record has a head for each junction
pub vector-long : (row : Row) (problem : Problem) (side : Side) → IsProblemOf row.tanks problem
    → length (vector_of (row_of row) problem side) ≡ row.junctions
vector-long row problem side there =
    let n = row.junctions in
    let heads = row.vectors.list in
    let from = place_in problem side * n in
    let within = vector_within n row.tanks heads problem side row.whole there in
    let left = length-drop from heads in
    ap length (sym (vector_at n row.tanks row.number row.time row.length heads problem side there))
    ∙ length-take-le n (drop from heads) (omega (arith, within, left))

-- so it has in another for the same counts
pub fits-in : (from row : Row) → HaveSameCounts from row → (problem : Problem) (side : Side) (u : List ℤ)
    → u ≡ vector_of (row_of from) problem side → IsProblemOf row.tanks problem → length u ≡ row.junctions
fits-in from row counts problem side u is there =
    ap length is ∙ (vector-long from problem side (subst (λ (n : ℕ). IsProblemOf n problem) (sym counts.tanks) there)
    ∙ counts.junctions)

-- what holds of the vectors of each network holds of those that are held of it
pub over-both : (P : Side → Problem → Side → List ℤ → Type 0) (held : Held) (tanks : ℕ) (row : Record)
    → OfEach (IsHeldIn held) tanks row → ((network : Side) → OfEach (P network) tanks (held_on network held))
    → OfEach (λ problem side u. P side problem side u) tanks row
over-both P held tanks row same all = λ problem side there.
    subst (P side problem side) (sym (same problem side there)) (all side problem side there)

-- what holds of either side
pub on-both : (P : Side → Type 0) → P Upper → P Lower → (side : Side) → P side
on-both P above below Upper = above
on-both P above below Lower = below

-- ---- turn by turn

-- the LOWER vector of a problem follows its UPPER one
pub lower-next : (problem : Problem) → turn problem Upper + 1 ≡ turn problem Lower
lower-next Main = refl
lower-next (Pinned tank) = omega arith

-- both vectors of a problem more
pub both-more : (P : Problem → Side → List ℤ → Type 0) (problem : Problem) (old between new : Row) (u v : List ℤ)
    → EachBefore P old.tanks (turn problem Upper) (row_of old)
    → vector_of (row_of between) problem Upper ≡ u → P problem Upper u
    → ((other : Problem) (face : Side) → IsProblemOf old.tanks other → place_in other face ≢ place_in problem Upper
    → vector_of (row_of between) other face ≡ vector_of (row_of old) other face)
    → between.tanks ≡ old.tanks → vector_of (row_of new) problem Lower ≡ v → P problem Lower v
    → ((other : Problem) (face : Side) → IsProblemOf between.tanks other
    → place_in other face ≢ place_in problem Lower
    → vector_of (row_of new) other face ≡ vector_of (row_of between) other face)
    → EachBefore P old.tanks (turn problem Upper + 2) (row_of new)
both-more P problem old between new u v before upper holds others counts lower holds_too others_too =
    let first : EachBefore P old.tanks (turn problem Upper + 1) (row_of between) =
    before-more P old.tanks problem Upper (row_of old) (row_of between) u before upper holds others in
    let next : EachBefore P old.tanks (turn problem Lower) (row_of between) =
    subst (λ (n : ℕ). EachBefore P old.tanks n (row_of between)) (lower-next problem) first in
    subst (λ (n : ℕ). EachBefore P old.tanks n (row_of new)) (next-turn problem)
    (before-more P old.tanks problem Lower (row_of between) (row_of new) v next lower holds_too
    (λ other face there apart. others_too other face (subst (λ (n : ℕ). IsProblemOf n other) (sym counts) there) apart))

-- the next tank
pub next-tank : (P : Problem → Side → List ℤ → Type 0) (here tanks tank : ℕ) (row : Record) → here ≡ tanks
    → EachBefore P here ((2 * tank + 2) + 2) row → EachBefore P tanks (2 * (tank + 1) + 2) row
next-tank P here tanks tank row e before =
    let turns : (2 * tank + 2) + 2 ≡ 2 * (tank + 1) + 2 = omega arith in
    subst (λ (n : ℕ). EachBefore P n (2 * (tank + 1) + 2) row) e
    (subst (λ (n : ℕ). EachBefore P here n row) turns before)

-- what stays from one to another and on to a third
pub stays-on : (a b c : Row) → Stays b c → Stays a b → Stays a c
stays-on a b c later earlier = record {
  header = later.header ∙ earlier.header;
  number = later.number ∙ earlier.number;
  time = later.time ∙ earlier.time;
  length_is = later.length_is ∙ earlier.length_is;
}

-- the same counts as before
pub counts-stay : (from a b : Row) → Stays a b → HaveSameCounts from a → HaveSameCounts from b
counts-stay from a b stays counts = record {
  junctions = counts.junctions ∙ sym (ap (λ (h : Header). h.junctions) stays.header);
  tanks = counts.tanks ∙ sym (ap (λ (h : Header). h.tanks) stays.header);
}

-- all are written behind the last tank
pub all-written : (P : Problem → Side → List ℤ → Type 0) (tanks tank : ℕ) (row : Record) → tanks ≤ tank
    → EachBefore P tanks (2 * tank + 2) row → OfEach P tanks row
all-written P tanks tank row last before =
    all-before P tanks row (λ problem side there less. before problem side there (omega (arith, less, last)))
