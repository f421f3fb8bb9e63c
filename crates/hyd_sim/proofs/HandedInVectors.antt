-- The vectors of a record that was handed in, one turn after another.
use Rattle.std.proofs.Common.{◌≡◌, ℕ, ◌+◌, ◌*◌, ◌<◌, ℤ, List, length, drop, sym, ap, subst, ◌∙◌, arith, inl, inr}
use Rattle.std.proofs.lemmas.Bool.{cases_eq}
use Rattle.std.proofs.lemmas.List.{length-take-le, length-drop}
use Rattle.hyd_spec_certificates.specs.declared.Problem.{Problem}
use Rattle.hyd_spec_certificates.specs.declared.Problem.TheVariants.{Main, Pinned}
use Rattle.hyd_spec_certificates.specs.declared.Side.{Side}
use Rattle.hyd_spec_certificates.specs.RecordAndStanding.{Record, vector_of}
use Rattle.hyd_spec_certificates.specs.TurnsOfProblems.{turn}
use Rattle.hyd_cert.specs.RecordView.{row_of, IsProblemOf}
use Rattle.hyd_cert.specs.VectorsOfRecord.{place_in}
use Rattle.hyd_cert.specs.declared.record.Record.{Record as Row}
use Rattle.hyd_cert.proofs.VectorLemmas.{vector_at, vector_within}
use Rattle.hyd_period_network.specs.NetView.{NetView}
use Rattle.hyd_period_network.specs.SoundNets.{HasProblem}
use Rattle.hyd_period_vectors.specs.SoughtVectors.{EachBefore}
use Rattle.hyd_period_vectors.proofs.VectorsInTurn.{own-turn}

-- a problem of a net is one of its tanks
pub problem-there : (net : NetView) (tanks : ℕ) (problem : Problem) → tanks ≡ length net.tanks → HasProblem net problem
    → IsProblemOf tanks problem
problem-there net tanks Main each is = tt
problem-there net tanks (Pinned tank) each is = subst (λ (n : ℕ). tank < n) (sym each) is

-- a vector of a record has a head for each junction
pub vector-long : (row : Row) (problem : Problem) (side : Side) → IsProblemOf row.tanks problem
    → length (vector_of (row_of row) problem side) ≡ row.junctions
vector-long row problem side there =
    let n = row.junctions in
    let heads = row.vectors.list in
    let from = place_in problem side * n in
    let within = vector_within n row.tanks heads problem side row.whole there in
    let left = length-drop from heads in
    ap length (sym (vector_at n row.tanks row.number row.time row.length heads problem side there))
    ∙ length-take-le n (drop from heads) (omega (arith, within, left))

-- one vector more
pub one-more-before : (P : Problem → Side → List ℤ → Type 0) (tanks : ℕ) (problem : Problem) (side : Side)
    (row : Record) → EachBefore P tanks (turn problem side) row → P problem side (vector_of row problem side)
    → EachBefore P tanks (turn problem side + 1) row
one-more-before P tanks problem side row before here = λ other face there less.
    elim (cases_eq (turn other face) (turn problem side)) [
      | inl e ↦ own-turn (λ q t. P q t (vector_of row q t)) problem side other face e here
      | inr ne ↦ before other face there (omega (arith, less, ne))
    ]
