-- At a standing of a run the vectors of a record can all be tight, or a cause of a stop holds that names a demand or a
-- missing certificate.
use Rattle.std.proofs.Common.{◌≡◌, ℕ, zero, suc, ◌+◌, ◌<◌, ℤ, refl, subst, arith, List, [], ◌∷◌, length}
use Rattle.std.proofs.Common.{◌⊎◌, inl, inr, false}
use Rattle.std.specs.Prelude.{None, slice_index_or}
use Rattle.hyd_net.specs.Sound.{IsSound}
use Rattle.hyd_spec.specs.ProgramTypes.{Project}
use Rattle.hyd_spec.specs.NodeNumbers.{tank_count}
use Rattle.hyd_spec_certificates.specs.declared.Problem.{Problem}
use Rattle.hyd_spec_certificates.specs.declared.Problem.TheVariants.{Main, Pinned}
use Rattle.hyd_spec_certificates.specs.declared.Side.{Side}
use Rattle.hyd_spec_certificates.specs.declared.Side.TheVariants.{Upper, Lower}
use Rattle.hyd_spec_certificates.specs.PeriodNetwork.{Grid}
use Rattle.hyd_spec_certificates.specs.Certificate.{IsTight}
use Rattle.hyd_spec_certificates.specs.RecordAndStanding.{Record, Standing, Vectors, no_vectors, vector_of}
use Rattle.hyd_spec_certificates.specs.Valid.{IsProblem, IsGridAt, DemandsAreInRange, AreCertificates}
use Rattle.hyd_spec_certificates.specs.TurnsOfProblems.{beginning}
use Rattle.hyd_spec_certificates.specs.declared.StopCause.{StopCause}
use Rattle.hyd_spec_certificates.specs.declared.StopCause.TheVariants.{Demand as DemandOutOfRange, NoCertificate}
use Rattle.hyd_spec_certificates.specs.declared.StopCause.TheVariants.{RoundsSpent, RuleOpen, EventOpen, TankOpen}
use Rattle.hyd_spec_certificates.specs.declared.StopCause.TheVariants.{ControlOpen}
use Rattle.hyd_spec_certificates.specs.Stops.{IsTightRow, Stops}
use Rattle.hyd_spec_open_ends.specs.OpenStandings.{OpenStanding}
use Rattle.hyd_theorems_on_raises.proofs.SearchStarts.{start-end}
use Rattle.hyd_theorems_on_raises.proofs.RaisesAndTightVector.{tight-or-none}
use Rattle.hyd_theorems_on_histories.specs.Agreement.{IsKept}
use Rattle.hyd_theorems_on_nesting.specs.GoingOnOrStopped.{IsReason}
use Rattle.hyd_theorems_on_nesting.proofs.TightVectorsDecide.{steady_at}
use Rattle.hyd_theorems_on_nesting.proofs.RecordOrStop.{goes_on}
use Rattle.hyd_theorems_on_open_stops.specs.OnwardOpenly.{IsStoppedOpenly}

-- a list of what there is for each number below n, from a number on
record IsBuilt (P : ℕ → Vectors → Type 0) (from n : ℕ) : Type 0 where
  list : List Vectors
  one_each : length list ≡ n
  each : (j : ℕ) → j < n → P (from + j) (slice_index_or list j no_vectors)

build : (P : ℕ → Vectors → Type 0) (from n : ℕ) → ((j : ℕ) → j < n → (v : Vectors) × P (from + j) v) → IsBuilt P from n
build P from zero each = record { list = []; one_each = refl; each = λ j lt. absurd (omega (arith, lt)) }
build P from (suc n) each =
    let e : from + 0 ≡ from = omega arith in
    let first : (v : Vectors) × P from v = subst (λ m. (v : Vectors) × P m v) e (each 0 (omega arith)) in
    let rest = build P (suc from) n (λ j lt. let m : from + suc j ≡ suc from + j = omega arith in
    subst (λ p. (v : Vectors) × P p v) m (each (suc j) (omega (arith, lt)))) in
    record {
      list = first.0 ∷ rest.list;
      one_each = (let o = rest.one_each in omega (arith, o));
      each = at first rest;
    }
  where
    at : (first : (v : Vectors) × P from v) (rest : IsBuilt P (suc from) n) (j : ℕ) → j < suc n
        → P (from + j) (slice_index_or (first.0 ∷ rest.list) j no_vectors)
    at first rest zero lt = let e : from ≡ from + 0 = omega arith in subst (λ m. P m first.0) e first.1
    at first rest (suc j) lt =
        let m : suc from + j ≡ from + suc j = omega arith in
        subst (λ p. P p (slice_index_or rest.list j no_vectors)) m (rest.each j (omega (arith, lt)))

-- Tight vectors at a standing, on its grid.
pub record HasTightRow (project : Project) (standing : Standing) : Type 0 where
  pub grid : Grid
  pub row : Record
  pub tight : IsTightRow project standing grid row

module _ (project : Project) (sound : IsSound project) (standing : OpenStanding)
    (kept : IsKept project standing.known) where
  -- where a record has certificates, some vectors are tight
  module _ (range : DemandsAreInRange project standing.known.time) (grid : Grid)
      (is_grid : IsGridAt project standing.known grid) (row : Record)
      (certificates : AreCertificates project grid row) where
    tight-of : (problem : Problem) (side : Side) → IsProblem project problem
        → (u : List ℤ) × IsTight grid problem side u
    tight-of problem side is =
        elim (tight-or-none None grid (steady_at project sound standing.known grid kept is_grid) problem side
        (beginning side (length grid.junctions)) (start-end None grid problem side)) [
          | inl found ↦ found
          | inr none ↦ absurd (none (vector_of row problem side) (certificates.each problem side is))
        ]

    record AreTight (k : ℕ) (vectors : Vectors) : Type 0 where
      upper : IsTight grid (Pinned k) Upper vectors.upper
      lower : IsTight grid (Pinned k) Lower vectors.lower

    built : IsBuilt AreTight 0 (tank_count project)
    built = build AreTight 0 (tank_count project) (λ j lt.
        let up = tight-of (Pinned j) Upper lt in
        let low = tight-of (Pinned j) Lower lt in (
          record { upper = up.0; lower = low.0 },
          let n : j ≡ 0 + j = omega arith in
              subst (λ m. AreTight m (record { upper = up.0; lower = low.0 })) n
              (record { upper = up.1; lower = low.1 }),
        ))

    abbrev tight-row : Record
    tight-row = record {
      number = 0;
      time = 0;
      length = 0;
      main = record { upper = (tight-of Main Upper tt).0; lower = (tight-of Main Lower tt).0 };
      pinned = built.list;
    }

    each-tight : (problem : Problem) (side : Side) → IsProblem project problem
        → IsTight grid problem side (vector_of tight-row problem side)
    each-tight Main Upper is = (tight-of Main Upper tt).1
    each-tight Main Lower is = (tight-of Main Lower tt).1
    each-tight (Pinned k) Upper is = let n : 0 + k ≡ k = omega arith in
        (subst (λ m. AreTight m (slice_index_or built.list k no_vectors)) n (built.each k is)).upper
    each-tight (Pinned k) Lower is = let n : 0 + k ≡ k = omega arith in
        (subst (λ m. AreTight m (slice_index_or built.list k no_vectors)) n (built.each k is)).lower

    has-tight : HasTightRow project standing.known
    has-tight = record {
      grid = grid;
      row = tight-row;
      tight = record { in_range = range; is_grid = is_grid; one_each = built.one_each; each = each-tight };
    }

  -- what a run without open ends does there tells
  pub tight_or_stopped : standing.known.finished ≡ false → (slack rounds : ℕ)
      → HasTightRow project standing.known ⊎ IsStoppedOpenly project standing slack rounds
  tight_or_stopped unfinished slack rounds = elim (goes_on project sound standing.known kept unfinished rounds) [
    | inl onward ↦ inl (has-tight onward.valid.demands onward.grid onward.valid.is_grid onward.row
        onward.valid.certificates)
    | inr stopped ↦ by-cause stopped.cause stopped.reason stopped.stops
  ]
    where
      by-cause : (cause : StopCause) → IsReason cause → Stops project standing.known rounds cause
          → HasTightRow project standing.known ⊎ IsStoppedOpenly project standing slack rounds
      by-cause (DemandOutOfRange period j demand) reason stops = inr (record {
        cause = DemandOutOfRange period j demand;
        reason = tt;
        stops = record { period_is = stops.period_is; holds = stops.holds };
      })
      by-cause (NoCertificate period problem side j) reason stops = inr (record {
        cause = NoCertificate period problem side j;
        reason = tt;
        stops = record { period_is = stops.period_is; holds = stops.holds };
      })
      by-cause (RoundsSpent period problem side spent) reason stops = absurd reason
      by-cause (RuleOpen period rule clause lo hi) reason stops = inl (record {
        grid = stops.holds.grid;
        row = stops.holds.row;
        tight = stops.holds.tight;
      })
      by-cause (EventOpen period m n) reason stops = inl (record {
        grid = stops.holds.grid;
        row = stops.holds.row;
        tight = stops.holds.tight;
      })
      by-cause (TankOpen period tank lo hi) reason stops = inl (record {
        grid = stops.holds.at_levels.grid;
        row = stops.holds.at_levels.row;
        tight = stops.holds.at_levels.tight;
      })
      by-cause (ControlOpen period number lo hi) reason stops = inl (record {
        grid = stops.holds.at_levels.grid;
        row = stops.holds.at_levels.row;
        tight = stops.holds.at_levels.tight;
      })
