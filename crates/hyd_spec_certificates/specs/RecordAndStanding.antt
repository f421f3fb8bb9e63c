-- Records of a certificate, and what is carried from one period to the next.
-- Source: this program's.
use Rattle.std.specs.Prelude.{ℕ, ℤ, Bool, false, List, [], map, slice_index_or}
use Rattle.hyd_spec.specs.ProgramTypes.{Project, Tank, LinkState}
use Rattle.hyd_spec.specs.declared.TankState.{TankState}
use Rattle.hyd_spec_certificates.specs.declared.Problem.{Problem}
use Rattle.hyd_spec_certificates.specs.declared.Problem.TheVariants.{Main, Pinned}
use Rattle.hyd_spec_certificates.specs.declared.Side.{Side}
use Rattle.hyd_spec_certificates.specs.declared.Side.TheVariants.{Upper, Lower}
use Rattle.hyd_spec_certificates.specs.Interval.{Interval, exactly}
use Rattle.hyd_spec.specs.Tank.{tank_state, walls_of, kept_volume}

-- The two vectors of a problem, in head ticks.
pub record Vectors : Type 0 where
  pub upper : List ℤ
  pub lower : List ℤ

-- A record: the number of its period, counted from 0, when it begins and how long it lasts (seconds), the
-- vectors with all tanks alike, and those with each tank pinned, in order.
pub record Record : Type 0 where
  pub number : ℕ
  pub time : ℕ
  pub length : ℕ
  pub main : Vectors
  pub pinned : List Vectors

-- A tank that isn't there has empty vectors.
abbrev pub no_vectors : Vectors
no_vectors = record { upper = []; lower = [] }

-- The vectors of a problem.
abbrev pub vectors_of : Record → Problem → Vectors
vectors_of row Main = row.main
vectors_of row (Pinned tank) = slice_index_or row.pinned tank no_vectors

-- The vector of a side.
abbrev pub vector_on : Side → Vectors → List ℤ
vector_on Upper vectors = vectors.upper
vector_on Lower vectors = vectors.lower

-- The vector of a problem and side.
abbrev pub vector_of : Record → Problem → Side → List ℤ
vector_of row problem side = vector_on side (vectors_of row problem)

-- What is known when a period begins: its number and time (seconds), an interval for each tank's level (head ticks) and
-- for its volume (volume ticks; 0 to 0 without a curve), the tanks' states, and the states that links were last
-- commanded to be in. `finished` says that the period at the end of the run is over.
pub record Standing : Type 0 where
  pub number : ℕ
  pub time : ℕ
  pub levels : List Interval
  pub volumes : List Interval
  pub tanks : List TankState
  pub commanded : List LinkState
  pub finished : Bool

-- What is known at the start of the run.
abbrev pub initial_standing : Project → Standing
initial_standing project = record {
  number = 0;
  time = 0;
  levels = map (λ tank. exactly tank.initial) project.tanks.list;
  volumes = map (λ (tank : Tank). exactly (kept_volume (walls_of project tank) tank.initial)) project.tanks.list;
  tanks = map (λ tank. tank_state 1 tank tank.initial) project.tanks.list;
  commanded = map (λ link. link.start) project.links.list;
  finished = false;
}
