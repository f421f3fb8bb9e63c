-- Standings and records of periods that begin and end at times known to lie between two seconds.
-- Source: this program's.
use Rattle.std.specs.Prelude.{ℕ}
use Rattle.hyd_spec.specs.ProgramTypes.{Project}
use Rattle.hyd_spec_certificates.specs.RecordAndStanding.{Record, Standing, initial_standing}

-- What is known when a period begins, and how many seconds its start is open: each history begins it in one of the
-- seconds from the standing's time to that many later.
pub record OpenStanding : Type 0 where
  pub known : Standing
  pub late : ℕ

-- What is known at the start of the run, which every history begins at time 0.
abbrev pub initial_open_standing : Project → OpenStanding
initial_open_standing project = record { known = initial_standing project; late = 0 }

-- A record of such a period: its number, the first second in which it begins, the longest that it lasts (seconds) and
-- its vectors, how many seconds its start is open, and the shortest that it lasts.
pub record OpenRecord : Type 0 where
  pub row : Record
  pub late : ℕ
  pub shortest : ℕ
