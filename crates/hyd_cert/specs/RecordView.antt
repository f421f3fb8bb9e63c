-- A record as the program keeps it, as the definitions see it.
use Rattle.std.specs.Prelude.{ℕ, ◌<◌}
use Rattle.hyd_spec_certificates.specs.declared.Problem.{Problem}
use Rattle.hyd_spec_certificates.specs.declared.Problem.TheVariants.{Main, Pinned}
use Rattle.hyd_spec_certificates.specs.RecordAndStanding.{Record as Row}
use Rattle.hyd_cert.specs.Lines.{Header}
use Rattle.hyd_cert.specs.VectorsOfRecord.{two_vectors, behind_two, problems_in}
use Rattle.hyd_cert.specs.declared.record.Record.{Record}

-- The header of the texts that it can stand in.
abbrev pub header_of : Record → Header
header_of row = record { version = row.version; junctions = row.junctions; tanks = row.tanks }

-- The record, with its heads parted into vectors.
abbrev pub row_of : Record → Row
row_of row = record {
  number = row.number;
  time = row.time;
  length = row.length;
  main = two_vectors row.junctions row.vectors.list;
  pinned = problems_in row.junctions row.tanks (behind_two row.junctions row.vectors.list);
}

-- The problem is one of so many tanks.
abbrev pub IsProblemOf : ℕ → Problem → Type 0
IsProblemOf tanks Main = Unit {0}
IsProblemOf tanks (Pinned tank) = tank < tanks
