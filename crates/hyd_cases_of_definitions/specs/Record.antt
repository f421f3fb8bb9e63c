-- A record of the small network, at a standing.
use Rattle.std.specs.Prelude.{pos, [], ◌∷◌, false}
use Rattle.hyd_spec.specs.declared.TankState.TheVariants.{Between}
use Rattle.hyd_spec.specs.ProgramTypes.{Linear, Open, Closed, Speed, Throttle, Limit}
use Rattle.hyd_spec_certificates.specs.RecordAndStanding.{Record, Standing}

-- Five minutes, from 0:01:00 on.
abbrev pub row : Record
row = record {
  number = 1;
  time = 60;
  length = 300;
  main = record { upper = pos 95 ∷ pos 90 ∷ []; lower = pos 60 ∷ pos 55 ∷ [] };
  pinned = record { upper = pos 97 ∷ pos 93 ∷ []; lower = pos 58 ∷ pos 54 ∷ [] } ∷ [];
}

abbrev pub standing : Standing
standing = record {
  number = 1;
  time = 60;
  levels = record { lo = pos 30; hi = pos 41 } ∷ [];
  volumes = record { lo = pos 0; hi = pos 0 } ∷ [];
  tanks = Between ∷ [];
  commanded = Open ∷ Closed ∷ Speed (pos 900000000) ∷ Throttle (pos 5) Linear ∷ Limit (pos 6) (pos 7) ∷ [];
  finished = false;
}
