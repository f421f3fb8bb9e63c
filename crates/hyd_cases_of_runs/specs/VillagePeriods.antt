-- What the periods of a village have in common.
use Rattle.std.specs.Prelude.{ℕ, ℤ, pos, false, [], ◌∷◌, None}
use Rattle.hyd_spec.specs.ProgramTypes.{LinkState, Linear, Throttle}
use Rattle.hyd_spec.specs.declared.TankState.{TankState}
use Rattle.hyd_spec_certificates.specs.Interval.{Interval, exactly}
use Rattle.hyd_spec.specs.Law.{Law, LinearLaw}
use Rattle.hyd_spec_certificates.specs.EnclosingFunctions.{Fixed}
use Rattle.hyd_spec.specs.PeriodLength.{Period}
use Rattle.hyd_spec_certificates.specs.PeriodNetwork.{Grid, GridJunction}
use Rattle.hyd_spec_certificates.specs.RecordAndStanding.{Record, Vectors, Standing}

-- A standing with the tower's level and state, and the last command to the valve that fills it.
abbrev pub village_standing : ℕ → ℕ → Interval → TankState → LinkState → Standing
village_standing number time level state feed = record {
  number = number;
  time = time;
  levels = level ∷ [];
  volumes = exactly (pos 0) ∷ [];
  tanks = state ∷ [];
  commanded = Throttle (pos 0) Linear ∷ feed ∷ Throttle (pos 0) Linear ∷ [];
  finished = false;
}

-- The mill with a demand.
abbrev pub grid_mill : ℤ → GridJunction
grid_mill demand = record { elevation = pos 500000000000000; demand = Fixed demand; emitter = None }

-- The farm.
abbrev pub grid_farm : GridJunction
grid_farm = record { elevation = pos 400000000000000; demand = Fixed (pos 2000000000); emitter = None }

-- A grid with the mill's demand, the laws of the valves that fill and empty the tower, and the tower's head.
abbrev pub village_grid : ℤ → Law → Law → Interval → Grid
village_grid demand feed drop head = record {
  junctions = grid_mill demand ∷ grid_farm ∷ [];
  reservoirs = pos 1000000000000000 ∷ [];
  tanks = head ∷ [];
  links =
      (record { from = 2; to = 0; law = LinearLaw })
      ∷ (record { from = 0; to = 3; law = feed })
      ∷ (record { from = 3; to = 1; law = drop })
      ∷ [];
}

-- A record with two vectors for all tanks alike, and two with the tower pinned.
abbrev pub village_row : ℕ → ℕ → ℕ → Vectors → Vectors → Record
village_row number time length main pinned =
    record { number = number; time = time; length = length; main = main; pinned = pinned ∷ [] }

-- A period with the tower's level and state, the state of the valve that fills it, two heads, three flows and the
-- mill's demand.
abbrev pub village_period : ℕ → ℕ → ℤ → TankState → LinkState → ℤ → ℤ → ℤ → ℤ → ℤ → ℤ → Period
village_period time length level state feed mill farm main fed dropped takes = record {
  time = time;
  length = length;
  levels = level ∷ [];
  volumes = pos 0 ∷ [];
  tanks = state ∷ [];
  links = Throttle (pos 0) Linear ∷ feed ∷ Throttle (pos 0) Linear ∷ [];
  assignment = record {
    heads = mill ∷ farm ∷ [];
    flows = main ∷ fed ∷ dropped ∷ [];
    demands = takes ∷ pos 2000000000000 ∷ [];
    emitters = pos 0 ∷ pos 0 ∷ [];
  };
}
