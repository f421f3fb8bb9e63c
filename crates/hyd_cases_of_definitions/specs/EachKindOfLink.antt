-- A city of two junctions, a reservoir and a tank, with one link of each kind, in cubic metres a day and metres. The
-- second junction has an emitter; the demand of the first depends on its pressure.
use Rattle.std.specs.Prelude.{pos, neg_ℤ, List, ℤ, [], ◌∷◌, Some, None}
use Rattle.hyd_spec.specs.ProgramTypes.{Capacity}
use Rattle.hyd_spec.specs.Law.{QuadraticLaw, Lifted, ForwardOnly, Capped}
use Rattle.hyd_spec_certificates.specs.EnclosingFunctions.{Fixed, Driven}
use Rattle.hyd_spec_certificates.specs.PeriodNetwork.{Grid, GridLink, GridJunction}
use Rattle.hyd_cases_of_definitions.specs.Capacities.{HasEnds}

-- The capacities of the pipe (1000 m, 300 mm across), the pipe with a check valve (400 m, 200 mm across), the pump (40
-- m at 2160 cubic metres a day), the throttle control valve (304.8 mm, a setting of 100), the flow control valve (250
-- mm), the emitter, and the demand.
pub record CityParts : Type 0 where
  pub pipe : Capacity
  pub pipe_is : HasEnds pipe 6703202733254145186 (neg_ℤ (pos 36)) 6703202733254145207 (neg_ℤ (pos 36))
  pub check : Capacity
  pub check_is : HasEnds check 5578076705912483132 (neg_ℤ (pos 38)) 5578076705912483153 (neg_ℤ (pos 38))
  pub pump : Capacity
  pub pump_is : HasEnds pump 7694822175827558399 (neg_ℤ (pos 41)) 7694822175827558401 (neg_ℤ (pos 41))
  pub valve : Capacity
  pub valve_is : HasEnds valve 5361655754717038823 (neg_ℤ (pos 36)) 5361655754717038826 (neg_ℤ (pos 36))
  pub control : Capacity
  pub control_is : HasEnds control 6066512814921657205 (neg_ℤ (pos 32)) 6066512814921657215 (neg_ℤ (pos 32))
  pub emitter : Capacity
  pub emitter_is : HasEnds emitter 5252998605364946534 (neg_ℤ (pos 48)) 5252998605364946535 (neg_ℤ (pos 48))
  pub driven : Capacity
  pub driven_is : HasEnds driven 7505999378950826666 (neg_ℤ (pos 44)) 7505999378950826667 (neg_ℤ (pos 44))

-- At 10 m, with a demand between 5 and 20 m of pressure.
abbrev pub first : CityParts → GridJunction
first parts = record {
  elevation = pos 100000000000000;
  demand = Driven (pos 8000000000) parts.driven (record {
    num = pos 50000000000000;
    den = 1;
  }) (record { num = pos 200000000000000; den = 1 });
  emitter = None;
}

-- At 25 m, with an emitter and an inflow of 120 cubic metres a day.
abbrev pub second : CityParts → GridJunction
second parts = record {
  elevation = pos 250000000000000;
  demand = Fixed (neg_ℤ (pos 1200000000));
  emitter = Some parts.emitter;
}

-- From the reservoir, which is node 2, to the first junction.
abbrev pub pipe : CityParts → GridLink
pipe parts = record { from = 2; to = 0; law = QuadraticLaw parts.pipe }

-- From the first junction to the second.
abbrev pub check_pipe : CityParts → GridLink
check_pipe parts = record { from = 0; to = 1; law = ForwardOnly (QuadraticLaw parts.check) }

-- From the reservoir to the second junction, at nine tenths of its speed.
abbrev pub pump : CityParts → GridLink
pump parts = record {
  from = 2;
  to = 1;
  law = ForwardOnly (Lifted (record {
    num = pos 1296000000000000000000000000000000;
    den = 3000000000000000000;
  }) (QuadraticLaw parts.pump));
}

-- From the first junction to the tank, which is node 3.
abbrev pub throttle_valve : CityParts → GridLink
throttle_valve parts = record { from = 0; to = 3; law = QuadraticLaw parts.valve }

-- From the second junction to the tank, limited to 500 cubic metres a day.
abbrev pub control_valve : CityParts → GridLink
control_valve parts = record { from = 1; to = 3; law = Capped (pos 5000000000) (QuadraticLaw parts.control) }

-- The whole city, its tank between 45 and 45.1 m.
abbrev pub city : CityParts → Grid
city parts = record {
  junctions = first parts ∷ second parts ∷ [];
  reservoirs = pos 600000000000000 ∷ [];
  tanks = record { lo = pos 450000000000000; hi = pos 451000000000000 } ∷ [];
  links = pipe parts ∷ check_pipe parts ∷ pump parts ∷ throttle_valve parts ∷ control_valve parts ∷ [];
}

-- The tight vector above all heads.
abbrev pub upper : List ℤ
upper = pos 526428225406959 ∷ pos 1015580607643695 ∷ []

-- The one below all heads.
abbrev pub lower : List ℤ
lower = pos 525959255858584 ∷ pos 1015580607115147 ∷ []

-- The one above all heads with the tank pinned.
abbrev pub pinned_upper : List ℤ
pinned_upper = pos 525959255971881 ∷ pos 1015580607643695 ∷ []

-- The one below all heads with the tank pinned.
abbrev pub pinned_lower : List ℤ
pinned_lower = pos 526428225292914 ∷ pos 1015580607115147 ∷ []

-- Heads far from them, along the pipe with the check valve.
abbrev pub apart : List ℤ
apart = pos 700000000000000 ∷ pos 300000000000000 ∷ []

-- Heads below the second junction's elevation, against the check valve.
abbrev pub sunk : List ℤ
sunk = pos 220000000000000 ∷ pos 230000000000000 ∷ []
