-- A small network of one period: two junctions, a reservoir, a tank and five links, all laws without capacities.
use Rattle.std.specs.Prelude.{pos, neg_ℤ, [], ◌∷◌, None}
use Rattle.hyd_spec.specs.Law.{Shut, LinearLaw, Lifted, ForwardOnly, ReverseOnly, Capped}
use Rattle.hyd_spec_certificates.specs.EnclosingFunctions.{Fixed}
use Rattle.hyd_spec_certificates.specs.PeriodNetwork.{Grid, GridLink, GridJunction}

-- The reservoir's head is node 2, the tank's node 3.
abbrev pub first : GridJunction
first = record { elevation = pos 40; demand = Fixed (pos 500); emitter = None }

abbrev pub second : GridJunction
second = record { elevation = neg_ℤ (pos 5); demand = Fixed (neg_ℤ (pos 70)); emitter = None }

abbrev pub from_reservoir : GridLink
from_reservoir = record { from = 2; to = 0; law = LinearLaw }

abbrev pub between : GridLink
between = record { from = 0; to = 1; law = Capped (pos 20000) LinearLaw }

abbrev pub into_tank : GridLink
into_tank = record { from = 1; to = 3; law = ForwardOnly LinearLaw }

abbrev pub against_tank : GridLink
against_tank = record { from = 3; to = 0; law = ReverseOnly (Lifted (record { num = pos 7; den = 2 }) LinearLaw) }

abbrev pub closed : GridLink
closed = record { from = 1; to = 0; law = Shut }

abbrev pub sample : Grid
sample = record {
  junctions = first ∷ second ∷ [];
  reservoirs = pos 100 ∷ [];
  tanks = record { lo = pos 50; hi = pos 61 } ∷ [];
  links = from_reservoir ∷ between ∷ into_tank ∷ against_tank ∷ closed ∷ [];
}
