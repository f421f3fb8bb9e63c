-- A small grid, and where rounds lead on it from the corners of the box, by an independent calculation.
use Rattle.std.specs.Prelude.{ℤ, pos, neg_ℤ, List, [], ◌∷◌, None}
use Rattle.hyd_spec.specs.Law.{LinearLaw, Capped}
use Rattle.hyd_spec_certificates.specs.EnclosingFunctions.{Fixed}
use Rattle.hyd_spec_certificates.specs.PeriodNetwork.{Grid, GridJunction}

-- The junction next to the first reservoir.
abbrev pub first_junction : GridJunction
first_junction = record { elevation = pos 500000000000000; demand = Fixed (pos 4000000000); emitter = None }

-- The junction next to the second.
abbrev pub second_junction : GridJunction
second_junction = record { elevation = pos 400000000000000; demand = Fixed (pos 2000000000); emitter = None }

-- From one reservoir through both junctions to another. What flows between the junctions is limited.
abbrev pub chain : Grid
chain = record {
  junctions = first_junction ∷ second_junction ∷ [];
  reservoirs = pos 1000000000000000 ∷ pos 600000000000000 ∷ [];
  tanks = [];
  links =
      (record { from = 2; to = 0; law = LinearLaw })
      ∷ (record { from = 0; to = 1; law = Capped (pos 10000000000) LinearLaw })
      ∷ (record { from = 1; to = 3; law = LinearLaw })
      ∷ [];
}

-- The least heads of the box.
abbrev pub floor_heads : List ℤ
floor_heads = neg_ℤ (pos 1000000000000000000) ∷ neg_ℤ (pos 1000000000000000000) ∷ []

-- The greatest.
abbrev pub ceiling_heads : List ℤ
ceiling_heads = pos 1000000000000000000 ∷ pos 1000000000000000000 ∷ []

-- One round above the least heads.
abbrev pub floor_once : List ℤ
floor_once = pos 999999998255848 ∷ neg_ℤ (pos 499700000000124582) ∷ []

-- Two rounds above them.
abbrev pub floor_twice : List ℤ
floor_twice = pos 999999998255848 ∷ pos 600000000996659 ∷ []

-- One round below the greatest heads.
abbrev pub ceiling_once : List ℤ
ceiling_once = pos 500499999999750835 ∷ pos 600000000996658 ∷ []

-- Two rounds below them.
abbrev pub ceiling_twice : List ℤ
ceiling_twice = pos 999999998255847 ∷ pos 600000000996658 ∷ []
