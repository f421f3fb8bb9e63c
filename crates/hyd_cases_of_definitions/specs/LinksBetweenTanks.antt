-- Links between two tanks, which are the nodes 1 and 2.
use Rattle.std.specs.Prelude.{◌≡◌, Bool, List, [], ◌∷◌}
use Rattle.hyd_spec.specs.ProgramTypes.{Project, Tank, Link, LinkKind, Open}
use Rattle.hyd_spec.specs.declared.TankState.{TankState}
use Rattle.hyd_spec.specs.declared.TankState.TheVariants.{Empty, Between, Full}

-- A link of some kind from one tank to the other.
abbrev pub between_tanks : LinkKind → Link
between_tanks kind = record { from = 1; to = 2; kind = kind; start = Open }

-- Each pair of states, that of the first tank before that of the second.
abbrev pub pairs : List (List TankState)
pairs = (Full ∷ Full ∷ []) ∷ (Full ∷ Between ∷ []) ∷ (Full ∷ Empty ∷ []) ∷ (Between ∷ Full ∷ [])
    ∷ (Between ∷ Between ∷ []) ∷ (Between ∷ Empty ∷ [])
    ∷ (Empty ∷ Full ∷ []) ∷ (Empty ∷ Between ∷ []) ∷ (Empty ∷ Empty ∷ []) ∷ []

-- The network has these two tanks, of which each overflows or not.
pub record HasTanks (project : Project) (first_overflows second_overflows : Bool) : Type 0 where
  pub first : Tank
  pub second : Tank
  pub tanks_are : project.tanks.list ≡ first ∷ second ∷ []
  pub first_is : first.overflow ≡ first_overflows
  pub second_is : second.overflow ≡ second_overflows
