-- Why a moment isn't met: the first of its clauses that fails, and where. A demand out of range comes before the links.
-- Source: this program's.
use Rattle.std.specs.Prelude.{◌≡◌, ℕ, ◌<◌, ◌⊎◌, List, Some, slice_get}
use Rattle.hyd_spec.specs.ProgramTypes.{Project}
use Rattle.hyd_spec.specs.Lists.{Each}
use Rattle.hyd_spec.specs.PeriodLength.{HasItsLength}
use Rattle.hyd_spec_certificates.specs.PeriodNetwork.{GridJunction}
use Rattle.hyd_spec_witnesses.specs.declared.MetClause.{MetClause}
use Rattle.hyd_spec_witnesses.specs.declared.MetClause.TheVariants.{Start, Link, Demand, Emitter, Balance, Length}
use Rattle.hyd_spec_witnesses.specs.declared.Unmet.{Unmet}
use Rattle.hyd_spec_witnesses.specs.MetPeriods.{Moment, Reached, period_of, StartIsMet, HasSmallDemand, links_of}
use Rattle.hyd_spec_witnesses.specs.MetPeriods.{LinkIsMet, AreJunctionsOf, DemandIsMet, EmitterIsMet, BalanceIsMet}

-- ---- lists

-- The item of this number is the first of which P doesn't hold.
pub record FailsFirstAt {X : Type 0} (xs : List X) (P : ℕ → X → Type 0) (number : ℕ) : Type 0 where
  pub item : X
  pub is_item : slice_get xs number ≡ Some item
  pub fails : P number item → ⊥
  pub earlier : (k : ℕ) (x : X) → k < number → slice_get xs k ≡ Some x → P k x

-- ---- what holds before a clause is looked at

-- The start is met, and the demands are in range.
pub record HasDemandsInRange (project : Project) (S : ℕ) (reached : Reached) (moment : Moment) : Type 0 where
  pub start : StartIsMet project S reached moment
  pub small : Each project.junctions.list (HasSmallDemand project moment.time)

-- And the links are met; these are the junctions.
pub record HasItsLinks (project : Project) (S : ℕ) (reached : Reached) (moment : Moment)
    (junctions : List GridJunction) : Type 0 where
  pub in_range : HasDemandsInRange project S reached moment
  pub links : Each (links_of project (period_of project S reached moment))
      (LinkIsMet project S (period_of project S reached moment))
  pub are_junctions : AreJunctionsOf project (period_of project S reached moment) junctions

-- And the demands are met.
pub record HasItsDemands (project : Project) (S : ℕ) (reached : Reached) (moment : Moment)
    (junctions : List GridJunction) : Type 0 where
  pub links : HasItsLinks project S reached moment junctions
  pub demands : Each junctions (DemandIsMet S (period_of project S reached moment))

-- And the emitters are met.
pub record HasItsEmitters (project : Project) (S : ℕ) (reached : Reached) (moment : Moment)
    (junctions : List GridJunction) : Type 0 where
  pub demands : HasItsDemands project S reached moment junctions
  pub emitters : Each junctions (EmitterIsMet S (period_of project S reached moment))

-- And the flows balance.
pub record Balances (project : Project) (S : ℕ) (reached : Reached) (moment : Moment)
    (junctions : List GridJunction) : Type 0 where
  pub emitters : HasItsEmitters project S reached moment junctions
  pub balance : Each junctions (BalanceIsMet project S (period_of project S reached moment))

-- ---- the clause

-- The clause fails, at a link or a junction of this number where it speaks of one, and those before it hold.
abbrev pub FailsBy : Project → ℕ → Reached → Moment → MetClause → ℕ → Type 0
FailsBy project S reached moment Start number = (number ≡ 0) × (StartIsMet project S reached moment → ⊥)
FailsBy project S reached moment Link number =
    HasDemandsInRange project S reached moment
    × FailsFirstAt (links_of project (period_of project S reached moment))
    (LinkIsMet project S (period_of project S reached moment)) number
FailsBy project S reached moment Demand number =
    (StartIsMet project S reached moment
    × FailsFirstAt project.junctions.list (HasSmallDemand project moment.time) number)
    ⊎ ((junctions : List GridJunction) × (HasItsLinks project S reached moment junctions
    × FailsFirstAt junctions (DemandIsMet S (period_of project S reached moment)) number))
FailsBy project S reached moment Emitter number =
    (junctions : List GridJunction) × (HasItsDemands project S reached moment junctions
    × FailsFirstAt junctions (EmitterIsMet S (period_of project S reached moment)) number)
FailsBy project S reached moment Balance number =
    (junctions : List GridJunction) × (HasItsEmitters project S reached moment junctions
    × FailsFirstAt junctions (BalanceIsMet project S (period_of project S reached moment)) number)
FailsBy project S reached moment Length number =
    (number ≡ 0) × ((junctions : List GridJunction) × (Balances project S reached moment junctions
    × (HasItsLength project S (period_of project S reached moment) → ⊥)))

-- The moment isn't met where the course stands so, by this clause.
abbrev pub IsUnmet : Project → ℕ → Reached → Moment → Unmet → Type 0
IsUnmet project S reached moment unmet = FailsBy project S reached moment unmet.clause unmet.number
