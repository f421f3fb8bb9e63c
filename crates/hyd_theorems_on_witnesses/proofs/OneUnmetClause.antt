-- A moment that isn't met fails by one clause first, and none that is met fails.
use Rattle.std.proofs.Common.{◌≡◌, ℕ, zero, suc, ◌<◌, refl, sym, ap, ◌∙◌, subst, arith, inl, inr, List, []}
use Rattle.std.specs.Prelude.{map, ⊤}
use Rattle.std.proofs.lemmas.Bool.{cases_lt}
use Rattle.hyd_spec.specs.ProgramTypes.{Project}
use Rattle.hyd_spec.specs.Lists.{Each}
use Rattle.hyd_spec.specs.DemandsHeadsAndPumpLifts.{reservoir_head}
use Rattle.hyd_spec.specs.PeriodLength.{Period, HasItsLength}
use Rattle.hyd_spec_certificates.specs.PeriodNetwork.{Grid, GridJunction, IsGrid, grid_links, tank_intervals}
use Rattle.hyd_spec_witnesses.specs.declared.MetClause.{MetClause}
use Rattle.hyd_spec_witnesses.specs.declared.MetClause.TheVariants.{Start, Link, Demand, Emitter, Balance, Length}
use Rattle.hyd_spec_witnesses.specs.declared.Unmet.{Unmet}
use Rattle.hyd_spec_witnesses.specs.MetPeriods.{Moment, Reached, period_of, StartIsMet, HasSmallDemand, links_of}
use Rattle.hyd_spec_witnesses.specs.MetPeriods.{LinkIsMet, AreJunctionsOf, DemandIsMet, EmitterIsMet, BalanceIsMet}
use Rattle.hyd_spec_witnesses.specs.MetPeriods.{IsMet}
use Rattle.hyd_spec_witnesses.specs.FirstUnmetClause.{FailsFirstAt, HasDemandsInRange, HasItsLinks, HasItsDemands}
use Rattle.hyd_spec_witnesses.specs.FirstUnmetClause.{HasItsEmitters, Balances, FailsBy, IsUnmet}
use Rattle.hyd_lemmas.proofs.BooleanTests.{equal_by_order}
use Rattle.hyd_theorems_on_definitions.proofs.OneGrid.{same_grid}

-- ---- lists

not-before : (X : Type 0) (xs : List X) (P : ℕ → X → Type 0) (m n : ℕ) → FailsFirstAt xs P m → FailsFirstAt xs P n
    → m < n → ⊥
not-before X xs P m n a b less = a.fails (b.earlier m a.item less a.is_item)

one-place : (X : Type 0) (xs : List X) (P : ℕ → X → Type 0) (m n : ℕ) → FailsFirstAt xs P m → FailsFirstAt xs P n
    → m ≡ n
one-place X xs P m n a b = equal_by_order m n (not-before X xs P m n a b) (not-before X xs P n m b a)

module _ (project : Project) (S : ℕ) (reached : Reached) (moment : Moment) where
  abbrev period : Period
  period = period_of project S reached moment

  -- ---- the junctions of a period are one list

  abbrev with-junctions : List GridJunction → Grid
  with-junctions junctions = record {
    junctions = junctions;
    reservoirs = map (reservoir_head project period.time) project.reservoirs.list;
    tanks = tank_intervals project.tanks.list [];
    links = grid_links project period.tanks project.links.list period.links;
  }

  is-grid : (junctions : List GridJunction) → AreJunctionsOf project period junctions
      → IsGrid project period.time [] period.tanks period.links (with-junctions junctions)
  is-grid junctions are = record { junctions = are; reservoirs = refl; tank_heads = refl; links_are = refl }

  same-junctions : (xs ys : List GridJunction) → AreJunctionsOf project period xs → AreJunctionsOf project period ys
      → xs ≡ ys
  same-junctions xs ys a b = ap (λ (grid : Grid). grid.junctions)
      (same_grid project period.time [] period.tanks period.links (with-junctions xs) (with-junctions ys)
      (is-grid xs a) (is-grid ys b))

  -- something of each junction, whichever list they are
  abbrev OfJunctions : (ℕ → GridJunction → Type 0) → Type 0
  OfJunctions P = (junctions : List GridJunction) → AreJunctionsOf project period junctions → Each junctions P

  of-junctions : (P : ℕ → GridJunction → Type 0) (junctions : List GridJunction)
      → AreJunctionsOf project period junctions → Each junctions P → OfJunctions P
  of-junctions P junctions are each others other = subst (λ (js : List GridJunction). Each js P)
      (same-junctions junctions others are other) each

  -- something fails first of the junctions
  abbrev AtJunction : (ℕ → GridJunction → Type 0) → ℕ → Type 0
  AtJunction P number =
      (junctions : List GridJunction) × (AreJunctionsOf project period junctions × FailsFirstAt junctions P number)

  one-junction : (P : ℕ → GridJunction → Type 0) (m n : ℕ) → AtJunction P m → AtJunction P n → m ≡ n
  one-junction P m n a b = one-place GridJunction b.0 P m n
      (subst (λ (js : List GridJunction). FailsFirstAt js P m) (same-junctions a.0 b.0 a.1.0 b.1.0) a.1.1) b.1.1

  -- ---- turns

  -- what holds of a moment at each turn: the start, small demands, links, demands, emitters, the balance, the length
  abbrev Holds : ℕ → Type 0
  Holds zero = StartIsMet project S reached moment
  Holds (suc zero) = Each project.junctions.list (HasSmallDemand project moment.time)
  Holds (suc (suc zero)) = Each (links_of project period) (LinkIsMet project S period)
  Holds (suc (suc (suc zero))) = OfJunctions (DemandIsMet S period)
  Holds (suc (suc (suc (suc zero)))) = OfJunctions (EmitterIsMet S period)
  Holds (suc (suc (suc (suc (suc zero))))) = OfJunctions (BalanceIsMet project S period)
  Holds (suc (suc (suc (suc (suc (suc k)))))) = HasItsLength project S period

  -- what fails there
  abbrev Fails : ℕ → ℕ → Type 0
  Fails zero number = (number ≡ 0) × (StartIsMet project S reached moment → ⊥)
  Fails (suc zero) number = FailsFirstAt project.junctions.list (HasSmallDemand project moment.time) number
  Fails (suc (suc zero)) number = FailsFirstAt (links_of project period) (LinkIsMet project S period) number
  Fails (suc (suc (suc zero))) number = AtJunction (DemandIsMet S period) number
  Fails (suc (suc (suc (suc zero)))) number = AtJunction (EmitterIsMet S period) number
  Fails (suc (suc (suc (suc (suc zero))))) number = AtJunction (BalanceIsMet project S period) number
  Fails (suc (suc (suc (suc (suc (suc k)))))) number = (number ≡ 0) × (HasItsLength project S period → ⊥)

  abbrev clause-at : ℕ → MetClause
  clause-at zero = Start
  clause-at (suc zero) = Demand
  clause-at (suc (suc zero)) = Link
  clause-at (suc (suc (suc zero))) = Demand
  clause-at (suc (suc (suc (suc zero)))) = Emitter
  clause-at (suc (suc (suc (suc (suc zero))))) = Balance
  clause-at (suc (suc (suc (suc (suc (suc k)))))) = Length

  -- what fails doesn't hold
  clash : (turn number : ℕ) → Fails turn number → Holds turn → ⊥
  clash zero number fails holds = fails.1 holds
  clash (suc zero) number fails holds = fails.fails (holds number fails.item fails.is_item)
  clash (suc (suc zero)) number fails holds = fails.fails (holds number fails.item fails.is_item)
  clash (suc (suc (suc zero))) number fails holds =
      fails.1.1.fails (holds fails.0 fails.1.0 number fails.1.1.item fails.1.1.is_item)
  clash (suc (suc (suc (suc zero)))) number fails holds =
      fails.1.1.fails (holds fails.0 fails.1.0 number fails.1.1.item fails.1.1.is_item)
  clash (suc (suc (suc (suc (suc zero))))) number fails holds =
      fails.1.1.fails (holds fails.0 fails.1.0 number fails.1.1.item fails.1.1.is_item)
  clash (suc (suc (suc (suc (suc (suc k)))))) number fails holds = fails.1 holds

  -- and it does so at one place
  one-number : (turn m n : ℕ) → Fails turn m → Fails turn n → m ≡ n
  one-number zero m n a b = a.0 ∙ sym b.0
  one-number (suc zero) m n a b = one-place _ _ _ m n a b
  one-number (suc (suc zero)) m n a b = one-place _ _ _ m n a b
  one-number (suc (suc (suc zero))) m n a b = one-junction (DemandIsMet S period) m n a b
  one-number (suc (suc (suc (suc zero)))) m n a b = one-junction (EmitterIsMet S period) m n a b
  one-number (suc (suc (suc (suc (suc zero))))) m n a b = one-junction (BalanceIsMet project S period) m n a b
  one-number (suc (suc (suc (suc (suc (suc k)))))) m n a b = a.0 ∙ sym b.0

  -- all turns before one
  abbrev Before : ℕ → Type 0
  Before zero = ⊤
  Before (suc turn) = Before turn × Holds turn

  within : (turn earlier : ℕ) → earlier < turn → Before turn → Holds earlier
  within zero earlier less before = absurd (omega (arith, less))
  within (suc turn) earlier less before = elim (cases_lt earlier turn) [
    | inl lt ↦ within turn earlier lt before.0
    | inr ge ↦ let same : turn ≡ earlier = omega (arith, less, ge) in subst Holds same before.1
  ]

  -- ---- the first turn that fails

  record FailsIn (clause : MetClause) (number : ℕ) : Type 0 where
    turn : ℕ
    one_of_seven : turn < 7
    clause_is : clause ≡ clause-at turn
    before : Before turn
    fails : Fails turn number

  links-before : HasDemandsInRange project S reached moment → Before 2
  links-before h = ((tt, h.start), h.small)

  demands-before : (junctions : List GridJunction) → HasItsLinks project S reached moment junctions → Before 3
  demands-before junctions h = (links-before h.in_range, h.links)

  emitters-before : (junctions : List GridJunction) → HasItsDemands project S reached moment junctions → Before 4
  emitters-before junctions h = (
    demands-before junctions h.links,
    of-junctions (DemandIsMet S period) junctions h.links.are_junctions h.demands,
  )

  balance-before : (junctions : List GridJunction) → HasItsEmitters project S reached moment junctions → Before 5
  balance-before junctions h = (
    emitters-before junctions h.demands,
    of-junctions (EmitterIsMet S period) junctions h.demands.links.are_junctions h.emitters,
  )

  length-before : (junctions : List GridJunction) → Balances project S reached moment junctions → Before 6
  length-before junctions h = (
    balance-before junctions h.emitters,
    of-junctions (BalanceIsMet project S period) junctions h.emitters.demands.links.are_junctions h.balance,
  )

  turned : (clause : MetClause) (number : ℕ) → FailsBy project S reached moment clause number
      → FailsIn clause number
  turned Start number fails = record {
    turn = 0;
    one_of_seven = omega arith;
    clause_is = refl;
    before = tt;
    fails = fails;
  }
  turned Link number fails = record {
    turn = 2;
    one_of_seven = omega arith;
    clause_is = refl;
    before = links-before fails.0;
    fails = fails.1;
  }
  turned Demand number (inl fails) = record {
    turn = 1;
    one_of_seven = omega arith;
    clause_is = refl;
    before = (tt, fails.0);
    fails = fails.1;
  }
  turned Demand number (inr fails) = record {
    turn = 3;
    one_of_seven = omega arith;
    clause_is = refl;
    before = demands-before fails.0 fails.1.0;
    fails = (fails.0, (fails.1.0.are_junctions, fails.1.1));
  }
  turned Emitter number fails = record {
    turn = 4;
    one_of_seven = omega arith;
    clause_is = refl;
    before = emitters-before fails.0 fails.1.0;
    fails = (fails.0, (fails.1.0.links.are_junctions, fails.1.1));
  }
  turned Balance number fails = record {
    turn = 5;
    one_of_seven = omega arith;
    clause_is = refl;
    before = balance-before fails.0 fails.1.0;
    fails = (fails.0, (fails.1.0.demands.links.are_junctions, fails.1.1));
  }
  turned Length number fails = record {
    turn = 6;
    one_of_seven = omega arith;
    clause_is = refl;
    before = length-before fails.1.0 fails.1.1.0;
    fails = (fails.0, fails.1.1.1);
  }

  earlier-fails : (a b : MetClause) (m n : ℕ) (x : FailsIn a m) (y : FailsIn b n) → x.turn < y.turn → ⊥
  earlier-fails a b m n x y less = clash x.turn m x.fails (within y.turn x.turn less y.before)

  pub one-unmet : (a b : Unmet) → IsUnmet project S reached moment a → IsUnmet project S reached moment b → a ≡ b
  one-unmet a b unmet other =
      let x = turned a.clause a.number unmet in
      let y = turned b.clause b.number other in
      let turns = equal_by_order x.turn y.turn (earlier-fails a.clause b.clause a.number b.number x y)
      (earlier-fails b.clause a.clause b.number a.number y x) in
      let clauses : a.clause ≡ b.clause = x.clause_is ∙ (ap clause-at turns ∙ sym y.clause_is) in
      let numbers : a.number ≡ b.number = one-number y.turn a.number b.number
      (subst (λ (t : ℕ). Fails t a.number) turns x.fails) y.fails in
      λ i. record { clause = clauses i; number = numbers i }

  all-before : IsMet project S reached moment → Before 7
  all-before met = (
    length-before met.junctions (record {
      emitters = record {
        demands = record {
          links = record {
            in_range = record { start = met.start; small = met.small };
            links = met.links;
            are_junctions = met.are_junctions;
          };
          demands = met.demands;
        };
        emitters = met.emitters;
      };
      balance = met.balance;
    }),
    met.lasts,
  )

  pub met-is-not-unmet : (unmet : Unmet) → IsUnmet project S reached moment unmet → IsMet project S reached moment → ⊥
  met-is-not-unmet unmet fails met =
      let x = turned unmet.clause unmet.number fails in
      clash x.turn unmet.number x.fails
      (within 7 x.turn x.one_of_seven (all-before met))
