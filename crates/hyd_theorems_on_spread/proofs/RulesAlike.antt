-- Networks that number their nodes alike, with the same elevations, read their rules alike.
use Rattle.std.proofs.Common.{◌≡◌, ℕ, ◌-◌, ℤ, refl, ap, ◌∙◌, List}
use Rattle.std.specs.Prelude.{map, unsigned_abs}
use Rattle.std.specs.List.{list_any, list_all}
use Rattle.hyd_spec.specs.ProgramTypes.{Project, Tank, Rule, Clause, What, Head, Pressure, Level, Flow, Setting}
use Rattle.hyd_spec.specs.ProgramTypes.{Status, Time, Clock, Relation, Value, Amount}
use Rattle.hyd_spec.specs.Lists.{map_from}
use Rattle.hyd_spec.specs.Tank.{walls_of, carried_level, tank_inflow}
use Rattle.hyd_spec.specs.Assignment.{node_heads}
use Rattle.hyd_spec.specs.Rules.{Readings, elevation_of, head_of, pressure_of, measured, amount, compares, holds_on}
use Rattle.hyd_spec.specs.Rules.{groups_of, rule_values, in_ticks}
use Rattle.hyd_spec.specs.PeriodLength.{Period, readings_after, values_at, stock_at_start}
use Rattle.hyd_spec_spread.specs.NetworksWithin.{NodeData, with_data}
use Rattle.hyd_theorems_on_spread.proofs.LinksWithin.{NumbersAlike}

module _ (project : Project) (nodes : NodeData) (same : NumbersAlike project nodes)
    (elevations : (node : ℕ) → elevation_of (with_data project nodes) node ≡ elevation_of project node) where
  abbrev network : Project
  network = with_data project nodes

  -- ---- clauses

  head-alike : (S : ℕ) (readings : Readings) (node : ℕ)
      → head_of network S readings node ≡ head_of project S readings node
  head-alike S readings node = rw same refl

  pressure-alike : (S : ℕ) (readings : Readings) (node : ℕ)
      → pressure_of network S readings node ≡ pressure_of project S readings node
  pressure-alike S readings node = rw (same, elevations node) refl

  measured-alike : (S : ℕ) (readings : Readings) (what : What)
      → measured network S readings what ≡ measured project S readings what
  measured-alike S readings (Head node) = ap (in_ticks S) (head-alike S readings node)
  measured-alike S readings (Pressure node) = ap (in_ticks S) (pressure-alike S readings node)
  measured-alike S readings what = refl

  amount-alike : (what : What) (value : Value) → amount network what value ≡ amount project what value
  amount-alike (Pressure node) (Amount span number) = refl
  amount-alike what value = refl

  holds-alike : (S time : ℕ) (readings : Readings) (what : What) (relation : Relation) (value : Value)
      → holds_on network S time readings what relation value ≡ holds_on project S time readings what relation value
  holds-alike S time readings (Status link) relation value = refl
  holds-alike S time readings Time relation value = refl
  holds-alike S time readings Clock relation value = refl
  holds-alike S time readings (Head node) relation value = λ i.
      compares relation (measured-alike S readings (Head node) i) (amount-alike (Head node) value i)
  holds-alike S time readings (Pressure node) relation value = λ i.
      compares relation (measured-alike S readings (Pressure node) i) (amount-alike (Pressure node) value i)
  holds-alike S time readings (Level tank) relation value = λ i.
      compares relation (measured-alike S readings (Level tank) i) (amount-alike (Level tank) value i)
  holds-alike S time readings (Flow link) relation value = λ i.
      compares relation (measured-alike S readings (Flow link) i) (amount-alike (Flow link) value i)
  holds-alike S time readings (Setting link) relation value = λ i.
      compares relation (measured-alike S readings (Setting link) i) (amount-alike (Setting link) value i)

  pub rules-alike : (S time : ℕ) (readings : Readings)
      → rule_values network S time readings ≡ rule_values project S time readings
  rules-alike S time readings = λ i. map (λ (rule : Rule). list_all (list_any (λ (clause : Clause).
      holds-alike S time readings clause.what clause.relation clause.value i)) (groups_of rule)) project.rules.list

  -- ---- readings

  inflow-alike : (k : ℕ) (flows : List ℤ) → tank_inflow network k flows ≡ tank_inflow project k flows
  inflow-alike k flows = rw same refl

  readings-alike : (S : ℕ) (period : Period) → node_heads network S period.time period.levels period.assignment.heads
      ≡ node_heads project S period.time period.levels period.assignment.heads → (seconds : ℕ)
      → readings_after network S period seconds ≡ readings_after project S period seconds
  readings-alike S period heads seconds = λ i. record {
    heads = heads i;
    levels = map_from (λ k (tank : Tank). carried_level S (walls_of project tank) tank (stock_at_start period k)
        (inflow-alike k period.assignment.flows i) seconds) 0 project.tanks.list;
    flows = map unsigned_abs period.assignment.flows;
    links = period.links;
  }

  pub values-alike : (S : ℕ) (period : Period)
      → node_heads network S period.time period.levels period.assignment.heads
      ≡ node_heads project S period.time period.levels period.assignment.heads → (instant : ℕ)
      → values_at network S period instant ≡ values_at project S period instant
  values-alike S period heads instant =
      rules-alike S instant (readings_after network S period (instant - period.time))
      ∙ ap (λ (readings : Readings). rule_values project S instant readings)
      (readings-alike S period heads (instant - period.time))

  pub inflows-alike : (k : ℕ) (flows : List ℤ) → tank_inflow network k flows ≡ tank_inflow project k flows
  inflows-alike = inflow-alike
