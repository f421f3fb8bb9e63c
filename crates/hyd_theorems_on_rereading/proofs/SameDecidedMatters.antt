-- What a record tells of tanks, rules and the next standing is the same of alike parts.
use Rattle.std.proofs.Common.{◌≡◌, ℕ, suc, ◌+◌, List, [], ◌∷◌, map, refl, ap, ap₂, ◌∙◌}
use Rattle.std.specs.Prelude.{slice_index_or}
use Rattle.std.specs.List.{AllZip}
use Rattle.hyd_num.specs.Rational.{whole}
use Rattle.hyd_spec.specs.ProgramTypes.{Project, Tank, Rule, LinkState}
use Rattle.hyd_spec.specs.Lists.{map_from}
use Rattle.hyd_spec.specs.NodeNumbers.{tank_node}
use Rattle.hyd_spec.specs.Tank.{Walls, walls_of}
use Rattle.hyd_spec.specs.Rules.{Readings, rule_changes, acted}
use Rattle.hyd_spec_certificates.specs.Interval.{Interval}
use Rattle.hyd_spec_certificates.specs.PeriodNetwork.{Grid}
use Rattle.hyd_spec_certificates.specs.FlowIntervals.{inflow_box}
use Rattle.hyd_spec_certificates.specs.RecordAndStanding.{Record, Vectors, Standing}
use Rattle.hyd_spec_certificates.specs.Stocks.{Stocks, carried_levels, next_stocks}
use Rattle.hyd_spec_certificates.specs.declared.Verdict.{Verdict}
use Rattle.hyd_spec_certificates.specs.ThreeValuedLogic.{is_yes}
use Rattle.hyd_spec_certificates.specs.Decided.{flow_boxes, heads_below, heads_above, inflow_boxes, nowhere}
use Rattle.hyd_spec_certificates.specs.Decided.{stocks_of_tank, inflow_of_tank, links_at, least_magnitude}
use Rattle.hyd_spec_certificates.specs.Decided.{greatest_magnitude, carried_at, readings_below, readings_above}
use Rattle.hyd_spec_certificates.specs.Decided.{rule_between, rule_truth, rule_truths, decided_changes}
use Rattle.hyd_spec_certificates.specs.Valid.{stocks_next, levels_next, volumes_next}
use Rattle.hyd_theorems_on_rereading.proofs.PartsWithSpares.{Inner, with_inner, IsLikeRule, AreAlike}
use Rattle.hyd_theorems_on_rereading.proofs.SameQuantities.{same_node, same_walls}
use Rattle.hyd_theorems_on_rereading.proofs.SameLinkStatesAtStart.{same_links_at}
use Rattle.hyd_theorems_on_rereading.proofs.SameRules.{same_rule, same_changes, same_acted}

pub same_map_from : {A B : Type 0} (f g : ℕ → A → B) → ((k : ℕ) (a : A) → f k a ≡ g k a) → (k : ℕ) (xs : List A)
    → map_from f k xs ≡ map_from g k xs
same_map_from f g each k [] = refl
same_map_from f g each k (x ∷ xs) = ap₂ (λ v vs. v ∷ vs) (each k x) (same_map_from f g each (suc k) xs)

pub zip_map : {A B : Type 0} (R : A → A → Type 0) (f g : A → B) → ((a b : A) → R a b → f a ≡ g b) → (xs ys : List A)
    → AllZip R xs ys → map f xs ≡ map g ys
zip_map R f g each [] [] all = refl
zip_map R f g each [] (y ∷ ys) all = absurd all
zip_map R f g each (x ∷ xs) [] all = absurd all
zip_map R f g each (x ∷ xs) (y ∷ ys) all = ap₂ (λ v vs. v ∷ vs) (each x y all.0) (zip_map R f g each xs ys all.1)

module _ (p : Project) (x y : Inner) (alike : AreAlike x y) (grid : Grid) (standing : Standing) (row : Record) where
  -- ---- tanks

  same_boxes : inflow_boxes (with_inner p x) grid row ≡ inflow_boxes (with_inner p y) grid row
  same_boxes = same_map_from
      (λ k (vectors : Vectors). inflow_box grid k (tank_node (with_inner p x) k) vectors.lower vectors.upper)
      (λ k (vectors : Vectors). inflow_box grid k (tank_node (with_inner p y) k) vectors.lower vectors.upper)
      (λ k vectors. ap (λ (node : ℕ). inflow_box grid k node vectors.lower vectors.upper) (same_node p x y alike k)) 0
      row.pinned

  pub same_inflow : (k : ℕ)
      → inflow_of_tank (with_inner p x) grid row k ≡ inflow_of_tank (with_inner p y) grid row k
  same_inflow k = ap (λ (boxes : List Interval). slice_index_or boxes k nowhere) same_boxes

  pub same_carried : (seconds : ℕ)
      → carried_at (with_inner p x) grid standing row seconds ≡ carried_at (with_inner p y) grid standing row seconds
  same_carried seconds = same_map_from
      (λ k (tank : Tank). carried_levels (walls_of (with_inner p x) tank) tank (stocks_of_tank standing k)
      (inflow_of_tank (with_inner p x) grid row k) seconds)
      (λ k (tank : Tank). carried_levels (walls_of (with_inner p y) tank) tank (stocks_of_tank standing k)
      (inflow_of_tank (with_inner p y) grid row k) seconds)
      (λ k tank. ap₂ (λ (walls : Walls) (inflow : Interval). carried_levels walls tank (stocks_of_tank standing k)
      inflow seconds) (same_walls p x y alike tank) (same_inflow k)) 0 p.tanks.list

  same_stocks : (seconds k : ℕ) (tank : Tank)
      → stocks_next (with_inner p x) grid standing row seconds k tank
      ≡ stocks_next (with_inner p y) grid standing row seconds k tank
  same_stocks seconds k tank =
      ap₂ (λ (walls : Walls) (inflow : Interval). next_stocks walls tank (stocks_of_tank standing k) inflow seconds)
      (same_walls p x y alike tank) (same_inflow k)

  pub same_levels : (seconds : ℕ)
      → levels_next (with_inner p x) grid standing row seconds ≡ levels_next (with_inner p y) grid standing row seconds
  same_levels seconds = same_map_from
      (λ k tank. (stocks_next (with_inner p x) grid standing row seconds k tank).level)
      (λ k tank. (stocks_next (with_inner p y) grid standing row seconds k tank).level)
      (λ k tank. ap (λ (stocks : Stocks). stocks.level) (same_stocks seconds k tank)) 0 p.tanks.list

  pub same_volumes : (seconds : ℕ)
      → volumes_next (with_inner p x) grid standing row seconds
      ≡ volumes_next (with_inner p y) grid standing row seconds
  same_volumes seconds = same_map_from
      (λ k tank. (stocks_next (with_inner p x) grid standing row seconds k tank).volume)
      (λ k tank. (stocks_next (with_inner p y) grid standing row seconds k tank).volume)
      (λ k tank. ap (λ (stocks : Stocks). stocks.volume) (same_stocks seconds k tank)) 0 p.tanks.list

  -- ---- rules

  same_below : (seconds : ℕ)
      → readings_below (with_inner p x) grid standing row seconds
      ≡ readings_below (with_inner p y) grid standing row seconds
  same_below seconds =
      ap₂ (λ (levels : List Interval) (links : List LinkState). record {
        heads = heads_below grid row;
        levels = map (λ (level : Interval). whole level.lo) levels;
        flows = map least_magnitude (flow_boxes grid row);
        links = links;
      }) (same_carried seconds) (same_links_at p x y alike standing)

  same_above : (seconds : ℕ)
      → readings_above (with_inner p x) grid standing row seconds
      ≡ readings_above (with_inner p y) grid standing row seconds
  same_above seconds =
      ap₂ (λ (levels : List Interval) (links : List LinkState). record {
        heads = heads_above grid row;
        levels = map (λ (level : Interval). whole level.hi) levels;
        flows = map greatest_magnitude (flow_boxes grid row);
        links = links;
      }) (same_carried seconds) (same_links_at p x y alike standing)

  same_truth : (seconds : ℕ) (a b : Rule) → IsLikeRule a b
      → rule_truth (with_inner p x) grid standing row seconds a
      ≡ rule_truth (with_inner p y) grid standing row seconds b
  same_truth seconds a b like =
      ap₂ (λ (below above : Readings). rule_between (with_inner p x) (standing.time + seconds) below above a)
      (same_below seconds) (same_above seconds)
      ∙ same_rule p x y alike (standing.time + seconds) (readings_below (with_inner p y) grid standing row seconds)
      (readings_above (with_inner p y) grid standing row seconds) a b like

  pub same_truths : (seconds : ℕ)
      → rule_truths (with_inner p x) grid standing row seconds ≡ rule_truths (with_inner p y) grid standing row seconds
  same_truths seconds = zip_map IsLikeRule (rule_truth (with_inner p x) grid standing row seconds)
      (rule_truth (with_inner p y) grid standing row seconds) (same_truth seconds) x.rules.list y.rules.list alike.rules

  pub same_decided : (seconds : ℕ)
      → decided_changes (with_inner p x) grid standing row seconds
      ≡ decided_changes (with_inner p y) grid standing row seconds
  same_decided seconds =
      ap₂ (λ (truths : List Verdict) (links : List LinkState). rule_changes (with_inner p x) (map is_yes truths) links)
      (same_truths seconds) (same_links_at p x y alike standing)
      ∙ same_changes p x y alike (map is_yes (rule_truths (with_inner p y) grid standing row seconds))
      (links_at (with_inner p y) standing)

  pub same_commanded : (seconds : ℕ)
      → acted (with_inner p x) (map is_yes (rule_truths (with_inner p x) grid standing row seconds))
      (links_at (with_inner p x) standing)
      ≡ acted (with_inner p y) (map is_yes (rule_truths (with_inner p y) grid standing row seconds))
      (links_at (with_inner p y) standing)
  same_commanded seconds =
      ap₂ (λ (truths : List Verdict) (links : List LinkState). acted (with_inner p x) (map is_yes truths) links)
      (same_truths seconds) (same_links_at p x y alike standing)
      ∙ same_acted p x y alike (map is_yes (rule_truths (with_inner p y) grid standing row seconds))
      (links_at (with_inner p y) standing)
