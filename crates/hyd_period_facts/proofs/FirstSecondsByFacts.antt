-- First seconds of watched levels, by the facts of a period and by whatever standing and record these are of.
use Rattle.std.proofs.Common.{◌≡◌, inl, inr, ℕ, ◌+◌, min, List, [], ◌∷◌, ◌++◌, ◌∙◌}
use Rattle.std.proofs.Common.{subst}
use Rattle.std.specs.Prelude.{Some, slice_get, Contains}
use Rattle.std.proofs.lemmas.List.Elements.{Contains-append_left, Contains-push, Contains-push_cases}
use Rattle.hyd_spec.specs.ProgramTypes.{Project, Tank}
use Rattle.hyd_spec.specs.Tank.{walls_of}
use Rattle.hyd_spec_certificates.specs.Interval.{Interval}
use Rattle.hyd_spec_certificates.specs.PeriodNetwork.{Grid}
use Rattle.hyd_spec_certificates.specs.RecordAndStanding.{Record, Standing}
use Rattle.hyd_spec_certificates.specs.Stocks.{Stocks}
use Rattle.hyd_spec_certificates.specs.FirstSeconds.{IsFirstSecond}
use Rattle.hyd_spec_certificates.specs.Decided.{Watch, inflow_of_tank}
use Rattle.hyd_controls_and_rules.specs.PassedOn.{ReachTest, IsFirstAmong}
use Rattle.hyd_controls_and_rules.proofs.PassedOn.{one_watched, one_more}
use Rattle.hyd_controls_and_rules.proofs.PassedOn.{contains-here, contains-later, contains-cons}
use Rattle.hyd_period_facts.specs.declared.facts.Facts.{Facts}
use Rattle.hyd_period_facts.specs.FactsBeforeEnd.{stocks_in, inflow_in}
use Rattle.hyd_period_facts.specs.Watched.{IsReachedFirst, IsReachedAmong}
use Rattle.hyd_period_facts.proofs.StocksAndInflowsByFacts.{stocks_are, inflow_is}

-- ---- what facts say

-- the first second of a watched level is that of its tank's stocks and inflow
pub reached_first : (test : ReachTest) (project : Project) (facts : Facts) (cap : ℕ) (watch : Watch) (second : ℕ)
    (tank : Tank)
    (stocks : Stocks) (inflow : Interval)
    → slice_get project.tanks.list watch.tank ≡ Some tank → stocks ≡ stocks_in facts watch.tank
    → inflow ≡ inflow_in facts watch.tank
    → IsFirstSecond (test (walls_of project tank) tank stocks inflow watch.target watch.rising) cap second
    → IsReachedFirst test project facts cap watch second
reached_first test project facts cap watch second tank stocks inflow at are is first = λ grid standing row started.
    let there = are ∙ stocks_are project grid standing row facts started watch.tank in
    let flow = is ∙ inflow_is project grid standing row facts started watch.tank tank at in
    one_watched test project grid standing row cap watch tank second at
    (subst (λ (s : Stocks). IsFirstSecond (test (walls_of project tank) tank s
    (inflow_of_tank project grid row watch.tank) watch.target watch.rising) cap second) there
    (subst (λ (q : Interval). IsFirstSecond (test
    (walls_of project tank) tank stocks q watch.target watch.rising) cap second) flow first))

-- ---- the same levels in another order

pub reordered : (test : ReachTest) (project : Project) (grid : Grid) (standing : Standing) (row : Record) (cap : ℕ)
    (some others : List Watch) (second : ℕ) → ((w : Watch) → Contains some w → Contains others w)
    → ((w : Watch) → Contains others w → Contains some w)
    → IsFirstAmong test project grid standing row cap some second
    → IsFirstAmong test project grid standing row cap others second
reordered test project grid standing row cap some others second there back among = record {
  within = among.within;
  reached = elim among.reached [
    | inl at ↦ inl at
    | inr r ↦ inr (r.0, (r.1.0, (there r.1.0 r.1.1.0, r.1.1.1)))
  ];
  none_before = λ w c s some passes. among.none_before w (back w c) s some passes;
}

pub one_behind : (test : ReachTest) (project : Project) (facts : Facts) (cap : ℕ) (watch : Watch)
    (watched : List Watch) (f e : ℕ)
    → IsReachedFirst test project facts cap watch f → IsReachedAmong test project facts cap watched e
    → IsReachedAmong test project facts cap (watched ++ watch ∷ []) (min f e)
one_behind test project facts cap watch watched f e first among = λ grid standing row started.
    reordered test project grid standing row cap (watch ∷ watched) (watched ++ watch ∷ []) (min f e)
    (λ w c. elim (contains-cons Watch w watch watched c) [
      | inl is ↦ subst (λ (v : Watch). Contains (watched ++ watch ∷ []) v) is (Contains-push watched watch)
      | inr later ↦ Contains-append_left watched (watch ∷ []) w later
    ])
    (λ w c. elim (Contains-push_cases watched watch w c) [
      | inl before ↦ contains-later Watch w watch watched before
      | inr is ↦ subst (λ (v : Watch). Contains (watch ∷ watched) v) is (contains-here Watch watch watched)
    ])
    (one_more test project grid standing row cap watch watched e f (first grid standing row started)
    (among grid standing row started))
