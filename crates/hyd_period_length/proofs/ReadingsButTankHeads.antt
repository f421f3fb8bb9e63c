-- What the program reads is what the rules look at, but for the heads of tanks.
use Rattle.std.proofs.Common.{◌≡◌, ℕ, ℤ, ◌+◌, Bool, List, ◌++◌, length, ap, ◌∙◌, subst, arith, append_assoc}
use Rattle.std.specs.Prelude.{Result, Ok, Err, pos, map, slice_index_or, IfErr, OnOk}
use Rattle.hyd_num.specs.Rational.{whole}
use Rattle.hyd_num.specs.declared.spans.Span.{Span}
use Rattle.hyd_spec.specs.ProgramTypes.{Project, LinkState}
use Rattle.hyd_spec.specs.Lists.{map_from}
use Rattle.hyd_spec.specs.NodeNumbers.{nodes_before_tanks}
use Rattle.hyd_spec.specs.Rules.{Readings}
use Rattle.hyd_spec_certificates.specs.SpansAsIntervals.{levels_of, flows_of}
use Rattle.hyd_spec_certificates.specs.declared.Problem.TheVariants.{Main}
use Rattle.hyd_spec_certificates.specs.declared.Side.{Side}
use Rattle.hyd_spec_certificates.specs.declared.Side.TheVariants.{Upper, Lower}
use Rattle.hyd_spec_certificates.specs.declared.LevelSpan.{LevelSpan}
use Rattle.hyd_spec_certificates.specs.Interval.{Interval}
use Rattle.hyd_spec_certificates.specs.PeriodNetwork.{Grid, end_on, tank_side}
use Rattle.hyd_spec_certificates.specs.RecordAndStanding.{Record, Standing}
use Rattle.hyd_spec_certificates.specs.Decided.{IsOpenRule, carried_at, readings_below, readings_above, least_magnitude}
use Rattle.hyd_spec_certificates.specs.Decided.{greatest_magnitude}
use Rattle.hyd_controls_and_rules.specs.AlikeButTankHeads.{AreAlike}
use Rattle.hyd_controls_and_rules.specs.RuleReadings.{lower_readings, upper_readings}
use Rattle.hyd_controls_and_rules.proofs.TankHeadsUnread.{heads_behind}
use Rattle.hyd_period_facts.specs.declared.facts.Facts.{Facts}
use Rattle.hyd_period_length.specs.declared.truth_of_rules.RuleOpen.{RuleOpen}
use Rattle.hyd_period_length.specs.TruthOfRules.{AreKnown, IsFirstOpen}
use Rattle.hyd_period_facts.specs.FactsBeforeEnd.{AreStarted}
use Rattle.hyd_period_length.specs.TriedRules.{AreDecided, open_rule}
use Rattle.hyd_period_length.specs.Readings.{AreRead}

-- what follows from an answer
pub if_ok : {A E : Type 0} (P Q : Type 0) (result : Result A E) → OnOk result P → (P → Q) → OnOk result Q
if_ok P Q (Ok value) p f = f p
if_ok P Q (Err fault) p f = p

pub if_err : {A E : Type 0} (P Q : E → Type 0) (result : Result A E) → IfErr result P → ((e : E) → P e → Q e)
    → IfErr result Q
if_err P Q (Ok value) p f = p
if_err P Q (Err fault) p f = f fault p

module _ (project : Project) (grid : Grid) (standing : Standing) (row : Record) (facts : Facts) (seconds : ℕ)
    (started : AreStarted project grid standing row facts) (low high : List ℤ) (flows : List Span)
    (read : AreRead grid row low high flows) (levels : List LevelSpan)
    (carried : map levels_of levels ≡ carried_at project grid standing row seconds) (links : List LinkState)
    (links_are : links ≡ facts.links.list) where
  abbrev tank_ends : Side → List ℤ
  tank_ends side = map_from (λ k tank. end_on (tank_side Main side k) tank) 0 grid.tanks

  abbrev lower : Readings
  lower = lower_readings low (map flows_of flows) (map levels_of levels) links

  abbrev upper : Readings
  upper = upper_readings high (map flows_of flows) (map levels_of levels) links

  pub alike_below : length low ≡ nodes_before_tanks project
      → AreAlike project lower (readings_below project grid standing row seconds)
  alike_below each = record {
    heads = λ node h. heads_behind low (tank_ends Lower) node (omega (arith, h, each))
        ∙ ap (λ (hs : List ℤ). slice_index_or hs node (pos 0)) (ap (λ (hs : List ℤ). hs ++ tank_ends Lower) read.low_is
        ∙ append_assoc row.main.lower grid.reservoirs (tank_ends Lower));
    levels = ap (λ (ls : List Interval). map (λ (level : Interval). whole level.lo) ls) carried;
    flows = ap (λ (qs : List Interval). map least_magnitude qs) read.flows_are;
    links = links_are ∙ started.links;
  }

  pub alike_above : length high ≡ nodes_before_tanks project
      → AreAlike project upper (readings_above project grid standing row seconds)
  alike_above each = record {
    heads = λ node h. heads_behind high (tank_ends Upper) node (omega (arith, h, each))
        ∙ ap (λ (hs : List ℤ). slice_index_or hs node (pos 0)) (ap (λ (hs : List ℤ). hs ++ tank_ends Upper) read.high_is
        ∙ append_assoc row.main.upper grid.reservoirs (tank_ends Upper));
    levels = ap (λ (ls : List Interval). map (λ (level : Interval). whole level.hi) ls) carried;
    flows = ap (λ (qs : List Interval). map greatest_magnitude qs) read.flows_are;
    links = links_are ∙ started.links;
  }

  pub decided_so : (values : List Bool) → AreKnown project (facts.time + seconds)
      (readings_below project grid standing row seconds) (readings_above project grid standing row seconds) values
      → AreDecided project grid standing row seconds values
  decided_so values known =
      let there = subst (λ (t : ℕ). AreKnown project (t + seconds) (readings_below project grid standing row seconds)
      (readings_above project grid standing row seconds) values) started.time known in
      record { none_open = there.none_open; values_are = there.values_are }

  pub open_so : (found : RuleOpen) → IsFirstOpen project (facts.time + seconds)
      (readings_below project grid standing row seconds) (readings_above project grid standing row seconds) found
      → IsOpenRule project grid standing row seconds (open_rule found)
  open_so found first =
      let there = subst (λ (t : ℕ). IsFirstOpen project (t + seconds) (readings_below project grid standing row seconds)
      (readings_above project grid standing row seconds) found) started.time first in
      record { first_rule = there.first_rule; rule = there.rule; is_rule = there.is_rule; clause_is = there.clause_is }
