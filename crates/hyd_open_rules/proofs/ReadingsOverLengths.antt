-- What the program reads is what the rules look at over lengths, but for the heads of tanks.
use Rattle.std.proofs.Common.{◌≡◌, ℕ, ℤ, ◌+◌, ◌-◌, Bool, List, ◌++◌, length, ap, ◌∙◌, subst, sym, arith, append_assoc}
use Rattle.std.specs.Prelude.{pos, map, slice_index_or}
use Rattle.hyd_num.specs.Rational.{whole}
use Rattle.hyd_num.specs.declared.spans.Span.{Span}
use Rattle.hyd_spec.specs.ProgramTypes.{Project, LinkState}
use Rattle.hyd_spec.specs.Lists.{map_from}
use Rattle.hyd_spec.specs.NodeNumbers.{nodes_before_tanks}
use Rattle.hyd_spec.specs.Rules.{Readings as Reads}
use Rattle.hyd_spec_certificates.specs.SpansAsIntervals.{levels_of, flows_of}
use Rattle.hyd_spec_certificates.specs.declared.Problem.TheVariants.{Main}
use Rattle.hyd_spec_certificates.specs.declared.Side.{Side}
use Rattle.hyd_spec_certificates.specs.declared.Side.TheVariants.{Upper, Lower}
use Rattle.hyd_spec_certificates.specs.declared.LevelSpan.{LevelSpan}
use Rattle.hyd_spec_certificates.specs.Interval.{Interval}
use Rattle.hyd_spec_certificates.specs.PeriodNetwork.{Grid, end_on, tank_side}
use Rattle.hyd_spec_certificates.specs.RecordAndStanding.{Record}
use Rattle.hyd_spec_certificates.specs.Decided.{least_magnitude, greatest_magnitude}
use Rattle.hyd_spec_open_ends.specs.OpenStandings.{OpenStanding}
use Rattle.hyd_spec_open_ends.specs.RulesOverLengths.{carried_over, readings_below_over, readings_above_over}
use Rattle.hyd_spec_open_ends.specs.RulesOverLengths.{IsOpenRuleOver}
use Rattle.hyd_controls_and_rules.specs.AlikeButTankHeads.{AreAlike}
use Rattle.hyd_controls_and_rules.specs.RuleReadings.{lower_readings, upper_readings}
use Rattle.hyd_controls_and_rules.proofs.TankHeadsUnread.{heads_behind}
use Rattle.hyd_period_facts.specs.declared.facts.Facts.{Facts}
use Rattle.hyd_period_facts.specs.FactsBeforeEnd.{AreStarted}
use Rattle.hyd_period_length.specs.declared.truth_of_rules.RuleOpen.{RuleOpen}
use Rattle.hyd_period_length.specs.declared.readings.Readings.{Readings}
use Rattle.hyd_period_length.specs.TruthOfRules.{AreKnown, IsFirstOpen}
use Rattle.hyd_period_length.specs.TriedRules.{open_rule}
use Rattle.hyd_period_length.specs.Readings.{AreRead}
use Rattle.hyd_open_rules.specs.OpenReadings.{AreDecidedOver}

module _ (project : Project) (grid : Grid) (standing : OpenStanding) (row : Record) (facts : Facts) (seconds late : ℕ)
    (started : AreStarted project grid standing.known row facts) (open_by : standing.late ≡ late) (readings : Readings)
    (read : AreRead grid row readings.low.list readings.high.list readings.flows.list) (low high : List ℤ)
    (flows : List Span) (lows_are : low ≡ readings.low.list) (highs_are : high ≡ readings.high.list)
    (boxes_are : flows ≡ readings.flows.list) (levels : List LevelSpan)
    (carried : map levels_of levels ≡ carried_over project grid standing.known row (seconds - late) seconds)
    (links : List LinkState) (links_are : links ≡ facts.links.list) where
  abbrev tank_ends : Side → List ℤ
  tank_ends side = map_from (λ k tank. end_on (tank_side Main side k) tank) 0 grid.tanks

  abbrev lower : Reads
  lower = lower_readings low (map flows_of flows) (map levels_of levels) links

  abbrev upper : Reads
  upper = upper_readings high (map flows_of flows) (map levels_of levels) links

  abbrev pub below : Reads
  below = readings_below_over project grid standing.known row (seconds - standing.late) seconds

  abbrev pub above : Reads
  above = readings_above_over project grid standing.known row (seconds - standing.late) seconds

  carried_there : map levels_of levels
      ≡ carried_over project grid standing.known row (seconds - standing.late) seconds
  carried_there = carried ∙ ap (λ (n : ℕ). carried_over project grid standing.known row (seconds - n) seconds)
      (sym open_by)

  pub alike_below : length readings.low.list ≡ nodes_before_tanks project → AreAlike project lower below
  alike_below each = record {
    heads = λ node h. heads_behind low (tank_ends Lower) node (omega (arith, h, each, ap length lows_are))
        ∙ ap (λ (hs : List ℤ). slice_index_or hs node (pos 0)) (ap (λ (hs : List ℤ). hs ++ tank_ends Lower)
        (lows_are ∙ read.low_is)
        ∙ append_assoc row.main.lower grid.reservoirs (tank_ends Lower));
    levels = ap (λ (ls : List Interval). map (λ (level : Interval). whole level.lo) ls) carried_there;
    flows = ap (λ (qs : List Interval). map least_magnitude qs)
        (ap (λ (qs : List Span). map flows_of qs) boxes_are ∙ read.flows_are);
    links = links_are ∙ started.links;
  }

  pub alike_above : length readings.high.list ≡ nodes_before_tanks project → AreAlike project upper above
  alike_above each = record {
    heads = λ node h. heads_behind high (tank_ends Upper) node (omega (arith, h, each, ap length highs_are))
        ∙ ap (λ (hs : List ℤ). slice_index_or hs node (pos 0)) (ap (λ (hs : List ℤ). hs ++ tank_ends Upper)
        (highs_are ∙ read.high_is)
        ∙ append_assoc row.main.upper grid.reservoirs (tank_ends Upper));
    levels = ap (λ (ls : List Interval). map (λ (level : Interval). whole level.hi) ls) carried_there;
    flows = ap (λ (qs : List Interval). map greatest_magnitude qs)
        (ap (λ (qs : List Span). map flows_of qs) boxes_are ∙ read.flows_are);
    links = links_are ∙ started.links;
  }

  pub decided_so : (values : List Bool) → AreKnown project (facts.time + seconds) below above values
      → AreDecidedOver project grid standing row seconds values
  decided_so values known =
      let there = subst (λ (t : ℕ). AreKnown project (t + seconds) below above values) started.time known in
      record { none_open = there.none_open; values_are = there.values_are }

  pub open_so : (found : RuleOpen) → IsFirstOpen project (facts.time + seconds) below above found
      → IsOpenRuleOver project grid standing row seconds (open_rule found)
  open_so found first =
      let there = subst (λ (t : ℕ). IsFirstOpen project (t + seconds) below above found) started.time first in
      record { first_rule = there.first_rule; rule = there.rule; is_rule = there.is_rule; clause_is = there.clause_is }
