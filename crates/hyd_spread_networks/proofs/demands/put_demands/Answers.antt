use Rattle.std.proofs.Common.{ℕ, List, [], None, pos, map, slice_index_or, ap, subst, ◌∙◌, arith}
use Rattle.std.proofs.lemmas.Int.{ints}
use Rattle.std.proofs.lemmas.List.{length-set}
use Rattle.hyd_net.specs.declared.nodes.Junction.{Junction}
use Rattle.hyd_demands_and_reservoir_heads.specs.DemandsAndHeadsByNumber.{junction_demand, IsInRange}
use Rattle.hyd_spec_certificates.specs.Interval.{Interval}
use Rattle.hyd_spec_spread.specs.Spreads.{Factors, one_alone}
use Rattle.hyd_spec_spread_rows.specs.declared.Ends.{Ends}
use Rattle.hyd_spec_spread.specs.IntervalsOfData.{products}
use Rattle.hyd_spec_spread_rows.specs.TextsOfSpreads.{factors_from, interval_from}
use Rattle.hyd_spread_rows.specs.SpreadsRead.{spread_of}
use Rattle.hyd_spread_networks.proofs.ListsByNumber.{more_set}
use Rattle.hyd_spread_networks.proofs.HeadLemmas.{low_of, high_of}
use Rattle.hyd_spread_networks.proofs.DemandLemmas.{IsEnd, ends_left, ends_are, more_in_range, all_in_range, first_over}
use Rattle.hyd_spread_networks.proofs.demands.put_demands.Goals as goal

abbrev factors_in : ℕ → List Ends → Factors
factors_in place rows = slice_index_or (map factors_from rows) place one_alone

pub loop-place-preserved : goal.loop-place-preserved
loop-place-preserved c =
    let project = c.args.project.now in
    let spread = spread_of c.args.rows.now in
    let time : ℕ = c.args.time in
    let place : ℕ = c.loop-place.place in
    let before = c.loop-place.invariant in
    let left = ends_left project spread time place (factors_from c.factors_at.result) (interval_from c.in-Ok.ends)
    (c.factors_at.ensures.value ∙ ap (factors_in place) c.deref.ensures.value) c.in-Ok.ensures.ends in
    let low = ap (λ (x : Interval). x.lo) left in
    let high = ap (λ (x : Interval). x.hi) left in
    let a = c.in-Ok.ensures.least in
    let b = c.in-Ok.ensures.greatest in
    record {
      count_least = length-set c.loop-place.least place _ ∙ before.count_least;
      count_greatest = length-set c.loop-place.greatest place _ ∙ before.count_greatest;
      least = λ k z lt. more_set (IsEnd low_of project spread time) c.loop-place.least place _
          (omega (arith, before.count_least)) before.least
          (record { value = omega (arith, ints, low, a); range = omega (arith, ints, a) }) k z lt;
      greatest = λ k z lt. more_set (IsEnd high_of project spread time) c.loop-place.greatest place _
          (omega (arith, before.count_greatest)) before.greatest
          (record { value = omega (arith, ints, high, b); range = omega (arith, ints, b) }) k z lt;
      in_range = more_in_range project spread time place (interval_from c.in-Ok.ends) left a b before.in_range;
    }

pub returns-clause-least : goal.returns-clause-least
returns-clause-least c =
    ends_are low_of c.args.project.now (spread_of c.args.rows.now) c.args.time c.loop-place.least
    c.loop-place.invariant.count_least
    (λ k d lt. c.loop-place.invariant.least k d (omega (arith, lt, c.requires.each_least)))

pub returns-clause-greatest : goal.returns-clause-greatest
returns-clause-greatest c =
    ends_are high_of c.args.project.now (spread_of c.args.rows.now) c.args.time c.loop-place.greatest
    c.loop-place.invariant.count_greatest
    (λ k d lt. c.loop-place.invariant.greatest k d (omega (arith, lt, c.requires.each_least)))

pub returns-clause-in_range : goal.returns-clause-in_range
returns-clause-in_range c =
    all_in_range c.args.project.now (spread_of c.args.rows.now) c.args.time
    (λ k lt. c.loop-place.invariant.in_range k (omega (arith, lt, c.requires.each_least)))

nothing : Junction
nothing = record { elevation = pos 0; demands = record { list = []; spare = 0 }; emitter = None }

pub returns-in-Err-clause-refused : goal.returns-in-Err-clause-refused
returns-in-Err-clause-refused c =
    let project = c.args.project.now in
    let spread = spread_of c.args.rows.now in
    let time : ℕ = c.args.time in
    let place : ℕ = c.loop-place.place in
    let before = c.loop-place.invariant in
    let same = c.factors_at.ensures.value ∙ ap (factors_in place) c.deref.ensures.value in
    let own = c.in-Err.ensures.own in
    let fits = rw c.in-Err.is at c.demand_between.type_inv in
    first_over project spread time place _ nothing (omega (arith, before.count_least)) (omega (arith, ints, own, fits))
    (subst (λ (f : Factors). IsInRange (products f (junction_demand project time place)).lo
    → IsInRange (products f (junction_demand project time place)).hi → ⊥) same c.in-Err.ensures.beyond)
    before.in_range
