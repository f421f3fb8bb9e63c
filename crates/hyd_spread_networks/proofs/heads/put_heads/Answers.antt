use Rattle.std.proofs.Common.{ℕ, ◌<◌, List, pos, length, map, slice_index_or, ap, ◌∙◌, arith}
use Rattle.std.proofs.lemmas.Int.{ints}
use Rattle.std.proofs.lemmas.List.{length-set}
use Rattle.hyd_spec_certificates.specs.Interval.{Interval, exactly}
use Rattle.hyd_spec_spread_rows.specs.declared.Ends.{Ends}
use Rattle.hyd_spec_spread_rows.specs.TextsOfSpreads.{interval_from}
use Rattle.hyd_spread_rows.specs.SpreadsRead.{spread_of}
use Rattle.hyd_spread_networks.proofs.ListsByNumber.{more_set}
use Rattle.hyd_spread_networks.proofs.HeadLemmas.{IsHeadAt, low_of, high_of, stays_then, least_are, greatest_are}
use Rattle.hyd_spread_networks.proofs.heads.put_heads.Goals as goal

abbrev offsets_in : ℕ → List Ends → Interval
offsets_in place rows = slice_index_or (map interval_from rows) place (exactly (pos 0))

pub loop-place-preserved : goal.loop-place-preserved
loop-place-preserved c =
    let project = c.args.project.now in
    let spread = spread_of c.args.rows.now in
    let time : ℕ = c.args.time in
    let place : ℕ = c.loop-place.place in
    let before = c.loop-place.invariant in
    let there : place < length project.reservoirs.list = omega (arith, before.count_least) in
    let stays = stays_then project c.requires.sound spread time place there c.requires.stay in
    let a = stays.least.at_least in
    let b = stays.least.at_most in
    let d = stays.greatest.at_least in
    let e = stays.greatest.at_most in
    let head = c.head_at.ensures.value in
    let offsets = c.offsets_at-offsets.ensures.value ∙ ap (offsets_in place) c.deref.ensures.value in
    let low = ap (λ (x : Interval). x.lo) offsets in
    let high = ap (λ (x : Interval). x.hi) offsets in
    record {
      count_least = length-set c.loop-place.least place _ ∙ before.count_least;
      count_greatest = length-set c.loop-place.greatest place _ ∙ before.count_greatest;
      least = λ k z lt. more_set (IsHeadAt low_of project spread time) c.loop-place.least place _
          (omega (arith, before.count_least)) before.least
          (record {
            value = omega (arith, ints, head, low, a, b);
            range = record {
              at_least = omega (arith, ints, head, low, a, b);
              at_most = omega (arith, ints, head, low, a, b);
            };
          }) k z lt;
      greatest = λ k z lt. more_set (IsHeadAt high_of project spread time) c.loop-place.greatest place _
          (omega (arith, before.count_greatest)) before.greatest
          (record {
            value = omega (arith, ints, head, high, d, e);
            range = record {
              at_least = omega (arith, ints, head, high, d, e);
              at_most = omega (arith, ints, head, high, d, e);
            };
          }) k z lt;
    }

pub returns-clause-least : goal.returns-clause-least
returns-clause-least c =
    least_are c.args.project.now (spread_of c.args.rows.now) c.args.time c.loop-place.least
    c.loop-place.invariant.count_least
    (λ k d lt. c.loop-place.invariant.least k d (omega (arith, lt, c.requires.each_least)))

pub returns-clause-greatest : goal.returns-clause-greatest
returns-clause-greatest c =
    greatest_are c.args.project.now (spread_of c.args.rows.now) c.args.time c.loop-place.greatest
    c.loop-place.invariant.count_greatest
    (λ k d lt. c.loop-place.invariant.greatest k d (omega (arith, lt, c.requires.each_least)))
