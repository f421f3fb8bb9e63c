use Rattle.std.proofs.Common.{◌≡◌, ℤ, ◌*◌, ◌*ℤ◌, ◌^◌, List, All, to_z, of_z, w64, sym, subst, ◌∙◌, arith}
use Rattle.std.specs.Bool.{OnTrue}
use Rattle.std.proofs.lemmas.Int.{ints}
use Rattle.hyd_net.specs.NumberRanges.{LiesWithin, head_limit}
use Rattle.hyd_spec.specs.WholeNumbers.{cut}
use Rattle.hyd_spec.specs.DemandsHeadsAndPumpLifts.{multipliers_of}
use Rattle.hyd_spec_spread_rows.specs.TextsOfSpreads.{interval_from}
use Rattle.hyd_spread_networks.specs.HeadsBySpreads.{StaysHead}
use Rattle.hyd_spread_networks.proofs.HeadLemmas.{no_pattern, multipliers_are}
use Rattle.hyd_spread_networks.proofs.heads.stays_at.Goals as goal

pub all_stay-requires-clause-range : goal.all_stay-requires-clause-range
all_stay-requires-clause-range c =
    let project = c.args.project.now in
    let head : ℤ = c.args.reservoir.now.head in
    let has = rw c.in-Some.is at c.requires.reservoir.pattern in
    let same : to_z w64 (of_z w64 head) ≡ head = omega (arith, ints) in
    let are = c.multipliers_of.ensures ∙ multipliers_are project c.in-Some.pattern has.in_range in
    subst (λ (x : ℤ). All (λ m. LiesWithin (head_limit * 10 ^ 9) (x *ℤ m)) c.multipliers_of.result.now) (sym same)
    (subst (λ (ms : List ℤ). All (λ m. LiesWithin (head_limit * 10 ^ 9) (head *ℤ m)) ms) (sym are)
    (has.holds no_pattern))

pub returns-in-Some-clause-yes : goal.returns-in-Some-clause-yes
returns-in-Some-clause-yes c =
    let head : ℤ = c.args.reservoir.now.head in
    let same : to_z w64 (of_z w64 head) ≡ head = omega (arith, ints) in
    rw c.in-Some.is (subst (λ (x : ℤ). OnTrue c.all_stay.result (All (λ m. StaysHead (interval_from c.args.offsets)
    (cut (x *ℤ m) (10 ^ 9))) (multipliers_of c.args.project.now c.in-Some.pattern))) same
    (subst (λ (ms : List ℤ). OnTrue c.all_stay.result (All (λ m. StaysHead (interval_from c.args.offsets)
    (cut (to_z w64 (of_z w64 head) *ℤ m) (10 ^ 9))) ms)) c.multipliers_of.ensures c.all_stay.ensures.yes))
