use Rattle.std.proofs.Common.{◌≡◌, ℕ, ℤ, rules, subst, sym, arith}
use Rattle.std.proofs.lemmas.Int.{ints}
use Rattle.hyd_net.specs.NumberRanges.{IsHead}
use Rattle.hyd_spec.specs.DemandsHeadsAndPumpLifts.{reservoir_head}
use Rattle.hyd_demands_and_reservoir_heads.specs.DemandsAndHeadsByNumber.{head_of_reservoir}
use Rattle.hyd_period_network.proofs.ListsItemByItem.{more_set, mapped}
use Rattle.hyd_period_network.proofs.fixed_heads.set_reservoirs.Goals as goal

pub loop-i-preserved : goal.loop-i-preserved
loop-i-preserved c =
    let head = c.head_at.ensures.head in
    let same : c.set_head.new.head ≡ c.head_at.result = omega (
      arith,
      ints,
      c.set_head.ensures,
      head.at_least,
      head.at_most,
    ) in
    record {
      count = search rules;
      set = more_set (λ (k : ℕ) (h : ℤ). (h ≡ head_of_reservoir c.args.project.now c.args.time k) × IsHead h)
          c.loop-i.heads c.loop-i.i c.set_head.new.head
          (omega arith) c.loop-i.invariant.set
          (subst (λ (h : ℤ). (h ≡ head_of_reservoir c.args.project.now c.args.time c.loop-i.i) × IsHead h) (sym same)
          (c.head_at.ensures.value, head));
    }

pub returns-clause-set : goal.returns-clause-set
returns-clause-set c =
    mapped (reservoir_head c.args.project.now c.args.time) c.args.project.now.reservoirs.list c.loop-i.heads
    c.loop-i.invariant.count
    (λ k y h. (c.loop-i.invariant.set k y (omega arith)).0)
