use Rattle.std.proofs.Common.{◌≡◌, ℕ, ℤ, pos, slice_index_or, to_z, of_z, w64, subst, ◌∙◌, arith}
use Rattle.std.proofs.lemmas.Int.{ints}
use Rattle.std.proofs.lemmas.List.{length-set}
use Rattle.hyd_lemmas.proofs.ListsOptionsAndResults.{any_default}
use Rattle.hyd_law.specs.declared.demand_law_kinds.OutLaw.{OutLaw}
use Rattle.hyd_period_network.specs.Demands.{IsOutLawOf}
use Rattle.hyd_period_network.proofs.DemandLaws.{held_set}
use Rattle.hyd_period_network.proofs.ListsItemByItem.{more_set, zipped}
use Rattle.hyd_period_network.proofs.given_data.give_demands.Goals as goal

pub loop-i-preserved : goal.loop-i-preserved
loop-i-preserved c =
    let i : ℕ = c.loop-i.i in
    let project = c.args.project.now in
    let wanted = c.args.given.now in
    let read : ℤ = slice_index_or wanted i (pos 0) in
    let q : ℤ = to_z w64 (of_z w64 read) in
    let law : OutLaw = c.set_demand.new.law in
    let n = length-set c.loop-i.demands i law in
    let range = c.requires.in_range i (pos 0) (omega arith) in
    let same : q ≡ read = omega (arith, ints, range) in
    record {
      count = omega (arith, n, c.loop-i.invariant.count);
      held = held_set project i c.loop-i.demands q law c.loop-i.invariant.held (omega arith)
          c.set_demand.ensures.law c.set_demand.ensures.held;
      set = λ k d lt z. more_set (λ (m : ℕ) (l : OutLaw). (x : ℤ) → IsOutLawOf project (slice_index_or wanted m x) l)
          c.loop-i.demands i law (omega (arith, c.loop-i.invariant.count))
          (λ m l less x. c.loop-i.invariant.set m l less x)
          (λ x. subst (λ (y : ℤ). IsOutLawOf project y law) (same ∙ any_default wanted i (pos 0) x (omega arith))
          c.set_demand.ensures.law)
          k d lt z;
    }

pub returns-clause-set : goal.returns-clause-set
returns-clause-set c =
    zipped (IsOutLawOf c.args.project.now) c.args.given.now c.loop-i.demands c.loop-i.invariant.count
    (λ k q law lt. c.loop-i.invariant.set k law (omega (arith, lt)) q)
