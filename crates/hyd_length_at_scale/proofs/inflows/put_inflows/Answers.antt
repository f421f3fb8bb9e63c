use Rattle.std.proofs.Common.{◌≡◌, ◌∙◌, ◌<◌, ◌≤◌, ℕ, ℤ, List, pos, length, unsigned_abs, sym, subst, arith, to_z, of_z}
use Rattle.std.proofs.Common.{below_more, get_or, get_or-set_other, get_or-set_same}
use Rattle.std.specs.Prelude.{slice_set}
use Rattle.std.specs.Int.{w128}
use Rattle.std.proofs.lemmas.Int.{to_z-of_z}
use Rattle.hyd_spec.specs.Tank.{tank_inflow}
use Rattle.hyd_stocks_at_scale.specs.Motions.{inflow_limit}
use Rattle.hyd_length_at_scale.proofs.inflows.put_inflows.Goals as goal

pub loop-tank-preserved : goal.loop-tank-preserved
loop-tank-preserved c =
    let flows = c.args.moment.now.flows.list in
    let i : ℕ = c.loop-tank.tank in
    let inflows : List ℤ = c.loop-tank.inflows in
    let inflow : ℤ = to_z w128 (of_z w128 c.tank_inflow.result) in
    let there : i < length inflows = omega arith in
    let kept = to_z-of_z w128 c.tank_inflow.result (record { sfits = c.tank_inflow.type_inv }) in
    let here = get_or-set_same inflows i inflow (pos 0) there ∙ kept in
    let other = λ (k : ℕ) (h : k < i). get_or-set_other inflows i k inflow (pos 0) (omega (arith, h)) in
    record {
      value = below_more (λ k. get_or (slice_set inflows i inflow) k (pos 0)
          ≡ tank_inflow c.args.project.now k flows) i
          (λ k h. other k h ∙ c.loop-tank.invariant.value k h) (here ∙ c.tank_inflow.ensures.value);
      small = below_more (λ k. unsigned_abs (get_or (slice_set inflows i inflow) k (pos 0)) ≤ inflow_limit) i
          (λ k h. subst (λ (z : ℤ). unsigned_abs z ≤ inflow_limit) (sym (other k h)) (c.loop-tank.invariant.small k h))
          (subst (λ (z : ℤ). unsigned_abs z ≤ inflow_limit) (sym here) c.tank_inflow.ensures.small);
    }
