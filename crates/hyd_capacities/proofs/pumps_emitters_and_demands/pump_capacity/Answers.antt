use Rattle.std.proofs.Common.{FitsSigned, ◌≡◌, ℕ, ◌<◌, ◌^◌, pos, ◌<ℤ◌, subst, ap, ◌∙◌, arith, unsigned_abs}
use Rattle.std.specs.Int.{w128}
use Rattle.std.proofs.lemmas.Int.{ints, to_z-of_z}
use borrow.Author.Differences.{up}
use Rattle.hyd_num.specs.FileQuantity.{head_ticks, is_us_unit}
use Rattle.hyd_num.specs.Pairs.{IsRatio}
use Rattle.hyd_lemmas.proofs.PressurePairs.{size_is}
use Rattle.hyd_capacities.proofs.HeadTicks.{ticks_above, ticks_short}
use Rattle.hyd_capacities.proofs.pumps_emitters_and_demands.pump_capacity.Goals as goal

pub ratio-head-requires-clause-p_positive : goal.ratio-head-requires-clause-p_positive
ratio-head-requires-clause-p_positive c =
    let head : FitsSigned w128 c.head_ticks.result = record { sfits = c.head_ticks.type_inv } in
    let some : pos 0 <ℤ c.head_ticks.result =
    rw c.head_ticks.ensures (ticks_above c.is_us.result c.args.drop.nano c.requires.drop) in
    omega (arith, ints, c.unsigned_abs-drop_in_ticks.ensures.value, to_z-of_z w128 c.head_ticks.result head, some)

pub ratio-head-requires-clause-p_short : goal.ratio-head-requires-clause-p_short
ratio-head-requires-clause-p_short c =
    let head : FitsSigned w128 c.head_ticks.result = record { sfits = c.head_ticks.type_inv } in
    let short : unsigned_abs c.head_ticks.result < 2 ^ 100 =
    rw c.head_ticks.ensures (ticks_short c.is_us.result c.args.drop.nano c.args.drop.bounded) in
    omega (arith, ints, c.unsigned_abs-drop_in_ticks.ensures.value, to_z-of_z w128 c.head_ticks.result head, short)

pub capacity-requires : goal.capacity-requires
capacity-requires c =
    let head : FitsSigned w128 c.head_ticks.result = record { sfits = c.head_ticks.type_inv } in
    let some : pos 0 <ℤ c.head_ticks.result =
    rw c.head_ticks.ensures (ticks_above c.is_us.result c.args.drop.nano c.requires.drop) in
    let size : c.unsigned_abs-drop_in_ticks.result ≡ up c.head_ticks.result =
    c.unsigned_abs-drop_in_ticks.ensures.value
    ∙ ap unsigned_abs (to_z-of_z w128 c.head_ticks.result head)
    ∙ size_is c.head_ticks.result (omega (arith, ints, some)) in
    let ticks : c.unsigned_abs-drop_in_ticks.result ≡ up (head_ticks (is_us_unit c.args.unit) c.args.drop.nano) =
    size ∙ ap up c.head_ticks.ensures ∙ ap (λ us. up (head_ticks us c.args.drop.nano)) c.is_us.ensures in
    record {
      flows = c.flow_in_ticks-flows.result;
      flows_is = c.flow_in_ticks-flows.ensures.value;
      head = c.ratio-head.result;
      head_is = subst (λ (n : ℕ). IsRatio n c.args.thirds c.ratio-head.result) ticks
          (subst (λ (n : ℕ). IsRatio c.unsigned_abs-drop_in_ticks.result n c.ratio-head.result) c.from.ensures
          c.ratio-head.ensures.ratio);
      capacity_is = c.square_over.ensures;
    }
