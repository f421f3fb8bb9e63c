use Rattle.std.proofs.Common.{◌≡◌, ℤ, pos, ◌-ℤ◌, ◌≤ℤ◌, ◌∙◌, sym, subst, ap, w64, to_z, of_z, arith, unsigned_abs}
use Rattle.std.proofs.lemmas.Int.{ints, to_z-of_z}
use borrow.Author.Differences.{up}
use Rattle.hyd_num.specs.CapacityPairs.{IsPressurePair}
use Rattle.hyd_spec.specs.ProgramTypes.{PressureDemand}
use Rattle.hyd_lemmas.proofs.PressurePairs.{IsInReach, pressure_pair, size_is, pressure-least, pressure-greatest}
use Rattle.hyd_capacities.proofs.pumps_emitters_and_demands.pda_capacity.Goals as goal

-- the demand as it is passed on
demand_is : (c : goal.After-square_over) → to_z w64 (of_z w64 c.args.demand) ≡ c.args.demand
demand_is c = to_z-of_z w64 c.args.demand c.ranges.demand

demand_size : (c : goal.After-square_over) → c.from.result ≡ up c.args.demand
demand_size c =
    let same = demand_is c in
    let size : c.unsigned_abs.result ≡ unsigned_abs c.args.demand = c.unsigned_abs.ensures.value
    ∙ ap unsigned_abs same in
    c.from.ensures ∙ size ∙ size_is c.args.demand (omega (arith, ints, c.requires.demanded))

head_size : (c : goal.After-square_over) → c.unsigned_abs-2.result ≡ up (c.args.pf.nano -ℤ c.args.p0.nano)
head_size c =
    let above : pos 0 ≤ℤ (c.args.pf.nano -ℤ c.args.p0.nano) = omega (arith, ints, c.requires.pressures.apart) in
    omega (
      arith,
      ints,
      c.unsigned_abs-2.ensures.value,
      c.args.pf.bounded,
      c.args.p0.bounded,
      size_is
          (c.args.pf.nano -ℤ c.args.p0.nano) above,
    )

made : (c : goal.After-square_over) → IsPressurePair c.args.demand c.args.p0 c.args.pf c.args.us c.square_over.result
made c = pressure_pair c.args.demand c.args.p0 c.args.pf c.args.us c.from.result c.unsigned_abs-2.result
    c.ratio-flows.result c.pressure_in_ticks-head.result c.square_over.result
    (demand_size c) (head_size c) c.ratio-flows.ensures.ratio c.pressure_in_ticks-head.ensures.value
    c.square_over.ensures

reach : (c : goal.After-square_over) → IsInReach c.args.demand c.args.p0 c.args.pf c.args.us
reach c = record {
  some = c.requires.demanded;
  not_negative = c.requires.pressures.not_negative;
  apart = c.requires.pressures.apart;
  at_most = c.requires.pressures.at_most;
}

pub capacity_inside-requires-clause-pair : goal.capacity_inside-requires-clause-pair
capacity_inside-requires-clause-pair c =
    subst (λ (z : ℤ). IsPressurePair z c.args.p0 c.args.pf c.args.us c.square_over.result) (sym (demand_is c)) (made c)

pub capacity_inside-requires-clause-least : goal.capacity_inside-requires-clause-least
capacity_inside-requires-clause-least c =
    pressure-least c.args.demand c.args.p0 c.args.pf c.args.us c.square_over.result (reach c) (made c)

pub capacity_inside-requires-clause-greatest : goal.capacity_inside-requires-clause-greatest
capacity_inside-requires-clause-greatest c =
    pressure-greatest c.args.demand c.args.p0 c.args.pf c.args.us c.square_over.result c.requires.demand (reach c)
    (made c)

pub returns-clause-origin : goal.returns-clause-origin
returns-clause-origin c =
    c.capacity_inside.ensures.origin ∙ ap (λ z. PressureDemand z c.args.p0 c.args.pf c.args.us)
    (to_z-of_z w64 c.args.demand c.ranges.demand)
