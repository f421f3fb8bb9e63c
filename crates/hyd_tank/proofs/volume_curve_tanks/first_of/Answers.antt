use Rattle.std.proofs.Common.{◌≡◌, ◌-ℤ◌, ◌*ℤ◌, pos, Bool, sym, subst, arith, to_z, of_z, true, false}
use Rattle.std.specs.Int.{w128}
use Rattle.std.proofs.lemmas.Int.{ints, to_z-of_z}
use Rattle.hyd_tank.specs.declared.first_second_at_target.Target.{Target}
use Rattle.hyd_tank.specs.Targets.{IsSmall, IsFirstMet}
use Rattle.hyd_tank.proofs.MixedNumbers.{start_is}
use Rattle.hyd_tank.proofs.TargetVolumes.{rises_met, falls_met}
use Rattle.hyd_tank.proofs.volume_curve_tanks.first_of.Goals as goal

pub returns-in-Parts : goal.returns-in-Parts
returns-in-Parts c =
    let parts = c.in-Parts.parts in
    let small = subst IsSmall c.in-Parts.is c.requires.target in
    let start = start_is 864 c.from.result c.in_parts-start.result c.args.volume c.in_parts-start.ensures.value
    c.from.ensures (omega arith) (omega (arith, ints)) in
    let need = to_z w128 (of_z w128 (to_z w128 (of_z w128 parts) -ℤ to_z w128 (of_z w128 c.in_parts-start.result))) in
    let same : need ≡ parts -ℤ (pos 864 *ℤ c.args.volume) = omega (arith, ints, start, small) in
    let q = to_z-of_z w128 c.args.inflow c.ranges.inflow in
    subst (λ (r : Bool). IsFirstMet c.args.volume c.args.inflow c.args.target r c.args.cap c.first_meeting.result)
    (sym c.if-rising.true)
    (subst (λ (t : Target). IsFirstMet c.args.volume c.args.inflow t true c.args.cap c.first_meeting.result)
    (sym c.in-Parts.is)
    (rises_met c.args.volume c.args.inflow need parts c.args.cap c.first_meeting.result same
    (rw q at c.first_meeting.ensures)))

pub returns-in-Parts-2 : goal.returns-in-Parts-2
returns-in-Parts-2 c =
    let parts = c.in-Parts-2.parts in
    let small = subst IsSmall c.in-Parts-2.is c.requires.target in
    let start = start_is 864 c.from.result c.in_parts-start.result c.args.volume c.in_parts-start.ensures.value
    c.from.ensures (omega arith) (omega (arith, ints)) in
    let need = to_z w128 (of_z w128 (to_z w128 (of_z w128 c.in_parts-start.result) -ℤ to_z w128 (of_z w128 parts))) in
    let same : need ≡ (pos 864 *ℤ c.args.volume) -ℤ parts = omega (arith, ints, start, small) in
    let back = to_z w128 (of_z w128 (pos 0 -ℤ to_z w128 (of_z w128 c.args.inflow))) in
    subst (λ (r : Bool). IsFirstMet c.args.volume c.args.inflow c.args.target r c.args.cap
    c.first_meeting-in-Parts-2.result) (sym c.if-rising.false)
    (subst (λ (t : Target). IsFirstMet c.args.volume c.args.inflow t false c.args.cap
    c.first_meeting-in-Parts-2.result) (sym c.in-Parts-2.is)
    (falls_met c.args.volume c.args.inflow back need parts c.args.cap c.first_meeting-in-Parts-2.result same
    (omega (arith, ints))
    c.first_meeting-in-Parts-2.ensures))
