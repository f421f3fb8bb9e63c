use Rattle.std.proofs.Common.{◌≡◌, ◌<◌, ◌-◌, length, to_z, of_z, w64, ◌∙◌, refl, ap, sym, subst, slice_index_or, arith}
use Rattle.std.proofs.lemmas.Int.{ints}
use Rattle.std.proofs.lemmas.Option.{slice_get_read}
use Rattle.hyd_spec_certificates.specs.PeriodNetwork.{tank_side}
use Rattle.hyd_period_network.specs.NetView.{NetView}
use Rattle.hyd_period_network.specs.SoundNets.{AreHeads}
use Rattle.hyd_period_network.proofs.HeadsOfReservoirsAndTanks.{fixed_tank, upper_end, lower_end}
use Rattle.hyd_period_network.proofs.NetItemsInGrid.{all_at}
use Rattle.hyd_period_network.proofs.net.Net.fixed.Goals as goal

pub returns-then-is_upper-clause-value : goal.returns-then-is_upper-clause-value
returns-then-is_upper-clause-value c u e =
    let nj = ap (λ (n : NetView). length n.junctions) c.self.view_is in
    let nr = ap (λ (n : NetView). length n.reservoirs) c.self.view_is in
    let nt = ap (λ (n : NetView). length n.tanks) c.self.view_is in
    let t = c.args.node - c.len-before.result - c.len-2.result in
    let tank = c.index-heads.result.now in
    let within : c.args.node - c.len-before.result - c.len-2.result < length c.self.inside.tanks.items =
    omega (arith, nj, nr, nt, c.requires.in_range, c.requires.fixed, c.len-before.ensures, c.len-2.ensures) in
    let at = slice_get_read c.self.inside.tanks.items (length c.self.inside.tanks.items) t tank refl within
    c.index-heads.ensures in
    let heads = all_at AreHeads c.self.inside.tanks.items t tank c.self.invariant.0.tanks at in
    let same : to_z w64 (of_z w64 tank.hi) ≡ tank.hi = omega (arith, ints, heads.hi.at_least, heads.hi.at_most) in
    fixed_tank c.args.self.now c.args.problem c.args.side c.args.node c.len-before.result c.len-2.result tank
    (to_z w64 (of_z w64 tank.hi)) u
    (omega (arith, nj, c.len-before.ensures)) (omega (arith, nr, c.len-2.ensures)) e
    (omega (arith, nj, c.requires.fixed, c.len-before.ensures))
    (omega (arith, c.if-number-len.false, c.len.ensures, c.len-2.ensures)) (omega (arith, nt, within))
    (subst (λ (n : NetView). tank ≡ slice_index_or n.tanks t tank) c.self.view_is c.index-heads.ensures)
    (same ∙ upper_end (tank_side c.args.problem c.args.side t) tank (sym c.is_upper.ensures ∙ c.if-is_upper.true))

pub returns-else-is_upper-clause-value : goal.returns-else-is_upper-clause-value
returns-else-is_upper-clause-value c u e =
    let nj = ap (λ (n : NetView). length n.junctions) c.self.view_is in
    let nr = ap (λ (n : NetView). length n.reservoirs) c.self.view_is in
    let nt = ap (λ (n : NetView). length n.tanks) c.self.view_is in
    let t = c.args.node - c.len-before.result - c.len-2.result in
    let tank = c.index-heads.result.now in
    let within : c.args.node - c.len-before.result - c.len-2.result < length c.self.inside.tanks.items =
    omega (arith, nj, nr, nt, c.requires.in_range, c.requires.fixed, c.len-before.ensures, c.len-2.ensures) in
    let at = slice_get_read c.self.inside.tanks.items (length c.self.inside.tanks.items) t tank refl within
    c.index-heads.ensures in
    let heads = all_at AreHeads c.self.inside.tanks.items t tank c.self.invariant.0.tanks at in
    let same : to_z w64 (of_z w64 tank.lo) ≡ tank.lo = omega (arith, ints, heads.lo.at_least, heads.lo.at_most) in
    fixed_tank c.args.self.now c.args.problem c.args.side c.args.node c.len-before.result c.len-2.result tank
    (to_z w64 (of_z w64 tank.lo)) u
    (omega (arith, nj, c.len-before.ensures)) (omega (arith, nr, c.len-2.ensures)) e
    (omega (arith, nj, c.requires.fixed, c.len-before.ensures))
    (omega (arith, c.if-number-len.false, c.len.ensures, c.len-2.ensures)) (omega (arith, nt, within))
    (subst (λ (n : NetView). tank ≡ slice_index_or n.tanks t tank) c.self.view_is c.index-heads.ensures)
    (same ∙ lower_end (tank_side c.args.problem c.args.side t) tank (sym c.is_upper.ensures ∙ c.if-is_upper.false))
