-- The whole heads around a target pressure, at each junction of a network.
use Rattle.std.proofs.Common.{◌≡◌, ℕ, ◌<◌, ◌≤◌, ◌^◌, ℤ, pos, neg_ℤ, ◌<ℤ◌, Bool, true, false, refl, sym, ap}
use Rattle.std.proofs.Common.{subst, ◌∙◌, arith, List, length, map, unsigned_abs}
use Rattle.std.specs.Prelude.{Some, slice_get, slice_index_or}
use Rattle.std.specs.Int.{int_div_euclid}
use Rattle.std.proofs.lemmas.Int.{ints}
use Rattle.std.proofs.lemmas.Option.{slice_get_within}
use Rattle.hyd_num.specs.Rational.{Rational, floor, ceiling}
use Rattle.hyd_num.specs.FileQuantity.{pressure_numerator, pressure_denominator}
use Rattle.hyd_num.specs.QuotientsAndRoots.{IsFloor, IsCeiling}
use Rattle.hyd_num.proofs.Floors.{floor_is, ceiling_is, one_floor, one_ceiling}
use Rattle.hyd_net.specs.Sound.{IsSound}
use Rattle.hyd_net.specs.NumberRanges.{IsHead}
use Rattle.hyd_spec.specs.ProgramTypes.{Project, Junction}
use Rattle.hyd_spec.specs.DemandsHeadsAndPumpLifts.{is_us}
use Rattle.hyd_spec_certificates.specs.declared.LevelSpan.{LevelSpan}
use Rattle.hyd_spec_certificates.specs.Certificate.{IsInBox}
use Rattle.hyd_lemmas.proofs.ListsOptionsAndResults.{item_is, mapped}
use Rattle.hyd_period_network.specs.NetView.{NetView}
use Rattle.hyd_period_network.specs.NetsSetToPeriods.{IsNetOf}
use Rattle.hyd_period_network.proofs.NetOfSoundProject.{long_zipped}
use Rattle.hyd_targets.specs.Inquiries.{target_pressure, target_of}

some-den : (us : Bool) → pos 0 <ℤ pos (pressure_denominator us)
some-den true = omega (arith, ints)
some-den false = omega (arith, ints)

pub den-some : (us : Bool) (nano : ℤ) → 0 < (target_pressure us nano).den
den-some true nano = omega arith
den-some false nano = omega arith

-- ---- floors and ceilings

pub floor-around : (us : Bool) (nano q : ℤ) → IsFloor (pressure_numerator us nano) (pos (pressure_denominator us)) q
    → q ≡ floor (target_pressure us nano)
floor-around us nano q is = one_floor (pressure_numerator us nano) (pos (pressure_denominator us)) q
    (floor (target_pressure us nano)) is
    (floor_is (pressure_numerator us nano) (pos (pressure_denominator us)) (floor (target_pressure us nano))
    (some-den us) refl)

pub ceiling-around : (us : Bool) (nano q : ℤ)
    → IsCeiling (pressure_numerator us nano) (pos (pressure_denominator us)) q → q ≡ ceiling (target_pressure us nano)
ceiling-around us nano q is = one_ceiling (pressure_numerator us nano) (pos (pressure_denominator us)) q
    (ceiling (target_pressure us nano)) is
    (ceiling_is (pressure_numerator us nano) (neg_ℤ (pressure_numerator us nano)) (pos (pressure_denominator us))
    (int_div_euclid (neg_ℤ (pressure_numerator us nano)) (pos (pressure_denominator us)))
    (ceiling (target_pressure us nano)) (some-den us) refl refl
    (floor_is (neg_ℤ (pressure_numerator us nano)) (pos (pressure_denominator us))
    (int_div_euclid (neg_ℤ (pressure_numerator us nano)) (pos (pressure_denominator us))) (some-den us) refl))

pub small-floor : (us : Bool) (nano q : ℤ) → unsigned_abs nano ≤ 10 ^ 13
    → IsFloor (pressure_numerator us nano) (pos (pressure_denominator us)) q → unsigned_abs q ≤ 10 ^ 17
small-floor true nano q small is =
    let a = is.at_most in
    let g = is.greatest (neg_ℤ (pos (10 ^ 17))) (omega (arith, ints, small)) in omega (arith, ints, a, g, small)
small-floor false nano q small is =
    let a = is.at_most in
    let g = is.greatest (neg_ℤ (pos (10 ^ 17))) (omega (arith, ints, small)) in omega (arith, ints, a, g, small)

pub small-ceiling : (us : Bool) (nano q : ℤ) → unsigned_abs nano ≤ 10 ^ 13
    → IsCeiling (pressure_numerator us nano) (pos (pressure_denominator us)) q → unsigned_abs q ≤ 10 ^ 17
small-ceiling true nano q small is =
    let a = is.at_least in
    let g = is.least (pos (10 ^ 17)) (omega (arith, ints, small)) in omega (arith, ints, a, g, small)
small-ceiling false nano q small is =
    let a = is.at_least in
    let g = is.least (pos (10 ^ 17)) (omega (arith, ints, small)) in omega (arith, ints, a, g, small)

pub floor-small : (us : Bool) (nano : ℤ) → unsigned_abs nano ≤ 10 ^ 13
    → unsigned_abs (floor (target_pressure us nano)) ≤ 10 ^ 17
floor-small us nano small = small-floor us nano (floor (target_pressure us nano)) small
    (floor_is (pressure_numerator us nano) (pos (pressure_denominator us)) (floor (target_pressure us nano))
    (some-den us) refl)

pub ceiling-small : (us : Bool) (nano : ℤ) → unsigned_abs nano ≤ 10 ^ 13
    → unsigned_abs (ceiling (target_pressure us nano)) ≤ 10 ^ 17
ceiling-small us nano small = small-ceiling us nano (ceiling (target_pressure us nano)) small
    (ceiling_is (pressure_numerator us nano) (neg_ℤ (pressure_numerator us nano)) (pos (pressure_denominator us))
    (int_div_euclid (neg_ℤ (pressure_numerator us nano)) (pos (pressure_denominator us)))
    (ceiling (target_pressure us nano)) (some-den us) refl refl
    (floor_is (neg_ℤ (pressure_numerator us nano)) (pos (pressure_denominator us))
    (int_div_euclid (neg_ℤ (pressure_numerator us nano)) (pos (pressure_denominator us))) (some-den us) refl))

-- ---- at junctions

pub elevation-there : (project : Project) → IsSound project → (j : ℕ) (here : Junction)
    → slice_get project.junctions.list j ≡ Some here → IsHead here.elevation
elevation-there project sound j here at =
    let within = slice_get_within project.junctions.list j here at in
    let each = sound.quantities.junctions j here within in
    subst (λ (x : Junction). IsHead x.elevation) (item_is project.junctions.list j here here at) each.elevation

module _ (project : Project) (sound : IsSound project) (nano : ℤ) (small : unsigned_abs nano ≤ 10 ^ 13)
    (j : ℕ) (here : Junction) (at : slice_get project.junctions.list j ≡ Some here) where
  pub low-in-box : IsInBox (target_of (target_pressure (is_us project) nano) here).lo
  low-in-box =
      let e = elevation-there project sound j here at in
      let f = floor-small (is_us project) nano small in
      record { above_floor = omega (arith, ints, e, f); below_ceiling = omega (arith, ints, e, f) }

  pub high-in-box : IsInBox (target_of (target_pressure (is_us project) nano) here).hi
  high-in-box =
      let e = elevation-there project sound j here at in
      let f = ceiling-small (is_us project) nano small in
      record { above_floor = omega (arith, ints, e, f); below_ceiling = omega (arith, ints, e, f) }

-- the target at a place of the list of all
pub target-there : (project : Project) (target : Rational) (targets : List LevelSpan) (j : ℕ) (here : Junction)
    (d : LevelSpan) → targets ≡ map (target_of target) project.junctions.list
    → slice_get project.junctions.list j ≡ Some here → slice_index_or targets j d ≡ target_of target here
target-there project target targets j here d is at =
    ap (λ (ts : List LevelSpan). slice_index_or ts j d) is
    ∙ (mapped (target_of target) project.junctions.list j d here
    (slice_get_within project.junctions.list j here at)
    ∙ ap (target_of target) (item_is project.junctions.list j here here at))

-- a net has the junctions of its network
pub net-long : (project : Project) (net : NetView) → IsNetOf project net
    → length net.junctions ≡ length project.junctions.list
net-long project net of = sym (long_zipped _ _ _ of.junctions)
