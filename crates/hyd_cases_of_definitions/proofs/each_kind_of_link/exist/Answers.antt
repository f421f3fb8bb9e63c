use Rattle.std.proofs.Common.{refl, pos, neg_ℤ}
use Rattle.hyd_cases_of_definitions.proofs.each_kind_of_link.exist.Goals as goal
use Rattle.hyd_cases_of_definitions.proofs.CapacitiesWithGivenEnds.{can_be, with_ends}

pub returns : goal.returns
unfolding can_be
returns c = λ origin.
    let pipe = with_ends origin 6703202733254145186 (neg_ℤ (pos 36)) 6703202733254145207 (neg_ℤ (pos 36)) refl in
    let check = with_ends origin 5578076705912483132 (neg_ℤ (pos 38)) 5578076705912483153 (neg_ℤ (pos 38)) refl in
    let pump = with_ends origin 7694822175827558399 (neg_ℤ (pos 41)) 7694822175827558401 (neg_ℤ (pos 41)) refl in
    let valve = with_ends origin 5361655754717038823 (neg_ℤ (pos 36)) 5361655754717038826 (neg_ℤ (pos 36)) refl in
    let control = with_ends origin 6066512814921657205 (neg_ℤ (pos 32)) 6066512814921657215 (neg_ℤ (pos 32)) refl in
    let emitter = with_ends origin 5252998605364946534 (neg_ℤ (pos 48)) 5252998605364946535 (neg_ℤ (pos 48)) refl in
    let driven = with_ends origin 7505999378950826666 (neg_ℤ (pos 44)) 7505999378950826667 (neg_ℤ (pos 44)) refl in
    record {
      pipe = pipe.0;
      pipe_is = pipe.1;
      check = check.0;
      check_is = check.1;
      pump = pump.0;
      pump_is = pump.1;
      valve = valve.0;
      valve_is = valve.1;
      control = control.0;
      control_is = control.1;
      emitter = emitter.0;
      emitter_is = emitter.1;
      driven = driven.0;
      driven_is = driven.1;
    }
