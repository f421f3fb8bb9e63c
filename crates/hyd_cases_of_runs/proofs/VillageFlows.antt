-- Throughout a period of the history the heads and flows obey the laws of the village.
use Rattle.std.proofs.Common.{◌≡◌, ℕ, ℤ, pos, ◌+ℤ◌, ◌-ℤ◌, ◌*ℤ◌, Bool, true, MatchBool, [], ◌∷◌, int_le, refl, sym}
use Rattle.std.proofs.Common.{subst, inl, arith}
use Rattle.std.proofs.lemmas.Int.{ints}
use Rattle.hyd_spec.specs.ProgramTypes.{Junction, LinkState, Throttle, Linear}
use Rattle.hyd_spec.specs.declared.TankState.{TankState}
use Rattle.hyd_spec.specs.Scale.{at_scale}
use Rattle.hyd_spec.specs.DemandsHeadsAndPumpLifts.{demand_of}
use Rattle.hyd_spec.specs.Law.{Shut, LinearLaw, Capped, Follows}
use Rattle.hyd_spec.specs.LinkLaw.{law_of}
use Rattle.hyd_spec.specs.Outflow.{IsWithinTolerance, FollowsDemand, FollowsPressure}
use Rattle.hyd_spec.specs.Assignment.{IsAssignment, JunctionObeys, none, more}
use Rattle.hyd_spec.specs.PeriodLength.{Period}
use Rattle.hyd_cases_of_runs.specs.Village.{Choice, village_with, mill, farm, feed_link, drop_link}
use Rattle.hyd_cases_of_runs.specs.VillagePeriods.{village_period}
use Rattle.hyd_lemmas.proofs.Each.{each_two}
use Rattle.hyd_lemmas.proofs.BooleanTests.{same_either_way, le-yes}

-- a flow of a valve without loss coefficient, at scale 1000
pub straight : (x q : ℤ) → int_le (pos 1000000 *ℤ (q -ℤ pos 10000)) (pos 8026822656 *ℤ x) ≡ true
    → int_le (pos 8026822656 *ℤ x) (pos 1000000 *ℤ (q +ℤ pos 10000)) ≡ true → Follows LinearLaw 1000 x q
straight x q below above = record { at_least = le-yes _ _ below; at_most = le-yes _ _ above }

-- one of a valve at its setting, and of a closed one
pub at_setting : (setting x q : ℤ) → int_le (q -ℤ pos 10000) (pos 1000 *ℤ setting) ≡ true
    → int_le (pos 1000 *ℤ setting) (q +ℤ pos 10000) ≡ true
    → int_le (pos 1000000 *ℤ (q -ℤ pos 10000)) (pos 8026822656 *ℤ x) ≡ true
    → Follows (Capped setting LinearLaw) 1000 x q
at_setting setting x q within reached passes = record {
  at_least = (le-yes _ _ within, le-yes _ _ passes);
  at_most = inl (le-yes _ _ reached);
}

pub none_passes : (x : ℤ) → Follows Shut 1000 x (pos 0)
none_passes x = record { at_least = omega (arith, ints); at_most = omega (arith, ints) }

module _ (choice : Choice) where
  -- a demand that is taken as it is
  takes_all : (time : ℕ) (junction : Junction) (p q : ℤ) → q
      ≡ at_scale 1000 (demand_of (village_with choice) time junction)
      → FollowsDemand (village_with choice) time junction 1000 p q
  takes_all time junction p q is =
      let demand = demand_of (village_with choice) time junction in
      subst (λ (b : Bool). MatchBool b (FollowsPressure (village_with choice) demand 1000 p q)
      (IsWithinTolerance 1000 q (at_scale 1000 demand)))
      (sym (same_either_way (int_le demand (pos 0)))) (record {
        low = omega (arith, ints, is);
        high = omega (arith, ints, is);
      })

  module _ (time length : ℕ) (level : ℤ) (state : TankState) (feed : LinkState)
      (at_mill at_farm main fed dropped takes : ℤ) where
    abbrev period : Period
    period = village_period time length level state feed at_mill at_farm main fed dropped takes

    abbrev tower_head : ℤ
    tower_head = at_scale 1000 choice.tank.bottom +ℤ level

    pub obeys : Follows LinearLaw 1000 (pos 1000000000000000000 -ℤ at_mill) main
        → Follows (law_of (village_with choice) (state ∷ []) feed_link feed) 1000 (at_mill -ℤ tower_head) fed
        → Follows (law_of (village_with choice) (state ∷ []) (drop_link choice.drop) (Throttle (pos 0) Linear)) 1000
        (tower_head -ℤ at_farm) dropped
        → takes ≡ at_scale 1000 (demand_of (village_with choice) time mill)
        → pos 2000000000000 ≡ at_scale 1000 (demand_of (village_with choice) time farm)
        → main ≡ fed +ℤ takes → dropped ≡ pos 2000000000000
        → IsAssignment (village_with choice) 1000 time period.levels period.tanks period.links period.assignment
    obeys main_follows fed_follows dropped_follows mill_takes farm_takes mill_balance farm_balance = record {
      scale = omega arith;
      level_each = refl;
      tank_each = refl;
      head_each = refl;
      demand_each = refl;
      emitter_each = refl;
      links_follow = more main_follows (more fed_follows (more dropped_follows none));
      junctions_obey = each_two Junction (JunctionObeys (village_with choice) time 1000 period.assignment) mill farm
          (record {
            demand = takes_all time mill (at_mill -ℤ at_scale 1000 mill.elevation) takes mill_takes;
            emitter = refl;
            balance = record { low = omega (arith, ints, mill_balance); high = omega (arith, ints, mill_balance) };
          })
          (record {
            demand = takes_all time farm (at_farm -ℤ at_scale 1000 farm.elevation) (pos 2000000000000) farm_takes;
            emitter = refl;
            balance = record { low = omega (arith, ints, farm_balance); high = omega (arith, ints, farm_balance) };
          });
    }
