use Rattle.std.proofs.Common.{refl, arith}
use Rattle.hyd_controls_and_rules.proofs.TankHeadsUnread.{same_truth, heads_behind, still_between}
use Rattle.hyd_controls_and_rules.proofs.theorems_on_unread_tank_heads.heads_of_tanks.Goals as goal

pub returns-clause-truths : goal.returns-clause-truths
returns-clause-truths c = λ project time below above other_below other_above rule truth alike alike_above.
    same_truth project time below above other_below other_above rule truth alike alike_above

pub returns-clause-between : goal.returns-clause-between
returns-clause-between c = still_between

pub returns-clause-below : goal.returns-clause-below
returns-clause-below c = λ project low tanks flows levels links e. record {
  heads = λ node h. heads_behind low tanks node (omega (arith, e, h));
  levels = refl;
  flows = refl;
  links = refl;
}

pub returns-clause-above : goal.returns-clause-above
returns-clause-above c = λ project high tanks flows levels links e. record {
  heads = λ node h. heads_behind high tanks node (omega (arith, e, h));
  levels = refl;
  flows = refl;
  links = refl;
}
