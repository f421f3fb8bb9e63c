use Rattle.std.proofs.Common.{arith, refl}
use Rattle.std.specs.Prelude.{pos, ◌<ℤ◌}
use Rattle.std.proofs.lemmas.Int.{ints}
use Rattle.hyd_judge_links_controls_and_rules.proofs.StateAndValveLawLemmas.{refused_valve}
use Rattle.hyd_judge_links_controls_and_rules.proofs.states_and_valve_laws.valve_law.Goals as goal

pub returns-in-Ok : goal.returns-in-Ok
returns-in-Ok c =
    let above : pos 0 <ℤ c.args.coefficient.nano = omega (arith, ints) in (
      above,
      record {
        made = c.in-Ok.ensures.made;
        d = c.args.diameter;
        d_is = refl;
        k = c.args.coefficient;
        k_is = refl;
        origin = c.in-Ok.ensures.origin;
      },
    )

pub returns-in-Err : goal.returns-in-Err
returns-in-Err c =
    let above : pos 0 <ℤ c.args.coefficient.nano = omega (arith, ints) in
    absurd (c.requires.free (refused_valve c.args.diameter c.args.coefficient c.args.us above c.in-Err.ensures.refused))
