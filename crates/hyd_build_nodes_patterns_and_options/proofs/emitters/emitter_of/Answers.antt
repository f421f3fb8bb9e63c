use Rattle.std.proofs.Common.{arith, refl}
use Rattle.std.proofs.lemmas.Int.{ints}
use Rattle.hyd_build_nodes_patterns_and_options.proofs.emitters.emitter_of.Goals as goal

pub returns-in-Ok : goal.returns-in-Ok
returns-in-Ok c = (
  omega (arith, ints, c.if-coefficient-le0.false),
  record {
    made = c.in-Ok.ensures.made;
    c = c.args.coefficient;
    c_is = refl;
    origin = c.in-Ok.ensures.origin;
  },
)

pub returns-in-Err : goal.returns-in-Err
returns-in-Err c = absurd (c.requires.accepted (record {
  above = omega (arith, ints, c.if-coefficient-le0.false);
  c = c.args.coefficient;
  c_is = refl;
  refused = c.in-Err.ensures.refused;
}))
