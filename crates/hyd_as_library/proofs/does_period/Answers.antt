-- A step that did no period says why.
use Rattle.std.proofs.Common.{rules}
use Rattle.hyd_as_library.proofs.PeriodLemmas.{no_period}
use Rattle.hyd_as_library.proofs.does_period.Goals as goal

pub returns-in_default : goal.returns-in_default
returns-in_default c = record {
  period = search rules;
  no_period = λ is. no_period c.args.sim.now c.step.new.self c.step.result c.in_default.not-Period c.step.ensures.gives;
  project = c.step.ensures.project;
  settings = c.step.ensures.settings;
}
