use Rattle.std.proofs.Common.{sym, ◌∙◌}
use Rattle.hyd_build_links_controls_and_rules.proofs.pipes.loss_of.Goals as goal

pub hazen_williams-requires-clause-coefficient : goal.hazen_williams-requires-clause-coefficient
hazen_williams-requires-clause-coefficient c = c.requires.coefficient c.if-by_power.true

pub hazen_williams-requires-clause-free : goal.hazen_williams-requires-clause-free
hazen_williams-requires-clause-free c = rw c.if-by_power.true at c.requires.free

pub manning-requires-clause-roughness : goal.manning-requires-clause-roughness
manning-requires-clause-roughness c = c.requires.roughness c.if-by_power.false

pub manning-requires-clause-free : goal.manning-requires-clause-free
manning-requires-clause-free c = rw c.if-by_power.false at c.requires.free

pub returns-then-by_power : goal.returns-then-by_power
returns-then-by_power c = λ rows row us formula is.
    c.hazen_williams.ensures rows row us (sym formula ∙ c.if-by_power.true) is

pub returns : goal.returns
returns c = λ rows row us formula is. c.manning.ensures rows row us (sym formula ∙ c.if-by_power.false) is
