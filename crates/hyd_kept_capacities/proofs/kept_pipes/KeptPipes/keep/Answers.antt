use Rattle.std.proofs.Common.{is_ok}
use Rattle.hyd_kept_capacities.specs.KeptPromises.{IsPipeCapacity}
use Rattle.hyd_kept_capacities.proofs.Keeping.{keeps}
use Rattle.hyd_kept_capacities.proofs.kept_pipes.KeptPipes.keep.Goals as goal

pub invariant_of-self : goal.invariant_of-self
invariant_of-self c = rw c.push.ensures.items
    (keeps IsPipeCapacity (is_ok c.push.result) c.self.inside.kept.items c.args.capacity c.self.invariant c.requires)
