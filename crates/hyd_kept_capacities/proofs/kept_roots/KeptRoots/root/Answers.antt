use Rattle.std.proofs.Common.{is_ok}
use Rattle.hyd_kept_capacities.specs.DiameterRoots.{IsRootOf}
use Rattle.hyd_kept_capacities.specs.declared.kept_roots.KeptRoot.{KeptRoot}
use Rattle.hyd_kept_capacities.proofs.Keeping.{keeps}
use Rattle.hyd_kept_capacities.proofs.kept_roots.KeptRoots.root.Goals as goal

pub invariant_of-self : goal.invariant_of-self
invariant_of-self c = rw c.push.ensures.items
    (keeps (λ (k : KeptRoot). IsRootOf k.diameter k.us k.root) (is_ok c.push.result) c.self.inside.kept.items
    c.root_of-made.result c.self.invariant
    (rw (c.root_of-made.ensures.diameter, c.root_of-made.ensures.us) c.root_of-made.ensures.root))
