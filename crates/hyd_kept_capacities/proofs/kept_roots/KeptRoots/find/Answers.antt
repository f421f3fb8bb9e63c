use Rattle.std.proofs.Common.{sym, subst, arith}
use Rattle.hyd_kept_capacities.specs.DiameterRoots.{IsRootOf}
use Rattle.hyd_kept_capacities.specs.declared.kept_roots.KeptRoot.{KeptRoot}
use Rattle.hyd_kept_capacities.proofs.kept_roots.KeptRoots.find.Goals as goal

pub returns-then-kept-us-clause-root : goal.returns-then-kept-us-clause-root
returns-then-kept-us-clause-root c =
    subst (λ (k : KeptRoot). IsRootOf k.diameter k.us k.root) (sym c.index.ensures)
    (c.self.invariant c.loop-place.place c.index.result.now
    (omega (arith, c.loop-place-test.true, c.len-place-end.ensures)))
