use Rattle.hyd_theorems_on_open_checks.proofs.NeverRefusedOpenly.{never_refused}
use Rattle.hyd_theorems_on_open_checks.proofs.refusals.Goals as goal

pub returns : goal.returns
returns c = λ project text printed slack founds left run certificate refusal.
    never_refused project text slack founds left run certificate printed refusal
