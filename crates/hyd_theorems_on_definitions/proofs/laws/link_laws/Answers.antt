use Rattle.hyd_theorems_on_definitions.proofs.EachLaw.{IsLaw-each}
use Rattle.hyd_theorems_on_definitions.proofs.laws.link_laws.Goals as goal

pub returns : goal.returns
returns c = record { each = IsLaw-each }
