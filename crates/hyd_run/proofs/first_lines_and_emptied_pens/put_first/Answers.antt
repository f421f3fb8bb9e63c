-- The bytes of the line.
use Rattle.std.proofs.Common.{refl}
use Rattle.std.specs.Fmt.{digits}
use Rattle.hyd_io.proofs.PutLemmas.{puts_same}
use Rattle.hyd_run.proofs.first_lines_and_emptied_pens.put_first.Goals as goal

pub returns : goal.returns
unfolding digits
returns g c = puts_same _ _ _ _ _ _ _ refl c.put.ensures
