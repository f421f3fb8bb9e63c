-- The digits are the number.
use Rattle.std.proofs.Common.{◌∙◌}
use Rattle.hyd_io.proofs.PutLemmas.{puts_same}
use Rattle.hyd_io.proofs.output.put_number.Goals as goal

pub returns : goal.returns
returns g c = puts_same _ _ _ _ _ _ _ (c.as_bytes.ensures.value ∙ c.format.ensures.text) c.put.ensures
