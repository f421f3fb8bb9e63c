use Rattle.hyd_theorems_on_input.proofs.OneFault.{one_fault}
use Rattle.hyd_theorems_on_input.proofs.one_fault.Goals as goal

pub returns : goal.returns
returns c = record {
  lines = λ text line other cause second f g. (one_fault text line other cause second f g).lines;
  causes = λ text line other cause second f g. (one_fault text line other cause second f g).causes;
}
