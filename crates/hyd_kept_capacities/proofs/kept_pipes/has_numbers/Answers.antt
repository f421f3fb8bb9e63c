use Rattle.std.proofs.Common.{◌∙◌}
use Rattle.hyd_kept_capacities.proofs.SameNumbers.{same_origin}
use Rattle.hyd_kept_capacities.proofs.kept_pipes.has_numbers.Goals as goal

pub returns : goal.returns
returns c =
    c.in-Pipe.is
    ∙ same_origin _ _ _ _ _ _ _ _ _ _ c.if-differ.ensures c.if-differ-2.ensures c.if-differ-3.ensures
    c.if-differ-4.ensures c.if-differ_in_units.ensures
