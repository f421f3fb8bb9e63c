use Rattle.hyd_kept_capacities.proofs.SameNumbers.{same_pipe}
use Rattle.hyd_kept_capacities.proofs.kept_power_pipes.are_same.Goals as goal

pub returns : goal.returns
returns c =
    same_pipe c.args.one c.args.other c.if-differ.ensures c.if-differ-2.ensures c.if-differ-3.ensures
    c.if-differ-4.ensures c.if-differ_in_units.ensures
