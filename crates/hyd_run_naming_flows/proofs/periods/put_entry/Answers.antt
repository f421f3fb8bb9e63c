-- The record, and then its part.
use Rattle.hyd_io.proofs.PutLemmas.{puts_then, puts_cut_off, puts_ready}
use Rattle.hyd_run_naming_flows.proofs.periods.put_entry.Goals as goal

pub put_flows-requires : goal.put_flows-requires
put_flows-requires g c = puts_ready _ _ _ _ _ _ c.in-Ok.ensures c.requires

pub returns-in-Ok : goal.returns-in-Ok
returns-in-Ok g c = puts_then _ _ _ _ _ _ _ _ _ c.in-Ok.ensures c.put_flows.ensures

pub returns-in-Err : goal.returns-in-Err
returns-in-Err g c = puts_cut_off _ _ c.in-Err.fault _ _ _ _ c.in-Err.ensures
