use Rattle.hyd_io.proofs.PutLemmas.{puts_then, puts_cut_off}
use Rattle.hyd_witness_texts.proofs.writer.put_moment.Goals as goal

pub returns-in-Ok : goal.returns-in-Ok
returns-in-Ok g c = puts_then _ _ _ _ _ _ _ _ _ c.in-Ok.ensures c.put_lists.ensures

pub returns-in-Err : goal.returns-in-Err
returns-in-Err g c = puts_cut_off _ _ c.in-Err.fault _ _ _ _ c.in-Err.ensures
