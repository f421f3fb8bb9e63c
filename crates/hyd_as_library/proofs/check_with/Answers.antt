-- What a check prints, said of the moment before its file was opened.
use Rattle.std.proofs.Common.{refl, rules}
use Rattle.hyd_io.specs.DeskInMemoryView.{memory}
use Rattle.hyd_as_library.proofs.DeskLemmas.{checked, check_cut_short}
use Rattle.hyd_as_library.proofs.check_with.Goals as goal

pub returns-in-Ok-clause-whole : goal.returns-in-Ok-clause-whole
returns-in-Ok-clause-whole c =
    checked c.args.sim.now.project _ (memory c.args.desk.now) (memory c.open.new.self)
    (memory c.check_opened.new.desk) (search rules) c.open.ensures.printed_stays c.in-Ok.end
    (c.in-Ok.ensures.whole _ refl)

pub returns-in-Err-clause-fails : goal.returns-in-Err-clause-fails
returns-in-Err-clause-fails c =
    check_cut_short c.args.sim.now.project _ (memory c.args.desk.now) (memory c.open.new.self)
    (memory c.check_opened.new.desk) (search rules) c.open.ensures.printed_stays
    (c.in-Err.ensures.broken_off _ refl)
