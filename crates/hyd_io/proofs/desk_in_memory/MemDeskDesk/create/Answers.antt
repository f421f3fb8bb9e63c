use Rattle.std.proofs.Common.{◌∙◌, ap, [], Some}
use Rattle.hyd_io.proofs.DeskInMemoryLemmas.{update-same, update-other}
use Rattle.hyd_io.specs.DeskInMemory.{file_bytes}
use Rattle.hyd_io.proofs.desk_in_memory.MemDeskDesk.create.Goals as goal

pub returns-in-Ok-clause-begun : goal.returns-in-Ok-clause-begun
returns-in-Ok-clause-begun c =
    rw c.in-Ok.ensures.name (ap (λ f. f c.args.name.now) c.in-Ok.ensures.made
    ∙ update-same (file_bytes c.args.self.now.files) c.args.name.now (Some []))

pub returns-in-Ok-clause-others : goal.returns-in-Ok-clause-others
returns-in-Ok-clause-others c = λ other ne.
    ap (λ f. f other) c.in-Ok.ensures.made ∙ update-other (file_bytes c.args.self.now.files) c.args.name.now other
    (Some []) ne

pub returns-in-Err-clause-others : goal.returns-in-Err-clause-others
returns-in-Err-clause-others c = λ other ne. ap (λ f. f other) c.in-Err.ensures.kept
