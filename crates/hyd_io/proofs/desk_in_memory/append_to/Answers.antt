use Rattle.std.proofs.Common.{◌∙◌, Some, option_map, ap, rules}
use Rattle.hyd_io.proofs.DeskInMemoryLemmas.{file_bytes-updated, update-own, update-other}
use Rattle.hyd_io.specs.DeskInMemory.{file_bytes}
use Rattle.hyd_io.proofs.desk_in_memory.append_to.Goals as goal

pub returns-in-Ok-clause-others : goal.returns-in-Ok-clause-others
returns-in-Ok-clause-others c = λ other ne.
    let end = c.get_mut.follows.lender c.extend_from_slice.new.self in
    let changed = file_bytes-updated c.args.name.now c.args.files.now end c.extend_from_slice.new.self
    ((c.get_mut.follows.holds c.extend_from_slice.new.self).3 (search rules)) in
    ap (λ f. f other) changed ∙ update-other (file_bytes c.args.files.now) c.args.name.now other
    (Some c.extend_from_slice.new.self.items) ne

pub returns-in-Err-clause-others : goal.returns-in-Err-clause-others
returns-in-Err-clause-others c = λ other ne.
    let end = c.get_mut.follows.lender c.extend_from_slice.new.self in
    let changed = file_bytes-updated c.args.name.now c.args.files.now end c.extend_from_slice.new.self
    ((c.get_mut.follows.holds c.extend_from_slice.new.self).3 (search rules)) in
    ap (λ f. f other) changed ∙ update-other (file_bytes c.args.files.now) c.args.name.now other
    (Some c.extend_from_slice.new.self.items) ne

-- the file is as it was, and so are all files
pub returns-in-Err-clause-kept : goal.returns-in-Err-clause-kept
returns-in-Err-clause-kept c =
    let end = c.get_mut.follows.lender c.extend_from_slice.new.self in
    let changed = file_bytes-updated c.args.name.now c.args.files.now end c.extend_from_slice.new.self
    ((c.get_mut.follows.holds c.extend_from_slice.new.self).3 (search rules)) in
    changed ∙ update-own (file_bytes c.args.files.now) c.args.name.now (Some c.extend_from_slice.new.self.items)
    (ap Some (search rules) ∙ ap (option_map (λ f. f.items)) c.in-Some.ensures.value)
