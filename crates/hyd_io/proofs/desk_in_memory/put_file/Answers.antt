use Rattle.std.proofs.Common.{string_bytes}
use Rattle.hyd_io.proofs.DeskInMemoryLemmas.{file_bytes-updated}
use Rattle.hyd_io.proofs.desk_in_memory.put_file.Goals as goal

-- the key has the name's bytes, so `insert` set the file of that name
pub returns-in-Ok-insert-clause-put : goal.returns-in-Ok-insert-clause-put
returns-in-Ok-insert-clause-put c =
    rw (← c.in-Ok.ensures.ok) (file_bytes-updated (string_bytes c.in-Ok.key) c.args.files.now c.insert.new.self
    c.args.bytes c.in-Ok-insert.ensures.updates)
