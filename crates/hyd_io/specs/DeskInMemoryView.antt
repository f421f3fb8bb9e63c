-- What a `MemDesk` shows.
use Rattle.std.specs.Prelude.{drop, option_map, string_bytes}
use Rattle.hyd_io.specs.declared.desk_in_memory.MemDesk.{MemDesk}
use Rattle.hyd_io.specs.DeskInMemory.{Memory, file_bytes}

-- what a desk in memory holds
abbrev pub memory : MemDesk → Memory
memory desk = record {
  files = file_bytes desk.files;
  unread = drop desk.at desk.opened.items;
  target = option_map string_bytes desk.target;
  ready = desk.ready;
  printed = desk.printed.items;
  failing = desk.failing.items;
  starving = desk.starving.items;
  calls = desk.calls;
  writes = desk.writes;
  prints = desk.prints;
  counts = desk.counts;
  openings = desk.openings;
}
