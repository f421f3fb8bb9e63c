-- The size of a buffer between a program and its desk.
use Rattle.std.specs.Prelude.{ℕ}

-- how many bytes a pen gathers before it writes them, and a source reads ahead at most
abbrev pub buffer_bytes : ℕ
buffer_bytes = 8192
