-- What a `List` ends as, where a `&mut` to its items is returned.
use Rattle.std.specs.Prelude.{List, length}
use Rattle.std.specs.Borrow.{Lends, Fml, RattleType, MutBor, Array}
use Rattle.std.specs.List.{refill}
use Rattle.hyd_net.specs.ListView.{ListView}
use Rattle.hyd_net.specs.contracts.list.List.{the_row}

-- the list of v with its items overwritten by xs, and the same spare
abbrev pub with_items : {T : Type 0} → ListView T → List T → ListView T
with_items v xs = record v { list = refill (length v.list) v.list xs }

-- once the borrow r ends, the items are those that r shows last
abbrev pub lends_items : (T : RattleType) → MutBor (ListView T.Denot) → MutBor (List T.Denot) → Fml
lends_items T v r = Lends (the_row T) (Array T 0) v r (with_items v.now)
