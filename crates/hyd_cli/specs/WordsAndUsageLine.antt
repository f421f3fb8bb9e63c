-- The words that the system gives, and the usage line.
use Rattle.std.specs.Prelude.{ℕ, List, [], ◌++◌, ◌∷◌, codes, map, drop, string_bytes, String, Result, Ok, Err}
use Rattle.std.specs.Vec.Iter.{into_iter_items}
use Rattle.std.specs.declared.vec.IntoIter.{IntoIter}

-- The words of a command, of all that the system gives: those behind the program's name. There are none where the words
-- can't be had as a whole, as where one of them isn't text.
abbrev pub words_behind_name : {A B E : Type 0} → Result (IntoIter (String A) B) E → List (List ℕ)
words_behind_name (Ok given) = map string_bytes (drop 1 (into_iter_items given))
words_behind_name (Err fault) = []

-- what is printed where the words aren't a command
abbrev pub usage_line : List ℕ
usage_line = codes "USAGE hyd run NET CERT [--sweeps N] [--width W] [--tight] [--flows IDS] [--slack N] [--spread FILE] or check NET CERT [--spread FILE] or gen SEED JUNCTIONS NET CERT or fire NET J P [--sweeps N] [--spread FILE] or closures NET P [--sweeps N] [--spread FILE] or witness NET CERT OUT or meet NET FILE" ++ (10 ∷ [])
