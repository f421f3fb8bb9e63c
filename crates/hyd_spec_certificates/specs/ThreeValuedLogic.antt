-- Verdicts, by three-valued logic: what holds of all points of the intervals, of none, or is open.
-- Source: Kleene 1952 (strong three-valued logic).
use Rattle.std.specs.Prelude.{Bool, true, false, List, [], ◌∷◌}
use Rattle.hyd_spec_certificates.specs.declared.Verdict.{Verdict}
use Rattle.hyd_spec_certificates.specs.declared.Verdict.TheVariants.{Yes, No, Unknown}

-- What is so at both ends of an interval is so; what differs is open.
abbrev pub at_both_ends : Bool → Bool → Verdict
at_both_ends true true = Yes
at_both_ends false false = No
at_both_ends a b = Unknown

-- It is true.
abbrev pub is_yes : Verdict → Bool
is_yes Yes = true
is_yes truth = false

-- It is open.
abbrev pub is_unknown : Verdict → Bool
is_unknown Unknown = true
is_unknown truth = false

-- One holds: yes with any yes, else open with any open.
abbrev pub either : Verdict → Verdict → Verdict
either Yes b = Yes
either No b = b
either Unknown Yes = Yes
either Unknown b = Unknown

-- Both hold: no with any no, else open with any open.
abbrev pub both : Verdict → Verdict → Verdict
both No b = No
both Yes b = b
both Unknown No = No
both Unknown b = Unknown

-- Some one of them holds.
abbrev pub some_holds : List Verdict → Verdict
some_holds [] = No
some_holds (truth ∷ rest) = either truth (some_holds rest)

-- All of them hold.
abbrev pub all_hold : List Verdict → Verdict
all_hold [] = Yes
all_hold (truth ∷ rest) = both truth (all_hold rest)
