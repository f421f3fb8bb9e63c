-- A word of hours, minutes and seconds.
use Rattle.std.specs.Prelude.{◌≡◌, ℕ, ◌<◌, true, false, List, [], ◌∷◌, Option, Some, None}
use denote.Ref.{Bor}
use Rattle.hyd_num.specs.Numeral as numeral
use Rattle.hyd_spec_input.specs.TimesAndClockTimes.{is_sixtieth}
use Rattle.hyd_option_and_rule_lines.specs.declared.hours_minutes_seconds.Parts.{Parts}

-- the seconds, where they are there
abbrev pub last_piece : Option (Bor (List ℕ)) → List (List ℕ)
last_piece None = []
last_piece (Some seconds) = seconds.now ∷ []

-- the pieces of a word between colons
abbrev pub pieces : Parts → List (List ℕ)
pieces parts = parts.hours.now ∷ parts.minutes.now ∷ last_piece parts.seconds

-- the seconds of the last piece, 0 where it isn't there
abbrev pub IsLast : Option (Bor (List ℕ)) → ℕ → Type 0
IsLast None n = n ≡ 0
IsLast (Some part) n = (is_sixtieth part.now ≡ true) × (n ≡ numeral.number part.now) × (n < 60)

abbrev pub last_is_wrong : Option (Bor (List ℕ)) → Type 0
last_is_wrong None = ⊥
last_is_wrong (Some part) = is_sixtieth part.now ≡ false
