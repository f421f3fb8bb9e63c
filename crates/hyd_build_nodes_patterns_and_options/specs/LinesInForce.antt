-- Lines in force.
use Rattle.std.specs.Prelude.{◌≡◌, ℕ, Bool, true, List, Option, Some, None}
use Rattle.hyd_spec_lines.specs.Lines.{Row}
use Rattle.hyd_spec_input.specs.Columns.{word_is}
use Rattle.hyd_spec_input.specs.OptionsAndTimesInForce.{begins, begins_both}
use Rattle.hyd_spec_input.specs.TimesAndClockTimes.{time}
use Rattle.hyd_spec_input.specs.OptionAndTimeRows.{time_line}

-- a row begins with one word, or with two
abbrev pub begins_with : List ℕ → Option (List ℕ) → Row → Bool
begins_with key None = begins key
begins_with key (Some second) = begins_both key second

-- a line of times that begins with these two words gives a time behind them
abbrev pub GivesTime : List ℕ → List ℕ → Type 0
GivesTime key second = (words : List (List ℕ)) → time_line words ≡ None → word_is 0 key words ≡ true
    → word_is 1 second words ≡ true → time 0 2 words ≡ None
