-- What the first word of a time says: hours, minutes and seconds where it has a colon, else a number.
use Rattle.std.specs.Prelude.{◌≡◌, ℕ, true, false, List}
use Rattle.std.specs.List.{slice_split}
use Rattle.hyd_num.specs.Numeral.{nano_of}
use Rattle.hyd_spec_input.specs.TimesAndClockTimes.{is_colon, has_colon, seconds_of_parts}
use Rattle.hyd_option_and_rule_lines.specs.declared.words_of_times_and_clock_times.ClockTimeOrNumber.{ClockTimeOrNumber}
use Rattle.hyd_option_and_rule_lines.specs.declared.words_of_times_and_clock_times.ClockTimeOrNumber.TheVariants.{Clock}
use Rattle.hyd_option_and_rule_lines.specs.declared.words_of_times_and_clock_times.ClockTimeOrNumber.TheVariants.{Number}

-- what a word says: hours, minutes and seconds where it has a colon, else a number
abbrev pub SaysClockTimeOrNumber : List ℕ → ClockTimeOrNumber → Type 0
SaysClockTimeOrNumber word (Clock seconds) =
    (has_colon word ≡ true) × (seconds ≡ seconds_of_parts (slice_split is_colon word))
SaysClockTimeOrNumber word (Number number) = (has_colon word ≡ false) × (number.nano ≡ nano_of word)
