-- Times and times of day of a file without a fault are in range.
use Rattle.std.proofs.Common.{◌≡◌, ℕ, ◌+◌, ◌*◌, ◌/◌, ◌%◌, ◌^◌, ◌<◌, ◌≤◌, true, List, [], ◌∷◌, Option, Some, None, refl}
use Rattle.std.proofs.Common.{◌∙◌, subst, arith}
use Rattle.std.specs.Prelude.{slice_get, nat_le, codes, min, max, ℤ, pos, negsuc, ◌<ℤ◌, if◌then◌else◌}
use Rattle.std.proofs.lemmas.Bool.{and_parts, leb-true, cond_both}
use Rattle.std.proofs.lemmas.Int.{ints}
use lib.Signed.{le_z, lt_z}
use Rattle.hyd_spec_lines.specs.Lines.{Row}
use Rattle.hyd_spec_lines.specs.WordsOfLines.{is_keyword}
use Rattle.hyd_spec_lines.specs.declared.section.Section.TheVariants.{Times as TimesSection}
use Rattle.hyd_net.specs.Sound.{AreTimes}
use Rattle.hyd_net.specs.declared.options.Times.{Times}
use Rattle.hyd_spec_input.specs.Columns.{first, needed, optional, ends, one_of, word, word_is}
use Rattle.hyd_spec_input.specs.Keywords.{time_word, time_words, more_time_words}
use Rattle.hyd_spec_input.specs.declared.TimeWord.{TimeWord}
use Rattle.hyd_spec_input.specs.declared.TimeWord.TheVariants as at
use Rattle.hyd_spec_input.specs.TimesAndClockTimes.{moment_word, unit_word, time_nano, whole_seconds, time_range, time}
use Rattle.hyd_spec_input.specs.TimesAndClockTimes.{time_seconds, half_day, clock_nano, clock_range, clock, of_half}
use Rattle.hyd_spec_input.specs.TimesAndClockTimes.{clock_seconds}
use Rattle.hyd_spec_input.specs.OptionAndTimeRows.{step_line, step_or_start_line, start_line, time_about, time_line}
use Rattle.hyd_spec_input.specs.OptionsAndTimesInForce.{begins, begins_both, time_row, time_row_of, duration}
use Rattle.hyd_spec_input.specs.OptionsAndTimesInForce.{seconds_of, written_step}
use Rattle.hyd_spec_input.specs.OptionsAndTimesInForce.{pattern_step, report_step, pattern_start, report_start}
use Rattle.hyd_spec_input.specs.OptionsAndTimesInForce.{start_clock}
use Rattle.hyd_spec_input.specs.Project.{IsTimes}
use Rattle.hyd_lemmas.proofs.BooleanTests.{lt_z-yes}
use Rattle.hyd_theorems_on_input.proofs.RowsWithoutFault.{AreRight, right_alone, or_none, all_none, unless_none}
use Rattle.hyd_theorems_on_input.proofs.OptionsAndTimesInForce.{in_force, say_is, word_is_keyword, first_named_same}

-- ---- one moment

pub record Bounded (least n : ℕ) : Type 0 where
  pub at_least : least ≤ n
  pub at_most : n ≤ 10 ^ 8

pub time_right : (least k : ℕ) (words : List (List ℕ)) → time least k words ≡ None
    → Bounded least (time_seconds k words)
time_right least k words e =
    let each = all_none (needed moment_word k words ∷ optional (unit_word (word k words)) (k + 1) words
    ∷ time_range least (time_nano k words) ∷ ends (k + 2) words ∷ []) e in
    let both = and_parts (le_z (pos 0) (time_nano k words)) _ (unless_none _ _ each.1.1.0) in
    let bounds = and_parts (nat_le least (time_seconds k words)) (nat_le (time_seconds k words) (10 ^ 8)) both.1 in
    record { at_least = leb-true _ _ bounds.0; at_most = leb-true _ _ bounds.1 }

seconds_below : (nano : ℤ) (n : ℕ) → nano <ℤ pos (n * 10 ^ 9) → 0 < n → whole_seconds nano < n
seconds_below (pos m) n l some = let b : m < n * 10 ^ 9 = omega (arith, ints, l) in omega (arith, b)
seconds_below (negsuc m) n l some = omega (arith, some)

half_right : (o : Option (List ℕ)) (nano : ℤ) → clock_range o nano ≡ None → of_half o (whole_seconds nano) < 86400
half_right None nano e =
    let both = and_parts (le_z (pos 0) nano) (lt_z nano (pos (86400 * 10 ^ 9))) (unless_none _ _ e) in
    seconds_below nano 86400 (lt_z-yes nano (pos (86400 * 10 ^ 9)) both.1) (omega arith)
half_right (Some half) nano e =
    cond_both (is_keyword (codes "PM") half) 43200 0 (λ n. whole_seconds nano % 43200 + n < 86400) (λ t. omega arith)
    (λ f. omega arith)

pub clock_right : (k : ℕ) (words : List (List ℕ)) → clock k words ≡ None → clock_seconds k words < 86400
clock_right k words e =
    let each = all_none (needed moment_word k words ∷ optional half_day (k + 1) words
    ∷ clock_range (slice_get words (k + 1)) (clock_nano k words) ∷ ends (k + 2) words ∷ []) e in
    half_right (slice_get words (k + 1)) (clock_nano k words) each.1.1.0

-- ---- the lines of times

pub time_word_same : (a word : List ℕ) → is_keyword a word ≡ true → time_word word ≡ time_word a
unfolding time_word
time_word_same a word e = rw (first_named_same time_words a word e, first_named_same more_time_words a word e) refl

pub about_time : (words : List (List ℕ)) (a : List ℕ) (meaning : TimeWord) → time_line words ≡ None → word_is 0 a
    words ≡ true
    → time_word a ≡ Some meaning
    → time_about (Some meaning) words ≡ None
about_time words a meaning line first is =
    let e : time_word (word 0 words) ≡ Some meaning =
    time_word_same a (word 0 words) (word_is_keyword 0 a words first) ∙ is in
    subst (λ (o : Option TimeWord). time_about o words ≡ None) e line

step_right : (words : List (List ℕ)) → step_line words ≡ None → Bounded 1 (time_seconds 2 words)
step_right words e = time_right 1 2 words
    (or_none (needed (one_of (codes "TIMESTEP" ∷ [])) 1 words) (time 1 2 words) e).1

either_right : (words : List (List ℕ)) → step_or_start_line words ≡ None
    → Bounded (if word_is 1 (codes "TIMESTEP") words then 1 else 0) (time_seconds 2 words)
either_right words e = time_right (if word_is 1 (codes "TIMESTEP") words then 1 else 0) 2 words
    (or_none (needed (one_of (codes "TIMESTEP" ∷ codes "START" ∷ [])) 1 words)
    (time (if word_is 1 (codes "TIMESTEP") words then 1 else 0) 2 words) e).1

-- the first words, by what they stand for
hydraulic_is : time_word (codes "HYDRAULIC") ≡ Some at.Hydraulic
unfolding time_word is_keyword
hydraulic_is = refl

pattern_is : time_word (codes "PATTERN") ≡ Some at.Pattern
unfolding time_word is_keyword
pattern_is = refl

report_is : time_word (codes "REPORT") ≡ Some at.Report
unfolding time_word is_keyword
report_is = refl

rule_is : time_word (codes "RULE") ≡ Some at.Rule
unfolding time_word is_keyword
rule_is = refl

duration_is : time_word (codes "DURATION") ≡ Some at.Duration
unfolding time_word is_keyword
duration_is = refl

start_is : time_word (codes "START") ≡ Some at.Start
unfolding time_word is_keyword
start_is = refl

-- a time in force is in range where the default and each line's are
seconds_right : (rows : List Row) (key second : List ℕ) (least default : ℕ) → AreRight rows → Bounded least default
    → ((words : List (List ℕ)) → word_is 0 key words ≡ true → word_is 1 second words ≡ true → time_line words ≡ None
    → Bounded least (time_seconds 2 words))
    → Bounded least (seconds_of default key second rows)
seconds_right rows key second least default right d each =
    say_is (Bounded least) default (λ row. time_seconds 2 row.words) (time_row_of key second rows) d (λ row e.
    let found = in_force rows TimesSection (begins_both key second) row e in
    let both = and_parts (word_is 0 key row.words) (word_is 1 second row.words) found.passes in
    each row.words both.0 both.1 (right_alone rows TimesSection found.place row right found.is found.of))

written_right : (rows : List Row) → AreRight rows → Bounded 1 (written_step rows)
written_right rows right = seconds_right rows (codes "HYDRAULIC") (codes "TIMESTEP") 1 3600 right
    (record { at_least = omega arith; at_most = omega arith })
    (λ words a b line. step_right words (about_time words (codes "HYDRAULIC") at.Hydraulic line a hydraulic_is))

one_step : (words : List (List ℕ)) → word_is 1 (codes "TIMESTEP") words ≡ true
    → Bounded (if word_is 1 (codes "TIMESTEP") words then 1 else 0) (time_seconds 2 words)
    → Bounded 1 (time_seconds 2 words)
one_step words is bounds = rw is at bounds

some_start : (words : List (List ℕ)) (least : ℕ) → Bounded least (time_seconds 2 words)
    → Bounded 0 (time_seconds 2 words)
some_start words least bounds = record { at_least = omega arith; at_most = bounds.at_most }

pattern_step_right : (rows : List Row) → AreRight rows → Bounded 1 (pattern_step rows)
pattern_step_right rows right = seconds_right rows (codes "PATTERN") (codes "TIMESTEP") 1 3600 right
    (record { at_least = omega arith; at_most = omega arith })
    (λ words a b line.
    one_step words b (either_right words (about_time words (codes "PATTERN") at.Pattern line a pattern_is)))

report_step_right : (rows : List Row) → AreRight rows → Bounded 1 (report_step rows)
report_step_right rows right = seconds_right rows (codes "REPORT") (codes "TIMESTEP") 1 3600 right
    (record { at_least = omega arith; at_most = omega arith })
    (λ words a b line.
    one_step words b (either_right words (about_time words (codes "REPORT") at.Report line a report_is)))

pattern_start_right : (rows : List Row) → AreRight rows → Bounded 0 (pattern_start rows)
pattern_start_right rows right = seconds_right rows (codes "PATTERN") (codes "START") 0 0 right
    (record { at_least = omega arith; at_most = omega arith })
    (λ words a b line.
    some_start words _ (either_right words (about_time words (codes "PATTERN") at.Pattern line a pattern_is)))

report_start_right : (rows : List Row) → AreRight rows → Bounded 0 (report_start rows)
report_start_right rows right = seconds_right rows (codes "REPORT") (codes "START") 0 0 right
    (record { at_least = omega arith; at_most = omega arith })
    (λ words a b line.
    some_start words _ (either_right words (about_time words (codes "REPORT") at.Report line a report_is)))

tenth_right : (n : ℕ) → Bounded 1 n → Bounded 1 (max 1 (n / 10))
tenth_right n bounds = record { at_least = omega arith; at_most = omega (arith, bounds.at_most) }

rule_right : (rows : List Row) → AreRight rows
    → Bounded 1 (seconds_of (max 1 (written_step rows / 10)) (codes "RULE") (codes "TIMESTEP") rows)
rule_right rows right = seconds_right rows (codes "RULE") (codes "TIMESTEP") 1 (max 1 (written_step rows / 10)) right
    (tenth_right (written_step rows) (written_right rows right))
    (λ words a b line. step_right words (about_time words (codes "RULE") at.Rule line a rule_is))

duration_right : (rows : List Row) → AreRight rows → Bounded 0 (duration rows)
duration_right rows right = say_is (Bounded 0) 0 (λ row. time_seconds 1 row.words) (time_row (codes "DURATION") rows)
    (record { at_least = omega arith; at_most = omega arith }) (λ row e.
    let found = in_force rows TimesSection (begins (codes "DURATION")) row e in
    time_right 0 1 row.words (about_time row.words (codes "DURATION") at.Duration
    (right_alone rows TimesSection found.place row right found.is found.of) found.passes duration_is))

start_clock_right : (rows : List Row) → AreRight rows → start_clock rows < 86400
start_clock_right rows right = say_is (λ n. n < 86400) 0 (λ row. clock_seconds 2 row.words)
    (time_row_of (codes "START") (codes "CLOCKTIME") rows) (omega arith) (λ row e.
    let found = in_force rows TimesSection (begins_both (codes "START") (codes "CLOCKTIME")) row e in
    let both = and_parts (word_is 0 (codes "START") row.words) (word_is 1 (codes "CLOCKTIME") row.words)
    found.passes in
    let line : start_line row.words ≡ None =
    about_time row.words (codes "START") at.Start
    (right_alone rows TimesSection found.place row right found.is found.of) both.0 start_is in
    clock_right 2 row.words (or_none (needed (one_of (codes "CLOCKTIME" ∷ [])) 1 row.words) (clock 2 row.words)
    line).1)

-- ---- all times

in_order : (written pattern report rule : ℕ) → Bounded 1 written → Bounded 1 pattern → Bounded 1 report
    → Bounded 1 rule
    → (1 ≤ min written (min pattern report)) × (min written (min pattern report) ≤ pattern)
    × (min written (min pattern report) ≤ report)
    × (1 ≤ min rule (min written (min pattern report)))
    × (min rule (min written (min pattern report)) ≤ min written (min pattern report))
in_order written pattern report rule a b c d = (
  omega (arith, a.at_least, b.at_least, c.at_least),
  omega arith,
  omega arith,
  omega (arith, a.at_least, b.at_least, c.at_least, d.at_least),
  omega arith,
)

pub are_times : (rows : List Row) (t : Times) → AreRight rows → IsTimes rows t → AreTimes t
are_times rows t right is =
    let steps = in_order (written_step rows) (pattern_step rows) (report_step rows)
    (seconds_of (max 1 (written_step rows / 10)) (codes "RULE") (codes "TIMESTEP") rows)
    (written_right rows right) (pattern_step_right rows right) (report_step_right rows right)
    (rule_right rows right) in
    record {
      duration = rw is.duration (duration_right rows right).at_most;
      hydraulic = rw is.hydraulic steps.0;
      within_pattern = rw (is.hydraulic, is.pattern) steps.1;
      within_report = rw (is.hydraulic, is.report) steps.2;
      pattern = rw is.pattern (pattern_step_right rows right).at_most;
      pattern_start = rw is.pattern_start (pattern_start_right rows right).at_most;
      report = rw is.report (report_step_right rows right).at_most;
      report_start = rw is.report_start (report_start_right rows right).at_most;
      start_clock = rw is.start_clock (start_clock_right rows right);
      rule = rw is.rule steps.3;
      within_hydraulic = rw (is.rule, is.hydraulic) steps.4;
    }
