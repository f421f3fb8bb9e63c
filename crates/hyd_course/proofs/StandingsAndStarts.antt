-- What is asked of the start of a moment where a course stands so.
use Rattle.std.proofs.Common.{◌≡◌, ℕ, Bool}
use Rattle.std.specs.Prelude.{Option, Some, None}
use Rattle.std.specs.Bool.{OnTrue, OnFalse}
use Rattle.hyd_spec.specs.ProgramTypes.{Project}
use Rattle.hyd_spec.specs.PeriodLength.{Period}
use Rattle.hyd_spec_witnesses.specs.MetPeriods.{Moment, StartIsMet}
use Rattle.hyd_lemmas.proofs.ListsOptionsAndResults.{same_some}
use Rattle.hyd_met_flows.specs.Periods.{IsMomentOf}
use Rattle.hyd_met_flows.proofs.Tests.{also_true, also_false}
use Rattle.hyd_course.specs.declared.standing.Standing.{Standing}
use Rattle.hyd_course.specs.declared.standing.Lasted.{Lasted}
use Rattle.hyd_course.specs.Stocks.{BeginsRun, Follows}
use Rattle.hyd_course.specs.Standings.{HasLast, IsKept}
use Rattle.hyd_course.proofs.StartsOfMoments.{initial_start, start_initial, following_start, start_following}

-- the last period that is kept is the one before
pub same_last : (project : Project) (before : Period) (standing : Standing) (last : Lasted)
    → standing.last ≡ Some last → IsKept project before standing
    → last ≡ record { time = before.time; length = before.length }
same_last project before standing last e kept =
    same_some standing.last last (record { time = before.time; length = before.length }) e kept.last

module _ (project : Project) (S count : ℕ) (moment : Moment) (is : IsMomentOf project moment) (standing : Standing)
    (result : Bool) where
  -- before the first period
  pub first_yes : (last : Option Period) → HasLast project last standing → standing.last ≡ None
      → moment.number ≡ count → OnTrue result (BeginsRun project S moment)
      → OnTrue result (StartIsMet project S (record { count = count; last = last }) moment)
  first_yes None has none number shows = also_true result _ _ shows (initial_start project S count moment is number)
  first_yes (Some before) has none number shows = absurd (let e = has.last in cc)

  pub first_no : (last : Option Period) → HasLast project last standing → standing.last ≡ None
      → OnFalse result (BeginsRun project S moment → ⊥)
      → OnFalse result (StartIsMet project S (record { count = count; last = last }) moment → ⊥)
  first_no None has none refutes = also_false result _ _ refutes (start_initial project S count moment is)
  first_no (Some before) has none refutes = absurd (let e = has.last in cc)

  -- behind one
  pub further_yes : (last : Option Period) (kept : Lasted) → HasLast project last standing
      → standing.last ≡ Some kept → moment.number ≡ count
      → ((before : Period) → IsKept project before standing → OnTrue result (Follows project S before moment))
      → OnTrue result (StartIsMet project S (record { count = count; last = last }) moment)
  further_yes None kept has some number shows = absurd (cc)
  further_yes (Some before) kept has some number shows =
      also_true result _ _ (shows before has) (following_start project S count moment is before number)

  pub further_no : (last : Option Period) (kept : Lasted) → HasLast project last standing
      → standing.last ≡ Some kept
      → ((before : Period) → IsKept project before standing → OnFalse result (Follows project S before moment → ⊥))
      → OnFalse result (StartIsMet project S (record { count = count; last = last }) moment → ⊥)
  further_no None kept has some refutes = absurd (cc)
  further_no (Some before) kept has some refutes =
      also_false result _ _ (refutes before has) (start_following project S count moment is before)
