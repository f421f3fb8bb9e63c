-- What was read of a witness and met so far.
-- Source: this program's.
use Rattle.std.specs.Prelude.{◌≡◌, ℕ, ◌+◌, ◌<◌, ◌^◌, List, [], ◌∷◌, ◌++◌, Option, Some, None, All, length, map}
use Rattle.hyd_spec.specs.ProgramTypes.{Project}
use Rattle.hyd_spec.specs.Lists.{joined}
use Rattle.hyd_spec_witnesses.specs.declared.Unmet.{Unmet}
use Rattle.hyd_spec_witnesses.specs.MetPeriods.{Moment, AreMet, IsMet, at_start, reached_after}
use Rattle.hyd_spec_witnesses.specs.FirstUnmetClause.{IsUnmet}
use Rattle.hyd_spec_witnesses.specs.WitnessText.{IsScale, IsMoment, counts_of, witness_header, moment_text}
use Rattle.hyd_course.specs.Courses.{IsCourseOf}
use Rattle.hyd_course.specs.declared.course.Course.{Course}
use Rattle.hyd_witness_texts.specs.PartsOfWitness.{lines_of}
use Rattle.hyd_witness_texts.specs.ReaderView.{ReaderView, to_come, IsGoing, periods_at}
use Rattle.hyd_witness_texts.specs.declared.answers_of_reader.Reached.{Reached}
use Rattle.hyd_witness_texts.specs.declared.answers_of_reader.Stand.{Stand}
use Rattle.hyd_witness_texts.specs.declared.answers_of_reader.Stand.TheVariants.{First, Between, Over, Stuck}
use Rattle.hyd_witness_trials.specs.Findings.{IsFound}
use Rattle.hyd_witness_trials.specs.declared.finding.Finding.{Finding}
use Rattle.hyd_witness_trials.specs.declared.finding.Finding.TheVariants.{Fails}

-- A course stands behind these periods of a witness at a scale; before the first of them it may stand anywhere.
abbrev pub StandsBehind : Project → ℕ → List Moment → Course → Type 0
StandsBehind project scale [] course = Unit {0}
StandsBehind project scale (moment ∷ moments) course =
    IsCourseOf project scale (reached_after project scale at_start (moment ∷ moments)) course

-- One more period was met, and the course stands behind it.
pub record DidMoment (project : Project) (scale : ℕ) (moments : List Moment) (moment : Moment) (course : Course) :
    Type 0 where
  pub met : IsMet project scale (reached_after project scale at_start moments) moment
  pub stands : StandsBehind project scale (moments ++ (moment ∷ [])) course

-- The next period isn't met by a clause, and this is what is found.
pub record LostMoment (project : Project) (scale : ℕ) (moments : List Moment) (moment : Moment) (finding : Finding) :
    Type 0 where
  pub unmet : Unmet
  pub fails : IsUnmet project scale (reached_after project scale at_start moments) moment unmet
  pub is : finding ≡ Fails (length moments) unmet

-- What the trial of the next period gives.
abbrev pub TrialGives : Option Finding → Project → ℕ → List Moment → Moment → Course → Type 0
TrialGives None project scale moments moment course = DidMoment project scale moments moment course
TrialGives (Some finding) project scale moments moment course = LostMoment project scale moments moment finding

-- A text begins as a witness with these periods, a reader that has what is left of it stands behind them, and so does a
-- course; they are met.
pub record IsMetTo (project : Project) (text : List ℕ) (reached : Reached) (reader : ReaderView)
    (rest : Option (List ℕ)) (course : Course) : Type 0 where
  pub moments : List Moment
  pub is_scale : IsScale reached.scale
  pub fit : All (IsMoment (counts_of project)) moments
  pub each : length moments ≡ reached.periods
  pub unread : List ℕ
  pub coming : to_come reader rest ≡ Some unread
  pub begins : text ≡ witness_header reached.scale (counts_of project) ++ (joined (map moment_text moments) ++ unread)
  pub line : reader.line ≡ lines_of (counts_of project) (length moments)
  pub met : AreMet project reached.scale moments
  pub stands : StandsBehind project reached.scale moments course

-- Nothing was read of a text.
pub record IsUnread (text : List ℕ) (reader : ReaderView) (rest : Option (List ℕ)) : Type 0 where
  pub coming : to_come reader rest ≡ Some text
  pub line : reader.line ≡ 0

-- So far by where the reader stands.
abbrev pub IsSoFar : Stand → Project → List ℕ → ReaderView → Option (List ℕ) → Course → Type 0
IsSoFar First project text reader rest course = IsUnread text reader rest
IsSoFar (Between reached) project text reader rest course = IsMetTo project text reached reader rest course
IsSoFar (Over reached) project text reader rest course = ⊥
IsSoFar (Stuck fault) project text reader rest course = ⊥

-- The reader stands behind one period more.
pub record GoesOn (before now : Stand) : Type 0 where
  pub going : IsGoing now
  pub one_more : periods_at now ≡ periods_at before + 1
  pub few : periods_at now < 2 ^ 32

-- What one turn gives of a text: it goes on, or this is found.
abbrev pub TurnGives : Option Finding → Project → List ℕ → ReaderView → Option (List ℕ) → Course → Type 0
TurnGives None project text reader rest course = IsSoFar reader.stand project text reader rest course
TurnGives (Some finding) project text reader rest course = IsFound project text finding
