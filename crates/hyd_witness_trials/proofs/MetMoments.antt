-- Periods that are met, one more at the end.
use Rattle.std.proofs.Common.{◌≡◌, ℕ, List, [], ◌∷◌, ◌++◌, refl, sym, subst}
use Rattle.std.specs.List.{All}
use Rattle.std.proofs.lemmas.List.Elements.{All-append, All-cons, All-nil}
use Rattle.hyd_spec.specs.ProgramTypes.{Project}
use Rattle.hyd_spec.specs.Lists.{IsFrontOf}
use Rattle.hyd_spec_witnesses.specs.MetPeriods.{Moment, Reached, HasItsLists, IsMet, AreMetFrom, AreMet, at_start}
use Rattle.hyd_spec_witnesses.specs.MetPeriods.{after_moment, reached_after}
use Rattle.hyd_spec_witnesses.specs.WitnessText.{IsMoment, counts_of}
use Rattle.hyd_course.specs.Courses.{IsCourseOf}
use Rattle.hyd_course.specs.declared.course.Course.{Course}
use Rattle.hyd_witness_trials.specs.WitnessSoFar.{StandsBehind}

pub one_more : {X : Type 0} (P : X → Type 0) (xs : List X) (x : X) → All P xs → P x → All P (xs ++ (x ∷ []))
one_more P xs x all is = All-append P xs (x ∷ []) all (All-cons P x [] is (All-nil P))

module _ (project : Project) (S : ℕ) where
  pub met_more : (reached : Reached) (moments : List Moment) (moment : Moment) → AreMetFrom project S reached moments
      → IsMet project S (reached_after project S reached moments) moment
      → AreMetFrom project S reached (moments ++ (moment ∷ []))
  met_more reached [] moment met next = (next, tt)
  met_more reached (first ∷ rest) moment met next =
      (met.0, met_more (after_moment project S reached first) rest moment met.1 next)

  pub reached_more : (reached : Reached) (moments : List Moment) (moment : Moment)
      → reached_after project S reached (moments ++ (moment ∷ []))
      ≡ after_moment project S (reached_after project S reached moments) moment
  reached_more reached [] moment = refl
  reached_more reached (first ∷ rest) moment = reached_more (after_moment project S reached first) rest moment

  pub stands_more : (moments : List Moment) (moment : Moment) (course : Course)
      → IsCourseOf project S (after_moment project S (reached_after project S at_start moments) moment) course
      → StandsBehind project S (moments ++ (moment ∷ [])) course
  stands_more [] moment course is = is
  stands_more (first ∷ rest) moment course is =
      subst (λ (r : Reached). IsCourseOf project S r course) (sym (reached_more at_start (first ∷ rest) moment)) is

  met_before : (reached : Reached) (front rest : List Moment) → AreMetFrom project S reached (front ++ rest)
      → AreMetFrom project S reached front
  met_before reached [] rest met = tt
  met_before reached (first ∷ front) rest met =
      (met.0, met_before (after_moment project S reached first) front rest met.1)

  -- a front of periods that are met is met
  pub met_front : (front moments : List Moment) → IsFrontOf front moments → AreMet project S moments
      → AreMet project S front
  met_front front moments is met =
      met_before at_start front is.0 (subst (AreMet project S) (sym is.1) met)

-- the lists of a moment that a witness can have are the network's
pub has_lists : (project : Project) (moments : List Moment) → All (IsMoment (counts_of project)) moments
    → All (HasItsLists project) moments
has_lists project moments all k d inside =
    let is = all k d inside in
    record {
      head_each = is.heads.one_each;
      flow_each = is.flows.one_each;
      demand_each = is.demands.one_each;
      emitter_each = is.emitters.one_each;
      level_each = is.levels.one_each;
      volume_each = is.volumes.one_each;
    }
