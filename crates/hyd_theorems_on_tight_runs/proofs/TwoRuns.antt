-- Of two tight runs one begins with the other, and one that is finished isn't the shorter one.
use Rattle.std.proofs.Common.{◌≡◌, true, true≢false, ◌⊎◌, inl, inr, List, [], ◌∷◌, ◌++◌, refl, sym, ap, subst, ◌∙◌}
use Rattle.std.proofs.Common.{append-nil}
use Rattle.std.specs.List.{AllByRecursion}
use Rattle.hyd_spec.specs.ProgramTypes.{Project}
use Rattle.hyd_spec.specs.Lists.{IsFrontOf}
use Rattle.hyd_spec_certificates.specs.RecordAndStanding.{Record, Standing, initial_standing}
use Rattle.hyd_spec_certificates.specs.Valid.{IsValid}
use Rattle.hyd_spec_reports.specs.PromisesOfRunsAndChecks.{Found, IsRunFrom, IsRun, none, more, IsTightThroughout}
use Rattle.hyd_spec_reports.specs.PromisesOfRunsAndChecks.{rows_of}
use Rattle.hyd_theorems_on_runs.proofs.OneRun.{one_run, one_left, steps, ends_here}
use Rattle.hyd_theorems_on_tight_runs.specs.TightRuns.{IsTightRun}

-- ---- lists

front_more : {X : Type 0} (x y : X) (front whole : List X) → x ≡ y → IsFrontOf front whole
    → IsFrontOf (x ∷ front) (y ∷ whole)
front_more x y front whole same k = (k.0, (let e = k.1 in cc))

pub records_append : (a b : List Found) → rows_of (a ++ b) ≡ rows_of a ++ rows_of b
records_append [] b = refl
records_append (found ∷ a) b = ap (λ (rows : List Record). found.row ∷ rows) (records_append a b)

pub records_front : (a b : List Found) → IsFrontOf a b → IsFrontOf (rows_of a) (rows_of b)
records_front a b k = (rows_of k.0, sym (records_append a k.0) ∙ ap (λ (fs : List Found). rows_of fs) k.1)

-- ---- runs

module _ (project : Project) where
  -- the first period of a run by itself, and the rest
  first_alone : (start : Standing) (found : Found) (rest : List Found) (last : Standing)
      → IsRunFrom project start (found ∷ rest) last → IsRunFrom project start (found ∷ []) found.next
  first_alone _ found rest last (more is on) = more is none

  valid_first : (start : Standing) (found : Found) (rest : List Found) (last : Standing)
      → IsRunFrom project start (found ∷ rest) last → IsValid project start found.grid found.row found.next
  valid_first _ found rest last (more is on) = is.valid

  same_first : (start : Standing) (a b : Found) (xs ys : List Found) (last other : Standing)
      → IsRunFrom project start (a ∷ xs) last → IsRunFrom project start (b ∷ ys) other → IsTightThroughout project a
      → IsTightThroughout project b → a ≡ b
  same_first start a b xs ys last other x y tight too =
      let alone : (a ∷ []) ≡ (b ∷ []) =
      one_run project start (a ∷ []) (b ∷ []) a.next b.next (first_alone start a xs last x)
      (first_alone start b ys other y) (tight, tt) (too, tt) refl in
      cc

  fronts_from : (start : Standing) (a b : List Found) (last other : Standing) → IsRunFrom project start a last
      → IsRunFrom project start b other → AllByRecursion (IsTightThroughout project) a
      → AllByRecursion (IsTightThroughout project) b → IsFrontOf a b ⊎ IsFrontOf b a
  fronts_from start [] b last other x y tight too = inl (b, refl)
  fronts_from start (f ∷ a) [] last other x y tight too = inr (f ∷ a, refl)
  fronts_from start (f ∷ a) (g ∷ b) last other x y tight too =
      let same = same_first start f g a b last other x y tight.0 too.0 in
      let on = subst (λ (s : Standing). IsRunFrom project s b other) (ap (λ (h : Found). h.next) (sym same))
      (steps project start g b other y).goes_on in
      behind same (fronts_from f.next a b last other (steps project start f a last x).goes_on on tight.1 too.1)
    where
      behind : f ≡ g → IsFrontOf a b ⊎ IsFrontOf b a → IsFrontOf (f ∷ a) (g ∷ b) ⊎ IsFrontOf (g ∷ b) (f ∷ a)
      behind same (inl k) = inl (front_more f g a b same k)
      behind same (inr k) = inr (front_more g f b a (sym same) k)

  pub fronts : (a b : List Found) (last other : Standing) → IsTightRun project a last → IsTightRun project b other
      → IsFrontOf a b ⊎ IsFrontOf b a
  fronts a b last other x y = fronts_from (initial_standing project) a b last other x.is_run y.is_run x.tight y.tight

  pub record_fronts : (a b : List Found) (last other : Standing) → IsTightRun project a last
      → IsTightRun project b other → IsFrontOf (rows_of a) (rows_of b) ⊎ IsFrontOf (rows_of b) (rows_of a)
  record_fronts a b last other x y = of (fronts a b last other x y)
    where
      of : IsFrontOf a b ⊎ IsFrontOf b a → IsFrontOf (rows_of a) (rows_of b) ⊎ IsFrontOf (rows_of b) (rows_of a)
      of (inl k) = inl (records_front a b k)
      of (inr k) = inr (records_front b a k)

  -- ---- behind a run

  -- where a run goes on behind another one, its next record is valid at the standing that the other leaves
  next_from : (start : Standing) (a : List Found) (found : Found) (rest : List Found) (last other : Standing)
      → IsRunFrom project start a last → IsRunFrom project start (a ++ (found ∷ rest)) other
      → IsValid project last found.grid found.row found.next
  next_from start [] found rest last other x y =
      subst (λ (s : Standing). IsValid project s found.grid found.row found.next) (ends_here project start last x)
      (valid_first start found rest other y)
  next_from start (f ∷ a) found rest last other x y =
      next_from f.next a found rest last other (steps project start f a last x).goes_on
      (steps project start f (a ++ (found ∷ rest)) other y).goes_on

  pub next_valid : (a b : List Found) (found : Found) (rest : List Found) (last other : Standing)
      → IsRun project a last → IsRun project b other → a ++ (found ∷ rest) ≡ b
      → IsValid project last found.grid found.row found.next
  next_valid a b found rest last other x y e =
      next_from (initial_standing project) a found rest last other x
      (subst (λ (fs : List Found). IsRun project fs other) (sym e) y)

  -- a finished run is the whole of each tight run that begins with it
  pub whole : (a b : List Found) (last other : Standing) → IsRun project a last → IsRun project b other
      → last.finished ≡ true → IsFrontOf a b → a ≡ b
  whole a b last other x y finished ([], e) = sym (append-nil a) ∙ e
  whole a b last other x y finished (found ∷ rest, e) =
      absurd (true≢false (sym finished ∙ (next_valid a b found rest last other x y e).unfinished))

  pub one_standing : (a b : List Found) (last other : Standing) → IsRun project a last → IsRun project b other → a ≡ b
      → last ≡ other
  one_standing a b last other x y same = one_left project (initial_standing project) a b last other x y same
