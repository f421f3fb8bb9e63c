-- A run with a slack is the only one with its records, whatever the slack, its periods have one report each, and a record
-- that stands behind its own in another run is valid where it ends.
use Rattle.std.proofs.Common.{◌≡◌, ℕ, ◌+◌, List, [], ◌∷◌, ◌++◌, refl, sym, ap, ap₂, subst, ◌∙◌}
use Rattle.hyd_spec.specs.ProgramTypes.{Project}
use Rattle.hyd_spec_certificates.specs.Interval.{Interval}
use Rattle.hyd_spec_certificates.specs.PeriodNetwork.{Grid}
use Rattle.hyd_spec_certificates.specs.Valid.{AreStates}
use Rattle.hyd_spec_open_ends.specs.OpenStandings.{OpenStanding, OpenRecord, initial_open_standing}
use Rattle.hyd_spec_open_ends.specs.OpenEnds.{Way, first_end, late_at_end}
use Rattle.hyd_spec_open_ends.specs.Arrivals.{Arrives}
use Rattle.hyd_spec_open_ends.specs.OpenRecords.{LeadsOnOpenly, continues, finishes, IsValidOpenly, levels_left}
use Rattle.hyd_spec_open_ends.specs.OpenRecords.{volumes_left, links_left}
use Rattle.hyd_spec_open_ends.specs.OpenRuns.{OpenFound, IsOpenRunFrom, IsOpenRun, none, more}
use Rattle.hyd_spec_open_ends.specs.PromisesOfOpenRuns.{open_rows_of}
use Rattle.hyd_spec_open_reports.specs.OpenReport.{IsOpenReport}
use Rattle.hyd_spec_open_reports.specs.PromisesOfOpenReports.{Reported, AreReports, periods_of}
use Rattle.hyd_lemmas.proofs.ListsOptionsAndResults.{somes_same}
use Rattle.hyd_theorems_on_definitions.proofs.OneGrid.{one_grid}
use Rattle.hyd_theorems_on_open_ends.proofs.OneOpenEnd.{one_way}
use Rattle.hyd_theorems_on_open_refusals.proofs.RecordsOfRuns.{one-found}
use Rattle.hyd_theorems_on_open_reports.proofs.OneOpenReport.{one_open_report}

module _ (project : Project) where
  abbrev IsValid : OpenFound → Type 0
  IsValid here = IsValidOpenly project here.standing here.grid here.found here.next

  -- ---- from period to period

  -- the periods of a run, whatever its slack: each begins where the one before it ended
  abbrev Goes : OpenStanding → List OpenFound → OpenStanding → Type 0
  Goes start [] last = start ≡ last
  Goes start (here ∷ rest) last = (here.standing ≡ start) × (IsValid here × Goes here.next rest last)

  goes : (slack : ℕ) (start : OpenStanding) (founds : List OpenFound) (last : OpenStanding)
      → IsOpenRunFrom project slack start founds last → Goes start founds last
  goes slack _ _ _ none = refl
  goes slack _ _ last (more {here = here} {rest = rest} is within on) =
      (refl, (is, goes slack here.next rest last on))

  one-from : (start other : OpenStanding) (xs ys : List OpenFound) (last end : OpenStanding) → start ≡ other
      → Goes start xs last → Goes other ys end → open_rows_of xs ≡ open_rows_of ys → (xs ≡ ys) × (last ≡ end)
  one-from start other [] [] last end same x y e = (refl, sym x ∙ (same ∙ y))
  one-from start other [] (b ∷ ys) last end same x y e = absurd (cc)
  one-from start other (a ∷ xs) [] last end same x y e = absurd (cc)
  one-from start other (a ∷ xs) (b ∷ ys) last end same x y e =
      let found : a.found ≡ b.found = cc in
      let others : open_rows_of xs ≡ open_rows_of ys = cc in
      let first = one-found project a b (x.0 ∙ (same ∙ sym y.0)) found x.1.0 y.1.0 in
      let rest = one-from a.next b.next xs ys last end (ap (λ (f : OpenFound). f.next) first) x.1.1 y.1.1 others in
      (ap₂ (λ f fs. f ∷ fs) first rest.0, rest.1)

  pub one_run : (m n : ℕ) (a b : List OpenFound) (last other : OpenStanding) → IsOpenRun project m a last
      → IsOpenRun project n b other → open_rows_of a ≡ open_rows_of b → (a ≡ b) × (last ≡ other)
  one_run m n a b last other x y e =
      let start = initial_open_standing project in
      one-from start start a b last other refl (goes m start a last x) (goes n start b other y) e

  -- ---- a record behind a run

  next-from : (start other : OpenStanding) (xs ys : List OpenFound) (found : OpenRecord) (rows : List OpenRecord)
      (last end : OpenStanding) → start ≡ other → Goes start xs last → Goes other ys end
      → open_rows_of ys ≡ open_rows_of xs ++ (found ∷ rows)
      → (grid : Grid) × (next : OpenStanding) × IsValidOpenly project last grid found next
  next-from start other [] [] found rows last end same x y e = absurd (cc)
  next-from start other [] (b ∷ ys) found rows last end same x y e =
      let its : b.found ≡ found = cc in (
        b.grid,
        b.next,
        subst (λ (f : OpenRecord). IsValidOpenly project last b.grid f b.next) its
            (subst (λ (s : OpenStanding). IsValidOpenly project s b.grid b.found b.next) (y.0 ∙ (sym same ∙ x))
            y.1.0),
      )
  next-from start other (a ∷ xs) [] found rows last end same x y e = absurd (cc)
  next-from start other (a ∷ xs) (b ∷ ys) found rows last end same x y e =
      let its : a.found ≡ b.found = cc in
      let others : open_rows_of ys ≡ open_rows_of xs ++ (found ∷ rows) = cc in
      let first = one-found project a b (x.0 ∙ (same ∙ sym y.0)) its x.1.0 y.1.0 in
      next-from a.next b.next xs ys found rows last end (ap (λ (f : OpenFound). f.next) first) x.1.1 y.1.1 others

  pub next_valid : (m n : ℕ) (a b : List OpenFound) (found : OpenRecord) (rows : List OpenRecord)
      (last other : OpenStanding) → IsOpenRun project m a last → IsOpenRun project n b other
      → open_rows_of b ≡ open_rows_of a ++ (found ∷ rows)
      → (grid : Grid) × (next : OpenStanding) × IsValidOpenly project last grid found next
  next_valid m n a b found rows last other x y e =
      let start = initial_open_standing project in
      next-from start start a b found rows last other refl (goes m start a last x) (goes n start b other y) e

  -- ---- reports

  pub one_reports : (a b : List Reported) → AreReports project a → AreReports project b
      → periods_of a ≡ periods_of b → a ≡ b
  one_reports [] [] x y e = refl
  one_reports [] (b ∷ ys) x y e = absurd (cc)
  one_reports (a ∷ xs) [] x y e = absurd (cc)
  one_reports (a ∷ xs) (b ∷ ys) x y e =
      let here : a.here ≡ b.here = cc in
      let others : periods_of xs ≡ periods_of ys = cc in
      let lines = one_open_report project a.here.grid a.here.standing a.here.found a.lines b.lines x.0
      (subst (λ (h : OpenFound). IsOpenReport project h.grid h.standing h.found b.lines) (sym here) y.0) in
      let rest = one_reports xs ys x.1 y.1 others in
      λ i. record { here = here i; lines = lines i } ∷ rest i
