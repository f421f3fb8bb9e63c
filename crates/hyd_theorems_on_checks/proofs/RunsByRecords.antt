-- A run is the only one with its records, and a record that stands behind them in another run is valid where it ends.
use Rattle.std.proofs.Common.{◌≡◌, List, [], ◌∷◌, ◌++◌, refl, sym, ap, subst, ◌∙◌}
use Rattle.hyd_spec.specs.ProgramTypes.{Project}
use Rattle.hyd_spec_certificates.specs.PeriodNetwork.{Grid}
use Rattle.hyd_spec_certificates.specs.RecordAndStanding.{Record, Standing}
use Rattle.hyd_spec_certificates.specs.Valid.{IsValid}
use Rattle.hyd_spec_reports.specs.Report.{IsReport}
use Rattle.hyd_spec_reports.specs.PromisesOfRunsAndChecks.{Found, IsFound, IsRunFrom, rows_of}
use Rattle.hyd_theorems_on_runs.proofs.OneReport.{one_report}
use Rattle.hyd_theorems_on_definitions.proofs.OneGrid.{one_grid}
use Rattle.hyd_theorems_on_runs.proofs.OneRun.{steps, ends_here}
use Rattle.hyd_theorems_on_definitions.proofs.OneStandingAndTightVector.{one_standing}
use Rattle.hyd_theorems_on_checks.proofs.BeginningsOfLists.{Begins, begins_more}

module _ (project : Project) where
  -- ---- one period

  -- what is found of a record at a standing is one
  one_found : (a b : Found) → a.standing ≡ b.standing → a.row ≡ b.row → IsFound project a → IsFound project b → a ≡ b
  one_found a b standing row x y =
      let at : IsValid project a.standing b.grid b.row b.next =
      subst (λ (s : Standing). IsValid project s b.grid b.row b.next) (sym standing) y.valid in
      let grid = one_grid project a.standing a.grid b.grid x.valid.is_grid at.is_grid in
      let too : IsValid project a.standing a.grid a.row b.next =
      subst (λ (r : Record). IsValid project a.standing a.grid r b.next) (sym row)
      (subst (λ (g : Grid). IsValid project a.standing g b.row b.next) (sym grid) at) in
      let next = one_standing project a.grid a.standing a.row a.next b.next x.valid.leads_on too.leads_on in
      let said : IsReport project a.grid a.standing a.row b.lines =
      subst (λ (r : Record). IsReport project a.grid a.standing r b.lines) (sym row)
      (subst (λ (g : Grid). IsReport project g a.standing b.row b.lines) (sym grid)
      (subst (λ (s : Standing). IsReport project b.grid s b.row b.lines) (sym standing) y.report)) in
      let lines = one_report project a.grid a.standing a.row a.lines b.lines x.report said in
      λ i. record { standing = standing i; grid = grid i; row = row i; lines = lines i; next = next i }

  -- ---- from period to period

  -- two first periods with one record are the same, and the second run goes on from the first one's standing
  record OneFirst (a b : Found) (ys : List Found) (other : Standing) : Type 0 where
    same : a ≡ b
    goes_on : IsRunFrom project a.next ys other

  one_first : (start : Standing) (a b : Found) (xs ys : List Found) (last other : Standing)
      → IsRunFrom project start (a ∷ xs) last → IsRunFrom project start (b ∷ ys) other → a.row ≡ b.row
      → OneFirst a b ys other
  one_first start a b xs ys last other x y row =
      let s = steps project start a xs last x in
      let t = steps project start b ys other y in
      let first = one_found a b (s.begins ∙ sym t.begins) row s.is_found t.is_found in
      record {
        same = first;
        goes_on = subst (λ (n : Standing). IsRunFrom project n ys other) (ap (λ (f : Found). f.next) (sym first))
            t.goes_on;
      }

  pub one_by_records : (start : Standing) (xs ys : List Found) (last other : Standing)
      → IsRunFrom project start xs last → IsRunFrom project start ys other → rows_of xs ≡ rows_of ys → xs ≡ ys
  one_by_records start [] [] last other x y e = refl
  one_by_records start [] (b ∷ ys) last other x y e = absurd (cc)
  one_by_records start (a ∷ xs) [] last other x y e = absurd (cc)
  one_by_records start (a ∷ xs) (b ∷ ys) last other x y e =
      let row : a.row ≡ b.row = cc in
      let others : rows_of xs ≡ rows_of ys = cc in
      let first = one_first start a b xs ys last other x y row in
      let same = first.same in
      let rest = one_by_records a.next xs ys last other (steps project start a xs last x).goes_on first.goes_on others
      in
      cc

  -- ---- a record behind a run

  -- the record is valid at the standing
  pub record IsValidAt (standing : Standing) (row : Record) : Type 0 where
    pub grid : Grid
    pub next : Standing
    pub valid : IsValid project standing grid row next

  first_valid : (start : Standing) (found : Found) (rest : List Found) (last here : Standing) (row : Record)
      → IsRunFrom project start (found ∷ rest) last → start ≡ here → found.row ≡ row → IsValidAt here row
  first_valid start found rest last here row run at same =
      let s = steps project start found rest last run in
      record {
        grid = found.grid;
        next = found.next;
        valid = subst (λ (r : Record). IsValid project here found.grid r found.next) same
            (subst (λ (t : Standing). IsValid project t found.grid found.row found.next) (s.begins ∙ at)
            s.is_found.valid);
      }

  pub next_valid : (start : Standing) (xs ys : List Found) (row : Record) (rows : List Record) (last other : Standing)
      → IsRunFrom project start xs last → IsRunFrom project start ys other → rows_of ys ≡ rows_of xs ++ (row ∷ rows)
      → IsValidAt last row
  next_valid start [] [] row rows last other x y e = absurd (cc)
  next_valid start [] (b ∷ ys) row rows last other x y e =
      let same : b.row ≡ row = cc in
      first_valid start b ys other last row y (ends_here project start last x) same
  next_valid start (a ∷ xs) [] row rows last other x y e = absurd (cc)
  next_valid start (a ∷ xs) (b ∷ ys) row rows last other x y e =
      let same : a.row ≡ b.row = cc in
      let others : rows_of ys ≡ rows_of xs ++ (row ∷ rows) = cc in
      let first = one_first start a b xs ys last other x y same in
      next_valid a.next xs ys row rows last other (steps project start a xs last x).goes_on first.goes_on others

  -- a run begins with the periods of another one whose records are the first of its own
  pub begins_with : (start : Standing) (xs ys : List Found) (rows : List Record) (last other : Standing)
      → IsRunFrom project start xs last → IsRunFrom project start ys other → rows_of ys ≡ rows_of xs ++ rows
      → Begins xs ys
  begins_with start [] ys rows last other x y e = record { more = ys; is = refl }
  begins_with start (a ∷ xs) [] rows last other x y e = absurd (cc)
  begins_with start (a ∷ xs) (b ∷ ys) rows last other x y e =
      let same : a.row ≡ b.row = cc in
      let others : rows_of ys ≡ rows_of xs ++ rows = cc in
      let first = one_first start a b xs ys last other x y same in
      begins_more a b xs ys first.same
      (begins_with a.next xs ys rows last other (steps project start a xs last x).goes_on first.goes_on others)
