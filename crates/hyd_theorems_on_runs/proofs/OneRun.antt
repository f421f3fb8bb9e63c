-- A network has one tight run of each number of periods.
use Rattle.std.proofs.Common.{◌≡◌, ℕ, suc, ◌<◌, List, [], ◌∷◌, length, refl, sym, ap, subst, ◌∙◌, arith}
use Rattle.std.specs.Prelude.{slice_index_or}
use Rattle.std.specs.List.{AllByRecursion}
use Rattle.hyd_spec.specs.ProgramTypes.{Project}
use Rattle.hyd_spec_certificates.specs.declared.Problem.{Problem}
use Rattle.hyd_spec_certificates.specs.declared.Problem.TheVariants.{Main, Pinned}
use Rattle.hyd_spec_certificates.specs.declared.Side.{Side}
use Rattle.hyd_spec_certificates.specs.declared.Side.TheVariants.{Upper, Lower}
use Rattle.hyd_spec_certificates.specs.PeriodNetwork.{Grid}
use Rattle.hyd_spec_certificates.specs.Certificate.{IsTight}
use Rattle.hyd_spec_certificates.specs.RecordAndStanding.{Record, Vectors, Standing, no_vectors, vector_of}
use Rattle.hyd_spec_certificates.specs.Valid.{IsProblem, LeadsOn, IsValid}
use Rattle.hyd_spec_reports.specs.ReportLine.{ReportLine}
use Rattle.hyd_spec_reports.specs.Report.{IsReport}
use Rattle.hyd_spec_reports.specs.PromisesOfRunsAndChecks.{Found, IsFound, IsRunFrom, none, more, IsTightThroughout}
use Rattle.hyd_theorems_on_definitions.proofs.OneLength.{one_length}
use Rattle.hyd_theorems_on_definitions.proofs.OneStandingAndTightVector.{one_standing, one_vector}
use Rattle.hyd_theorems_on_runs.proofs.OneReport.{one_report}
use Rattle.hyd_theorems_on_definitions.proofs.OneGrid.{one_grid}

module _ (project : Project) where
  -- ---- records

  same_vectors : (u v : List Vectors) → length u ≡ length v
      → ((k : ℕ) → k < length u → (slice_index_or u k no_vectors).upper ≡ (slice_index_or v k no_vectors).upper)
      → ((k : ℕ) → k < length u → (slice_index_or u k no_vectors).lower ≡ (slice_index_or v k no_vectors).lower) → u ≡ v
  same_vectors [] [] e above below = refl
  same_vectors [] (y ∷ v) e above below = absurd (omega (arith, e))
  same_vectors (x ∷ u) [] e above below = absurd (omega (arith, e))
  same_vectors (x ∷ u) (y ∷ v) e above below =
      let upper : x.upper ≡ y.upper = above 0 (omega arith) in
      let lower : x.lower ≡ y.lower = below 0 (omega arith) in
      let first : x ≡ y = λ i. record { upper = upper i; lower = lower i } in
      let rest = same_vectors u v (omega (arith, e)) (λ k le. above (suc k) (omega (arith, le)))
      (λ k le. below (suc k) (omega (arith, le))) in
      cc

  module _ (standing : Standing) (grid : Grid) (a b : Record) (next other : Standing)
      (valid : IsValid project standing grid a next)
      (too : IsValid project standing grid b other)
      (tight : (problem : Problem) (side : Side) → IsProblem project problem
      → IsTight grid problem side (vector_of a problem side))
      (other_tight : (problem : Problem) (side : Side) → IsProblem project problem
      → IsTight grid problem side (vector_of b problem side)) where
    same_vector : (problem : Problem) (side : Side) → IsProblem project problem
        → vector_of a problem side ≡ vector_of b problem side
    same_vector problem side is = one_vector grid problem side _ _ (tight problem side is) (other_tight problem side is)

    main_same : a.main ≡ b.main
    main_same =
        let upper = same_vector Main Upper tt in let lower = same_vector Main Lower tt in
        λ i. record { upper = upper i; lower = lower i }

    pinned_same : a.pinned ≡ b.pinned
    pinned_same =
        let own = valid.certificates.pinned_each in
        same_vectors a.pinned b.pinned (own ∙ sym too.certificates.pinned_each)
        (λ k le. same_vector (Pinned k) Upper (omega (arith, own, le)))
        (λ k le. same_vector (Pinned k) Lower (omega (arith, own, le)))

    -- all but the length, and so that too
    but_for_length : b ≡ record a { length = b.length }
    but_for_length =
        let number = too.number ∙ sym valid.number in
        let time = too.time ∙ sym valid.time in
        λ i. record {
          number = number i;
          time = time i;
          length = b.length;
          main = sym main_same i;
          pinned = sym pinned_same i;
        }

    length_same : a.length ≡ b.length
    length_same = one_length project grid standing a b.length next other valid.leads_on
        (subst (λ (r : Record). LeadsOn project grid standing r other) but_for_length too.leads_on)

    row_same : a ≡ b
    row_same = ap (λ (n : ℕ). record a { length = n }) length_same ∙ sym but_for_length

    next_same : next ≡ other
    next_same = one_standing project grid standing a next other valid.leads_on
        (subst (λ (r : Record). LeadsOn project grid standing r other) (sym row_same) too.leads_on)

    lines_same : (ls ms : List ReportLine) → IsReport project grid standing a ls → IsReport project grid standing b ms
        → ls ≡ ms
    lines_same ls ms x y = one_report project grid standing a ls ms x
        (subst (λ (r : Record). IsReport project grid standing r ms) (sym row_same) y)

  -- ---- runs

  one_found : (a b : Found) → a.standing ≡ b.standing → IsFound project a → IsFound project b
      → IsTightThroughout project a → IsTightThroughout project b → a ≡ b
  one_found a b standing x y tight other_tight =
      let at : IsValid project a.standing b.grid b.row b.next =
      subst (λ (s : Standing). IsValid project s b.grid b.row b.next) (sym standing) y.valid in
      let grid = one_grid project a.standing a.grid b.grid x.valid.is_grid at.is_grid in
      let too : IsValid project a.standing a.grid b.row b.next =
      subst (λ (g : Grid). IsValid project a.standing g b.row b.next) (sym grid) at in
      let close : (problem : Problem) (side : Side) → IsProblem project problem
      → IsTight a.grid problem side (vector_of b.row problem side) =
      λ problem side is. subst (λ (g : Grid). IsTight g problem side (vector_of b.row problem side)) (sym grid)
      (other_tight problem side is) in
      let said = subst (λ (g : Grid). IsReport project g a.standing b.row b.lines) (sym grid)
      (subst (λ (s : Standing). IsReport project b.grid s b.row b.lines) (sym standing) y.report) in
      let row = row_same a.standing a.grid a.row b.row a.next b.next x.valid too tight close in
      let next = next_same a.standing a.grid a.row b.row a.next b.next x.valid too tight close in
      let lines = lines_same a.standing a.grid a.row b.row a.next b.next x.valid too tight close a.lines b.lines
      x.report said in
      λ i. record { standing = standing i; grid = grid i; row = row i; lines = lines i; next = next i }

  -- The first period of a run, and the rest.
  pub record Steps (start : Standing) (found : Found) (rest : List Found) (last : Standing) : Type 0 where
    pub begins : found.standing ≡ start
    pub is_found : IsFound project found
    pub goes_on : IsRunFrom project found.next rest last

  pub steps : (start : Standing) (found : Found) (rest : List Found) (last : Standing)
      → IsRunFrom project start (found ∷ rest) last → Steps start found rest last
  steps _ found rest last (more is on) = record { begins = refl; is_found = is; goes_on = on }

  pub one_run : (start : Standing) (xs ys : List Found) (last other : Standing) → IsRunFrom project start xs last
      → IsRunFrom project start ys other
      → AllByRecursion (IsTightThroughout project) xs → AllByRecursion (IsTightThroughout project) ys
      → length xs ≡ length ys → xs ≡ ys
  one_run start [] [] last other x y tight too e = refl
  one_run start [] (b ∷ ys) last other x y tight too e = absurd (omega (arith, e))
  one_run start (a ∷ xs) [] last other x y tight too e = absurd (omega (arith, e))
  one_run start (a ∷ xs) (b ∷ ys) last other x y tight too e =
      let s = steps start a xs last x in
      let t = steps start b ys other y in
      let first = one_found a b (s.begins ∙ sym t.begins) s.is_found t.is_found tight.0 too.0 in
      let on = subst (λ (n : Standing). IsRunFrom project n ys other) (ap (λ (f : Found). f.next) (sym first))
      t.goes_on in
      let rest = one_run a.next xs ys last other s.goes_on on tight.1 too.1 (omega (arith, e)) in
      cc

  -- a run of no periods ends where it begins
  pub ends_here : (start last : Standing) → IsRunFrom project start [] last → start ≡ last
  ends_here start last run = over start [] last run refl
    where
      over : (s : Standing) (fs : List Found) (l : Standing) → IsRunFrom project s fs l → fs ≡ [] → s ≡ l
      over _ _ l none e = refl
      over _ _ l (more is on) e = absurd (cc)

  -- a run leaves one standing
  one_last : (start : Standing) (xs : List Found) (last other : Standing) → IsRunFrom project start xs last
      → IsRunFrom project start xs other → last ≡ other
  one_last start [] last other x y = sym (ends_here start last x) ∙ ends_here start other y
  one_last start (a ∷ xs) last other x y = one_last a.next xs last other (steps start a xs last x).goes_on
      (steps start a xs other y).goes_on

  pub one_left : (start : Standing) (xs ys : List Found) (last other : Standing) → IsRunFrom project start xs last
      → IsRunFrom project start ys other → xs ≡ ys → last ≡ other
  one_left start xs ys last other x y same = one_last start xs last other x
      (subst (λ (fs : List Found). IsRunFrom project start fs other) (sym same) y)
