-- A run with flows is the only one with its records and parts.
use Rattle.std.proofs.Common.{◌≡◌, ℕ, Bool, true, false, List, [], ◌∷◌, ◌++◌, refl, sym, ap, subst, ◌∙◌}
use Rattle.std.proofs.lemmas.List.{append-nil, map-append}
use Rattle.std.specs.Prelude.{MatchBool}
use Rattle.std.specs.List.{AllZip, AllByRecursion}
use Rattle.hyd_num.specs.PrintedDecimals.{flow_quantity}
use Rattle.hyd_num.proofs.Floors.{one_floor, one_ceiling}
use Rattle.hyd_spec.specs.ProgramTypes.{Project}
use Rattle.hyd_spec_certificates.specs.Interval.{Interval}
use Rattle.hyd_spec_certificates.specs.PeriodNetwork.{Grid, GridLink}
use Rattle.hyd_spec_certificates.specs.PrintedIntervals.{Prints, is_report_time}
use Rattle.hyd_spec_certificates.specs.RecordAndStanding.{Standing, initial_standing}
use Rattle.hyd_spec_reports.specs.PromisesOfRunsAndChecks.{Found, IsRun, rows_of}
use Rattle.hyd_spec_flows.specs.FlowParts.{NamedLink, FlowPart, flow_interval}
use Rattle.hyd_spec_flows.specs.FlowTexts.{Entry, rows_in}
use Rattle.hyd_spec_reports_with_flows.specs.FlowLines.{FlowLine, IsFlowLine, AreFlowLines}
use Rattle.hyd_spec_reports_with_flows.specs.PromisesWithFlows.{FoundNaming, IsFoundNaming, founds_in, entry_of}
use Rattle.hyd_spec_reports_with_flows.specs.PromisesWithFlows.{entries_of}
use Rattle.hyd_lemmas.proofs.ListsOptionsAndResults.{same_item}
use Rattle.hyd_theorems_on_checks.proofs.BeginningsOfLists.{Begins, begins_more, both_ways}
use Rattle.hyd_theorems_on_checks.proofs.RunsByRecords.{begins_with}

-- the records of entries are those of what was found
pub rows_are : (namings : List FoundNaming) → rows_of (founds_in namings) ≡ rows_in (entries_of namings)
rows_are [] = refl
rows_are (naming ∷ namings) = ap (λ rows. naming.found.row ∷ rows) (rows_are namings)

module _ (project : Project) where
  -- ---- FLOW lines

  one_flow_line : (grid : Grid) (time : ℕ) (named : NamedLink) (a b : FlowLine) → IsFlowLine project grid time named a
      → IsFlowLine project grid time named b → a ≡ b
  one_flow_line grid time named a b x y =
      let quantity = flow_quantity project.options.unit in
      let link : y.link ≡ x.link = same_item GridLink y.link x.link (sym y.is_link ∙ x.is_link) in
      let prints : Prints quantity (flow_interval x.link named) y.ends =
      subst (λ (l : GridLink). Prints quantity (flow_interval l named) y.ends) link y.prints in
      let lo = one_floor _ _ x.ends.lo y.ends.lo x.prints.down prints.down in
      let hi = one_ceiling _ _ x.ends.hi y.ends.hi x.prints.up prints.up in
      let ends : x.ends ≡ y.ends = λ i. record { lo = lo i; hi = hi i } in
      x.is_line ∙ (ap (λ (e : Interval). record { time = time; link = named.link; ends = e }) ends ∙ sym y.is_line)

  each_flow_line : (grid : Grid) (time : ℕ) (part : FlowPart) (ls ms : List FlowLine)
      → AllZip (IsFlowLine project grid time) part ls → AllZip (IsFlowLine project grid time) part ms → ls ≡ ms
  each_flow_line grid time [] [] [] x y = refl
  each_flow_line grid time [] [] (b ∷ ms) x y = absurd y
  each_flow_line grid time [] (a ∷ ls) ms x y = absurd x
  each_flow_line grid time (named ∷ part) [] ms x y = absurd x
  each_flow_line grid time (named ∷ part) (a ∷ ls) [] x y = absurd y
  each_flow_line grid time (named ∷ part) (a ∷ ls) (b ∷ ms) x y =
      let first = one_flow_line grid time named a b x.0 y.0 in
      let rest = each_flow_line grid time part ls ms x.1 y.1 in
      cc

  -- the FLOW lines of a part are one list
  one_flow_lines : (grid : Grid) (standing : Standing) (part : FlowPart) (ls ms : List FlowLine)
      → AreFlowLines project grid standing part ls → AreFlowLines project grid standing part ms → ls ≡ ms
  one_flow_lines grid standing part ls ms x y = by_time (is_report_time project standing.time) x y
    where
      IsEach : List FlowLine → Type 0
      IsEach lines = AllZip (IsFlowLine project grid standing.time) part lines

      by_time : (b : Bool) → MatchBool b (IsEach ls) (ls ≡ []) → MatchBool b (IsEach ms) (ms ≡ []) → ls ≡ ms
      by_time true x y = each_flow_line grid standing.time part ls ms x y
      by_time false x y = x ∙ sym y

  -- ---- periods

  one_naming : (a b : FoundNaming) → a.found ≡ b.found → a.part ≡ b.part → IsFoundNaming project a
      → IsFoundNaming project b → a ≡ b
  one_naming a b found part x y =
      let lines : AreFlowLines project a.found.grid a.found.standing a.part b.flows =
      subst (λ (f : Found). AreFlowLines project f.grid f.standing a.part b.flows) (sym found)
      (subst (λ (p : FlowPart). AreFlowLines project b.found.grid b.found.standing p b.flows) (sym part) y.lines) in
      let flows = one_flow_lines a.found.grid a.found.standing a.part a.flows b.flows x.lines lines in
      λ i. record { found = found i; part = part i; flows = flows i }

  -- periods of which what was found and the entries are the first of others' are the first of these
  first_namings : (xs ys : List FoundNaming) (founds : List Found) (entries : List Entry)
      → founds_in ys ≡ founds_in xs ++ founds → entries_of ys ≡ entries_of xs ++ entries
      → AllByRecursion (IsFoundNaming project) xs → AllByRecursion (IsFoundNaming project) ys → Begins xs ys
  first_namings [] ys founds entries f e are_x are_y = record { more = ys; is = refl }
  first_namings (x ∷ xs) [] founds entries f e are_x are_y = absurd (cc)
  first_namings (x ∷ xs) (y ∷ ys) founds entries f e are_x are_y =
      let found : y.found ≡ x.found = cc in
      let more : founds_in ys ≡ founds_in xs ++ founds = cc in
      let entry : entry_of y ≡ entry_of x = cc in
      let others : entries_of ys ≡ entries_of xs ++ entries = cc in
      let same = one_naming y x found (ap (λ (one : Entry). one.part) entry) are_y.0 are_x.0 in
      begins_more x y xs ys (sym same) (first_namings xs ys founds entries more others are_x.1 are_y.1)

  -- a run begins with the periods of another one whose entries are the first of its own
  pub begins_with_namings : (xs ys : List FoundNaming) (last other : Standing) → IsRun project (founds_in xs) last
      → IsRun project (founds_in ys) other → AllByRecursion (IsFoundNaming project) xs
      → AllByRecursion (IsFoundNaming project) ys → Begins (entries_of xs) (entries_of ys) → Begins xs ys
  begins_with_namings xs ys last other x y are_x are_y k =
      let rows : rows_of (founds_in ys) ≡ rows_of (founds_in xs) ++ rows_in k.more =
      rows_are ys ∙ (ap rows_in k.is ∙ (map-append (λ (entry : Entry). entry.row) (entries_of xs) k.more
      ∙ ap (λ rows. rows ++ rows_in k.more) (sym (rows_are xs)))) in
      let founds = begins_with project (initial_standing project) (founds_in xs) (founds_in ys) (rows_in k.more) last
      other x y rows in
      first_namings xs ys founds.more k.more founds.is k.is are_x are_y

  pub one_by_entries : (xs ys : List FoundNaming) (last other : Standing) → IsRun project (founds_in xs) last
      → IsRun project (founds_in ys) other → AllByRecursion (IsFoundNaming project) xs
      → AllByRecursion (IsFoundNaming project) ys → entries_of xs ≡ entries_of ys → xs ≡ ys
  one_by_entries xs ys last other x y are_x are_y e =
      both_ways xs ys
      (begins_with_namings xs ys last other x y are_x are_y
      (record { more = []; is = sym e ∙ sym (append-nil (entries_of xs)) }))
      (begins_with_namings ys xs other last y x are_y are_x
      (record { more = []; is = e ∙ sym (append-nil (entries_of ys)) }))
