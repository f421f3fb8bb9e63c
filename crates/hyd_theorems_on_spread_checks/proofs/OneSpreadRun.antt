-- A run for a spread with a slack is the only one with its records, whatever the slack, its periods have one report
-- each, and a record that stands behind its own in another run for the spread is valid where it ends.
use Rattle.std.proofs.Common.{◌≡◌, ℕ, ◌+◌, List, [], ◌∷◌, ◌++◌, refl, sym, ap, ap₂, subst, ◌∙◌}
use Rattle.hyd_spec.specs.ProgramTypes.{Project}
use Rattle.hyd_spec_certificates.specs.Interval.{Interval}
use Rattle.hyd_spec_certificates.specs.PeriodNetwork.{Grid}
use Rattle.hyd_spec_certificates.specs.Valid.{AreStates}
use Rattle.hyd_spec_open_ends.specs.OpenStandings.{OpenStanding, OpenRecord}
use Rattle.hyd_spec_open_ends.specs.OpenEnds.{Way, first_end, late_at_end}
use Rattle.hyd_spec_open_ends.specs.Arrivals.{Arrives}
use Rattle.hyd_spec_open_ends.specs.OpenRecords.{LeadsOnOpenly, continues, finishes, levels_left, volumes_left}
use Rattle.hyd_spec_open_ends.specs.OpenRecords.{links_left}
use Rattle.hyd_spec_spread.specs.Spreads.{Spread}
use Rattle.hyd_spec_spread_runs.specs.OutermostPairs.{Pair, spanned}
use Rattle.hyd_spec_open_spreads.specs.OpenRunsForSpreads.{open_standing_within, spanning_openly, IsValidOpenlyOver}
use Rattle.hyd_spec_open_spreads.specs.OpenRunsForSpreads.{OpenFoundOver, IsOpenRunOverFrom, IsOpenRunOver, none, more}
use Rattle.hyd_spec_spread_reports.specs.ClaimsWithinSpreads.{ReportedOver, AreReportsOver, periods_over}
use Rattle.hyd_spec_spread_reports.specs.SpreadReport.{IsSpreadReport}
use Rattle.hyd_spec_spread_promises.specs.PromisesOfSpreadRuns.{rows_over}
use Rattle.hyd_lemmas.proofs.ListsOptionsAndResults.{somes_same}
use Rattle.hyd_theorems_on_open_ends.proofs.OneOpenEnd.{one_way}
use Rattle.hyd_theorems_on_open_stops.proofs.ArrivalsDecided.{one_reached}
use Rattle.hyd_theorems_on_spread_refusals.proofs.OneOutermostGrid.{one_pair}
use Rattle.hyd_theorems_on_spread_reports.proofs.OneSpreadReport.{one_spread_report}

-- ---- one period

module _ (project : Project) where
  -- a record leads on to one standing, whatever the grid
  one-next : (grid : Grid) (standing : OpenStanding) (found : OpenRecord) (a b : OpenStanding)
      → LeadsOnOpenly project grid standing found a → LeadsOnOpenly project grid standing found b → a ≡ b
  one-next grid standing found a b (continues c) (continues d) =
      let ways = one_way project grid standing found.row c.way d.way c.ends d.ends in
      let reached = one_reached project grid standing.known found.row d.way c.reached d.reached
      (subst (λ w. Arrives project grid standing.known found.row w c.reached) ways c.arrives) d.arrives in
      let levels = c.levels ∙ (ap (levels_left project grid standing.known found) reached ∙ sym d.levels) in
      let volumes = c.volumes ∙ (ap (volumes_left project grid standing.known found) reached ∙ sym d.volumes) in
      let tanks = somes_same a.known.tanks b.known.tanks (sym c.tanks
      ∙ subst (λ (ls : List Interval). AreStates project ls b.known.tanks) (sym levels) d.tanks) in
      let commanded = c.commanded ∙ (ap (links_left project grid standing found.row) ways ∙ sym d.commanded) in
      let number = c.number ∙ sym d.number in
      let time = c.time ∙ (ap (λ (w : Way). standing.known.time + first_end w) ways ∙ sym d.time) in
      let late = c.late ∙ (ap (λ (w : Way). late_at_end standing.late w) ways ∙ sym d.late) in
      let finished = c.unfinished ∙ sym d.unfinished in
      λ i. record {
        known = record {
          number = number i;
          time = time i;
          levels = levels i;
          volumes = volumes i;
          tanks = tanks i;
          commanded = commanded i;
          finished = finished i;
        };
        late = late i;
      }
  one-next grid standing found a b (continues c) (finishes f) = absurd (c.not_last f.is_last)
  one-next grid standing found a b (finishes f) (continues c) = absurd (c.not_last f.is_last)
  one-next grid standing found a b (finishes f) (finishes g) =
      let known = f.next_known ∙ sym g.next_known in
      let late = f.next_late ∙ sym g.next_late in
      λ i. record { known = known i; late = late i }

module _ (project : Project) (spread : Spread) where
  abbrev IsValid : OpenFoundOver → Type 0
  IsValid here = IsValidOpenlyOver project spread here.standing here.pair here.found here.next

  -- what is found of a record at a standing is one
  pub one_found_over : (a b : OpenFoundOver) → a.standing ≡ b.standing → a.found ≡ b.found → IsValid a → IsValid b
      → a ≡ b
  one_found_over a b standing found x y =
      let at : IsValidOpenlyOver project spread a.standing b.pair b.found b.next =
      subst (λ (s : OpenStanding). IsValidOpenlyOver project spread s b.pair b.found b.next) (sym standing) y in
      let pair = one_pair project spread a.standing.known a.pair b.pair x.are_pair at.are_pair in
      let too : IsValidOpenlyOver project spread a.standing a.pair a.found b.next =
      subst (λ (f : OpenRecord). IsValidOpenlyOver project spread a.standing a.pair f b.next) (sym found)
      (subst (λ (p : Pair). IsValidOpenlyOver project spread a.standing p b.found b.next) (sym pair) at) in
      let next = one-next project (spanned a.pair) a.standing (spanning_openly a.pair a.found) a.next b.next
      x.leads_on too.leads_on in
      λ i. record { standing = standing i; pair = pair i; found = found i; next = next i }

  -- ---- from period to period

  -- the periods of a run, whatever its slack: each begins where the one before it ended
  abbrev Goes : OpenStanding → List OpenFoundOver → OpenStanding → Type 0
  Goes start [] last = start ≡ last
  Goes start (here ∷ rest) last = (here.standing ≡ start) × (IsValid here × Goes here.next rest last)

  goes : (slack : ℕ) (start : OpenStanding) (founds : List OpenFoundOver) (last : OpenStanding)
      → IsOpenRunOverFrom project spread slack start founds last → Goes start founds last
  goes slack _ _ _ none = refl
  goes slack _ _ last (more {here = here} {rest = rest} is within on) =
      (refl, (is, goes slack here.next rest last on))

  one-from : (start other : OpenStanding) (xs ys : List OpenFoundOver) (last end : OpenStanding) → start ≡ other
      → Goes start xs last → Goes other ys end → rows_over xs ≡ rows_over ys → (xs ≡ ys) × (last ≡ end)
  one-from start other [] [] last end same x y e = (refl, sym x ∙ (same ∙ y))
  one-from start other [] (b ∷ ys) last end same x y e = absurd (cc)
  one-from start other (a ∷ xs) [] last end same x y e = absurd (cc)
  one-from start other (a ∷ xs) (b ∷ ys) last end same x y e =
      let found : a.found ≡ b.found = cc in
      let others : rows_over xs ≡ rows_over ys = cc in
      let first = one_found_over a b (x.0 ∙ (same ∙ sym y.0)) found x.1.0 y.1.0 in
      let rest = one-from a.next b.next xs ys last end (ap (λ (f : OpenFoundOver). f.next) first) x.1.1 y.1.1 others in
      (ap₂ (λ f fs. f ∷ fs) first rest.0, rest.1)

  pub one_run_over : (m n : ℕ) (a b : List OpenFoundOver) (last other : OpenStanding)
      → IsOpenRunOver project spread m a last → IsOpenRunOver project spread n b other → rows_over a ≡ rows_over b
      → (a ≡ b) × (last ≡ other)
  one_run_over m n a b last other x y e =
      let start = open_standing_within project spread in
      one-from start start a b last other refl (goes m start a last x.run) (goes n start b other y.run) e

  -- ---- a record behind a run

  next-from : (start other : OpenStanding) (xs ys : List OpenFoundOver) (found : OpenRecord) (rows : List OpenRecord)
      (last end : OpenStanding) → start ≡ other → Goes start xs last → Goes other ys end
      → rows_over ys ≡ rows_over xs ++ (found ∷ rows)
      → (pair : Pair) × (next : OpenStanding) × IsValidOpenlyOver project spread last pair found next
  next-from start other [] [] found rows last end same x y e = absurd (cc)
  next-from start other [] (b ∷ ys) found rows last end same x y e =
      let its : b.found ≡ found = cc in (
        b.pair,
        b.next,
        subst (λ (f : OpenRecord). IsValidOpenlyOver project spread last b.pair f b.next) its
            (subst (λ (s : OpenStanding). IsValidOpenlyOver project spread s b.pair b.found b.next)
            (y.0 ∙ (sym same ∙ x)) y.1.0),
      )
  next-from start other (a ∷ xs) [] found rows last end same x y e = absurd (cc)
  next-from start other (a ∷ xs) (b ∷ ys) found rows last end same x y e =
      let its : a.found ≡ b.found = cc in
      let others : rows_over ys ≡ rows_over xs ++ (found ∷ rows) = cc in
      let first = one_found_over a b (x.0 ∙ (same ∙ sym y.0)) its x.1.0 y.1.0 in
      next-from a.next b.next xs ys found rows last end (ap (λ (f : OpenFoundOver). f.next) first) x.1.1 y.1.1 others

  pub next_valid_over : (m n : ℕ) (a b : List OpenFoundOver) (found : OpenRecord) (rows : List OpenRecord)
      (last other : OpenStanding) → IsOpenRunOver project spread m a last → IsOpenRunOver project spread n b other
      → rows_over b ≡ rows_over a ++ (found ∷ rows)
      → (pair : Pair) × (next : OpenStanding) × IsValidOpenlyOver project spread last pair found next
  next_valid_over m n a b found rows last other x y e =
      let start = open_standing_within project spread in
      next-from start start a b found rows last other refl (goes m start a last x.run) (goes n start b other y.run) e

-- ---- reports

module _ (project : Project) where
  pub one_reports_over : (a b : List ReportedOver) → AreReportsOver project a → AreReportsOver project b
      → periods_over a ≡ periods_over b → a ≡ b
  one_reports_over [] [] x y e = refl
  one_reports_over [] (b ∷ ys) x y e = absurd (cc)
  one_reports_over (a ∷ xs) [] x y e = absurd (cc)
  one_reports_over (a ∷ xs) (b ∷ ys) x y e =
      let here : a.here ≡ b.here = cc in
      let others : periods_over xs ≡ periods_over ys = cc in
      let lines = one_spread_report project a.here.pair a.here.standing a.here.found a.lines b.lines x.0
      (subst (λ (h : OpenFoundOver). IsSpreadReport project h.pair h.standing h.found b.lines) (sym here) y.0) in
      let rest = one_reports_over xs ys x.1 y.1 others in
      λ i. record { here = here i; lines = lines i } ∷ rest i
