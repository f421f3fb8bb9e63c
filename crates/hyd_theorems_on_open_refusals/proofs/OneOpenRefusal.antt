-- A record of a certificate of version 4 is refused by one cause, and one that is refused isn't valid.
use Rattle.std.proofs.Common.{◌≡◌, ◌≢◌, ℕ, ◌+◌, ◌≤◌, List, refl, sym, ap, subst, ◌∙◌, arith, inl, inr, true, false}
use Rattle.std.specs.Prelude.{None, position, Some}
use Rattle.std.proofs.lemmas.Bool.{cases_lt}
use Rattle.hyd_spec.specs.ProgramTypes.{Project}
use Rattle.hyd_spec_certificates.specs.declared.Problem.{Problem}
use Rattle.hyd_spec_certificates.specs.declared.Problem.TheVariants.{Main, Pinned}
use Rattle.hyd_spec_certificates.specs.declared.Side.{Side}
use Rattle.hyd_spec_certificates.specs.declared.Side.TheVariants.{Upper, Lower}
use Rattle.hyd_spec_certificates.specs.declared.CertRefused.{CertRefused}
use Rattle.hyd_spec_certificates.specs.declared.CertRefused.TheVariants.{Place, Demand, Fails, Open as MatterOpen}
use Rattle.hyd_spec_certificates.specs.declared.CertRefused.TheVariants.{Length, After}
use Rattle.hyd_spec_certificates.specs.Interval.{Interval}
use Rattle.hyd_spec_certificates.specs.PeriodNetwork.{Grid}
use Rattle.hyd_spec_certificates.specs.Certificate.{IsCertificate}
use Rattle.hyd_spec_certificates.specs.RecordAndStanding.{Record, vector_of}
use Rattle.hyd_spec_certificates.specs.Decided.{End}
use Rattle.hyd_spec_certificates.specs.Stops.{open_states, is_open_control}
use Rattle.hyd_spec_certificates.specs.TurnsOfProblems.{turn}
use Rattle.hyd_spec_certificates.specs.RefusedRecords.{IsFirstToFail, refused_period}
use Rattle.hyd_spec_open_ends.specs.InstantsOfClock.{AreSecondsToInstant}
use Rattle.hyd_spec_open_ends.specs.OpenStandings.{OpenStanding, OpenRecord}
use Rattle.hyd_spec_open_ends.specs.OpenEnds.{Way, EndsIn, by_rules, by_instant, by_watched, shortest_length}
use Rattle.hyd_spec_open_ends.specs.OpenEnds.{longest_length, late_at_end, IsFirstOpen}
use Rattle.hyd_spec_open_ends.specs.Arrivals.{Arrives}
use Rattle.hyd_spec_open_ends.specs.OpenRecords.{ContinuesOpenly, LeadsOnOpenly, continues, finishes}
use Rattle.hyd_spec_open_ends.specs.OpenRecords.{IsValidOpenly, levels_left}
use Rattle.hyd_spec_open_refusals.specs.RefusedOpenRecords.{lasting, AreLevelsLeft, LeavesMatterOpen, end}
use Rattle.hyd_spec_open_refusals.specs.RefusedOpenRecords.{tank, control, HasLengths, HasOtherLengths, at_end}
use Rattle.hyd_spec_open_refusals.specs.RefusedOpenRecords.{before_end, HasItsGridOpenly, IsCertifiedOpenly}
use Rattle.hyd_spec_open_refusals.specs.RefusedOpenRecords.{IsRefusedOpenlyBy, IsRefusedOpenly}
use Rattle.hyd_theorems_on_definitions.proofs.OneFirstFailure.{fails-no-certificate, one-failure}
use Rattle.hyd_theorems_on_definitions.proofs.OneGrid.{one_grid}
use Rattle.hyd_theorems_on_definitions.proofs.OneRefusal.{states-decided, controls-decided}
use Rattle.hyd_theorems_on_open_ends.proofs.OneOpenEnd.{one_way, not_both}
use Rattle.hyd_theorems_on_open_stops.proofs.ArrivalsDecided.{one_reached}

-- ---- vectors

-- problems and sides have turns of their own
pub same-turn : (p q : Problem) (s t : Side) → turn p s ≡ turn q t → (p ≡ q) × (s ≡ t)
same-turn Main Main Upper Upper e = (refl, refl)
same-turn Main Main Upper Lower e = absurd (omega (arith, e))
same-turn Main Main Lower Upper e = absurd (omega (arith, e))
same-turn Main Main Lower Lower e = (refl, refl)
same-turn Main (Pinned k) Upper Upper e = absurd (omega (arith, e))
same-turn Main (Pinned k) Upper Lower e = absurd (omega (arith, e))
same-turn Main (Pinned k) Lower Upper e = absurd (omega (arith, e))
same-turn Main (Pinned k) Lower Lower e = absurd (omega (arith, e))
same-turn (Pinned k) Main Upper Upper e = absurd (omega (arith, e))
same-turn (Pinned k) Main Upper Lower e = absurd (omega (arith, e))
same-turn (Pinned k) Main Lower Upper e = absurd (omega (arith, e))
same-turn (Pinned k) Main Lower Lower e = absurd (omega (arith, e))
same-turn (Pinned k) (Pinned m) Upper Upper e = (ap Pinned (omega (arith, e)), refl)
same-turn (Pinned k) (Pinned m) Upper Lower e = absurd (omega (arith, e))
same-turn (Pinned k) (Pinned m) Lower Upper e = absurd (omega (arith, e))
same-turn (Pinned k) (Pinned m) Lower Lower e = (ap Pinned (omega (arith, e)), refl)

module _ (project : Project) (grid : Grid) (row : Record) where
  first-fails : (p : Problem) (s : Side) (i : ℕ) → IsFirstToFail project grid row p s i
      → IsCertificate grid p s (vector_of row p s) → ⊥
  first-fails p s i first is = fails-no-certificate None grid p s (vector_of row p s) i first.fails is

  one-to-fail : (p q : Problem) (s t : Side) (i j : ℕ) → IsFirstToFail project grid row p s i
      → IsFirstToFail project grid row q t j → (p ≡ q) × ((s ≡ t) × (i ≡ j))
  one-to-fail p q s t i j a b = elim (cases_lt (turn p s) (turn q t)) [
    | inl less ↦ absurd (first-fails p s i a (b.earlier p s a.is_problem less))
    | inr ge ↦ elim (cases_lt (turn q t) (turn p s)) [
      | inl less ↦ absurd (first-fails q t j b (a.earlier q t b.is_problem less))
      | inr le ↦
          let same = same-turn p q s t (omega (arith, ge, le)) in
          let other : IsFirstToFail project grid row p s j =
          subst (λ (r : Problem). IsFirstToFail project grid row r s j) (sym same.0)
          (subst (λ (r : Side). IsFirstToFail project grid row q r j) (sym same.1) b) in
          (same.0, (same.1, one-failure None grid p s (vector_of row p s) i j a.fails other.fails))
    ]
  ]

-- ---- matters and lengths

module _ (project : Project) (grid : Grid) (standing : OpenStanding) (found : OpenRecord) where
  ends-not-last : (way : Way) → EndsIn project grid standing found.row way
      → standing.known.time ≢ project.times.duration
  ends-not-last _ (by_rules x first after in_time closed) = x.not_last
  ends-not-last _ (by_instant x same none) = x.not_last
  ends-not-last _ (by_watched x before none) = x.not_last

  pub open-not-last : LeavesMatterOpen project grid standing found → standing.known.time ≢ project.times.duration
  open-not-last (end other none) = other
  open-not-last (tank levels number left is) = ends-not-last left.way left.ends
  open-not-last (control levels number left is) = ends-not-last left.way left.ends

  -- a record with the lengths of a way is itself with these lengths
  pub lasts-so : (way : Way) → HasLengths found (shortest_length standing.late way) (longest_length way)
      → lasting standing found way ≡ found
  lasts-so way has = λ i. record {
    row = record found.row { length = sym has.1 i };
    late = found.late;
    shortest = sym has.0 i;
  }

  -- the levels that are left are those with which a record that leads on does
  levels-same : (levels : List Interval) (next : OpenStanding) → AreLevelsLeft project grid standing found levels
      → ContinuesOpenly project grid standing found next → next.known.levels ≡ levels
  levels-same levels next left on =
      let ways = one_way project grid standing found.row left.way on.way left.ends on.ends in
      let reached = one_reached project grid standing.known found.row on.way left.reached on.reached
      (subst (λ w. Arrives project grid standing.known found.row w left.reached) ways left.arrives) on.arrives in
      on.levels
      ∙ sym (left.levels_are
      ∙ ap (λ w. levels_left project grid standing.known (lasting standing found w) left.reached) ways
      ∙ ap (λ f. levels_left project grid standing.known f left.reached)
      (lasts-so on.way (on.shortest, on.longest))
      ∙ ap (λ r. levels_left project grid standing.known found r) reached)

  -- where a record leads on, no matter is open
  continues-closed : (next : OpenStanding) → ContinuesOpenly project grid standing found next
      → LeavesMatterOpen project grid standing found → ⊥
  continues-closed next on (end other none) = none on.way on.ends
  continues-closed next on (tank levels number left is) =
      states-decided project next.known.levels next.known.tanks number on.tanks
      (subst (λ ls. position (λ is_open. is_open) (open_states project ls) ≡ Some number)
      (sym (levels-same levels next left on)) is)
  continues-closed next on (control levels number left is) =
      controls-decided project next.known.levels number on.controls
      (subst (λ ls. position (is_open_control ls) project.controls.list ≡ Some number)
      (sym (levels-same levels next left on)) is)

  pub closed : (next : OpenStanding) → LeadsOnOpenly project grid standing found next
      → LeavesMatterOpen project grid standing found → ⊥
  closed next (continues on) left_open = continues-closed next on left_open
  closed next (finishes on) left_open = open-not-last left_open on.is_last

  -- and its lengths are the decided ones
  pub same-lengths : (next : OpenStanding) → LeadsOnOpenly project grid standing found next
      → HasOtherLengths project grid standing found → ⊥
  same-lengths next (continues on) (at_end last other) = on.not_last last
  same-lengths next (continues on) (before_end way ends other) =
      other (subst (λ w. HasLengths found (shortest_length standing.late w) (longest_length w))
      (one_way project grid standing found.row on.way way on.ends ends) (on.shortest, on.longest))
  same-lengths next (finishes on) (at_end last other) = other (on.no_shortest, on.no_length)
  same-lengths next (finishes on) (before_end way ends other) = ends-not-last way ends on.is_last

-- ---- refusals

module _ (project : Project) (standing : OpenStanding) (found : OpenRecord) where
  invalid-by : (cause : CertRefused) → IsRefusedOpenlyBy project standing found cause → (grid : Grid)
      (next : OpenStanding) → IsValidOpenly project standing grid found next → ⊥
  invalid-by (After period) over grid next valid = absurd (let unfinished = valid.unfinished in cc)
  invalid-by (Place period) is grid next valid =
      is.1 (record { number = valid.number; time = valid.time; late = valid.late })
  invalid-by (Demand period) is grid next valid = is.1 valid.demands
  invalid-by (Fails period problem side junction) is grid next valid =
      let same = one_grid project standing.known is.0 grid is.1.0.is_grid valid.is_grid in
      let first = subst (λ (g : Grid). IsFirstToFail project g found.row problem side junction) same is.1.1 in
      first-fails project grid found.row problem side junction first
      (valid.certificates.each problem side first.is_problem)
  invalid-by (MatterOpen period) is grid next valid =
      let same = one_grid project standing.known is.0 grid is.1.0.has_grid.is_grid valid.is_grid in
      closed project grid standing found next valid.leads_on
      (subst (λ (g : Grid). LeavesMatterOpen project g standing found) same is.1.1)
  invalid-by (Length period) is grid next valid =
      let same = one_grid project standing.known is.0 grid is.1.0.has_grid.is_grid valid.is_grid in
      same-lengths project grid standing found next valid.leads_on
      (subst (λ (g : Grid). HasOtherLengths project g standing found) same is.1.1.1)

  pub refused_invalid : (cause : CertRefused) → IsRefusedOpenly project standing found cause → (grid : Grid)
      (next : OpenStanding) → IsValidOpenly project standing grid found next → ⊥
  refused_invalid cause refused = invalid-by cause refused.refused_by

  -- ---- of two causes the earlier in the order keeps the later out

  overlong : standing.known.finished ≡ true → standing.known.finished ≡ false → ⊥
  overlong over under = absurd (cc)

  uncertified : (a : Grid) (p : Problem) (s : Side) (i : ℕ) (b : Grid) → HasItsGridOpenly project standing a found
      → IsFirstToFail project a found.row p s i → IsCertifiedOpenly project standing b found → ⊥
  uncertified a p s i b has first certified =
      let same = one_grid project standing.known a b has.is_grid certified.has_grid.is_grid in
      let there = subst (λ (g : Grid). IsFirstToFail project g found.row p s i) same first in
      first-fails project b found.row p s i there (certified.certificates.each p s there.is_problem)

  unmatched : (a b : Grid) → IsCertifiedOpenly project standing a found → LeavesMatterOpen project a standing found
      → IsCertifiedOpenly project standing b found → (LeavesMatterOpen project b standing found → ⊥) → ⊥
  unmatched a b one left_open other shut =
      let same = one_grid project standing.known a b one.has_grid.is_grid other.has_grid.is_grid in
      shut (subst (λ (g : Grid). LeavesMatterOpen project g standing found) same left_open)

  one-by : (a b : CertRefused) → refused_period a ≡ refused_period b → IsRefusedOpenlyBy project standing found a
      → IsRefusedOpenlyBy project standing found b → a ≡ b
  one-by (After p) (After q) e x y = ap After e
  one-by (After p) (Place q) e x y = absurd (overlong x y.0)
  one-by (After p) (Demand q) e x y = absurd (overlong x y.0.unfinished)
  one-by (After p) (Fails q r s j) e x y = absurd (overlong x y.1.0.in_place.unfinished)
  one-by (After p) (MatterOpen q) e x y = absurd (overlong x y.1.0.has_grid.in_place.unfinished)
  one-by (After p) (Length q) e x y = absurd (overlong x y.1.0.has_grid.in_place.unfinished)
  one-by (Place p) (After q) e x y = absurd (overlong y x.0)
  one-by (Place p) (Place q) e x y = ap Place e
  one-by (Place p) (Demand q) e x y = absurd (x.1 y.0.due)
  one-by (Place p) (Fails q r s j) e x y = absurd (x.1 y.1.0.in_place.due)
  one-by (Place p) (MatterOpen q) e x y = absurd (x.1 y.1.0.has_grid.in_place.due)
  one-by (Place p) (Length q) e x y = absurd (x.1 y.1.0.has_grid.in_place.due)
  one-by (Demand p) (After q) e x y = absurd (overlong y x.0.unfinished)
  one-by (Demand p) (Place q) e x y = absurd (y.1 x.0.due)
  one-by (Demand p) (Demand q) e x y = ap Demand e
  one-by (Demand p) (Fails q r s j) e x y = absurd (x.1 y.1.0.in_range)
  one-by (Demand p) (MatterOpen q) e x y = absurd (x.1 y.1.0.has_grid.in_range)
  one-by (Demand p) (Length q) e x y = absurd (x.1 y.1.0.has_grid.in_range)
  one-by (Fails p r s i) (After q) e x y = absurd (overlong y x.1.0.in_place.unfinished)
  one-by (Fails p r s i) (Place q) e x y = absurd (y.1 x.1.0.in_place.due)
  one-by (Fails p r s i) (Demand q) e x y = absurd (y.1 x.1.0.in_range)
  one-by (Fails p r s i) (Fails q t v j) e x y =
      let grids = one_grid project standing.known x.0 y.0 x.1.0.is_grid y.1.0.is_grid in
      let there = subst (λ (g : Grid). IsFirstToFail project g found.row r s i) grids x.1.1 in
      let same = one-to-fail project y.0 found.row r t s v i j there y.1.1 in
      λ k. Fails (e k) (same.0 k) (same.1.0 k) (same.1.1 k)
  one-by (Fails p r s i) (MatterOpen q) e x y = absurd (uncertified x.0 r s i y.0 x.1.0 x.1.1 y.1.0)
  one-by (Fails p r s i) (Length q) e x y = absurd (uncertified x.0 r s i y.0 x.1.0 x.1.1 y.1.0)
  one-by (MatterOpen p) (After q) e x y = absurd (overlong y x.1.0.has_grid.in_place.unfinished)
  one-by (MatterOpen p) (Place q) e x y = absurd (y.1 x.1.0.has_grid.in_place.due)
  one-by (MatterOpen p) (Demand q) e x y = absurd (y.1 x.1.0.has_grid.in_range)
  one-by (MatterOpen p) (Fails q r s j) e x y = absurd (uncertified y.0 r s j x.0 y.1.0 y.1.1 x.1.0)
  one-by (MatterOpen p) (MatterOpen q) e x y = ap MatterOpen e
  one-by (MatterOpen p) (Length q) e x y = absurd (unmatched x.0 y.0 x.1.0 x.1.1 y.1.0 y.1.1.0)
  one-by (Length p) (After q) e x y = absurd (overlong y x.1.0.has_grid.in_place.unfinished)
  one-by (Length p) (Place q) e x y = absurd (y.1 x.1.0.has_grid.in_place.due)
  one-by (Length p) (Demand q) e x y = absurd (y.1 x.1.0.has_grid.in_range)
  one-by (Length p) (Fails q r s j) e x y = absurd (uncertified y.0 r s j x.0 y.1.0 y.1.1 x.1.0)
  one-by (Length p) (MatterOpen q) e x y = absurd (unmatched y.0 x.0 y.1.0 y.1.1 x.1.0 x.1.1.0)
  one-by (Length p) (Length q) e x y = ap Length e

  pub one_refusal : (a b : CertRefused) → IsRefusedOpenly project standing found a
      → IsRefusedOpenly project standing found b → a ≡ b
  one_refusal a b x y = one-by a b (x.period_is ∙ sym y.period_is) x.refused_by y.refused_by

-- ---- open ends, whatever the slack

module _ (project : Project) (grid : Grid) (standing : OpenStanding) (found : OpenRecord) (cap slack : ℕ)
    (is_cap : AreSecondsToInstant project standing.known.time cap) (wide : cap ≤ slack) where
  by-cap : (way : Way) → EndsIn project grid standing found.row way → late_at_end standing.late way ≤ slack
  by-cap _ (by_rules x first after in_time closed) = omega arith
  by-cap _ (by_instant x same none) = omega arith
  by-cap _ (by_watched {cap = c} x before none) =
      let a = x.is_cap.least (standing.known.time + cap) is_cap.holds in
      omega (arith, before, a, wide)

  pub none_ends : (what : End) → IsFirstOpen project grid standing found.row slack what → (way : Way)
      → EndsIn project grid standing found.row way → ⊥
  none_ends what is way ends = not_both project grid standing found.row slack way what ends (by-cap way ends) is
