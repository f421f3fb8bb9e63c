-- A record is refused by one cause, and one that is refused isn't valid.
use Rattle.std.proofs.Common.{◌≡◌, ◌≢◌, ℕ, zero, suc, ◌<◌, Bool, true, false, List, [], ◌∷◌, map, length, refl, sym, ap}
use Rattle.std.proofs.Common.{subst, ◌∙◌, arith, inl, inr}
use Rattle.std.specs.Prelude.{Option, Some, None, slice_index_or, Contains, position, is_none}
use Rattle.std.proofs.lemmas.List.Quantifiers.{position-Some}
use Rattle.std.proofs.lemmas.Bool.{cases_lt}
use Rattle.hyd_spec.specs.ProgramTypes.{Project, Control, When, AtLevel, AtTime, AtClock}
use Rattle.hyd_spec.specs.declared.TankState.{TankState}
use Rattle.hyd_spec.specs.Lists.{map_from}
use Rattle.hyd_spec_certificates.specs.declared.Problem.{Problem}
use Rattle.hyd_spec_certificates.specs.declared.Problem.TheVariants.{Main, Pinned}
use Rattle.hyd_spec_certificates.specs.declared.Side.{Side}
use Rattle.hyd_spec_certificates.specs.declared.Side.TheVariants.{Upper, Lower}
use Rattle.hyd_spec_certificates.specs.Interval.{Interval}
use Rattle.hyd_spec_certificates.specs.PeriodNetwork.{Grid}
use Rattle.hyd_spec_certificates.specs.Certificate.{IsCertificate}
use Rattle.hyd_spec_certificates.specs.RecordAndStanding.{Record, Standing, vector_of}
use Rattle.hyd_spec_certificates.specs.ThreeValuedLogic.{is_unknown}
use Rattle.hyd_spec_certificates.specs.Stocks.{state_of}
use Rattle.hyd_spec_certificates.specs.Decided.{RuleIsOpen, EventIsOpen, control_truth, nowhere}
use Rattle.hyd_spec_certificates.specs.Valid.{levels_next, AreStates, ControlsAreDecided, Continues, LeadsOn, continues}
use Rattle.hyd_spec_certificates.specs.Valid.{finishes, IsValid}
use Rattle.hyd_spec_certificates.specs.declared.CertRefused.{CertRefused}
use Rattle.hyd_spec_certificates.specs.declared.CertRefused.TheVariants.{Place, Demand, Fails, Open as MatterOpen}
use Rattle.hyd_spec_certificates.specs.declared.CertRefused.TheVariants.{Length}
use Rattle.hyd_spec_certificates.specs.declared.CertRefused.TheVariants.{After}
use Rattle.hyd_spec_certificates.specs.RefusedRecords.{refused_period}
use Rattle.hyd_spec_certificates.specs.Stops.{open_states, is_open_control}
use Rattle.hyd_spec_certificates.specs.TurnsOfProblems.{turn}
use Rattle.hyd_spec_certificates.specs.RefusedRecords.{IsRefused, IsRefusedBy, IsDue, HasItsGrid, IsCertified}
use Rattle.hyd_spec_certificates.specs.RefusedRecords.{IsFirstToFail}
use Rattle.hyd_spec_certificates.specs.RefusedRecords.{LeavesOpen, rule, event, tank, control, HasOtherLength, at_end}
use Rattle.hyd_spec_certificates.specs.RefusedRecords.{before_end}
use Rattle.hyd_theorems_on_definitions.proofs.OneEndOfPeriod.{not-last, leaves-not-last, leaves-one, leaves-no-rule}
use Rattle.hyd_theorems_on_definitions.proofs.OneEndOfPeriod.{leaves-no-event}
use Rattle.hyd_theorems_on_definitions.proofs.OneFirstFailure.{fails-no-certificate, one-failure}
use Rattle.hyd_theorems_on_definitions.proofs.OneGrid.{one_grid}

-- ---- lists

-- what passes a test first is an item that passes
record Passing {X : Type 0} (test : X → Bool) (xs : List X) : Type 0 where
  item : X
  within : Contains xs item
  passes : test item ≡ true

contains-later : {X : Type 0} (x : X) (xs : List X) (y : X) → Contains xs y → Contains (x ∷ xs) y
contains-later x xs y (k, lt, e) = (suc k, omega (arith, lt), e)

contains-at : {X : Type 0} (xs : List X) (k : ℕ) (d : X) → k < length xs → Contains xs (slice_index_or xs k d)
contains-at [] k d lt = absurd (omega (arith, lt))
contains-at (x ∷ xs) zero d lt = (0, omega arith, refl)
contains-at (x ∷ xs) (suc k) d lt = contains-later x xs (slice_index_or xs k d) (contains-at xs k d (omega (arith, lt)))

passing-of : {X : Type 0} (test : X → Bool) (xs : List X) (n : ℕ) → position test xs ≡ Some n → Passing test xs
passing-of test [] n e = absurd (cc)
passing-of test (x ∷ xs) n e =
    let found = position-Some test (x ∷ xs) n x e in
    record { item = slice_index_or (x ∷ xs) n x; within = contains-at (x ∷ xs) n x found.0; passes = found.1 }

-- where each item gives something, none gives nothing
none-missing : {X Y : Type 0} (f : ℕ → X → Option Y) (k : ℕ) (xs : List X) (ys : List Y) (n : ℕ) (d : Bool)
    → map_from f k xs ≡ map Some ys
    → n < length (map_from (λ m x. is_none (f m x)) k xs) → slice_index_or
    (map_from (λ m x. is_none (f m x)) k xs) n d ≡ true → ⊥
none-missing f k [] ys n d e lt is = absurd (omega (arith, lt))
none-missing f k (x ∷ xs) [] n d e lt is = absurd (cc)
none-missing f k (x ∷ xs) (y ∷ ys) zero d e lt is =
    let some : f k x ≡ Some y = cc in
    let none : is_none (f k x) ≡ false = ap is_none some in
    absurd (cc)
none-missing f k (x ∷ xs) (y ∷ ys) (suc n) d e lt is =
    let rest : map_from f (suc k) xs ≡ map Some ys = cc in
    none-missing f (suc k) xs ys n d rest (omega (arith, lt)) is

-- ---- vectors

-- problems and sides have turns of their own
same-turn : (p q : Problem) (s t : Side) → turn p s ≡ turn q t → (p ≡ q) × (s ≡ t)
same-turn Main Main Upper Upper e = (refl, refl)
same-turn Main Main Upper Lower e = absurd (omega (arith, e))
same-turn Main Main Lower Upper e = absurd (omega (arith, e))
same-turn Main Main Lower Lower e = (refl, refl)
same-turn Main (Pinned k) Upper Upper e = absurd (omega (arith, e))
same-turn Main (Pinned k) Upper Lower e = absurd (omega (arith, e))
same-turn Main (Pinned k) Lower Upper e = absurd (omega (arith, e))
same-turn Main (Pinned k) Lower Lower e = absurd (omega (arith, e))
same-turn (Pinned k) Main Upper Upper e = absurd (omega (arith, e))
same-turn (Pinned k) Main Upper Lower e = absurd (omega (arith, e))
same-turn (Pinned k) Main Lower Upper e = absurd (omega (arith, e))
same-turn (Pinned k) Main Lower Lower e = absurd (omega (arith, e))
same-turn (Pinned k) (Pinned m) Upper Upper e = (ap Pinned (omega (arith, e)), refl)
same-turn (Pinned k) (Pinned m) Upper Lower e = absurd (omega (arith, e))
same-turn (Pinned k) (Pinned m) Lower Upper e = absurd (omega (arith, e))
same-turn (Pinned k) (Pinned m) Lower Lower e = (ap Pinned (omega (arith, e)), refl)

module _ (project : Project) (grid : Grid) (row : Record) where
  first-fails : (p : Problem) (s : Side) (i : ℕ) → IsFirstToFail project grid row p s i → IsCertificate grid p s
      (vector_of row p s) → ⊥
  first-fails p s i first is = fails-no-certificate None grid p s (vector_of row p s) i first.fails is

  abbrev AreOne : Problem → Problem → Side → Side → ℕ → ℕ → Type 0
  AreOne p q s t i j = (p ≡ q) × ((s ≡ t) × (i ≡ j))

  one-to-fail : (p q : Problem) (s t : Side) (i j : ℕ) → IsFirstToFail project grid row p s i
      → IsFirstToFail project grid row q t j
      → AreOne p q s t i j
  one-to-fail p q s t i j a b = elim (cases_lt (turn p s) (turn q t)) [
    | inl less ↦ absurd (first-fails p s i a (b.earlier p s a.is_problem less))
    | inr ge ↦ elim (cases_lt (turn q t) (turn p s)) [
      | inl less ↦ absurd (first-fails q t j b (a.earlier q t b.is_problem less))
      | inr le ↦
          let same = same-turn p q s t (omega (arith, ge, le)) in
          let other : IsFirstToFail project grid row p s j = subst
          (λ (r : Problem). IsFirstToFail project grid row r s j) (sym same.0)
          (subst (λ (r : Side). IsFirstToFail project grid row q r j) (sym same.1) b) in
          (same.0, (same.1, one-failure None grid p s (vector_of row p s) i j a.fails other.fails))
    ]
  ]

-- ---- matters

module _ (project : Project) where
  -- where each tank's state is decided none is the first that is open
  pub states-decided : (levels : List Interval) (states : List TankState) (number : ℕ) → AreStates project levels states
      → position (λ is_open. is_open) (open_states project levels) ≡ Some number → ⊥
  states-decided levels states number are e =
      let found = position-Some (λ (is_open : Bool). is_open) (open_states project levels) number false e in
      none-missing
      (λ k tank. state_of tank
      (slice_index_or levels k nowhere)) 0 project.tanks.list states number false are found.0 found.1

  -- where each level control is decided none is the first that is open
  pub controls-decided : (levels : List Interval) (number : ℕ) → ControlsAreDecided project levels
      → position (is_open_control levels) project.controls.list ≡ Some number → ⊥
  controls-decided levels number decided e =
      let found = passing-of (is_open_control levels) project.controls.list number e in
      by found.item found.within found.item.when refl found.passes
    where
      by : (c : Control) → Contains project.controls.list c → (when : When) → c.when ≡ when
          → is_open_control levels c ≡ true → ⊥
      by c within (AtLevel k above ticks) at is =
          let shut = decided c k above ticks within at in
          let unknown : is_unknown (control_truth (slice_index_or levels k nowhere) above ticks) ≡ true = subst
          (λ (w : When). is_open_control levels (record c { when = w }) ≡ true) at is in
          absurd (cc)
      by c within (AtTime time) at is = absurd (let no : is_open_control levels
          (record c { when = AtTime time }) ≡ true = subst (λ (w : When). is_open_control levels
          (record c { when = w }) ≡ true) at is in cc)
      by c within (AtClock time) at is = absurd (let no : is_open_control levels
          (record c { when = AtClock time }) ≡ true = subst (λ (w : When). is_open_control levels
          (record c { when = w }) ≡ true) at is in cc)

module _ (project : Project) (grid : Grid) (standing : Standing) (row : Record) where
  open-not-last : LeavesOpen project grid standing row → standing.time ≢ project.times.duration
  open-not-last (rule open_rule e) = not-last project grid standing row (RuleIsOpen open_rule) e
  open-not-last (event earliest latest e) = not-last project grid standing row (EventIsOpen earliest latest) e
  open-not-last (tank seconds links number leaves is) =
      leaves-not-last project grid standing row seconds links leaves
  open-not-last (control seconds links number leaves is) =
      leaves-not-last project grid standing row seconds links leaves

  -- where a record leads on, no matter is open
  continues-closed : (next : Standing) → Continues project grid standing row next
      → LeavesOpen project grid standing row → ⊥
  continues-closed next on (rule open_rule e) =
      leaves-no-rule project grid standing row row.length next.commanded open_rule on.leaves_links e
  continues-closed next on (event earliest latest e) =
      leaves-no-event project grid standing row row.length next.commanded earliest latest on.leaves_links e
  continues-closed next on (tank seconds links number leaves is) =
      let same = leaves-one project grid standing row seconds row.length links next.commanded leaves
      on.leaves_links in
      states-decided project next.levels next.tanks number on.tanks
      (subst (λ (ls : List Interval). position (λ is_open. is_open) (open_states project ls) ≡ Some number)
      (sym on.levels)
      (subst (λ (n : ℕ). position (λ is_open. is_open) (open_states project
      (levels_next project grid standing row n)) ≡ Some number) same is))
  continues-closed next on (control seconds links number leaves is) =
      let same = leaves-one project grid standing row seconds row.length links next.commanded leaves
      on.leaves_links in
      controls-decided project next.levels number on.controls
      (subst (λ (ls : List Interval). position (is_open_control ls) project.controls.list ≡ Some number) (sym on.levels)
      (subst (λ (n : ℕ). position
      (is_open_control (levels_next project grid standing row n)) project.controls.list ≡ Some number) same is))

  closed : (next : Standing) → LeadsOn project grid standing row next → LeavesOpen project grid standing row → ⊥
  closed next (continues on) left_open = continues-closed next on left_open
  closed next (finishes on) left_open = open-not-last left_open on.is_last

  -- and its length is the decided one
  same-length : (next : Standing) → LeadsOn project grid standing row next → HasOtherLength project grid standing row
      → ⊥
  same-length next (continues on) (at_end last other) = on.not_last last
  same-length next (continues on) (before_end seconds links leaves other) =
      other (leaves-one project grid standing row row.length seconds next.commanded links on.leaves_links leaves)
  same-length next (finishes on) (at_end last other) = other on.no_length
  same-length next (finishes on) (before_end seconds links leaves other) =
      leaves-not-last project grid standing row seconds links leaves on.is_last

-- ---- refusals

module _ (project : Project) (standing : Standing) (row : Record) where
  due-of : (grid : Grid) (next : Standing) → IsValid project standing grid row next → IsDue standing row
  due-of grid next valid = record { number = valid.number; time = valid.time }

  invalid-by : (cause : CertRefused) → IsRefusedBy project standing row cause → (grid : Grid) (next : Standing)
      → IsValid project standing grid row next → ⊥
  invalid-by (After period) over grid next valid = absurd (let unfinished = valid.unfinished in cc)
  invalid-by (Place period) is grid next valid = is.1 (due-of grid next valid)
  invalid-by (Demand period) is grid next valid = is.1 valid.demands
  invalid-by (Fails period problem side junction) is grid next valid =
      let same = one_grid project standing is.0 grid is.1.0.is_grid valid.is_grid in
      let first = subst (λ (g : Grid). IsFirstToFail project g row problem side junction) same is.1.1 in
      first-fails project grid row problem side junction first (valid.certificates.each problem side first.is_problem)
  invalid-by (MatterOpen period) is grid next valid =
      let same = one_grid project standing is.0 grid is.1.0.has_grid.is_grid valid.is_grid in
      closed project grid standing row next valid.leads_on (subst
      (λ (g : Grid). LeavesOpen project g standing row) same is.1.1)
  invalid-by (Length period) is grid next valid =
      let same = one_grid project standing is.0 grid is.1.0.has_grid.is_grid valid.is_grid in
      same-length project grid standing row next valid.leads_on
      (subst (λ (g : Grid). HasOtherLength project g standing row) same is.1.1.1)

  pub refused_invalid : (cause : CertRefused) → IsRefused project standing row cause → (grid : Grid) (next : Standing)
      → IsValid project standing grid row next → ⊥
  refused_invalid cause refused = invalid-by cause refused.refused_by

  -- ---- of two causes the earlier in the order keeps the later out

  overlong : standing.finished ≡ true → standing.finished ≡ false → ⊥
  overlong over under = absurd (cc)

  uncertified : (a : Grid) (p : Problem) (s : Side) (i : ℕ) (b : Grid) → HasItsGrid project standing a row
      → IsFirstToFail project a row p s i → IsCertified project standing b row → ⊥
  uncertified a p s i b has first certified =
      let same = one_grid project standing a b has.is_grid certified.has_grid.is_grid in
      let there = subst (λ (g : Grid). IsFirstToFail project g row p s i) same first in
      first-fails project b row p s i there (certified.certificates.each p s there.is_problem)

  unmatched : (a b : Grid) → IsCertified project standing a row → LeavesOpen project a standing row
      → IsCertified project standing b row → (LeavesOpen project b standing row → ⊥) → ⊥
  unmatched a b one left_open other shut =
      let same = one_grid project standing a b one.has_grid.is_grid other.has_grid.is_grid in
      shut (subst (λ (g : Grid). LeavesOpen project g standing row) same left_open)

  one-by : (a b : CertRefused) → refused_period a ≡ refused_period b → IsRefusedBy project standing row a
      → IsRefusedBy project standing row b → a ≡ b
  one-by (After p) (After q) e x y = ap After e
  one-by (After p) (Place q) e x y = absurd (overlong x y.0)
  one-by (After p) (Demand q) e x y = absurd (overlong x y.0.unfinished)
  one-by (After p) (Fails q r s j) e x y = absurd (overlong x y.1.0.in_place.unfinished)
  one-by (After p) (MatterOpen q) e x y = absurd (overlong x y.1.0.has_grid.in_place.unfinished)
  one-by (After p) (Length q) e x y = absurd (overlong x y.1.0.has_grid.in_place.unfinished)
  one-by (Place p) (After q) e x y = absurd (overlong y x.0)
  one-by (Place p) (Place q) e x y = ap Place e
  one-by (Place p) (Demand q) e x y = absurd (x.1 y.0.due)
  one-by (Place p) (Fails q r s j) e x y = absurd (x.1 y.1.0.in_place.due)
  one-by (Place p) (MatterOpen q) e x y = absurd (x.1 y.1.0.has_grid.in_place.due)
  one-by (Place p) (Length q) e x y = absurd (x.1 y.1.0.has_grid.in_place.due)
  one-by (Demand p) (After q) e x y = absurd (overlong y x.0.unfinished)
  one-by (Demand p) (Place q) e x y = absurd (y.1 x.0.due)
  one-by (Demand p) (Demand q) e x y = ap Demand e
  one-by (Demand p) (Fails q r s j) e x y = absurd (x.1 y.1.0.in_range)
  one-by (Demand p) (MatterOpen q) e x y = absurd (x.1 y.1.0.has_grid.in_range)
  one-by (Demand p) (Length q) e x y = absurd (x.1 y.1.0.has_grid.in_range)
  one-by (Fails p r s i) (After q) e x y = absurd (overlong y x.1.0.in_place.unfinished)
  one-by (Fails p r s i) (Place q) e x y = absurd (y.1 x.1.0.in_place.due)
  one-by (Fails p r s i) (Demand q) e x y = absurd (y.1 x.1.0.in_range)
  one-by (Fails p r s i) (Fails q t v j) e x y =
      let grids = one_grid project standing x.0 y.0 x.1.0.is_grid y.1.0.is_grid in
      let there = subst (λ (g : Grid). IsFirstToFail project g row r s i) grids x.1.1 in
      let same = one-to-fail project y.0 row r t s v i j there y.1.1 in
      λ k. Fails (e k) (same.0 k) (same.1.0 k) (same.1.1 k)
  one-by (Fails p r s i) (MatterOpen q) e x y = absurd (uncertified x.0 r s i y.0 x.1.0 x.1.1 y.1.0)
  one-by (Fails p r s i) (Length q) e x y = absurd (uncertified x.0 r s i y.0 x.1.0 x.1.1 y.1.0)
  one-by (MatterOpen p) (After q) e x y = absurd (overlong y x.1.0.has_grid.in_place.unfinished)
  one-by (MatterOpen p) (Place q) e x y = absurd (y.1 x.1.0.has_grid.in_place.due)
  one-by (MatterOpen p) (Demand q) e x y = absurd (y.1 x.1.0.has_grid.in_range)
  one-by (MatterOpen p) (Fails q r s j) e x y = absurd (uncertified y.0 r s j x.0 y.1.0 y.1.1 x.1.0)
  one-by (MatterOpen p) (MatterOpen q) e x y = ap MatterOpen e
  one-by (MatterOpen p) (Length q) e x y = absurd (unmatched x.0 y.0 x.1.0 x.1.1 y.1.0 y.1.1.0)
  one-by (Length p) (After q) e x y = absurd (overlong y x.1.0.has_grid.in_place.unfinished)
  one-by (Length p) (Place q) e x y = absurd (y.1 x.1.0.has_grid.in_place.due)
  one-by (Length p) (Demand q) e x y = absurd (y.1 x.1.0.has_grid.in_range)
  one-by (Length p) (Fails q r s j) e x y = absurd (uncertified y.0 r s j x.0 y.1.0 y.1.1 x.1.0)
  one-by (Length p) (MatterOpen q) e x y = absurd (unmatched y.0 x.0 y.1.0 y.1.1 x.1.0 x.1.1.0)
  one-by (Length p) (Length q) e x y = ap Length e

  pub one_refusal : (a b : CertRefused) → IsRefused project standing row a → IsRefused project standing row b → a ≡ b
  one_refusal a b x y = one-by a b (x.period_is ∙ sym y.period_is) x.refused_by y.refused_by
