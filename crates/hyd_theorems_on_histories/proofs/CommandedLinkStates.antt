-- Pump patterns, controls and rules give each link a state of its own.
use Rattle.std.proofs.Common.{◌≡◌, ℕ, zero, suc, ◌+◌, ◌<◌, ℤ, pos, refl, sym, ap, subst, arith, Bool, true, false, ◌==◌}
use Rattle.std.proofs.Common.{List, [], ◌∷◌, ◌++◌, length, map}
use Rattle.std.specs.Prelude.{Option, Some, None, slice_get, slice_index_or, slice_set, fold, All, int_le}
use Rattle.std.specs.Prelude.{if◌then◌else◌}
use Rattle.std.specs.List.{AllByRecursion, AllZip}
use Rattle.std.specs.Option.{option_map_or, option_and_then}
use Rattle.std.proofs.lemmas.Bool.{cond_both, eqb-true}
use Rattle.std.proofs.lemmas.Option.{get_or_from_slice_get}
use Rattle.hyd_net.specs.NumberRanges.{IsUpTo}
use Rattle.hyd_net.specs.NetworkRanges.{HasPattern, HasSizes}
use Rattle.hyd_net.specs.LinkStates.{IsSpeed, CanHave, CanBeSet}
use Rattle.hyd_net.specs.ControlsAndRules.{CanCommand, IsControl, IsRule}
use Rattle.hyd_net.specs.RoundedFileNumbers.{IsStateMade, IsRuleMade}
use Rattle.hyd_net.specs.Sound.{IsSound}
use Rattle.hyd_spec.specs.ProgramTypes.{Project, Link, LinkKind, PipeLink, CheckPipe, PumpLink, CurvePump, Tcv, Fcv}
use Rattle.hyd_spec.specs.ProgramTypes.{Gpv, LinkState, Closed, Speed, Control, Rule, Action, Pattern}
use Rattle.hyd_spec.specs.declared.Change.{Change}
use Rattle.hyd_spec.specs.declared.Source.TheVariants.{Rule as ByRule}
use Rattle.hyd_spec.specs.Lists.{map_from}
use Rattle.hyd_spec.specs.DemandsHeadsAndPumpLifts.{multipliers_of, multiplier_at}
use Rattle.hyd_spec.specs.PumpPatternsAndSimpleControls.{speed_state, is_pattern_boundary, patterned_state}
use Rattle.hyd_spec.specs.PumpPatternsAndSimpleControls.{after_patterns, patterned, control_acts, started}
use Rattle.hyd_spec.specs.Rules.{Offer, offer_of, offers_of, offers_from, is_above, higher, best_offer, change_by}
use Rattle.hyd_spec.specs.Rules.{change_of, acted, is_same_state}
use Rattle.hyd_spec.specs.History.{initial_links}
use Rattle.std.proofs.lemmas.Int.{ints}
use Rattle.hyd_lemmas.proofs.ListsOptionsAndResults.{same_item}
use Rattle.hyd_lemmas.proofs.BooleanTests.{le-no}
use Rattle.hyd_theorems_on_histories.specs.Agreement.{IsOwnState}
use Rattle.hyd_theorems_on_histories.proofs.TruthsAndRuleValues.{each_of}

-- ---- commands

set-can : (kind : LinkKind) (state : LinkState) → CanBeSet kind state → CanHave kind state
set-can (PipeLink c) state can = can
set-can (CheckPipe c) state can = absurd can
set-can (PumpLink c s h p) state can = can
set-can (Tcv v) state can = can
set-can (CurvePump b p) state can = can
set-can (Fcv v) state can = can
set-can (Gpv b) state can = can

-- ---- zipped lists

zip-set : (X Y : Type 0) (P : X → Y → Type 0) (xs : List X) (ys : List Y) (k : ℕ) (y : Y)
    → ((x : X) → slice_get xs k ≡ Some x → P x y) → AllZip P xs ys → AllZip P xs (slice_set ys k y)
zip-set X Y P [] [] k y at all = tt
zip-set X Y P [] (z ∷ ys) k y at all = absurd all
zip-set X Y P (x ∷ xs) [] k y at all = absurd all
zip-set X Y P (x ∷ xs) (z ∷ ys) zero y at all = (at x refl, all.1)
zip-set X Y P (x ∷ xs) (z ∷ ys) (suc k) y at all = (all.0, zip-set X Y P xs ys k y at all.1)

zip-numbered : (X Y : Type 0) (P : X → Y → Type 0) (f : ℕ → Y → Y) (from : ℕ) (xs : List X) (ys : List Y)
    → ((k : ℕ) (x : X) (y : Y) → slice_get xs k ≡ Some x → P x y → P x (f (from + k) y)) → AllZip P xs ys
    → AllZip P xs (map_from f from ys)
zip-numbered X Y P f from [] [] step all = tt
zip-numbered X Y P f from [] (y ∷ ys) step all = absurd all
zip-numbered X Y P f from (x ∷ xs) [] step all = absurd all
zip-numbered X Y P f from (x ∷ xs) (y ∷ ys) step all = (
  (let n : from + 0 ≡ from = omega arith in subst (λ m. P x (f m y)) n (step 0 x y refl all.0)),
  zip-numbered X Y P f (suc from) xs ys (λ k z w at holds.
      let n : from + suc k ≡ suc from + k = omega arith in subst (λ m. P z (f m w)) n (step (suc k) z w at holds))
      all.1,
)

module _ (project : Project) (sound : IsSound project) where
  -- a state that a control or a rule commands of a link
  commanded-own : (number : ℕ) (to : LinkState) → CanCommand project number to → IsStateMade project.options.unit to
      → (link : Link) → slice_get project.links.list number ≡ Some link → IsOwnState project link to
  commanded-own number to can made link at = record {
    made = made;
    can = set-can link.kind to
        (subst (λ (l : Link). CanBeSet l.kind to) (get_or_from_slice_get project.links.list number link link at)
        (can.holds link));
  }

  -- ---- patterns

  speed-own : (link : Link) (speed : ℤ) → CanHave link.kind Closed → ((n : ℤ) → IsSpeed n → CanHave link.kind (Speed n))
      → IsUpTo 10 speed → IsOwnState project link (speed_state speed)
  speed-own link speed shut runs range = cond_both (int_le speed (pos 0)) Closed (Speed speed) (IsOwnState project link)
      (λ e. record { made = tt; can = shut })
      (λ e. record {
        made = tt;
        can =
            runs speed (record {
              at_least = (let l = le-no speed (pos 0) e in omega (arith, ints, l));
              at_most =
                  range.at_most;
            });
      })

  at-or : (P : ℤ → Type 0) (xs : List ℤ) (d : ℤ) → All P xs → P d → (k : ℕ) → P (slice_index_or xs k d)
  at-or P [] d all here k = here
  at-or P (x ∷ xs) d all here zero = all 0 d (omega arith)
  at-or P (x ∷ xs) d all here (suc k) = at-or P xs d (λ j e le. all (suc j) e (omega (arith, le))) here k

  pattern-there : (patterns : List Pattern) (k : ℕ) → k < length patterns
      → (p : Pattern) × (slice_get patterns k ≡ Some p)
  pattern-there [] k le = absurd (omega (arith, le))
  pattern-there (p ∷ patterns) zero le = (p, refl)
  pattern-there (p ∷ patterns) (suc k) le = pattern-there patterns k (omega (arith, le))

  -- each multiplier of a pump's pattern is a speed of 0 to 10
  multiplier-range : (pattern time : ℕ) → HasPattern (IsUpTo 10) project.patterns.list (Some pattern)
      → IsUpTo 10 (multiplier_at project pattern time)
  multiplier-range pattern time has =
      let found = pattern-there project.patterns.list pattern has.in_range in
      let all : All (IsUpTo 10) found.0.multipliers.list = subst (λ (p : Pattern). All (IsUpTo 10) p.multipliers.list)
      (get_or_from_slice_get project.patterns.list pattern found.0 found.0 found.1) (has.holds found.0) in
      let e : multipliers_of project pattern ≡ found.0.multipliers.list =
      ap (λ o. option_map_or (λ (p : Pattern). p.multipliers.list) o []) found.1 in
      at-or (IsUpTo 10) (multipliers_of project pattern) (pos 0) (subst (All (IsUpTo 10)) (sym e) all)
      (record { at_least = omega (arith, ints); at_most = omega (arith, ints) }) _

  patterned-own : (time : ℕ) (link : Link) (state : LinkState)
      → HasSizes project.options.unit project.patterns.list project.bends.list link.kind → IsOwnState project link state
      → IsOwnState project link (patterned_state project time link state)
  patterned-own time link state sizes own = by-kind link.kind refl
    where
      pump : (o : Option ℕ) (c : _) (s : _) (h : _) → link.kind ≡ PumpLink c s h o
          → IsOwnState project link (patterned_state project time link state)
      pump None c s h e = let same : patterned_state project time link state ≡ state = rw e refl in
          subst (IsOwnState project link) (sym same) own
      pump (Some pattern) c s h e =
          let same : patterned_state project time link state ≡ speed_state (multiplier_at project pattern time) =
          rw e refl in
          let has : HasSizes project.options.unit project.patterns.list project.bends.list
          (PumpLink c s h (Some pattern)) =
          subst (HasSizes project.options.unit project.patterns.list project.bends.list) e sizes in
          subst (IsOwnState project link) (sym same) (speed-own link (multiplier_at project pattern time)
          (subst (λ k. CanHave k Closed) (sym e) tt) (λ n speed. subst (λ k. CanHave k (Speed n)) (sym e) speed)
          (multiplier-range pattern time has.1))

      curve_pump : (o : Option ℕ) (b : _) → link.kind ≡ CurvePump b o
          → IsOwnState project link (patterned_state project time link state)
      curve_pump None b e = let same : patterned_state project time link state ≡ state = rw e refl in
          subst (IsOwnState project link) (sym same) own
      curve_pump (Some pattern) b e =
          let same : patterned_state project time link state ≡ speed_state (multiplier_at project pattern time) =
          rw e refl in
          let has : HasSizes project.options.unit project.patterns.list project.bends.list (CurvePump b (Some pattern))
          = subst (HasSizes project.options.unit project.patterns.list project.bends.list) e sizes in
          subst (IsOwnState project link) (sym same) (speed-own link (multiplier_at project pattern time)
          (subst (λ k. CanHave k Closed) (sym e) tt) (λ n speed. subst (λ k. CanHave k (Speed n)) (sym e) speed)
          (multiplier-range pattern time has.1))

      by-kind : (kind : LinkKind) → link.kind ≡ kind → IsOwnState project link (patterned_state project time link state)
      by-kind (PipeLink c) e = let same : patterned_state project time link state ≡ state = rw e refl in
          subst (IsOwnState project link) (sym same) own
      by-kind (CheckPipe c) e = let same : patterned_state project time link state ≡ state = rw e refl in
          subst (IsOwnState project link) (sym same) own
      by-kind (PumpLink c s h o) e = pump o c s h e
      by-kind (Tcv v) e = let same : patterned_state project time link state ≡ state = rw e refl in
          subst (IsOwnState project link) (sym same) own
      by-kind (CurvePump b o) e = curve_pump o b e
      by-kind (Gpv b) e = let same : patterned_state project time link state ≡ state = rw e refl in
          subst (IsOwnState project link) (sym same) own
      by-kind (Fcv v) e = let same : patterned_state project time link state ≡ state = rw e refl in
          subst (IsOwnState project link) (sym same) own

  after-own : (time : ℕ) (links : List Link) (states : List LinkState)
      → AllByRecursion (λ (l : Link). HasSizes project.options.unit project.patterns.list project.bends.list l.kind)
      links → AllZip (IsOwnState project) links states
      → AllZip (IsOwnState project) links (after_patterns project time links states)
  after-own time [] [] sizes all = tt
  after-own time [] (s ∷ states) sizes all = absurd all
  after-own time (l ∷ links) [] sizes all = absurd all
  after-own time (l ∷ links) (s ∷ states) sizes all =
      (patterned-own time l s sizes.0 all.0, after-own time links states sizes.1 all.1)

  -- ---- controls

  record IsOwnControl (each : Control) : Type 0 where
    commands : IsControl project each
    made : IsStateMade project.options.unit each.to

  own-controls : (controls : List Control) → AllByRecursion (IsControl project) controls
      → AllByRecursion (λ (c : Control). IsStateMade project.options.unit c.to) controls
      → AllByRecursion IsOwnControl controls
  own-controls [] a b = tt
  own-controls (c ∷ controls) a b = (record { commands = a.0; made = b.0 }, own-controls controls a.1 b.1)

  fold-own : (time : ℕ) (acts : ℕ → Bool → ℤ → Bool) (controls : List Control) (states : List LinkState)
      → AllByRecursion IsOwnControl controls → AllZip (IsOwnState project) project.links.list states
      → AllZip (IsOwnState project) project.links.list
      (fold (λ links control. if control_acts project time acts control.when then slice_set links control.link
      control.to else links) states controls)
  fold-own time acts [] states own all = all
  fold-own time acts (c ∷ controls) states own all =
      fold-own time acts controls (if control_acts project time acts c.when then slice_set states c.link c.to
      else states) own.1
      (cond_both (control_acts project time acts c.when) (slice_set states c.link c.to) states
      (AllZip (IsOwnState project) project.links.list)
      (λ e. zip-set Link LinkState (IsOwnState project) project.links.list states c.link c.to
      (commanded-own c.link c.to own.0.commands.command own.0.made) all)
      (λ e. all))

  pub started_own : (time : ℕ) (acts : ℕ → Bool → ℤ → Bool) (states : List LinkState)
      → AllZip (IsOwnState project) project.links.list states
      → AllZip (IsOwnState project) project.links.list (started project time acts states)
  started_own time acts states all =
      fold-own time acts project.controls.list (patterned project time states)
      (own-controls project.controls.list (each_of Control (IsControl project) project.controls.list sound.controls)
      (each_of Control (λ c. IsStateMade project.options.unit c.to) project.controls.list sound.made.controls))
      (cond_both (is_pattern_boundary project time) (after_patterns project time project.links.list states) states
      (AllZip (IsOwnState project) project.links.list)
      (λ e. after-own time project.links.list states
      (each_of Link (λ l. HasSizes project.options.unit project.patterns.list project.bends.list l.kind)
      project.links.list sound.quantities.links) all) (λ e. all))

  -- ---- rules

  -- a command of a link is a state of its own
  abbrev IsOwn : ℕ → LinkState → Type 0
  IsOwn number to = (link : Link) → slice_get project.links.list number ≡ Some link → IsOwnState project link to

  own-actions : (number : ℕ) (rule : Rule) (actions : List Action)
      → AllByRecursion (λ (a : Action). CanCommand project a.link a.to) actions
      → AllByRecursion (λ (a : Action). IsStateMade project.options.unit a.to) actions
      → AllByRecursion (λ (o : Offer). IsOwn o.link o.to) (map (offer_of number rule) actions)
  own-actions number rule [] a b = tt
  own-actions number rule (action ∷ actions) a b =
      (commanded-own action.link action.to a.0 b.0, own-actions number rule actions a.1 b.1)

  all-both : (xs ys : List Offer) (P : Offer → Type 0) → AllByRecursion P xs → AllByRecursion P ys
      → AllByRecursion P (xs ++ ys)
  all-both [] ys P a b = b
  all-both (x ∷ xs) ys P a b = (a.0, all-both xs ys P a.1 b)

  own-offers : (number : ℕ) (rule : Rule) (value : Bool) → IsRule project rule → IsRuleMade project.options.unit rule
      → AllByRecursion (λ (o : Offer). IsOwn o.link o.to) (offers_of number rule value)
  own-offers number rule true is made =
      own-actions number rule rule.yes.list (each_of Action (λ a. CanCommand project a.link a.to) rule.yes.list is.yes)
      (each_of Action (λ a. IsStateMade project.options.unit a.to) rule.yes.list made.yes)
  own-offers number rule false is made =
      own-actions number rule rule.no.list (each_of Action (λ a. CanCommand project a.link a.to) rule.no.list is.no)
      (each_of Action (λ a. IsStateMade project.options.unit a.to) rule.no.list made.no)

  all-offers : (k : ℕ) (rules : List Rule) (values : List Bool) → AllByRecursion (IsRule project) rules
      → AllByRecursion (IsRuleMade project.options.unit) rules
      → AllByRecursion (λ (o : Offer). IsOwn o.link o.to) (offers_from k rules values)
  all-offers k [] values is made = tt
  all-offers k (rule ∷ rules) [] is made = tt
  all-offers k (rule ∷ rules) (value ∷ values) is made =
      all-both (offers_of k rule value) (offers_from (suc k) rules values) (λ o. IsOwn o.link o.to)
      (own-offers k rule value is.0 made.0) (all-offers (suc k) rules values is.1 made.1)

  -- P of the offer that there is, if any
  abbrev OfOffer : Option Offer → (Offer → Type 0) → Type 0
  OfOffer o P = (offer : Offer) → o ≡ Some offer → P offer

  higher-own : (P : Offer → Type 0) (offer : Offer) (later : Option Offer) → P offer → OfOffer later P
      → OfOffer (higher offer later) P
  higher-own P offer None here rest = λ other e. subst P (same_item Offer offer other e) here
  higher-own P offer (Some l) here rest = cond_both (is_above l.priority offer.priority) (Some l) (Some offer)
      (λ o. OfOffer o P)
      (λ t other e. rest other e) (λ t other e. subst P (same_item Offer offer other e) here)

  best-own : (link : ℕ) (offers : List Offer) → AllByRecursion (λ (o : Offer). IsOwn o.link o.to) offers
      → OfOffer (best_offer link offers) (λ o. IsOwn link o.to)
  best-own link [] all = λ other e. absurd (cc)
  best-own link (offer ∷ offers) all =
      cond_both (offer.link == link) (higher offer (best_offer link offers)) (best_offer link offers)
      (λ o. OfOffer o (λ p. IsOwn link p.to))
      (λ t. higher-own (λ p. IsOwn link p.to) offer (best_offer link offers)
      (subst (λ m. IsOwn m offer.to) (eqb-true offer.link link t) all.0) (best-own link offers all.1))
      (λ t. best-own link offers all.1)

  change-own : (P : LinkState → Type 0) (state : LinkState) (best : Option Offer) → P state → OfOffer best (λ o. P o.to)
      → P (option_map_or (λ (change : Change). change.to) (option_and_then (change_by state) best) state)
  change-own P state None here rest = here
  change-own P state (Some offer) here rest =
      cond_both (is_same_state state offer.to) None
      (Some (record { source = ByRule offer.rule; link = offer.link; to = offer.to }))
      (λ o. P (option_map_or (λ (change : Change). change.to) o state)) (λ t. here) (λ t. rest offer refl)

  pub acted_own : (values : List Bool) (states : List LinkState) → AllZip (IsOwnState project) project.links.list states
      → AllZip (IsOwnState project) project.links.list (acted project values states)
  acted_own values states all =
      zip-numbered Link LinkState (IsOwnState project) (λ link state. option_map_or (λ (change : Change). change.to)
      (change_of project values link state) state) 0 project.links.list states
      (λ k link state at own. change-own (IsOwnState project link) state
      (best_offer (0 + k) (offers_from 0 project.rules.list values)) own
      (λ offer e. best-own (0 + k) (offers_from 0 project.rules.list values)
      (all-offers 0 project.rules.list values (each_of Rule (IsRule project) project.rules.list sound.rules)
      (each_of Rule (IsRuleMade project.options.unit) project.rules.list sound.made.rules))
      offer e link (let n : k ≡ 0 + k = omega arith in subst (λ m. slice_get project.links.list m ≡ Some link) n at)))
      all

  -- ---- the start of the run

  start-own : (links : List Link) → AllByRecursion (λ (l : Link). CanHave l.kind l.start) links
      → AllByRecursion (λ (l : Link). IsStateMade project.options.unit l.start) links
      → AllZip (IsOwnState project) links (map (λ (link : Link). link.start) links)
  start-own [] a b = tt
  start-own (l ∷ links) a b = (record { made = b.0; can = a.0 }, start-own links a.1 b.1)

  pub initial_own : AllZip (IsOwnState project) project.links.list (initial_links project)
  initial_own =
      start-own project.links.list (each_of Link (λ l. CanHave l.kind l.start) project.links.list sound.states)
      (each_of Link (λ l. IsStateMade project.options.unit l.start) project.links.list sound.made.starts)
