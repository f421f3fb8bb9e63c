-- Changes by controls stand before those by rules.
use Rattle.std.proofs.Common.{◌≡◌, ℕ, zero, suc, ◌+◌, ◌<◌, true, false, List, [], ◌∷◌, ◌++◌, length, take, drop, get_or}
use Rattle.std.proofs.Common.{map, Bool, ℤ, Option, Some, None, if◌then◌else◌, refl, sym, ap, subst, ◌∙◌, arith}
use Rattle.hyd_spec.specs.declared.Change.{Change}
use Rattle.std.specs.Prelude.{slice_set}
use Rattle.std.specs.Option.{option_and_then}
use Rattle.hyd_spec.specs.ProgramTypes.{Project, Control, LinkState}
use Rattle.hyd_spec.specs.Lists.{map_from, present}
use Rattle.hyd_spec.specs.declared.Source.TheVariants.{Control as ByControl, Rule as ByRule}
use Rattle.hyd_spec.specs.PumpPatternsAndSimpleControls.{patterned, control_acts}
use Rattle.hyd_spec.specs.Rules.{is_same_state, state_of_link, Offer, change_by, change_of, best_offer, offers_from}
use Rattle.hyd_spec_certificates.specs.PeriodNetwork.{Grid}
use Rattle.hyd_spec_certificates.specs.RecordAndStanding.{Record, Standing}
use Rattle.hyd_spec_certificates.specs.ThreeValuedLogic.{is_yes}
use Rattle.hyd_spec_certificates.specs.Decided.{acts_on, links_at, rule_truths}
use Rattle.hyd_spec_certificates.specs.declared.Event.{Event}
use Rattle.hyd_spec_certificates.specs.EndsOfPeriods.{EndBrings, at_end, by_rules, by_clock}
use Rattle.hyd_spec_certificates.specs.ChangesAtStart.{control_changes, changes_at}
use Rattle.hyd_report.specs.EventTextsAndChangesByRules.{is_by_rule, before_rules}

-- one that isn't by a rule is counted
pub before-step : (xs : List Change) (i : ℕ) (x : Change) → i < length xs → x ≡ get_or xs i x → is_by_rule x ≡ false
    → before_rules (drop i xs) ≡ before_rules (drop (suc i) xs) + 1
before-step [] i x within is other = absurd (omega arith)
before-step (y ∷ ys) zero x within is other =
    let control : is_by_rule y ≡ false = ap is_by_rule (sym is) ∙ other in
    ap (λ b. if b then 0 else before_rules ys + 1) control
before-step (y ∷ ys) (suc i) x within is other = before-step ys i x (omega arith) is other

-- one that is by a rule ends the count
pub before-stop : (xs : List Change) (i : ℕ) (x : Change) → i < length xs → x ≡ get_or xs i x → is_by_rule x ≡ true
    → before_rules (drop i xs) ≡ 0
before-stop [] i x within is rule = absurd (omega arith)
before-stop (y ∷ ys) zero x within is rule =
    let same : is_by_rule y ≡ true = ap is_by_rule (sym is) ∙ rule in
    ap (λ b. if b then 0 else before_rules ys + 1) same
before-stop (y ∷ ys) (suc i) x within is rule = before-stop ys i x (omega arith) is rule

-- ---- what a period changes

-- none is by a rule
abbrev AreControls : List Change → Type 0
AreControls [] = Unit {0}
AreControls (change ∷ rest) = (is_by_rule change ≡ false) × AreControls rest

pub controls-first : (starts rules : List Change) → AreControls starts → before_rules rules ≡ 0
    → (take (before_rules (starts ++ rules)) (starts ++ rules) ≡ starts) × (drop (before_rules (starts ++ rules))
    (starts ++ rules) ≡ rules)
controls-first [] rules all first = (ap (λ n. take n rules) first, ap (λ n. drop n rules) first)
controls-first (x ∷ xs) rules all first =
    let rest = controls-first xs rules all.1 first in
    let n : before_rules (x ∷ (xs ++ rules)) ≡ suc (before_rules (xs ++ rules)) =
    ap (λ b. if b then 0 else before_rules (xs ++ rules) + 1) all.0 ∙ (let e : before_rules (xs ++ rules) + 1 ≡ suc
    (before_rules (xs ++ rules)) = omega arith in e) in
    (ap (λ m. take m (x ∷ (xs ++ rules))) n ∙ ap (λ ys. x ∷ ys) rest.0, ap (λ m. drop m (x ∷ (xs ++ rules))) n ∙ rest.1)

by_one : (acts same : Bool) (change : Change) (rest other : List Change) → is_by_rule change ≡ false
    → AreControls rest → AreControls other
    → AreControls (if acts then (if same then [] else change ∷ []) ++ rest else other)
by_one true true change rest other control all others = all
by_one true false change rest other control all others = (control, all)
by_one false same change rest other control all others = others

by_controls : (project : Project) (time : ℕ) (acts : ℕ → Bool → ℤ → Bool) (k : ℕ) (controls : List Control)
    (links : List LinkState)
    → AreControls (control_changes project time acts k controls links)
by_controls project time acts k [] links = tt
by_controls project time acts k (control ∷ rest) links =
    by_one (control_acts project time acts control.when) (is_same_state (state_of_link links control.link) control.to)
    (record { source = ByControl k; link = control.link; to = control.to })
    (control_changes project time acts (suc k) rest (slice_set links control.link control.to))
    (control_changes project time acts (suc k) rest links) refl
    (by_controls project time acts (suc k) rest (slice_set links control.link control.to))
    (by_controls project time acts (suc k) rest links)

by_offer : (same : Bool) (change : Change) (rest : List (Option Change)) → is_by_rule change ≡ true → before_rules
    (present rest) ≡ 0
    → before_rules (present ((if same then None else Some change) ∷ rest)) ≡ 0
by_offer true change rest rule first = first
by_offer false change rest rule first = ap (λ b. if b then 0 else before_rules (present rest) + 1) rule

by_best : (best : Option Offer) (state : LinkState) (rest : List (Option Change)) → before_rules (present rest) ≡ 0
    → before_rules (present (option_and_then (change_by state) best ∷ rest)) ≡ 0
by_best None state rest first = first
by_best (Some offer) state rest first =
    by_offer (is_same_state state offer.to) (record { source = ByRule offer.rule; link = offer.link; to = offer.to })
    rest refl first

by_rules_from : (project : Project) (values : List Bool) (k : ℕ) (links : List LinkState)
    → before_rules (present (map_from (change_of project values) k links)) ≡ 0
by_rules_from project values k [] = refl
by_rules_from project values k (state ∷ links) =
    by_best (best_offer k (offers_from 0 project.rules.list values)) state (map_from (change_of project values)
    (suc k) links)
    (by_rules_from project values (suc k) links)

end_first : (project : Project) (grid : Grid) (standing : Standing) (row : Record) (events : List Event)
    (changes : List Change)
    → EndBrings project grid standing row events changes → before_rules changes ≡ 0
end_first project grid standing row events changes (at_end e) = refl
end_first project grid standing row events changes (by_rules e) =
    by_rules_from project (map is_yes (rule_truths project grid standing row row.length)) 0 (links_at project standing)
end_first project grid standing row events changes (by_clock e) = refl

-- the changes of a period: those by controls, and then those by rules
pub changes_apart : (project : Project) (grid : Grid) (standing : Standing) (row : Record) (events : List Event)
    (all rules : List Change)
    → all ≡ changes_at project standing ++ rules → EndBrings project grid standing row events rules
    → (take (before_rules all) all ≡ changes_at project standing) × (drop (before_rules all) all ≡ rules)
changes_apart project grid standing row events all rules are brings =
    subst (λ (xs : List Change). (take (before_rules xs) xs ≡ changes_at project standing) × (drop
    (before_rules xs) xs ≡ rules)) (sym are)
    (controls-first (changes_at project standing) rules
    (by_controls project standing.time (acts_on standing.levels) 0 project.controls.list
    (patterned project standing.time standing.commanded))
    (end_first project grid standing row events rules brings))
