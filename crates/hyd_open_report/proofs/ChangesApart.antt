-- Changes by controls stand before those by rules.
use Rattle.std.proofs.Common.{◌≡◌, ℕ, suc, ◌+◌, ◌<◌, true, false, List, [], ◌∷◌, ◌++◌, take, drop}
use Rattle.std.proofs.Common.{map, Bool, ℤ, Option, Some, None, if◌then◌else◌, refl, sym, ap, subst, ◌∙◌, arith}
use Rattle.std.specs.Prelude.{slice_set}
use Rattle.std.specs.Option.{option_and_then}
use Rattle.hyd_spec.specs.ProgramTypes.{Project, Control, LinkState}
use Rattle.hyd_spec.specs.declared.Change.{Change}
use Rattle.hyd_spec.specs.declared.Source.TheVariants.{Control as ByControl, Rule as ByRule}
use Rattle.hyd_spec.specs.Lists.{map_from, present}
use Rattle.hyd_spec.specs.PumpPatternsAndSimpleControls.{patterned, control_acts}
use Rattle.hyd_spec.specs.Rules.{is_same_state, state_of_link, Offer, change_by, change_of, best_offer, offers_from}
use Rattle.hyd_spec_certificates.specs.declared.Event.{Event}
use Rattle.hyd_spec_certificates.specs.PeriodNetwork.{Grid}
use Rattle.hyd_spec_certificates.specs.RecordAndStanding.{Record}
use Rattle.hyd_spec_certificates.specs.ThreeValuedLogic.{is_yes}
use Rattle.hyd_spec_certificates.specs.Decided.{acts_on, links_at}
use Rattle.hyd_spec_certificates.specs.ChangesAtStart.{control_changes, changes_at}
use Rattle.hyd_spec_open_ends.specs.OpenStandings.{OpenStanding, OpenRecord}
use Rattle.hyd_spec_open_ends.specs.OpenEnds.{Way, ByRules, ByInstant, ByWatched, late_at_end}
use Rattle.hyd_spec_open_ends.specs.RulesOverLengths.{open_rule_truths}
use Rattle.hyd_spec_open_reports.specs.OpenReport.{changes_left}
use Rattle.hyd_open_facts.specs.FactsOfOpenPeriod.{EndBringsOpenly, at_last, at_known, at_open}
use Rattle.hyd_report.specs.EventTextsAndChangesByRules.{is_by_rule, before_rules}

-- none is by a rule
abbrev AreControls : List Change → Type 0
AreControls [] = Unit {0}
AreControls (change ∷ rest) = (is_by_rule change ≡ false) × AreControls rest

controls-first : (starts rules : List Change) → AreControls starts → before_rules rules ≡ 0
    → (take (before_rules (starts ++ rules)) (starts ++ rules) ≡ starts) × (drop (before_rules (starts ++ rules))
    (starts ++ rules) ≡ rules)
controls-first [] rules all first = (ap (λ n. take n rules) first, ap (λ n. drop n rules) first)
controls-first (x ∷ xs) rules all first =
    let rest = controls-first xs rules all.1 first in
    let n : before_rules (x ∷ (xs ++ rules)) ≡ suc (before_rules (xs ++ rules)) =
    ap (λ b. if b then 0 else before_rules (xs ++ rules) + 1) all.0 ∙ (let e : before_rules (xs ++ rules) + 1 ≡ suc
    (before_rules (xs ++ rules)) = omega arith in e) in
    (ap (λ m. take m (x ∷ (xs ++ rules))) n ∙ ap (λ ys. x ∷ ys) rest.0, ap (λ m. drop m (x ∷ (xs ++ rules))) n ∙ rest.1)

-- ---- by controls

by_one : (acts same : Bool) (change : Change) (rest other : List Change) → is_by_rule change ≡ false
    → AreControls rest → AreControls other
    → AreControls (if acts then (if same then [] else change ∷ []) ++ rest else other)
by_one true true change rest other control all others = all
by_one true false change rest other control all others = (control, all)
by_one false same change rest other control all others = others

by_controls : (project : Project) (time : ℕ) (acts : ℕ → Bool → ℤ → Bool) (k : ℕ) (controls : List Control)
    (links : List LinkState)
    → AreControls (control_changes project time acts k controls links)
by_controls project time acts k [] links = tt
by_controls project time acts k (control ∷ rest) links =
    by_one (control_acts project time acts control.when) (is_same_state (state_of_link links control.link) control.to)
    (record { source = ByControl k; link = control.link; to = control.to })
    (control_changes project time acts (suc k) rest (slice_set links control.link control.to))
    (control_changes project time acts (suc k) rest links) refl
    (by_controls project time acts (suc k) rest (slice_set links control.link control.to))
    (by_controls project time acts (suc k) rest links)

-- ---- by rules

by_offer : (same : Bool) (change : Change) (rest : List (Option Change)) → is_by_rule change ≡ true → before_rules
    (present rest) ≡ 0
    → before_rules (present ((if same then None else Some change) ∷ rest)) ≡ 0
by_offer true change rest rule first = first
by_offer false change rest rule first = ap (λ b. if b then 0 else before_rules (present rest) + 1) rule

by_best : (best : Option Offer) (state : LinkState) (rest : List (Option Change)) → before_rules (present rest) ≡ 0
    → before_rules (present (option_and_then (change_by state) best ∷ rest)) ≡ 0
by_best None state rest first = first
by_best (Some offer) state rest first =
    by_offer (is_same_state state offer.to) (record { source = ByRule offer.rule; link = offer.link; to = offer.to })
    rest refl first

by_rules_from : (project : Project) (values : List Bool) (k : ℕ) (links : List LinkState)
    → before_rules (present (map_from (change_of project values) k links)) ≡ 0
by_rules_from project values k [] = refl
by_rules_from project values k (state ∷ links) =
    by_best (best_offer k (offers_from 0 project.rules.list values)) state (map_from (change_of project values)
    (suc k) links)
    (by_rules_from project values (suc k) links)

by_way : (project : Project) (grid : Grid) (standing : OpenStanding) (row : Record) (way : Way)
    → before_rules (changes_left project grid standing row way) ≡ 0
by_way project grid standing row (ByRules seconds) =
    by_rules_from project (map is_yes (open_rule_truths project grid standing row seconds)) 0
    (links_at project standing.known)
by_way project grid standing row (ByInstant seconds) = refl
by_way project grid standing row (ByWatched earliest latest) = refl

end_first : (project : Project) (grid : Grid) (standing : OpenStanding) (found : OpenRecord) (first late : ℕ)
    (known opened : List Event) (rules : List Change)
    → EndBringsOpenly project grid standing found first late known opened rules → before_rules rules ≡ 0
end_first project grid standing found first late known opened rules (at_last e) = refl
end_first project grid standing found first late known opened rules (at_known way reached ends arrives none) =
    by_way project grid standing found.row way
end_first project grid standing found first late known opened rules (at_open way reached ends arrives some) =
    by_way project grid standing found.row way

-- the changes of a period: those by controls, and then those by rules
pub changes_apart : (project : Project) (grid : Grid) (standing : OpenStanding) (found : OpenRecord) (first late : ℕ)
    (known opened : List Event) (all rules : List Change)
    → all ≡ changes_at project standing.known ++ rules
    → EndBringsOpenly project grid standing found first late known opened rules
    → (take (before_rules all) all ≡ changes_at project standing.known) × (drop (before_rules all) all ≡ rules)
changes_apart project grid standing found first late known opened all rules are brings =
    subst (λ (xs : List Change). (take (before_rules xs) xs ≡ changes_at project standing.known) × (drop
    (before_rules xs) xs ≡ rules)) (sym are)
    (controls-first (changes_at project standing.known) rules
    (by_controls project standing.known.time (acts_on standing.known.levels) 0 project.controls.list
    (patterned project standing.known.time standing.known.commanded))
    (end_first project grid standing found first late known opened rules brings))

-- where the end is open, no rules have ended the period
pub no_rules : (project : Project) (grid : Grid) (standing : OpenStanding) (row : Record) (way : Way)
    → 0 < late_at_end standing.late way → changes_left project grid standing row way ≡ []
no_rules project grid standing row (ByRules seconds) some = absurd (let none : 0 < 0 = some in omega (arith, none))
no_rules project grid standing row (ByInstant seconds) some = absurd (let none : 0 < 0 = some in omega (arith, none))
no_rules project grid standing row (ByWatched earliest latest) some = refl
