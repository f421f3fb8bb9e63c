-- What the rules bring about at an instant, and at the first at which they matter.
use Rattle.std.proofs.Common.{◌≡◌, ◌≢◌, ◌⊎◌, inl, inr, ℕ, ◌≤◌, Bool, true, List, [], ◌++◌, ap, sym, ◌∙◌, map}
use Rattle.std.specs.List.{list_any}
use Rattle.std.proofs.lemmas.List.Quantifiers.{position-Some}
use Rattle.std.proofs.lemmas.List.Folds.{list_any_at}
use Rattle.hyd_net.specs.ListView.{ListView}
use Rattle.hyd_spec.specs.ProgramTypes.{Project, LinkState}
use Rattle.hyd_spec.specs.declared.Change.{Change}
use Rattle.hyd_spec.specs.Rules.{acted, rule_changes}
use Rattle.hyd_spec_certificates.specs.PeriodNetwork.{Grid}
use Rattle.hyd_spec_certificates.specs.RecordAndStanding.{Record, Standing}
use Rattle.hyd_spec_certificates.specs.declared.Verdict.TheVariants.{No}
use Rattle.hyd_spec_certificates.specs.ThreeValuedLogic.{is_yes, is_unknown}
use Rattle.hyd_spec_certificates.specs.Decided.{links_at, rule_truths, decided_changes, IsTried, RulesMatter, OpenRule}
use Rattle.hyd_spec_certificates.specs.Decided.{IsOpenRule}
use Rattle.hyd_theorems_on_nesting.specs.FirstAmongWatched.{IsWalked}
use Rattle.hyd_period_facts.specs.declared.facts.Facts.{Facts}
use Rattle.hyd_period_facts.specs.FactsBeforeEnd.{AreStarted}
use Rattle.hyd_period_length.specs.TriedRules.{AreDecided, open_rule}
use Rattle.hyd_period_length.specs.declared.end_kinds.Ending.{Ending}
use Rattle.hyd_period_length.specs.declared.end_kinds.Ending.TheVariants.{ByRules, WithoutRules, RuleOpen, EventOpen}
use Rattle.hyd_period_length.specs.Endings.{IfDecided, UnlessByRules, HaveActed, IsBrought, IsFirstBrought}

-- ---- facts that stay

pub keeps_all : (one other : Facts) → other ≡ one → other ≡ record one { changes = other.changes }
keeps_all one other e = e ∙ ap (λ (f : Facts). record one { changes = f.changes }) (sym e)

pub all_stay : (facts : Facts) (changes : ListView Change) → changes ≡ facts.changes
    → record facts { changes = changes } ≡ facts
all_stay facts changes e = ap (λ (v : ListView Change). record facts { changes = v }) e

-- ---- words on ends

pub decided_so : (P Q : ℕ → Type 0) (ending : Ending) → ((s : ℕ) → P s → Q s) → IfDecided ending P → IfDecided ending Q
decided_so P Q (ByRules s) f p = f s p
decided_so P Q (WithoutRules s) f p = f s p
decided_so P Q (RuleOpen found) f p = p
decided_so P Q (EventOpen earliest latest) f p = p

pub unless_so : (P Q : Type 0) (ending : Ending) → (P → Q) → UnlessByRules ending P → UnlessByRules ending Q
unless_so P Q (ByRules s) f p = p
unless_so P Q (WithoutRules s) f p = f p
unless_so P Q (RuleOpen found) f p = f p
unless_so P Q (EventOpen earliest latest) f p = f p

-- ---- one instant

module _ (project : Project) (grid : Grid) (standing : Standing) (row : Record) (facts : Facts) (seconds : ℕ)
    (started : AreStarted project grid standing row facts) (values : List Bool)
    (decided : AreDecided project grid standing row seconds values) (links : List LinkState)
    (links_are : links ≡ facts.links.list) where
  changes_are : rule_changes project values links ≡ decided_changes project grid standing row seconds
  changes_are =
      ap (λ (vs : List Bool). rule_changes project vs links) decided.values_are
      ∙ ap (λ (ls : List LinkState). rule_changes project
      (map is_yes (rule_truths project grid standing row seconds)) ls)
      (links_are ∙ started.links)

  states_are : acted project values links
      ≡ acted project (map is_yes (rule_truths project grid standing row seconds)) (links_at project standing)
  states_are =
      ap (λ (vs : List Bool). acted project vs links) decided.values_are
      ∙ ap (λ (ls : List LinkState). acted project (map is_yes (rule_truths project grid standing row seconds)) ls)
      (links_are ∙ started.links)

  no_matter : rule_changes project values links ≡ []
      → ((list_any is_unknown (rule_truths project grid standing row seconds) ≡ true)
      ⊎ (decided_changes project grid standing row seconds ≢ [])) → ⊥
  no_matter none (inl unknown) = let known = decided.none_open in absurd (cc)
  no_matter none (inr some) = some (sym changes_are ∙ none)

  pub idle : rule_changes project values links ≡ [] → RulesMatter project grid standing row seconds → ⊥
  idle none matters = no_matter none matters.matters

  pub have_acted : (before after : List Change) (new : List LinkState) → rule_changes project values links ≢ []
      → new ≡ acted project values links → after ≡ before ++ rule_changes project values links
      → HaveActed project grid standing row seconds before after new
  have_acted before after new some states rows = record {
    none_open = decided.none_open;
    some = λ none. some (changes_are ∙ none);
    links_are = states ∙ states_are;
    changes_are = rows ∙ ap (λ (more : List Change). before ++ more) changes_are;
  }

-- ---- the first instant

module _ (project : Project) (grid : Grid) (standing : Standing) (row : Record) where
  is_open : (seconds : ℕ) (open_rule : OpenRule) → IsOpenRule project grid standing row seconds open_rule
      → list_any is_unknown (rule_truths project grid standing row seconds) ≡ true
  is_open seconds open_rule is =
      let truths = rule_truths project grid standing row seconds in
      let p = position-Some is_unknown truths open_rule.rule No is.first_rule in
      list_any_at is_unknown truths open_rule.rule No p.0 p.1

  matter : (seconds : ℕ) (before after : List Change) (links : List LinkState) (ending : Ending)
      → IsTried project standing seconds → IsBrought project grid standing row seconds before after links ending
      → RulesMatter project grid standing row seconds
  matter seconds before after links (ByRules at) tried brought =
      record { tried = tried; matters = inr brought.1.some }
  matter seconds before after links (RuleOpen found) tried brought =
      record { tried = tried; matters = inl (is_open seconds (open_rule found) brought) }
  matter seconds before after links (WithoutRules at) tried brought = absurd brought
  matter seconds before after links (EventOpen earliest latest) tried brought = absurd brought

  pub brought_first : (seconds last : ℕ) (before after : List Change) (links : List LinkState) (ending : Ending)
      → IsTried project standing seconds → IsWalked project grid standing row seconds → seconds ≤ last
      → IsBrought project grid standing row seconds before after links ending
      → IsFirstBrought project grid standing row last before after links ending
  brought_first seconds last before after links ending tried walked in_time brought = record {
    seconds = seconds;
    in_time = in_time;
    first = record {
      holds = matter seconds before after links ending tried brought;
      least = λ k other. walked.none_before k other;
    };
    brought = brought;
  }
