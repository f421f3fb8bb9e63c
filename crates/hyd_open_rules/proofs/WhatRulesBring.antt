-- What the rules bring about at an instant, and at the first at which they matter.
use Rattle.std.proofs.Common.{◌≡◌, ◌≢◌, ◌⊎◌, inl, inr, ℕ, ◌≤◌, Bool, true, List, [], ◌++◌, ap, sym, ◌∙◌, map}
use Rattle.std.specs.List.{list_any}
use Rattle.std.proofs.lemmas.List.Quantifiers.{position-Some}
use Rattle.std.proofs.lemmas.List.Folds.{list_any_at}
use Rattle.hyd_spec.specs.ProgramTypes.{Project, LinkState}
use Rattle.hyd_spec.specs.declared.Change.{Change}
use Rattle.hyd_spec.specs.Rules.{acted, rule_changes}
use Rattle.hyd_spec_certificates.specs.PeriodNetwork.{Grid}
use Rattle.hyd_spec_certificates.specs.RecordAndStanding.{Record}
use Rattle.hyd_spec_certificates.specs.declared.Verdict.TheVariants.{No}
use Rattle.hyd_spec_certificates.specs.ThreeValuedLogic.{is_yes, is_unknown}
use Rattle.hyd_spec_certificates.specs.Decided.{links_at, IsTried, OpenRule}
use Rattle.hyd_spec_open_ends.specs.OpenStandings.{OpenStanding}
use Rattle.hyd_spec_open_ends.specs.RulesOverLengths.{open_rule_truths, open_changes, acted_over, RulesMatterOver}
use Rattle.hyd_spec_open_ends.specs.RulesOverLengths.{IsOpenRuleOver}
use Rattle.hyd_period_facts.specs.declared.facts.Facts.{Facts}
use Rattle.hyd_period_facts.specs.FactsBeforeEnd.{AreStarted}
use Rattle.hyd_period_length.specs.TriedRules.{open_rule}
use Rattle.hyd_open_rules.specs.declared.matters.Matter.{Matter}
use Rattle.hyd_open_rules.specs.declared.matters.Matter.TheVariants.{Acts, Open}
use Rattle.hyd_open_rules.specs.OpenReadings.{AreDecidedOver}
use Rattle.hyd_open_rules.specs.Matters.{HaveActedOver, IsBroughtOver}

-- ---- one instant

module _ (project : Project) (grid : Grid) (standing : OpenStanding) (row : Record) (facts : Facts) (seconds : ℕ)
    (started : AreStarted project grid standing.known row facts) (values : List Bool)
    (decided : AreDecidedOver project grid standing row seconds values) (links : List LinkState)
    (links_are : links ≡ facts.links.list) where
  changes_are : rule_changes project values links ≡ open_changes project grid standing row seconds
  changes_are =
      ap (λ (vs : List Bool). rule_changes project vs links) decided.values_are
      ∙ ap (λ (ls : List LinkState). rule_changes project
      (map is_yes (open_rule_truths project grid standing row seconds)) ls)
      (links_are ∙ started.links)

  states_are : acted project values links ≡ acted_over project grid standing row seconds
  states_are =
      ap (λ (vs : List Bool). acted project vs links) decided.values_are
      ∙ ap (λ (ls : List LinkState). acted project (map is_yes (open_rule_truths project grid standing row seconds)) ls)
      (links_are ∙ started.links)

  no_matter : rule_changes project values links ≡ []
      → ((list_any is_unknown (open_rule_truths project grid standing row seconds) ≡ true)
      ⊎ (open_changes project grid standing row seconds ≢ [])) → ⊥
  no_matter none (inl unknown) = let known = decided.none_open in absurd (cc)
  no_matter none (inr some) = some (sym changes_are ∙ none)

  pub idle : rule_changes project values links ≡ [] → RulesMatterOver project grid standing row seconds → ⊥
  idle none matters = no_matter none matters.matters

  pub have_acted : (before after : List Change) (new : List LinkState) → rule_changes project values links ≢ []
      → new ≡ acted project values links → after ≡ before ++ rule_changes project values links
      → HaveActedOver project grid standing row seconds before after new
  have_acted before after new some states rows = record {
    none_open = decided.none_open;
    some = λ none. some (changes_are ∙ none);
    links_are = states ∙ states_are;
    changes_are = rows ∙ ap (λ (more : List Change). before ++ more) changes_are;
  }

-- ---- what is brought about matters

module _ (project : Project) (grid : Grid) (standing : OpenStanding) (row : Record) where
  is_open : (seconds : ℕ) (open_rule : OpenRule) → IsOpenRuleOver project grid standing row seconds open_rule
      → list_any is_unknown (open_rule_truths project grid standing row seconds) ≡ true
  is_open seconds open_rule is =
      let truths = open_rule_truths project grid standing row seconds in
      let p = position-Some is_unknown truths open_rule.rule No is.first_rule in
      list_any_at is_unknown truths open_rule.rule No p.0 p.1

  pub matters_there : (seconds : ℕ) (before after : List Change) (links : List LinkState) (matter : Matter)
      → IsTried project standing.known seconds
      → IsBroughtOver project grid standing row seconds before after links matter
      → RulesMatterOver project grid standing row seconds
  matters_there seconds before after links (Acts at) tried brought =
      record { tried = tried; matters = inr brought.some }
  matters_there seconds before after links (Open at found) tried brought =
      record { tried = tried; matters = inl (is_open seconds (open_rule found) brought) }
