-- What rules bring about at an instant at which they matter.
use Rattle.std.specs.Prelude.{◌≡◌, ◌≢◌, ℕ, ◌≤◌, false, List, [], ◌++◌}
use Rattle.std.specs.List.{list_any}
use Rattle.hyd_spec.specs.ProgramTypes.{Project, LinkState}
use Rattle.hyd_spec.specs.declared.Change.{Change}
use Rattle.hyd_spec.specs.PeriodLength.{IsLeast}
use Rattle.hyd_spec_certificates.specs.PeriodNetwork.{Grid}
use Rattle.hyd_spec_certificates.specs.RecordAndStanding.{Record}
use Rattle.hyd_spec_certificates.specs.ThreeValuedLogic.{is_unknown}
use Rattle.hyd_spec_open_ends.specs.OpenStandings.{OpenStanding}
use Rattle.hyd_spec_open_ends.specs.RulesOverLengths.{open_rule_truths, open_changes, acted_over, RulesMatterOver}
use Rattle.hyd_spec_open_ends.specs.RulesOverLengths.{IsOpenRuleOver}
use Rattle.hyd_period_length.specs.TriedRules.{open_rule}
use Rattle.hyd_open_rules.specs.declared.matters.Matter.{Matter}
use Rattle.hyd_open_rules.specs.declared.matters.Matter.TheVariants.{Acts, Open}

-- when they matter, in seconds after the first start
abbrev pub seconds_of : Matter → ℕ
seconds_of (Acts seconds) = seconds
seconds_of (Open seconds found) = seconds

-- Some seconds after the first start all rules are decided and change a link, the links are commanded so, and the
-- changes stand behind those before.
pub record HaveActedOver (project : Project) (grid : Grid) (standing : OpenStanding) (row : Record) (seconds : ℕ)
    (before after : List Change) (links : List LinkState) : Type 0 where
  pub none_open : list_any is_unknown (open_rule_truths project grid standing row seconds) ≡ false
  pub some : open_changes project grid standing row seconds ≢ []
  pub links_are : links ≡ acted_over project grid standing row seconds
  pub changes_are : after ≡ before ++ open_changes project grid standing row seconds

-- the rules bring this about there: they have acted, or one of them is open
abbrev pub IsBroughtOver : Project → Grid → OpenStanding → Record → ℕ → List Change → List Change → List LinkState
    → Matter → Type 0
IsBroughtOver project grid standing row seconds before after links (Acts at) =
    HaveActedOver project grid standing row seconds before after links
IsBroughtOver project grid standing row seconds before after links (Open at found) =
    IsOpenRuleOver project grid standing row seconds (open_rule found)

-- they bring it about at the first instant at which they matter, which isn't after a last one
pub record IsFirstMatter (project : Project) (grid : Grid) (standing : OpenStanding) (row : Record) (last : ℕ)
    (before after : List Change) (links : List LinkState) (matter : Matter) : Type 0 where
  pub in_time : seconds_of matter ≤ last
  pub first : IsLeast (RulesMatterOver project grid standing row) (seconds_of matter)
  pub brought : IsBroughtOver project grid standing row (seconds_of matter) before after links matter
