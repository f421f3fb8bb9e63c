-- The end of a period, decided or open.
use Rattle.std.proofs.Common.{◌≡◌, ◌≢◌, inl, inr, ℕ, ◌<◌, List, ◌++◌, ap, sym, ◌∙◌, subst, arith}
use Rattle.std.proofs.lemmas.Bool.{cases_eq}
use Rattle.std.proofs.lemmas.List.{append-nil}
use Rattle.hyd_spec.specs.ProgramTypes.{Project, LinkState}
use Rattle.hyd_spec.specs.declared.Change.{Change}
use Rattle.hyd_spec_certificates.specs.PeriodNetwork.{Grid}
use Rattle.hyd_spec_certificates.specs.RecordAndStanding.{Record, Standing}
use Rattle.hyd_spec_certificates.specs.Decided as decided
use Rattle.hyd_spec_certificates.specs.Decided.{links_at, decided_changes, IsEarliestEnd, IsLatestEnd}
use Rattle.hyd_spec_certificates.specs.Decided.{IsFirstMatter, NoRuleMatters, EndsBy, by_rules, rule_is_open, by_clock}
use Rattle.hyd_spec_certificates.specs.Decided.{event_is_open}
use Rattle.hyd_spec_certificates.specs.Valid as valid
use Rattle.hyd_spec_certificates.specs.Valid.{LeavesLinks}
use Rattle.hyd_period_length.specs.declared.end_kinds.Ending.{Ending}
use Rattle.hyd_period_length.specs.declared.end_kinds.Ending.TheVariants.{ByRules, WithoutRules, RuleOpen, EventOpen}
use Rattle.hyd_period_length.specs.Endings.{IfDecided, UnlessByRules, end_of, changes_by, HaveActed, IsFirstBrought}

-- a time before the end of the run isn't the end
pub before_last : (time now end : ℕ) → now ≡ time → now < end → time ≢ end
before_last time now end e before last = omega (arith, e, before, last)

-- ---- an end that the rules bring about

module _ (project : Project) (grid : Grid) (standing : Standing) (row : Record) (last : ℕ)
    (earliest : IsEarliestEnd project grid standing row last) (not_last : standing.time ≢ project.times.duration)
    (before after : List Change) (links : List LinkState) where
  module _ (ending : Ending) (brought : IsFirstBrought project grid standing row last before after links ending) where
    first_matter : IsFirstMatter project grid standing row brought.seconds
    first_matter = record {
      not_last = not_last;
      earliest = last;
      is_earliest = earliest;
      in_time = brought.in_time;
      first = brought.first;
    }

  ends_at : (seconds s : ℕ) → s ≡ seconds → IsFirstMatter project grid standing row seconds
      → HaveActed project grid standing row seconds before after links
      → EndsBy project grid standing row (decided.ByRules s)
  ends_at seconds s e first acted =
      subst (λ (n : ℕ). EndsBy project grid standing row (decided.ByRules n)) (sym e) (by_rules first acted.none_open)

  leaves_at : (seconds s : ℕ) → s ≡ seconds → IsFirstMatter project grid standing row seconds
      → HaveActed project grid standing row seconds before after links
      → LeavesLinks project grid standing row s links
  leaves_at seconds s e first acted =
      subst (λ (n : ℕ). LeavesLinks project grid standing row n links) (sym e)
      (subst (LeavesLinks project grid standing row seconds) (sym acted.links_are)
      (valid.by_rules (by_rules first acted.none_open)))

  pub ends_brought : (ending : Ending) → IsFirstBrought project grid standing row last before after links ending
      → EndsBy project grid standing row (end_of ending)
  ends_brought (ByRules s) brought =
      ends_at brought.seconds s brought.brought.0 (first_matter (ByRules s) brought) brought.brought.1
  ends_brought (RuleOpen found) brought = rule_is_open (first_matter (RuleOpen found) brought) brought.brought
  ends_brought (WithoutRules s) brought = absurd brought.brought
  ends_brought (EventOpen e l) brought = absurd brought.brought

  pub leaves_brought : (ending : Ending) → IsFirstBrought project grid standing row last before after links ending
      → IfDecided ending (λ seconds. LeavesLinks project grid standing row seconds links)
  leaves_brought (ByRules s) brought =
      leaves_at brought.seconds s brought.brought.0 (first_matter (ByRules s) brought) brought.brought.1
  leaves_brought (RuleOpen found) brought = tt
  leaves_brought (WithoutRules s) brought = absurd brought.brought
  leaves_brought (EventOpen e l) brought = absurd brought.brought

  pub changes_brought : (ending : Ending) → IsFirstBrought project grid standing row last before after links ending
      → UnlessByRules ending (after ≡ before) → after ≡ before ++ changes_by project grid standing row ending
  changes_brought (ByRules s) brought stays =
      brought.brought.1.changes_are
      ∙ ap (λ (n : ℕ). before ++ decided_changes project grid standing row n) (sym brought.brought.0)
  changes_brought (RuleOpen found) brought stays = stays ∙ sym (append-nil before)
  changes_brought (WithoutRules s) brought stays = absurd brought.brought
  changes_brought (EventOpen e l) brought stays = absurd brought.brought

-- ---- an end without them

-- one of two ends
pub one_of : (P : Ending → Type 0) (e l : ℕ) (ending : Ending) → (e ≡ l → ending ≡ WithoutRules e)
    → (e ≢ l → ending ≡ EventOpen e l) → (e ≡ l → P (WithoutRules e)) → (e ≢ l → P (EventOpen e l)) → P ending
one_of P e l ending is_one is_other at_one at_other = elim (cases_eq e l) [
  | inl same ↦ subst P (sym (is_one same)) (at_one same)
  | inr differ ↦ subst P (sym (is_other differ)) (at_other differ)
]

module _ (project : Project) (grid : Grid) (standing : Standing) (row : Record) (e l : ℕ) (ending : Ending)
    (is_one : e ≡ l → ending ≡ WithoutRules e) (is_other : e ≢ l → ending ≡ EventOpen e l)
    (none : NoRuleMatters project grid standing row e) (latest : IsLatestEnd project grid standing row l) where
  ends_now : e ≡ l → EndsBy project grid standing row (decided.WithoutRules e)
  ends_now same = by_clock none (subst (IsLatestEnd project grid standing row) (sym same) latest)

  pub ends_without : EndsBy project grid standing row (end_of ending)
  ends_without = one_of (λ ending. EndsBy project grid standing row (end_of ending)) e l ending is_one is_other
      ends_now (λ differ. event_is_open none latest differ)

  pub leaves_without : (links : List LinkState) → links ≡ links_at project standing
      → IfDecided ending (λ seconds. LeavesLinks project grid standing row seconds links)
  leaves_without links are =
      one_of (λ ending. IfDecided ending (λ seconds. LeavesLinks project grid standing row seconds links)) e l ending
      is_one is_other
      (λ same. subst (LeavesLinks project grid standing row e) (sym are) (valid.by_clock (ends_now same)))
      (λ differ. tt)

module _ (e l : ℕ) (ending : Ending) (is_one : e ≡ l → ending ≡ WithoutRules e)
    (is_other : e ≢ l → ending ≡ EventOpen e l) where
  pub changes_without : (project : Project) (grid : Grid) (standing : Standing) (row : Record)
      (before after : List Change) → after ≡ before → after ≡ before ++ changes_by project grid standing row ending
  changes_without project grid standing row before after stays =
      one_of (λ ending. after ≡ before ++ changes_by project grid standing row ending) e l ending is_one is_other
      (λ same. stays ∙ sym (append-nil before)) (λ differ. stays ∙ sym (append-nil before))

  pub decided_without : (P : ℕ → Type 0) → P e → IfDecided ending P
  decided_without P p = one_of (λ ending. IfDecided ending P) e l ending is_one is_other (λ same. p) (λ differ. tt)

  pub unless_without : (P : Type 0) → P → UnlessByRules ending P
  unless_without P p = one_of (λ ending. UnlessByRules ending P) e l ending is_one is_other (λ same. p) (λ differ. p)
