-- What is said of the text of a spread, and of NET's, follows from what is said of a network, where nothing was touched
-- before.
use Rattle.std.proofs.Common.{◌≡◌, ◌≢◌, ℕ, ◌<◌, ◌^◌, List, length, ◌⊎◌, inl, inr, ◌∙◌, refl, sym, subst}
use Rattle.hyd_io.specs.DeskCounts.{with_opened}
use Rattle.hyd_io.specs.declared.desk.Openings.{Openings}
use Rattle.hyd_net.specs.declared.refusal_cause.Cause.{Cause}
use Rattle.hyd_net.specs.declared.refusal_cause.Cause.TheVariants.{Limit}
use Rattle.hyd_spec.specs.ProgramTypes.{Project}
use Rattle.hyd_spec_spread.specs.Spreads.{Spread}
use Rattle.hyd_command_answers.specs.DeskContents.{Seen, IsUntouched}
use Rattle.hyd_command_answers.specs.FaultsAndRefusals.{AnswersRefused}
use Rattle.hyd_command_answers.specs.declared.status.Status.{Status}
use Rattle.hyd_command_answers.specs.declared.status.Status.TheVariants.{Done, OutOfMemory, Usage, ReadFault}
use Rattle.hyd_command_answers.specs.declared.status.Status.TheVariants.{WriteFault}
use Rattle.hyd_command_answers.specs.declared.status.Status.TheVariants.{InputRefused, Undecided, RoundsSpent, Demand}
use Rattle.hyd_command_answers.specs.declared.status.Status.TheVariants.{CertificateRefused, Stalled}
use Rattle.hyd_target_commands.specs.CommandsOnTargets.{LeavesNet, OpensNet}
use Rattle.hyd_target_commands.proofs.StatusesOfTargets.{IsAnswer}
use Rattle.hyd_spread_files.specs.RefusedSpreads.{AnswersSpreadRefused, RefusesSpread}
use Rattle.hyd_spread_files.specs.SpreadFiles.{IsNoSpread}
use Rattle.hyd_spread_files.proofs.RefusalLemmas.{long-is-some, refuses-long}
use Rattle.hyd_spread_target_commands.specs.AnswersByTexts.{AnswersByText, AnswersWithin, UnlessUnread}
use Rattle.hyd_spread_target_commands.specs.AnswersByTexts.{answers, lacks_memory, refuses}
use Rattle.hyd_spread_target_commands.specs.SpreadTargetOrders.{LeavesTargetsOver, OpensNetAndSpread}

-- ---- statuses that a command has once the spread was read

module _ (P : Status → Seen → Seen → Type 0) where
  -- a command that leaves all untouched where memory ran out, and reads nothing more
  pub unless_unread : (status : Status) (before now : Seen) → IsAnswer status
      → (status ≡ OutOfMemory → IsUntouched before now) → P status before now → UnlessUnread P status before now
  unless_unread Done before now is u h = h
  unless_unread OutOfMemory before now is u h = u refl
  unless_unread Usage before now is u h = absurd is
  unless_unread ReadFault before now is u h = absurd is
  unless_unread WriteFault before now is u h = h
  unless_unread InputRefused before now is u h = h
  unless_unread Undecided before now is u h = absurd is
  unless_unread RoundsSpent before now is u h = absurd is
  unless_unread Demand before now is u h = h
  unless_unread CertificateRefused before now is u h = absurd is
  unless_unread Stalled before now is u h = h

  -- of what is so, something else is
  pub unread_weaker : (Q : Status → Seen → Seen → Type 0) (status : Status) (before now : Seen)
      → (P status before now → Q status before now) → UnlessUnread P status before now
      → UnlessUnread Q status before now
  unread_weaker Q Done before now f h = f h
  unread_weaker Q OutOfMemory before now f h = h
  unread_weaker Q Usage before now f h = f h
  unread_weaker Q ReadFault before now f h = h
  unread_weaker Q WriteFault before now f h = f h
  unread_weaker Q InputRefused before now f h = f h
  unread_weaker Q Undecided before now f h = f h
  unread_weaker Q RoundsSpent before now f h = f h
  unread_weaker Q Demand before now f h = f h
  unread_weaker Q CertificateRefused before now f h = f h
  unread_weaker Q Stalled before now f h = f h

  -- a file couldn't be had
  pub ended_unread : (status : Status) (before now : Seen) → (status ≡ ReadFault) ⊎ (status ≡ OutOfMemory)
      → IsUntouched before now → UnlessUnread P status before now
  ended_unread status before now (inl e) u = subst (λ (s : Status). UnlessUnread P s before now) (sym e) u
  ended_unread status before now (inr e) u = subst (λ (s : Status). UnlessUnread P s before now) (sym e) u

-- ---- a spread that is refused

pub refusal_is_answer : (line : ℕ) (cause : Cause) (status : Status) (before now : Seen)
    → AnswersSpreadRefused line cause status before now → IsAnswer status
refusal_is_answer line cause Done before now h = absurd h
refusal_is_answer line cause OutOfMemory before now h = absurd h
refusal_is_answer line cause Usage before now h = absurd h
refusal_is_answer line cause ReadFault before now h = absurd h
refusal_is_answer line cause WriteFault before now h = tt
refusal_is_answer line cause InputRefused before now h = tt
refusal_is_answer line cause Undecided before now h = absurd h
refusal_is_answer line cause RoundsSpent before now h = absurd h
refusal_is_answer line cause Demand before now h = absurd h
refusal_is_answer line cause CertificateRefused before now h = absurd h
refusal_is_answer line cause Stalled before now h = tt

-- ---- texts

module _ (Alone : Status → Seen → Seen → Type 0) (Over : Spread → Status → Seen → Seen → Type 0) (project : Project)
    (text : List ℕ) (status : Status) (before now : Seen) where
  -- without rows
  pub by_no_spread : IsNoSpread text → Alone status before now
      → AnswersByText Alone Over project text status before now
  by_no_spread none h = record { alone = λ _. h; within = λ isnt. absurd (isnt none) }

  -- with rows
  pub by_rows : (IsNoSpread text → ⊥) → AnswersWithin Over project text status before now
      → AnswersByText Alone Over project text status before now
  by_rows isnt h = record { alone = λ none. absurd (isnt none); within = λ _. h }

  -- with more than 64 MiB
  pub by_long : 2 ^ 26 < length text → AnswersSpreadRefused 0 (Limit 1) status before now
      → AnswersByText Alone Over project text status before now
  by_long long h = by_rows (long-is-some text long) (refuses (refuses-long project text status before now long h))

-- ---- what is left

-- what is said of a text within a spread, of each of its answers
module _ (Over : Spread → Status → Seen → Seen → Type 0) (P : Status → Type 0) (project : Project) (text : List ℕ)
    (status : Status) (before now : Seen) where
  pub by_answer : (RefusesSpread project text status before now → P status)
      → ((spread : Spread) → Over spread status before now → P status) → (IsUntouched before now → P OutOfMemory)
      → AnswersWithin Over project text status before now → P status
  by_answer refused over memory (refuses h) = refused h
  by_answer refused over memory (answers gives h) = over _ h
  by_answer refused over memory (lacks_memory is u) = subst P (sym is) (memory u)

-- a text of NET that is refused
pub net_refusal_leaves_over : (line : ℕ) (cause : Cause) (status : Status) (before now : Seen)
    → AnswersRefused line cause status before now → LeavesNet status before now → LeavesTargetsOver status before now
net_refusal_leaves_over line cause Done before now r h = absurd r
net_refusal_leaves_over line cause OutOfMemory before now r h = h
net_refusal_leaves_over line cause Usage before now r h = absurd r
net_refusal_leaves_over line cause ReadFault before now r h = h
net_refusal_leaves_over line cause WriteFault before now r h = h
net_refusal_leaves_over line cause InputRefused before now r h = inl h
net_refusal_leaves_over line cause Undecided before now r h = absurd r
net_refusal_leaves_over line cause RoundsSpent before now r h = absurd r
net_refusal_leaves_over line cause Demand before now r h = absurd r
net_refusal_leaves_over line cause CertificateRefused before now r h = absurd r
net_refusal_leaves_over line cause Stalled before now r h = h

-- one that couldn't be had
pub ended_leaves_over : (status : Status) (before now : Seen) → (status ≡ ReadFault) ⊎ (status ≡ OutOfMemory)
    → IsUntouched before now → LeavesTargetsOver status before now
ended_leaves_over status before now (inl e) u = subst (λ (s : Status). LeavesTargetsOver s before now) (sym e) u
ended_leaves_over status before now (inr e) u = subst (λ (s : Status). LeavesTargetsOver s before now) (sym e) u

pub ended_not_refused : (status : Status) → (status ≡ ReadFault) ⊎ (status ≡ OutOfMemory) → status ≢ InputRefused
ended_not_refused status (inl e) = λ same. let apart : ReadFault ≡ InputRefused = sym e ∙ same in cc
ended_not_refused status (inr e) = λ same. let apart : OutOfMemory ≡ InputRefused = sym e ∙ same in cc

-- ---- files that were opened

-- both were
pub opens_both : (status : Status) (start opened end : Openings) → opened ≡ with_opened start
    → OpensNet status opened end → OpensNetAndSpread status start end
opens_both status start opened end o h = inr (subst (λ (b : Openings). OpensNet status b end) o h)
