-- What each status of the command `closures` leaves for a spread.
use Rattle.std.proofs.Common.{◌≡◌, ◌≢◌, ◌⊎◌, inl, inr, ℕ, List, sym, subst}
use Rattle.hyd_io.specs.declared.output.OutFault.{OutFault}
use Rattle.hyd_io.specs.declared.output.OutFault.TheVariants.{Fault, Stalled as Stall}
use Rattle.hyd_net.specs.declared.refusal_cause.Cause.{Cause}
use Rattle.hyd_num.specs.Rational.{Rational}
use Rattle.hyd_spec.specs.ProgramTypes.{Project}
use Rattle.hyd_spec_spread.specs.Spreads.{Spread}
use Rattle.hyd_spec_spread_runs.specs.RunsForSpreads.{AreDemandsInRange}
use Rattle.hyd_spec_targets_within.specs.PromisesWithinSpreads.{FindsClosuresWithin, ClosuresWithinBreakOff}
use Rattle.hyd_command_answers.specs.DeskContents.{Seen, IsUntouched, OnlyPrintedSome}
use Rattle.hyd_command_answers.specs.FaultsAndRefusals.{status_of_fault}
use Rattle.hyd_command_answers.specs.declared.status.Status.{Status}
use Rattle.hyd_command_answers.specs.declared.status.Status.TheVariants.{Done, OutOfMemory, Usage, ReadFault}
use Rattle.hyd_command_answers.specs.declared.status.Status.TheVariants.{WriteFault}
use Rattle.hyd_command_answers.specs.declared.status.Status.TheVariants.{InputRefused, Undecided, RoundsSpent, Demand}
use Rattle.hyd_command_answers.specs.declared.status.Status.TheVariants.{CertificateRefused, Stalled}
use Rattle.hyd_target_commands.specs.ClosuresAnswers.{AnswersClosures}
use Rattle.hyd_target_commands.specs.PrintedTexts.{Prints}
use Rattle.hyd_target_commands.proofs.StatusesOfTargets.{IsAnswer, closures_leave, some_front_prints, some_prints}
use Rattle.hyd_target_commands.proofs.StatusesOfTargets.{untouched_prints}
use Rattle.hyd_spread_files.specs.RefusedSpreads.{AnswersSpreadRefused, PrintsSpreadRefusal}
use Rattle.hyd_spread_files.proofs.RefusalLemmas.{front_prints, line_prints}
use Rattle.hyd_spread_target_commands.specs.AnswersByTexts.{AnswersWithin}
use Rattle.hyd_spread_target_commands.specs.SpreadClosures.{AnswersClosuresOver, ClosuresOverCutOff}
use Rattle.hyd_spread_target_commands.specs.SpreadClosures.{LeavesClosuresOver}
use Rattle.hyd_spread_target_commands.specs.SpreadDemands.{AnswersDemandOver}
use Rattle.hyd_spread_target_commands.specs.SpreadTargetOrders.{LeavesTargetsOver}
use Rattle.hyd_spread_target_commands.proofs.AnswersOfTexts.{by_answer, refusal_is_answer}

-- ---- a network within a spread

module _ (project : Project) (target : Rational) (rounds : ℕ) (spread : Spread) where
  pub closures_found : (before now : Seen) → AreDemandsInRange project spread 0
      → Prints (FindsClosuresWithin project spread target rounds) before now
      → AnswersClosuresOver project target rounds spread Done before now
  closures_found before now in_range h =
      record { text = h.text; holds = record { in_range = in_range; finds = h.holds }; only = h.only }

  pub closures_cut_off : (fault : OutFault) (before now : Seen)
      → Prints (ClosuresWithinBreakOff project spread target rounds) before now
      → AnswersClosuresOver project target rounds spread (status_of_fault fault) before now
  closures_cut_off Fault before now h = inl h
  closures_cut_off Stall before now h = inl h

  pub demand_closes : (status : Status) (before now : Seen) → AnswersDemandOver project spread status before now
      → AnswersClosuresOver project target rounds spread status before now
  demand_closes Done before now h = absurd h
  demand_closes OutOfMemory before now h = absurd h
  demand_closes Usage before now h = absurd h
  demand_closes ReadFault before now h = absurd h
  demand_closes WriteFault before now h = inr h
  demand_closes InputRefused before now h = absurd h
  demand_closes Undecided before now h = absurd h
  demand_closes RoundsSpent before now h = absurd h
  demand_closes Demand before now h = h
  demand_closes CertificateRefused before now h = absurd h
  demand_closes Stalled before now h = inr h

  over_is_answer : (status : Status) (before now : Seen)
      → AnswersClosuresOver project target rounds spread status before now → IsAnswer status
  over_is_answer Done before now h = tt
  over_is_answer OutOfMemory before now h = tt
  over_is_answer Usage before now h = absurd h
  over_is_answer ReadFault before now h = absurd h
  over_is_answer WriteFault before now h = tt
  over_is_answer InputRefused before now h = absurd h
  over_is_answer Undecided before now h = absurd h
  over_is_answer RoundsSpent before now h = absurd h
  over_is_answer Demand before now h = tt
  over_is_answer CertificateRefused before now h = absurd h
  over_is_answer Stalled before now h = tt

  cut_off_prints : (before now : Seen) → ClosuresOverCutOff project spread target rounds before now
      → OnlyPrintedSome before now
  cut_off_prints before now (inl h) = some_prints _ before now h
  cut_off_prints before now (inr h) = some_front_prints _ before now h

  over_leaves : (status : Status) (before now : Seen)
      → AnswersClosuresOver project target rounds spread status before now → LeavesClosuresOver status before now
  over_leaves Done before now h = some_prints _ before now h
  over_leaves OutOfMemory before now h = h
  over_leaves Usage before now h = absurd h
  over_leaves ReadFault before now h = absurd h
  over_leaves WriteFault before now h = cut_off_prints before now h
  over_leaves InputRefused before now h = absurd h
  over_leaves Undecided before now h = absurd h
  over_leaves RoundsSpent before now h = absurd h
  over_leaves Demand before now h = some_prints _ before now h
  over_leaves CertificateRefused before now h = absurd h
  over_leaves Stalled before now h = cut_off_prints before now h

-- ---- without a spread

pub alone_leaves : (project : Project) (target : Rational) (rounds : ℕ) (status : Status) (before now : Seen)
    → AnswersClosures project target rounds status before now → LeavesClosuresOver status before now
alone_leaves project target rounds Done before now h = closures_leave project target rounds Done before now h
alone_leaves project target rounds OutOfMemory before now h = h
alone_leaves project target rounds Usage before now h = absurd h
alone_leaves project target rounds ReadFault before now h = absurd h
alone_leaves project target rounds WriteFault before now h =
    closures_leave project target rounds WriteFault before now h
alone_leaves project target rounds InputRefused before now h = absurd h
alone_leaves project target rounds Undecided before now h = absurd h
alone_leaves project target rounds RoundsSpent before now h = absurd h
alone_leaves project target rounds Demand before now h = closures_leave project target rounds Demand before now h
alone_leaves project target rounds CertificateRefused before now h = absurd h
alone_leaves project target rounds Stalled before now h = closures_leave project target rounds Stalled before now h

-- ---- a spread that is refused

pub refusal_leaves : (line : ℕ) (cause : Cause) (status : Status) (before now : Seen)
    → AnswersSpreadRefused line cause status before now → LeavesClosuresOver status before now
refusal_leaves line cause Done before now h = absurd h
refusal_leaves line cause OutOfMemory before now h = absurd h
refusal_leaves line cause Usage before now h = absurd h
refusal_leaves line cause ReadFault before now h = absurd h
refusal_leaves line cause WriteFault before now h = front_prints _ before now h
refusal_leaves line cause InputRefused before now h = record { line = line; cause = cause; only = h }
refusal_leaves line cause Undecided before now h = absurd h
refusal_leaves line cause RoundsSpent before now h = absurd h
refusal_leaves line cause Demand before now h = absurd h
refusal_leaves line cause CertificateRefused before now h = absurd h
refusal_leaves line cause Stalled before now h = front_prints _ before now h

-- ---- the text of a spread

module _ (project : Project) (target : Rational) (rounds : ℕ) (text : List ℕ) (status : Status) (before now : Seen)
    (h : AnswersWithin (AnswersClosuresOver project target rounds) project text status before now) where
  pub within_is_answer : IsAnswer status
  within_is_answer = by_answer (AnswersClosuresOver project target rounds) IsAnswer project text status before now
      (λ r. refusal_is_answer r.line r.cause status before now r.answers)
      (λ spread a. over_is_answer project target rounds spread status before now a) (λ u. tt) h

  pub within_leaves : LeavesClosuresOver status before now
  within_leaves = by_answer (AnswersClosuresOver project target rounds) (λ s. LeavesClosuresOver s before now) project
      text status before now (λ r. refusal_leaves r.line r.cause status before now r.answers)
      (λ spread a. over_leaves project target rounds spread status before now a) (λ u. u) h

-- ---- the whole command

pub never_usage : (status : Status) (before now : Seen) → LeavesClosuresOver status before now → status ≢ Usage
never_usage status before now h = λ e. subst (λ (s : Status). LeavesClosuresOver s before now) e h

pub leaves_targets : (status : Status) (before now : Seen) → LeavesClosuresOver status before now
    → LeavesTargetsOver status before now
leaves_targets Done before now h = h
leaves_targets OutOfMemory before now h = h
leaves_targets Usage before now h = h
leaves_targets ReadFault before now h = h
leaves_targets WriteFault before now h = h
leaves_targets InputRefused before now h = inr h
leaves_targets Undecided before now h = h
leaves_targets RoundsSpent before now h = h
leaves_targets Demand before now h = h
leaves_targets CertificateRefused before now h = h
leaves_targets Stalled before now h = h

refused_prints : (before now : Seen) → PrintsSpreadRefusal before now → OnlyPrintedSome before now
refused_prints before now h = line_prints _ before now h.only

pub left_prints : (status : Status) (before now : Seen) → LeavesClosuresOver status before now
    → OnlyPrintedSome before now
left_prints Done before now h = h
left_prints OutOfMemory before now h = untouched_prints before now h
left_prints Usage before now h = absurd h
left_prints ReadFault before now h = untouched_prints before now h
left_prints WriteFault before now h = h
left_prints InputRefused before now h = refused_prints before now h
left_prints Undecided before now h = h
left_prints RoundsSpent before now h = h
left_prints Demand before now h = h
left_prints CertificateRefused before now h = h
left_prints Stalled before now h = h

-- the spread is refused
pub refused_over : (status : Status) (before now : Seen) → LeavesClosuresOver status before now
    → status ≡ InputRefused → PrintsSpreadRefusal before now
refused_over status before now h e = subst (λ (s : Status). LeavesClosuresOver s before now) e h

-- want of memory leaves all untouched
pub memory_untouched : (status : Status) (before now : Seen) → LeavesClosuresOver status before now
    → status ≡ OutOfMemory → IsUntouched before now
memory_untouched status before now h e = subst (λ (s : Status). LeavesClosuresOver s before now) e h

-- a file couldn't be had
pub ended_leaves : (status : Status) (before now : Seen) → (status ≡ ReadFault) ⊎ (status ≡ OutOfMemory)
    → IsUntouched before now → LeavesClosuresOver status before now
ended_leaves status before now (inl e) u = subst (λ (s : Status). LeavesClosuresOver s before now) (sym e) u
ended_leaves status before now (inr e) u = subst (λ (s : Status). LeavesClosuresOver s before now) (sym e) u
