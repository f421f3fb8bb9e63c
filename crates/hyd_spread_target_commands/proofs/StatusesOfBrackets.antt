-- What each status of the command `fire` leaves for a spread.
use Rattle.std.proofs.Common.{◌≡◌, ◌≢◌, ◌⊎◌, inl, inr, ℕ, List, refl, sym, subst}
use Rattle.hyd_io.specs.declared.desk.Openings.{Openings}
use Rattle.hyd_io.specs.declared.output.OutFault.{OutFault}
use Rattle.hyd_io.specs.declared.output.OutFault.TheVariants.{Fault, Stalled as Stall}
use Rattle.hyd_net.specs.declared.refusal_cause.Cause.{Cause}
use Rattle.hyd_net.specs.declared.refusal_cause.Cause.TheVariants.{UnknownName}
use Rattle.hyd_num.specs.Rational.{Rational}
use Rattle.hyd_spec.specs.ProgramTypes.{Project}
use Rattle.hyd_spec_lines.specs.Lines.{items_of, rows_in}
use Rattle.hyd_spec_input.specs.Project.{IsProject}
use Rattle.hyd_spec_pressure_targets.specs.PromisesOfTargets.{IsJunctionNamed, NamesNoJunction}
use Rattle.hyd_spec_spread.specs.Spreads.{Spread}
use Rattle.hyd_spec_spread_runs.specs.RunsForSpreads.{AreDemandsInRange}
use Rattle.hyd_spec_targets_within.specs.PromisesWithinSpreads.{FindsBracketWithin}
use Rattle.hyd_report.specs.RefusedText.{refused_text_line}
use Rattle.hyd_command_answers.specs.DeskContents.{Seen, IsUntouched, OnlyPrinted, OnlyPrintedSome}
use Rattle.hyd_command_answers.specs.FaultsAndRefusals.{AnswersRefused, OfNetwork, PrintsRefusal, status_of_fault}
use Rattle.hyd_command_answers.specs.OpeningsOfRuns.{OpensCert}
use Rattle.hyd_command_answers.specs.declared.status.Status.{Status}
use Rattle.hyd_command_answers.specs.declared.status.Status.TheVariants.{Done, OutOfMemory, Usage, ReadFault}
use Rattle.hyd_command_answers.specs.declared.status.Status.TheVariants.{WriteFault}
use Rattle.hyd_command_answers.specs.declared.status.Status.TheVariants.{InputRefused, Undecided, RoundsSpent, Demand}
use Rattle.hyd_command_answers.specs.declared.status.Status.TheVariants.{CertificateRefused, Stalled}
use Rattle.hyd_target_commands.specs.BracketAnswers.{AnswersFire, RefusesName}
use Rattle.hyd_target_commands.specs.PrintedTexts.{Prints, PrintsFront}
use Rattle.hyd_target_commands.proofs.StatusesOfTargets.{IsAnswer, some_front_prints, some_prints}
use Rattle.hyd_target_commands.proofs.StatusesOfTargets.{untouched_prints}
use Rattle.hyd_spread_files.specs.RefusedSpreads.{AnswersSpreadRefused, PrintsSpreadRefusal}
use Rattle.hyd_spread_files.proofs.RefusalLemmas.{front_prints, line_prints}
use Rattle.hyd_spread_target_commands.specs.AnswersByTexts.{AnswersWithin}
use Rattle.hyd_spread_target_commands.specs.SpreadBrackets.{AnswersFireOver, LeavesFireOver}
use Rattle.hyd_spread_target_commands.specs.SpreadDemands.{AnswersDemandOver}
use Rattle.hyd_spread_target_commands.specs.SpreadTargetOrders.{LeavesTargetsOver}
use Rattle.hyd_spread_target_commands.proofs.AnswersOfTexts.{by_answer, refusal_is_answer}

-- ---- a network within a spread

module _ (project : Project) (name : List ℕ) (target : Rational) (rounds : ℕ) (spread : Spread) where
  pub bracket_found : (before now : Seen) → AreDemandsInRange project spread 0
      → Prints (FindsBracketWithin project spread name target rounds) before now
      → AnswersFireOver project name target rounds spread Done before now
  bracket_found before now in_range h =
      record { text = h.text; holds = record { in_range = in_range; finds = h.holds }; only = h.only }

  pub bracket_cut_off : (fault : OutFault) (before now : Seen) → AreDemandsInRange project spread 0
      → PrintsFront (FindsBracketWithin project spread name target rounds) before now
      → AnswersFireOver project name target rounds spread (status_of_fault fault) before now
  bracket_cut_off Fault before now in_range h =
      record { text = h.text; holds = (Done, record { in_range = in_range; finds = h.holds }); only = h.only }
  bracket_cut_off Stall before now in_range h =
      record { text = h.text; holds = (Done, record { in_range = in_range; finds = h.holds }); only = h.only }

  -- the junction is there, and an end of a demand out of range
  pub demand_fires : (place : ℕ) (status : Status) (before now : Seen) → IsJunctionNamed project name place
      → AnswersDemandOver project spread status before now
      → AnswersFireOver project name target rounds spread status before now
  demand_fires place Done before now is h = absurd h
  demand_fires place OutOfMemory before now is h = absurd h
  demand_fires place Usage before now is h = absurd h
  demand_fires place ReadFault before now is h = absurd h
  demand_fires place WriteFault before now is h = record {
    text = h.text;
    holds = (Demand, record { place = place; is_place = is; names = h.holds });
    only = h.only;
  }
  demand_fires place InputRefused before now is h = absurd h
  demand_fires place Undecided before now is h = absurd h
  demand_fires place RoundsSpent before now is h = absurd h
  demand_fires place Demand before now is h =
      record { text = h.text; holds = record { place = place; is_place = is; names = h.holds }; only = h.only }
  demand_fires place CertificateRefused before now is h = absurd h
  demand_fires place Stalled before now is h = record {
    text = h.text;
    holds = (Demand, record { place = place; is_place = is; names = h.holds });
    only = h.only;
  }

  -- it isn't there
  pub name_fires : (status : Status) (before now : Seen) (start end : Openings) → NamesNoJunction project name
      → AnswersRefused 0 UnknownName status before now → OpensCert status start end
      → AnswersFireOver project name target rounds spread status before now
  name_fires Done before now start end none h o = absurd h
  name_fires OutOfMemory before now start end none h o = h
  name_fires Usage before now start end none h o = absurd h
  name_fires ReadFault before now start end none h o = absurd o
  name_fires WriteFault before now start end none h o = record {
    text = refused_text_line 0 UnknownName;
    holds = (InputRefused, record { no_junction = none; is_line = refl });
    only = h;
  }
  name_fires InputRefused before now start end none h o =
      record { text = refused_text_line 0 UnknownName; holds = record { no_junction = none; is_line = refl }; only = h }
  name_fires Undecided before now start end none h o = absurd h
  name_fires RoundsSpent before now start end none h o = absurd h
  name_fires Demand before now start end none h o = absurd h
  name_fires CertificateRefused before now start end none h o = absurd h
  name_fires Stalled before now start end none h o = record {
    text = refused_text_line 0 UnknownName;
    holds = (InputRefused, record { no_junction = none; is_line = refl });
    only = h;
  }

  over_is_answer : (status : Status) (before now : Seen)
      → AnswersFireOver project name target rounds spread status before now → IsAnswer status
  over_is_answer Done before now h = tt
  over_is_answer OutOfMemory before now h = tt
  over_is_answer Usage before now h = absurd h
  over_is_answer ReadFault before now h = absurd h
  over_is_answer WriteFault before now h = tt
  over_is_answer InputRefused before now h = tt
  over_is_answer Undecided before now h = absurd h
  over_is_answer RoundsSpent before now h = absurd h
  over_is_answer Demand before now h = tt
  over_is_answer CertificateRefused before now h = absurd h
  over_is_answer Stalled before now h = tt

  over_leaves : (status : Status) (before now : Seen)
      → AnswersFireOver project name target rounds spread status before now
      → LeavesFireOver project name status before now
  over_leaves Done before now h = some_prints _ before now h
  over_leaves OutOfMemory before now h = h
  over_leaves Usage before now h = absurd h
  over_leaves ReadFault before now h = absurd h
  over_leaves WriteFault before now h = some_front_prints _ before now h
  over_leaves InputRefused before now h = inr h
  over_leaves Undecided before now h = absurd h
  over_leaves RoundsSpent before now h = absurd h
  over_leaves Demand before now h = some_prints _ before now h
  over_leaves CertificateRefused before now h = absurd h
  over_leaves Stalled before now h = some_front_prints _ before now h

-- ---- without a spread

pub alone_leaves : (project : Project) (name : List ℕ) (target : Rational) (rounds : ℕ) (status : Status)
    (before now : Seen) → AnswersFire project name target rounds status before now
    → LeavesFireOver project name status before now
alone_leaves project name target rounds Done before now h = some_prints _ before now h
alone_leaves project name target rounds OutOfMemory before now h = h
alone_leaves project name target rounds Usage before now h = absurd h
alone_leaves project name target rounds ReadFault before now h = absurd h
alone_leaves project name target rounds WriteFault before now h = some_front_prints _ before now h
alone_leaves project name target rounds InputRefused before now h = inr h
alone_leaves project name target rounds Undecided before now h = absurd h
alone_leaves project name target rounds RoundsSpent before now h = absurd h
alone_leaves project name target rounds Demand before now h = some_prints _ before now h
alone_leaves project name target rounds CertificateRefused before now h = absurd h
alone_leaves project name target rounds Stalled before now h = some_front_prints _ before now h

-- ---- a spread that is refused

pub refusal_leaves : (project : Project) (name : List ℕ) (line : ℕ) (cause : Cause) (status : Status)
    (before now : Seen) → AnswersSpreadRefused line cause status before now
    → LeavesFireOver project name status before now
refusal_leaves project name line cause Done before now h = absurd h
refusal_leaves project name line cause OutOfMemory before now h = absurd h
refusal_leaves project name line cause Usage before now h = absurd h
refusal_leaves project name line cause ReadFault before now h = absurd h
refusal_leaves project name line cause WriteFault before now h = front_prints _ before now h
refusal_leaves project name line cause InputRefused before now h =
    inl (record { line = line; cause = cause; only = h })
refusal_leaves project name line cause Undecided before now h = absurd h
refusal_leaves project name line cause RoundsSpent before now h = absurd h
refusal_leaves project name line cause Demand before now h = absurd h
refusal_leaves project name line cause CertificateRefused before now h = absurd h
refusal_leaves project name line cause Stalled before now h = front_prints _ before now h

-- ---- the text of a spread

module _ (project : Project) (name : List ℕ) (target : Rational) (rounds : ℕ) (text : List ℕ) (status : Status)
    (before now : Seen)
    (h : AnswersWithin (AnswersFireOver project name target rounds) project text status before now) where
  pub within_is_answer : IsAnswer status
  within_is_answer = by_answer (AnswersFireOver project name target rounds) IsAnswer project text status before now
      (λ r. refusal_is_answer r.line r.cause status before now r.answers)
      (λ spread a. over_is_answer project name target rounds spread status before now a) (λ u. tt) h

  pub within_leaves : LeavesFireOver project name status before now
  within_leaves = by_answer (AnswersFireOver project name target rounds)
      (λ s. LeavesFireOver project name s before now) project text status before now
      (λ r. refusal_leaves project name r.line r.cause status before now r.answers)
      (λ spread a. over_leaves project name target rounds spread status before now a) (λ u. u) h

-- ---- the whole command

pub never_usage : (project : Project) (name : List ℕ) (status : Status) (before now : Seen)
    → LeavesFireOver project name status before now → status ≢ Usage
never_usage project name status before now h = λ e. subst (λ (s : Status). LeavesFireOver project name s before now) e h

refused_line : (project : Project) (name : List ℕ) (before now : Seen)
    → PrintsSpreadRefusal before now ⊎ Prints (RefusesName project name) before now
    → PrintsRefusal before now ⊎ PrintsSpreadRefusal before now
refused_line project name before now (inl h) = inr h
refused_line project name before now (inr h) = inl (record {
  line = 0;
  cause = UnknownName;
  only = subst (λ (text : List ℕ). OnlyPrinted text before now) h.holds.is_line h.only;
})

pub leaves_targets : (project : Project) (name : List ℕ) (status : Status) (before now : Seen)
    → LeavesFireOver project name status before now → LeavesTargetsOver status before now
leaves_targets project name Done before now h = h
leaves_targets project name OutOfMemory before now h = h
leaves_targets project name Usage before now h = h
leaves_targets project name ReadFault before now h = h
leaves_targets project name WriteFault before now h = h
leaves_targets project name InputRefused before now h = refused_line project name before now h
leaves_targets project name Undecided before now h = h
leaves_targets project name RoundsSpent before now h = h
leaves_targets project name Demand before now h = h
leaves_targets project name CertificateRefused before now h = h
leaves_targets project name Stalled before now h = h

refused_prints : (project : Project) (name : List ℕ) (before now : Seen)
    → PrintsSpreadRefusal before now ⊎ Prints (RefusesName project name) before now → OnlyPrintedSome before now
refused_prints project name before now (inl h) = line_prints _ before now h.only
refused_prints project name before now (inr h) = some_prints _ before now h

pub left_prints : (project : Project) (name : List ℕ) (status : Status) (before now : Seen)
    → LeavesFireOver project name status before now → OnlyPrintedSome before now
left_prints project name Done before now h = h
left_prints project name OutOfMemory before now h = untouched_prints before now h
left_prints project name Usage before now h = absurd h
left_prints project name ReadFault before now h = untouched_prints before now h
left_prints project name WriteFault before now h = h
left_prints project name InputRefused before now h = refused_prints project name before now h
left_prints project name Undecided before now h = h
left_prints project name RoundsSpent before now h = h
left_prints project name Demand before now h = h
left_prints project name CertificateRefused before now h = h
left_prints project name Stalled before now h = h

of_network : (net : List ℕ) (project : Project) (name : List ℕ) (before now : Seen)
    → IsProject (rows_in (items_of net)) project
    → PrintsSpreadRefusal before now ⊎ Prints (RefusesName project name) before now
    → PrintsSpreadRefusal before now ⊎ OfNetwork net (λ p. Prints (RefusesName p name) before now)
of_network net project name before now is (inl h) = inl h
of_network net project name before now is (inr h) =
    inr (record { project = project; is_network = is; holds = h })

-- the spread is refused, or the name
pub refused_over : (net : List ℕ) (project : Project) (name : List ℕ) (status : Status) (before now : Seen)
    → IsProject (rows_in (items_of net)) project → LeavesFireOver project name status before now
    → status ≡ InputRefused
    → PrintsSpreadRefusal before now ⊎ OfNetwork net (λ p. Prints (RefusesName p name) before now)
refused_over net project name status before now is h e = of_network net project name before now is
    (subst (λ (s : Status). LeavesFireOver project name s before now) e h)

-- want of memory leaves all untouched
pub memory_untouched : (project : Project) (name : List ℕ) (status : Status) (before now : Seen)
    → LeavesFireOver project name status before now → status ≡ OutOfMemory → IsUntouched before now
memory_untouched project name status before now h e =
    subst (λ (s : Status). LeavesFireOver project name s before now) e h

-- a file couldn't be had
pub ended_leaves : (project : Project) (name : List ℕ) (status : Status) (before now : Seen)
    → (status ≡ ReadFault) ⊎ (status ≡ OutOfMemory) → IsUntouched before now
    → LeavesFireOver project name status before now
ended_leaves project name status before now (inl e) u =
    subst (λ (s : Status). LeavesFireOver project name s before now) (sym e) u
ended_leaves project name status before now (inr e) u =
    subst (λ (s : Status). LeavesFireOver project name s before now) (sym e) u
