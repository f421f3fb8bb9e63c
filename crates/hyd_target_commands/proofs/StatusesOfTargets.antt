-- What each status of the two commands leaves.
use Rattle.std.proofs.Common.{◌≡◌, ◌≢◌, ◌∙◌, ◌⊎◌, inl, inr, ℕ, List, [], Option, Some, None, refl, sym, ap, subst}
use Rattle.std.proofs.Common.{append-nil}
use Rattle.std.specs.Prelude.{⊤}
use Rattle.hyd_io.specs.declared.desk.Openings.{Openings}
use Rattle.hyd_io.specs.declared.output.OutFault.{OutFault}
use Rattle.hyd_io.specs.declared.output.OutFault.TheVariants.{Fault, Stalled as Stall}
use Rattle.hyd_io.specs.DeskBytes.{append_known}
use Rattle.hyd_io.specs.DeskCounts.{with_opened}
use Rattle.hyd_spec_lines.specs.Lines.{items_of, rows_in}
use Rattle.hyd_net.specs.declared.refusal_cause.Cause.{Cause}
use Rattle.hyd_net.specs.declared.refusal_cause.Cause.TheVariants.{UnknownName}
use Rattle.hyd_num.specs.Rational.{Rational}
use Rattle.hyd_spec.specs.ProgramTypes.{Project}
use Rattle.hyd_spec_certificates.specs.Valid.{DemandsAreInRange}
use Rattle.hyd_spec_input.specs.Project.{IsProject}
use Rattle.hyd_spec_pressure_targets.specs.PromisesOfTargets.{IsJunctionNamed, NamesNoJunction, FindsBracket}
use Rattle.hyd_spec_pressure_targets.specs.PromisesOfTargets.{FindsClosures, ClosuresBreakOff}
use Rattle.hyd_report.specs.RefusedText.{refused_text_line}
use Rattle.hyd_command_words.specs.CommandGrammar.{FireOrder, ClosuresOrder}
use Rattle.hyd_command_answers.specs.DeskContents.{Seen, IsUntouched, OnlyPrinted, OnlyPrintedFront, OnlyPrintedSome}
use Rattle.hyd_command_answers.specs.FaultsAndRefusals.{AnswersRefused, PrintsRefusal, status_of_fault}
use Rattle.hyd_command_answers.specs.OpeningsOfRuns.{OpensCert}
use Rattle.hyd_command_answers.specs.declared.status.Status.{Status}
use Rattle.hyd_command_answers.specs.declared.status.Status.TheVariants.{
  Done,
  OutOfMemory,
  Usage,
  ReadFault,
  WriteFault,
}
use Rattle.hyd_command_answers.specs.declared.status.Status.TheVariants.{InputRefused, Undecided, RoundsSpent, Demand}
use Rattle.hyd_command_answers.specs.declared.status.Status.TheVariants.{CertificateRefused, Stalled}
use Rattle.hyd_target_commands.specs.PrintedTexts.{Prints, PrintsFront}
use Rattle.hyd_target_commands.specs.PrintedDemands.{AnswersDemand}
use Rattle.hyd_target_commands.specs.BracketAnswers.{AnswersFire, AnswersFireText, RefusesName, target_in}
use Rattle.hyd_target_commands.specs.ClosuresAnswers.{AnswersClosures, AnswersClosuresText, ClosuresCutOff}
use Rattle.hyd_target_commands.specs.CommandsOnTargets.{OpensNet, LeavesNet}
use Rattle.hyd_command_answers.proofs.AnswerLemmas.{since_before}

-- ---- contents

pub untouched : (same : Seen) → IsUntouched same same
untouched same = record { files = refl; written = refl; printed = refl }

append_nothing : (printed : Option (List ℕ)) → printed ≡ append_known printed []
append_nothing None = refl
append_nothing (Some known) = ap Some (sym (append-nil known))

pub untouched_prints : (before now : Seen) → IsUntouched before now → OnlyPrintedSome before now
untouched_prints before now u = record {
  files = u.files;
  written = u.written;
  text = [];
  printed = u.printed ∙ append_nothing before.printed;
}

line_prints : (line : List ℕ) (before now : Seen) → OnlyPrinted line before now → OnlyPrintedSome before now
line_prints line before now h = record { files = h.files; written = h.written; text = line; printed = h.printed }

front_prints : (line : List ℕ) (before now : Seen) → OnlyPrintedFront line before now → OnlyPrintedSome before now
front_prints line before now h = record {
  files = h.files;
  written = h.written;
  text = h.printed.1.front;
  printed = h.printed.1.out;
}

pub some_prints : (P : List ℕ → Type 0) (before now : Seen) → Prints P before now → OnlyPrintedSome before now
some_prints P before now h = line_prints h.text before now h.only

pub some_front_prints : (P : List ℕ → Type 0) (before now : Seen) → PrintsFront P before now → OnlyPrintedSome before now
some_front_prints P before now h = front_prints h.text before now h.only

-- ---- statuses that a command has once NET was read

-- the others don't come
abbrev pub IsAnswer : Status → Type 0
IsAnswer Done = ⊤
IsAnswer OutOfMemory = ⊤
IsAnswer WriteFault = ⊤
IsAnswer InputRefused = ⊤
IsAnswer Demand = ⊤
IsAnswer Stalled = ⊤
IsAnswer status = ⊥

pub answer_never_usage : (status : Status) → IsAnswer status → status ≢ Usage
answer_never_usage status is = λ e. subst IsAnswer e is

-- nothing is opened once NET was
pub answer_opens : (status : Status) (start opened end : Openings) → IsAnswer status → opened ≡ with_opened start
    → end ≡ opened → OpensNet status start end
answer_opens Done start opened end is o e = e ∙ o
answer_opens OutOfMemory start opened end is o e = inr (e ∙ o)
answer_opens Usage start opened end is o e = absurd is
answer_opens ReadFault start opened end is o e = absurd is
answer_opens WriteFault start opened end is o e = e ∙ o
answer_opens InputRefused start opened end is o e = e ∙ o
answer_opens Undecided start opened end is o e = absurd is
answer_opens RoundsSpent start opened end is o e = absurd is
answer_opens Demand start opened end is o e = e ∙ o
answer_opens CertificateRefused start opened end is o e = absurd is
answer_opens Stalled start opened end is o e = e ∙ o

pub leaves_prints : (status : Status) (before now : Seen) → IsAnswer status → LeavesNet status before now
    → OnlyPrintedSome before now
leaves_prints Done before now is h = h
leaves_prints OutOfMemory before now is h = untouched_prints before now h
leaves_prints Usage before now is h = absurd is
leaves_prints ReadFault before now is h = absurd is
leaves_prints WriteFault before now is h = h
leaves_prints InputRefused before now is h = line_prints _ before now h.only
leaves_prints Undecided before now is h = absurd is
leaves_prints RoundsSpent before now is h = absurd is
leaves_prints Demand before now is h = h
leaves_prints CertificateRefused before now is h = absurd is
leaves_prints Stalled before now is h = h

pub leaves_since : (status : Status) (before between now : Seen) → IsUntouched before between
    → LeavesNet status between now → LeavesNet status before now
leaves_since status before between now u h = since_before (λ b. LeavesNet status b now) before between u h

pub prints_since : (before between now : Seen) → IsUntouched before between → OnlyPrintedSome between now
    → OnlyPrintedSome before now
prints_since before between now u h = since_before (λ b. OnlyPrintedSome b now) before between u h

-- ---- `fire`

module _ (project : Project) (name : List ℕ) (target : Rational) (rounds : ℕ) where
  pub bracket_found : (before now : Seen) → DemandsAreInRange project 0
      → Prints (FindsBracket project name target rounds) before now
      → AnswersFire project name target rounds Done before now
  bracket_found before now in_range h =
      record { text = h.text; holds = record { in_range = in_range; finds = h.holds }; only = h.only }

  pub bracket_cut_off : (fault : OutFault) (before now : Seen) → DemandsAreInRange project 0
      → PrintsFront (FindsBracket project name target rounds) before now
      → AnswersFire project name target rounds (status_of_fault fault) before now
  bracket_cut_off Fault before now in_range h =
      record { text = h.text; holds = (Done, record { in_range = in_range; finds = h.holds }); only = h.only }
  bracket_cut_off Stall before now in_range h =
      record { text = h.text; holds = (Done, record { in_range = in_range; finds = h.holds }); only = h.only }

  -- the junction is there, and a demand out of range
  pub demand_fires : (place : ℕ) (status : Status) (before now : Seen) → IsJunctionNamed project name place
      → AnswersDemand project status before now → AnswersFire project name target rounds status before now
  demand_fires place Done before now is h = absurd h
  demand_fires place OutOfMemory before now is h = absurd h
  demand_fires place Usage before now is h = absurd h
  demand_fires place ReadFault before now is h = absurd h
  demand_fires place WriteFault before now is h =
      record {
        text = h.text;
        holds = (Demand, record { place = place; is_place = is; names = h.holds });
        only =
            h.only;
      }
  demand_fires place InputRefused before now is h = absurd h
  demand_fires place Undecided before now is h = absurd h
  demand_fires place RoundsSpent before now is h = absurd h
  demand_fires place Demand before now is h =
      record { text = h.text; holds = record { place = place; is_place = is; names = h.holds }; only = h.only }
  demand_fires place CertificateRefused before now is h = absurd h
  demand_fires place Stalled before now is h =
      record {
        text = h.text;
        holds = (Demand, record { place = place; is_place = is; names = h.holds });
        only =
            h.only;
      }

  -- it isn't there
  pub refusal_fires : (status : Status) (before now : Seen) (start end : Openings) → NamesNoJunction project name
      → AnswersRefused 0 UnknownName status before now → OpensCert status start end
      → AnswersFire project name target rounds status before now
  refusal_fires Done before now start end none h o = absurd h
  refusal_fires OutOfMemory before now start end none h o = h
  refusal_fires Usage before now start end none h o = absurd h
  refusal_fires ReadFault before now start end none h o = absurd o
  refusal_fires WriteFault before now start end none h o =
      record {
        text = refused_text_line 0 UnknownName;
        holds = (
          InputRefused,
          record {
            no_junction = none;
            is_line =
                refl;
          },
        );
        only = h;
      }
  refusal_fires InputRefused before now start end none h o =
      record { text = refused_text_line 0 UnknownName; holds = record { no_junction = none; is_line = refl }; only = h }
  refusal_fires Undecided before now start end none h o = absurd h
  refusal_fires RoundsSpent before now start end none h o = absurd h
  refusal_fires Demand before now start end none h o = absurd h
  refusal_fires CertificateRefused before now start end none h o = absurd h
  refusal_fires Stalled before now start end none h o =
      record {
        text = refused_text_line 0 UnknownName;
        holds = (
          InputRefused,
          record {
            no_junction = none;
            is_line =
                refl;
          },
        );
        only = h;
      }

  pub fire_is_answer : (status : Status) (before now : Seen) → AnswersFire project name target rounds status before now
      → IsAnswer status
  fire_is_answer Done before now h = tt
  fire_is_answer OutOfMemory before now h = tt
  fire_is_answer Usage before now h = absurd h
  fire_is_answer ReadFault before now h = absurd h
  fire_is_answer WriteFault before now h = tt
  fire_is_answer InputRefused before now h = tt
  fire_is_answer Undecided before now h = absurd h
  fire_is_answer RoundsSpent before now h = absurd h
  fire_is_answer Demand before now h = tt
  fire_is_answer CertificateRefused before now h = absurd h
  fire_is_answer Stalled before now h = tt

  -- the one line of a name that is no junction's
  name_refused : (before now : Seen) → Prints (RefusesName project name) before now → PrintsRefusal before now
  name_refused before now h = record {
    line = 0;
    cause = UnknownName;
    only = subst (λ (text : List ℕ). OnlyPrinted text before now) h.holds.is_line h.only;
  }

  pub fire_leaves : (status : Status) (before now : Seen) → AnswersFire project name target rounds status before now
      → LeavesNet status before now
  fire_leaves Done before now h = some_prints _ before now h
  fire_leaves OutOfMemory before now h = h
  fire_leaves Usage before now h = absurd h
  fire_leaves ReadFault before now h = absurd h
  fire_leaves WriteFault before now h = some_front_prints _ before now h
  fire_leaves InputRefused before now h = name_refused before now h
  fire_leaves Undecided before now h = absurd h
  fire_leaves RoundsSpent before now h = absurd h
  fire_leaves Demand before now h = some_prints _ before now h
  fire_leaves CertificateRefused before now h = absurd h
  fire_leaves Stalled before now h = some_front_prints _ before now h

-- the answer of the network of a text is one of the text
fire_text : (text : List ℕ) (project : Project) (order : FireOrder) (status : Status) (before now : Seen)
    → IsProject (rows_in (items_of text)) project
    → AnswersFire project order.junction (target_in project order.pressure) order.rounds status before now
    → AnswersFireText text order status before now
fire_text text project order Done before now is h = record { project = project; is_network = is; holds = h }
fire_text text project order OutOfMemory before now is h = h
fire_text text project order Usage before now is h = absurd h
fire_text text project order ReadFault before now is h = absurd h
fire_text text project order WriteFault before now is h = record { project = project; is_network = is; holds = h }
fire_text text project order InputRefused before now is h = record { project = project; is_network = is; holds = h }
fire_text text project order Undecided before now is h = absurd h
fire_text text project order RoundsSpent before now is h = absurd h
fire_text text project order Demand before now is h = record { project = project; is_network = is; holds = h }
fire_text text project order CertificateRefused before now is h = absurd h
fire_text text project order Stalled before now is h = record { project = project; is_network = is; holds = h }

pub fire_since : (text : List ℕ) (project : Project) (order : FireOrder) (status : Status) (before between now : Seen)
    → IsUntouched before between → IsProject (rows_in (items_of text)) project
    → AnswersFire project order.junction (target_in project order.pressure) order.rounds status between now
    → AnswersFireText text order status before now
fire_since text project order status before between now u is h =
    since_before (λ b. AnswersFireText text order status b now) before between u
    (fire_text text project order status between now is h)

-- ---- `closures`

module _ (project : Project) (target : Rational) (rounds : ℕ) where
  pub closures_found : (before now : Seen) → DemandsAreInRange project 0
      → Prints (FindsClosures project target rounds) before now → AnswersClosures project target rounds Done before now
  closures_found before now in_range h =
      record { text = h.text; holds = record { in_range = in_range; finds = h.holds }; only = h.only }

  pub closures_cut_off : (fault : OutFault) (before now : Seen)
      → Prints (ClosuresBreakOff project target rounds) before now
      → AnswersClosures project target rounds (status_of_fault fault) before now
  closures_cut_off Fault before now h = inl h
  closures_cut_off Stall before now h = inl h

  pub demand_closes : (status : Status) (before now : Seen) → AnswersDemand project status before now
      → AnswersClosures project target rounds status before now
  demand_closes Done before now h = absurd h
  demand_closes OutOfMemory before now h = absurd h
  demand_closes Usage before now h = absurd h
  demand_closes ReadFault before now h = absurd h
  demand_closes WriteFault before now h = inr h
  demand_closes InputRefused before now h = absurd h
  demand_closes Undecided before now h = absurd h
  demand_closes RoundsSpent before now h = absurd h
  demand_closes Demand before now h = h
  demand_closes CertificateRefused before now h = absurd h
  demand_closes Stalled before now h = inr h

  pub closures_are_answer : (status : Status) (before now : Seen) → AnswersClosures project target rounds status
      before now
      → IsAnswer status
  closures_are_answer Done before now h = tt
  closures_are_answer OutOfMemory before now h = tt
  closures_are_answer Usage before now h = absurd h
  closures_are_answer ReadFault before now h = absurd h
  closures_are_answer WriteFault before now h = tt
  closures_are_answer InputRefused before now h = absurd h
  closures_are_answer Undecided before now h = absurd h
  closures_are_answer RoundsSpent before now h = absurd h
  closures_are_answer Demand before now h = tt
  closures_are_answer CertificateRefused before now h = absurd h
  closures_are_answer Stalled before now h = tt

  cut_off_prints : (before now : Seen) → ClosuresCutOff project target rounds before now → OnlyPrintedSome before now
  cut_off_prints before now (inl h) = some_prints _ before now h
  cut_off_prints before now (inr h) = some_front_prints _ before now h

  pub closures_leave : (status : Status) (before now : Seen) → AnswersClosures project target rounds status before now
      → LeavesNet status before now
  closures_leave Done before now h = some_prints _ before now h
  closures_leave OutOfMemory before now h = h
  closures_leave Usage before now h = absurd h
  closures_leave ReadFault before now h = absurd h
  closures_leave WriteFault before now h = cut_off_prints before now h
  closures_leave InputRefused before now h = absurd h
  closures_leave Undecided before now h = absurd h
  closures_leave RoundsSpent before now h = absurd h
  closures_leave Demand before now h = some_prints _ before now h
  closures_leave CertificateRefused before now h = absurd h
  closures_leave Stalled before now h = cut_off_prints before now h

closures_text : (text : List ℕ) (project : Project) (order : ClosuresOrder) (status : Status) (before now : Seen)
    → IsProject (rows_in (items_of text)) project
    → AnswersClosures project (target_in project order.pressure) order.rounds status before now
    → AnswersClosuresText text order status before now
closures_text text project order Done before now is h = record { project = project; is_network = is; holds = h }
closures_text text project order OutOfMemory before now is h = h
closures_text text project order Usage before now is h = absurd h
closures_text text project order ReadFault before now is h = absurd h
closures_text text project order WriteFault before now is h = record { project = project; is_network = is; holds = h }
closures_text text project order InputRefused before now is h = absurd h
closures_text text project order Undecided before now is h = absurd h
closures_text text project order RoundsSpent before now is h = absurd h
closures_text text project order Demand before now is h = record { project = project; is_network = is; holds = h }
closures_text text project order CertificateRefused before now is h = absurd h
closures_text text project order Stalled before now is h = record { project = project; is_network = is; holds = h }

pub closures_since : (text : List ℕ) (project : Project) (order : ClosuresOrder) (status : Status)
    (before between now : Seen)
    → IsUntouched before between → IsProject (rows_in (items_of text)) project
    → AnswersClosures project (target_in project order.pressure) order.rounds status between now
    → AnswersClosuresText text order status before now
closures_since text project order status before between now u is h =
    since_before (λ b. AnswersClosuresText text order status b now) before between u
    (closures_text text project order status between now is h)

-- ---- a text that is refused

pub refusal_leaves : (line : ℕ) (cause : Cause) (status : Status) (before now : Seen)
    → AnswersRefused line cause status before now → LeavesNet status before now
refusal_leaves line cause Done before now h = absurd h
refusal_leaves line cause OutOfMemory before now h = h
refusal_leaves line cause Usage before now h = absurd h
refusal_leaves line cause ReadFault before now h = h
refusal_leaves line cause WriteFault before now h = front_prints _ before now h
refusal_leaves line cause InputRefused before now h = record { line = line; cause = cause; only = h }
refusal_leaves line cause Undecided before now h = absurd h
refusal_leaves line cause RoundsSpent before now h = absurd h
refusal_leaves line cause Demand before now h = absurd h
refusal_leaves line cause CertificateRefused before now h = absurd h
refusal_leaves line cause Stalled before now h = front_prints _ before now h

pub refusal_prints : (line : ℕ) (cause : Cause) (status : Status) (before now : Seen)
    → AnswersRefused line cause status before now → OnlyPrintedSome before now
refusal_prints line cause Done before now h = absurd h
refusal_prints line cause OutOfMemory before now h = untouched_prints before now h
refusal_prints line cause Usage before now h = absurd h
refusal_prints line cause ReadFault before now h = untouched_prints before now h
refusal_prints line cause WriteFault before now h = front_prints _ before now h
refusal_prints line cause InputRefused before now h = line_prints _ before now h
refusal_prints line cause Undecided before now h = absurd h
refusal_prints line cause RoundsSpent before now h = absurd h
refusal_prints line cause Demand before now h = absurd h
refusal_prints line cause CertificateRefused before now h = absurd h
refusal_prints line cause Stalled before now h = front_prints _ before now h

pub refusal_opens : (line : ℕ) (cause : Cause) (status : Status) (before now : Seen) (start opened end : Openings)
    → AnswersRefused line cause status before now → opened ≡ with_opened start → end ≡ opened
    → OpensNet status start end
refusal_opens line cause Done before now start opened end h o e = absurd h
refusal_opens line cause OutOfMemory before now start opened end h o e = inr (e ∙ o)
refusal_opens line cause Usage before now start opened end h o e = absurd h
refusal_opens line cause ReadFault before now start opened end h o e = e ∙ o
refusal_opens line cause WriteFault before now start opened end h o e = e ∙ o
refusal_opens line cause InputRefused before now start opened end h o e = e ∙ o
refusal_opens line cause Undecided before now start opened end h o e = absurd h
refusal_opens line cause RoundsSpent before now start opened end h o e = absurd h
refusal_opens line cause Demand before now start opened end h o e = absurd h
refusal_opens line cause CertificateRefused before now start opened end h o e = absurd h
refusal_opens line cause Stalled before now start opened end h o e = e ∙ o

-- ---- a text that couldn't be had

module _ (status : Status) (before now : Seen) (u : IsUntouched before now)
    (why : (status ≡ ReadFault) ⊎ (status ≡ OutOfMemory)) where
  by_why : (P : Status → Type 0) → P ReadFault → P OutOfMemory → P status
  by_why P read memory = go why
    where
      go : (status ≡ ReadFault) ⊎ (status ≡ OutOfMemory) → P status
      go (inl e) = subst P (sym e) read
      go (inr e) = subst P (sym e) memory

  pub ended_leaves : LeavesNet status before now
  ended_leaves = by_why (λ s. LeavesNet s before now) u u

  pub ended_refused : (line : ℕ) (cause : Cause) → AnswersRefused line cause status before now
  ended_refused line cause = by_why (λ s. AnswersRefused line cause s before now) u u

  pub ended_fires : (text : List ℕ) (order : FireOrder) → AnswersFireText text order status before now
  ended_fires text order = by_why (λ s. AnswersFireText text order s before now) u u

  pub ended_closes : (text : List ℕ) (order : ClosuresOrder) → AnswersClosuresText text order status before now
  ended_closes text order = by_why (λ s. AnswersClosuresText text order s before now) u u

pub ended_opens : (status : Status) (start end : Openings) → (status ≡ ReadFault) ⊎ (status ≡ OutOfMemory)
    → end ≡ with_opened start → OpensNet status start end
ended_opens status start end (inl e) o = subst (λ (s : Status). OpensNet s start end) (sym e) o
ended_opens status start end (inr e) o = subst (λ (s : Status). OpensNet s start end) (sym e) (inr o)

pub ended_never_usage : (status : Status) → (status ≡ ReadFault) ⊎ (status ≡ OutOfMemory) → status ≢ Usage
ended_never_usage status (inl e) = λ same. let apart : ReadFault ≡ Usage = sym e ∙ same in cc
ended_never_usage status (inr e) = λ same. let apart : OutOfMemory ≡ Usage = sym e ∙ same in cc
