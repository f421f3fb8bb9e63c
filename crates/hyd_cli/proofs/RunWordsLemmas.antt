-- The command `run` by the names of links that were given: none, or some.
use Rattle.std.proofs.Common.{◌≡◌, ◌≢◌, ℕ, zero, suc, List, [], ◌∷◌, refl, sym, subst}
use Rattle.hyd_command_words.specs.CommandGrammar.{RunOrder}
use Rattle.hyd_command_answers.specs.DeskContents.{Seen}
use Rattle.hyd_command_answers.specs.declared.status.Status.{Status}
use Rattle.hyd_command_answers.specs.declared.status.Status.TheVariants.{Done, OutOfMemory, Usage, ReadFault}
use Rattle.hyd_command_answers.specs.declared.status.Status.TheVariants.{WriteFault, InputRefused, Undecided}
use Rattle.hyd_command_answers.specs.declared.status.Status.TheVariants.{RoundsSpent, Demand, CertificateRefused}
use Rattle.hyd_command_answers.specs.declared.status.Status.TheVariants.{Stalled}
use Rattle.hyd_open_command.specs.PassedOn.{AnswersTextNaming, LeavesNaming}
use Rattle.hyd_open_command.specs.OpenAnswers.{AnswersTextOpenly, LeavesOpenly}
use Rattle.hyd_cli.specs.Answers.{LeavesRun, LeavesOrder}
use Rattle.hyd_cli.specs.Commands.{AnswersOrder, AnswersPlainOrder}
use Rattle.hyd_cli.specs.RunAnswers.{AnswersText, asked_for, settings_of}

pub plain_leaves : (names : List (List ℕ)) (status : Status) (before now : Seen) → names ≡ []
    → LeavesRun status before now → LeavesOrder names status before now
plain_leaves names status before now none h =
    subst (λ (n : List (List ℕ)). LeavesOrder n status before now) (sym none) h

pub naming_leaves : (names : List (List ℕ)) (status : Status) (before now : Seen) → names ≢ []
    → LeavesNaming names status before now → LeavesOrder names status before now
naming_leaves [] status before now some h = absurd (some refl)
naming_leaves (name ∷ names) status before now some h = h

pub open_leaves : (status : Status) (before now : Seen) → LeavesOpenly status before now → LeavesRun status before now
open_leaves Done before now h = tt
open_leaves OutOfMemory before now h = h
open_leaves Usage before now h = absurd h
open_leaves ReadFault before now h = h
open_leaves WriteFault before now h = tt
open_leaves InputRefused before now h = h
open_leaves Undecided before now h = tt
open_leaves RoundsSpent before now h = tt
open_leaves Demand before now h = tt
open_leaves CertificateRefused before now h = tt
open_leaves Stalled before now h = tt

pub known_answers : (text : List ℕ) (order : RunOrder) (seconds : ℕ) (status : Status) (before now : Seen)
    → seconds ≡ 0 → AnswersText text (settings_of order) order.files.cert status before now
    → AnswersPlainOrder text order seconds status before now
known_answers text order seconds status before now none h =
    subst (λ (n : ℕ). AnswersPlainOrder text order n status before now) (sym none) h

pub open_answers : (text : List ℕ) (order : RunOrder) (seconds : ℕ) (status : Status) (before now : Seen)
    → seconds ≢ 0 → AnswersTextOpenly text (asked_for order) order.files.cert status before now
    → AnswersPlainOrder text order seconds status before now
open_answers text order zero status before now some h = absurd (some refl)
open_answers text order (suc seconds) status before now some h = h

pub plain_answers : (text : List ℕ) (order : RunOrder) (names : List (List ℕ)) (status : Status) (before now : Seen)
    → names ≡ [] → AnswersPlainOrder text order order.slack status before now
    → AnswersOrder text order names status before now
plain_answers text order names status before now none h =
    subst (λ (n : List (List ℕ)). AnswersOrder text order n status before now) (sym none) h

pub naming_answers : (text : List ℕ) (order : RunOrder) (names : List (List ℕ)) (status : Status) (before now : Seen)
    → names ≢ [] → AnswersTextNaming text names (settings_of order) order.files.cert status before now
    → AnswersOrder text order names status before now
naming_answers text order [] status before now some h = absurd (some refl)
naming_answers text order (name ∷ names) status before now some h = h
