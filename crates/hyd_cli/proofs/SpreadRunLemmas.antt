-- How what a run with the file of a spread leaves follows from what the calls in it leave.
use Rattle.std.proofs.Common.{◌≡◌, ◌≢◌, ◌<◌, ◌^◌, ℕ, zero, suc, List, length, inl, refl, sym, subst, arith}
use Rattle.hyd_net.specs.declared.refusal_cause.Cause.TheVariants.{Limit}
use Rattle.hyd_spec.specs.ProgramTypes.{Project}
use Rattle.hyd_spec_spread.specs.Spreads.{Spread}
use Rattle.hyd_spec_spread_rows.specs.TextsOfSpreads.{spread_in}
use Rattle.hyd_sim.specs.declared.settings.Settings.{Settings}
use Rattle.hyd_spread_command.specs.PassedOn.{Asked as AskedOver}
use Rattle.hyd_command_words.specs.CommandGrammar.{RunOrder}
use Rattle.hyd_command_answers.specs.DeskContents.{Seen, IsUntouched}
use Rattle.hyd_command_answers.specs.WrittenCertificates.{Holds}
use Rattle.hyd_command_answers.specs.declared.status.Status.{Status}
use Rattle.hyd_command_answers.specs.declared.status.Status.TheVariants.{Done, OutOfMemory, Usage, ReadFault}
use Rattle.hyd_command_answers.specs.declared.status.Status.TheVariants.{WriteFault}
use Rattle.hyd_command_answers.specs.declared.status.Status.TheVariants.{InputRefused, Undecided, RoundsSpent, Demand}
use Rattle.hyd_command_answers.specs.declared.status.Status.TheVariants.{CertificateRefused, Stalled}
use Rattle.hyd_command_answers.proofs.AnswerLemmas.{since_before}
use Rattle.hyd_open_command.specs.OpenAnswers.{Asked, AnswersRunOpenly}
use Rattle.hyd_open_command.proofs.OpenLemmas.{holds_since as open_holds_since}
use Rattle.hyd_spread_command.specs.PassedOn.{IsNoSpread}
use Rattle.hyd_spread_command.specs.PassedOn.{AnswersSpreadRefused}
use Rattle.hyd_spread_command.specs.SpreadAnswers.{AnswersWithin, LeavesRunOver, refuses}
use Rattle.hyd_spread_command.proofs.SpreadLemmas.{within_leaves, within_holds, refusal_leaves, refusal_holds}
use Rattle.hyd_cli.specs.RunAnswers.{AnswersRun, settings_of, asked_for}
use Rattle.hyd_cli.specs.SpreadRuns.{AnswersAlone, AnswersRunByText, AnswersSpreadText}
use Rattle.hyd_cli.proofs.AnswerLemmas.{holds_since}

-- ---- a run without a spread, by the seconds of its slack

pub known_alone : (project : Project) (order : RunOrder) (seconds : ℕ) (status : Status) (before now : Seen)
    → seconds ≡ 0 → AnswersRun project (settings_of order) order.files.cert status before now
    → AnswersAlone project order seconds status before now
known_alone project order seconds status before now none h =
    subst (λ (n : ℕ). AnswersAlone project order n status before now) (sym none) h

pub open_alone : (project : Project) (order : RunOrder) (seconds : ℕ) (status : Status) (before now : Seen)
    → seconds ≢ 0 → AnswersRunOpenly project (asked_for order) order.files.cert status before now
    → AnswersAlone project order seconds status before now
open_alone project order zero status before now some h = absurd (some refl)
open_alone project order (suc seconds) status before now some h = h

-- ---- what it leaves

plain_leaves : (project : Project) (settings : Settings) (cert : List ℕ) (status : Status) (before now : Seen)
    → AnswersRun project settings cert status before now → LeavesRunOver status before now
plain_leaves project settings cert Done before now h = tt
plain_leaves project settings cert OutOfMemory before now h = h
plain_leaves project settings cert Usage before now h = h
plain_leaves project settings cert ReadFault before now h = absurd h
plain_leaves project settings cert WriteFault before now h = tt
plain_leaves project settings cert InputRefused before now h = absurd h
plain_leaves project settings cert Undecided before now h = tt
plain_leaves project settings cert RoundsSpent before now h = tt
plain_leaves project settings cert Demand before now h = tt
plain_leaves project settings cert CertificateRefused before now h = tt
plain_leaves project settings cert Stalled before now h = tt

open_leaves : (project : Project) (asked : Asked) (cert : List ℕ) (status : Status) (before now : Seen)
    → AnswersRunOpenly project asked cert status before now → LeavesRunOver status before now
open_leaves project asked cert Done before now h = tt
open_leaves project asked cert OutOfMemory before now h = h
open_leaves project asked cert Usage before now h = h
open_leaves project asked cert ReadFault before now h = absurd h
open_leaves project asked cert WriteFault before now h = tt
open_leaves project asked cert InputRefused before now h = absurd h
open_leaves project asked cert Undecided before now h = tt
open_leaves project asked cert RoundsSpent before now h = tt
open_leaves project asked cert Demand before now h = tt
open_leaves project asked cert CertificateRefused before now h = tt
open_leaves project asked cert Stalled before now h = tt

alone_leaves : (project : Project) (order : RunOrder) (seconds : ℕ) (status : Status) (before now : Seen)
    → AnswersAlone project order seconds status before now → LeavesRunOver status before now
alone_leaves project order zero status before now h =
    plain_leaves project (settings_of order) order.files.cert status before now h
alone_leaves project order (suc seconds) status before now h =
    open_leaves project (asked_for order) order.files.cert status before now h

pub alone_leaves_since : (project : Project) (order : RunOrder) (seconds : ℕ) (status : Status)
    (before between now : Seen) → IsUntouched before between → AnswersAlone project order seconds status between now
    → LeavesRunOver status before now
alone_leaves_since project order seconds status before between now u h =
    since_before (λ b. LeavesRunOver status b now) before between u
    (alone_leaves project order seconds status between now h)

pub alone_holds_since : (project : Project) (order : RunOrder) (seconds : ℕ) (status : Status)
    (before between now : Seen) → IsUntouched before between → AnswersAlone project order seconds status between now
    → Holds status order.files.cert before now
alone_holds_since project order zero status before between now u h =
    holds_since project (settings_of order) order.files.cert status before between now u h
alone_holds_since project order (suc seconds) status before between now u h =
    open_holds_since project (asked_for order) order.files.cert status before between now u h

-- ---- what is said of a text, by what is said of it but where memory ran out or a call of reading failed

by_text : (project : Project) (text : List ℕ) (order : RunOrder) (status : Status) (before now : Seen)
    → LeavesRunOver status before now → AnswersRunByText project text order status before now
    → AnswersSpreadText project text order status before now
by_text project text order Done before now left h = h
by_text project text order OutOfMemory before now left h = left
by_text project text order Usage before now left h = h
by_text project text order ReadFault before now left h = left
by_text project text order WriteFault before now left h = h
by_text project text order InputRefused before now left h = h
by_text project text order Undecided before now left h = h
by_text project text order RoundsSpent before now left h = h
by_text project text order Demand before now left h = h
by_text project text order CertificateRefused before now left h = h
by_text project text order Stalled before now left h = h

-- ---- a text without rows

pub alone_since : (project : Project) (text : List ℕ) (order : RunOrder) (status : Status) (before between now : Seen)
    → IsUntouched before between → IsNoSpread text → AnswersAlone project order order.slack status between now
    → AnswersSpreadText project text order status before now
alone_since project text order status before between now u none h =
    since_before (λ b. AnswersSpreadText project text order status b now) before between u
    (by_text project text order status between now (alone_leaves project order order.slack status between now h)
    (record { alone = λ is. h; within = λ some. absurd (some none) }))

-- ---- a text with rows

-- what is asked of a run with a slack, for a spread
abbrev pub over : Asked → Spread → AskedOver
over asked spread =
    record { spread = spread; slack = asked.slack; rounds = asked.rounds; sharpness = asked.sharpness }

with_rows : (project : Project) (text : List ℕ) (order : RunOrder) (status : Status) (before now : Seen)
    → (IsNoSpread text → ⊥)
    → AnswersWithin project text (over (asked_for order) (spread_in project text)) order.files.cert status before now
    → AnswersSpreadText project text order status before now
with_rows project text order status before now some h =
    by_text project text order status before now (within_leaves project text _ order.files.cert status before now h)
    (record { alone = λ none. absurd (some none); within = λ rows. h })

pub within_since : (project : Project) (bytes text : List ℕ) (order : RunOrder) (status : Status)
    (before between now : Seen) → IsUntouched before between → bytes ≡ text → (IsNoSpread text → ⊥)
    → AnswersWithin project bytes (over (asked_for order) (spread_in project bytes)) order.files.cert status between now
    → AnswersSpreadText project text order status before now
within_since project bytes text order status before between now u same some h =
    since_before (λ b. AnswersSpreadText project text order status b now) before between u
    (with_rows project text order status between now some (subst (λ (t : List ℕ). AnswersWithin project t
    (over (asked_for order) (spread_in project t)) order.files.cert status between now) same h))

pub within_leaves_since : (project : Project) (text : List ℕ) (asked : AskedOver) (cert : List ℕ) (status : Status)
    (before between now : Seen) → IsUntouched before between → AnswersWithin project text asked cert status between now
    → LeavesRunOver status before now
within_leaves_since project text asked cert status before between now u h =
    since_before (λ b. LeavesRunOver status b now) before between u
    (within_leaves project text asked cert status between now h)

pub within_holds_since : (project : Project) (text : List ℕ) (asked : AskedOver) (cert : List ℕ) (status : Status)
    (before between now : Seen) → IsUntouched before between → AnswersWithin project text asked cert status between now
    → Holds status cert before now
within_holds_since project text asked cert status before between now u h =
    since_before (λ b. Holds status cert b now) before between u
    (within_holds project text asked cert status between now h)

-- ---- a text of more than 64 MiB

pub refusal_since : (project : Project) (text : List ℕ) (order : RunOrder) (status : Status) (before between now : Seen)
    → IsUntouched before between → 2 ^ 26 < length text → AnswersSpreadRefused 0 (Limit 1) status between now
    → AnswersSpreadText project text order status before now
refusal_since project text order status before between now u long h =
    since_before (λ b. AnswersSpreadText project text order status b now) before between u
    (by_text project text order status between now (refusal_leaves 0 (Limit 1) status between now h) (record {
      alone = λ none. absurd (omega (arith, none.short, long));
      within = λ some. refuses (record {
        line = 0;
        cause = Limit 1;
        is_fault = inl (inl (inl (long, refl, refl)));
        answers = h;
      });
    }))

pub refusal_leaves_since : (status : Status) (before between now : Seen) → IsUntouched before between
    → AnswersSpreadRefused 0 (Limit 1) status between now → LeavesRunOver status before now
refusal_leaves_since status before between now u h =
    since_before (λ b. LeavesRunOver status b now) before between u
    (refusal_leaves 0 (Limit 1) status between now h)

pub refusal_holds_since : (status : Status) (cert : List ℕ) (before between now : Seen) → IsUntouched before between
    → AnswersSpreadRefused 0 (Limit 1) status between now → Holds status cert before now
refusal_holds_since status cert before between now u h =
    since_before (λ b. Holds status cert b now) before between u (refusal_holds 0 (Limit 1) status cert between now h)
