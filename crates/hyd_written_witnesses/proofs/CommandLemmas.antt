-- What the command leaves, said of its start: NET was read, or couldn't be, or is refused.
use Rattle.std.proofs.Common.{◌≡◌, ◌≢◌, ◌∙◌, ◌⊎◌, inl, inr, ℕ, List, Option, ap, refl, sym, subst}
use Rattle.hyd_io.specs.declared.desk.Openings.{Openings}
use Rattle.hyd_io.specs.DeskBytes.{Files, IsTold, file_at}
use Rattle.hyd_io.specs.DeskCounts.{with_opened}
use Rattle.hyd_spec_lines.specs.Lines.{items_of, rows_in}
use Rattle.hyd_net.specs.declared.refusal_cause.Cause.{Cause}
use Rattle.hyd_spec.specs.ProgramTypes.{Project}
use Rattle.hyd_spec_input.specs.Project.{IsProject}
use Rattle.hyd_command_answers.specs.DeskContents.{Seen, IsUntouched, FilesStay, ChangesOnly, OnlyPrintedFront}
use Rattle.hyd_command_answers.specs.FaultsAndRefusals.{AnswersRefused}
use Rattle.hyd_command_answers.specs.declared.status.Status.{Status}
use Rattle.hyd_command_answers.specs.declared.status.Status.TheVariants.{Done, OutOfMemory, Usage, ReadFault, WriteFault}
use Rattle.hyd_command_answers.specs.declared.status.Status.TheVariants.{InputRefused, Undecided, RoundsSpent, Demand}
use Rattle.hyd_command_answers.specs.declared.status.Status.TheVariants.{CertificateRefused, Stalled}
use Rattle.hyd_command_answers.proofs.AnswerLemmas.{since_before}
use Rattle.hyd_written_witnesses.specs.WrittenPasses.{in_turn, OpensInTurn, OpensOnceMore}
use Rattle.hyd_written_witnesses.specs.WitnessAnswers.{AnswersSearch, AnswersWitnessSearch}
use Rattle.hyd_written_witnesses.specs.CommandWitness.{SearchesWitness, OpensSearch, OpensForSearch, LeavesSearch}
use Rattle.hyd_written_witnesses.specs.CommandWitness.{HoldsWitness}

-- ---- a network was read

module _ (before between now : Seen) (start opened end : Openings) (u : IsUntouched before between)
    (first : opened ≡ with_opened start) where
  leaves_search : (status : Status) → (status ≡ OutOfMemory → IsUntouched between now) → OpensSearch status opened end
      → LeavesSearch status between now
  leaves_search Done h o = tt
  leaves_search OutOfMemory h o = h refl
  leaves_search Usage h o = absurd o
  leaves_search ReadFault h o = tt
  leaves_search WriteFault h o = tt
  leaves_search InputRefused h o = absurd o
  leaves_search Undecided h o = tt
  leaves_search RoundsSpent h o = tt
  leaves_search Demand h o = tt
  leaves_search CertificateRefused h o = tt
  leaves_search Stalled h o = tt

  turns : OpensInTurn 3 opened end → OpensInTurn 3 (with_opened start) end
  turns t = subst (λ (from : Openings). OpensInTurn 3 from end) first t

  opens_for : (status : Status) → OpensSearch status opened end → OpensForSearch status start end
  opens_for Done o = turns o
  opens_for OutOfMemory o = inr (o ∙ first)
  opens_for Usage o = o
  opens_for ReadFault (inl o) = inr (inl (subst (λ (from : Openings). OpensOnceMore 3 from end) first o))
  opens_for ReadFault (inr o) = inr (inr (turns o))
  opens_for WriteFault o = inr (turns o)
  opens_for InputRefused o = absurd o
  opens_for Undecided o = subst (λ (from : Openings). end ≡ in_turn 3 from) first o
  opens_for RoundsSpent o = o
  opens_for Demand o = o
  opens_for CertificateRefused o = turns o
  opens_for Stalled o = inr (turns o)

  module _ (project : Project) (cert out : List ℕ) (status : Status)
      (searches : SearchesWitness project cert out status between now opened end) where
    pub search_leaves : LeavesSearch status before now
    search_leaves = since_before (λ b. LeavesSearch status b now) before between u
        (leaves_search status searches.leaves searches.opens_both)

    pub search_never_usage : status ≢ Usage
    search_never_usage = λ e. subst (λ (s : Status). OpensSearch s opened end) e searches.opens_both

    pub search_not_refused : status ≢ InputRefused
    search_not_refused = λ e. subst (λ (s : Status). OpensSearch s opened end) e searches.opens_both

    pub search_holds : HoldsWitness status out before now
    search_holds = since_before (λ b. HoldsWitness status out b now) before between u searches.holds

    pub search_others : ChangesOnly out before now
    search_others = since_before (λ b. ChangesOnly out b now) before between u searches.others

    pub search_opens : OpensForSearch status start end
    search_opens = opens_for status searches.opens_both

-- the answer of the network of a text is one of the text
search_text : (text certificate out : List ℕ) (project : Project) (status : Status) (before now : Seen)
    → IsProject (rows_in (items_of text)) project → AnswersSearch project certificate out status before now
    → AnswersWitnessSearch text certificate out status before now
search_text text certificate out project Done before now is h =
    record { project = project; is_network = is; holds = h }
search_text text certificate out project OutOfMemory before now is h = h
search_text text certificate out project Usage before now is h = absurd h
search_text text certificate out project ReadFault before now is h =
    inr (record { project = project; is_network = is; holds = h })
search_text text certificate out project WriteFault before now is h =
    record { project = project; is_network = is; holds = h }
search_text text certificate out project InputRefused before now is h = absurd h
search_text text certificate out project Undecided before now is h =
    record { project = project; is_network = is; holds = h }
search_text text certificate out project RoundsSpent before now is h = absurd h
search_text text certificate out project Demand before now is h = absurd h
search_text text certificate out project CertificateRefused before now is h =
    record { project = project; is_network = is; holds = h }
search_text text certificate out project Stalled before now is h =
    record { project = project; is_network = is; holds = h }

pub search_since : (text certificate cert out : List ℕ) (project : Project) (status : Status)
    (before between now : Seen) (opened end : Openings) → IsUntouched before between
    → IsProject (rows_in (items_of text)) project → SearchesWitness project cert out status between now opened end
    → IsTold before.files cert certificate → AnswersWitnessSearch text certificate out status before now
search_since text certificate cert out project status before between now opened end u is searches told =
    since_before (λ b. AnswersWitnessSearch text certificate out status b now) before between u
    (search_text text certificate out project status between now is (searches.answers certificate
    (ap (λ (files : Option Files). file_at files cert) u.files ∙ told)))

-- ---- a text of NET that is refused

pub refusal_leaves : (line : ℕ) (cause : Cause) (status : Status) (before now : Seen)
    → AnswersRefused line cause status before now → LeavesSearch status before now
refusal_leaves line cause Done before now h = tt
refusal_leaves line cause OutOfMemory before now h = h
refusal_leaves line cause Usage before now h = h
refusal_leaves line cause ReadFault before now h = tt
refusal_leaves line cause WriteFault before now h = tt
refusal_leaves line cause InputRefused before now h = record { line = line; cause = cause; only = h }
refusal_leaves line cause Undecided before now h = tt
refusal_leaves line cause RoundsSpent before now h = tt
refusal_leaves line cause Demand before now h = tt
refusal_leaves line cause CertificateRefused before now h = tt
refusal_leaves line cause Stalled before now h = tt

stays_untouched : (before now : Seen) → IsUntouched before now → FilesStay before now
stays_untouched before now u = record { files = u.files; written = u.written }

stays_by_front : (line : List ℕ) (before now : Seen) → OnlyPrintedFront line before now → FilesStay before now
stays_by_front line before now h = record { files = h.files; written = h.written }

pub refusal_holds : (line : ℕ) (cause : Cause) (status : Status) (out : List ℕ) (before now : Seen)
    → AnswersRefused line cause status before now → HoldsWitness status out before now
refusal_holds line cause Done out before now h = absurd h
refusal_holds line cause OutOfMemory out before now h = tt
refusal_holds line cause Usage out before now h = tt
refusal_holds line cause ReadFault out before now h = inl (stays_untouched before now h)
refusal_holds line cause WriteFault out before now h = inl (stays_by_front _ before now h)
refusal_holds line cause InputRefused out before now h = tt
refusal_holds line cause Undecided out before now h = absurd h
refusal_holds line cause RoundsSpent out before now h = tt
refusal_holds line cause Demand out before now h = tt
refusal_holds line cause CertificateRefused out before now h = absurd h
refusal_holds line cause Stalled out before now h = inl (stays_by_front _ before now h)

pub refusal_opens : (line : ℕ) (cause : Cause) (status : Status) (before now : Seen) (start opened end : Openings)
    → AnswersRefused line cause status before now → opened ≡ with_opened start → end ≡ opened
    → OpensForSearch status start end
refusal_opens line cause Done before now start opened end h o e = absurd h
refusal_opens line cause OutOfMemory before now start opened end h o e = inr (e ∙ o)
refusal_opens line cause Usage before now start opened end h o e = absurd h
refusal_opens line cause ReadFault before now start opened end h o e = inl (e ∙ o)
refusal_opens line cause WriteFault before now start opened end h o e = inl (e ∙ o)
refusal_opens line cause InputRefused before now start opened end h o e = e ∙ o
refusal_opens line cause Undecided before now start opened end h o e = absurd h
refusal_opens line cause RoundsSpent before now start opened end h o e = absurd h
refusal_opens line cause Demand before now start opened end h o e = absurd h
refusal_opens line cause CertificateRefused before now start opened end h o e = absurd h
refusal_opens line cause Stalled before now start opened end h o e = inl (e ∙ o)

-- ---- a text of NET that couldn't be had

module _ (status : Status) (why : (status ≡ ReadFault) ⊎ (status ≡ OutOfMemory)) where
  by_why : (P : Status → Type 0) → P ReadFault → P OutOfMemory → P status
  by_why P read memory = go why
    where
      go : (status ≡ ReadFault) ⊎ (status ≡ OutOfMemory) → P status
      go (inl e) = subst P (sym e) read
      go (inr e) = subst P (sym e) memory

  module _ (before now : Seen) (u : IsUntouched before now) where
    pub ended_leaves : LeavesSearch status before now
    ended_leaves = by_why (λ s. LeavesSearch s before now) tt u

    pub ended_searches : (text certificate out : List ℕ) → AnswersWitnessSearch text certificate out status before now
    ended_searches text certificate out =
        by_why (λ s. AnswersWitnessSearch text certificate out s before now) (inl u) u

    pub ended_holds : (out : List ℕ) → HoldsWitness status out before now
    ended_holds out = by_why (λ s. HoldsWitness s out before now) (inl (stays_untouched before now u)) tt

  pub ended_not_refused : status ≢ InputRefused
  ended_not_refused = by_why (λ s. s ≢ InputRefused) (λ e. cc) (λ e. cc)

  pub ended_opens : (start end : Openings) → end ≡ with_opened start → OpensForSearch status start end
  ended_opens start end o = by_why (λ s. OpensForSearch s start end) (inl o) (inr o)
