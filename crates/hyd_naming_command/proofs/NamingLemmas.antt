-- How what the command leaves follows from what the calls in it leave.
use Rattle.std.proofs.Common.{◌≡◌, ◌≢◌, ℕ, List, [], ◌⊎◌, inl, inr, ◌∙◌, refl, sym, subst}
use Rattle.std.proofs.Common.{is_some}
use Rattle.hyd_io.specs.DeskBytes.{where_told, file_at, content_of}
use Rattle.hyd_io.specs.declared.output.OutFault.{OutFault}
use Rattle.hyd_io.specs.declared.output.OutFault.TheVariants.{Fault, Stalled as Stall}
use Rattle.hyd_io.specs.declared.desk.Openings.{Openings}
use Rattle.hyd_spec_lines.specs.Lines.{items_of, rows_in}
use Rattle.hyd_net.specs.declared.refusal_cause.Cause.{Cause}
use Rattle.hyd_spec.specs.ProgramTypes.{Project}
use Rattle.hyd_spec_input.specs.Project.{IsProject}
use Rattle.hyd_spec_named_links.specs.RefusedNames.{IsRefusedAt}
use Rattle.hyd_spec_named_links.specs.declared.NameFails.{NameFails}
use Rattle.hyd_spec_reports.specs.PromisesOfRunsAndChecks.{Outcome}
use Rattle.hyd_sim.specs.declared.settings.Settings.{Settings}
use Rattle.hyd_run.specs.Pens.{Told, LeavesRest}
use Rattle.hyd_run_naming_flows.specs.NamingRuns.{IsPutOutNaming, IsBrokenOffNaming}
use Rattle.hyd_command_answers.specs.DeskContents.{Seen, IsUntouched, FilesStay}
use Rattle.hyd_command_answers.specs.FaultsAndRefusals.{AnswersRefused, status_of_fault}
use Rattle.hyd_command_answers.specs.OpeningsOfRuns.{OpensCert}
use Rattle.hyd_command_answers.specs.WrittenCertificates.{Holds}
use Rattle.hyd_command_answers.specs.Statuses.{status_of_outcome}
use Rattle.hyd_command_answers.specs.declared.status.Status.{Status}
use Rattle.hyd_command_answers.specs.declared.status.Status.TheVariants.{
  Done,
  OutOfMemory,
  Usage,
  ReadFault,
  WriteFault,
}
use Rattle.hyd_command_answers.specs.declared.status.Status.TheVariants.{InputRefused, Undecided, RoundsSpent, Demand}
use Rattle.hyd_command_answers.specs.declared.status.Status.TheVariants.{CertificateRefused, Stalled}
use Rattle.hyd_command_answers.proofs.AnswerLemmas.{since_before, new_text, new_file, number_of_end, by_end}
use Rattle.hyd_command_answers.proofs.AnswerLemmas.{refused_since, printed_since}
use Rattle.hyd_naming_command.specs.NamingAnswers.{
  DeliveredNaming,
  CutShortNaming,
  AnswersRunNaming,
  AnswersRefusedName,
}
use Rattle.hyd_naming_command.specs.NamingAnswers.{AnswersNames, named, refused, AnswersTextNaming, LeavesNaming}

-- ---- the end of a run

answers_end : (project : Project) (links : List ℕ) (settings : Settings) (cert : List ℕ) (outcome : Outcome)
    (before now : Seen) → DeliveredNaming project links settings cert (status_of_outcome outcome) before now
    → AnswersRunNaming project links settings cert (status_of_outcome outcome) before now
answers_end project links settings cert outcome before now h =
    by_end (λ status. AnswersRunNaming project links settings cert status before now) outcome
    (λ e. subst (λ s. DeliveredNaming project links settings cert s before now) (sym e) h)
    (λ e. subst (λ s. DeliveredNaming project links settings cert s before now) (sym e) h)
    (λ e. subst (λ s. DeliveredNaming project links settings cert s before now) (sym e) h)
    (λ e. subst (λ s. DeliveredNaming project links settings cert s before now) (sym e) h)

answers_fault : (project : Project) (links : List ℕ) (settings : Settings) (cert : List ℕ) (fault : OutFault)
    (before now : Seen) → IsUntouched before now ⊎ CutShortNaming project links settings cert before now
    → AnswersRunNaming project links settings cert (status_of_fault fault) before now
answers_fault project links settings cert Fault before now h = h
answers_fault project links settings cert Stall before now h = h

-- ---- a run that was put out

-- what a call can change, of all that a desk tells
abbrev pub seen_of : Told → Seen
seen_of told = record { files = told.files; written = told.written; printed = told.printed }

pub delivered : (project : Project) (links : List ℕ) (settings : Settings) (cert : List ℕ) (outcome : Outcome)
    (before : Seen) (created after : Told) → IsPutOutNaming project settings links outcome created after
    → created.written ≡ where_told before.files []
    → created.printed ≡ before.printed → created.target ≡ where_told before.files cert
    → is_some created.files ≡ is_some before.files → LeavesRest created after
    → after.written ≡ content_of after.files after.target
    → AnswersRunNaming project links settings cert (status_of_outcome outcome) before (seen_of after)
delivered project links settings cert outcome before created after out begun printed target told leaves content =
    answers_end project links settings cert outcome before (seen_of after) (record {
      outcome = outcome;
      certificate = out.certificate;
      report = out.report;
      run = out.writes;
      names_junction = out.names;
      status_is = number_of_end outcome;
      written = new_text before.files created.written after.written out.certificate begun out.written;
      printed = printed_since before.printed created.printed after.printed out.report printed out.printed;
      held = new_file before.files after.files after.target after.written cert (leaves.target_stays ∙ target)
          (leaves.still_told ∙ told) content;
    })

pub cut_short : (project : Project) (links : List ℕ) (settings : Settings) (cert : List ℕ) (fault : OutFault)
    (before : Seen) (created after : Told) → IsBrokenOffNaming project settings links created after
    → created.written ≡ where_told before.files []
    → created.printed ≡ before.printed → created.target ≡ where_told before.files cert
    → is_some created.files ≡ is_some before.files → LeavesRest created after
    → after.written ≡ content_of after.files after.target
    → AnswersRunNaming project links settings cert (status_of_fault fault) before (seen_of after)
cut_short project links settings cert fault before created after out begun printed target told leaves content =
    answers_fault project links settings cert fault before (seen_of after) (inr (record {
      certificate = out.certificate;
      report = out.report;
      run = out.breaks_off;
      names_junction = out.names;
      in_order = out.in_order;
      written = new_text before.files created.written after.written out.certificate begun out.written;
      printed = printed_since before.printed created.printed after.printed out.report printed out.printed;
      held = new_file before.files after.files after.target after.written cert (leaves.target_stays ∙ target)
          (leaves.still_told ∙ told) content;
    }))

-- ---- what a run, a refused name and a refused text leave

run_leaves : (names : List (List ℕ)) (project : Project) (links : List ℕ) (settings : Settings) (cert : List ℕ)
    (status : Status) (before now : Seen) → AnswersRunNaming project links settings cert status before now
    → LeavesNaming names status before now
run_leaves names project links settings cert Done before now h = tt
run_leaves names project links settings cert OutOfMemory before now h = h
run_leaves names project links settings cert Usage before now h = h
run_leaves names project links settings cert ReadFault before now h = absurd h
run_leaves names project links settings cert WriteFault before now h = tt
run_leaves names project links settings cert InputRefused before now h = absurd h
run_leaves names project links settings cert Undecided before now h = tt
run_leaves names project links settings cert RoundsSpent before now h = tt
run_leaves names project links settings cert Demand before now h = tt
run_leaves names project links settings cert CertificateRefused before now h = absurd h
run_leaves names project links settings cert Stalled before now h = tt

name_leaves : (project : Project) (names : List (List ℕ)) (place : ℕ) (cause : NameFails) (status : Status)
    (before now : Seen) → IsRefusedAt project names place cause → AnswersRefusedName place cause status before now
    → LeavesNaming names status before now
name_leaves project names place cause Done before now at h = absurd h
name_leaves project names place cause OutOfMemory before now at h = absurd h
name_leaves project names place cause Usage before now at h = h
name_leaves project names place cause ReadFault before now at h = absurd h
name_leaves project names place cause WriteFault before now at h = tt
name_leaves project names place cause InputRefused before now at h = inr (record {
  earlier = at.before;
  name = at.name;
  is_name = at.is_name;
  place = place;
  place_is = at.place_is;
  cause = cause;
  only = h;
})
name_leaves project names place cause Undecided before now at h = absurd h
name_leaves project names place cause RoundsSpent before now at h = absurd h
name_leaves project names place cause Demand before now at h = absurd h
name_leaves project names place cause CertificateRefused before now at h = absurd h
name_leaves project names place cause Stalled before now at h = tt

refusal_leaves : (names : List (List ℕ)) (line : ℕ) (cause : Cause) (status : Status) (before now : Seen)
    → AnswersRefused line cause status before now → LeavesNaming names status before now
refusal_leaves names line cause Done before now h = absurd h
refusal_leaves names line cause OutOfMemory before now h = h
refusal_leaves names line cause Usage before now h = h
refusal_leaves names line cause ReadFault before now h = h
refusal_leaves names line cause WriteFault before now h = tt
refusal_leaves names line cause InputRefused before now h = inl (record { line = line; cause = cause; only = h })
refusal_leaves names line cause Undecided before now h = absurd h
refusal_leaves names line cause RoundsSpent before now h = absurd h
refusal_leaves names line cause Demand before now h = absurd h
refusal_leaves names line cause CertificateRefused before now h = absurd h
refusal_leaves names line cause Stalled before now h = tt

names_leave : (project : Project) (names : List (List ℕ)) (settings : Settings) (cert : List ℕ) (status : Status)
    (before now : Seen) → AnswersNames project names settings cert status before now
    → LeavesNaming names status before now
names_leave project names settings cert status before now (named numbers are may h) =
    run_leaves names project numbers settings cert status before now h
names_leave project names settings cert status before now (refused place cause at h) =
    name_leaves project names place cause status before now at h

-- ---- whether CERT holds what was written

-- where nothing or a front was put, the files stay or the file holds it
fronts_hold : (project : Project) (links : List ℕ) (settings : Settings) (cert : List ℕ) (before now : Seen)
    → IsUntouched before now ⊎ CutShortNaming project links settings cert before now
    → FilesStay before now ⊎ (file_at now.files cert ≡ now.written)
fronts_hold project links settings cert before now (inl h) = inl (record { files = h.files; written = h.written })
fronts_hold project links settings cert before now (inr h) = inr h.held

run_holds : (project : Project) (links : List ℕ) (settings : Settings) (cert : List ℕ) (status : Status)
    (before now : Seen) → AnswersRunNaming project links settings cert status before now
    → Holds status cert before now
run_holds project links settings cert Done before now h = h.held
run_holds project links settings cert OutOfMemory before now h = tt
run_holds project links settings cert Usage before now h = tt
run_holds project links settings cert ReadFault before now h = tt
run_holds project links settings cert WriteFault before now h = fronts_hold project links settings cert before now h
run_holds project links settings cert InputRefused before now h = tt
run_holds project links settings cert Undecided before now h = h.held
run_holds project links settings cert RoundsSpent before now h = h.held
run_holds project links settings cert Demand before now h = h.held
run_holds project links settings cert CertificateRefused before now h = tt
run_holds project links settings cert Stalled before now h = fronts_hold project links settings cert before now h

name_holds : (place : ℕ) (cause : NameFails) (status : Status) (cert : List ℕ) (before now : Seen)
    → AnswersRefusedName place cause status before now → Holds status cert before now
name_holds place cause Done cert before now h = absurd h
name_holds place cause OutOfMemory cert before now h = tt
name_holds place cause Usage cert before now h = tt
name_holds place cause ReadFault cert before now h = tt
name_holds place cause WriteFault cert before now h = inl (record { files = h.files; written = h.written })
name_holds place cause InputRefused cert before now h = tt
name_holds place cause Undecided cert before now h = absurd h
name_holds place cause RoundsSpent cert before now h = absurd h
name_holds place cause Demand cert before now h = absurd h
name_holds place cause CertificateRefused cert before now h = tt
name_holds place cause Stalled cert before now h = inl (record { files = h.files; written = h.written })

refusal_holds : (line : ℕ) (cause : Cause) (status : Status) (cert : List ℕ) (before now : Seen)
    → AnswersRefused line cause status before now → Holds status cert before now
refusal_holds line cause Done cert before now h = absurd h
refusal_holds line cause OutOfMemory cert before now h = tt
refusal_holds line cause Usage cert before now h = tt
refusal_holds line cause ReadFault cert before now h = tt
refusal_holds line cause WriteFault cert before now h = inl (record { files = h.files; written = h.written })
refusal_holds line cause InputRefused cert before now h = tt
refusal_holds line cause Undecided cert before now h = absurd h
refusal_holds line cause RoundsSpent cert before now h = absurd h
refusal_holds line cause Demand cert before now h = absurd h
refusal_holds line cause CertificateRefused cert before now h = absurd h
refusal_holds line cause Stalled cert before now h = inl (record { files = h.files; written = h.written })

names_hold : (project : Project) (names : List (List ℕ)) (settings : Settings) (cert : List ℕ) (status : Status)
    (before now : Seen) → AnswersNames project names settings cert status before now → Holds status cert before now
names_hold project names settings cert status before now (named numbers are may h) =
    run_holds project numbers settings cert status before now h
names_hold project names settings cert status before now (refused place cause at h) =
    name_holds place cause status cert before now h

-- ---- the answer of the network of a text is one of the text

no_read_fault : (project : Project) (names : List (List ℕ)) (settings : Settings) (cert : List ℕ) (before now : Seen)
    → AnswersNames project names settings cert ReadFault before now → ⊥
no_read_fault project names settings cert before now (named numbers are may h) = h
no_read_fault project names settings cert before now (refused place cause at h) = h

memory_leaves : (project : Project) (names : List (List ℕ)) (settings : Settings) (cert : List ℕ) (before now : Seen)
    → AnswersNames project names settings cert OutOfMemory before now → IsUntouched before now
memory_leaves project names settings cert before now (named numbers are may h) = h
memory_leaves project names settings cert before now (refused place cause at h) = absurd h

text_answers : (text : List ℕ) (project : Project) (names : List (List ℕ)) (settings : Settings) (cert : List ℕ)
    (status : Status) (before now : Seen) → IsProject (rows_in (items_of text)) project
    → AnswersNames project names settings cert status before now
    → AnswersTextNaming text names settings cert status before now
text_answers text project names settings cert Done before now p h =
    record { project = project; is_network = p; holds = h }
text_answers text project names settings cert OutOfMemory before now p h =
    memory_leaves project names settings cert before now h
text_answers text project names settings cert Usage before now p h =
    record { project = project; is_network = p; holds = h }
text_answers text project names settings cert ReadFault before now p h =
    absurd (no_read_fault project names settings cert before now h)
text_answers text project names settings cert WriteFault before now p h =
    record { project = project; is_network = p; holds = h }
text_answers text project names settings cert InputRefused before now p h =
    record { project = project; is_network = p; holds = h }
text_answers text project names settings cert Undecided before now p h =
    record { project = project; is_network = p; holds = h }
text_answers text project names settings cert RoundsSpent before now p h =
    record { project = project; is_network = p; holds = h }
text_answers text project names settings cert Demand before now p h =
    record { project = project; is_network = p; holds = h }
text_answers text project names settings cert CertificateRefused before now p h =
    record { project = project; is_network = p; holds = h }
text_answers text project names settings cert Stalled before now p h =
    record { project = project; is_network = p; holds = h }

-- ---- the whole command, where nothing was touched before the network was there

pub leaves_since : (project : Project) (names : List (List ℕ)) (settings : Settings) (cert : List ℕ) (status : Status)
    (before between now : Seen) → IsUntouched before between
    → AnswersNames project names settings cert status between now → LeavesNaming names status before now
leaves_since project names settings cert status before between now u h =
    names_leave project names settings cert status before now
    (since_before (λ b. AnswersNames project names settings cert status b now) before between u h)

pub holds_since : (project : Project) (names : List (List ℕ)) (settings : Settings) (cert : List ℕ) (status : Status)
    (before between now : Seen) → IsUntouched before between
    → AnswersNames project names settings cert status between now → Holds status cert before now
holds_since project names settings cert status before between now u h =
    names_hold project names settings cert status before now
    (since_before (λ b. AnswersNames project names settings cert status b now) before between u h)

pub run_since : (text : List ℕ) (project : Project) (names : List (List ℕ)) (settings : Settings) (cert : List ℕ)
    (status : Status) (before between now : Seen) → IsUntouched before between
    → IsProject (rows_in (items_of text)) project → AnswersNames project names settings cert status between now
    → AnswersTextNaming text names settings cert status before now
run_since text project names settings cert status before between now u p h =
    text_answers text project names settings cert status before now p
    (since_before (λ b. AnswersNames project names settings cert status b now) before between u h)

pub refused_leaves_since : (names : List (List ℕ)) (line : ℕ) (cause : Cause) (status : Status) (before between now : Seen)
    → IsUntouched before between → AnswersRefused line cause status between now → LeavesNaming names status before now
refused_leaves_since names line cause status before between now u h =
    refusal_leaves names line cause status before now (refused_since line cause status before between now u h)

pub refused_holds_since : (line : ℕ) (cause : Cause) (status : Status) (cert : List ℕ) (before between now : Seen)
    → IsUntouched before between → AnswersRefused line cause status between now → Holds status cert before now
refused_holds_since line cause status cert before between now u h =
    refusal_holds line cause status cert before now (refused_since line cause status before between now u h)

-- the words are a command
pub never_usage : (project : Project) (names : List (List ℕ)) (settings : Settings) (cert : List ℕ) (status : Status)
    (before now : Seen) → AnswersNames project names settings cert status before now → status ≢ Usage
never_usage project names settings cert status before now h =
    λ e. subst (λ s. LeavesNaming names s before now) e (names_leave project names settings cert status before now h)

-- a name that is refused opens nothing
pub name_opens : (place : ℕ) (cause : NameFails) (status : Status) (before now : Seen) (start end : Openings)
    → AnswersRefusedName place cause status before now → end ≡ start → OpensCert status start end
name_opens place cause Done before now start end h e = absurd h
name_opens place cause OutOfMemory before now start end h e = e
name_opens place cause Usage before now start end h e = h
name_opens place cause ReadFault before now start end h e = h
name_opens place cause WriteFault before now start end h e = inl e
name_opens place cause InputRefused before now start end h e = e
name_opens place cause Undecided before now start end h e = absurd h
name_opens place cause RoundsSpent before now start end h e = absurd h
name_opens place cause Demand before now start end h e = absurd h
name_opens place cause CertificateRefused before now start end h e = h
name_opens place cause Stalled before now start end h e = inl e
