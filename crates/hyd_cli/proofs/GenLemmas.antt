-- How what the command `gen` leaves follows from what the calls in it leave.
use Rattle.std.proofs.Common.{◌≡◌, ◌≢◌, ℕ, Bool, false, List, [], ◌++◌, Option, None, Some, ◌⊎◌, inl, inr, ◌∙◌, refl}
use Rattle.std.proofs.Common.{sym, ap, subst, is_some}
use Rattle.std.proofs.lemmas.Bool.{false≢true}
use Rattle.hyd_io.specs.DeskBytes.{Files, where_told, append_known, file_at, content_of, Moves, PutOut}
use Rattle.hyd_io.specs.DeskCounts.{with_created}
use Rattle.hyd_io.specs.Output.{by_channel}
use Rattle.hyd_io.specs.declared.desk.Openings.{Openings}
use Rattle.hyd_io.specs.declared.output.Channel.{Channel}
use Rattle.hyd_io.specs.declared.output.Channel.TheVariants.{Cert}
use Rattle.hyd_io.specs.declared.output.OutFault.{OutFault}
use Rattle.hyd_io.specs.declared.output.OutFault.TheVariants.{Fault, Stalled as Stall}
use Rattle.hyd_io.proofs.MovedBytesLemmas.{moves_flush, put_out_flush}
use Rattle.hyd_spec_lines.specs.Lines.{items_of, rows_in}
use Rattle.hyd_net.specs.declared.refusal_cause.Cause.{Cause}
use Rattle.hyd_spec.specs.ProgramTypes.{Project}
use Rattle.hyd_spec_input.specs.Project.{IsProject}
use Rattle.hyd_spec_reports.specs.PromisesOfRunsAndChecks.{Outcome}
use Rattle.hyd_sim.specs.declared.settings.Settings.{Settings}
use Rattle.hyd_run.specs.Pens.{Told, LeavesRest}
use Rattle.hyd_summarised_run.specs.SummarisedRuns.{IsSummed, IsSumBrokenOff}
use Rattle.hyd_command_words.specs.CommandGrammar.{TwoFiles}
use Rattle.hyd_command_answers.specs.DeskContents.{Seen, IsUntouched}
use Rattle.hyd_command_answers.specs.FaultsAndRefusals.{OfNetwork, AnswersRefused, status_of_fault}
use Rattle.hyd_cli.specs.Answers.{LeavesRun}
use Rattle.hyd_command_answers.specs.OpeningsOfRuns.{OpensCert}
use Rattle.hyd_cli.specs.GenAnswers.{usual_settings, Generated, TextWritten, TextCutShort, CertStays, GenBreaksOff}
use Rattle.hyd_cli.specs.GenAnswers.{nothing, in_network, no_certificate, in_run, AnswersGenerated, AnswersGen}
use Rattle.hyd_cli.specs.GenAnswers.{CreatesBoth}
use Rattle.hyd_command_answers.specs.Statuses.{status_of_outcome}
use Rattle.hyd_command_answers.specs.declared.status.Status.{Status}
use Rattle.hyd_command_answers.specs.declared.status.Status.TheVariants.{Done, OutOfMemory, Usage, ReadFault, WriteFault}
use Rattle.hyd_command_answers.specs.declared.status.Status.TheVariants.{InputRefused, Undecided, RoundsSpent, Demand}
use Rattle.hyd_command_answers.specs.declared.status.Status.TheVariants.{CertificateRefused, Stalled}
use Rattle.hyd_command_answers.proofs.AnswerLemmas.{new_text, new_file, other_target, number_of_end, by_end, printed_since}
use Rattle.hyd_cli.proofs.AnswerLemmas.{refused_leaves_since, seen_of}

-- ---- what a new pen on a file puts out in one put and a flush

pub put_whole : (here there : Channel) (w0 p0 w1 p1 w2 p2 : Option (List ℕ)) (before bytes held : List ℕ)
    → here ≡ Cert → there ≡ here → before ≡ []
    → Moves (by_channel here w0 p0) (by_channel here w1 p1) (before ++ bytes) held
    → by_channel there w2 p2 ≡ append_known (by_channel there w1 p1) held → w2 ≡ append_known w0 bytes
put_whole here there w0 p0 w1 p1 w2 p2 before bytes held h t b m w =
    let first : Moves w0 w1 bytes held = rw (b, h) at m in
    let second : w2 ≡ append_known w1 held = rw (t, h) at w in
    moves_flush w0 w1 w2 bytes held first second

pub put_front : (here there : Channel) (w0 p0 w1 p1 w2 p2 : Option (List ℕ)) (before bytes held : List ℕ)
    → here ≡ Cert → there ≡ here → before ≡ []
    → Moves (by_channel here w0 p0) (by_channel here w1 p1) (before ++ bytes) held
    → PutOut (by_channel there w1 p1) (by_channel there w2 p2) held → PutOut w0 w2 bytes
put_front here there w0 p0 w1 p1 w2 p2 before bytes held h t b m k =
    let first : Moves w0 w1 bytes held = rw (b, h) at m in
    let second : PutOut w1 w2 held = rw (t, h) at k in
    put_out_flush w0 w1 w2 bytes held first second

-- ---- files that were created

-- What a call says that creates the file of a name.
pub record Created (name : List ℕ) (before : Seen) (now : Told) : Type 0 where
  pub begun : now.written ≡ where_told before.files []
  pub printed : now.printed ≡ before.printed
  pub target : now.target ≡ where_told before.files name
  pub still_told : is_some now.files ≡ is_some before.files
  pub others : (other : List ℕ) → other ≢ name → file_at now.files other ≡ file_at before.files other

-- The file created last holds what was written since.
holds_written : (name : List ℕ) (before : Seen) (created after : Told) → Created name before created
    → LeavesRest created after → after.written ≡ content_of after.files after.target
    → file_at after.files name ≡ after.written
holds_written name before created after made leaves content =
    new_file before.files after.files after.target after.written name (leaves.target_stays ∙ made.target)
    (leaves.still_told ∙ made.still_told) content

-- No other file changed since it was created, nor then.
others_stay : (name other : List ℕ) (before : Seen) (created after : Told) → Created name before created
    → LeavesRest created after → other ≢ name → file_at after.files other ≡ file_at before.files other
others_stay name other before created after made leaves differs =
    leaves.others other (other_target before.files created.target name other made.target differs)
    ∙ made.others other differs

-- what is told of both is the same
told_alike : {A B : Type 0} (here there : Option A) (v : B) → is_some here ≡ is_some there
    → where_told here v ≡ where_told there v
told_alike None None v e = refl
told_alike None (Some there) v e = absurd (false≢true e)
told_alike (Some here) None v e = absurd (false≢true (sym e))
told_alike (Some here) (Some there) v e = refl

-- ---- the text

pub text_written : (text net : List ℕ) (before : Seen) (created after : Told) → Created net before created
    → LeavesRest created after → after.written ≡ content_of after.files after.target
    → after.printed ≡ created.printed → after.written ≡ append_known created.written text
    → TextWritten text net before (seen_of after)
text_written text net before created after made leaves content printed out =
    let written : after.written ≡ where_told before.files text =
    new_text before.files created.written after.written text made.begun out in
    record {
      written = written;
      held = holds_written net before created after made leaves content ∙ written;
      printed = printed ∙ made.printed;
      still_told = leaves.still_told ∙ made.still_told;
    }

pub text_cut_off : (text net : List ℕ) (before : Seen) (created after : Told) → Created net before created
    → LeavesRest created after → after.written ≡ content_of after.files after.target
    → after.printed ≡ created.printed → PutOut created.written after.written text
    → TextCutShort text net before (seen_of after)
text_cut_off text net before created after made leaves content printed out = record {
  front = out.1.front;
  unwritten = out.0;
  is_front = sym out.1.whole;
  written = new_text before.files created.written after.written out.1.front made.begun out.1.out;
  held = holds_written net before created after made leaves content;
  printed = printed ∙ made.printed;
}

pub text_breaks_off : (project : Project) (text : List ℕ) (names : TwoFiles) (before now : Seen)
    (opened opens : Openings) (writable : Bool) → CertStays names before now → opens ≡ with_created opened
    → (IsUntouched before now × (writable ≡ false)) ⊎ TextCutShort text names.net before now
    → GenBreaksOff project text names before now opened opens writable
text_breaks_off project text names before now opened opens writable stays once (inl h) = nothing h.0 once h.1
text_breaks_off project text names before now opened opens writable stays once (inr h) = in_network h stays once

-- ---- the run, once the text was written

-- NET holds the text still when CERT was created and written to.
pub text_stays : (text : List ℕ) (names : TwoFiles) (before between : Seen) (created after : Told)
    → names.net ≢ names.cert → TextWritten text names.net before between → Created names.cert between created
    → LeavesRest created after → file_at after.files names.net ≡ where_told before.files text
text_stays text names before between created after apart w made leaves =
    others_stay names.cert names.net between created after made leaves apart ∙ w.held

-- the text stays where CERT couldn't be created
pub text_alone : (project : Project) (text : List ℕ) (names : TwoFiles) (before between now : Seen)
    (opened opens : Openings) (writable : Bool) → TextWritten text names.net before between
    → CertStays names before between → IsUntouched between now → opens ≡ with_created (with_created opened)
    → writable ≡ false → GenBreaksOff project text names before now opened opens writable
text_alone project text names before between now opened opens writable w stays put twice closed =
    no_certificate (record {
      written = put.written ∙ w.written;
      held = ap (λ (files : Option Files). file_at files names.net) put.files ∙ w.held;
      printed = put.printed ∙ w.printed;
      still_told = ap (λ (files : Option Files). is_some files) put.files ∙ w.still_told;
    }) (ap (λ (files : Option Files). file_at files names.cert) put.files ∙ stays) twice closed

module _ (project : Project) (settings : Settings) (text : List ℕ) (names : TwoFiles) (before between : Seen)
    (created after : Told) where
  pub generated : (outcome : Outcome) → settings ≡ usual_settings → names.net ≢ names.cert
      → TextWritten text names.net before between → Created names.cert between created → LeavesRest created after
      → after.written ≡ content_of after.files after.target → IsSummed project settings outcome created after
      → Generated project text names (status_of_outcome outcome) before (seen_of after)
  generated outcome usual apart w made leaves content summed =
      let out : IsSummed project usual_settings outcome created after =
      subst (λ (s : Settings). IsSummed project s outcome created after) usual summed in
      record {
        outcome = outcome;
        certificate = out.certificate;
        summary = out.summary;
        run = out.sums;
        names_junction = out.names;
        status_is = number_of_end outcome;
        written = new_text between.files created.written after.written out.certificate made.begun out.written
            ∙ told_alike between.files before.files out.certificate w.still_told;
        printed = printed_since before.printed created.printed after.printed out.summary (made.printed ∙ w.printed)
            out.printed;
        held = holds_written names.cert between created after made leaves content;
        network_held = text_stays text names before between created after apart w made leaves;
      }

  pub generated_short : (opened : Openings) → after.openings ≡ with_created (with_created opened)
      → settings ≡ usual_settings → names.net ≢ names.cert → TextWritten text names.net before between
      → Created names.cert between created → LeavesRest created after
      → after.written ≡ content_of after.files after.target → IsSumBrokenOff project settings created after
      → GenBreaksOff project text names before (seen_of after) opened after.openings after.ready
  generated_short opened twice usual apart w made leaves content broken_off =
      let out : IsSumBrokenOff project usual_settings created after =
      subst (λ (s : Settings). IsSumBrokenOff project s created after) usual broken_off in
      in_run (record {
        certificate = out.certificate;
        summary = out.summary;
        run = out.breaks_off;
        names_junction = out.names;
        written = new_text between.files created.written after.written out.certificate made.begun out.written
            ∙ told_alike between.files before.files out.certificate w.still_told;
        printed = printed_since before.printed created.printed after.printed out.summary (made.printed ∙ w.printed)
            out.printed;
        held = holds_written names.cert between created after made leaves content;
        network_held = text_stays text names before between created after apart w made leaves;
      }) twice

-- ---- how it ended

pub generated_end : (project : Project) (text : List ℕ) (names : TwoFiles) (outcome : Outcome) (before now : Seen)
    (opened opens : Openings) (writable : Bool)
    → Generated project text names (status_of_outcome outcome) before now
    → AnswersGenerated project text names (status_of_outcome outcome) before now opened opens writable
generated_end project text names outcome before now opened opens writable h =
    by_end (λ status. AnswersGenerated project text names status before now opened opens writable) outcome
    (λ e. subst (λ s. Generated project text names s before now) (sym e) h)
    (λ e. subst (λ s. Generated project text names s before now) (sym e) h)
    (λ e. subst (λ s. Generated project text names s before now) (sym e) h)
    (λ e. subst (λ s. Generated project text names s before now) (sym e) h)

pub creates_of_end : (outcome : Outcome) (before now : Openings) → now ≡ with_created (with_created before)
    → CreatesBoth (status_of_outcome outcome) before now
creates_of_end outcome before now e =
    by_end (λ status. CreatesBoth status before now) outcome (λ d. e) (λ d. e) (λ d. e) (λ d. e)

pub generated_fault : (project : Project) (text : List ℕ) (names : TwoFiles) (fault : OutFault) (before now : Seen)
    (opened opens : Openings) (writable : Bool) → GenBreaksOff project text names before now opened opens writable
    → AnswersGenerated project text names (status_of_fault fault) before now opened opens writable
generated_fault project text names Fault before now opened opens writable h = h
generated_fault project text names Stall before now opened opens writable h = h

pub creates_of_fault : (fault : OutFault) (before now : Openings)
    → (now ≡ with_created before) ⊎ (now ≡ with_created (with_created before))
    → CreatesBoth (status_of_fault fault) before now
creates_of_fault Fault before now h = inr h
creates_of_fault Stall before now h = inr h

-- ---- the text that was made

pub generated_leaves : (project : Project) (text : List ℕ) (names : TwoFiles) (status : Status) (before now : Seen)
    (opened opens : Openings) (writable : Bool)
    → AnswersGenerated project text names status before now opened opens writable → LeavesRun status before now
generated_leaves project text names Done before now opened opens writable h = tt
generated_leaves project text names OutOfMemory before now opened opens writable h = h
generated_leaves project text names Usage before now opened opens writable h = absurd h
generated_leaves project text names ReadFault before now opened opens writable h = absurd h
generated_leaves project text names WriteFault before now opened opens writable h = tt
generated_leaves project text names InputRefused before now opened opens writable h = absurd h
generated_leaves project text names Undecided before now opened opens writable h = tt
generated_leaves project text names RoundsSpent before now opened opens writable h = tt
generated_leaves project text names Demand before now opened opens writable h = tt
generated_leaves project text names CertificateRefused before now opened opens writable h = tt
generated_leaves project text names Stalled before now opened opens writable h = tt

pub generated_never_usage : (project : Project) (text : List ℕ) (names : TwoFiles) (status : Status)
    (before now : Seen) (opened opens : Openings) (writable : Bool)
    → AnswersGenerated project text names status before now opened opens writable → status ≢ Usage
generated_never_usage project text names status before now opened opens writable h =
    λ e. subst (λ s. AnswersGenerated project text names s before now opened opens writable) e h

-- what an answer says of the network of a text
of_network : (text : List ℕ) (project : Project) (names : TwoFiles) (status : Status) (before now : Seen)
    (opened opens : Openings) (writable : Bool) → IsProject (rows_in (items_of text)) project
    → AnswersGenerated project text names status before now opened opens writable
    → OfNetwork text (λ p. AnswersGenerated p text names status before now opened opens writable)
of_network text project names status before now opened opens writable p h =
    record { project = project; is_network = p; holds = h }

-- the answer of the network of a text is one of the text
pub generated_answers : (text : List ℕ) (project : Project) (names : TwoFiles) (status : Status) (before now : Seen)
    (opened opens : Openings) (writable : Bool) → IsProject (rows_in (items_of text)) project
    → AnswersGenerated project text names status before now opened opens writable
    → AnswersGen text names status before now opened opens writable
generated_answers text project names Done before now opened opens writable p h =
    of_network text project names Done before now opened opens writable p h
generated_answers text project names OutOfMemory before now opened opens writable p h = h
generated_answers text project names Usage before now opened opens writable p h = absurd h
generated_answers text project names ReadFault before now opened opens writable p h = absurd h
generated_answers text project names WriteFault before now opened opens writable p h =
    of_network text project names WriteFault before now opened opens writable p h
generated_answers text project names InputRefused before now opened opens writable p h = absurd h
generated_answers text project names Undecided before now opened opens writable p h =
    of_network text project names Undecided before now opened opens writable p h
generated_answers text project names RoundsSpent before now opened opens writable p h =
    of_network text project names RoundsSpent before now opened opens writable p h
generated_answers text project names Demand before now opened opens writable p h =
    of_network text project names Demand before now opened opens writable p h
generated_answers text project names CertificateRefused before now opened opens writable p h = absurd h
generated_answers text project names Stalled before now opened opens writable p h =
    of_network text project names Stalled before now opened opens writable p h

-- ---- the text is refused

pub gen_refusal_leaves : (line : ℕ) (cause : Cause) (status : Status) (before now : Seen)
    → AnswersRefused line cause status before now → LeavesRun status before now
gen_refusal_leaves line cause status before now h =
    refused_leaves_since line cause status before before now (record { files = refl; written = refl; printed = refl }) h

one_or_none : (before now : Openings) → (now ≡ before) ⊎ (now ≡ with_created before)
    → (now ≡ before) ⊎ ((now ≡ with_created before) ⊎ (now ≡ with_created (with_created before)))
one_or_none before now (inl e) = inl e
one_or_none before now (inr e) = inr (inl e)

pub refusal_creates : (line : ℕ) (cause : Cause) (status : Status) (before now : Seen) (start end : Openings)
    → AnswersRefused line cause status before now → OpensCert status start end → CreatesBoth status start end
refusal_creates line cause Done before now start end h o = absurd h
refusal_creates line cause OutOfMemory before now start end h o = o
refusal_creates line cause Usage before now start end h o = absurd h
refusal_creates line cause ReadFault before now start end h o = absurd o
refusal_creates line cause WriteFault before now start end h o = one_or_none start end o
refusal_creates line cause InputRefused before now start end h o = o
refusal_creates line cause Undecided before now start end h o = absurd h
refusal_creates line cause RoundsSpent before now start end h o = absurd h
refusal_creates line cause Demand before now start end h o = absurd h
refusal_creates line cause CertificateRefused before now start end h o = absurd h
refusal_creates line cause Stalled before now start end h o = one_or_none start end o
