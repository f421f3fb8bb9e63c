-- What a check so far says of the certificate that is read: of the whole of it at its END line, and of its front.
use Rattle.std.proofs.Common.{◌≡◌, ℕ, Bool, true, false, List, [], ◌∷◌, ◌++◌, length, map, Some, refl, sym, ap}
use Rattle.std.proofs.Common.{subst, ◌∙◌, append_assoc, append-nil}
use Rattle.std.specs.List.{All, AllByRecursion}
use Rattle.std.proofs.lemmas.List.{length-map, map-append}
use Rattle.std.proofs.lemmas.List.Elements.{All-push}
use Rattle.hyd_net.specs.Sound.{IsSound}
use Rattle.hyd_spec.specs.ProgramTypes.{Project}
use Rattle.hyd_spec.specs.Lists.{joined}
use Rattle.hyd_spec.specs.NodeNumbers.{junction_count, tank_count}
use Rattle.hyd_spec_certificates.specs.RecordAndStanding.{Record, Standing}
use Rattle.hyd_spec_certificates.specs.CertificateText.{IsRow, IsCertificateText, record_text, end_line, version_of}
use Rattle.hyd_spec_flows.specs.FlowTexts.{Entry, IsTextWithFlows}
use Rattle.hyd_spec_reports.specs.PromisesOfRunsAndChecks.{Found, IsRun, rows_of}
use Rattle.hyd_spec_reports_with_flows.specs.PromisesWithFlows.{FoundNaming, IsFoundNaming, founds_in, entry_of}
use Rattle.hyd_spec_reports_with_flows.specs.PromisesWithFlows.{entries_of, BeginsWithEntries}
use Rattle.hyd_spec_witness_answers.specs.PromisesOfWitnesses.{IsCertificateOf, BeginsCertificateOf}
use Rattle.hyd_cert.specs.Lines.{header_text, header_words}
use Rattle.hyd_cert.specs.ReaderWithFlows.{as_read}
use Rattle.hyd_cert.proofs.CertificatesLineByLine.{whole_reading}
use Rattle.hyd_lemmas.proofs.ListsOptionsAndResults.{join-more, all-more}
use Rattle.hyd_sim.specs.RunView.{header_for}
use Rattle.hyd_theorems_on_flow_texts.proofs.FaultsInEntries.{whole_text}
use Rattle.hyd_theorems_on_runs.proofs.OnePeriodMore.{run_more}
use Rattle.hyd_cert_check.specs.ReaderAndPen.{CheckMoment}
use Rattle.hyd_cert_check.specs.RecordByRecord.{coming, entry_as_read, IsEntryAsRead, IsSoFar, IsStep, IsRead, IsEnd}
use Rattle.hyd_cert_check.proofs.TextLemmas.{founds-more, entries-more, plain-text, plain-fit, flows-fit, few-junctions}
use Rattle.hyd_cert_check.proofs.TextLemmas.{few-tanks, own-header}
use Rattle.hyd_cert_check.proofs.ReadLemmas.{read-more, last-text, fit-kept, BeginsAsRead, behind-more, begins-as-read}
use Rattle.hyd_cert_check.proofs.PlainConclusions as plain
use Rattle.hyd_cert_check.proofs.ConclusionsWithFlows as flows

by-value : (b : Bool) (P : Type 0) → (b ≡ true → P) → (b ≡ false → P) → P
by-value true P has_flows has_none = has_flows refl
by-value false P has_flows has_none = has_none refl

module _ (project : Project) (sound : IsSound project) (left : Standing) (start at : CheckMoment)
    (so : IsSoFar project left start at) (text : List ℕ) (told : coming start ≡ Some text) where
  abbrev n : ℕ
  n = junction_count project

  abbrev k : ℕ
  k = tank_count project

  abbrev all : List Entry
  all = entries_of so.namings

  fit-as : (flag other : Bool) → flag ≡ other → All (IsEntryAsRead flag n k) all → All (IsEntryAsRead other n k) all
  fit-as flag other e fit = subst (λ (f : Bool). All (IsEntryAsRead f n k) all) e fit

  abbrev text-as : Bool → List ℕ → List ℕ
  text-as flag tail =
      header_text (as_read flag (header_for project)) ++ (joined (map (entry_as_read flag) all) ++ tail)

  -- ---- its END line was read

  module _ (now : CheckMoment) (finished : Bool) (end : IsEnd project left.number finished at now)
      (same : finished ≡ left.finished) where
    whole-is : (flag : Bool) → now.reader.flows ≡ flag → text ≡ text-as flag (end_line left.number finished)
    whole-is flag e =
        subst (λ (f : Bool). text ≡ text-as f (end_line left.number finished)) e
        (last-text project sound start all at now at.told.rest (end_line left.number finished) text so.read end.keeps
        end.text told)

    fit-at : All (IsEntryAsRead now.reader.flows n k) all
    fit-at = fit-kept project sound start all at now so.read end.keeps so.fit

    has-flows : now.reader.flows ≡ true → IsCertificateOf project text left (founds_in so.namings)
    has-flows e =
        let whole : IsTextWithFlows text n k all left.number finished =
        whole_text n k (few-junctions project sound) (few-tanks project sound) text all left.number finished
        (flows-fit n k all (fit-as now.reader.flows true e fit-at)) end.fits (whole-is true e) in
        IsCertificateOf.with_flows so.namings so.is_run so.parts
        (subst (λ (m : ℕ). IsTextWithFlows text n k all m left.finished) (sym so.each)
        (subst (λ (b : Bool). IsTextWithFlows text n k all left.number b) same whole))

    has-none : now.reader.flows ≡ false → IsCertificateOf project text left (founds_in so.namings)
    has-none e =
        let fit = fit-as now.reader.flows false e fit-at in
        let whole : IsCertificateText text (version_of project) n k (rows_of (founds_in so.namings)) left.number
        finished =
        whole_reading (header_for project) (header_words (header_for project)) text (rows_of (founds_in so.namings))
        left.number finished (own-header project sound) (plain-fit n k so.namings fit) end.fits
        (plain.text-is project sound left so.namings so.is_run so.parts fit text (end_line left.number finished)
        (whole-is false e)) in
        let many : length (founds_in so.namings) ≡ left.number =
        length-map so.namings (λ (naming : FoundNaming). naming.found) ∙ so.each in
        IsCertificateOf.without_flows so.is_run
        (subst (λ (m : ℕ). IsCertificateText text (version_of project) n k (rows_of (founds_in so.namings)) m
        left.finished) (sym many)
        (subst (λ (b : Bool). IsCertificateText text (version_of project) n k (rows_of (founds_in so.namings))
        left.number b) same whole))

    pub certificate-there : IsCertificateOf project text left (founds_in so.namings)
    certificate-there =
        by-value now.reader.flows (IsCertificateOf project text left (founds_in so.namings)) has-flows has-none

  -- ---- one record more was read

  module _ (now : CheckMoment) (next : Standing) (naming : FoundNaming) (step : IsStep project left next naming.found)
      (part : IsFoundNaming project naming) (read : IsRead (header_for project) (entry_of naming) at now) where
    abbrev namings-with : List FoundNaming
    namings-with = so.namings ++ (naming ∷ [])

    fit-before : All (IsEntryAsRead now.reader.flows n k) all
    fit-before = fit-kept project sound start all at now so.read read.keeps so.fit

    begins-with-it : BeginsAsRead project now.reader.flows (all ++ (entry_of naming ∷ [])) text
    begins-with-it =
        begins-as-read project now (all ++ (entry_of naming ∷ [])) text
        (behind-more project start now all (entry_of naming) text
        (read-more project sound start all (entry_of naming) at now so.read read) told)

    begins-before : (flag : Bool) → BeginsAsRead project flag (all ++ (entry_of naming ∷ [])) text
        → BeginsAsRead project flag all text
    begins-before flag b = record {
      unread = entry_as_read flag (entry_of naming) ++ b.unread;
      is_text = b.is_text ∙ ap (λ (t : List ℕ). header_text (as_read flag (header_for project)) ++ t)
          (ap (λ (t : List ℕ). t ++ b.unread) (join-more (entry_as_read flag) all (entry_of naming))
          ∙ append_assoc (joined (map (entry_as_read flag) all)) (entry_as_read flag (entry_of naming)) b.unread);
    }

    as-flag : (flag : Bool) → now.reader.flows ≡ flag
        → BeginsAsRead project flag (all ++ (entry_of naming ∷ [])) text
    as-flag flag e =
        subst (λ (f : Bool). BeginsAsRead project f (all ++ (entry_of naming ∷ [])) text) e begins-with-it

    run-before : IsRun project (founds_in so.namings) naming.found.standing
    run-before = subst (λ (s : Standing). IsRun project (founds_in so.namings) s) (sym step.begins) so.is_run

    run-with : IsRun project (founds_in so.namings ++ (naming.found ∷ [])) naming.found.next
    run-with = run_more project (founds_in so.namings) left naming.found so.is_run step.begins step.is_found

    run-of-all : IsRun project (founds_in namings-with) naming.found.next
    run-of-all =
        subst (λ (founds : List Found). IsRun project founds naming.found.next) (sym (founds-more so.namings naming))
        run-with

    parts-with : AllByRecursion (IsFoundNaming project) namings-with
    parts-with = all-more (IsFoundNaming project) so.namings naming so.parts part

    -- the records before it
    pub before-there : BeginsCertificateOf project text naming.found.standing (founds_in so.namings)
    before-there =
        by-value now.reader.flows (BeginsCertificateOf project text naming.found.standing (founds_in so.namings))
        (λ e. (let b = begins-before true (as-flag true e) in
        BeginsCertificateOf.with_flows so.namings run-before so.parts (record {
          entries_fit = flows-fit n k all (fit-as now.reader.flows true e fit-before);
          unread = b.unread;
          is_text = b.is_text;
        })))
        (λ e. (let b = begins-before false (as-flag false e) in
        let fit = fit-as now.reader.flows false e fit-before in
        BeginsCertificateOf.without_flows run-before (plain-fit n k so.namings fit) b.unread
        (plain.text-is project sound left so.namings so.is_run so.parts fit text b.unread b.is_text)))

    -- and it
    pub with-it-there : BeginsCertificateOf project text naming.found.next
        (founds_in so.namings ++ (naming.found ∷ []))
    with-it-there =
        by-value now.reader.flows
        (BeginsCertificateOf project text naming.found.next (founds_in so.namings ++ (naming.found ∷ [])))
        with-flows without-flows
      where
        with-flows : now.reader.flows ≡ true → BeginsCertificateOf project text naming.found.next
            (founds_in so.namings ++ (naming.found ∷ []))
        with-flows e =
            subst (BeginsCertificateOf project text naming.found.next) (founds-more so.namings naming)
            (BeginsCertificateOf.with_flows namings-with run-of-all parts-with
            (subst (BeginsWithEntries project text) (sym (entries-more so.namings naming))
            (flows.begins-with project sound left so.namings so.is_run so.parts
            (fit-as now.reader.flows true e fit-before) text (entry_of naming)
            (subst (λ (f : Bool). IsEntryAsRead f n k (entry_of naming)) e read.fits) (as-flag true e))))

        without-flows : now.reader.flows ≡ false → BeginsCertificateOf project text naming.found.next
            (founds_in so.namings ++ (naming.found ∷ []))
        without-flows e =
            let b = as-flag false e in
            let row : Record = naming.found.row in
            let before = joined (map record_text (rows_of (founds_in so.namings))) in
            let founds = founds_in so.namings ++ (naming.found ∷ []) in
            let rows : rows_of founds ≡ rows_of (founds_in so.namings) ++ (row ∷ []) =
            map-append (λ (found : Found). found.row) (founds_in so.namings) (naming.found ∷ []) in
            let more : joined (map (entry_as_read false) (all ++ (entry_of naming ∷ [])))
            ≡ joined (map record_text (rows_of (founds_in so.namings) ++ (row ∷ []))) =
            join-more (entry_as_read false) all (entry_of naming)
            ∙ (ap (λ (t : List ℕ). t ++ (record_text row ++ [])) (plain-text so.namings)
            ∙ (ap (λ (t : List ℕ). before ++ t) (append-nil (record_text row))
            ∙ sym (join-more record_text (rows_of (founds_in so.namings)) row))) in
            BeginsCertificateOf.without_flows run-with
            (subst (All (IsRow n k)) (sym rows)
            (All-push (IsRow n k) (rows_of (founds_in so.namings)) row
            (plain-fit n k so.namings (fit-as now.reader.flows false e fit-before)) read.fits.row)) b.unread
            (b.is_text
            ∙ (ap (λ (t : List ℕ). header_text (header_for project) ++ (t ++ b.unread)) more
            ∙ ap (λ (rs : List Record). header_text (header_for project) ++ (joined (map record_text rs) ++ b.unread))
            (sym rows)))
