-- Runs that name links as far as they have gone, and what is put out of them.
use Rattle.std.proofs.Common.{◌≡◌, ℕ, ◌<◌, ◌^◌, List, [], ◌∷◌, ◌++◌, length, length-append, map, Some, None}
use Rattle.std.proofs.Common.{refl, sym, ap, subst, ◌∙◌, arith, append-nil, append_assoc, inl, inr}
use Rattle.std.specs.Prelude.{All}
use Rattle.std.specs.List.{AllByRecursion}
use Rattle.std.proofs.lemmas.List.{map-append}
use Rattle.std.proofs.lemmas.List.Elements.{All-push}
use Rattle.hyd_net.specs.Sound.{IsSound}
use Rattle.hyd_spec.specs.ProgramTypes.{Project}
use Rattle.hyd_spec.specs.Lists.{joined}
use Rattle.hyd_spec.specs.NodeNumbers.{junction_count, tank_count}
use Rattle.hyd_spec_certificates.specs.RecordAndStanding.{Standing, initial_standing}
use Rattle.hyd_spec_certificates.specs.CertificateText.{end_line, header_line}
use Rattle.hyd_spec_reports.specs.PromisesOfRunsAndChecks.{Found, IsRun, IsRunFrom, IsSharpFound, Outcome, EndsSo}
use Rattle.hyd_spec_reports.specs.PromisesOfRunsAndChecks.{last_line, is_finished}
use Rattle.hyd_spec_flows.specs.FlowTexts.{Entry, IsEntry, IsTextWithFlows, flows_version, entry_text}
use Rattle.hyd_spec_reports_with_flows.specs.PromisesWithFlows.{FoundNaming, IsFoundNaming, NamesSharply, founds_in}
use Rattle.hyd_spec_reports_with_flows.specs.PromisesWithFlows.{entry_of}
use Rattle.hyd_spec_reports_with_flows.specs.PromisesWithFlows.{entries_of, period_text, certificate_so_far_naming}
use Rattle.hyd_spec_reports_with_flows.specs.PromisesWithFlows.{report_so_far_naming}
use Rattle.hyd_lemmas.proofs.ListsOptionsAndResults.{join-more, all-more}
use Rattle.hyd_theorems_on_definitions.proofs.CertificateLines.{header-short}
use Rattle.hyd_theorems_on_flows.proofs.FlowsOfHistories.{every_flow}
use Rattle.hyd_io.specs.declared.output.OutFault.{OutFault}
use Rattle.hyd_sim.specs.declared.settings.Settings.{Settings}
use Rattle.hyd_sim.specs.RunView.{SimView, standing_of}
use Rattle.hyd_run.specs.Pens.{RunMoment, PutIn, IsCutOff, IsCutInOrder, IsCutAtEnd}
use Rattle.hyd_run.specs.Runs.{sharpness_of, first_line, EndNames, IsOver}
use Rattle.hyd_run.proofs.PenLemmas.{put-then, cut-off-then}
use Rattle.hyd_run.proofs.RunLemmas.{put-as, cut-off-as, out-and-held, cut-at-end-in-order, cut-while-emptied}
use Rattle.hyd_run.proofs.RunLemmas.{run-with, moved-whole}
use Rattle.hyd_run_naming_flows.specs.NamingRuns.{AreNamings, AreEntries, IsStepNaming, IsSoFarNaming, IsWholeNaming}
use Rattle.hyd_run_naming_flows.specs.NamingRuns.{IsCutShortNaming, IsPutOutNaming, IsBrokenOffNaming}
use Rattle.hyd_run_naming_flows.specs.NamingRuns.{DidPeriodNaming, LostPeriodNaming}

-- ---- texts

-- a text of pieces with one piece more
text-more : {X : Type 0} (piece : X → List ℕ) (head : List ℕ) (xs : List X) (x : X)
    → (head ++ (joined (map piece xs) ++ [])) ++ piece x ≡ head ++ (joined (map piece (xs ++ (x ∷ []))) ++ [])
text-more piece head xs x =
    let all = joined (map piece xs) in
    ap (λ (ys : List ℕ). (head ++ ys) ++ piece x) (append-nil all)
    ∙ (append_assoc head all (piece x)
    ∙ ap (λ (ys : List ℕ). head ++ ys) (sym (append-nil (joined (map piece (xs ++ (x ∷ [])))) ∙ join-more piece xs x)))

-- and with its last line
text-last : (head all last : List ℕ) → (head ++ (all ++ [])) ++ last ≡ head ++ (all ++ last)
text-last head all last =
    ap (λ (ys : List ℕ). (head ++ ys) ++ last) (append-nil all) ∙ append_assoc head all last

founds-more : (namings : List FoundNaming) (naming : FoundNaming)
    → founds_in (namings ++ (naming ∷ [])) ≡ founds_in namings ++ (naming.found ∷ [])
founds-more namings naming = map-append (λ (n : FoundNaming). n.found) namings (naming ∷ [])

entries-more : (namings : List FoundNaming) (naming : FoundNaming)
    → entries_of (namings ++ (naming ∷ [])) ≡ entries_of namings ++ (entry_of naming ∷ [])
entries-more namings naming = map-append entry_of namings (naming ∷ [])

abbrev header-of : Project → List ℕ
header-of project = header_line flows_version (junction_count project) (tank_count project)

certificate-more : (project : Project) (namings : List FoundNaming) (naming : FoundNaming)
    → certificate_so_far_naming project namings None ++ entry_text (entry_of naming)
    ≡ certificate_so_far_naming project (namings ++ (naming ∷ [])) None
certificate-more project namings naming =
    text-more entry_text (header-of project) (entries_of namings) (entry_of naming)
    ∙ ap (λ (es : List Entry). header-of project ++ (joined (map entry_text es) ++ []))
    (sym (entries-more namings naming))

report-more : (project : Project) (left next : Standing) (namings : List FoundNaming) (naming : FoundNaming)
    → report_so_far_naming project left namings None ++ period_text project naming
    ≡ report_so_far_naming project next (namings ++ (naming ∷ [])) None
report-more project left next namings naming = text-more (period_text project) first_line namings naming

certificate-last : (project : Project) (namings : List FoundNaming) (outcome : Outcome)
    → certificate_so_far_naming project namings None ++ end_line (length namings) (is_finished outcome)
    ≡ certificate_so_far_naming project namings (Some outcome)
certificate-last project namings outcome =
    text-last (header-of project) (joined (map entry_text (entries_of namings)))
    (end_line (length namings) (is_finished outcome))

report-last : (project : Project) (left : Standing) (namings : List FoundNaming) (outcome : Outcome)
    → report_so_far_naming project left namings None ++ last_line project left (length namings) outcome
    ≡ report_so_far_naming project left namings (Some outcome)
report-last project left namings outcome =
    text-last first_line (joined (map (period_text project) namings))
    (last_line project left (length namings) outcome)

-- ---- a run so far

-- with one period more
namings-with : (project : Project) (settings : Settings) (named : List ℕ) (namings : List FoundNaming)
    (left next : Standing) (naming : FoundNaming) → IsStepNaming project settings named left next naming
    → AreNamings project settings named namings left
    → AreNamings project settings named (namings ++ (naming ∷ [])) next
namings-with project settings named namings left next naming step are =
    let same = sym (founds-more namings naming) in
    record {
      is_run = subst (λ (fs : List Found). IsRun project fs next) same
          (run-with project (founds_in namings) left next (sharpness_of settings) naming.found step.step are.is_run);
      parts = all-more (IsFoundNaming project) namings naming are.parts step.is_found;
      names = all-more (NamesSharply settings.rounds named) namings naming are.names step.names;
      sharp = subst (AllByRecursion (IsSharpFound project (sharpness_of settings))) same
          (all-more (IsSharpFound project (sharpness_of settings)) (founds_in namings) naming.found are.sharp
          step.step.sharp);
    }

entries-with : (project : Project) (settings : Settings) (named : List ℕ) (namings : List FoundNaming)
    (left next : Standing) (naming : FoundNaming) → IsStepNaming project settings named left next naming
    → AreEntries project namings → AreEntries project (namings ++ (naming ∷ []))
entries-with project settings named namings left next naming step fit =
    subst (All (IsEntry (junction_count project) (tank_count project))) (sym (entries-more namings naming))
    (All-push (IsEntry (junction_count project) (tank_count project)) (entries_of namings) (entry_of naming) fit
    (record { row = step.step.fits; part = step.fits }))

none-yet : (project : Project) (settings : Settings) (named : List ℕ)
    → AreNamings project settings named [] (initial_standing project)
none-yet project settings named = record { is_run = IsRunFrom.none; parts = tt; names = tt; sharp = tt }

pub so-far-begins : (project : Project) (settings : Settings) (named : List ℕ) (before now : RunMoment)
    → PutIn (header-of project) first_line before now
    → IsSoFarNaming project settings named (initial_standing project) before now
so-far-begins project settings named before now put = record {
  namings = [];
  are = none-yet project settings named;
  fit = λ k d inside. absurd (omega (arith, inside));
  each = refl;
  put = put-as _ _ _ _ before now (sym (append-nil (header-of project))) (sym (append-nil first_line)) put;
}

so-far-more : (project : Project) (settings : Settings) (named : List ℕ) (left next : Standing)
    (start before now : RunMoment) (naming : FoundNaming) → IsStepNaming project settings named left next naming
    → PutIn (entry_text (entry_of naming)) (period_text project naming) before now
    → IsSoFarNaming project settings named left start before → IsSoFarNaming project settings named next start now
so-far-more project settings named left next start before now naming step put so_far = record {
  namings = so_far.namings ++ (naming ∷ []);
  are = namings-with project settings named so_far.namings left next naming step so_far.are;
  fit = entries-with project settings named so_far.namings left next naming step so_far.fit;
  each = (let l = length-append so_far.namings (naming ∷ []) in let e = so_far.each in let n = step.step.number in
      omega (arith, l, e, n));
  put = put-as _ _ _ _ start now (certificate-more project so_far.namings naming)
      (report-more project left next so_far.namings naming) (put-then _ _ _ _ start before now so_far.put put);
}

so-far-cut-off : (project : Project) (settings : Settings) (named : List ℕ) (fault : OutFault)
    (left next : Standing) (start before now : RunMoment) (naming : FoundNaming)
    → IsStepNaming project settings named left next naming
    → IsCutInOrder fault (entry_text (entry_of naming)) (period_text project naming) before now
    → IsSoFarNaming project settings named left start before
    → IsCutShortNaming project settings named fault start now
so-far-cut-off project settings named fault left next start before now naming step cut so_far =
    let namings = so_far.namings ++ (naming ∷ []) in
    let off = cut-off-as fault _ _ _ _ start now (certificate-more project so_far.namings naming)
    (report-more project left next so_far.namings naming)
    (cut-off-then fault _ _ _ _ start before now so_far.put cut.cut_off) in
    record {
      namings = namings;
      left = next;
      are = namings-with project settings named so_far.namings left next naming step so_far.are;
      last = None;
      ends_so = tt;
      names = tt;
      cut_off = off;
      in_order = λ c r. inl (
        off.printed.0,
        out-and-held start.report.held (report_so_far_naming project next namings None) off.printed.1.front
            off.printed.0 r off.printed.1.whole,
      );
    }

pub first-cut-short : (project : Project) (settings : Settings) (named : List ℕ) (fault : OutFault)
    (before now : RunMoment) → IsCutInOrder fault (header-of project) first_line before now
    → IsCutShortNaming project settings named fault before now
first-cut-short project settings named fault before now cut =
    let off = cut-off-as fault _ _ _ _ before now (sym (append-nil (header-of project))) (sym (append-nil first_line))
    cut.cut_off in
    record {
      namings = [];
      left = initial_standing project;
      are = none-yet project settings named;
      last = None;
      ends_so = tt;
      names = tt;
      cut_off = off;
      in_order = λ c r. inl (
        off.printed.0,
        out-and-held before.report.held (report_so_far_naming project (initial_standing project) [] None)
            off.printed.1.front off.printed.0 r off.printed.1.whole,
      );
    }

-- ---- its end

pub is-whole : (project : Project) (settings : Settings) (named : List ℕ) (outcome : Outcome) (left : Standing)
    (start before now : RunMoment) (records : ℕ) → records ≡ left.number → records < 2 ^ 32
    → EndsSo project left settings.rounds outcome → EndNames project left settings.rounds outcome
    → PutIn (end_line records (is_finished outcome)) (last_line project left records outcome) before now
    → now.certificate.held ≡ [] → IsSoFarNaming project settings named left start before
    → IsWholeNaming project settings named outcome start now
is-whole project settings named outcome left start before now records counted few ends names put emptied so_far =
    let same : records ≡ length so_far.namings = counted ∙ sym so_far.each in
    record {
      namings = so_far.namings;
      left = left;
      are = so_far.are;
      fit = so_far.fit;
      few = subst (λ (n : ℕ). n < 2 ^ 32) same few;
      ends_so = ends;
      names = names;
      emptied = emptied;
      put = put-as _ _ _ _ start now (certificate-last project so_far.namings outcome)
          (report-last project left so_far.namings outcome) (put-then _ _ _ _ start before now so_far.put
          (subst (λ (n : ℕ). PutIn (end_line n (is_finished outcome)) (last_line project left n outcome) before now)
          same put));
    }

pub last-cut-short : (project : Project) (settings : Settings) (named : List ℕ) (fault : OutFault)
    (outcome : Outcome) (left : Standing) (start before now : RunMoment) (records : ℕ) → records ≡ left.number
    → EndsSo project left settings.rounds outcome → EndNames project left settings.rounds outcome
    → IsCutAtEnd fault (end_line records (is_finished outcome)) (last_line project left records outcome) before now
    → IsSoFarNaming project settings named left start before
    → IsCutShortNaming project settings named fault start now
last-cut-short project settings named fault outcome left start before now records counted ends names at_end so_far =
    let same : records ≡ length so_far.namings = counted ∙ sym so_far.each in
    let cut : IsCutAtEnd fault (end_line (length so_far.namings) (is_finished outcome))
    (last_line project left (length so_far.namings) outcome) before now =
    subst (λ (n : ℕ). IsCutAtEnd fault (end_line n (is_finished outcome)) (last_line project left n outcome)
    before now) same at_end in
    record {
      namings = so_far.namings;
      left = left;
      are = so_far.are;
      last = Some outcome;
      ends_so = ends;
      names = names;
      cut_off = cut-off-as fault _ _ _ _ start now (certificate-last project so_far.namings outcome)
          (report-last project left so_far.namings outcome)
          (cut-off-then fault _ _ _ _ start before now so_far.put cut.cut_off);
      in_order = λ c r. (elim (cut-at-end-in-order fault _ _ start before now c so_far.put _ _ r cut) [
        | inl some ↦ inl some
        | inr all ↦ inr (all ∙ certificate-last project so_far.namings outcome)
      ]);
    }

-- the pens are emptied, or a fault cuts that off
pub whole-emptied : (project : Project) (settings : Settings) (named : List ℕ) (outcome : Outcome)
    (start before now : RunMoment) → IsWholeNaming project settings named outcome start before
    → PutIn [] [] before now → now.certificate.held ≡ [] → IsWholeNaming project settings named outcome start now
whole-emptied project settings named outcome start before now whole put emptied = record {
  namings = whole.namings;
  left = whole.left;
  are = whole.are;
  fit = whole.fit;
  few = whole.few;
  ends_so = whole.ends_so;
  names = whole.names;
  put = put-as _ _ _ _ start now (append-nil _) (append-nil _) (put-then _ _ _ _ start before now whole.put put);
  emptied = emptied;
}

pub whole-cut-off : (project : Project) (settings : Settings) (named : List ℕ) (fault : OutFault) (outcome : Outcome)
    (start before now : RunMoment) → IsWholeNaming project settings named outcome start before
    → IsCutOff fault [] [] before now → IsCutShortNaming project settings named fault start now
whole-cut-off project settings named fault outcome start before now whole cut_off = record {
  namings = whole.namings;
  left = whole.left;
  are = whole.are;
  last = Some outcome;
  ends_so = whole.ends_so;
  names = whole.names;
  cut_off = cut-off-as fault _ _ _ _ start now (append-nil _) (append-nil _)
      (cut-off-then fault _ _ _ _ start before now whole.put cut_off);
  in_order = λ c r. inr (cut-while-emptied fault _ _ start before now c whole.put whole.emptied cut_off);
}

-- ---- what is put out

text-is : (project : Project) → IsSound project → (namings : List FoundNaming) (outcome : Outcome)
    → AreEntries project namings → length namings < 2 ^ 32
    → IsTextWithFlows (certificate_so_far_naming project namings (Some outcome)) (junction_count project)
    (tank_count project) (entries_of namings) (length namings) (is_finished outcome)
text-is project sound namings outcome fit few =
    let n : junction_count project < 2 ^ 32 = (let le = sound.counts.junctions in omega (arith, le)) in
    let k : tank_count project < 2 ^ 32 = (let le = sound.counts.tanks in omega (arith, le)) in
    record {
      junctions_fit = omega (arith, n);
      tanks_fit = omega (arith, k);
      header_fits = header-short flows_version (junction_count project) (tank_count project) (omega arith) n k;
      entries_fit = fit;
      periods_fit = few;
      is_text = refl;
    }

pub put-out : (project : Project) (settings : Settings) (named : List ℕ) (outcome : Outcome) (start now : RunMoment)
    → IsSound project
    → start.certificate.held ≡ [] → start.report.held ≡ [] → now.certificate.held ≡ [] → now.report.held ≡ []
    → IsWholeNaming project settings named outcome start now
    → IsPutOutNaming project settings named outcome start.told now.told
put-out project settings named outcome start now sound c r c' r' whole =
    let a = certificate_so_far_naming project whole.namings (Some outcome) in
    let b = report_so_far_naming project whole.left whole.namings (Some outcome) in
    record {
      certificate = a;
      report = b;
      writes = record {
        namings = whole.namings;
        left = whole.left;
        is_run = whole.are.is_run;
        parts = whole.are.parts;
        names = whole.are.names;
        sharp = whole.are.sharp;
        ends_so = whole.ends_so;
        certificate = text-is project sound whole.namings outcome whole.fit whole.few;
        report = refl;
        every_history = every_flow project sound whole.namings whole.left whole.are.is_run whole.are.parts;
      };
      names = whole.names;
      written = moved-whole start.told.written now.told.written start.certificate.held a now.certificate.held c c'
          whole.put.written;
      printed = moved-whole start.told.printed now.told.printed start.report.held b now.report.held r r'
          whole.put.printed;
    }

pub broken-off : (project : Project) (settings : Settings) (named : List ℕ) (fault : OutFault)
    (start now : RunMoment) → IsSound project → start.certificate.held ≡ [] → start.report.held ≡ []
    → IsCutShortNaming project settings named fault start now
    → IsBrokenOffNaming project settings named start.told now.told
broken-off project settings named fault start now sound c r short =
    let w = short.cut_off.written in
    let p = short.cut_off.printed in
    record {
      certificate = w.1.front;
      report = p.1.front;
      breaks_off = record {
        namings = short.namings;
        left = short.left;
        is_run = short.are.is_run;
        parts = short.are.parts;
        names = short.are.names;
        sharp = short.are.sharp;
        last = short.last;
        ends_so = short.ends_so;
        unwritten = w.0;
        front_of_certificate = sym w.1.whole
            ∙ ap (λ (xs : List ℕ). xs ++ certificate_so_far_naming project short.namings short.last) c;
        unprinted = p.0;
        front_of_report = sym p.1.whole
            ∙ ap (λ (xs : List ℕ). xs ++ report_so_far_naming project short.left short.namings short.last) r;
        every_history = every_flow project sound short.namings short.left short.are.is_run short.are.parts;
      };
      names = short.names;
      in_order = short.in_order c r;
      written = w.1.out;
      printed = p.1.out;
    }

-- ---- steps of one run

module _ (project : Project) (settings : Settings) (named names : List ℕ) (before now : SimView)
    (start m n : RunMoment) (of : now.project ≡ project) (same : now.settings ≡ settings) (as_named : names ≡ named)
  where
    -- a step, as one of the run
    step-as : (naming : FoundNaming)
        → IsStepNaming now.project now.settings names (standing_of before) (standing_of now) naming
        → IsStepNaming project settings named (standing_of before) (standing_of now) naming
    step-as naming step =
        subst (λ (p : Project). IsStepNaming p settings named (standing_of before) (standing_of now) naming) of
        (subst (λ (s : Settings). IsStepNaming now.project s named (standing_of before) (standing_of now) naming) same
        (subst (λ (ns : List ℕ). IsStepNaming now.project now.settings ns (standing_of before) (standing_of now) naming)
        as_named step))

    pub steps-more : DidPeriodNaming names before now m n
        → IsSoFarNaming project settings named (standing_of before) start m
        → IsSoFarNaming project settings named (standing_of now) start n
    steps-more did so_far =
        so-far-more project settings named (standing_of before) (standing_of now) start m n did.naming
        (step-as did.naming did.step)
        (subst (λ (p : Project). PutIn (entry_text (entry_of did.naming)) (period_text p did.naming) m n) of did.put)
        so_far

    pub steps-cut-off : (fault : OutFault) → LostPeriodNaming names fault before now m n
        → IsSoFarNaming project settings named (standing_of before) start m
        → IsCutShortNaming project settings named fault start n
    steps-cut-off fault lost so_far =
        so-far-cut-off project settings named fault (standing_of before) (standing_of now) start m n lost.naming
        (step-as lost.naming lost.step)
        (subst (λ (p : Project). IsCutInOrder fault (entry_text (entry_of lost.naming)) (period_text p lost.naming) m n)
        of lost.cut_off) so_far

pub steps-over : (project : Project) (settings : Settings) (named : List ℕ) (outcome : Outcome)
    (before now : SimView) (start m n : RunMoment) → IsOver outcome before now m n
    → IsSoFarNaming project settings named (standing_of before) start m
    → IsSoFarNaming project settings named (standing_of now) start n
steps-over project settings named outcome before now start m n over so_far =
    subst (λ (s : Standing). IsSoFarNaming project settings named s start n) (sym over.stays)
    (subst (λ (x : RunMoment). IsSoFarNaming project settings named (standing_of before) start x) (sym over.nothing)
    so_far)
