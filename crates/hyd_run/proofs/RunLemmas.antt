-- Runs as far as they have gone, and what is put out of them.
use Rattle.std.proofs.Common.{◌≡◌, ℕ, ◌<◌, ◌^◌, List, [], ◌∷◌, ◌++◌, length, length-append, map, Option, Some, None}
use Rattle.std.proofs.Common.{refl, sym, ap, subst, ◌∙◌, arith, append-nil, append_assoc, Bool, true, false, inl, inr}
use Rattle.std.specs.Prelude.{All, if◌then◌else◌, ◌≤◌, ◌⊎◌}
use Rattle.std.proofs.lemmas.List.Elements.{All-push}
use Rattle.hyd_net.specs.Sound.{IsSound}
use Rattle.hyd_spec.specs.ProgramTypes.{Project}
use Rattle.hyd_spec.specs.Lists.{joined}
use Rattle.hyd_spec.specs.NodeNumbers.{junction_count, tank_count}
use Rattle.hyd_spec_certificates.specs.RecordAndStanding.{Standing, initial_standing}
use Rattle.hyd_spec_certificates.specs.CertificateText.{IsRow, IsCertificateText, record_text, end_line, header_line}
use Rattle.hyd_spec_certificates.specs.CertificateText.{version_of}
use Rattle.hyd_spec_reports.specs.ReportLine.{line_text}
use Rattle.hyd_spec_reports.specs.PromisesOfRunsAndChecks.{Found, IsRun, IsRunFrom, Sharpness, IsSharpFound, Outcome}
use Rattle.hyd_spec_reports.specs.PromisesOfRunsAndChecks.{EndsSo, rows_of, lines_of, last_line, is_finished}
use Rattle.hyd_spec_reports.specs.PromisesOfRunsAndChecks.{certificate_so_far, report_so_far}
use Rattle.std.proofs.lemmas.List.{map-append}
use Rattle.hyd_lemmas.proofs.ListsOptionsAndResults.{join-append, join-more, all-more}
use Rattle.hyd_theorems_on_runs.proofs.OnePeriodMore.{run_more}
use Rattle.hyd_theorems_on_runs.proofs.HistoriesAlongRuns.{every_history}
use Rattle.hyd_cert.specs.Lines.{Header, header_words}
use Rattle.hyd_cert.proofs.HeadLemmas.{header_is}
use Rattle.hyd_cert.proofs.CertificatesLineByLine.{whole_reading}
use Rattle.hyd_report.specs.NodeAndLinkLines.{texts}
use Rattle.hyd_io.specs.declared.output.OutFault.{OutFault}
use Rattle.hyd_io.specs.DeskBytes.{append_known, Moves, PutOut}
use Rattle.hyd_io.proofs.MovedBytesLemmas.{moves_whole}
use Rattle.hyd_sim.specs.declared.settings.Settings.{Settings}
use Rattle.hyd_run.specs.Pens.{RunMoment, PutIn, IsCutOff, IsCutInOrder, IsCutAtEnd}
use Rattle.hyd_run.specs.Runs.{sharpness_of, first_line, IsStep, IsSoFar, IsWhole, IsCutShort, IsPutOut, IsBrokenOff}
use Rattle.hyd_run.specs.Runs.{EndNames, EndsInOrder}
use Rattle.hyd_run.proofs.PenLemmas.{put-then, cut-off-then}

-- ---- texts

pub certificate-last : (project : Project) (founds : List Found) (outcome : Outcome)
    → certificate_so_far project founds None ++ end_line (length founds) (is_finished outcome) ≡ certificate_so_far
    project founds (Some outcome)
certificate-last project founds outcome =
    let head = header_line (version_of project) (junction_count project) (tank_count project) in
    let rows = joined (map record_text (rows_of founds)) in
    ap (λ xs. (head ++ xs) ++ end_line (length founds) (is_finished outcome)) (append-nil rows)
    ∙ append_assoc head rows (end_line (length founds) (is_finished outcome))

report-last : (project : Project) (left : Standing) (founds : List Found) (outcome : Outcome)
    → report_so_far project left founds None ++ last_line project left (length founds) outcome ≡ report_so_far
    project left founds (Some outcome)
report-last project left founds outcome =
    let lines = joined (map (line_text project) (lines_of founds)) in
    ap (λ xs. (first_line ++ xs) ++ last_line project left (length founds) outcome) (append-nil lines)
    ∙ append_assoc first_line lines (last_line project left (length founds) outcome)

pub certificate-more : (project : Project) (founds : List Found) (found : Found)
    → certificate_so_far project founds None ++ record_text found.row ≡ certificate_so_far project (founds ++ (found
    ∷ [])) None
certificate-more project founds found =
    let head = header_line (version_of project) (junction_count project) (tank_count project) in
    let rows = joined (map record_text (rows_of founds)) in
    ap (λ xs. (head ++ xs) ++ record_text found.row) (append-nil rows)
    ∙ (append_assoc head rows (record_text found.row)
    ∙ ap (λ xs. head ++ xs) (sym (append-nil (joined (map record_text (rows_of (founds ++ (found ∷ []))))
    ) ∙ (ap (λ rs. joined (map record_text rs)) (map-append (λ (f : Found). f.row) founds (found ∷ []))
    ∙ join-more record_text (rows_of founds) found.row))))

pub lines-more : (founds : List Found) (found : Found) → lines_of (founds ++ (found ∷ [])) ≡ lines_of founds ++
    found.lines
lines-more founds found = join-more (λ (f : Found). f.lines) founds found

pub report-more : (project : Project) (left next : Standing) (founds : List Found) (found : Found)
    → report_so_far project left founds None ++ texts project found.lines ≡ report_so_far project next (founds ++
    (found ∷ [])) None
report-more project left next founds found =
    let lines = joined (map (line_text project) (lines_of founds)) in
    ap (λ xs. (first_line ++ xs) ++ texts project found.lines) (append-nil lines)
    ∙ (append_assoc first_line lines (texts project found.lines)
    ∙ ap (λ xs. first_line ++ xs) (sym (append-nil (joined (map (line_text project) (lines_of (founds ++ (found ∷
    [])))))
    ∙ (ap (λ ls. joined (map (line_text project) ls)) (lines-more founds found)
    ∙ (ap joined (map-append (line_text project) (lines_of founds) found.lines)
    ∙ join-append (map (line_text project) (lines_of founds)) (map (line_text project) found.lines))))))

-- ---- texts put in, in other words

pub put-as : (a b a' b' : List ℕ) (m n : RunMoment) → a ≡ a' → b ≡ b' → PutIn a b m n → PutIn a' b' m n
put-as a b a' b' m n e f put = subst (λ (x : List ℕ). PutIn x b' m n) e (subst (λ (y : List ℕ). PutIn a y m n) f put)

abbrev pub cut-off-as : (why : OutFault) (a b a' b' : List ℕ) (m n : RunMoment) → a ≡ a' → b ≡ b' → IsCutOff why a b m n
    → IsCutOff why a' b' m n
cut-off-as why a b a' b' m n e f cut_off = record {
  written = (
    cut_off.written.0,
    record {
      front = cut_off.written.1.front;
      whole = ap (λ (xs : List ℕ). m.certificate.held ++ xs) (sym e) ∙ cut_off.written.1.whole;
      out = cut_off.written.1.out;
    },
  );
  printed = (
    cut_off.printed.0,
    record {
      front = cut_off.printed.1.front;
      whole = ap (λ (xs : List ℕ). m.report.held ++ xs) (sym f) ∙ cut_off.printed.1.whole;
      out = cut_off.printed.1.out;
    },
  );
  rose = cut_off.rose;
  leaves = cut_off.leaves;
}

-- ---- the order of what went out

-- what went out and what is held are what was put in, where nothing was held before
pub out-and-held : (held a front left : List ℕ) → held ≡ [] → held ++ a ≡ front ++ left → front ++ left ≡ a
out-and-held held a front left e w = sym w ∙ ap (λ (xs : List ℕ). xs ++ a) e

-- nothing is put out of nothing
nothing-out : (front held : List ℕ) → [] ≡ front ++ held → front ≡ []
nothing-out [] held e = refl
nothing-out (c ∷ front) held e = absurd (cc)

module _ (fault : OutFault) (a b : List ℕ) (start before now : RunMoment) (c : start.certificate.held ≡ [])
    (put : PutIn a b start before) where
  -- the last texts were cut off: a front of what was printed before them, or all of the certificate was written
  pub cut-at-end-in-order : (last_c last_r : List ℕ) → start.report.held ≡ []
      → (cut : IsCutAtEnd fault last_c last_r before now)
      → ((unprinted : List ℕ) × ((put.printed.front ++ cut.cut_off.printed.1.front) ++ unprinted ≡ b))
      ⊎ (put.written.front ++ cut.cut_off.written.1.front ≡ a ++ last_c)
  cut-at-end-in-order last_c last_r r cut = elim cut.in_order [
    | inl nothing ↦ (let printed = put.printed.front in
        inl (
          before.report.held,
          ap (λ (xs : List ℕ). (printed ++ xs) ++ before.report.held) nothing
              ∙ (ap (λ (xs : List ℕ). xs ++ before.report.held) (append-nil printed)
              ∙ out-and-held start.report.held b printed before.report.held r put.printed.whole),
        ))
    | inr all ↦ (let written = put.written.front in
        inr (ap (λ (xs : List ℕ). written ++ xs) all
        ∙ (sym (append_assoc written before.certificate.held last_c)
        ∙ ap (λ (xs : List ℕ). xs ++ last_c) (out-and-held start.certificate.held a written before.certificate.held c
        put.written.whole))))
  ]

  -- the pens were being emptied, when the certificate's held nothing: all of the certificate was written
  pub cut-while-emptied : before.certificate.held ≡ [] → (cut : IsCutOff fault [] [] before now)
      → put.written.front ++ cut.written.1.front ≡ a
  cut-while-emptied emptied cut =
      let written = put.written.front in
      let none : cut.written.1.front ≡ [] = nothing-out cut.written.1.front cut.written.0
      (ap (λ (xs : List ℕ). xs ++ []) (sym emptied) ∙ cut.written.1.whole) in
      ap (λ (xs : List ℕ). written ++ xs) (none ∙ sym emptied)
      ∙ out-and-held start.certificate.held a written before.certificate.held c put.written.whole

module _ (project : Project) (settings : Settings) (outcome : Outcome) (start before now : RunMoment)
    (c : start.certificate.held ≡ []) (r : start.report.held ≡ []) where
  -- the last lines were cut off
  at-end-in-order : (left : Standing) (fault : OutFault)
      (so_far : IsSoFar project (sharpness_of settings) left start before)
      (cut : IsCutAtEnd fault (end_line (length so_far.founds) (is_finished outcome))
      (last_line project left (length so_far.founds) outcome) before now)
      → EndsInOrder project so_far.founds left (Some outcome)
      (so_far.put.written.front ++ cut.cut_off.written.1.front)
      (so_far.put.printed.front ++ cut.cut_off.printed.1.front)
  at-end-in-order left fault so_far cut = elim (cut-at-end-in-order fault _ _ start before now c so_far.put _ _ r cut) [
    | inl some ↦ inl some
    | inr all ↦ inr (all ∙ certificate-last project so_far.founds outcome)
  ]

-- ---- a run so far

-- the run with one period more
pub run-with : (project : Project) (founds : List Found) (left next : Standing) (sharpness : Sharpness) (found : Found)
    → IsStep project sharpness left next found → IsRun project founds left
    → IsRun project (founds ++ (found ∷ [])) next
run-with project founds left next sharpness found step run =
    subst (λ (s : Standing). IsRun project (founds ++ (found ∷ [])) s) step.leaves
    (run_more project founds left found run step.begins step.is_found)

pub rows-with : (project : Project) (founds : List Found) (found : Found)
    → All (IsRow (junction_count project) (tank_count project)) (rows_of founds)
    → IsRow (junction_count project) (tank_count project) found.row
    → All (IsRow (junction_count project) (tank_count project)) (rows_of (founds ++ (found ∷ [])))
rows-with project founds found fit here =
    subst (All (IsRow (junction_count project) (tank_count project))) (sym (map-append (λ (f : Found). f.row) founds
    (found ∷ [])))
    (All-push (IsRow (junction_count project) (tank_count project)) (rows_of founds) found.row fit here)

pub so-far-begins : (project : Project) (sharpness : Sharpness) (before now : RunMoment)
    → PutIn (header_line (version_of project) (junction_count project) (tank_count project)) first_line before now
    → IsSoFar project sharpness (initial_standing project) before now
so-far-begins project sharpness before now put = record {
  founds = [];
  is_run = IsRunFrom.none;
  sharp = tt;
  fit = λ k d inside. absurd (omega (arith, inside));
  each = refl;
  put = put-as _ _ _ _ before now
      (sym (append-nil (header_line (version_of project) (junction_count project) (tank_count project)))) (sym
      (append-nil first_line)) put;
}

pub so-far-more : (project : Project) (sharpness : Sharpness) (left next : Standing) (start before now : RunMoment)
    (found : Found)
    → IsStep project sharpness left next found
    → PutIn (record_text found.row) (texts project found.lines) before now
    → IsSoFar project sharpness left start before → IsSoFar project sharpness next start now
so-far-more project sharpness left next start before now found step put so_far = record {
  founds = so_far.founds ++ (found ∷ []);
  is_run = run-with project so_far.founds left next sharpness found step so_far.is_run;
  sharp = all-more (IsSharpFound project sharpness) so_far.founds found so_far.sharp step.sharp;
  fit = rows-with project so_far.founds found so_far.fit step.fits;
  each = (let l = length-append so_far.founds (found ∷ []) in let e = so_far.each in let n = step.number in omega
      (arith, l, e, n));
  put = put-as _ _ _ _ start now (certificate-more project so_far.founds found) (report-more project left next
      so_far.founds found)
      (put-then _ _ _ _ start before now so_far.put put);
}

pub so-far-cut-off : (project : Project) (settings : Settings) (fault : OutFault) (left next : Standing) (start before
    now : RunMoment) (found : Found)
    → IsStep project (sharpness_of settings) left next found
    → IsCutInOrder fault (record_text found.row) (texts project found.lines) before now
    → IsSoFar project (sharpness_of settings) left start before → IsCutShort project settings fault start now
so-far-cut-off project settings fault left next start before now found step cut so_far =
    let founds = so_far.founds ++ (found ∷ []) in
    let off = cut-off-as fault _ _ _ _ start now (certificate-more project so_far.founds found) (report-more project
    left next so_far.founds found) (cut-off-then fault _ _ _ _ start before now so_far.put cut.cut_off) in
    record {
      founds = founds;
      left = next;
      is_run = run-with project so_far.founds left next (sharpness_of settings) found step so_far.is_run;
      sharp = all-more (IsSharpFound project (sharpness_of settings)) so_far.founds found so_far.sharp step.sharp;
      last = None;
      ends_so = tt;
      names = tt;
      cut_off = off;
      in_order = λ c r. inl (
        off.printed.0,
        out-and-held start.report.held (report_so_far project next founds None) off.printed.1.front off.printed.0 r
            off.printed.1.whole,
      );
    }

pub first-cut-short : (project : Project) (settings : Settings) (fault : OutFault) (before now : RunMoment)
    → IsCutInOrder fault (header_line (version_of project) (junction_count project) (tank_count project)) first_line
    before now
    → IsCutShort project settings fault before now
first-cut-short project settings fault before now cut =
    let off = cut-off-as fault _ _ _ _ before now
    (sym (append-nil (header_line (version_of project) (junction_count project) (tank_count project))))
    (sym (append-nil first_line)) cut.cut_off in
    record {
      founds = [];
      left = initial_standing project;
      is_run = IsRunFrom.none;
      sharp = tt;
      last = None;
      ends_so = tt;
      names = tt;
      cut_off = off;
      in_order = λ c r. inl (
        off.printed.0,
        out-and-held before.report.held (report_so_far project (initial_standing project) [] None)
            off.printed.1.front off.printed.0 r off.printed.1.whole,
      );
    }

-- ---- its end

pub is-whole : (project : Project) (settings : Settings) (outcome : Outcome) (left : Standing) (start before now :
    RunMoment) (records : ℕ)
    → records ≡ left.number → records < 2 ^ 32 → EndsSo project left settings.rounds outcome
    → EndNames project left settings.rounds outcome
    → PutIn (end_line records (is_finished outcome)) (last_line project left records outcome) before now
    → now.certificate.held ≡ []
    → IsSoFar project (sharpness_of settings) left start before → IsWhole project settings outcome start now
is-whole project settings outcome left start before now records counted few ends names put emptied so_far =
    let same : records ≡ length so_far.founds = counted ∙ sym so_far.each in
    record {
      founds = so_far.founds;
      left = left;
      is_run = so_far.is_run;
      sharp = so_far.sharp;
      fit = so_far.fit;
      few = subst (λ (n : ℕ). n < 2 ^ 32) same few;
      ends_so = ends;
      names = names;
      emptied = emptied;
      put = put-as _ _ _ _ start now (certificate-last project so_far.founds outcome) (report-last project left
          so_far.founds outcome)
          (put-then _ _ _ _ start before now so_far.put
          (subst (λ (n : ℕ). PutIn (end_line n (is_finished outcome)) (last_line project left n outcome) before now)
          same put));
    }

pub last-cut-short : (project : Project) (settings : Settings) (fault : OutFault) (outcome : Outcome) (left :
    Standing) (start before now : RunMoment) (records : ℕ)
    → records ≡ left.number → EndsSo project left settings.rounds outcome
    → EndNames project left settings.rounds outcome
    → IsCutAtEnd fault (end_line records (is_finished outcome)) (last_line project left records outcome) before now
    → IsSoFar project (sharpness_of settings) left start before → IsCutShort project settings fault start now
last-cut-short project settings fault outcome left start before now records counted ends names at_end so_far =
    let same : records ≡ length so_far.founds = counted ∙ sym so_far.each in
    let cut : IsCutAtEnd fault (end_line (length so_far.founds) (is_finished outcome))
    (last_line project left (length so_far.founds) outcome) before now =
    subst (λ (n : ℕ). IsCutAtEnd fault (end_line n (is_finished outcome)) (last_line project left n outcome)
    before now) same at_end in
    record {
      founds = so_far.founds;
      left = left;
      is_run = so_far.is_run;
      sharp = so_far.sharp;
      last = Some outcome;
      ends_so = ends;
      names = names;
      cut_off = cut-off-as fault _ _ _ _ start now (certificate-last project so_far.founds outcome) (report-last project
          left so_far.founds outcome)
          (cut-off-then fault _ _ _ _ start before now so_far.put cut.cut_off);
      in_order = λ c r. at-end-in-order project settings outcome start before now c r left fault so_far cut;
    }

-- the pens are emptied, or a fault cuts that off
pub whole-emptied : (project : Project) (settings : Settings) (outcome : Outcome) (start before now : RunMoment)
    → IsWhole project settings outcome start before → PutIn [] [] before now → now.certificate.held ≡ []
    → IsWhole project settings outcome start now
whole-emptied project settings outcome start before now whole put emptied = record {
  founds = whole.founds;
  left = whole.left;
  is_run = whole.is_run;
  sharp = whole.sharp;
  fit = whole.fit;
  few = whole.few;
  ends_so = whole.ends_so;
  names = whole.names;
  put = put-as _ _ _ _ start now (append-nil _) (append-nil _) (put-then _ _ _ _ start before now whole.put put);
  emptied = emptied;
}

pub whole-cut-off : (project : Project) (settings : Settings) (fault : OutFault) (outcome : Outcome) (start before now :
    RunMoment)
    → IsWhole project settings outcome start before → IsCutOff fault [] [] before now
    → IsCutShort project settings fault start now
whole-cut-off project settings fault outcome start before now whole cut_off = record {
  founds = whole.founds;
  left = whole.left;
  is_run = whole.is_run;
  sharp = whole.sharp;
  last = Some outcome;
  ends_so = whole.ends_so;
  names = whole.names;
  cut_off = cut-off-as fault _ _ _ _ start now (append-nil _) (append-nil _) (cut-off-then fault _ _ _ _ start before
      now whole.put cut_off);
  in_order = λ c r. inr (cut-while-emptied fault _ _ start before now c whole.put whole.emptied cut_off);
}

-- ---- what is put out

pub known : (project : Project) → (1 ≤ version_of project) × (version_of project ≤ 2)
known project = (by _, most _)
  where
    by : (b : Bool) → 1 ≤ (if b then 2 else 1)
    by true = omega arith
    by false = omega arith

    most : (b : Bool) → (if b then 2 else 1) ≤ 2
    most true = omega arith
    most false = omega arith

pub certificate-is : (project : Project) → IsSound project → (founds : List Found) (outcome : Outcome)
    → All (IsRow (junction_count project) (tank_count project)) (rows_of founds) → length founds < 2 ^ 32
    → IsCertificateText (certificate_so_far project founds (Some outcome)) (version_of project) (junction_count
    project)
    (tank_count project) (rows_of founds) (length founds) (is_finished outcome)
certificate-is project sound founds outcome fit few =
    let header : Header = record {
      version = version_of project;
      junctions = junction_count project;
      tanks =
          tank_count project;
    } in
    let v = known project in
    let n : junction_count project < 2 ^ 32 = (let le = sound.counts.junctions in omega (arith, le)) in
    let k : tank_count project < 2 ^ 32 = (let le = sound.counts.tanks in omega (arith, le)) in
    whole_reading header (header_words header) (certificate_so_far project founds (Some outcome)) (rows_of founds)
    (length founds)
    (is_finished outcome) (header_is header v.0 v.1 n k) fit few refl

pub moved-whole : (w w' : Option (List ℕ)) (h a h' : List ℕ) → h ≡ [] → h' ≡ [] → Moves w w' (h ++ a) h'
    → w' ≡ append_known w a
moved-whole w w' h a h' e e' m =
    moves_whole w w' a (subst (λ (x : List ℕ). Moves w w' (x ++ a) []) e (subst (λ (y : List ℕ). Moves w w' (h ++ a)
    y) e' m))

pub out-whole : (w w' : Option (List ℕ)) (h a : List ℕ) → h ≡ [] → PutOut w w' (h ++ a) → PutOut w w' a
out-whole w w' h a e m = subst (λ (x : List ℕ). PutOut w w' (x ++ a)) e m

pub put-out : (project : Project) (settings : Settings) (outcome : Outcome) (start now : RunMoment) → IsSound project
    → start.certificate.held ≡ [] → start.report.held ≡ [] → now.certificate.held ≡ [] → now.report.held ≡ []
    → IsWhole project settings outcome start now → IsPutOut project settings outcome start.told now.told
put-out project settings outcome start now sound c r c' r' whole =
    let a = certificate_so_far project whole.founds (Some outcome) in
    let b = report_so_far project whole.left whole.founds (Some outcome) in
    record {
      certificate = a;
      report = b;
      writes = record {
        founds = whole.founds;
        left = whole.left;
        is_run = whole.is_run;
        sharp = whole.sharp;
        ends_so = whole.ends_so;
        certificate = certificate-is project sound whole.founds outcome whole.fit whole.few;
        report = refl;
        every_history = every_history project sound whole.founds whole.left whole.is_run;
      };
      names = whole.names;
      written = moved-whole start.told.written now.told.written start.certificate.held a now.certificate.held c c'
          whole.put.written;
      printed = moved-whole start.told.printed now.told.printed start.report.held b now.report.held r r'
          whole.put.printed;
    }

pub broken-off : (project : Project) (settings : Settings) (fault : OutFault) (start now : RunMoment) → IsSound project
    → start.certificate.held ≡ [] → start.report.held ≡ [] → IsCutShort project settings fault start now
    → IsBrokenOff project settings start.told now.told
broken-off project settings fault start now sound c r short =
    let w = short.cut_off.written in
    let p = short.cut_off.printed in
    record {
      certificate = w.1.front;
      report = p.1.front;
      breaks_off = record {
        founds = short.founds;
        left = short.left;
        is_run = short.is_run;
        sharp = short.sharp;
        last = short.last;
        ends_so = short.ends_so;
        unwritten = w.0;
        front_of_certificate = sym w.1.whole
            ∙ ap (λ (xs : List ℕ). xs ++ certificate_so_far project short.founds short.last) c;
        unprinted = p.0;
        front_of_report = sym p.1.whole
            ∙ ap (λ (xs : List ℕ). xs ++ report_so_far project short.left short.founds short.last) r;
        every_history = every_history project sound short.founds short.left short.is_run;
      };
      names = short.names;
      in_order = short.in_order c r;
      written = w.1.out;
      printed = p.1.out;
    }
