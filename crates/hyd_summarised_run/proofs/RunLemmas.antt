-- Runs as far as they have gone, and what is put out of them.
use Rattle.std.proofs.Common.{◌≡◌, ℕ, ◌+◌, ◌<◌, ◌^◌, List, [], ◌∷◌, ◌++◌, length, length-append, Some, None, refl, sym}
use Rattle.std.proofs.Common.{ap, subst, ◌∙◌, arith, append-nil, ◌⊎◌, inl, inr}
use Rattle.std.specs.Prelude.{Result, Ok, Err, IfOk, IfErr, OnOk}
use Rattle.hyd_net.specs.Sound.{IsSound}
use Rattle.hyd_spec.specs.ProgramTypes.{Project}
use Rattle.hyd_spec.specs.NodeNumbers.{junction_count, tank_count}
use Rattle.hyd_spec_certificates.specs.RecordAndStanding.{Standing, initial_standing}
use Rattle.hyd_spec_certificates.specs.CertificateText.{end_line, header_line, version_of}
use Rattle.hyd_spec_reports.specs.PromisesOfRunsAndChecks.{Found, IsRunFrom, Sharpness, IsSharpFound, Outcome, EndsSo}
use Rattle.hyd_spec_reports.specs.PromisesOfRunsAndChecks.{lines_of, last_line, report_so_far, is_finished}
use Rattle.hyd_spec_reports.specs.PromisesOfRunsAndChecks.{certificate_so_far}
use Rattle.hyd_spec_summary.specs.Summary.{event_count, summary_line, summary_text}
use Rattle.hyd_lemmas.proofs.ListsOptionsAndResults.{join-more, all-more}
use Rattle.hyd_theorems_on_runs.proofs.HistoriesAlongRuns.{every_history}
use Rattle.hyd_cert.specs.Lines.{Header, header_text}
use Rattle.hyd_io.specs.declared.output.OutFault.{OutFault}
use Rattle.hyd_io.specs.declared.output.Channel.TheVariants.{Cert, Report}
use Rattle.hyd_io.specs.Output.{PenState}
use Rattle.hyd_io.specs.DeskBytes.{append_known, PutOut}
use Rattle.hyd_io.proofs.MovedBytesLemmas.{append_known-nil, put_out_more}
use Rattle.hyd_sim.specs.RunView.{SimView, standing_of, header_for}
use Rattle.hyd_sim.specs.declared.settings.Settings.{Settings}
use Rattle.hyd_run.specs.Pens.{RunMoment, PutIn, IsCutOff, OneRose, LeavesRest}
use Rattle.hyd_run.specs.Runs.{sharpness_of, fresh, outcome_of, EndNames, IsStep, IsOver}
use Rattle.hyd_run.specs.declared.outcome.RunEnd.{RunEnd}
use Rattle.hyd_run.proofs.PenLemmas.{put-then, cut-off-then}
use Rattle.hyd_summarised_run.specs.SummarisedRuns.{IsSummed, IsSumBrokenOff, SumsSoFar, SumsWhole, SumsCutShort}
use Rattle.hyd_summarised_run.specs.SummarisedRuns.{SumsPeriod, LosesPeriod, summary_so_far, IsWritten, RunSumsIn}
use Rattle.hyd_run.proofs.RunLemmas.{rows-with, moved-whole, put-as, certificate-more, run-with, certificate-last}
use Rattle.hyd_run.proofs.RunLemmas.{certificate-is, out-whole, cut-off-as}
use Rattle.hyd_summarised_run.proofs.EventLemmas.{events-append}

-- ---- texts put in, in other words

nothing-before : (front held : List ℕ) → [] ≡ front ++ held → front ≡ []
nothing-before [] held e = refl
nothing-before (c ∷ front) held e = absurd (cc)

-- what was put in, with nothing held, was written, and it is still when the other pen is cut off
written-still : (a b : List ℕ) (why : OutFault) (c : List ℕ) (m n o : RunMoment) → PutIn a b m n
    → n.certificate.held ≡ [] → IsCutOff why [] c n o → IsWritten a m o
written-still a b why c m n o put emptied cut_off =
    let later = cut_off.written.1 in
    let none : later.front ≡ [] = nothing-before later.front cut_off.written.0
    (ap (λ h. h ++ []) (sym emptied) ∙ later.whole) in
    let still : o.told.written ≡ n.told.written = later.out ∙ (ap (append_known n.told.written) none
    ∙ append_known-nil n.told.written) in
    record {
      front = put.written.front;
      whole = put.written.whole ∙ ap (λ h. put.written.front ++ h) emptied;
      out = still ∙ put.written.out;
    }

-- what would have been printed next isn't printed either
cut-off-more : (why : OutFault) (a b : List ℕ) (m n : RunMoment) → IsCutOff why a [] m n → IsCutOff why a b m n
cut-off-more why a b m n cut_off = record {
  written = cut_off.written;
  printed = subst (λ (all : List ℕ). PutOut m.told.printed n.told.printed (all ++ b)) (append-nil m.report.held)
      (put_out_more m.told.printed n.told.printed (m.report.held ++ []) b cut_off.printed);
  rose = cut_off.rose;
  leaves = cut_off.leaves;
}

-- ---- a run so far

events-with : (founds : List Found) (found : Found) (events more sum : ℕ) → event_count (lines_of founds) ≡ events
    → event_count found.lines ≡ more → events + more ≡ sum → event_count (lines_of (founds ++ (found ∷ []))) ≡ sum
events-with founds found events more sum e f s =
    ap event_count (join-more (λ (f : Found). f.lines) founds found)
    ∙ (events-append (lines_of founds) found.lines ∙ (ap (λ (n : ℕ). n + event_count found.lines) e
    ∙ (ap (λ (n : ℕ). events + n) f ∙ s)))

begins : (project : Project) (sharpness : Sharpness) (before now : RunMoment)
    → PutIn (header_line (version_of project) (junction_count project) (tank_count project)) [] before now
    → SumsSoFar project sharpness (initial_standing project) 0 before now
begins project sharpness before now put = record {
  founds = [];
  is_run = IsRunFrom.none;
  sharp = tt;
  fit = λ k d inside. absurd (omega (arith, inside));
  each = refl;
  counted = refl;
  put = put-as _ [] _ [] before now
      (sym (append-nil (header_line (version_of project) (junction_count project) (tank_count project)))) refl put;
}

-- the header was put in, or a fault cut it off
pub begun : (project : Project) (settings : Settings) (left : Standing) (header : Header) (before now : RunMoment)
    → header ≡ header_for project → left ≡ initial_standing project → PutIn (header_text header) [] before now
    → SumsSoFar project (sharpness_of settings) left 0 before now
begun project settings left header before now same start put =
    subst (λ (s : Standing). SumsSoFar project (sharpness_of settings) s 0 before now) (sym start)
    (begins project (sharpness_of settings) before now
    (subst (λ (h : Header). PutIn (header_text h) [] before now) same put))

pub begun-cut-off : (project : Project) (settings : Settings) (fault : OutFault) (header : Header)
    (before now : RunMoment)
    → header ≡ header_for project → IsCutOff fault (header_text header) [] before now
    → SumsCutShort project settings fault before now
begun-cut-off project settings fault header before now same cut_off = record {
  founds = [];
  left = initial_standing project;
  is_run = IsRunFrom.none;
  sharp = tt;
  last = None;
  ends_so = tt;
  names = tt;
  cut_off = off;
  in_order = inl off;
}
  where
    off : IsCutOff fault (certificate_so_far project [] None) [] before now
    off = cut-off-as fault _ [] _ [] before now
        (sym (append-nil (header_line (version_of project) (junction_count project) (tank_count project)))) refl
        (subst (λ (h : Header). IsCutOff fault (header_text h) [] before now) same cut_off)

-- a period more, of the run that was begun
pub more-done : (project : Project) (settings : Settings) (before now : SimView) (start m n : RunMoment)
    (events more sum : ℕ) → now.project ≡ project → now.settings ≡ settings → events + more ≡ sum
    → SumsPeriod more before now m n
    → SumsSoFar project (sharpness_of settings) (standing_of before) events start m
    → SumsSoFar project (sharpness_of settings) (standing_of now) sum start n
more-done project settings before now start m n events more sum p s e did so_far = record {
  founds = so_far.founds ++ (did.found ∷ []);
  is_run = run-with project so_far.founds (standing_of before) (standing_of now) (sharpness_of settings) did.found step
      so_far.is_run;
  sharp = all-more (IsSharpFound project (sharpness_of settings)) so_far.founds did.found so_far.sharp step.sharp;
  fit = rows-with project so_far.founds did.found so_far.fit step.fits;
  each = (let l = length-append so_far.founds (did.found ∷ []) in let c = so_far.each in let x = step.number in omega
      (arith, l, c, x));
  counted = events-with so_far.founds did.found events more sum so_far.counted did.counted e;
  put = put-as _ [] _ [] start n (certificate-more project so_far.founds did.found) refl
      (put-then _ [] _ [] start m n so_far.put did.put);
}
  where
    step : IsStep project (sharpness_of settings) (standing_of before) (standing_of now) did.found
    step = rw (← p, ← s) did.step

pub more-lost : (project : Project) (settings : Settings) (fault : OutFault) (before now : SimView)
    (start m n : RunMoment)
    (events : ℕ) → now.project ≡ project → now.settings ≡ settings → LosesPeriod fault before now m n
    → SumsSoFar project (sharpness_of settings) (standing_of before) events start m
    → SumsCutShort project settings fault start n
more-lost project settings fault before now start m n events p s lost so_far = record {
  founds = so_far.founds ++ (lost.found ∷ []);
  left = standing_of now;
  is_run = run-with project so_far.founds (standing_of before) (standing_of now) (sharpness_of settings) lost.found step
      so_far.is_run;
  sharp = all-more (IsSharpFound project (sharpness_of settings)) so_far.founds lost.found so_far.sharp step.sharp;
  last = None;
  ends_so = tt;
  names = tt;
  cut_off = off;
  in_order = inl off;
}
  where
    step : IsStep project (sharpness_of settings) (standing_of before) (standing_of now) lost.found
    step = rw (← p, ← s) lost.step

    off : IsCutOff fault (certificate_so_far project (so_far.founds ++ (lost.found ∷ [])) None) [] start n
    off = cut-off-as fault _ [] _ [] start n (certificate-more project so_far.founds lost.found) refl
        (cut-off-then fault _ [] _ [] start m n so_far.put lost.cut_off)

pub over-stays : (project : Project) (settings : Settings) (outcome : Outcome) (before now : SimView) (events : ℕ)
    (start m n : RunMoment) → IsOver outcome before now m n
    → SumsSoFar project (sharpness_of settings) (standing_of before) events start m
    → SumsSoFar project (sharpness_of settings) (standing_of now) events start n
over-stays project settings outcome before now events start m n over so_far =
    subst (λ (s : Standing). SumsSoFar project (sharpness_of settings) s events start n) (sym over.stays)
    (subst (λ (x : RunMoment). SumsSoFar project (sharpness_of settings) (standing_of before) events start x)
    (sym over.nothing) so_far)

-- ---- the last lines

module _ (project : Project) (settings : Settings) (outcome : Outcome) (left : Standing) (events records : ℕ)
    (start before : RunMoment) (counted : records ≡ left.number) (ends : EndsSo project left settings.rounds outcome)
    (names : EndNames project left settings.rounds outcome)
    (so_far : SumsSoFar project (sharpness_of settings) left events start before) where
  same : records ≡ length so_far.founds
  same = counted ∙ sym so_far.each

  -- the END line was put in
  closed : (now : RunMoment) → PutIn (end_line records (is_finished outcome)) [] before now
      → PutIn (certificate_so_far project so_far.founds (Some outcome)) [] start now
  closed now put = put-as _ [] _ [] start now (certificate-last project so_far.founds outcome) refl
      (put-then _ [] _ [] start before now so_far.put
      (subst (λ (n : ℕ). PutIn (end_line n (is_finished outcome)) [] before now) same put))

  -- or cut off
  pub close-cut-off : (fault : OutFault) (now : RunMoment)
      → IsCutOff fault (end_line records (is_finished outcome)) [] before now
      → SumsCutShort project settings fault start now
  close-cut-off fault now cut_off = record {
    founds = so_far.founds;
    left = left;
    is_run = so_far.is_run;
    sharp = so_far.sharp;
    last = Some outcome;
    ends_so = ends;
    names = names;
    cut_off = cut-off-more fault _ (summary_text project left so_far.founds outcome) start now off;
    in_order = inl off;
  }
    where
      off : IsCutOff fault (certificate_so_far project so_far.founds (Some outcome)) [] start now
      off = cut-off-as fault _ [] _ [] start now (certificate-last project so_far.founds outcome) refl
          (cut-off-then fault _ [] _ [] start before now so_far.put
          (subst (λ (n : ℕ). IsCutOff fault (end_line n (is_finished outcome)) [] before now) same cut_off))

  -- the summary in the words of what was found
  text-is : summary_line (junction_count project) (length project.links.list) records events
      ++ last_line project left records outcome ≡ summary_text project left so_far.founds outcome
  text-is =
      ap (λ (n : ℕ). summary_line (junction_count project) (length project.links.list) n events
      ++ last_line project left n outcome) same
      ∙ ap (λ (e : ℕ). summary_line (junction_count project) (length project.links.list) (length so_far.founds) e
      ++ last_line project left (length so_far.founds) outcome) (sym so_far.counted)

  pub is-whole : (closed-at now : RunMoment) → records < 2 ^ 32
      → PutIn (end_line records (is_finished outcome)) [] before closed-at
      → PutIn [] (summary_line (junction_count project) (length project.links.list) records events
      ++ last_line project left records outcome) closed-at now
      → SumsWhole project settings outcome start now
  is-whole closed-at now few put summed = record {
    founds = so_far.founds;
    left = left;
    is_run = so_far.is_run;
    sharp = so_far.sharp;
    fit = so_far.fit;
    few = subst (λ (n : ℕ). n < 2 ^ 32) same few;
    ends_so = ends;
    names = names;
    put = put-as _ _ _ _ start now (append-nil (certificate_so_far project so_far.founds (Some outcome))) text-is
        (put-then (certificate_so_far project so_far.founds (Some outcome)) [] [] _ start closed-at now
        (closed closed-at put) summed);
  }

  pub summary-cut-off : (fault : OutFault) (closed-at now : RunMoment)
      → PutIn (end_line records (is_finished outcome)) [] before closed-at → closed-at.certificate.held ≡ []
      → IsCutOff fault [] (summary_line (junction_count project) (length project.links.list) records events
      ++ last_line project left records outcome) closed-at now
      → SumsCutShort project settings fault start now
  summary-cut-off fault closed-at now put emptied cut_off = record {
    founds = so_far.founds;
    left = left;
    is_run = so_far.is_run;
    sharp = so_far.sharp;
    last = Some outcome;
    ends_so = ends;
    names = names;
    cut_off = cut-off-as fault _ _ _ _ start now (append-nil (certificate_so_far project so_far.founds (Some outcome)))
        text-is
        (cut-off-then fault (certificate_so_far project so_far.founds (Some outcome)) [] [] _ start closed-at now
        (closed closed-at put) cut_off);
    in_order = inr (written-still (certificate_so_far project so_far.founds (Some outcome)) [] fault _ start closed-at
        now (closed closed-at put) emptied cut_off);
  }

-- what the last lines make of a run, as of the one that was begun
pub ending-sums : (project p : Project) (settings s : Settings) (left : Standing) (events : ℕ) (outcome : Outcome)
    (result : Result RunEnd OutFault) (start before now : RunMoment) → p ≡ project → s ≡ settings
    → (EndsSo p left s.rounds outcome → EndNames p left s.rounds outcome → (x : RunMoment)
    → SumsSoFar p (sharpness_of s) left events x before → RunSumsIn result p s x now)
    → EndsSo project left settings.rounds outcome → EndNames project left settings.rounds outcome
    → SumsSoFar project (sharpness_of settings) left events start before
    → RunSumsIn result project settings start now
ending-sums project p settings s left events outcome result start before now e f puts ends names so_far =
    subst (λ (t : Settings). EndsSo project left t.rounds outcome → EndNames project left t.rounds outcome
    → (x : RunMoment) → SumsSoFar project (sharpness_of t) left events x before → RunSumsIn result project t x now) f
    (subst (λ (q : Project). EndsSo q left s.rounds outcome → EndNames q left s.rounds outcome → (x : RunMoment)
    → SumsSoFar q (sharpness_of s) left events x before → RunSumsIn result q s x now) e puts) ends names start so_far

-- ---- what is put out

module _ (project : Project) (settings : Settings) (start now : RunMoment) (sound : IsSound project)
    (certificate : start.certificate ≡ fresh Cert) (report : start.report ≡ fresh Report) where
  c-held : start.certificate.held ≡ []
  c-held = ap (λ (p : PenState). p.held) certificate

  r-held : start.report.held ≡ []
  r-held = ap (λ (p : PenState). p.held) report

  put-out : (outcome : Outcome) → now.certificate.held ≡ [] → now.report.held ≡ []
      → SumsWhole project settings outcome start now → IsSummed project settings outcome start.told now.told
  put-out outcome c r whole =
      let a = certificate_so_far project whole.founds (Some outcome) in
      let b = summary_text project whole.left whole.founds outcome in
      record {
        certificate = a;
        summary = b;
        sums = record {
          report = report_so_far project whole.left whole.founds (Some outcome);
          run = record {
            founds = whole.founds;
            left = whole.left;
            is_run = whole.is_run;
            sharp = whole.sharp;
            ends_so = whole.ends_so;
            certificate = certificate-is project sound whole.founds outcome whole.fit whole.few;
            report = refl;
            every_history = every_history project sound whole.founds whole.left whole.is_run;
          };
          summary = refl;
        };
        names = whole.names;
        written = moved-whole start.told.written now.told.written start.certificate.held a now.certificate.held c-held c
            whole.put.written;
        printed = moved-whole start.told.printed now.told.printed start.report.held b now.report.held r-held r
            whole.put.printed;
      }

  -- a fault before anything of the summary was put in
  in-certificate : (fault : OutFault) (short : SumsCutShort project settings fault start now)
      → IsCutOff fault (certificate_so_far project short.founds short.last) [] start now
      → IsSumBrokenOff project settings start.told now.told
  in-certificate fault short off =
      let summary = summary_so_far project short.left short.founds short.last in
      let w = out-whole start.told.written now.told.written start.certificate.held
      (certificate_so_far project short.founds short.last) c-held off.written in
      let p = out-whole start.told.printed now.told.printed start.report.held [] r-held off.printed in
      let none : p.1.front ≡ [] = nothing-before p.1.front p.0 p.1.whole in
      record {
        certificate = w.1.front;
        summary = p.1.front;
        breaks_off = record {
          founds = short.founds;
          left = short.left;
          is_run = short.is_run;
          sharp = short.sharp;
          last = short.last;
          ends_so = short.ends_so;
          unwritten = w.0;
          front_of_certificate = sym w.1.whole;
          unprinted = summary;
          front_of_summary = ap (λ f. f ++ summary) none;
          in_order = λ printed. absurd (printed none);
          every_history = every_history project sound short.founds short.left short.is_run;
        };
        names = short.names;
        written = w.1.out;
        printed = p.1.out;
      }

  -- one when the certificate was written whole
  in-summary : (fault : OutFault) (short : SumsCutShort project settings fault start now)
      → IsWritten (certificate_so_far project short.founds short.last) start now
      → IsSumBrokenOff project settings start.told now.told
  in-summary fault short whole =
      let a = certificate_so_far project short.founds short.last in
      let p = out-whole start.told.printed now.told.printed start.report.held
      (summary_so_far project short.left short.founds short.last) r-held short.cut_off.printed in
      record {
        certificate = a;
        summary = p.1.front;
        breaks_off = record {
          founds = short.founds;
          left = short.left;
          is_run = short.is_run;
          sharp = short.sharp;
          last = short.last;
          ends_so = short.ends_so;
          unwritten = [];
          front_of_certificate = append-nil a;
          unprinted = p.0;
          front_of_summary = sym p.1.whole;
          in_order = λ printed. refl;
          every_history = every_history project sound short.founds short.left short.is_run;
        };
        names = short.names;
        written = moved-whole start.told.written now.told.written start.certificate.held a [] c-held refl whole;
        printed = p.1.out;
      }

  broken-off : (fault : OutFault) (short : SumsCutShort project settings fault start now)
      → IsCutOff fault (certificate_so_far project short.founds short.last) [] start now
      ⊎ IsWritten (certificate_so_far project short.founds short.last) start now
      → IsSumBrokenOff project settings start.told now.told
  broken-off fault short (inl off) = in-certificate fault short off
  broken-off fault short (inr whole) = in-summary fault short whole

  pub gives-whole : (result : Result RunEnd OutFault) → RunSumsIn result project settings start now
      → OnOk result (now.certificate.held ≡ []) → OnOk result (now.report.held ≡ [])
      → IfOk result (λ end. IsSummed project settings (outcome_of end) start.told now.told)
  gives-whole (Ok end) puts c r = put-out (outcome_of end) c r puts
  gives-whole (Err fault) puts c r = tt

  pub gives-broken : (result : Result RunEnd OutFault) → RunSumsIn result project settings start now
      → IfErr result (λ fault. IsSumBrokenOff project settings start.told now.told)
  gives-broken (Ok end) puts = tt
  gives-broken (Err fault) puts = broken-off fault puts puts.in_order

  pub gives-rose : (result : Result RunEnd OutFault) → RunSumsIn result project settings start now
      → IfErr result (λ fault. OneRose fault start.told.counts now.told.counts)
  gives-rose (Ok end) puts = tt
  gives-rose (Err fault) puts = puts.cut_off.rose

  pub gives-steady : (result : Result RunEnd OutFault) → RunSumsIn result project settings start now
      → OnOk result (now.told.counts ≡ start.told.counts)
  gives-steady (Ok end) puts = puts.put.steady
  gives-steady (Err fault) puts = tt

  pub gives-rest : (result : Result RunEnd OutFault) → RunSumsIn result project settings start now
      → LeavesRest start.told now.told
  gives-rest (Ok end) puts = puts.put.leaves
  gives-rest (Err fault) puts = puts.cut_off.leaves
