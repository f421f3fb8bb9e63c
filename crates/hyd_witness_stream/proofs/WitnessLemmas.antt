-- A whole search for a witness: what was written, and what it says of the certificate.
use Rattle.std.proofs.Common.{◌≡◌, ℕ, ◌<◌, ◌^◌, List, [], ◌∷◌, ◌++◌, length, map, Some, refl, sym, ap, subst}
use Rattle.std.proofs.Common.{◌∙◌, arith, append-nil, append_assoc, codes, inl, inr}
use Rattle.std.specs.Fmt.{decimal}
use Rattle.std.specs.List.{All}
use Rattle.std.specs.Prelude.{Result, Ok, Err, IfOk, IfErr, OnOk}
use Rattle.std.proofs.lemmas.Nat.{pow_pos}
use Rattle.std.proofs.lemmas.List.{length-map}
use Rattle.hyd_io.specs.DeskBytes.{append_known}
use Rattle.hyd_net.specs.Sound.{IsSound}
use Rattle.hyd_spec.specs.ProgramTypes.{Project}
use Rattle.hyd_spec.specs.Lists.{joined}
use Rattle.hyd_spec_certificates.specs.RefusedRecords.{refused_period}
use Rattle.hyd_spec_reports.specs.PromisesOfRunsAndChecks.{Found}
use Rattle.hyd_spec_reports.specs.ReportLine.{refused_line, refused_end_line, refusal_words}
use Rattle.hyd_spec_reports_with_flows.specs.FlowLines.{flow_refusal_words, refused_flow_line}
use Rattle.hyd_spec_check_ends.specs.LinesOfRefusals.{refused_grammar_line, refused_counts_line}
use Rattle.hyd_spec_reports_with_flows.specs.PromisesWithFlows.{FoundNaming, founds_in, report_with_flows}
use Rattle.hyd_spec_witnesses.specs.MetPeriods.{Moment, AreMet, HasItsLists}
use Rattle.hyd_spec_witnesses.specs.MiddleCandidate.{halves}
use Rattle.hyd_spec_witnesses.specs.WitnessText.{IsScale, IsMoment, counts_of, witness_header, moment_text}
use Rattle.hyd_spec_witnesses.specs.WitnessText.{witness_end}
use Rattle.hyd_spec_witness_answers.specs.PromisesOfWitnesses.{IsWrittenScale, WritesWitness, witness_line}
use Rattle.hyd_spec_witness_answers.specs.PromisesOfWitnesses.{no_witness_line, FindsNoWitness}
use Rattle.hyd_theorems_on_histories.proofs.TruthsAndRuleValues.{each_of}
use Rattle.hyd_theorems_on_witnesses.proofs.MetHistories.{met-history}
use Rattle.hyd_cert_check.specs.Checks.{CheckEnds}
use Rattle.hyd_cert_check.specs.ReaderAndPen.{CheckMoment}
use Rattle.hyd_cert_check.specs.RecordByRecord.{coming}
use Rattle.hyd_spec_check_ends.specs.declared.CheckEnd.TheVariants as ends
use Rattle.hyd_cert_check.proofs.ConclusionLemmas.{refused-record, refused-part, refused-end, refused-grammar}
use Rattle.hyd_cert_check.proofs.ConclusionLemmas.{refused-counts}
use Rattle.hyd_witness_trials.proofs.MetMoments.{has_lists}
use Rattle.hyd_witness_stream.specs.RefusedCertificates.{BeginsWitness, RefusesCertificate, StopsShort, IsRefusalLine}
use Rattle.hyd_witness_stream.specs.SearchEnds.{EndsSo, halt_line}
use Rattle.hyd_witness_stream.specs.SearchSoFar.{checks_at, witness_so_far, IsFoundSoFar, HasNoMoment, IsHalt, IsBroken}
use Rattle.hyd_witness_stream.specs.SearchSoFar.{IsWhole, SearchPuts}
use Rattle.hyd_witness_stream.specs.WitnessPen.{IsWritten, LeavesOthers, Rose}
use Rattle.hyd_witness_stream.specs.declared.ending.Halt.{Halt}
use Rattle.hyd_witness_stream.specs.declared.ending.Halt.TheVariants.{Accepted, NoMoment, Refused, RefusedPart}
use Rattle.hyd_witness_stream.specs.declared.ending.Halt.TheVariants.{OtherEnd, Grammar, Counts}
use Rattle.hyd_witness_stream.specs.declared.ending.SearchEnd.{SearchEnd}
use Rattle.hyd_witness_stream.specs.declared.ending.SearchFault.{SearchFault}
use Rattle.hyd_witness_stream.proofs.CertificatesReadWhole.{certificate-there, before-there, with-it-there}
use Rattle.hyd_witness_stream.proofs.PenLemmas.{leaves-then, written-then, written-on, went-out, front-out}

scale-is : (S : ℕ) → IsWrittenScale S → IsScale S
scale-is S (inl e) = record { power = 1; is_power = e; at_most = omega arith }
scale-is S (inr e) = record { power = 10; is_power = e; at_most = omega arith }

scale-some : (S : ℕ) → IsScale S → 0 < S
scale-some S is = subst (λ (s : ℕ). 0 < s) (sym is.is_power) (pow_pos is.power)

module _ (project : Project) (sound : IsSound project) (S : ℕ) (is_scale : IsWrittenScale S) where
  -- ---- what was written

  writes : (founds : List Found) (moments : List Moment) (written : List ℕ) → length moments ≡ length founds
      → length moments < 2 ^ 32 → All (IsMoment (counts_of project)) moments → AreMet project S moments
      → written ≡ witness_so_far project S moments ++ witness_end (length moments)
      → WritesWitness project S written founds moments
  writes founds moments written each few fit met e = record {
    one_each = each;
    is_text = record {
      is_scale = scale-is S is_scale;
      moments_fit = fit;
      count_fits = few;
      is_text = e ∙ append_assoc (witness_header S (counts_of project)) (joined (map moment_text moments))
          (witness_end (length moments));
    };
    met = met;
    history = met-history project sound S (scale-some S (scale-is S is_scale)) moments
        (each_of Moment (HasItsLists project) moments (has_lists project moments fit)) met;
  }

  -- a fault broke the search off
  broken-begins : (fault : SearchFault) (start now : CheckMoment) → start.pen.held ≡ []
      → IsBroken fault project S start now
      → IsWritten (BeginsWitness project S) start.told.written now.told.written
  broken-begins fault start now none broken =
      let all = witness_so_far project S broken.moments in
      let out = front-out fault (all ++ broken.ending) start now none broken.cut in
      record {
        text = out.0;
        holds = record {
          founds = founds_in broken.namings;
          left = broken.left;
          is_run = broken.is_run;
          moments = broken.moments;
          unwritten = out.1.0 ++ broken.left_out;
          writes = writes (founds_in broken.namings) broken.moments (out.0 ++ (out.1.0 ++ broken.left_out))
              (broken.each ∙ sym (length-map broken.namings (λ (naming : FoundNaming). naming.found))) broken.few
              broken.fit broken.met
              (sym (append_assoc out.0 out.1.0 broken.left_out)
              ∙ (ap (λ (t : List ℕ). t ++ broken.left_out) out.1.1.0
              ∙ (append_assoc all broken.ending broken.left_out
              ∙ ap (λ (t : List ℕ). all ++ t) broken.is_ending)));
        };
        written = out.1.1.1;
      }

  -- ---- the search came to an end

  module _ (end : SearchEnd) (start now : CheckMoment) (none : start.pen.held ≡ [])
      (whole : IsWhole end project S start now) where
    abbrev so : IsFoundSoFar project S whole.halted.left whole.halted.course start whole.halted.at_last
    so = whole.halted.so_far

    abbrev written-whole : List ℕ
    written-whole = witness_so_far project S so.moments ++ witness_end end.periods

    many : end.periods ≡ length so.moments
    many = whole.halted.periods ∙ sym so.each

    went : now.told.written ≡ append_known start.told.written written-whole
    went =
        went-out written-whole start now none whole.empty
        (written-then (witness_so_far project S so.moments) (witness_end end.periods) start whole.at_end now
        (written-on (witness_so_far project S so.moments) start whole.halted.at_last whole.at_end so.put
        whole.halted.put) whole.put)

    writes-whole : WritesWitness project S written-whole (founds_in so.check.namings) so.moments
    writes-whole =
        writes (founds_in so.check.namings) so.moments written-whole
        (so.each ∙ (sym so.check.each ∙ sym (length-map so.check.namings (λ (naming : FoundNaming). naming.found))))
        (let f = whole.few in let m = many in omega (arith, f, m)) so.fit so.met
        (ap (λ (m : ℕ). witness_so_far project S so.moments ++ witness_end m) many)

    pub whole-begins : IsWritten (BeginsWitness project S) start.told.written now.told.written
    whole-begins = record {
      text = written-whole;
      holds = record {
        founds = founds_in so.check.namings;
        left = whole.halted.left;
        is_run = so.check.is_run;
        moments = so.moments;
        unwritten = [];
        writes = subst (λ (w : List ℕ). WritesWitness project S w (founds_in so.check.namings) so.moments)
            (sym (append-nil written-whole)) writes-whole;
      };
      written = went;
    }

    module _ (text : List ℕ) (told : coming start ≡ Some text) where
      refuses : (line : List ℕ) → IsRefusalLine line
          → CheckEnds project text (report_with_flows project so.check.namings line) ends.Refused
          → RefusesCertificate project text written-whole line
      refuses line is_line refused = record {
        namings = so.check.namings;
        left = whole.halted.left;
        is_run = so.check.is_run;
        refused = refused;
        is_line = is_line;
        scale = S;
        is_scale = is_scale;
        moments = so.moments;
        writes = writes-whole;
      }

      nothing-found : HasNoMoment project S whole.halted.left so.moments
          (checks_at whole.halted.at_last so.held) whole.halted.read
          → StopsShort project S text written-whole (no_witness_line end.periods)
          × (S ≡ halves → FindsNoWitness project text written-whole (no_witness_line end.periods))
      nothing-found lacks =
          let at = checks_at whole.halted.at_last so.held in
          let before = before-there project sound whole.halted.left (checks_at start []) at so.check text told
          whole.halted.read lacks.next lacks.naming lacks.step lacks.part lacks.read in
          let with_it = with-it-there project sound whole.halted.left (checks_at start []) at so.check text told
          whole.halted.read lacks.next lacks.naming lacks.step lacks.part lacks.read in
          let report = ap no_witness_line (whole.halted.periods ∙ (sym so.check.each
          ∙ sym (length-map so.check.namings (λ (naming : FoundNaming). naming.found)))) in (
            record {
              founds = founds_in so.check.namings;
              found = lacks.naming.found;
              is_found = lacks.step.is_found;
              begins = before;
              begins_with_it = with_it;
              moments = so.moments;
              writes = writes-whole;
              report = report;
            },
            λ e. (let m = lacks.middle e in record {
              founds = founds_in so.check.namings;
              found = lacks.naming.found;
              is_found = lacks.step.is_found;
              begins = before;
              begins_with_it = with_it;
              moments = so.moments;
              writes = subst (λ (s : ℕ). WritesWitness project s written-whole (founds_in so.check.namings)
                  so.moments) e writes-whole;
              middle = m.0;
              is_middle = m.1.0;
              not_met = m.1.1;
              report = report;
            }),
          )

      ends-so : (why : Halt) → IsHalt why project S whole.halted.left so.moments
          (checks_at whole.halted.at_last so.held) whole.halted.read
          → EndsSo why project S text written-whole (halt_line project end.periods why)
      ends-so Accepted is = record {
        founds = founds_in so.check.namings;
        left = whole.halted.left;
        is_certificate = certificate-there project sound whole.halted.left (checks_at start [])
            (checks_at whole.halted.at_last so.held) so.check text told whole.halted.read is.0 is.1.0 is.1.1;
        scale = S;
        is_scale = is_scale;
        moments = so.moments;
        writes = writes-whole;
        report = ap witness_line many;
      }
      ends-so NoMoment is = nothing-found is
      ends-so (Refused cause) is =
          refuses (refused_line project cause) (record {
            words = codes "period" ∷ (decimal (refused_period cause) ∷ refusal_words project cause);
            is = refl;
          })
          (refused-record project sound whole.halted.left (checks_at start []) (checks_at whole.halted.at_last so.held)
          so.check text told cause whole.halted.read is)
      ends-so (RefusedPart period cause) is =
          refuses (refused_flow_line project period cause) (record {
            words = codes "period" ∷ (decimal period ∷ (codes "FLOW" ∷ flow_refusal_words project cause));
            is = refl;
          })
          (refused-part project sound whole.halted.left (checks_at start []) (checks_at whole.halted.at_last so.held)
          so.check text told period cause whole.halted.read is)
      ends-so (OtherEnd number) is =
          refuses (refused_end_line number) (record {
            words = codes "line" ∷ (decimal number ∷ (codes "END" ∷ []));
            is = refl;
          })
          (refused-end project sound whole.halted.left (checks_at start []) (checks_at whole.halted.at_last so.held)
          so.check text told whole.halted.read number is.0 is.1)
      ends-so (Grammar number) is =
          refuses (refused_grammar_line number) (record {
            words = codes "line" ∷ (decimal number ∷ (codes "GRAMMAR" ∷ []));
            is = refl;
          })
          (refused-grammar project sound whole.halted.left (checks_at start []) (checks_at whole.halted.at_last so.held)
          so.check text told whole.halted.read number is)
      ends-so (Counts number) is =
          refuses (refused_counts_line number) (record {
            words = codes "line" ∷ (decimal number ∷ (codes "COUNT" ∷ []));
            is = refl;
          })
          (refused-counts project sound whole.halted.left (checks_at start []) (checks_at whole.halted.at_last so.held)
          so.check text told whole.halted.read number is)

      pub whole-ends : IsWritten (λ written. EndsSo end.halt project S text written
          (halt_line project end.periods end.halt)) start.told.written now.told.written
      whole-ends = record {
        text = written-whole;
        holds = ends-so end.halt whole.halted.why;
        written = went;
      }

-- ---- by the result

module _ (project : Project) (sound : IsSound project) (S : ℕ) (is_scale : IsWrittenScale S)
    (start now : CheckMoment) (none : start.pen.held ≡ []) where
  pub search-ends : (result : Result SearchEnd SearchFault) (text : List ℕ) → coming start ≡ Some text
      → SearchPuts result project S start now
      → IfOk result (λ end. IsWritten (λ written. EndsSo end.halt project S text written
      (halt_line project end.periods end.halt)) start.told.written now.told.written)
  search-ends (Ok end) text told puts = whole-ends project sound S is_scale end start now none puts text told
  search-ends (Err fault) text told puts = tt

  pub search-begins : (result : Result SearchEnd SearchFault) → SearchPuts result project S start now
      → IsWritten (BeginsWitness project S) start.told.written now.told.written
  search-begins (Ok end) puts = whole-begins project sound S is_scale end start now none puts
  search-begins (Err fault) puts = broken-begins project sound S is_scale fault start now none puts

module _ (project : Project) (S : ℕ) (start now : CheckMoment) where
  pub search-leaves : (result : Result SearchEnd SearchFault) → SearchPuts result project S start now
      → LeavesOthers start.told now.told
  search-leaves (Ok end) puts =
      leaves-then start.told puts.at_end.told now.told
      (leaves-then start.told puts.halted.at_last.told puts.at_end.told puts.halted.so_far.put.leaves
      puts.halted.put.leaves) puts.put.leaves
  search-leaves (Err fault) puts = puts.cut.leaves

  pub search-cause : (result : Result SearchEnd SearchFault) → SearchPuts result project S start now
      → IfErr result (λ fault. Rose fault start.told.counts now.told.counts)
  search-cause (Ok end) puts = tt
  search-cause (Err fault) puts = puts.cut.rose

  pub search-steady : (result : Result SearchEnd SearchFault) → SearchPuts result project S start now
      → OnOk result (now.told.counts ≡ start.told.counts)
  search-steady (Ok end) puts = puts.put.steady ∙ (puts.halted.put.steady ∙ puts.halted.so_far.put.steady)
  search-steady (Err fault) puts = tt
