-- A search for a witness, one record further, and where it ends.
use Rattle.std.proofs.Common.{◌≡◌, ℕ, ◌<◌, ◌^◌, Bool, List, [], ◌∷◌, ◌++◌, length, map, Option, Some, None, refl, sym}
use Rattle.std.proofs.Common.{ap, subst, ◌∙◌, append-nil, append_assoc, length-append, arith}
use Rattle.std.specs.List.{All}
use Rattle.std.specs.Bool.{OnTrue, OnFalse}
use Rattle.std.specs.Prelude.{true, false, Ok, Err}
use Rattle.std.proofs.lemmas.List.Elements.{All-nil}
use Rattle.hyd_io.proofs.MovedBytesLemmas.{moves_nothing}
use Rattle.hyd_net.specs.Sound.{IsSound}
use Rattle.hyd_spec.specs.ProgramTypes.{Project}
use Rattle.hyd_spec.specs.Lists.{joined}
use Rattle.hyd_spec_certificates.specs.RecordAndStanding.{Record as Row, Standing, initial_standing}
use Rattle.hyd_spec_certificates.specs.declared.CertRefused.{CertRefused}
use Rattle.hyd_spec_certificates.specs.RefusedRecords.{IsRefused}
use Rattle.hyd_spec_certificates.specs.Valid.{DemandsAreInRange}
use Rattle.hyd_spec_flows.specs.FlowParts.{FlowPart as Part}
use Rattle.hyd_spec_flows.specs.declared.FlowFails.{FlowFails}
use Rattle.hyd_spec_reports_with_flows.specs.FlowLines.{FlowLine, AreFlowLines}
use Rattle.hyd_spec_reports_with_flows.specs.PromisesWithFlows.{FoundNaming, IsFoundNaming, entry_of}
use Rattle.hyd_spec_reports_with_flows.specs.PromisesWithFlows.{period_text}
use Rattle.hyd_spec_reports.specs.PromisesOfRunsAndChecks.{IsRunFrom}
use Rattle.hyd_spec_witnesses.specs.MetPeriods.{Moment, Reached, AreMet, IsMet, at_start, after_moment, reached_after}
use Rattle.hyd_spec_witnesses.specs.MiddleCandidate.{halves, IsMiddle}
use Rattle.hyd_spec_witnesses.specs.WitnessText.{IsMoment, counts_of, witness_header, moment_text, witness_end}
use Rattle.hyd_lemmas.proofs.ListsOptionsAndResults.{join-more}
use Rattle.hyd_flow.proofs.LinesOfFlows.{lines_there}
use Rattle.hyd_cert.specs.ReaderView.{ReaderView, fresh}
use Rattle.hyd_cert.specs.Lines.{Header}
use Rattle.hyd_cert.specs.RecordView.{header_of, row_of}
use Rattle.hyd_cert.specs.declared.flow_part.FlowPart.{FlowPart as PartRoom}
use Rattle.hyd_cert.specs.declared.record.Record.{Record as RecordRoom}
use Rattle.hyd_period_network.specs.NetAsPeriodNetwork.{grid_of, states_of}
use Rattle.hyd_report.specs.PeriodLines.{lines_of}
use Rattle.hyd_report.proofs.ReportLemmas.{lines_are_report}
use Rattle.hyd_run.proofs.PeriodLemmas.{tank-facts-of, number-next, each-link, fewer-left}
use Rattle.hyd_run.specs.Runs.{first_line, periods_left}
use Rattle.hyd_sim.specs.RunView.{SimView, IsSim, standing_of, header_for}
use Rattle.hyd_cert_check.specs.ReaderAndPen.{CheckMoment, IsAtStart, PutIn}
use Rattle.hyd_cert_check.specs.RecordByRecord.{DidRecord, IsPartRefusedNext, IsRead, IsSoFar, IsStep}
use Rattle.hyd_cert_check.proofs.RecordLemmas.{did-there, part-refused}
use Rattle.hyd_cert_check.proofs.RecordByRecordLemmas.{turn-more}
use Rattle.hyd_cert_check.proofs.WholeCheckLemmas.{so-far-begun}
use Rattle.hyd_course.specs.Courses.{IsCourseOf}
use Rattle.hyd_course.specs.declared.course.Course.{Course}
use Rattle.hyd_witness_trials.proofs.MetMoments.{one_more, met_more, reached_more}
use Rattle.hyd_witness_texts.specs.MomentView.{moment_of}
use Rattle.hyd_witness_stream.specs.WitnessPen.{WrittenIn, IsWriteCut}
use Rattle.hyd_witness_stream.specs.SearchSoFar.{checking, checks_at, witness_so_far, IsFoundSoFar, IsHalt}
use Rattle.hyd_witness_stream.specs.SearchSoFar.{IsHalted, IsBroken, IsTakenIn, IsPartRefused, HasMet, HasMiddleUnmet}
use Rattle.hyd_witness_stream.specs.Benches.{IsEntryFor, AreFor}
use Rattle.hyd_witness_stream.specs.SearchSoFar.{IsOneMore, IsWhole, JudgesSo, FindsSo, TurnGives}
use Rattle.hyd_witness_stream.specs.declared.bench.Entry.{Entry}
use Rattle.hyd_witness_stream.specs.declared.bench.MomentSearch.{MomentSearch}
use Rattle.hyd_witness_stream.specs.declared.ending.Halt.{Halt}
use Rattle.hyd_witness_stream.specs.declared.ending.Halt.TheVariants as halt
use Rattle.hyd_witness_stream.specs.declared.ending.SearchEnd.{SearchEnd}
use Rattle.hyd_witness_stream.specs.declared.ending.SearchFault.{SearchFault}
use Rattle.hyd_witness_stream.proofs.PenLemmas.{written-then, written-on, written-as, cut-then, cut-as}

-- ---- the check that a search stands for

pub imagined : (r r' : ReaderView) (t t' : Option (List ℕ)) (held text : List ℕ)
    → PutIn text (checking r t held) (checking r' t' (held ++ text))
imagined r r' t t' held text = record {
  printed = moves_nothing None (held ++ text);
  open_still = record { to = refl; no_fault = refl };
  steady = refl;
  leaves = record {
    files_stay = refl;
    written_stays = refl;
    target_stays = refl;
    ready_stays = refl;
    openings_stay = refl;
  };
}

pub imagined-none : (r r' : ReaderView) (t t' : Option (List ℕ)) (held : List ℕ)
    → PutIn [] (checking r t held) (checking r' t' held)
imagined-none r r' t t' held =
    subst (λ (h : List ℕ). PutIn [] (checking r t held) (checking r' t' h)) (append-nil held)
    (imagined r r' t t' held [])

-- ---- texts of witnesses

pub one-more-text : (project : Project) (S : ℕ) (moments : List Moment) (moment : Moment)
    → witness_so_far project S moments ++ moment_text moment
    ≡ witness_so_far project S (moments ++ (moment ∷ []))
one-more-text project S moments moment =
    append_assoc (witness_header S (counts_of project)) (joined (map moment_text moments)) (moment_text moment)
    ∙ ap (λ (t : List ℕ). witness_header S (counts_of project) ++ t) (sym (join-more moment_text moments moment))

-- ---- the start

-- a reader that has read nothing has passed no line
new_at_start : (reader : ReaderView) → reader ≡ fresh → IsAtStart reader
new_at_start reader new = record {
  stand = ap (λ (r : ReaderView). r.stand) new;
  line = ap (λ (r : ReaderView). r.line) new;
}

begins : (project : Project) (S : ℕ) (course : Course) (start now : CheckMoment) → start.reader ≡ fresh
    → now.reader ≡ start.reader → now.told.rest ≡ start.told.rest → IsCourseOf project S at_start course
    → WrittenIn (witness_header S (counts_of project)) start now
    → IsFoundSoFar project S (initial_standing project) course start now
begins project S course start now new same rest stands put = record {
  held = [] ++ first_line;
  check = so-far-begun project (initial_standing project) (checks_at start []) (checks_at now ([] ++ first_line)) refl
      (new_at_start start.reader new) same rest (imagined start.reader now.reader start.told.rest now.told.rest [] first_line);
  moments = [];
  each = refl;
  fit = All-nil (IsMoment (counts_of project));
  met = tt;
  stands = stands;
  put = written-as (witness_header S (counts_of project)) (witness_so_far project S []) start now
      (sym (append-nil (witness_header S (counts_of project)))) put;
}

pub found-begins : (project : Project) (S : ℕ) (left : Standing) (course : Course) (start now : CheckMoment)
    → left ≡ initial_standing project → start.reader ≡ fresh
    → now.reader ≡ start.reader → now.told.rest ≡ start.told.rest → IsCourseOf project S at_start course
    → WrittenIn (witness_header S (counts_of project)) start now → IsFoundSoFar project S left course start now
found-begins project S left course start now first new same rest stands put =
    subst (λ (s : Standing). IsFoundSoFar project S s course start now) (sym first)
    (begins project S course start now new same rest stands put)

-- the header line was cut off
pub header-broken : (project : Project) (S : ℕ) (fault : SearchFault) (start now : CheckMoment)
    → IsWriteCut fault (witness_header S (counts_of project)) start now → IsBroken fault project S start now
header-broken project S fault start now cut = record {
  namings = [];
  left = initial_standing project;
  is_run = IsRunFrom.none;
  moments = [];
  each = refl;
  few = omega arith;
  fit = All-nil (IsMoment (counts_of project));
  met = tt;
  ending = [];
  left_out = witness_end 0;
  is_ending = refl;
  cut = cut-as fault (witness_header S (counts_of project)) (witness_so_far project S [] ++ []) start now
      (sym (append-nil (witness_header S (counts_of project)))
      ∙ sym (append-nil (witness_so_far project S []))) cut;
}

-- ---- where nothing more is put in

module _ (project : Project) (S : ℕ) (left : Standing) (course : Course)
    (start before : CheckMoment) (so : IsFoundSoFar project S left course start before) where
  pub so-broken : (fault : SearchFault) (now : CheckMoment) → left.number < 2 ^ 32 → IsWriteCut fault [] before now
      → IsBroken fault project S start now
  so-broken fault now few cut = record {
    namings = so.check.namings;
    left = left;
    is_run = so.check.is_run;
    moments = so.moments;
    each = so.each ∙ sym so.check.each;
    few = (let e = so.each in omega (arith, e, few));
    fit = so.fit;
    met = so.met;
    ending = [];
    left_out = witness_end (length so.moments);
    is_ending = refl;
    cut = cut-then fault (witness_so_far project S so.moments) [] start before now so.put cut;
  }

  pub so-halted : (why : Halt) (periods : ℕ) (read now : CheckMoment) → periods ≡ left.number
      → IsHalt why project S left so.moments (checks_at before so.held) read → WrittenIn [] before now
      → IsHalted (record { periods = periods; halt = why }) project S start now
  so-halted why periods read now same is none = record {
    left = left;
    course = course;
    at_last = before;
    so_far = so;
    periods = same;
    read = read;
    why = is;
    put = none;
  }

-- ---- a record that was read

module _ (before now : SimView) (is : IsSim now) (p : now.project ≡ before.project) (row : Row) (part : Part)
    (S : ℕ) (course : Course) (start m : CheckMoment)
    (so : IsFoundSoFar before.project S (standing_of before) course start m) (reader : ReaderView)
    (rest : Option (List ℕ))
    (read : IsRead (header_for before.project) (record { row = row; part = part }) (checks_at m so.held)
    (checking reader rest so.held)) where
  -- what was read stands for the record of the run
  read-now : row_of now.row ≡ row → IsRead (header_for now.project) (record { row = row_of now.row; part = part })
      (checks_at m so.held) (checking reader rest so.held)
  read-now same =
      subst (λ (r : Row). IsRead (header_for now.project) (record { row = r; part = part }) (checks_at m so.held)
      (checking reader rest so.held)) (sym same)
      (subst (λ (q : Project). IsRead (header_for q) (record { row = row; part = part }) (checks_at m so.held)
      (checking reader rest so.held)) (sym p) read)

  -- ---- it is refused

  pub refused-halts : (cause : CertRefused) (periods : ℕ) (after : CheckMoment)
      → IsRefused before.project (standing_of before) row cause → periods ≡ (standing_of before).number
      → WrittenIn [] m after
      → IsHalted (record { periods = periods; halt = halt.Refused cause }) before.project S start after
  refused-halts cause periods after refused same none =
      so-halted before.project S (standing_of before) course start m so (halt.Refused cause) periods
      (checking reader rest so.held) after same (record {
        entry = record { row = row; part = part };
        read = read;
        refused = refused;
      }) none

  pub part-halts : (period : ℕ) (cause : FlowFails) (periods : ℕ) (after : CheckMoment)
      → IsPartRefused before now row part period cause → periods ≡ (standing_of before).number → WrittenIn [] m after
      → IsHalted (record { periods = periods; halt = halt.RefusedPart period cause }) before.project S start after
  part-halts period cause periods after lost same none =
      so-halted before.project S (standing_of before) course start m so (halt.RefusedPart period cause) periods
      (checking reader rest so.held) after same
      (subst (λ (q : Project). IsPartRefusedNext q (standing_of before) period cause
      (checks_at m so.held) (checking reader rest so.held)) p
      (part-refused before now is lost.accepted part (checks_at m so.held) (checking reader rest so.held)
      (read-now lost.row_is) (imagined-none m.reader reader m.told.rest rest so.held) period cause lost.number
      lost.refused).is_so) none

  -- ---- it was accepted

  module _ (taken : IsTakenIn before now row part) where
    there : (lines : List FlowLine) × AreFlowLines now.project (grid_of now.net) (standing_of before) part lines
    there = lines_there now.project (grid_of now.net) (standing_of before) part taken.held.joins

    abbrev naming-there : FoundNaming
    naming-there = record {
      found = record {
        standing = standing_of before;
        grid = grid_of now.net;
        row = row_of now.row;
        lines = lines_of now.project (grid_of now.net) (states_of now.net) (row_of now.row) now.facts;
        next = standing_of now;
      };
      part = part;
      flows = there.0;
    }

    abbrev held-there : List ℕ
    held-there = so.held ++ period_text now.project naming-there

    step-there : IsStep now.project (standing_of before) (standing_of now) naming-there.found
    step-there = record {
      begins = refl;
      leaves = refl;
      is_found = record {
        valid = taken.accepted.valid;
        report = lines_are_report now.project (grid_of now.net) (states_of now.net) (standing_of before)
            (row_of now.row) now.facts taken.accepted.facts (tank-facts-of now.project now.facts taken.accepted.have)
            taken.accepted.links (each-link now is);
      };
      number = number-next now.project (standing_of before) (grid_of now.net) (row_of now.row) (standing_of now)
          taken.accepted.valid;
    }

    did : DidRecord before now (checks_at m so.held) (checking reader rest held-there)
    did =
        did-there before now is taken.accepted part (checks_at m so.held) (checking reader rest so.held)
        (read-now taken.row_is) (imagined-none m.reader reader m.told.rest rest so.held)
        (checking reader rest held-there) refl refl taken.held there.0 there.1
        (imagined reader reader rest rest so.held (period_text now.project naming-there))

    check-there : IsSoFar before.project (standing_of now) (checks_at start []) (checking reader rest held-there)
    check-there =
        turn-more before.project before now (checks_at start []) (checks_at m so.held)
        (checking reader rest held-there) p (subst IsSound p is.sound) did so.check

    -- no moment was found
    pub nothing-halts : (moments : MomentSearch) (periods : ℕ) (after : CheckMoment)
        → ((reached : Reached) → IsCourseOf before.project halves reached course
        → HasMiddleUnmet before.project reached (row_of now.row) moments) → periods ≡ (standing_of before).number
        → WrittenIn [] m after
        → IsHalted (record { periods = periods; halt = halt.NoMoment }) before.project S start after
    nothing-halts moments periods after unmet same none =
        so-halted before.project S (standing_of before) course start m so halt.NoMoment periods
        (checking reader rest so.held) after same (record {
          naming = naming-there;
          next = standing_of now;
          step = subst (λ (q : Project). IsStep q (standing_of before) (standing_of now) naming-there.found) p
              step-there;
          part = subst (λ (q : Project). IsFoundNaming q naming-there) p
              (record { held = taken.held; lines = there.1 });
          read = subst (λ (q : Project). IsRead (header_for q) (entry_of naming-there) (checks_at m so.held)
              (checking reader rest so.held)) p (read-now taken.row_is);
          middle = λ e. (let u = unmet (reached_after before.project halves at_start so.moments)
              (subst (λ (s : ℕ). IsCourseOf before.project s (reached_after before.project s at_start so.moments)
              course) e so.stands) in
              (moment_of moments.moment, (u.middle, u.not_met)));
        }) none

    -- one was
    module _ (moments : MomentSearch) (fits : IsMoment (counts_of before.project) (moment_of moments.moment))
        (has : HasMet before.project S (reached_after before.project S at_start so.moments) moments) where
      abbrev moments-with : List Moment
      moments-with = so.moments ++ (moment_of moments.moment ∷ [])

      each-with : length moments-with ≡ (standing_of now).number
      each-with =
          let l = length-append so.moments (moment_of moments.moment ∷ []) in
          let e = so.each in
          let n = did.step.number in
          omega (arith, l, e, n)

      fit-with : All (IsMoment (counts_of before.project)) moments-with
      fit-with = one_more (IsMoment (counts_of before.project)) so.moments (moment_of moments.moment) so.fit fits

      met-with : AreMet before.project S moments-with
      met-with = met_more before.project S at_start so.moments (moment_of moments.moment) so.met has.met

      pub found-more : (mid after : CheckMoment) → after.reader ≡ reader → after.told.rest ≡ rest
          → WrittenIn [] m mid → WrittenIn (moment_text (moment_of moments.moment)) mid after
          → IsFoundSoFar before.project S (standing_of now) moments.course start after
      found-more mid after same left none put = record {
        held = held-there;
        check = subst (λ (r : ReaderView). IsSoFar before.project (standing_of now) (checks_at start [])
            (checking r after.told.rest held-there)) (sym same)
            (subst (λ (t : Option (List ℕ)). IsSoFar before.project (standing_of now) (checks_at start [])
            (checking reader t held-there)) (sym left) check-there);
        moments = moments-with;
        each = each-with;
        fit = fit-with;
        met = met-with;
        stands = subst (λ (r : Reached). IsCourseOf before.project S r moments.course)
            (sym (reached_more before.project S at_start so.moments (moment_of moments.moment))) has.behind;
        put = written-as _ _ start after (one-more-text before.project S so.moments (moment_of moments.moment))
            (written-then _ _ start mid after (written-on _ start m mid so.put none) put);
      }

      pub more-broken : (fault : SearchFault) (mid after : CheckMoment) → (standing_of now).number < 2 ^ 32
          → WrittenIn [] m mid → IsWriteCut fault (moment_text (moment_of moments.moment)) mid after
          → IsBroken fault before.project S start after
      more-broken fault mid after few none cut = record {
        namings = check-there.namings;
        left = standing_of now;
        is_run = check-there.is_run;
        moments = moments-with;
        each = each-with ∙ sym check-there.each;
        few = (let e = each-with in omega (arith, e, few));
        fit = fit-with;
        met = met-with;
        ending = [];
        left_out = witness_end (length moments-with);
        is_ending = refl;
        cut = cut-as fault _ _ start after (one-more-text before.project S so.moments (moment_of moments.moment)
            ∙ sym (append-nil (witness_so_far before.project S moments-with)))
            (cut-then fault _ _ start mid after (written-on _ start m mid so.put none) cut);
      }

    -- none was found
    pub unfound-halts : (result : Bool) (moments : MomentSearch) (periods : ℕ) (after : CheckMoment)
        → FindsSo result now.project (row_of now.row) course moments → result ≡ false
        → periods ≡ (standing_of before).number → WrittenIn [] m after
        → IsHalted (record { periods = periods; halt = halt.NoMoment }) before.project S start after
    unfound-halts result moments periods after finds lacks same none =
        nothing-halts moments periods after
        (subst (λ (q : Project). FindsSo false q (row_of now.row) course moments) p
        (subst (λ (b : Bool). FindsSo b now.project (row_of now.row) course moments) lacks finds)) same none

    -- one was, behind the periods that are met
    pub has-met : (result : Bool) (moments : MomentSearch) → FindsSo result now.project (row_of now.row) course moments
        → result ≡ true
        → HasMet before.project S (reached_after before.project S at_start so.moments) moments
    has-met result moments finds found =
        subst (λ (q : Project). FindsSo true q (row_of now.row) course moments) p
        (subst (λ (b : Bool). FindsSo b now.project (row_of now.row) course moments) found finds) S
        (reached_after before.project S at_start so.moments) so.stands

  -- it is refused, or the part behind it
  pub judged-halts : (why : Halt) → JudgesSo (Some why) before now row part → (periods : ℕ) (after : CheckMoment)
      → periods ≡ (standing_of before).number → WrittenIn [] m after
      → IsHalted (record { periods = periods; halt = why }) before.project S start after
  judged-halts (halt.Refused cause) refused periods after same none =
      refused-halts cause periods after refused same none
  judged-halts (halt.RefusedPart period cause) lost periods after same none =
      part-halts period cause periods after lost same none
  judged-halts halt.Accepted never periods after same none = absurd never
  judged-halts halt.NoMoment never periods after same none = absurd never
  judged-halts (halt.OtherEnd number) never periods after same none = absurd never
  judged-halts (halt.Grammar number) never periods after same none = absurd never
  judged-halts (halt.Counts number) never periods after same none = absurd never

-- ---- a record that was accepted

pub one-fewer : (before now : SimView) → IsSim now → now.project ≡ before.project → (row : Row) (part : Part)
    → IsTakenIn before now row part → IsOneMore before now
one-fewer before now is p row part taken = record {
  fewer = subst (λ (q : Project). periods_left q (standing_of now) < periods_left q (standing_of before)) p
      (fewer-left before now is
      (number-next now.project (standing_of before) (grid_of now.net) (row_of now.row) (standing_of now)
      taken.accepted.valid));
}

-- the demands of its period are in range
pub demands-there : (before now : SimView) (row : Row) (part : Part) → IsTakenIn before now row part
    → DemandsAreInRange now.project now.row.time
demands-there before now row part taken =
    subst (λ (time : ℕ). DemandsAreInRange now.project time) (sym taken.accepted.valid.time)
    taken.accepted.valid.demands

-- ---- what was found

pub finds-so : (result : Bool) (project : Project) (row : Row) (course : Course) (now : MomentSearch)
    → ((S : ℕ) (reached : Reached) → IsCourseOf project S reached course
    → OnTrue result (IsMet project S reached (moment_of now.moment)))
    → ((S : ℕ) (reached : Reached) → IsCourseOf project S reached course
    → OnTrue result (IsCourseOf project S (after_moment project S reached (moment_of now.moment)) now.course))
    → ((reached : Reached) → IsCourseOf project halves reached course
    → OnFalse result (IsMiddle project reached row (moment_of now.moment)))
    → ((reached : Reached) → IsCourseOf project halves reached course
    → OnFalse result (IsMet project halves reached (moment_of now.moment) → ⊥))
    → FindsSo result project row course now
finds-so true project row course now met behind middle not_met =
    λ S reached stands. record { met = met S reached stands; behind = behind S reached stands }
finds-so false project row course now met behind middle not_met =
    λ reached stands. record { middle = middle reached stands; not_met = not_met reached stands }

pub finds-as : (result : Bool) (p q : Project) (row other : Row) (course : Course) (now : MomentSearch) → p ≡ q
    → row ≡ other → FindsSo result p row course now → FindsSo result q other course now
finds-as result p q row other course now same alike finds =
    subst (λ (r : Row). FindsSo result q r course now) alike
    (subst (λ (x : Project). FindsSo result x row course now) same finds)

-- ---- room

-- a record that was read into has the counts that it had
pub entry-kept : (project : Project) (row row' : RecordRoom) (part part' : PartRoom)
    → IsEntryFor project (record { row = row; part = part }) → header_of row' ≡ header_of row
    → part'.junctions ≡ part.junctions → IsEntryFor project (record { row = row'; part = part' })
entry-kept project row row' part part' is same room = record {
  header = same ∙ is.header;
  part = room ∙ (is.part ∙ sym (ap (λ (h : Header). h.junctions) same));
}

pub entry-of-project : (p p' : Project) (entry : Entry) → p' ≡ p → IsEntryFor p entry → IsEntryFor p' entry
entry-of-project p p' entry e is = subst (λ (q : Project). IsEntryFor q entry) (sym e) is

pub moments-of-project : (p p' : Project) (moments : MomentSearch) → p' ≡ p → AreFor p moments → AreFor p' moments
moments-of-project p p' moments e are = subst (λ (q : Project). AreFor q moments) (sym e) are

-- ---- one turn after another

-- a turn that began elsewhere in the search is one of it
module _ (p p' : Project) (left next : Standing) (course after_it : Course) (before now : CheckMoment) (ep : p' ≡ p)
    (S : ℕ) (start : CheckMoment) (so : IsFoundSoFar p S left course start before) where
  so-there : IsFoundSoFar p' S left course start before
  so-there = subst (λ (q : Project). IsFoundSoFar q S left course start before) (sym ep) so

  pub turn-goes-on : TurnGives (Ok None) p' left next course after_it before now
      → IsFoundSoFar p S next after_it start now
  turn-goes-on gives = subst (λ (q : Project). IsFoundSoFar q S next after_it start now) ep (gives S start so-there)

  pub turn-halts : (end : SearchEnd) → TurnGives (Ok (Some end)) p' left next course after_it before now
      → IsHalted end p S start now
  turn-halts end gives = subst (λ (q : Project). IsHalted end q S start now) ep (gives S start so-there)

  pub turn-breaks : (fault : SearchFault) → TurnGives (Err fault) p' left next course after_it before now
      → IsBroken fault p S start now
  turn-breaks fault gives = subst (λ (q : Project). IsBroken fault q S start now) ep (gives S start so-there)

-- ---- the END line

-- it was put in, and all went out
pub whole-there : (end : SearchEnd) (project : Project) (S : ℕ) (start at_end mid now : CheckMoment)
    → IsHalted end project S start at_end → WrittenIn (witness_end end.periods) at_end mid
    → WrittenIn [] mid now → now.pen.held ≡ [] → end.periods < 2 ^ 32
    → IsWhole end project S start now
whole-there end project S start at_end mid now halted put none empty few = record {
  at_end = at_end;
  halted = halted;
  put = written-on (witness_end end.periods) at_end mid now put none;
  empty = empty;
  few = few;
}

-- a fault cut it off
module _ (end : SearchEnd) (project : Project) (S : ℕ) (start at_end : CheckMoment)
    (halted : IsHalted end project S start at_end) (fault : SearchFault) (now : CheckMoment)
    (few : end.periods < 2 ^ 32) where
  abbrev so-far : IsFoundSoFar project S halted.left halted.course start halted.at_last
  so-far = halted.so_far

  many-there : length so-far.moments ≡ end.periods
  many-there = so-far.each ∙ sym halted.periods

  pub end-broken : IsWriteCut fault (witness_end end.periods) at_end now
      → IsBroken fault project S start now
  end-broken cut = record {
    namings = so-far.check.namings;
    left = halted.left;
    is_run = so-far.check.is_run;
    moments = so-far.moments;
    each = so-far.each ∙ sym so-far.check.each;
    few = (let e = many-there in omega (arith, e, few));
    fit = so-far.fit;
    met = so-far.met;
    ending = witness_end end.periods;
    left_out = [];
    is_ending = append-nil (witness_end end.periods) ∙ ap witness_end (sym many-there);
    cut = cut-then fault (witness_so_far project S so-far.moments) (witness_end end.periods) start at_end now
        (written-on (witness_so_far project S so-far.moments) start halted.at_last at_end so-far.put halted.put)
        cut;
  }
