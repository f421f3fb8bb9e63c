-- A run with a slack is the only one with its records, whatever the slack, and a record that stands behind them in
-- another run is valid where it ends. So no record of the certificate of such a run is refused, nor is its end line.
use Rattle.std.proofs.Common.{◌≡◌, ℕ, suc, ◌+◌, ◌≤◌, List, [], ◌∷◌, ◌++◌, length, map, refl, sym, ap, ap₂, subst}
use Rattle.std.proofs.Common.{◌∙◌, append_assoc, append-nil, length-append, arith, ◌⊎◌, inl, inr}
use Rattle.std.proofs.lemmas.List.{append_cancel_left}
use Rattle.std.proofs.lemmas.Bool.{cases_lt}
use Rattle.std.specs.Prelude.{Option}
use Rattle.hyd_spec.specs.ProgramTypes.{Project}
use Rattle.hyd_spec.specs.Lists.{joined}
use Rattle.hyd_spec.specs.NodeNumbers.{junction_count, tank_count}
use Rattle.hyd_spec_certificates.specs.Interval.{Interval}
use Rattle.hyd_spec_certificates.specs.PeriodNetwork.{Grid}
use Rattle.hyd_spec_certificates.specs.CertificateText.{header_line}
use Rattle.hyd_spec_certificates.specs.Valid.{AreStates}
use Rattle.hyd_spec_certificates.specs.declared.CertRefused.{CertRefused}
use Rattle.hyd_spec_certificates.specs.declared.StopCause.{StopCause}
use Rattle.hyd_spec_reports.specs.PromisesOfRunsAndChecks.{Sharpness, Outcome}
use Rattle.hyd_spec_reports.specs.ReportLine.{refused_line}
use Rattle.hyd_spec_open_ends.specs.OpenStandings.{OpenStanding, OpenRecord, initial_open_standing}
use Rattle.hyd_spec_open_ends.specs.OpenEnds.{Way, first_end, late_at_end}
use Rattle.hyd_spec_open_ends.specs.Arrivals.{Arrives}
use Rattle.hyd_spec_open_ends.specs.OpenRecords.{LeadsOnOpenly, continues, finishes, IsValidOpenly, levels_left}
use Rattle.hyd_spec_open_ends.specs.OpenRecords.{volumes_left, links_left}
use Rattle.hyd_spec_open_ends.specs.OpenRuns.{OpenFound, IsOpenRunFrom, none, more}
use Rattle.hyd_spec_open_ends.specs.OpenCertificateText.{open_version, open_record_text}
use Rattle.hyd_spec_open_ends.specs.OpenCertificateText.{IsOpenCertificateText}
use Rattle.hyd_spec_open_ends.specs.PromisesOfOpenRuns.{open_rows_of, RunWritesOpenly, CheckAcceptsOpenly}
use Rattle.hyd_spec_open_reports.specs.OpenReportLine.{OpenLine, open_report_text}
use Rattle.hyd_spec_open_reports.specs.OpenReport.{IsOpenReport}
use Rattle.hyd_spec_open_reports.specs.PromisesOfOpenReports.{Reported, AreReports, periods_of, open_lines_of}
use Rattle.hyd_spec_open_reports.specs.PromisesOfOpenReports.{RunTellsOpenly}
use Rattle.hyd_spec_open_refusals.specs.RefusedOpenRecords.{IsRefusedOpenly}
use Rattle.hyd_spec_open_refusals.specs.RefusalsOfOpenChecks.{CheckRefusesOpenly, CheckRefusesOpenEnd}
use Rattle.hyd_lemmas.proofs.ListsOptionsAndResults.{somes_same}
use Rattle.hyd_theorems_on_definitions.proofs.OneGrid.{one_grid}
use Rattle.hyd_theorems_on_open_ends.proofs.OneOpenEnd.{one_way}
use Rattle.hyd_theorems_on_open_ends.proofs.AcceptedOpenRuns.{accepted}
use Rattle.hyd_theorems_on_open_stops.proofs.ArrivalsDecided.{one_reached}
use Rattle.hyd_theorems_on_open_reports.proofs.OneOpenReport.{one_open_report}
use Rattle.hyd_theorems_on_open_reports.proofs.EveryLineHolds.{told_again}
use Rattle.hyd_theorems_on_open_refusals.proofs.OneOpenRefusal.{refused_invalid, one_refusal}
use Rattle.hyd_theorems_on_open_refusals.proofs.OpenTexts.{one_reading, first_records, fronts_of_text}

-- ---- one period

module _ (project : Project) where
  -- a record leads on to one standing
  one-next : (grid : Grid) (standing : OpenStanding) (found : OpenRecord) (a b : OpenStanding)
      → LeadsOnOpenly project grid standing found a → LeadsOnOpenly project grid standing found b → a ≡ b
  one-next grid standing found a b (continues c) (continues d) =
      let ways = one_way project grid standing found.row c.way d.way c.ends d.ends in
      let reached = one_reached project grid standing.known found.row d.way c.reached d.reached
      (subst (λ w. Arrives project grid standing.known found.row w c.reached) ways c.arrives) d.arrives in
      let levels = c.levels ∙ (ap (levels_left project grid standing.known found) reached ∙ sym d.levels) in
      let volumes = c.volumes ∙ (ap (volumes_left project grid standing.known found) reached ∙ sym d.volumes) in
      let tanks = somes_same a.known.tanks b.known.tanks (sym c.tanks
      ∙ subst (λ (ls : List Interval). AreStates project ls b.known.tanks) (sym levels) d.tanks) in
      let commanded = c.commanded ∙ (ap (links_left project grid standing found.row) ways ∙ sym d.commanded) in
      let number = c.number ∙ sym d.number in
      let time = c.time ∙ (ap (λ (w : Way). standing.known.time + first_end w) ways ∙ sym d.time) in
      let late = c.late ∙ (ap (λ (w : Way). late_at_end standing.late w) ways ∙ sym d.late) in
      let finished = c.unfinished ∙ sym d.unfinished in
      λ i. record {
        known = record {
          number = number i;
          time = time i;
          levels = levels i;
          volumes = volumes i;
          tanks = tanks i;
          commanded = commanded i;
          finished = finished i;
        };
        late = late i;
      }
  one-next grid standing found a b (continues c) (finishes f) = absurd (c.not_last f.is_last)
  one-next grid standing found a b (finishes f) (continues c) = absurd (c.not_last f.is_last)
  one-next grid standing found a b (finishes f) (finishes g) =
      let known = f.next_known ∙ sym g.next_known in
      let late = f.next_late ∙ sym g.next_late in
      λ i. record { known = known i; late = late i }

  abbrev IsValid : OpenFound → Type 0
  IsValid here = IsValidOpenly project here.standing here.grid here.found here.next

  -- what is found of a record at a standing is one
  pub one-found : (a b : OpenFound) → a.standing ≡ b.standing → a.found ≡ b.found → IsValid a → IsValid b → a ≡ b
  one-found a b standing found x y =
      let at : IsValidOpenly project a.standing b.grid b.found b.next =
      subst (λ (s : OpenStanding). IsValidOpenly project s b.grid b.found b.next) (sym standing) y in
      let grid = one_grid project a.standing.known a.grid b.grid x.is_grid at.is_grid in
      let too : IsValidOpenly project a.standing a.grid a.found b.next =
      subst (λ (f : OpenRecord). IsValidOpenly project a.standing a.grid f b.next) (sym found)
      (subst (λ (g : Grid). IsValidOpenly project a.standing g b.found b.next) (sym grid) at) in
      let next = one-next a.grid a.standing a.found a.next b.next x.leads_on too.leads_on in
      λ i. record { standing = standing i; grid = grid i; found = found i; next = next i }

  -- ---- from period to period

  -- the first period of a run, and the rest
  record Steps (slack : ℕ) (start : OpenStanding) (here : OpenFound) (rest : List OpenFound) (last : OpenStanding) :
      Type 0 where
    begins : here.standing ≡ start
    valid : IsValid here
    goes_on : IsOpenRunFrom project slack here.next rest last

  steps : (slack : ℕ) (start : OpenStanding) (here : OpenFound) (rest : List OpenFound) (last : OpenStanding)
      → IsOpenRunFrom project slack start (here ∷ rest) last → Steps slack start here rest last
  steps slack _ here rest last (more is within on) = record { begins = refl; valid = is; goes_on = on }

  -- a run of no periods ends where it begins
  ends-here : (slack : ℕ) (start last : OpenStanding) → IsOpenRunFrom project slack start [] last → start ≡ last
  ends-here slack start last run = over start [] last run refl
    where
      over : (s : OpenStanding) (fs : List OpenFound) (l : OpenStanding) → IsOpenRunFrom project slack s fs l
          → fs ≡ [] → s ≡ l
      over _ _ l none e = refl
      over _ _ l (more is within on) e = absurd (cc)

  -- two first periods with one record are the same, and the second run goes on from the first one's standing
  record OneFirst (slack : ℕ) (a b : OpenFound) (ys : List OpenFound) (other : OpenStanding) : Type 0 where
    same : a ≡ b
    goes_on : IsOpenRunFrom project slack a.next ys other

  one-first : (m n : ℕ) (start : OpenStanding) (a b : OpenFound) (xs ys : List OpenFound) (last other : OpenStanding)
      → IsOpenRunFrom project m start (a ∷ xs) last → IsOpenRunFrom project n start (b ∷ ys) other
      → a.found ≡ b.found → OneFirst n a b ys other
  one-first m n start a b xs ys last other x y found =
      let s = steps m start a xs last x in
      let t = steps n start b ys other y in
      let first = one-found a b (s.begins ∙ sym t.begins) found s.valid t.valid in
      record {
        same = first;
        goes_on = subst (λ (next : OpenStanding). IsOpenRunFrom project n next ys other)
            (ap (λ (f : OpenFound). f.next) (sym first)) t.goes_on;
      }

  -- runs with the same records are the same and leave one standing
  record OneRun (xs ys : List OpenFound) (last other : OpenStanding) : Type 0 where
    periods : xs ≡ ys
    leaves : last ≡ other

  one-run : (m n : ℕ) (start : OpenStanding) (xs ys : List OpenFound) (last other : OpenStanding)
      → IsOpenRunFrom project m start xs last → IsOpenRunFrom project n start ys other
      → open_rows_of xs ≡ open_rows_of ys → OneRun xs ys last other
  one-run m n start [] [] last other x y e = record {
    periods = refl;
    leaves = sym (ends-here m start last x) ∙ ends-here n start other y;
  }
  one-run m n start [] (b ∷ ys) last other x y e = absurd (cc)
  one-run m n start (a ∷ xs) [] last other x y e = absurd (cc)
  one-run m n start (a ∷ xs) (b ∷ ys) last other x y e =
      let found : a.found ≡ b.found = cc in
      let others : open_rows_of xs ≡ open_rows_of ys = cc in
      let first = one-first m n start a b xs ys last other x y found in
      let rest = one-run m n a.next xs ys last other (steps m start a xs last x).goes_on first.goes_on others in
      record { periods = ap₂ (λ f fs. f ∷ fs) first.same rest.periods; leaves = rest.leaves }

  -- ---- a record behind a run

  -- the record is valid at the standing
  record IsValidAt (standing : OpenStanding) (found : OpenRecord) : Type 0 where
    grid : Grid
    next : OpenStanding
    valid : IsValidOpenly project standing grid found next

  next-valid : (m n : ℕ) (start : OpenStanding) (xs ys : List OpenFound) (found : OpenRecord) (rows : List OpenRecord)
      (last other : OpenStanding) → IsOpenRunFrom project m start xs last → IsOpenRunFrom project n start ys other
      → open_rows_of ys ≡ open_rows_of xs ++ (found ∷ rows) → IsValidAt last found
  next-valid m n start [] [] found rows last other x y e = absurd (cc)
  next-valid m n start [] (b ∷ ys) found rows last other x y e =
      let same : b.found ≡ found = cc in
      let s = steps n start b ys other y in
      record {
        grid = b.grid;
        next = b.next;
        valid = subst (λ (f : OpenRecord). IsValidOpenly project last b.grid f b.next) same
            (subst (λ (t : OpenStanding). IsValidOpenly project t b.grid b.found b.next)
            (s.begins ∙ ends-here m start last x) s.valid);
      }
  next-valid m n start (a ∷ xs) [] found rows last other x y e = absurd (cc)
  next-valid m n start (a ∷ xs) (b ∷ ys) found rows last other x y e =
      let same : a.found ≡ b.found = cc in
      let others : open_rows_of ys ≡ open_rows_of xs ++ (found ∷ rows) = cc in
      let first = one-first m n start a b xs ys last other x y same in
      next-valid m n a.next xs ys found rows last other (steps m start a xs last x).goes_on first.goes_on others

  -- ---- refusals

  -- a record that is refused doesn't stand behind those before it in a run
  none-refused : (m n : ℕ) (xs ys : List OpenFound) (last other : OpenStanding) (found : OpenRecord)
      (cause : CertRefused) (rows : List OpenRecord)
      → IsOpenRunFrom project m (initial_open_standing project) xs last → IsRefusedOpenly project last found cause
      → IsOpenRunFrom project n (initial_open_standing project) ys other
      → open_rows_of ys ≡ (open_rows_of xs ++ (found ∷ [])) ++ rows → ⊥
  none-refused m n xs ys last other found cause rows x refused y e =
      let at = next-valid m n (initial_open_standing project) xs ys found rows last other x y
      (e ∙ append_assoc (open_rows_of xs) (found ∷ []) rows) in
      refused_invalid project last found cause refused at.grid at.next at.valid

  pub no_record_refused : (text printed : List ℕ) (cause : CertRefused) → CheckAcceptsOpenly project text
      → CheckRefusesOpenly project text printed cause → ⊥
  no_record_refused text printed cause is refuses =
      let front = first_records text refuses.unread (junction_count project) (tank_count project) (length is.founds)
      (open_rows_of is.founds) (open_rows_of (periods_of refuses.reports) ++ (refuses.found ∷ []))
      is.left.known.finished is.certificate refuses.rows_fit refuses.is_text in
      none-refused refuses.slack is.slack (periods_of refuses.reports) is.founds refuses.left is.left refuses.found
      cause front.0 refuses.is_run refuses.refused is.is_run front.1

  periods-long : (reports : List Reported) → length (periods_of reports) ≡ length reports
  periods-long [] = refl
  periods-long (each ∷ reports) = ap suc (periods-long reports)

  pub no_end_refused : (text printed : List ℕ) → CheckAcceptsOpenly project text
      → CheckRefusesOpenEnd project text printed → ⊥
  no_end_refused text printed is refuses =
      let one = one_reading text (junction_count project) (tank_count project) (length is.founds) refuses.periods
      (open_rows_of is.founds) (open_rows_of (periods_of refuses.reports)) is.left.known.finished refuses.finished
      is.certificate refuses.certificate in
      let run = one-run is.slack refuses.slack (initial_open_standing project) is.founds
      (periods_of refuses.reports) is.left refuses.left is.is_run refuses.is_run one.0 in
      refuses.other_end (
        sym one.1.0 ∙ (ap length run.periods ∙ periods-long refuses.reports),
        sym one.1.1 ∙ ap (λ (s : OpenStanding). s.known.finished) run.leaves,
      )

  -- what a run tells is accepted
  pub tells_accepted : (slack rounds : ℕ) (sharpness : Sharpness) (outcome : Outcome) (written printed : List ℕ)
      → RunTellsOpenly project slack rounds sharpness outcome written printed → CheckAcceptsOpenly project written
  tells_accepted slack rounds sharpness outcome written printed run =
      let told = told_again project slack rounds sharpness outcome written printed run in
      record {
        slack = told.slack;
        founds = periods_of told.reports;
        left = told.left;
        is_run = told.is_run;
        certificate = subst (λ n. IsOpenCertificateText written
            (junction_count project) (tank_count project) (open_rows_of (periods_of told.reports)) n
            told.left.known.finished) (sym (periods-long told.reports)) told.certificate;
        every_history = told.every_history;
      }

  pub writes_accepted : (slack rounds : ℕ) (stop : Option StopCause) (written : List ℕ)
      → RunWritesOpenly project slack rounds stop written → CheckAcceptsOpenly project written
  writes_accepted slack rounds stop written run = accepted project slack rounds stop written run

  -- ---- one answer

  one-lines : (xs ys : List Reported) → periods_of xs ≡ periods_of ys → AreReports project xs → AreReports project ys
      → open_lines_of xs ≡ open_lines_of ys
  one-lines [] [] e x y = refl
  one-lines [] (b ∷ ys) e x y = absurd (cc)
  one-lines (a ∷ xs) [] e x y = absurd (cc)
  one-lines (a ∷ xs) (b ∷ ys) e x y =
      let here : a.here ≡ b.here = cc in
      let others : periods_of xs ≡ periods_of ys = cc in
      let lines = one_open_report project a.here.grid a.here.standing a.here.found a.lines b.lines x.0
      (subst (λ (h : OpenFound). IsOpenReport project h.grid h.standing h.found b.lines) (sym here) y.0) in
      ap₂ (λ (ls ms : List OpenLine). ls ++ ms) lines (one-lines xs ys others x.1 y.1)

  last-same : {X : Type 0} (a b : List X) (x y : X) → a ++ (x ∷ []) ≡ b ++ (y ∷ []) → (a ≡ b) × (x ≡ y)
  last-same [] [] x y e = (refl, cc)
  last-same [] (z ∷ b) x y e =
      let n = ap length e in let m = length-append b (y ∷ []) in absurd (omega (arith, n, m))
  last-same (z ∷ a) [] x y e =
      let n = ap length e in let m = length-append a (x ∷ []) in absurd (omega (arith, n, m))
  last-same (w ∷ a) (z ∷ b) x y e =
      let same : w ≡ z = cc in let after : a ++ (x ∷ []) ≡ b ++ (y ∷ []) = cc in let rest = last-same a b x y after in
      (ap₂ (λ c cs. c ∷ cs) same rest.0, rest.1)

  -- a list that begins with all of another and an item more, and has an item behind, begins with it before its last one
  before-last : {X : Type 0} (front whole : List X) (last y : X) (rest : List X)
      → whole ++ (last ∷ []) ≡ front ++ (y ∷ rest) → (more : List X) × ((front ≡ whole) ⊎ (whole ≡ front ++ (y ∷ more)))
  before-last [] [] last y rest e = ([], inl refl)
  before-last [] (w ∷ whole) last y rest e =
      let same : w ≡ y = cc in (whole, inr (ap (λ z. z ∷ whole) same))
  before-last (x ∷ front) [] last y rest e =
      let n = ap length e in let m = length-append front (y ∷ rest) in absurd (omega (arith, n, m))
  before-last (x ∷ front) (w ∷ whole) last y rest e =
      let same : w ≡ x = cc in
      let after : whole ++ (last ∷ []) ≡ front ++ (y ∷ rest) = cc in
      let k = before-last front whole last y rest after in (
        k.0,
        elim k.1 [
          | inl f ↦ inl (ap₂ (λ z zs. z ∷ zs) (sym same) f)
          | inr f ↦ inr (ap₂ (λ z zs. z ∷ zs) same f)
        ],
      )

  -- of two records that are refused neither stands before the other
  one-front : (text printed other : List ℕ) (a b : CertRefused) (x : CheckRefusesOpenly project text printed a)
      (y : CheckRefusesOpenly project text other b)
      → length (open_rows_of (periods_of x.reports) ++ (x.found ∷ []))
      ≤ length (open_rows_of (periods_of y.reports) ++ (y.found ∷ []))
      → (open_rows_of (periods_of x.reports) ≡ open_rows_of (periods_of y.reports)) × (x.found ≡ y.found)
  one-front text printed other a b x y le =
      let xs = open_rows_of (periods_of x.reports) in
      let ys = open_rows_of (periods_of y.reports) in
      let header = header_line open_version (junction_count project) (tank_count project) in
      let k = fronts_of_text (junction_count project) (tank_count project) (xs ++ (x.found ∷ []))
      (ys ++ (y.found ∷ [])) x.rows_fit y.rows_fit x.unread y.unread
      (append_cancel_left header (joined (map open_record_text (xs ++ (x.found ∷ []))) ++ x.unread)
      (joined (map open_record_text (ys ++ (y.found ∷ []))) ++ y.unread) (sym x.is_text ∙ y.is_text)) le in
      let at = before-last xs ys y.found x.found k.0 (k.1 ∙ append_assoc xs (x.found ∷ []) k.0) in
      elim at.1 [
        | inr within ↦ absurd (none-refused x.slack y.slack (periods_of x.reports) (periods_of y.reports) x.left y.left
            x.found a at.0 x.is_run x.refused y.is_run (within ∙ sym (append_assoc xs (x.found ∷ []) at.0)))
        | inl same ↦
            let n = ap length k.1 in
            let m = length-append (xs ++ (x.found ∷ [])) k.0 in
            let p = length-append xs (x.found ∷ []) in
            let q = length-append ys (y.found ∷ []) in
            let r = ap length same in
            let nothing : k.0 ≡ [] = no-items k.0 (omega (arith, n, m, p, q, r)) in
            last-same xs ys x.found y.found
            (sym (append-nil (xs ++ (x.found ∷ []))) ∙ (ap (λ t. (xs ++ (x.found ∷ [])) ++ t) (sym nothing) ∙ sym k.1))
      ]
    where
      no-items : {X : Type 0} (zs : List X) → length zs ≡ 0 → zs ≡ []
      no-items [] e = refl
      no-items (z ∷ zs) e = absurd (omega (arith, e))

  by-front : (text printed other : List ℕ) (a b : CertRefused) (x : CheckRefusesOpenly project text printed a)
      (y : CheckRefusesOpenly project text other b)
      → open_rows_of (periods_of x.reports) ≡ open_rows_of (periods_of y.reports) → x.found ≡ y.found
      → (a ≡ b) × (printed ≡ other)
  by-front text printed other a b x y rows found =
      let run = one-run x.slack y.slack (initial_open_standing project) (periods_of x.reports) (periods_of y.reports)
      x.left y.left x.is_run y.is_run rows in
      let cause = one_refusal project x.left x.found a b x.refused
      (subst (λ s. IsRefusedOpenly project s x.found b) (sym run.leaves)
      (subst (λ f. IsRefusedOpenly project y.left f b) (sym found) y.refused)) in
      let lines = one-lines x.reports y.reports run.periods x.are_reports y.are_reports in (
        cause,
        x.report ∙ (ap₂ (λ ls c. open_report_text project ls (refused_line project c)) lines cause ∙ sym y.report),
      )

  pub one_answer : (text printed other : List ℕ) (a b : CertRefused) → CheckRefusesOpenly project text printed a
      → CheckRefusesOpenly project text other b → (a ≡ b) × (printed ≡ other)
  one_answer text printed other a b x y =
      elim (cases_lt (length (open_rows_of (periods_of y.reports) ++ (y.found ∷ [])))
      (length (open_rows_of (periods_of x.reports) ++ (x.found ∷ [])))) [
        | inr le ↦ let k = one-front text printed other a b x y le in by-front text printed other a b x y k.0 k.1
        | inl less ↦
            let k = one-front text other printed b a y x (omega (arith, less)) in
            let both = by-front text other printed b a y x k.0 k.1 in (sym both.0, sym both.1)
      ]
