-- At each standing of a run with a slack a record with the network's counts is valid, or it is refused by a cause.
use Rattle.std.proofs.Common.{◌≡◌, ◌≢◌, ℕ, zero, suc, ◌+◌, ◌*◌, ◌<◌, ◌≤◌, refl, sym, ap, subst, ◌∙◌, arith, Bool}
use Rattle.std.proofs.Common.{true, false, List, [], ◌∷◌, length, map, ◌⊎◌, inl, inr}
use Rattle.std.specs.Prelude.{Option, Some, None, slice_index_or, get_or, unsigned_abs, is_none, Contains, All}
use Rattle.std.specs.Prelude.{position}
use Rattle.std.specs.List.{AllZip}
use Rattle.std.proofs.lemmas.Bool.{cases_Bool, cases_eq, cases_lt}
use Rattle.std.proofs.lemmas.Option.{slice_get_within, slice_get-get_or, get_or_from_slice_get}
use Rattle.hyd_net.specs.Sound.{IsSound}
use Rattle.hyd_spec.specs.ProgramTypes.{Project, Junction, Tank, Control}
use Rattle.hyd_spec.specs.declared.TankState.{TankState}
use Rattle.hyd_spec.specs.Lists.{Each, map_from}
use Rattle.hyd_spec.specs.NodeNumbers.{junction_count, tank_count}
use Rattle.hyd_spec.specs.DemandsHeadsAndPumpLifts.{demand_of}
use Rattle.hyd_spec_certificates.specs.declared.Problem.{Problem}
use Rattle.hyd_spec_certificates.specs.declared.Problem.TheVariants.{Main, Pinned}
use Rattle.hyd_spec_certificates.specs.declared.Side.{Side}
use Rattle.hyd_spec_certificates.specs.declared.Side.TheVariants.{Upper, Lower}
use Rattle.hyd_spec_certificates.specs.declared.CertRefused.{CertRefused}
use Rattle.hyd_spec_certificates.specs.declared.CertRefused.TheVariants.{Place, Demand, Fails, Open as MatterOpen}
use Rattle.hyd_spec_certificates.specs.declared.CertRefused.TheVariants.{Length, After}
use Rattle.hyd_spec_certificates.specs.Interval.{Interval}
use Rattle.hyd_spec_certificates.specs.Stocks.{state_of}
use Rattle.hyd_spec_certificates.specs.ThreeValuedLogic.{is_unknown}
use Rattle.hyd_spec_certificates.specs.PeriodNetwork.{Grid, IsJunctionOf}
use Rattle.hyd_spec_certificates.specs.Certificate.{IsCertificate}
use Rattle.hyd_spec_certificates.specs.RecordAndStanding.{Record, no_vectors, vector_of}
use Rattle.hyd_spec_certificates.specs.Decided.{Watch, nowhere, control_truth}
use Rattle.hyd_spec_certificates.specs.Valid.{IsProblem, IsGridAt, demand_limit, DemandsAreInRange, AreCertificates}
use Rattle.hyd_spec_certificates.specs.Valid.{AreStates, ControlsAreDecided}
use Rattle.hyd_spec_certificates.specs.Stops.{open_states, is_open_control}
use Rattle.hyd_spec_certificates.specs.TurnsOfProblems.{turn}
use Rattle.hyd_spec_certificates.specs.RefusedRecords.{IsFirstToFail, refused_period}
use Rattle.hyd_spec_open_ends.specs.InstantsOfClock.{duration as is_duration}
use Rattle.hyd_spec_open_ends.specs.OpenStandings.{OpenStanding, OpenRecord}
use Rattle.hyd_spec_open_ends.specs.OpenEnds.{Way, EndsIn, by_rules, by_instant, by_watched, first_end, late_at_end}
use Rattle.hyd_spec_open_ends.specs.OpenEnds.{shortest_length, longest_length}
use Rattle.hyd_spec_open_ends.specs.Arrivals.{Arrives}
use Rattle.hyd_spec_open_ends.specs.OpenRecords.{LeadsOnOpenly, continues, finishes, IsValidOpenly, levels_left}
use Rattle.hyd_spec_open_ends.specs.OpenRecords.{volumes_left, links_left}
use Rattle.hyd_spec_open_ends.specs.OpenCertificateText.{IsOpenRow}
use Rattle.hyd_spec_open_refusals.specs.RefusedOpenRecords.{IsDueOpenly, lasting, AreLevelsLeft, LeavesMatterOpen}
use Rattle.hyd_spec_open_refusals.specs.RefusedOpenRecords.{end as open_end}
use Rattle.hyd_spec_open_refusals.specs.RefusedOpenRecords.{tank as open_tank, control as open_control, HasLengths}
use Rattle.hyd_spec_open_refusals.specs.RefusedOpenRecords.{HasOtherLengths, at_end}
use Rattle.hyd_spec_open_refusals.specs.RefusedOpenRecords.{before_end, HasItsGridOpenly}
use Rattle.hyd_spec_open_refusals.specs.RefusedOpenRecords.{IsCertifiedOpenly, IsRefusedOpenlyBy, IsRefusedOpenly}
use Rattle.hyd_theorems_on_raises.proofs.CertificateOrFailure.{certificate-or-fails}
use Rattle.hyd_theorems_on_raises.proofs.FirstItemsAndChoices.{Lacks, each-or-lacks}
use Rattle.hyd_theorems_on_histories.proofs.WatchedLevels.{contains-here, contains-later}
use Rattle.hyd_theorems_on_nesting.proofs.FirstPassingItem.{HasNone, find_or_none}
use Rattle.hyd_theorems_on_nesting.proofs.GridsExist.{grid_is}
use Rattle.hyd_theorems_on_open_ends.specs.WaysInside.{HasFate, Ends, IsOpen}
use Rattle.hyd_theorems_on_open_ends.proofs.OneOpenEnd.{one_way, not_both}
use Rattle.hyd_theorems_on_open_ends.proofs.StopsAtTightVectors.{every_fate}
use Rattle.hyd_theorems_on_open_standings.specs.FirmStandings.{IsFirm}
use Rattle.hyd_theorems_on_open_standings.proofs.StandingsAreFirm.{self_nested}
use Rattle.hyd_theorems_on_open_stops.proofs.ArrivalsDecided.{arrival_is, one_reached}
use Rattle.hyd_theorems_on_open_refusals.proofs.OneOpenRefusal.{same-turn, lasts-so, open-not-last}

-- ---- lists

all-of : {X : Type 0} (P : X → Type 0) (xs : List X) → Each xs (λ k x. P x) → All P xs
all-of P xs each k d lt = each k (get_or xs k d) (slice_get-get_or xs k d lt)

not-all : {X : Type 0} (P : X → Type 0) (xs : List X) → Lacks (λ k x. P x) xs → All P xs → ⊥
not-all P xs lacks all =
    lacks.lacks (subst P (get_or_from_slice_get xs lacks.place lacks.item lacks.item lacks.is_item)
    (all lacks.place lacks.item (slice_get_within xs lacks.place lacks.item lacks.is_item)))

zip-long : {X Y : Type 0} (R : X → Y → Type 0) (xs : List X) (ys : List Y) → AllZip R xs ys → length ys ≡ length xs
zip-long R [] [] zip = refl
zip-long R [] (y ∷ ys) zip = absurd zip
zip-long R (x ∷ xs) [] zip = absurd zip
zip-long R (x ∷ xs) (y ∷ ys) zip = let rest = zip-long R xs ys zip.1 in omega (arith, rest)

none-is : (X : Type 0) (o : Option X) → is_none o ≡ false → (x : X) × (o ≡ Some x)
none-is X None e = absurd (cc)
none-is X (Some x) e = (x, refl)

-- states of tanks, where none is open
states-of : (f : ℕ → Tank → Option TankState) (from : ℕ) (tanks : List Tank)
    → ((b : Bool) → Contains (map_from (λ k tank. is_none (f k tank)) from tanks) b → b ≡ false)
    → (states : List TankState) × (map_from f from tanks ≡ map Some states)
states-of f from [] shut = ([], refl)
states-of f from (tank ∷ tanks) shut =
    let first =
    none-is TankState (f from tank) (shut (is_none (f from tank)) (contains-here Bool (is_none (f from tank)) _))
    in
    let rest = states-of f (suc from) tanks (λ b c. shut b (contains-later Bool b (is_none (f from tank)) _ c)) in
    (first.0 ∷ rest.0, λ i. first.1 i ∷ rest.1 i)

-- ---- vectors

module _ (project : Project) (grid : Grid) (row : Record)
    (long : (problem : Problem) (side : Side) → IsProblem project problem
    → length (vector_of row problem side) ≡ length grid.junctions) where
  -- all vectors whose turn comes before are certificates
  abbrev AllBefore : ℕ → Type 0
  AllBefore n = (problem : Problem) (side : Side) → IsProblem project problem → turn problem side < n
      → IsCertificate grid problem side (vector_of row problem side)

  record SomeFails : Type 0 where
    problem : Problem
    side : Side
    junction : ℕ
    first : IsFirstToFail project grid row problem side junction

  step : (problem : Problem) (side : Side) (n m : ℕ) → IsProblem project problem → turn problem side ≡ n → suc n ≡ m
      → AllBefore n → AllBefore m ⊎ SomeFails
  step problem side n m is at next all =
      elim (certificate-or-fails None grid problem side (vector_of row problem side) (long problem side is)) [
        | inl certificate ↦ inl (λ other way of before. elim (cases_lt (turn other way) n) [
          | inl less ↦ all other way of less
          | inr ge ↦
              let same = same-turn problem other side way (omega (arith, at, next, before, ge)) in
              subst (λ p. IsCertificate grid p way (vector_of row p way)) same.0
              (subst (λ s. IsCertificate grid problem s (vector_of row problem s)) same.1 certificate)
        ])
        | inr fails ↦ inr (record {
          problem = problem;
          side = side;
          junction = fails.0;
          first = record {
            is_problem = is;
            earlier = λ before other of less. all before other of (omega (arith, less, at));
            fails = fails.1.1;
          };
        })
      ]

  both : (a b c : ℕ) (problem : Problem) → IsProblem project problem → turn problem Upper ≡ a
      → turn problem Lower ≡ b → suc a ≡ b → suc b ≡ c → AllBefore a → AllBefore c ⊎ SomeFails
  both a b c problem is upper lower next last all = elim (step problem Upper a b is upper next all) [
    | inr fails ↦ inr fails
    | inl more ↦ step problem Lower b c is lower last more
  ]

  walk : (k : ℕ) → k ≤ tank_count project → AllBefore (2 * k + 2) ⊎ SomeFails
  walk zero le = both 0 1 (2 * 0 + 2) Main tt refl refl refl (omega arith) (λ p s of less. absurd (omega (arith, less)))
  walk (suc k) le = elim (walk k (omega (arith, le))) [
    | inr fails ↦ inr fails
    | inl all ↦ both (2 * k + 2) (2 * k + 3) (2 * suc k + 2) (Pinned k) (omega (arith, le)) refl refl (omega arith)
        (omega arith) all
  ]

  all-or-fails : length row.pinned ≡ tank_count project → AreCertificates project grid row ⊎ SomeFails
  all-or-fails pinned = elim (walk (tank_count project) (omega arith)) [
    | inr fails ↦ inr fails
    | inl all ↦ inl (record {
      pinned_each = pinned;
      each = λ problem side is. all problem side is (soon problem side is);
    })
  ]
    where
      soon : (problem : Problem) (side : Side) → IsProblem project problem
          → turn problem side < 2 * tank_count project + 2
      soon Main Upper is = omega arith
      soon Main Lower is = omega arith
      soon (Pinned k) Upper is = omega (arith, is)
      soon (Pinned k) Lower is = omega (arith, is)

-- ---- a record at a standing

module _ (project : Project) (sound : IsSound project) (standing : OpenStanding) (firm : IsFirm project standing)
    (found : OpenRecord) (fits : IsOpenRow (junction_count project) (tank_count project) found) where
  abbrev Answer : Type 0
  Answer = ((grid : Grid) × (next : OpenStanding) × IsValidOpenly project standing grid found next)
      ⊎ ((cause : CertRefused) × IsRefusedOpenly project standing found cause)

  refuse : (cause : CertRefused) → refused_period cause ≡ standing.known.number
      → IsRefusedOpenlyBy project standing found cause → Answer
  refuse cause period by = inr (cause, record { period_is = period; refused_by = by })

  abbrev number : ℕ
  number = standing.known.number

  in-range-or-not : DemandsAreInRange project standing.known.time ⊎ (DemandsAreInRange project standing.known.time → ⊥)
  in-range-or-not =
      elim (each-or-lacks (λ (k : ℕ) (junction : Junction).
      unsigned_abs (demand_of project standing.known.time junction) ≤ demand_limit)
      (λ k junction. within-or-not (unsigned_abs (demand_of project standing.known.time junction)))
      project.junctions.list) [
        | inl each ↦ inl (all-of (λ (junction : Junction).
            unsigned_abs (demand_of project standing.known.time junction) ≤ demand_limit) project.junctions.list each)
        | inr lacks ↦ inr (not-all (λ (junction : Junction).
            unsigned_abs (demand_of project standing.known.time junction) ≤ demand_limit) project.junctions.list lacks)
      ]
    where
      within-or-not : (n : ℕ) → (n ≤ demand_limit) ⊎ (n ≤ demand_limit → ⊥)
      within-or-not n = elim (cases_lt demand_limit n) [
        | inl over ↦ inr (λ le. omega (arith, over, le))
        | inr le ↦ inl le
      ]

  due-or-not : IsDueOpenly standing found ⊎ (IsDueOpenly standing found → ⊥)
  due-or-not = elim (cases_eq found.row.number standing.known.number) [
    | inr other ↦ inr (λ due. other due.number)
    | inl number_is ↦ elim (cases_eq found.row.time standing.known.time) [
      | inr other ↦ inr (λ due. other due.time)
      | inl time_is ↦ elim (cases_eq found.late standing.late) [
        | inr other ↦ inr (λ due. other due.late)
        | inl late_is ↦ inl (record { number = number_is; time = time_is; late = late_is })
      ]
    ]
  ]

  has-or-not : (shortest longest : ℕ) → HasLengths found shortest longest ⊎ (HasLengths found shortest longest → ⊥)
  has-or-not shortest longest = elim (cases_eq found.shortest shortest) [
    | inr other ↦ inr (λ has. other has.0)
    | inl short ↦ elim (cases_eq found.row.length longest) [
      | inr other ↦ inr (λ has. other has.1)
      | inl long ↦ inl (short, long)
    ]
  ]

  module _ (unfinished : standing.known.finished ≡ false) (due : IsDueOpenly standing found)
      (in_range : DemandsAreInRange project standing.known.time) (grid : Grid)
      (is_grid : IsGridAt project standing.known grid) where
    has-grid : HasItsGridOpenly project standing grid found
    has-grid = record {
      in_place = record { unfinished = unfinished; due = due };
      in_range = in_range;
      is_grid = is_grid;
    }

    one-each : length grid.junctions ≡ junction_count project
    one-each = zip-long (IsJunctionOf project standing.known.time) project.junctions.list grid.junctions
        is_grid.junctions

    long : (problem : Problem) (side : Side) → IsProblem project problem
        → length (vector_of found.row problem side) ≡ length grid.junctions
    long Main Upper is = fits.row.main_upper.one_each ∙ sym one-each
    long Main Lower is = fits.row.main_lower.one_each ∙ sym one-each
    long (Pinned k) Upper is =
        (fits.row.pinned_upper k no_vectors (let e = fits.row.pinned_each in omega (arith, is, e))).one_each
        ∙ sym one-each
    long (Pinned k) Lower is =
        (fits.row.pinned_lower k no_vectors (let e = fits.row.pinned_each in omega (arith, is, e))).one_each
        ∙ sym one-each

    module _ (certificates : AreCertificates project grid found.row) where
      certified : IsCertifiedOpenly project standing grid found
      certified = record { has_grid = has-grid; certificates = certificates }

      valid : (next : OpenStanding) → LeadsOnOpenly project grid standing found next → Answer
      valid next leads_on = inl (
        grid,
        next,
        record {
          unfinished = unfinished;
          number = due.number;
          time = due.time;
          late = due.late;
          demands = in_range;
          is_grid = is_grid;
          certificates = certificates;
          leads_on = leads_on;
        },
      )

      open-matter : LeavesMatterOpen project grid standing found → Answer
      open-matter is = refuse (MatterOpen number) refl (grid, (certified, is))

      other-length : (LeavesMatterOpen project grid standing found → ⊥)
          → HasOtherLengths project grid standing found → Answer
      other-length closed other = refuse (Length number) refl (grid, (certified, (closed, other)))

      -- ---- at the end of the run

      at-last : standing.known.time ≡ project.times.duration → Answer
      at-last last = elim (has-or-not 0 0) [
        | inr other ↦
            other-length (λ is. open-not-last project grid standing found is last) (at_end last other)
        | inl has ↦ valid
            (record { known = record standing.known { number = suc number; finished = true }; late = 0 })
            (finishes (record {
              is_last = last;
              no_shortest = has.0;
              no_length = has.1;
              next_known = refl;
              next_late = refl;
            }))
      ]

      -- ---- before it

      module _ (not_last : standing.known.time ≢ project.times.duration) where
        before : standing.known.time < project.times.duration
        before = elim (cases_lt standing.known.time project.times.duration) [
          | inl less ↦ less
          | inr ge ↦ absurd (not_last (let l = firm.tidy.in_time in omega (arith, ge, l)))
        ]

        -- no end is open by more seconds than the run has
        in-run : (way : Way) → EndsIn project grid standing found.row way
            → late_at_end standing.late way ≤ project.times.duration
        in-run _ (by_rules x first after in_time closed) = omega arith
        in-run _ (by_instant x same none) = omega arith
        in-run _ (by_watched x sooner none) =
            let a = x.is_cap.least project.times.duration (before, is_duration refl) in omega (arith, sooner, a)

        module _ (way : Way) (ends : EndsIn project grid standing found.row way) where
          arrival : (reached : Option Watch) × Arrives project grid standing.known found.row way reached
          arrival = arrival_is project grid standing.known found.row way

          abbrev levels : List Interval
          levels = levels_left project grid standing.known (lasting standing found way) arrival.0

          are-left : AreLevelsLeft project grid standing found levels
          are-left = record {
            way = way;
            ends = ends;
            reached = arrival.0;
            arrives = arrival.1;
            levels_are = refl;
          }

          -- other levels that are left are these
          left-same : (other : List Interval) → AreLevelsLeft project grid standing found other → other ≡ levels
          left-same other left =
              let ways = one_way project grid standing found.row left.way way left.ends ends in
              let reached = one_reached project grid standing.known found.row way left.reached arrival.0
              (subst (λ w. Arrives project grid standing.known found.row w left.reached) ways left.arrives)
              arrival.1 in
              left.levels_are
              ∙ ap (λ w. levels_left project grid standing.known (lasting standing found w) left.reached) ways
              ∙ ap (λ r. levels_left project grid standing.known (lasting standing found way) r) reached

          module _ (tanks : HasNone Bool (λ is_open. is_open) (open_states project levels))
              (controls : HasNone Control (is_open_control levels) project.controls.list) where
            closed : LeavesMatterOpen project grid standing found → ⊥
            closed (open_end other none) = none way ends
            closed (open_tank ls n left is) =
                let here = subst (λ l. position (λ is_open. is_open) (open_states project l) ≡ Some n)
                (left-same ls left) is in
                absurd (let none = tanks.is_none in cc)
            closed (open_control ls n left is) =
                let here = subst (λ l. position (is_open_control l) project.controls.list ≡ Some n)
                (left-same ls left) is in
                absurd (let none = controls.is_none in cc)

            decided : ControlsAreDecided project levels
            decided each k above ticks contained is =
                let shut = controls.fails each contained in
                let same : is_unknown (control_truth (slice_index_or levels k nowhere) above ticks) ≡ false =
                rw is at shut in same

            states : (states : List TankState) × AreStates project levels states
            states = states-of (λ k tank. state_of tank (slice_index_or levels k nowhere)) 0 project.tanks.list
                tanks.fails

            go-on : HasLengths found (shortest_length standing.late way) (longest_length way) → Answer
            go-on has =
                let same = lasts-so project grid standing found way has in
                valid
                (record {
                  known = record {
                    number = suc number;
                    time = standing.known.time + first_end way;
                    levels = levels_left project grid standing.known found arrival.0;
                    volumes = volumes_left project grid standing.known found arrival.0;
                    tanks = states.0;
                    commanded = links_left project grid standing found.row way;
                    finished = false;
                  };
                  late = late_at_end standing.late way;
                })
                (continues (record {
                  not_last = not_last;
                  way = way;
                  ends = ends;
                  reached = arrival.0;
                  arrives = arrival.1;
                  shortest = has.0;
                  longest = has.1;
                  levels = refl;
                  volumes = refl;
                  tanks = subst (λ f. AreStates project (levels_left project grid standing.known f arrival.0) states.0)
                      same states.1;
                  controls = subst (λ f. ControlsAreDecided project
                      (levels_left project grid standing.known f arrival.0)) same decided;
                  commanded = refl;
                  number = refl;
                  time = refl;
                  late = refl;
                  unfinished = refl;
                }))

            by-lengths : Answer
            by-lengths = elim (has-or-not (shortest_length standing.late way) (longest_length way)) [
              | inl has ↦ go-on has
              | inr other ↦ other-length closed (before_end way ends other)
            ]

          by-way : Answer
          by-way = elim (find_or_none Bool (λ is_open. is_open) (open_states project levels)) [
            | inl passing ↦ open-matter (open_tank levels passing.place are-left passing.is_place)
            | inr none ↦ elim (find_or_none Control (is_open_control levels) project.controls.list) [
              | inl passing ↦ open-matter (open_control levels passing.place are-left passing.is_place)
              | inr shut ↦ by-lengths none shut
            ]
          ]

        by-fate : HasFate project grid standing found.row project.times.duration → Answer
        by-fate (Ends way ends within) = by-way way ends
        by-fate (IsOpen what is) = open-matter (open_end not_last (λ way ends.
            not_both project grid standing found.row project.times.duration way what ends (in-run way ends) is))

      by-time : Answer
      by-time = elim (cases_eq standing.known.time project.times.duration) [
        | inl last ↦ at-last last
        | inr other ↦ by-fate other (every_fate project grid standing found.row
            (self_nested project sound standing grid found.row firm is_grid certificates) (before other)
            project.times.duration)
      ]

    by-vectors : Answer
    by-vectors = elim (all-or-fails project grid found.row long fits.row.pinned_each) [
      | inl certificates ↦ by-time certificates
      | inr some ↦ refuse (Fails number some.problem some.side some.junction) refl
          (grid, (has-grid, some.first))
    ]

  pub valid_or_refused : Answer
  valid_or_refused = elim (cases_Bool standing.known.finished) [
    | inl over ↦ refuse (After number) refl over
    | inr unfinished ↦ elim due-or-not [
      | inr other ↦ refuse (Place number) refl (unfinished, other)
      | inl due ↦ elim in-range-or-not [
        | inr out ↦ refuse (Demand number) refl (record { unfinished = unfinished; due = due }, out)
        | inl in_range ↦
            let grid = grid_is project sound standing.known in_range in
            by-vectors unfinished due in_range grid.0 grid.1
      ]
    ]
  ]
