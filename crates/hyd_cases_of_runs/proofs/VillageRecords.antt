-- The records of the village are valid, one after another.
use Rattle.std.proofs.Common.{suc, ◌+◌, ◌<◌, ◌≡◌, ℕ, ◌≤◌, ℤ, Bool, false, [], ◌∷◌, IsFalse, unsigned_abs, refl, subst}
use Rattle.std.proofs.Common.{arith, lit≤}
use Rattle.std.specs.Prelude.{true, slice_index_or}
use Rattle.std.proofs.lemmas.List.Elements.{All-nil, All-cons}
use Rattle.hyd_spec.specs.ProgramTypes.{Junction}
use Rattle.hyd_spec_certificates.specs.Interval.{Interval}
use Rattle.hyd_spec.specs.DemandsHeadsAndPumpLifts.{demand_of}
use Rattle.hyd_spec_certificates.specs.ThreeValuedLogic.{is_unknown}
use Rattle.hyd_spec_certificates.specs.Decided.{nowhere, control_truth}
use Rattle.hyd_spec_certificates.specs.Valid.{DemandsAreInRange, demand_limit, ControlsAreDecided, by_rules, by_clock}
use Rattle.hyd_spec_certificates.specs.Valid.{continues, finishes, IsValid, IsGridAt, AreCertificates, LeavesLinks}
use Rattle.hyd_spec_certificates.specs.Valid.{levels_next, volumes_next, AreStates}
use Rattle.hyd_spec_certificates.specs.PeriodNetwork.{Grid}
use Rattle.hyd_spec_certificates.specs.RecordAndStanding.{Record, Standing}
use Rattle.hyd_cases_of_runs.specs.Village.{Choice, village_with, village, usual, mill, farm}
use Rattle.hyd_cases_of_runs.specs.VillageRun.{standing_0, standing_1, standing_2, standing_3, standing_4, left, grid_0}
use Rattle.hyd_cases_of_runs.specs.VillageRun.{grid_1, grid_2, grid_3, grid_4, row_0, row_1, row_2, row_3, row_4}
use Rattle.hyd_cases_of_runs.proofs.VillageGrids.{grid_at}
use Rattle.hyd_cases_of_runs.proofs.VillageCertificates.{certificates}
use Rattle.hyd_cases_of_runs.proofs.VillageSeconds.{only_control}
use Rattle.hyd_cases_of_runs.proofs.VillageEnds.{first_ends, second_ends, third_ends, fourth_ends}

module _ (choice : Choice) where
  pub in_range : (time : ℕ) → unsigned_abs (demand_of (village_with choice) time mill) ≤ demand_limit
      → unsigned_abs (demand_of (village_with choice) time farm) ≤ demand_limit
      → DemandsAreInRange (village_with choice) time
  in_range time at_mill at_farm =
      let P : Junction → Type 0 = λ junction. unsigned_abs (demand_of (village_with choice) time junction)
      ≤ demand_limit in
      All-cons P mill (farm ∷ []) at_mill (All-cons P farm [] at_farm (All-nil P))

  -- the one control is decided where it is at the level's interval
  pub controls_decided : (level : Interval) → is_unknown (control_truth level true choice.ticks) ≡ false
      → ControlsAreDecided (village_with choice) (level ∷ [])
  controls_decided level decided each tank above ticks is at =
      let same = only_control choice each is in
      let tank_is : 0 ≡ tank = cc in
      let above_is : true ≡ above = cc in
      let ticks_are : choice.ticks ≡ ticks = cc in
      subst (λ (k : ℕ). IsFalse (is_unknown (control_truth (slice_index_or (level ∷ []) k nowhere) above ticks)))
      tank_is
      (subst (λ (b : Bool). IsFalse (is_unknown (control_truth level b ticks))) above_is
      (subst (λ (z : ℤ). IsFalse (is_unknown (control_truth level true z))) ticks_are decided))

  -- a record that isn't the last one is valid where all of this holds
  pub valid_at : (standing : Standing) (grid : Grid) (row : Record) (next : Standing) → standing.finished ≡ false
      → standing.time < 16
      → row.number ≡ standing.number → row.time ≡ standing.time → DemandsAreInRange (village_with choice) standing.time
      → IsGridAt (village_with choice) standing grid → AreCertificates (village_with choice) grid row
      → LeavesLinks (village_with choice) grid standing row row.length next.commanded
      → next.levels ≡ levels_next (village_with choice) grid standing row row.length
      → next.volumes ≡ volumes_next (village_with choice) grid standing row row.length
      → AreStates (village_with choice) next.levels next.tanks
      → ControlsAreDecided (village_with choice) next.levels → next.number ≡ suc standing.number
      → next.time ≡ standing.time + row.length
      → next.finished ≡ false → IsValid (village_with choice) standing grid row next
  valid_at standing grid row next begun early number time demands is_grid passed leaves levels volumes tanks controls
      following later unfinished = record {
        unfinished = begun;
        number = number;
        time = time;
        demands = demands;
        is_grid = is_grid;
        certificates = passed;
        leads_on = continues (record {
          not_last = λ is. omega (arith, is, early);
          leaves_links = leaves;
          levels = levels;
          volumes = volumes;
          tanks = tanks;
          controls = controls;
          number = following;
          time = later;
          unfinished = unfinished;
        });
      }

pub first_valid : IsValid village standing_0 grid_0 row_0 standing_1
first_valid = valid_at usual standing_0 grid_0 row_0 standing_1 refl (omega arith) refl refl
    (in_range usual 0 (lit≤ tt) (lit≤ tt))
    (grid_at usual standing_0 _ _ _ _ refl refl refl refl) (certificates usual grid_0 row_0 _ refl refl refl refl
    refl) (by_clock first_ends)
    refl refl refl (controls_decided usual _ refl) refl refl refl

pub second_valid : IsValid village standing_1 grid_1 row_1 standing_2
second_valid = valid_at usual standing_1 grid_1 row_1 standing_2 refl (omega arith) refl refl
    (in_range usual 8 (lit≤ tt) (lit≤ tt))
    (grid_at usual standing_1 _ _ _ _ refl refl refl refl) (certificates usual grid_1 row_1 _ refl refl refl refl
    refl) (by_clock second_ends)
    refl refl refl (controls_decided usual _ refl) refl refl refl

pub third_valid : IsValid village standing_2 grid_2 row_2 standing_3
third_valid = valid_at usual standing_2 grid_2 row_2 standing_3 refl (omega arith) refl refl
    (in_range usual 11 (lit≤ tt) (lit≤ tt))
    (grid_at usual standing_2 _ _ _ _ refl refl refl refl) (certificates usual grid_2 row_2 _ refl refl refl refl
    refl) (by_rules third_ends)
    refl refl refl (controls_decided usual _ refl) refl refl refl

pub fourth_valid : IsValid village standing_3 grid_3 row_3 standing_4
fourth_valid = valid_at usual standing_3 grid_3 row_3 standing_4 refl (omega arith) refl refl
    (in_range usual 14 (lit≤ tt) (lit≤ tt))
    (grid_at usual standing_3 _ _ _ _ refl refl refl refl) (certificates usual grid_3 row_3 _ refl refl refl refl
    refl) (by_clock fourth_ends)
    refl refl refl (controls_decided usual _ refl) refl refl refl

pub fifth_valid : IsValid village standing_4 grid_4 row_4 left
fifth_valid = record {
  unfinished = refl;
  number = refl;
  time = refl;
  demands = in_range usual 16 (lit≤ tt) (lit≤ tt);
  is_grid = grid_at usual standing_4 _ _ _ _ refl refl refl refl;
  certificates = certificates usual grid_4 row_4 _ refl refl refl refl refl;
  leads_on = finishes (record { is_last = refl; no_length = refl; next_is = refl });
}
