-- The first level control that is open.
use Rattle.std.proofs.Common.{◌≡◌, ℕ, ◌<◌, ℤ, true, false, List, length, map, Some, slice_index_or, sym, ap, ◌∙◌}
use Rattle.std.proofs.lemmas.Option.{slice_get-get_or}
use Rattle.std.proofs.lemmas.List.Quantifiers.{position-Some}
use Rattle.hyd_spec.specs.ProgramTypes.{Project, Control}
use Rattle.hyd_spec_certificates.specs.Stops.{is_open_control}
use Rattle.hyd_spec_certificates.specs.SpansAsIntervals.{levels_of}
use Rattle.hyd_spec_certificates.specs.declared.LevelSpan.{LevelSpan}
use Rattle.hyd_controls_and_rules.specs.PumpPatternsAndSimpleControls.{IsLevelOf, IsFirstOpen}
use Rattle.hyd_controls_and_rules.proofs.FirstPassingPlace.{found_at}

level_as : (levels : List LevelSpan) (control : Control) (level : LevelSpan) (lo hi : ℤ)
    → IsLevelOf levels control level → lo ≡ level.lo → hi ≡ level.hi
    → IsLevelOf levels control (record { lo = lo; hi = hi })
level_as levels control level lo hi is low high = record {
  tank = is.tank;
  above = is.above;
  ticks = is.ticks;
  is_level = is.is_level;
  level_is = is.level_is ∙ ap (λ (x : ℤ). Some (levels_of (record { lo = x; hi = level.hi }))) (sym low)
      ∙ ap (λ (x : ℤ). Some (levels_of (record { lo = lo; hi = x }))) (sym high);
}

pub first_open : (project : Project) (levels : List LevelSpan) (controls : List Control) (number : ℕ)
    (control : Control) (level : LevelSpan) (lo hi : ℤ)
    → controls ≡ project.controls.list → number < length controls
    → ((k : ℕ) (d : Control) → k < number → is_open_control (map levels_of levels)
    (slice_index_or controls k d) ≡ false)
    → control ≡ slice_index_or controls number control → true ≡ is_open_control (map levels_of levels) control
    → IsLevelOf levels control level → lo ≡ level.lo → hi ≡ level.hi
    → IsFirstOpen project levels (record { control = number; lo = lo; hi = hi })
first_open project levels controls number control level lo hi are within before is passes own low high =
    let first = sym (found_at (is_open_control
    (map levels_of levels)) controls project.controls.list number control are within before is
    (sym passes)) in
    let there = position-Some (is_open_control
    (map levels_of levels)) project.controls.list number control first in
    record {
      first = first;
      control = control;
      is_control = slice_get-get_or project.controls.list number control there.0
          ∙ ap (λ (x : Control). Some x) (sym (is ∙ ap (λ
          (xs : List Control). slice_index_or xs number control) are));
      level = level_as levels control level lo hi own low high;
    }
