-- Narrow records are recognised by computing.
use Rattle.std.proofs.Common.{◌≡◌, ℕ, ◌+◌, ℤ, pos, ◌+ℤ◌, ◌-ℤ◌, ◌*ℤ◌, Bool, true, int_le, subst, arith}
use Rattle.hyd_spec_certificates.specs.Interval.{Interval, width}
use Rattle.hyd_spec.specs.Assignment.{head_at}
use Rattle.hyd_spec_certificates.specs.RecordAndStanding.{Record, Standing}
use Rattle.hyd_spec_certificates.specs.Decided.{level_of_tank}
use Rattle.hyd_spec_certificates.specs.Narrow.{widest, IsNarrow}
use Rattle.hyd_lemmas.proofs.BooleanTests.{le-yes, all_pass, each_passes}

-- whether the heads of a junction, the next levels of a tank are narrow
abbrev pub head_fits : ℤ → Standing → Record → ℕ → ℤ → Bool
head_fits W standing row j upper = int_le (upper -ℤ head_at row.main.lower j) (W +ℤ widest standing.levels)

abbrev pub level_fits : ℤ → Standing → ℕ → Interval → Bool
level_fits W standing k level = int_le (pos 100 *ℤ width level) ((pos 200 *ℤ width (level_of_tank standing k)) +ℤ W)

pub narrow : (W : ℤ) (standing : Standing) (row : Record) (next : Standing)
    → all_pass (head_fits W standing row) 0 row.main.upper ≡ true
    → all_pass (level_fits W standing) 0 next.levels ≡ true → IsNarrow W standing row next
narrow W standing row next heads levels = record {
  heads = λ j upper at. le-yes (upper -ℤ head_at row.main.lower j) (W +ℤ widest standing.levels)
      (let number : 0 + j ≡ j = omega arith in
      subst (λ (n : ℕ). head_fits W standing row n upper ≡ true) number
      (each_passes ℤ (head_fits W standing row) 0 row.main.upper heads j upper at));
  levels = λ k level at. le-yes (pos 100 *ℤ width level) ((pos 200 *ℤ width (level_of_tank standing k)) +ℤ W)
      (let number : 0 + k ≡ k = omega arith in
      subst (λ (n : ℕ). level_fits W standing n level ≡ true) number (each_passes Interval (level_fits W standing) 0
      next.levels levels k level at));
}
