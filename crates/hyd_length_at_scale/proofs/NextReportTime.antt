-- The next report time.
use Rattle.std.proofs.Common.{◌≡◌, ℕ, ◌+◌, ◌-◌, ◌%◌, ◌≤◌, ap, ◌∙◌, arith}
use Rattle.hyd_spec.specs.ProgramTypes.{Project}
use Rattle.hyd_length_at_scale.specs.Instants.{IsToMultiple, IsNextReport}

-- once report times have begun
pub later-report : (project : Project) (time seconds : ℕ) → project.times.report_start ≤ time
    → IsToMultiple (time - project.times.report_start) project.times.report seconds
    → IsNextReport project time (time + seconds)
later-report project time seconds from to =
    let start = project.times.report_start in
    let step = project.times.report in
    record {
      holds = (
        (let h = to.holds.0 in omega (arith, h)),
        (
          omega (arith, from),
          ap (λ (n : ℕ). n % step) (let e : (time + seconds) - start ≡ (time - start) + seconds = omega
              (arith, from) in e) ∙ to.holds.1,
        ),
      );
      least = λ e h.
          let later = h.0 in
          let same : (time - start) + (e - time) ≡ e - start = omega (arith, later, from) in
          let l = to.least (e - time) (omega (arith, later), ap (λ (n : ℕ). n % step) same ∙ h.1.1) in
          omega (arith, l, later);
    }
