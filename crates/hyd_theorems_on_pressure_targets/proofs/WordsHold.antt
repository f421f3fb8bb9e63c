-- A word holds in every assignment with the pipe shut.
use Rattle.std.proofs.Common.{ℕ, ◌<◌, ℤ, pos, arith}
use Rattle.std.proofs.lemmas.Int.{ints}
use Rattle.std.proofs.lemmas.Option.{slice_get-get_or}
use Rattle.hyd_num.specs.Rational.{Rational}
use Rattle.hyd_net.specs.Sound.{IsSound}
use Rattle.hyd_spec.specs.ProgramTypes.{Project, Closed}
use Rattle.std.specs.Prelude.{slice_set}
use Rattle.hyd_spec.specs.NodeNumbers.{junction_count}
use Rattle.hyd_spec.specs.Assignment.{Assignment, head_at}
use Rattle.hyd_spec.specs.History.{initial_levels}
use Rattle.hyd_spec_certificates.specs.PeriodNetwork.{Grid}
use Rattle.hyd_spec_certificates.specs.RecordAndStanding.{initial_standing}
use Rattle.hyd_spec_pressure_targets.specs.declared.ClosureWord.{ClosureWord}
use Rattle.hyd_spec_pressure_targets.specs.declared.ClosureWord.TheVariants.{Safe, Low, NoCertificate, RoundsSpent}
use Rattle.hyd_spec_pressure_targets.specs.declared.ClosureWord.TheVariants.{Unsure}
use Rattle.hyd_spec_pressure_targets.specs.TargetHeads.{target_low, target_high}
use Rattle.hyd_spec_pressure_targets.specs.FirstPeriod.{first_tanks, first_links, IsFirstGridWithShut, IsFirstWithShut}
use Rattle.hyd_spec_pressure_targets.specs.ClosureWords.{IsWord, WordHolds}
use Rattle.hyd_num.proofs.Integers.{times_rises}
use Rattle.hyd_theorems_on_definitions.proofs.ComparisonPrinciple.{below_main, above_main}
use Rattle.hyd_theorems_on_pressure_targets.proofs.TargetHeads.{above-target, below-target}
use Rattle.hyd_theorems_on_pressure_targets.proofs.FirstPeriodCompared.{compared-with-shut}

pub word-holds : (project : Project) → IsSound project → (pipe : ℕ) (grid : Grid)
    → IsFirstGridWithShut project pipe grid → (rounds j : ℕ) (elevation : ℤ) (target : Rational) → 0 < target.den
    → (word : ClosureWord)
    → IsWord grid rounds j (target_low elevation target) (target_high elevation target) word
    → (S : ℕ) (assignment : Assignment) → IsFirstWithShut project S pipe assignment → j < junction_count project
    → WordHolds S elevation target (head_at assignment.heads j) word
word-holds project sound pipe grid is rounds j elevation target some Safe shown S assignment obeys inside =
    let scale = obeys.scale in
    let there : 0 < S = omega (arith, scale) in
    let each = obeys.head_each in
    let at = slice_get-get_or assignment.heads j (pos 0) (omega (arith, inside, each)) in
    let over = above_main project S 0 (initial_standing project).levels (initial_levels project S)
    (first_tanks project S) (slice_set (first_links project S) pipe Closed) assignment grid shown.heads
    (compared-with-shut project sound S there pipe grid is assignment obeys) shown.certificate j
    (head_at assignment.heads j) at in
    let up = times_rises S (target_high elevation target) (head_at shown.heads j) shown.enough in
    above-target S elevation target (head_at assignment.heads j) some (omega (arith, ints, over, up))
word-holds project sound pipe grid is rounds j elevation target some Low shown S assignment obeys inside =
    let scale = obeys.scale in
    let there : 0 < S = omega (arith, scale) in
    let each = obeys.head_each in
    let at = slice_get-get_or assignment.heads j (pos 0) (omega (arith, inside, each)) in
    let under = below_main project S 0 (initial_standing project).levels (initial_levels project S)
    (first_tanks project S) (slice_set (first_links project S) pipe Closed) assignment grid shown.heads
    (compared-with-shut project sound S there pipe grid is assignment obeys) shown.certificate j
    (head_at assignment.heads j) at in
    let up = times_rises S (head_at shown.heads j) (target_low elevation target) shown.too_little in
    below-target S elevation target (head_at assignment.heads j) some (omega (arith, ints, under, up))
word-holds project sound pipe grid is rounds j elevation target some NoCertificate shown S assignment obeys inside = tt
word-holds project sound pipe grid is rounds j elevation target some RoundsSpent shown S assignment obeys inside = tt
word-holds project sound pipe grid is rounds j elevation target some Unsure shown S assignment obeys inside = tt
