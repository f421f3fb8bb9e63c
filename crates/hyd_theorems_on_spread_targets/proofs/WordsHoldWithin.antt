-- A word holds in every assignment of every network within the spread with the pipe shut.
use Rattle.std.proofs.Common.{◌≡◌, ℕ, suc, ◌<◌, ℤ, pos, refl, arith, List, [], ◌∷◌, length}
use Rattle.std.specs.Prelude.{slice_set}
use Rattle.std.proofs.lemmas.Int.{ints}
use Rattle.std.proofs.lemmas.Option.{slice_get-get_or}
use Rattle.hyd_num.specs.Rational.{Rational}
use Rattle.hyd_net.specs.Sound.{IsSound}
use Rattle.hyd_spec.specs.ProgramTypes.{Project, Junction, Closed}
use Rattle.hyd_spec.specs.Lists.{map_from}
use Rattle.hyd_spec.specs.NodeNumbers.{junction_count}
use Rattle.hyd_spec.specs.Assignment.{Assignment, head_at}
use Rattle.hyd_spec_certificates.specs.declared.Side.TheVariants.{Upper, Lower}
use Rattle.hyd_spec_pressure_targets.specs.declared.ClosureWord.{ClosureWord}
use Rattle.hyd_spec_pressure_targets.specs.declared.ClosureWord.TheVariants.{Safe, Low, NoCertificate, RoundsSpent}
use Rattle.hyd_spec_pressure_targets.specs.declared.ClosureWord.TheVariants.{Unsure}
use Rattle.hyd_spec_pressure_targets.specs.TargetHeads.{target_low, target_high}
use Rattle.hyd_spec_spread.specs.Spreads.{Spread}
use Rattle.hyd_spec_spread.specs.IntervalsOfData.{KnownJunction, known_junction, known_junctions, known_levels}
use Rattle.hyd_spec_spread.specs.NetworksWithin.{with_data, IsJunctionWithin}
use Rattle.hyd_spec_spread_runs.specs.OutermostPairs.{Pair}
use Rattle.hyd_spec_spread_runs.specs.RunsForSpreads.{StartIsDecided}
use Rattle.hyd_spec_spread_targets.specs.FirstPeriodWithin.{IsFirstPairWithShut, IsFirstWithShutWithin}
use Rattle.hyd_spec_spread_targets.specs.WordsOverPairs.{IsWordOver, WordHoldsWithin}
use Rattle.hyd_num.proofs.Integers.{times_rises}
use Rattle.hyd_theorems_on_pressure_targets.proofs.TargetHeads.{above-target, below-target}
use Rattle.hyd_theorems_on_spread.proofs.HeadsWithin.{heads-below, heads-above}
use Rattle.hyd_theorems_on_spread.proofs.ZippedLists.{zip-long}
use Rattle.hyd_theorems_on_spread_targets.proofs.FirstPeriodWithin.{shut-within, known_tanks, known_links}

known-long : (f : ℕ → Junction → KnownJunction) (from : ℕ) (js : List Junction)
    → length (map_from f from js) ≡ length js
known-long f from [] = refl
known-long f from (j ∷ js) = let e = known-long f (suc from) js in omega (arith, e)

module _ (project : Project) (sound : IsSound project) (spread : Spread) (decided : StartIsDecided project spread)
    (pipe : ℕ) (pair : Pair) (is : IsFirstPairWithShut project spread pipe pair) (j : ℕ)
    (inside : j < junction_count project) (elevation : ℤ) (target : Rational) (some : 0 < target.den) where
  -- the assignment has a head of the junction
  has-head : (S : ℕ) (assignment : Assignment) → IsFirstWithShutWithin project spread S pipe assignment
      → j < length assignment.heads
  has-head S assignment first =
      let each = first.assigned.head_each in
      let a = zip-long (IsJunctionWithin (with_data project first.nodes) 0) (known_junctions project spread 0)
      first.nodes.junctions.list first.start.within.junctions in
      let b = known-long (known_junction project spread 0) 0 project.junctions.list in
      omega (arith, inside, each, a, b)

  pub word-holds : (rounds : ℕ) (word : ClosureWord)
      → IsWordOver pair rounds j (target_low elevation target) (target_high elevation target) word
      → WordHoldsWithin project spread pipe j elevation target word
  word-holds rounds Safe shown = λ S assignment first.
      let scale = first.assigned.scale in
      let there : 0 < S = omega (arith, scale) in
      let at = slice_get-get_or assignment.heads j (pos 0) (has-head S assignment first) in
      let over = heads-above project spread S 0 (known_levels project spread) first.levels
      (known_tanks project sound spread) (slice_set (known_links project sound spread) pipe Closed) first.nodes
      assignment (shut-within project sound spread decided S pipe there assignment first) pair.lower shown.heads
      (is Lower) shown.certificate j (head_at assignment.heads j) at in
      let up = times_rises S (target_high elevation target) (head_at shown.heads j) shown.enough in
      above-target S elevation target (head_at assignment.heads j) some (omega (arith, ints, over, up))
  word-holds rounds Low shown = λ S assignment first.
      let scale = first.assigned.scale in
      let there : 0 < S = omega (arith, scale) in
      let at = slice_get-get_or assignment.heads j (pos 0) (has-head S assignment first) in
      let under = heads-below project spread S 0 (known_levels project spread) first.levels
      (known_tanks project sound spread) (slice_set (known_links project sound spread) pipe Closed) first.nodes
      assignment (shut-within project sound spread decided S pipe there assignment first) pair.upper shown.heads
      (is Upper) shown.certificate j (head_at assignment.heads j) at in
      let up = times_rises S (head_at shown.heads j) (target_low elevation target) shown.too_little in
      below-target S elevation target (head_at assignment.heads j) some (omega (arith, ints, under, up))
  word-holds rounds NoCertificate shown = λ S assignment first. tt
  word-holds rounds RoundsSpent shown = λ S assignment first. tt
  word-holds rounds Unsure shown = λ S assignment first. tt
