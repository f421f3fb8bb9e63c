-- A junction has one word for a pair of grids, but where rounds are spent.
use Rattle.std.proofs.Common.{◌≡◌, ◌≢◌, ℕ, ◌+◌, ◌<◌, ℤ, pos, ◌≤ℤ◌, refl, subst, arith, length, inl, inr}
use Rattle.std.specs.Prelude.{◌⊎◌, slice_set, Some, slice_get, List}
use Rattle.std.proofs.lemmas.Int.{ints}
use Rattle.hyd_net.specs.Sound.{IsSound}
use Rattle.hyd_spec.specs.ProgramTypes.{Project, Closed}
use Rattle.hyd_spec.specs.NodeNumbers.{junction_count}
use Rattle.hyd_spec_certificates.specs.declared.Problem.TheVariants.{Main}
use Rattle.hyd_spec_certificates.specs.declared.Side.TheVariants.{Upper, Lower}
use Rattle.hyd_spec_certificates.specs.Interval.{Interval}
use Rattle.hyd_spec_certificates.specs.RecordAndStanding.{Standing}
use Rattle.hyd_spec_certificates.specs.Decided.{links_at}
use Rattle.hyd_spec_pressure_targets.specs.declared.ClosureWord.{ClosureWord}
use Rattle.hyd_spec_pressure_targets.specs.declared.ClosureWord.TheVariants.{Safe, Low, NoCertificate, Unsure}
use Rattle.hyd_spec_pressure_targets.specs.declared.ClosureWord.TheVariants.{RoundsSpent as WordSpent}
use Rattle.hyd_spec_pressure_targets.specs.ClosureWords.{IsShownSafe, IsShownLow, HasNoneOn, HasTight}
use Rattle.hyd_spec_spread.specs.Spreads.{Spread, IsSpread, IsLevelInterval, level_interval}
use Rattle.hyd_spec_spread.specs.IntervalsOfData.{known_junctions, known_levels}
use Rattle.hyd_spec_spread.specs.NetworksWithin.{IsJunctionWithin}
use Rattle.hyd_spec_spread.specs.OutermostGrids.{IsOutermostJunction}
use Rattle.hyd_spec_spread_runs.specs.OutermostPairs.{Pair}
use Rattle.hyd_spec_spread_runs.specs.RunsForSpreads.{standing_within}
use Rattle.hyd_spec_spread_targets.specs.FirstPeriodWithin.{IsFirstPairWithShut}
use Rattle.hyd_spec_spread_targets.specs.WordsOverPairs.{IsWordOver}
use Rattle.hyd_theorems_on_definitions.specs.SoundLawsAndGrids.{IsSteady, TanksInOrder}
use Rattle.hyd_theorems_on_definitions.proofs.TwoSides.{lower-below}
use Rattle.hyd_theorems_on_raises.proofs.SearchStarts.{main-fixed}
use Rattle.hyd_theorems_on_spread.proofs.CertificatesInward.{goes-inward}
use Rattle.hyd_theorems_on_spread.proofs.OwnNetwork.{own-within}
use Rattle.hyd_theorems_on_spread.proofs.ZippedLists.{zip-long}
use Rattle.hyd_theorems_on_spread_targets.proofs.PairsInOrder.{lower-beyond, start-order}

module _ (project : Project) (sound : IsSound project) (spread : Spread) (is : IsSpread project spread) (pipe : ℕ)
    (pair : Pair) (are : IsFirstPairWithShut project spread pipe pair) (steady : IsSteady pair.upper) (j : ℕ)
    (low high : ℤ) (inside : j < junction_count project) (ordered : low ≤ℤ high) where
  abbrev start : Standing
  start = standing_within project spread

  -- the tanks of either grid are in order at the start
  in-order : TanksInOrder pair.upper
  in-order k x at = start-order spread 0 project.tanks.list (λ i tank there. let n : i ≡ 0 + i = omega arith in
      subst (λ (m : ℕ). IsLevelInterval tank (level_interval spread m tank)) n (is.levels i tank there)) k x
      (subst (λ (xs : List Interval). slice_get xs k ≡ Some x) (are Upper).tank_heads at)

  as-many : length pair.upper.junctions ≡ junction_count project
  as-many =
      let a = zip-long (IsOutermostJunction project Upper) (known_junctions project spread 0) pair.upper.junctions
      (are Upper).junctions in
      let b = zip-long (IsJunctionWithin project 0) (known_junctions project spread 0) project.junctions.list
      (own-within project sound spread is 0).junctions in
      omega (arith, a, b)

  -- no LOWER certificate lies above the target where an UPPER one lies below
  not-both : IsShownSafe pair.lower j high → IsShownLow pair.upper j low → ⊥
  not-both safe short =
      let certificate = goes-inward Lower Main pair.lower pair.upper safe.heads steady.sound.links
      (lower-beyond project sound spread is 0 (known_levels project spread) start.tanks
      (slice_set (links_at project start) pipe Closed) pair.upper pair.lower (are Upper) (are Lower))
      safe.certificate in
      let one = certificate.one_each in
      let many = as-many in
      let apart = lower-below pair.upper steady Main Main short.heads safe.heads (pos 0) short.certificate certificate
      (omega (arith, ints))
      (λ m. let f = main-fixed pair.upper Upper Main in-order m in omega (arith, ints, f)) j
      (omega (arith, one, inside, many)) in
      let enough = safe.enough in
      let little = short.too_little in
      omega (arith, ints, apart, enough, little, ordered)

  -- one side can't have none and have one
  no-none : HasTight pair.upper Upper → HasTight pair.lower Lower
      → HasNoneOn pair.upper Upper ⊎ HasNoneOn pair.lower Lower → ⊥
  no-none upper lower (inl none) = none upper.0 upper.1.is_certificate
  no-none upper lower (inr none) = none lower.0 lower.1.is_certificate

  pub one-word : (r s : ℕ) (a b : ClosureWord) → a ≢ WordSpent → b ≢ WordSpent → IsWordOver pair r j low high a
      → IsWordOver pair s j low high b → a ≡ b
  one-word r s WordSpent b not-a not-b x y = absurd (not-a refl)
  one-word r s Safe WordSpent not-a not-b x y = absurd (not-b refl)
  one-word r s Safe Safe not-a not-b x y = refl
  one-word r s Safe Low not-a not-b x y = absurd (not-both x y)
  one-word r s Safe NoCertificate not-a not-b x y = absurd (y.is_open.not_safe x)
  one-word r s Safe Unsure not-a not-b x y = absurd (y.is_open.not_safe x)
  one-word r s Low WordSpent not-a not-b x y = absurd (not-b refl)
  one-word r s Low Safe not-a not-b x y = absurd (not-both y x)
  one-word r s Low Low not-a not-b x y = refl
  one-word r s Low NoCertificate not-a not-b x y = absurd (y.is_open.not_low x)
  one-word r s Low Unsure not-a not-b x y = absurd (y.is_open.not_low x)
  one-word r s NoCertificate WordSpent not-a not-b x y = absurd (not-b refl)
  one-word r s NoCertificate Safe not-a not-b x y = absurd (x.is_open.not_safe y)
  one-word r s NoCertificate Low not-a not-b x y = absurd (x.is_open.not_low y)
  one-word r s NoCertificate NoCertificate not-a not-b x y = refl
  one-word r s NoCertificate Unsure not-a not-b x y = absurd (no-none y.upper y.lower x.none)
  one-word r s Unsure WordSpent not-a not-b x y = absurd (not-b refl)
  one-word r s Unsure Safe not-a not-b x y = absurd (x.is_open.not_safe y)
  one-word r s Unsure Low not-a not-b x y = absurd (x.is_open.not_low y)
  one-word r s Unsure NoCertificate not-a not-b x y = absurd (no-none x.upper x.lower y.none)
  one-word r s Unsure Unsure not-a not-b x y = refl
