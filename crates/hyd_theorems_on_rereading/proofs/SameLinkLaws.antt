-- The laws of links are the same of alike parts.
use Rattle.std.proofs.Common.{◌≡◌, ℕ, pos, Bool, List, [], ◌∷◌, length, refl, ap, ap₂}
use Rattle.std.specs.Prelude.{neg_ℤ}
use Rattle.hyd_net.specs.ListView.{ListView}
use Rattle.hyd_spec.specs.ProgramTypes.{Project, Link, HeadPoint, LinkKind, PipeLink, CheckPipe, PumpLink, CurvePump}
use Rattle.hyd_spec.specs.ProgramTypes.{Tcv, Fcv, Gpv, LinkState, Open, Closed, Speed, Throttle, Limit}
use Rattle.hyd_spec.specs.declared.TankState.{TankState}
use Rattle.hyd_spec.specs.DemandsHeadsAndPumpLifts.{points_of, pump_knots, valve_knots, is_us}
use Rattle.hyd_spec.specs.Law.{Law, Held, Bent}
use Rattle.hyd_spec.specs.LinkLaw.{own_law, greatest_curve_flow, law_of}
use Rattle.hyd_spec_certificates.specs.PeriodNetwork.{GridLink, grid_links}
use Rattle.hyd_theorems_on_rereading.proofs.PartsWithSpares.{Inner, with_inner, AreAlike}
use Rattle.hyd_theorems_on_rereading.proofs.SameQuantities.{same_count}

same_own : (us : Bool) (xs ys : List (ListView HeadPoint)) → ((k : ℕ) → points_of xs k ≡ points_of ys k)
    → (kind : LinkKind) (state : LinkState) → own_law us xs kind state ≡ own_law us ys kind state
same_own us xs ys same (PipeLink capacity) Open = refl
same_own us xs ys same (PipeLink capacity) Closed = refl
same_own us xs ys same (PipeLink capacity) (Speed speed) = refl
same_own us xs ys same (PipeLink capacity) (Throttle setting law) = refl
same_own us xs ys same (PipeLink capacity) (Limit setting ticks) = refl
same_own us xs ys same (CheckPipe capacity) Open = refl
same_own us xs ys same (CheckPipe capacity) Closed = refl
same_own us xs ys same (CheckPipe capacity) (Speed speed) = refl
same_own us xs ys same (CheckPipe capacity) (Throttle setting law) = refl
same_own us xs ys same (CheckPipe capacity) (Limit setting ticks) = refl
same_own us xs ys same (PumpLink capacity shutoff head pattern) Open = refl
same_own us xs ys same (PumpLink capacity shutoff head pattern) Closed = refl
same_own us xs ys same (PumpLink capacity shutoff head pattern) (Speed speed) = refl
same_own us xs ys same (PumpLink capacity shutoff head pattern) (Throttle setting law) = refl
same_own us xs ys same (PumpLink capacity shutoff head pattern) (Limit setting ticks) = refl
same_own us xs ys same (CurvePump bend pattern) Open = refl
same_own us xs ys same (CurvePump bend pattern) Closed = refl
same_own us xs ys same (CurvePump bend pattern) (Speed speed) =
    ap (λ points. Held (pos 0) greatest_curve_flow (Bent (pump_knots points speed))) (same bend)
same_own us xs ys same (CurvePump bend pattern) (Throttle setting law) = refl
same_own us xs ys same (CurvePump bend pattern) (Limit setting ticks) = refl
same_own us xs ys same (Tcv valve) Open = refl
same_own us xs ys same (Tcv valve) Closed = refl
same_own us xs ys same (Tcv valve) (Speed speed) = refl
same_own us xs ys same (Tcv valve) (Throttle setting law) = refl
same_own us xs ys same (Tcv valve) (Limit setting ticks) = refl
same_own us xs ys same (Fcv valve) Open = refl
same_own us xs ys same (Fcv valve) Closed = refl
same_own us xs ys same (Fcv valve) (Speed speed) = refl
same_own us xs ys same (Fcv valve) (Throttle setting law) = refl
same_own us xs ys same (Fcv valve) (Limit setting ticks) = refl
same_own us xs ys same (Gpv bend) Open =
    ap (λ points. Held (neg_ℤ greatest_curve_flow) greatest_curve_flow (Bent (valve_knots points))) (same bend)
same_own us xs ys same (Gpv bend) Closed = refl
same_own us xs ys same (Gpv bend) (Speed speed) = refl
same_own us xs ys same (Gpv bend) (Throttle setting law) = refl
same_own us xs ys same (Gpv bend) (Limit setting ticks) = refl

module _ (p : Project) (x y : Inner) (alike : AreAlike x y) where
  pub same_law : (tanks : List TankState) (link : Link) (state : LinkState)
      → law_of (with_inner p x) tanks link state ≡ law_of (with_inner p y) tanks link state
  same_law tanks link state =
      let count : length x.junctions.list ≡ length y.junctions.list = same_count p x y alike in
      let own = same_own (is_us p) x.bends.list y.bends.list alike.bends link.kind state in
      rw (count, own)

  pub same_links : (tanks : List TankState) (links : List Link) (states : List LinkState)
      → grid_links (with_inner p x) tanks links states ≡ grid_links (with_inner p y) tanks links states
  same_links tanks [] states = refl
  same_links tanks (link ∷ links) [] = refl
  same_links tanks (link ∷ links) (state ∷ states) =
      ap₂ (λ (l : Law) (ls : List GridLink). record { from = link.from; to = link.to; law = l } ∷ ls)
      (same_law tanks link state) (same_links tanks links states)
