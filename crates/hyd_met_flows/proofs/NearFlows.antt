-- A flow is met where it lies near both ends of its law's window.
use Rattle.std.proofs.Common.{◌≡◌, ℕ, ℤ, Option, Some, None, sym, subst}
use Rattle.std.specs.Prelude.{IfSome, IfNone, MatchOption}
use Rattle.hyd_spec.specs.Law.{Law}
use Rattle.hyd_spec_certificates.specs.EnclosingFunctions.{DemandLaw}
use Rattle.hyd_spec_witnesses.specs.MetFlows.{IsNearBoth, IsMetBy, IsDemandMetBy}
use Rattle.hyd_laws_at_scale.specs.declared.windows.Window.{Window}
use Rattle.hyd_laws_at_scale.specs.Windows.{IsWindow, IsDemandWindow}

pub near_as : (S : ℕ) (low high a b q : ℤ) → low ≡ a → high ≡ b → IsNearBoth S low high q → IsNearBoth S a b q
near_as S low high a b q e f near = subst (λ (x : ℤ). IsNearBoth S x b q) e (subst (λ (y : ℤ). IsNearBoth S low y q) f
    near)

pub met_by : (S : ℕ) (law : Law) (d : ℤ) (w : Window) (q : ℤ) → IsWindow S law d w → IsNearBoth S w.low w.high q
    → IsMetBy law S d q
met_by S law d w q is near = record { in_range = is.in_range; near = near_as S _ _ _ _ q is.low_is is.high_is near }

pub near_of : (S : ℕ) (law : Law) (d : ℤ) (w : Window) (q : ℤ) → IsWindow S law d w → IsMetBy law S d q
    → IsNearBoth S w.low w.high q
near_of S law d w q is met = near_as S _ _ _ _ q (sym is.low_is) (sym is.high_is) met.near

pub demand_met_by : (S : ℕ) (law : DemandLaw) (p : ℤ) (w : Window) (q : ℤ) → IsDemandWindow S law p w
    → IsNearBoth S w.low w.high q → IsDemandMetBy law S p q
demand_met_by S law p w q is near =
    record { in_range = is.in_range; near = near_as S _ _ _ _ q is.low_is is.high_is near }

pub demand_near_of : (S : ℕ) (law : DemandLaw) (p : ℤ) (w : Window) (q : ℤ) → IsDemandWindow S law p w
    → IsDemandMetBy law S p q → IsNearBoth S w.low w.high q
demand_near_of S law p w q is met = near_as S _ _ _ _ q (sym is.low_is) (sym is.high_is) met.near

-- an answer that is there or isn't
pub answer : {A : Type 0} (o : Option A) (P : A → Type 0) (Q : Type 0) → IfSome o P → IfNone o Q → MatchOption o Q P
answer (Some a) P Q some none = some
answer None P Q some none = none

-- what holds of what is there
pub there : {A : Type 0} (o : Option A) (a : A) (P : A → Type 0) → o ≡ Some a → IfSome o P → P a
there {A} o a P e some = let all : IfSome (Some a) P = subst (λ (p : Option A). IfSome p P) e some in all
