-- A pipe's numbers make one capacity.
use Rattle.std.proofs.Common.{◌≡◌, ℕ, zero, suc, Bool, sym, ap, subst, ◌∙◌}
use Rattle.std.specs.Prelude.{Option, Some}
use Rattle.hyd_num.specs.declared.binary.Scaled.{Scaled}
use Rattle.hyd_num.specs.declared.pairs.Pair.{Pair}
use Rattle.hyd_num.specs.declared.decimals.Decimal.{Decimal}
use Rattle.hyd_num.specs.FileQuantity.{billionths}
use Rattle.hyd_lemmas.proofs.PassedOn.{Pair-equal, PowerCapacity-equal}
use Rattle.hyd_spec_power_laws.specs.declared.power_capacities.HazenWilliamsPipe.{HazenWilliamsPipe}
use Rattle.hyd_spec_power_laws.specs.declared.power_capacities.PowerCapacity.{PowerCapacity}
use Rattle.hyd_spec_power_laws.specs.PowerCapacities.{IsLessened, IsMinorWith, IsMade, StandsFor}
use Rattle.hyd_power_capacities.proofs.OneCapacityOfNumbers.{SameEnds, same-ratio, same-product, same-constant}
use Rattle.hyd_power_capacities.proofs.OneCapacityOfNumbers.{same-raised, same-minor_ticks}

same-lessened : (r s : Pair) (low other : Scaled) → SameEnds r s → IsLessened r low → IsLessened s other → low ≡ other
same-lessened r s low other p a b =
    sym a.low_is
    ∙ (same-product r a.factor a.less s b.factor b.less a.less_is b.less_is p
    (same-ratio _ _ a.factor b.factor a.factor_is b.factor_is)).low
    ∙ b.low_is

same-fittings : (n : ℕ) (diameter minor : Decimal) (us : Bool) (a b : Option Pair) → IsMinorWith n diameter minor us a
    → IsMinorWith n diameter minor us b → a ≡ b
same-fittings zero diameter minor us a b x y = x ∙ sym y
same-fittings (suc n) diameter minor us a b x y =
    let ends : SameEnds x.0 y.0 = same-minor_ticks diameter minor us x.0 y.0 x.2 y.2 in
    x.1 ∙ ap (λ (r : Pair). Some r) (Pair-equal x.0 y.0 ends.low ends.high) ∙ sym y.1

pub one_capacity : (a b : PowerCapacity) → a.pipe ≡ b.pipe → IsMade a → IsMade b → a ≡ b
one_capacity a b same x y =
    let other : StandsFor a.pipe b.low b.high b.minor =
    subst (λ (pipe : HazenWilliamsPipe). StandsFor pipe b.low b.high b.minor) (sym same) y in
    let ends : SameEnds x.constant other.constant = same-constant a.pipe.length a.pipe.diameter a.pipe.coefficient
    a.pipe.us x.constant other.constant x.constant_is other.constant_is in
    PowerCapacity-equal a b (same-lessened x.constant other.constant a.low b.low ends x.low_is other.low_is)
    (same-raised x.constant other.constant a.high b.high ends x.high_is other.high_is)
    (same-fittings (billionths a.pipe.minor) a.pipe.diameter a.pipe.minor a.pipe.us a.minor b.minor x.minor_is
    other.minor_is) same
