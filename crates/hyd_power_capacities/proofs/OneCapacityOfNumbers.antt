-- The numbers of a pipe stand for one constant and one minor loss, so those of a capacity are never refused.
use Rattle.std.proofs.Common.{◌≡◌, ℕ, zero, suc, ◌-◌, ◌*◌, ◌/◌, ◌^◌, ◌<◌, Bool, true, nat_le, refl, sym, ◌∙◌, subst}
use Rattle.std.proofs.Common.{arith}
use Rattle.std.specs.Prelude.{Option, Some, ◌||◌}
use Rattle.hyd_num.specs.declared.binary.Scaled.{Scaled}
use Rattle.hyd_num.specs.declared.pairs.Pair.{Pair}
use Rattle.hyd_num.specs.declared.decimals.Decimal.{Decimal}
use Rattle.hyd_num.specs.FileQuantity.{billionths}
use Rattle.hyd_num.specs.BinaryNumbers.{numerator, denominator, IsDown, IsUp}
use Rattle.hyd_num.specs.Pairs.{IsRatio, IsProduct, IsQuotient, IsPower, once, even, odd}
use Rattle.hyd_num.specs.CapacityPairs.{IsMinorPair}
use Rattle.hyd_spec_power_laws.specs.declared.power_capacities.HazenWilliamsPipe.{HazenWilliamsPipe}
use Rattle.hyd_spec_power_laws.specs.PowerCapacities.{IsCarried, IsDragged, IsConstant, IsMinorTicks, IsRaised}
use Rattle.hyd_spec_power_laws.specs.PowerCapacities.{IsMinorWith}
use Rattle.hyd_spec_power_laws.specs.PowerCapacities.{StandsFor, IsRefused}
use Rattle.hyd_spec_power_laws.specs.WholeFlows.{Covers, head_side, flow_side, greatest_head, greatest_flow}
use Rattle.hyd_lemmas.proofs.OneBinaryNumber.{one-scaled}

-- two pairs with the same ends
pub record SameEnds (r s : Pair) : Type 0 where
  pub low : r.lo ≡ s.lo
  pub high : r.hi ≡ s.hi

one-down : (p q : ℕ) (s t : Scaled) → IsDown p q s → IsDown p q t → s ≡ t
one-down p q s t a b = one-scaled s t (record { crossed = b.greatest s a.at_most }) (record {
  crossed = a.greatest t b.at_most;
})

one-up : (p q : ℕ) (s t : Scaled) → IsUp p q s → IsUp p q t → s ≡ t
one-up p q s t a b = one-scaled s t (record { crossed = a.least t b.at_least }) (record {
  crossed = b.least s a.at_least;
})

pub same-ratio : (p q : ℕ) (r s : Pair) → IsRatio p q r → IsRatio p q s → SameEnds r s
same-ratio p q r s a b = record { low = one-down p q r.lo s.lo a.low b.low; high = one-up p q r.hi s.hi a.high b.high }

-- one end of a product, and of a quotient
product-down : (a b c d s t : Scaled) → a ≡ c → b ≡ d
    → IsDown (numerator a * numerator b) (denominator a * denominator b) s
    → IsDown (numerator c * numerator d) (denominator c * denominator d) t → s ≡ t
product-down a b c d s t e f x y = one-down (numerator c * numerator d) (denominator c * denominator d) s t
    (subst (λ (n : Scaled). IsDown (numerator c * numerator n) (denominator c * denominator n) s) f
    (subst (λ (n : Scaled). IsDown (numerator n * numerator b) (denominator n * denominator b) s) e x)) y

product-up : (a b c d s t : Scaled) → a ≡ c → b ≡ d → IsUp (numerator a * numerator b) (denominator a * denominator b) s
    → IsUp (numerator c * numerator d) (denominator c * denominator d) t → s ≡ t
product-up a b c d s t e f x y = one-up (numerator c * numerator d) (denominator c * denominator d) s t
    (subst (λ (n : Scaled). IsUp (numerator c * numerator n) (denominator c * denominator n) s) f
    (subst (λ (n : Scaled). IsUp (numerator n * numerator b) (denominator n * denominator b) s) e x)) y

quotient-down : (a b c d s t : Scaled) → a ≡ c → b ≡ d
    → IsDown (numerator a * denominator b) (denominator a * numerator b) s
    → IsDown (numerator c * denominator d) (denominator c * numerator d) t → s ≡ t
quotient-down a b c d s t e f x y = one-down (numerator c * denominator d) (denominator c * numerator d) s t
    (subst (λ (n : Scaled). IsDown (numerator c * denominator n) (denominator c * numerator n) s) f
    (subst (λ (n : Scaled). IsDown (numerator n * denominator b) (denominator n * numerator b) s) e x)) y

quotient-up : (a b c d s t : Scaled) → a ≡ c → b ≡ d
    → IsUp (numerator a * denominator b) (denominator a * numerator b) s
    → IsUp (numerator c * denominator d) (denominator c * numerator d) t → s ≡ t
quotient-up a b c d s t e f x y = one-up (numerator c * denominator d) (denominator c * numerator d) s t
    (subst (λ (n : Scaled). IsUp (numerator c * denominator n) (denominator c * numerator n) s) f
    (subst (λ (n : Scaled). IsUp (numerator n * denominator b) (denominator n * numerator b) s) e x)) y

pub same-product : (x y r u v s : Pair) → IsProduct x y r → IsProduct u v s → SameEnds x u → SameEnds y v → SameEnds r s
same-product x y r u v s a b p q = record {
  low = product-down x.lo y.lo u.lo v.lo r.lo s.lo p.low q.low a.low b.low;
  high = product-up x.hi y.hi u.hi v.hi r.hi s.hi p.high q.high a.high b.high;
}

same-quotient : (x y r u v s : Pair) → IsQuotient x y r → IsQuotient u v s → SameEnds x u → SameEnds y v → SameEnds r s
same-quotient x y r u v s a b p q = record {
  low = quotient-down x.lo y.hi u.lo v.hi r.lo s.lo p.low q.high a.low b.low;
  high = quotient-up x.hi y.lo u.hi v.lo r.hi s.hi p.high q.low a.high b.high;
}

-- no pair is to the power 0
digits_above : (x r : Pair) (n : ℕ) → IsPower x n r → 0 < n
digits_above x r n once = omega arith
digits_above x r k (even n k' s r' e made square) = let some : 0 < n = digits_above x s n made in omega (arith, e, some)
digits_above x r k (odd n k' h s r' e made square more) = omega (arith, e)

same-power : (x u r s : Pair) (n k : ℕ) → n ≡ k → SameEnds x u → IsPower x n r → IsPower u k s → SameEnds r s
same-power x u r s n k same p once once = p
same-power x u r s n k same p once (even m k' h s' e made square) = absurd (omega (arith, same, e))
same-power x u r s n k same p once (odd m k' h i s' e made square more) =
    let some : 0 < m = digits_above u h m made in absurd (omega (arith, same, e, some))
same-power x u r s n k same p (even m n' h r' e made square) once = absurd (omega (arith, same, e))
same-power x u r s n k same p (even m n' h r' e made square) (even l k' i s' f made' square') =
    let half : SameEnds h i = same-power x u h i m l (omega (arith, same, e, f)) p made made' in
    same-product h h r i i s square square' half half
same-power x u r s n k same p (even m n' h r' e made square) (odd l k' i j s' f made' square' more) =
    absurd (omega (arith, same, e, f))
same-power x u r s n k same p (odd m n' h i r' e made square more) once =
    let some : 0 < m = digits_above x h m made in absurd (omega (arith, same, e, some))
same-power x u r s n k same p (odd m n' h i r' e made square more) (even l k' j s' f made' square') =
    absurd (omega (arith, same, e, f))
same-power x u r s n k same p (odd m n' h i r' e made square more) (odd l k' j g s' f made' square' more') =
    let half : SameEnds h j = same-power x u h j m l (omega (arith, same, e, f)) p made made' in
    same-product i x r g u s more more' (same-product h h i j j g square square' half half) p

-- ---- the chains

same-carried : (diameter c : Decimal) (us : Bool) (r s : Pair) → IsCarried diameter c us r → IsCarried diameter c us s
    → SameEnds r s
same-carried diameter c us r s a b =
    let flow : SameEnds a.flow b.flow = same-product a.unit a.coefficient a.flow b.unit b.coefficient b.flow a.flow_is
    b.flow_is (same-ratio _ _ a.unit b.unit a.unit_is b.unit_is)
    (same-ratio _ _ a.coefficient b.coefficient a.coefficient_is b.coefficient_is) in
    same-product a.flows a.widths r b.flows b.widths s a.carried_is b.carried_is
    (same-power a.flow b.flow a.flows b.flows 1852 1852 refl flow a.flows_is b.flows_is)
    (same-power a.across b.across a.widths b.widths 4871 4871 refl
    (same-ratio _ _ a.across b.across a.across_is b.across_is) a.widths_is b.widths_is)

same-dragged : (length : Decimal) (us : Bool) (r s : Pair) → IsDragged length us r → IsDragged length us s
    → SameEnds r s
same-dragged length us r s a b =
    let drag : SameEnds a.drag b.drag = same-product a.factor a.long a.drag b.factor b.long b.drag a.drag_is b.drag_is
    (same-ratio _ _ a.factor b.factor a.factor_is b.factor_is) (same-ratio _ _ a.long b.long a.long_is b.long_is) in
    let ticks : SameEnds a.ticks b.ticks = same-product a.drag a.foot a.ticks b.drag b.foot b.ticks a.ticks_is
    b.ticks_is
    drag (same-ratio _ _ a.foot b.foot a.foot_is b.foot_is) in
    same-power a.ticks b.ticks r s 1000 1000 refl ticks a.dragged_is b.dragged_is

pub same-constant : (length diameter c : Decimal) (us : Bool) (r s : Pair) → IsConstant length diameter c us r
    → IsConstant length diameter c us s → SameEnds r s
same-constant length diameter c us r s a b =
    same-quotient a.carried a.dragged r b.carried b.dragged s a.constant_is b.constant_is
    (same-carried diameter c us a.carried b.carried a.carried_is b.carried_is)
    (same-dragged length us a.dragged b.dragged a.dragged_is b.dragged_is)

same-minor : (diameter k : Decimal) (us : Bool) (r s : Pair) → IsMinorPair diameter k us r → IsMinorPair diameter k us s
    → SameEnds r s
same-minor diameter k us r s a b =
    same-quotient a.scaled a.fourth r b.scaled b.fourth s a.minor_is b.minor_is
    (same-product a.factor a.coefficient a.scaled b.factor b.coefficient b.scaled a.scaled_is b.scaled_is
    (same-ratio _ _ a.factor b.factor a.factor_is b.factor_is)
    (same-ratio _ _ a.coefficient b.coefficient a.coefficient_is b.coefficient_is))
    (same-power a.across b.across a.fourth b.fourth 4 4 refl (same-ratio _ _ a.across b.across a.across_is b.across_is)
    a.fourth_is b.fourth_is)

pub same-minor_ticks : (diameter k : Decimal) (us : Bool) (r s : Pair) → IsMinorTicks diameter k us r
    → IsMinorTicks diameter k us s → SameEnds r s
same-minor_ticks diameter k us r s a b =
    let unit : SameEnds a.unit b.unit = same-ratio _ _ a.unit b.unit a.unit_is b.unit_is in
    same-quotient a.ticks a.square r b.ticks b.square s a.minor_is b.minor_is
    (same-product a.lost a.foot a.ticks b.lost b.foot b.ticks a.ticks_is b.ticks_is
    (same-minor diameter k us a.lost b.lost a.lost_is b.lost_is)
    (same-ratio _ _ a.foot b.foot a.foot_is b.foot_is))
    (same-product a.unit a.unit a.square b.unit b.unit b.square a.square_is b.square_is unit unit)

pub same-raised : (r s : Pair) (high other : Scaled) → SameEnds r s → IsRaised r high → IsRaised s other → high ≡ other
same-raised r s high other p a b =
    sym a.high_is
    ∙ (same-product r a.factor a.more s b.factor b.more a.more_is b.more_is p
    (same-ratio _ _ a.factor b.factor a.factor_is b.factor_is)).high
    ∙ b.high_is

-- ---- what covers each head does so by one end of the minor loss

abbrev left_by : Scaled → ℕ
left_by e = greatest_head * 2 ^ 60 - numerator e * (greatest_flow * greatest_flow) * 2 ^ 60 / denominator e

abbrev covers_by : Scaled → Scaled → Type 0
covers_by k e = (nat_le (left_by e) 0 || nat_le (head_side k (left_by e)) (flow_side k greatest_flow)) ≡ true

covers_same : (k : Scaled) (r s : Pair) → r.lo ≡ s.lo → Covers k (Some r) → Covers k (Some s)
covers_same k r s e h = subst (λ (end : Scaled). covers_by k end) e h

covers_with : (n : ℕ) (diameter minor : Decimal) (us : Bool) (k : Scaled) (a b : Option Pair)
    → IsMinorWith n diameter minor us a → IsMinorWith n diameter minor us b → Covers k a → Covers k b
covers_with zero diameter minor us k a b x y h = subst (λ (m : Option Pair). Covers k m) (x ∙ sym y) h
covers_with (suc n) diameter minor us k a b x y h =
    subst (λ (m : Option Pair). Covers k m) (sym y.1)
    (covers_same k x.0 y.0 (same-minor_ticks diameter minor us x.0 y.0 x.2 y.2).low
    (subst (λ (m : Option Pair). Covers k m) x.1 h))

pub not_refused : (pipe : HazenWilliamsPipe) (low high : Scaled) (minor : Option Pair) → StandsFor pipe low high minor
    → Covers high minor → IsRefused pipe → ⊥
not_refused pipe low high minor made covers refused =
    let other = refused.made in
    let ends : SameEnds made.constant other.constant = same-constant pipe.length pipe.diameter pipe.coefficient pipe.us
    made.constant other.constant made.constant_is other.constant_is in
    let same : high ≡ refused.high = same-raised made.constant other.constant high refused.high ends made.high_is
    other.high_is in
    refused.short (covers_with (billionths pipe.minor) pipe.diameter pipe.minor pipe.us refused.high minor refused.minor
    made.minor_is other.minor_is (subst (λ (k : Scaled). Covers k minor) same covers))
