-- The pair of a pipe, with and without minor losses.
use Rattle.std.proofs.Common.{◌≡◌, ℕ, zero, suc, ◌<◌, ℤ, pos, negsuc, ◌≤ℤ◌, ◌<ℤ◌, Bool, refl, sym, subst, arith}
use Rattle.std.proofs.lemmas.Int.{ints}
use borrow.Author.Differences.{up}
use Rattle.hyd_num.specs.FileQuantity.{billionths}
use Rattle.hyd_num.specs.declared.pairs.Pair.{Pair}
use Rattle.hyd_num.specs.declared.decimals.Decimal.{Decimal}
use Rattle.hyd_num.specs.Pairs.{IsSum}
use Rattle.hyd_num.specs.CapacityPairs.{IsPipePairWith, IsFrictionPair, IsMinorPair, IsUnitOver}

pub pipe_without_minor : (v : ℕ) (length diameter roughness minor : Decimal) (us : Bool) (friction r : Pair) → v ≡ 0
    → IsFrictionPair length diameter roughness us friction → IsUnitOver friction r
    → IsPipePairWith v length diameter roughness minor us r
pipe_without_minor v length diameter roughness minor us friction r none rubs over =
    subst (λ (x : ℕ). IsPipePairWith x length diameter roughness minor us r) (sym none)
    (record { friction = friction; friction_is = rubs; capacity_is = over })

pub fitted_pipe : (v : ℕ) (length diameter roughness minor : Decimal) (us : Bool) (friction fittings lost r : Pair)
    → 0 < v
    → IsFrictionPair length diameter roughness us friction → IsMinorPair diameter minor us fittings
    → IsSum friction fittings lost → IsUnitOver lost r
    → IsPipePairWith v length diameter roughness minor us r
fitted_pipe zero length diameter roughness minor us friction fittings lost r some rubs fits sum over =
    absurd (omega arith)
fitted_pipe (suc v) length diameter roughness minor us friction fittings lost r some rubs fits sum over =
    record {
      friction = friction;
      friction_is = rubs;
      fittings = fittings;
      fittings_is = fits;
      lost = lost;
      lost_is = sum;
      capacity_is = over;
    }

pub no_billionths : (d : Decimal) → d.nano ≤ℤ pos 0 → billionths d ≡ 0
no_billionths d none = nothing d.nano none
  where
    nothing : (z : ℤ) → z ≤ℤ pos 0 → up z ≡ 0
    nothing (pos n) le = omega (arith, ints)
    nothing (negsuc n) le = refl

pub some_billionths : (d : Decimal) → pos 0 <ℤ d.nano → 0 < billionths d
some_billionths d some = omega (arith, ints)
