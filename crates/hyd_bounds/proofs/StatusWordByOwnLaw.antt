-- Status words by the state of a link and its own law.
use Rattle.std.proofs.Common.{◌≡◌, ◌<◌, ◌≤ℤ◌, ◌*ℤ◌, ℤ, pos, Bool, true, false, List, refl, sym, ap₂, ◌∙◌, arith}
use Rattle.std.specs.Prelude.{int_le, int_lt, if◌then◌else◌}
use Rattle.std.proofs.lemmas.Int.{ints}
use Rattle.hyd_num.specs.Rational.{Rational, ceiling}
use Rattle.hyd_net.specs.ListView.{ListView}
use Rattle.hyd_net.specs.LinkStates.{CanHave}
use Rattle.hyd_net.specs.Curves.{Knot, value_at}
use Rattle.hyd_net.specs.declared.curves.HeadPoint.{HeadPoint}
use Rattle.hyd_spec.specs.ProgramTypes.{LinkKind, PipeLink, CheckPipe, PumpLink, CurvePump, Tcv, Fcv, Gpv, Quadratic}
use Rattle.hyd_spec.specs.ProgramTypes.{Linear, LinkState, Open, Closed, Speed, Throttle, Limit}
use Rattle.hyd_spec.specs.ProgramTypes.{PipeLoss, Manning, HazenWilliams}
use Rattle.hyd_spec.specs.Law.{Law}
use Rattle.hyd_spec.specs.LinkLaw.{own_law, pipe_law}
use Rattle.hyd_spec_certificates.specs.Interval.{Interval}
use Rattle.hyd_spec_certificates.specs.declared.StatusWord.TheVariants.{Open as WordOpen, Closed as WordClosed}
use Rattle.hyd_spec_certificates.specs.declared.StatusWord.TheVariants.{Unsure as WordUnsure}
use Rattle.hyd_spec_certificates.specs.StatusesOfLinks.{by_drive, by_knots, status_of}
use Rattle.hyd_num.proofs.Integers.{times_rises}
use Rattle.hyd_lemmas.proofs.Integers.{ceiling_high, ceiling_least}
use Rattle.hyd_lemmas.proofs.BooleanTests.{lt-from, lt-not, le-from, le-yes, lt-no, lt-yes, le-not, le-no}
use Rattle.hyd_theorems_on_definitions.proofs.RisingLines.{value-den}
use Rattle.hyd_period_network.specs.ExactLaw.{is_nothing}
use Rattle.hyd_bounds.specs.StatusWords.{open_word, word_of}

-- ---- curves

above-same : (x : Rational) → 0 < x.den → int_lt (pos 0) (ceiling x) ≡ int_lt (pos 0) x.num
above-same x above = go (int_lt (pos 0) x.num) refl
  where
    high : x.num ≤ℤ (pos x.den *ℤ ceiling x)
    high = ceiling_high x above

    go : (b : Bool) → int_lt (pos 0) x.num ≡ b → int_lt (pos 0) (ceiling x) ≡ int_lt (pos 0) x.num
    go true e =
        let num = lt-yes (pos 0) x.num e in
        let positive : (ceiling x ≤ℤ pos 0) → ⊥ = (λ le. let m = times_rises x.den (ceiling x) (pos 0) le in
        omega (arith, ints, m, high, num)) in
        lt-from (pos 0) (ceiling x) (grind (arith, ints, positive)) ∙ sym e
    go false e =
        let num = lt-no (pos 0) x.num e in
        lt-not (pos 0) (ceiling x) (ceiling_least x (pos 0) above (omega (arith, ints, num))) ∙ sym e

below-same : (x : Rational) → 0 < x.den → int_le (ceiling x) (pos 0) ≡ int_le x.num (pos 0)
below-same x above = go (int_le x.num (pos 0)) refl
  where
    high : x.num ≤ℤ (pos x.den *ℤ ceiling x)
    high = ceiling_high x above

    go : (b : Bool) → int_le x.num (pos 0) ≡ b → int_le (ceiling x) (pos 0) ≡ int_le x.num (pos 0)
    go true e =
        let num = le-yes x.num (pos 0) e in
        le-from (ceiling x) (pos 0) (ceiling_least x (pos 0) above (omega (arith, ints, num))) ∙ sym e
    go false e =
        let num = le-no x.num (pos 0) e in
        let positive : (ceiling x ≤ℤ pos 0) → ⊥ = (λ le. let m = times_rises x.den (ceiling x) (pos 0) le in
        omega (arith, ints, m, high, num)) in
        le-not (ceiling x) (pos 0) (grind (arith, ints, positive)) ∙ sym e

-- the word by the ceilings of the values at both ends is that by the values
pub curve-word : (knots : List Knot) (least greatest : ℤ)
    → by_drive (record { lo = ceiling (value_at 1 knots least); hi = ceiling (value_at 1 knots greatest) })
    ≡ by_knots knots (record { lo = least; hi = greatest })
curve-word knots least greatest =
    ap₂ (λ (a b : Bool). if a then WordOpen else if b then WordClosed else WordUnsure)
    (above-same (value_at 1 knots least) (value-den 1 knots least))
    (below-same (value_at 1 knots greatest) (value-den 1 knots greatest))

-- a flow that may not be 0 at one end is something
pub some-most : (least most : ℤ) → (most ≡ pos 0 → ⊥) → is_nothing least most ≡ false
some-most least most not = grind (arith, ints, not)

pub some-least : (least most : ℤ) → (least ≡ pos 0 → ⊥) → is_nothing least most ≡ false
some-least least most not = grind (arith, ints, not)

-- ---- states

pipe_word : (loss : PipeLoss) (d : Interval) → open_word (pipe_law loss) d ≡ WordOpen
pipe_word (Manning capacity) d = refl
pipe_word (HazenWilliams capacity) d = refl

pub word-is : (us : Bool) (bends : List (ListView HeadPoint)) (kind : LinkKind) (state : LinkState) (d : Interval)
    → CanHave kind state
    → word_of state (own_law us bends kind state) d ≡ status_of us bends kind state d
word-is us bends (PipeLink loss) Open d can = pipe_word loss d
word-is us bends (PipeLink loss) Closed d can = refl
word-is us bends (PipeLink loss) (Speed speed) d can = absurd can
word-is us bends (PipeLink loss) (Throttle setting law) d can = absurd can
word-is us bends (PipeLink loss) (Limit setting ticks) d can = absurd can
word-is us bends (CheckPipe loss) Open d can = refl
word-is us bends (CheckPipe loss) Closed d can = refl
word-is us bends (CheckPipe loss) (Speed speed) d can = absurd can
word-is us bends (CheckPipe loss) (Throttle setting law) d can = absurd can
word-is us bends (CheckPipe loss) (Limit setting ticks) d can = absurd can
word-is us bends (PumpLink capacity shutoff head pattern) Open d can = absurd can
word-is us bends (PumpLink capacity shutoff head pattern) Closed d can = refl
word-is us bends (PumpLink capacity shutoff head pattern) (Speed speed) d can = refl
word-is us bends (PumpLink capacity shutoff head pattern) (Throttle setting law) d can = absurd can
word-is us bends (PumpLink capacity shutoff head pattern) (Limit setting ticks) d can = absurd can
word-is us bends (CurvePump bend pattern) Open d can = absurd can
word-is us bends (CurvePump bend pattern) Closed d can = refl
word-is us bends (CurvePump bend pattern) (Speed speed) d can = refl
word-is us bends (CurvePump bend pattern) (Throttle setting law) d can = absurd can
word-is us bends (CurvePump bend pattern) (Limit setting ticks) d can = absurd can
word-is us bends (Tcv (Quadratic capacity)) Open d can = refl
word-is us bends (Tcv Linear) Open d can = refl
word-is us bends (Tcv valve) Closed d can = refl
word-is us bends (Tcv valve) (Speed speed) d can = absurd can
word-is us bends (Tcv valve) (Throttle setting law) d can = refl
word-is us bends (Tcv valve) (Limit setting ticks) d can = absurd can
word-is us bends (Fcv (Quadratic capacity)) Open d can = refl
word-is us bends (Fcv Linear) Open d can = refl
word-is us bends (Fcv valve) Closed d can = refl
word-is us bends (Fcv valve) (Speed speed) d can = absurd can
word-is us bends (Fcv valve) (Throttle setting law) d can = absurd can
word-is us bends (Fcv valve) (Limit setting ticks) d can = refl
word-is us bends (Gpv bend) Open d can = refl
word-is us bends (Gpv bend) Closed d can = refl
word-is us bends (Gpv bend) (Speed speed) d can = absurd can
word-is us bends (Gpv bend) (Throttle setting law) d can = absurd can
word-is us bends (Gpv bend) (Limit setting ticks) d can = absurd can

pub status-is : (us : Bool) (bends : List (ListView HeadPoint)) (kind : LinkKind) (state s : LinkState) (law : Law)
    (lo hi least greatest : ℤ)
    → CanHave kind state → s ≡ state → law ≡ own_law us bends kind state → lo ≡ least → hi ≡ greatest
    → word_of s law (record { lo = lo; hi = hi }) ≡ status_of us bends kind state (record { lo = least; hi = greatest })
status-is us bends kind state s law lo hi least greatest can is_state is_law is_least is_greatest =
    rw (is_state, is_law, is_least, is_greatest) (word-is us bends kind state (record {
      lo = least;
      hi = greatest;
    }) can)
