-- Lemmas: laws that pass one way only, and laws that a pump lifts, are laws where the law inside is one.
use Rattle.std.proofs.Common.{ℤ, ◌<◌, ◌+ℤ◌, Bool, true, false, sym, subst, lit<}
use Rattle.hyd_num.specs.Rational.{floor}
use Rattle.hyd_num.specs.declared.spans.Span.{Span}
use Rattle.hyd_spec.specs.ProgramTypes.{ShutoffHead, FourThirds, Given}
use Rattle.hyd_spec.specs.DemandsHeadsAndPumpLifts.{lift_of}
use Rattle.hyd_spec.specs.Law.{Relation, lifted}
use Rattle.hyd_theorems_on_definitions.specs.SoundLawsAndGrids.{IsLaw}
use Rattle.hyd_theorems_on_definitions.proofs.LinkLaws.{IsLaw-forward, IsLaw-reverse, IsLaw-lifted}
use Rattle.hyd_law.specs.ComposedLaws.{IsLift, directed, directed_at_least, directed_at_most}

pub IsLaw-directed : (forward : Bool) (A B : Relation) (l h : ℤ → ℤ) → IsLaw A B l h
    → IsLaw (directed_at_least forward A) (directed_at_most forward B) (λ d. directed forward (l d))
    (λ d. directed forward (h d))
IsLaw-directed true A B l h law = IsLaw-forward A B l h law
IsLaw-directed false A B l h law = IsLaw-reverse A B l h law

pub lift-above : (us : Bool) (head : ShutoffHead) (speed : ℤ) → 0 < (lift_of us head speed).den
lift-above us (FourThirds head) speed = lit< tt
lift-above us (Given head) speed = lit< tt

pub IsLaw-lift : (us : Bool) (head : ShutoffHead) (speed : ℤ) (span : Span) (A B : Relation) (l h : ℤ → ℤ)
    → IsLift (lift_of us head speed) span → IsLaw A B l h
    → IsLaw (lifted (lift_of us head speed) A) (lifted (lift_of us head speed) B) (λ d. l (d +ℤ span.lo))
    (λ d. h (d +ℤ span.hi))
IsLaw-lift us head speed span A B l h is law =
    subst (λ (z : ℤ). IsLaw (lifted (lift_of us head speed) A) (lifted (lift_of us head speed) B) (λ d. l (d +ℤ z))
    (λ d. h (d +ℤ span.hi))) (sym is.floor_is)
    (subst (λ (z : ℤ). IsLaw (lifted (lift_of us head speed) A) (lifted (lift_of us head speed) B)
    (λ d. l (d +ℤ floor (lift_of us head speed))) (λ d. h (d +ℤ z))) (sym is.ceiling_is)
    (IsLaw-lifted (lift_of us head speed) A B l h (lift-above us head speed) law))
