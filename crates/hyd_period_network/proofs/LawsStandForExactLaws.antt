-- Laws of the program that stand for exact laws.
use Rattle.std.proofs.Common.{◌≡◌, ◌⊎◌, inl, inr, ℕ, ◌*◌, ◌^◌, ◌≤◌, ℤ, pos, ◌+ℤ◌, ◌*ℤ◌, ◌≤ℤ◌, Bool, true, false}
use Rattle.std.proofs.Common.{unsigned_abs, not, List, refl, sym, ap, subst, ◌∙◌, arith}
use Rattle.std.specs.Int.{int_max, int_min}
use Rattle.std.proofs.lemmas.Int.{ints, clamps}
use Rattle.hyd_num.proofs.Integers.{times_rises}
use Rattle.hyd_num.specs.CapacityPairs.{IsMade}
use Rattle.hyd_spec_power_laws.specs.PowerCapacities.{IsMade as IsPowerMade}
use Rattle.hyd_num.specs.declared.spans.Span.{Span}
use Rattle.hyd_spec.specs.ProgramTypes.{Capacity, PowerCapacity, ShutoffHead}
use Rattle.hyd_num.specs.Rational.{floor, ceiling}
use Rattle.hyd_net.specs.Curves.{Knot as Place, value_at}
use Rattle.hyd_spec.specs.DemandsHeadsAndPumpLifts.{lift_of}
use Rattle.hyd_spec.specs.LinkLaw.{greatest_curve_flow}
use Rattle.hyd_spec.specs.Scale.{at_scale}
use Rattle.hyd_spec.specs.Law.{Relation, flow_at_least, flow_at_most, Law, Shut as ShutLaw, QuadraticLaw, LinearLaw}
use Rattle.hyd_spec.specs.Law.{Lifted, ForwardOnly, ReverseOnly, Capped as CappedLaw, Bent as BentLaw, Held as HeldLaw}
use Rattle.hyd_spec.specs.Law.{PowerLaw}
use Rattle.hyd_spec_certificates.specs.Certificate.{box_limit}
use Rattle.hyd_spec_certificates.specs.EnclosingFunctions.{quadratic_low, quadratic_high, low, high}
use Rattle.hyd_lemmas.proofs.Integers.{max_left, max_right, max_is, min_left, min_right, min_is}
use Rattle.hyd_theorems_on_definitions.proofs.EachLaw.{IsSoundCapacity-made}
use Rattle.hyd_law.specs.ComposedLaws.{IsLift, directed, directed_at_least, directed_at_most, held, held_at_least}
use Rattle.hyd_law.specs.ComposedLaws.{held_at_most}
use Rattle.hyd_law.specs.KnotsOfStraightLines.{IsCurve, places}
use Rattle.hyd_law.specs.LinkLaws.{link_at_least, link_at_most, link_low, link_high, IsSoundLink, LinkAccepts}
use Rattle.hyd_law.specs.declared.law_kinds.Shut.{Shut as ShutValue}
use Rattle.hyd_law.specs.declared.law_kinds.Linear.{Linear as LinearValue}
use Rattle.hyd_law.specs.declared.law_kinds.Quad.{Quad as QuadValue}
use Rattle.hyd_law.specs.declared.law_kinds.Power.{Power as PowerValue}
use Rattle.hyd_law.specs.declared.law_kinds.OneWay.{OneWay}
use Rattle.hyd_law.specs.declared.law_kinds.Lifted.{Lifted as LiftedValue}
use Rattle.hyd_law.specs.declared.law_kinds.Capped.{Capped}
use Rattle.hyd_law.specs.declared.law_kinds.Held.{Held}
use Rattle.hyd_law.specs.declared.law_kinds.Bent.{Bent as BentValue}
use Rattle.hyd_law.specs.declared.link_law_kinds.LinkLaw.{LinkLaw}
use Rattle.hyd_law.specs.declared.link_law_kinds.LinkLaw.TheVariants.{Shut, Quad, Linear, QuadOneWay, LinearOneWay}
use Rattle.hyd_law.specs.declared.link_law_kinds.LinkLaw.TheVariants.{Pump}
use Rattle.hyd_law.specs.declared.link_law_kinds.LinkLaw.TheVariants.{Limit, LinearLimit, LimitOneWay}
use Rattle.hyd_law.specs.declared.link_law_kinds.LinkLaw.TheVariants.{LinearLimitOneWay, Power, PowerOneWay}
use Rattle.hyd_law.specs.declared.link_law_kinds.LinkLaw.TheVariants.{Bent}
use Rattle.hyd_period_network.specs.ExactLaw.{one_way_law, is_nothing}
use Rattle.std.specs.Prelude.{◌↔◌, if◌then◌else◌}
use Rattle.hyd_period_network.specs.LawsInSettings.{Stands, Represents}

-- ---- two truths that are the same

same_truth : {P : Type 0} → P ↔ P
same_truth = (λ p. p, λ p. p)

both_ways : {P Q R : Type 0} → P ↔ Q → Q ↔ R → P ↔ R
both_ways f g = (λ p. g.0 (f.0 p), λ r. f.1 (g.1 r))

-- a flow held from 0 to 0
nothing_at_least : (S : ℕ) (a : ℤ) (P : Type 0) → ((a ≤ℤ at_scale S (pos 0)) ⊎ ((a ≤ℤ at_scale S (pos 0)) × P)) ↔
    (a ≤ℤ pos 0)
nothing_at_least S a P = (
  λ e. elim e [
    | inl h ↦ omega (arith, ints, h)
    | inr h ↦ (let l = h.0 in omega (arith, ints, l))
  ],
  λ h. inl (omega (arith, ints, h)),
)

nothing_at_most : (S : ℕ) (a : ℤ) (P : Type 0) → ((at_scale S (pos 0) ≤ℤ a) ⊎ ((at_scale S (pos 0) ≤ℤ a) × P)) ↔
    (pos 0 ≤ℤ a)
nothing_at_most S a P = (
  λ e. elim e [
    | inl h ↦ omega (arith, ints, h)
    | inr h ↦ (let l = h.0 in omega (arith, ints, l))
  ],
  λ h. inl (omega (arith, ints, h)),
)

-- ---- a link's own law

pub shut_represents : (s : ShutValue) → Represents (Shut s) ShutLaw
shut_represents s = record {
  stands = record {
    at_least_is = λ S x a. same_truth;
    at_most_is = λ S x a. same_truth;
    low_is = λ d. refl;
    high_is = λ d. refl;
    sound = tt;
    accepts = λ d le. tt;
  };
  is_exact = refl;
}

pub quad_represents : (c : Capacity) → IsMade c → Represents (Quad (record { cap = c })) (QuadraticLaw c)
quad_represents c made = record {
  stands = record {
    at_least_is = λ S x a. same_truth;
    at_most_is = λ S x a. same_truth;
    low_is = λ d. refl;
    high_is = λ d. refl;
    sound = IsSoundCapacity-made c made;
    accepts = λ d le. omega arith;
  };
  is_exact = refl;
}

pub check_represents : (c : Capacity) → IsMade c → Represents (QuadOneWay (record {
  forward = true;
  inner = record { cap = c };
})) (ForwardOnly (QuadraticLaw c))
check_represents c made = record {
  stands = record {
    at_least_is = λ S x a. same_truth;
    at_most_is = λ S x a. same_truth;
    low_is = λ d. refl;
    high_is = λ d. refl;
    sound = IsSoundCapacity-made c made;
    accepts = λ d le. omega arith;
  };
  is_exact = refl;
}

pub power_represents : (c : PowerCapacity) → IsPowerMade c → Represents (Power (record { cap = c })) (PowerLaw c)
power_represents c made = record {
  stands = record {
    at_least_is = λ S x a. same_truth;
    at_most_is = λ S x a. same_truth;
    low_is = λ d. refl;
    high_is = λ d. refl;
    sound = made;
    accepts = λ d le. omega arith;
  };
  is_exact = refl;
}

pub power_check_represents : (c : PowerCapacity) → IsPowerMade c → Represents (PowerOneWay (record {
  forward = true;
  inner = record { cap = c };
})) (ForwardOnly (PowerLaw c))
power_check_represents c made = record {
  stands = record {
    at_least_is = λ S x a. same_truth;
    at_most_is = λ S x a. same_truth;
    low_is = λ d. refl;
    high_is = λ d. refl;
    sound = made;
    accepts = λ d le. omega arith;
  };
  is_exact = refl;
}

pub limit_represents : (t : ℤ) (c : Capacity) → IsMade c → Represents (Limit (record {
  cap = t;
  inner = record { cap = c };
})) (CappedLaw t (QuadraticLaw c))
limit_represents t c made = record {
  stands = record {
    at_least_is = λ S x a. same_truth;
    at_most_is = λ S x a. same_truth;
    low_is = λ d. refl;
    high_is = λ d. refl;
    sound = IsSoundCapacity-made c made;
    accepts = λ d le. omega arith;
  };
  is_exact = refl;
}

pub pump_represents : (us : Bool) (c : Capacity) (head : ShutoffHead) (speed : ℤ) (lift : Span) → IsMade c
    → IsLift (lift_of us head speed) lift
    → unsigned_abs lift.lo ≤ 10 ^ 18 → unsigned_abs lift.hi ≤ 10 ^ 18
    → Represents (Pump (record {
      forward = true;
      inner = record {
        lift = lift;
        head = head;
        speed = speed;
        us = us;
        inner = record { cap = c };
      };
    }))
    (ForwardOnly (Lifted (lift_of us head speed) (QuadraticLaw c)))
pump_represents us c head speed lift made is least greatest = record {
  stands = record {
    at_least_is = λ S x a. same_truth;
    at_most_is = λ S x a. same_truth;
    low_is = λ d. ap (λ (z : ℤ). int_max (pos 0) (quadratic_low c (d +ℤ z))) is.floor_is;
    high_is = λ d. ap (λ (z : ℤ). int_max (pos 0) (quadratic_high c (d +ℤ z))) is.ceiling_is;
    sound = (is, IsSoundCapacity-made c made);
    accepts = λ d le. (
      (omega (arith, ints, le, least), omega (arith, ints, le, least)),
      (omega (arith, ints, le, greatest), omega (arith, ints, le, greatest)),
    );
  };
  is_exact = refl;
}

pub linear_represents : (l : LinearValue) → Represents (Linear l) LinearLaw
linear_represents l = record {
  stands = record {
    at_least_is = λ S x a. same_truth;
    at_most_is = λ S x a. same_truth;
    low_is = λ d. refl;
    high_is = λ d. refl;
    sound = tt;
    accepts = λ d le. omega arith;
  };
  is_exact = refl;
}

pub linear_limit_represents : (t : ℤ) (l : LinearValue) → Represents (LinearLimit (record {
  cap = t;
  inner = l;
})) (CappedLaw t LinearLaw)
linear_limit_represents t l = record {
  stands = record {
    at_least_is = λ S x a. same_truth;
    at_most_is = λ S x a. same_truth;
    low_is = λ d. refl;
    high_is = λ d. refl;
    sound = tt;
    accepts = λ d le. omega
        arith;
  };
  is_exact = refl;
}

-- straight lines held from 0 to 0, and those of a curve
nothing_between : (q : ℤ) → held (pos 0) (pos 0) q ≡ pos 0
nothing_between q = omega (arith, ints, clamps)

pub closed_represents : (b : BentValue) → IsCurve b.knots.list → Represents (Bent (record {
  least = pos 0;
  most = pos 0;
  inner = b;
})) ShutLaw
closed_represents b curve = record {
  stands = record {
    at_least_is = λ S x a. nothing_at_least S a (flow_at_least (BentLaw (places b.knots.list)) S x a);
    at_most_is = λ S x a. nothing_at_most S a (flow_at_most (BentLaw (places b.knots.list)) S x a);
    low_is = λ d. nothing_between (floor (value_at 1 (places b.knots.list) d));
    high_is = λ d. nothing_between (ceiling (value_at 1 (places b.knots.list) d));
    sound = (omega (arith, ints), curve);
    accepts = λ d le. omega arith;
  };
  is_exact = refl;
}

pub curve_represents : (least : ℤ) (b : BentValue) (knots : List Place) → least ≤ℤ greatest_curve_flow
    → is_nothing least greatest_curve_flow ≡ false → IsCurve b.knots.list → places b.knots.list ≡ knots
    → Represents (Bent (record {
      least = least;
      most = greatest_curve_flow;
      inner = b;
    })) (HeldLaw least greatest_curve_flow (BentLaw knots))
curve_represents least b knots le some curve e = record {
  stands = record {
    at_least_is = λ S x a. subst (λ (ks : List Place). held_at_least least greatest_curve_flow
        (flow_at_least (BentLaw (places b.knots.list))) S x a ↔ flow_at_least
        (HeldLaw least greatest_curve_flow (BentLaw ks)) S x a) e same_truth;
    at_most_is = λ S x a. subst (λ (ks : List Place). held_at_most least greatest_curve_flow
        (flow_at_most (BentLaw (places b.knots.list))) S x a
        ↔ flow_at_most (HeldLaw least greatest_curve_flow (BentLaw ks))
        S x a) e same_truth;
    low_is = λ d. ap (λ (ks : List Place). held least greatest_curve_flow (floor (value_at 1 ks d))) e;
    high_is = λ d. ap (λ (ks : List Place). held least greatest_curve_flow (ceiling (value_at 1 ks d))) e;
    sound = (le, curve);
    accepts = λ d small. omega arith;
  };
  is_exact = ap (λ (t : Bool). if t then ShutLaw else HeldLaw least greatest_curve_flow (BentLaw (places b.knots.list)))
      some ∙ ap (λ (ks : List Place). HeldLaw least greatest_curve_flow (BentLaw ks)) e;
}

-- ---- one way

directed_low : (forward : Bool) (of : Law) (d : ℤ) → low (one_way_law forward of) d ≡ directed forward (low of d)
directed_low true of d = refl
directed_low false of d = refl

directed_high : (forward : Bool) (of : Law) (d : ℤ) → high (one_way_law forward of) d ≡ directed forward (high of d)
directed_high true of d = refl
directed_high false of d = refl

-- a flow directed twice the same way, or both ways
pub again : (f g : Bool) (q : ℤ) → f ≡ g → directed f q ≡ directed g (directed f q)
again f true q e = rw e (omega (arith, ints, clamps))
again f false q e = rw e (omega (arith, ints, clamps))

pub against : (f g : Bool) (q : ℤ) → f ≡ not g → pos 0 ≡ directed g (directed f q)
against f true q e = rw e (omega (arith, ints, clamps))
against f false q e = rw e (omega (arith, ints, clamps))

none : (g : Bool) → pos 0 ≡ directed g (pos 0)
none true = omega (arith, ints, clamps)
none false = omega (arith, ints, clamps)

bounded : (g : Bool) (least most q : ℤ) → least ≤ℤ most → held (directed g least) (directed g most) q
    ≡ directed g (held least most q)
bounded true least most q le = omega (arith, ints, clamps, le)
bounded false least most q le = omega (arith, ints, clamps, le)

in_order : (g : Bool) (least most : ℤ) → least ≤ℤ most → directed g least ≤ℤ directed g most
in_order true least most le = omega (arith, ints, clamps, le)
in_order false least most le = omega (arith, ints, clamps, le)

-- the same of the relations
directed_least : (forward : Bool) (of : Law) (A : Relation) (S : ℕ) (x a : ℤ) → A S x a ↔ flow_at_least of S x a
    → directed_at_least forward A S x a ↔ flow_at_least (one_way_law forward of) S x a
directed_least true of A S x a e = (
  λ p. elim p [ inl h ↦ inl h | inr h ↦ inr (e.0 h) ],
  λ p. elim p [
    | inl h ↦ inl h
    | inr h ↦ inr (e.1 h)
  ],
)
directed_least false of A S x a e = (λ p. (p.0, e.0 p.1), λ p. (p.0, e.1 p.1))

directed_most : (forward : Bool) (of : Law) (A : Relation) (S : ℕ) (x a : ℤ) → A S x a ↔ flow_at_most of S x a
    → directed_at_most forward A S x a ↔ flow_at_most (one_way_law forward of) S x a
directed_most true of A S x a e = (λ p. (p.0, e.0 p.1), λ p. (p.0, e.1 p.1))
directed_most false of A S x a e = (
  λ p. elim p [ inl h ↦ inl h | inr h ↦ inr (e.0 h) ],
  λ p. elim p [
    | inl h ↦ inl h
    | inr h ↦ inr (e.1 h)
  ],
)

again_least : (f g : Bool) (A : Relation) (S : ℕ) (x a : ℤ) → f ≡ g
    → directed_at_least f A S x a ↔ directed_at_least g (directed_at_least f A) S x a
again_least f true A S x a e = rw e (λ p. inr p, λ p. elim p [ inl h ↦ inl h | inr h ↦ h ])
again_least f false A S x a e = rw e (λ p. (p.0, p), λ p. p.1)

again_most : (f g : Bool) (A : Relation) (S : ℕ) (x a : ℤ) → f ≡ g
    → directed_at_most f A S x a ↔ directed_at_most g (directed_at_most f A) S x a
again_most f true A S x a e = rw e (λ p. (p.0, p), λ p. p.1)
again_most f false A S x a e = rw e (λ p. inr p, λ p. elim p [ inl h ↦ inl h | inr h ↦ h ])

pub against_least : (f g : Bool) (A : Relation) (S : ℕ) (x a : ℤ) → f ≡ not g
    → (a ≤ℤ pos 0) ↔ directed_at_least g (directed_at_least f A) S x a
against_least f true A S x a e = rw e (λ p. inl p, λ p. elim p [ inl h ↦ h | inr h ↦ h.0 ])
against_least f false A S x a e = rw e (λ p. (p, inl p), λ p. p.0)

pub against_most : (f g : Bool) (A : Relation) (S : ℕ) (x a : ℤ) → f ≡ not g
    → (pos 0 ≤ℤ a) ↔ directed_at_most g (directed_at_most f A) S x a
against_most f true A S x a e = rw e (λ p. (p, inl p), λ p. p.0)
against_most f false A S x a e = rw e (λ p. inl p, λ p. elim p [ inl h ↦ h | inr h ↦ h.0 ])

none_least : (g : Bool) (S : ℕ) (x a : ℤ) → (a ≤ℤ pos 0) ↔ directed_at_least g (flow_at_least ShutLaw) S x a
none_least true S x a = (λ p. inl p, λ p. elim p [ inl h ↦ h | inr h ↦ h ])
none_least false S x a = (λ p. (p, p), λ p. p.0)

none_most : (g : Bool) (S : ℕ) (x a : ℤ) → (pos 0 ≤ℤ a) ↔ directed_at_most g (flow_at_most ShutLaw) S x a
none_most true S x a = (λ p. (p, p), λ p. p.0)
none_most false S x a = (λ p. inl p, λ p. elim p [ inl h ↦ h | inr h ↦ h ])

made_one_way : (forward : Bool) (law r : LinkLaw) (of : Law) → Stands law of
    → ((S : ℕ) (x a : ℤ) → link_at_least r S x a ↔ directed_at_least forward (link_at_least law) S x a)
    → ((S : ℕ) (x a : ℤ) → link_at_most r S x a ↔ directed_at_most forward (link_at_most law) S x a)
    → ((d : ℤ) → link_low r d ≡ directed forward (link_low law d))
    → ((d : ℤ) → link_high r d ≡ directed forward (link_high law d))
    → IsSoundLink r → ((d : ℤ) → unsigned_abs d ≤ 2 * box_limit → LinkAccepts r d) → Stands r (one_way_law forward of)
made_one_way forward law r of s least most l h sound accepts = record {
  at_least_is = λ S x a. both_ways (least S x a) (directed_least forward of (link_at_least law) S x a
      (s.at_least_is S x a));
  at_most_is = λ S x a. both_ways (most S x a) (directed_most forward of (link_at_most law) S x a (s.at_most_is S x a));
  low_is = λ d. l d ∙ ap (directed forward) (s.low_is d) ∙ sym (directed_low forward of d);
  high_is = λ d. h d ∙ ap (directed forward) (s.high_is d) ∙ sym (directed_high forward of d);
  sound = sound;
  accepts = accepts;
}

-- a law that passes nothing, for one directed the other way
pub shut_one_way : (forward : Bool) (law : LinkLaw) (s : ShutValue) (of : Law)
    → ((S : ℕ) (x a : ℤ) → (a ≤ℤ pos 0) ↔ directed_at_least forward (link_at_least law) S x a)
    → ((S : ℕ) (x a : ℤ) → (pos 0 ≤ℤ a) ↔ directed_at_most forward (link_at_most law) S x a)
    → ((d : ℤ) → pos 0 ≡ directed forward (link_low law d)) → ((d : ℤ) → pos 0 ≡ directed forward (link_high law d))
    → Stands law of → Stands (Shut s) (one_way_law forward of)
shut_one_way forward law s of least most l h stands = made_one_way forward law (Shut s) of stands least most l h tt
    (λ d le. tt)

pub still_shut : (forward : Bool) (s : ShutValue) (of : Law)
    → Stands (Shut s) of → Stands (Shut s) (one_way_law forward of)
still_shut forward s of stands = shut_one_way forward (Shut s) s of (none_least forward) (none_most forward)
    (λ d. none forward) (λ d. none forward) stands

pub quad_one_way : (forward : Bool) (l : QuadValue) (of : Law) → Stands (Quad l) of → Stands (QuadOneWay (record {
  forward = forward;
  inner = l;
})) (one_way_law forward of)
quad_one_way forward l of s = made_one_way forward (Quad l) _ of s (λ S x a. same_truth) (λ S x a. same_truth)
    (λ d. refl) (λ d. refl) s.sound s.accepts

pub power_one_way : (forward : Bool) (l : PowerValue) (of : Law) → Stands (Power l) of → Stands (PowerOneWay (record {
  forward = forward;
  inner = l;
})) (one_way_law forward of)
power_one_way forward l of s = made_one_way forward (Power l) _ of s (λ S x a. same_truth) (λ S x a. same_truth)
    (λ d. refl) (λ d. refl) s.sound s.accepts

pub linear_one_way : (forward : Bool) (l : LinearValue) (of : Law)
    → Stands (Linear l) of → Stands (LinearOneWay (record { forward = forward; inner = l })) (one_way_law forward of)
linear_one_way forward l of s = made_one_way forward (Linear l) _ of s (λ S x a. same_truth) (λ S x a. same_truth)
    (λ d. refl) (λ d. refl) s.sound s.accepts

pub limit_one_way : (forward : Bool) (l : Capped QuadValue) (of : Law)
    → Stands (Limit l) of → Stands (LimitOneWay (record { forward = forward; inner = l })) (one_way_law forward of)
limit_one_way forward l of s = made_one_way forward (Limit l) _ of s (λ S x a. same_truth) (λ S x a. same_truth)
    (λ d. refl) (λ d. refl) s.sound s.accepts

pub linear_limit_one_way : (forward : Bool) (l : Capped LinearValue) (of : Law)
    → Stands (LinearLimit l) of → Stands (LinearLimitOneWay (record {
      forward = forward;
      inner = l;
    })) (one_way_law forward of)
linear_limit_one_way forward l of s = made_one_way forward (LinearLimit l) _ of s (λ S x a. same_truth)
    (λ S x a. same_truth) (λ d. refl) (λ d. refl) s.sound s.accepts

-- a law that is directed already stays
pub quad_again : (forward : Bool) (l : OneWay QuadValue) (of : Law) → l.forward ≡ forward
    → Stands (QuadOneWay l) of → Stands (QuadOneWay l) (one_way_law forward of)
quad_again forward l of e s = made_one_way forward (QuadOneWay l) _ of s (λ S x a. again_least l.forward forward _ S x
    a e) (λ S x a. again_most l.forward forward _ S x a e) (λ d. again l.forward forward _ e)
    (λ d. again l.forward forward _ e) s.sound s.accepts

pub power_again : (forward : Bool) (l : OneWay PowerValue) (of : Law) → l.forward ≡ forward
    → Stands (PowerOneWay l) of → Stands (PowerOneWay l) (one_way_law forward of)
power_again forward l of e s = made_one_way forward (PowerOneWay l) _ of s (λ S x a. again_least l.forward forward _ S x
    a e) (λ S x a. again_most l.forward forward _ S x a e) (λ d. again l.forward forward _ e)
    (λ d. again l.forward forward _ e) s.sound s.accepts

pub linear_again : (forward : Bool) (l : OneWay LinearValue) (of : Law) → l.forward ≡ forward
    → Stands (LinearOneWay l) of → Stands (LinearOneWay l) (one_way_law forward of)
linear_again forward l of e s = made_one_way forward (LinearOneWay l) _ of s
    (λ S x a. again_least l.forward forward _ S x a e) (λ S x a. again_most l.forward forward _ S x a e)
    (λ d. again l.forward forward _ e) (λ d. again l.forward forward _ e) s.sound s.accepts

pub pump_again : (forward : Bool) (l : OneWay (LiftedValue QuadValue)) (of : Law) → l.forward ≡ forward
    → Stands (Pump l) of → Stands (Pump l) (one_way_law forward of)
pump_again forward l of e s = made_one_way forward (Pump l) _ of s (λ S x a. again_least l.forward forward _ S x a e)
    (λ S x a. again_most l.forward forward _ S x a e) (λ d. again l.forward forward _ e)
    (λ d. again l.forward forward _ e) s.sound s.accepts

pub limit_again : (forward : Bool) (l : OneWay (Capped QuadValue)) (of : Law) → l.forward ≡ forward
    → Stands (LimitOneWay l) of → Stands (LimitOneWay l) (one_way_law forward of)
limit_again forward l of e s = made_one_way forward (LimitOneWay l) _ of s
    (λ S x a. again_least l.forward forward _ S x a e) (λ S x a. again_most l.forward forward _ S x a e)
    (λ d. again l.forward forward _ e) (λ d. again l.forward forward _ e) s.sound s.accepts

pub linear_limit_again : (forward : Bool) (l : OneWay (Capped LinearValue)) (of : Law) → l.forward ≡ forward
    → Stands (LinearLimitOneWay l) of → Stands (LinearLimitOneWay l) (one_way_law forward of)
linear_limit_again forward l of e s = made_one_way forward (LinearLimitOneWay l) _ of s
    (λ S x a. again_least l.forward forward _ S x a e) (λ S x a. again_most l.forward forward _ S x a e)
    (λ d. again l.forward forward _ e) (λ d. again l.forward forward _ e) s.sound s.accepts

-- straight lines between other bounds
least_max : (S : ℕ) (q a : ℤ) → (a ≤ℤ at_scale S (int_max (pos 0) q)) ↔ ((a ≤ℤ pos 0) ⊎ (a ≤ℤ at_scale S q))
least_max S q a = (
  max_is (λ z. a ≤ℤ (pos S *ℤ z) → (a ≤ℤ pos 0) ⊎ (a ≤ℤ (pos S *ℤ q))) (pos 0) q (λ e h. inl (omega (arith, ints, h)))
      (λ e h. inr h),
  λ p. elim p [
    | inl h ↦ (let m = times_rises S (pos 0) (int_max (pos 0) q) (max_left (pos 0) q) in omega (arith, ints, h, m))
    | inr h ↦ (let m = times_rises S q (int_max (pos 0) q) (max_right (pos 0) q) in omega (arith, ints, h, m))
  ],
)

most_max : (S : ℕ) (q a : ℤ) → (at_scale S (int_max (pos 0) q) ≤ℤ a) ↔ ((pos 0 ≤ℤ a) × (at_scale S q ≤ℤ a))
most_max S q a = (
  λ h. (
    (let m = times_rises S (pos 0) (int_max (pos 0) q) (max_left (pos 0) q) in omega (arith, ints, h, m)),
    (let m = times_rises S q (int_max (pos 0) q) (max_right (pos 0) q) in omega (arith, ints, h, m)),
  ),
  λ p. max_is (λ z. (pos S *ℤ z) ≤ℤ a) (pos 0) q (λ e. (let l = p.0 in omega (arith, ints, l))) (λ e. p.1),
)

least_min : (S : ℕ) (q a : ℤ) → (a ≤ℤ at_scale S (int_min (pos 0) q)) ↔ ((a ≤ℤ pos 0) × (a ≤ℤ at_scale S q))
least_min S q a = (
  λ h. (
    (let m = times_rises S (int_min (pos 0) q) (pos 0) (min_left (pos 0) q) in omega (arith, ints, h, m)),
    (let m = times_rises S (int_min (pos 0) q) q (min_right (pos 0) q) in omega (arith, ints, h, m)),
  ),
  λ p. min_is (λ z. a ≤ℤ (pos S *ℤ z)) (pos 0) q (λ e. (let l = p.0 in omega (arith, ints, l))) (λ e. p.1),
)

most_min : (S : ℕ) (q a : ℤ) → (at_scale S (int_min (pos 0) q) ≤ℤ a) ↔ ((pos 0 ≤ℤ a) ⊎ (at_scale S q ≤ℤ a))
most_min S q a = (
  min_is (λ z. (pos S *ℤ z) ≤ℤ a → (pos 0 ≤ℤ a) ⊎ ((pos S *ℤ q) ≤ℤ a)) (pos 0) q (λ e h. inl (omega (arith, ints, h)))
      (λ e h. inr h),
  λ p. elim p [
    | inl h ↦ (let m = times_rises S (int_min (pos 0) q) (pos 0) (min_left (pos 0) q) in omega (arith, ints, h, m))
    | inr h ↦ (let m = times_rises S (int_min (pos 0) q) q (min_right (pos 0) q) in omega (arith, ints, h, m))
  ],
)

-- a bound that is widened by a choice, or narrowed by a condition, widens or narrows what it bounds
widened : {Z L M L' M' A : Type 0} → L' ↔ (Z ⊎ L) → M' ↔ (Z ⊎ M) → (L' ⊎ (M' × A)) ↔ (Z ⊎ (L ⊎ (M × A)))
widened f g = (
  λ p. elim p [
    | inl l ↦ elim (f.0 l) [ inl z ↦ inl z | inr h ↦ inr (inl h) ]
    | inr q ↦ elim (g.0 q.0) [ inl z ↦ inl z | inr h ↦ inr (inr (h, q.1)) ]
  ],
  λ p. elim p [
    | inl z ↦ inl (f.1 (inl z))
    | inr q ↦ elim q [ inl l ↦ inl (f.1 (inr l)) | inr r ↦ inr (g.1 (inr r.0), r.1) ]
  ],
)

narrowed : {Z L M L' M' A : Type 0} → L' ↔ (Z × L) → M' ↔ (Z × M) → (L' ⊎ (M' × A)) ↔ (Z × (L ⊎ (M × A)))
narrowed f g = (
  λ p. elim p [ inl l ↦ ((f.0 l).0, inl (f.0 l).1) | inr q ↦ ((g.0 q.0).0, inr ((g.0 q.0).1, q.1)) ],
  λ p. elim p.1 [ inl l ↦ inl (f.1 (p.0, l)) | inr q ↦ inr (g.1 (p.0, q.0), q.1) ],
)

bounded_least : (g : Bool) (least most : ℤ) (A : Relation) (S : ℕ) (x a : ℤ)
    → held_at_least (directed g least) (directed g most) A S x a ↔ directed_at_least g (held_at_least least most A) S
    x a
bounded_least true least most A S x a = widened (least_max S least a) (least_max S most a)
bounded_least false least most A S x a = narrowed (least_min S least a) (least_min S most a)

bounded_most : (g : Bool) (least most : ℤ) (A : Relation) (S : ℕ) (x a : ℤ)
    → held_at_most (directed g least) (directed g most) A S x a ↔ directed_at_most g (held_at_most least most A) S x a
bounded_most true least most A S x a = narrowed (most_max S most a) (most_max S least a)
bounded_most false least most A S x a = widened (most_min S most a) (most_min S least a)

pub bent_one_way : (forward : Bool) (l r : Held BentValue) (of : Law) → r.least ≡ directed forward l.least
    → r.most ≡ directed forward l.most → r.inner ≡ l.inner
    → Stands (Bent l) of → Stands (Bent r) (one_way_law forward of)
bent_one_way forward l r of e f g s = made_one_way forward (Bent l) (Bent r) of s
    (λ S x a. rw (e, f, g) (bounded_least forward l.least l.most _ S x a))
    (λ S x a. rw (e, f, g) (bounded_most forward l.least l.most _ S x a))
    (λ d. rw (e, f, g) (bounded forward l.least l.most _ s.sound.0))
    (λ d. rw (e, f, g) (bounded forward l.least l.most _ s.sound.0)) (
      rw (e, f) (in_order forward l.least l.most s.sound.0),
      subst (λ (b : BentValue). IsCurve b.knots.list) (sym g)
          s.sound.1,
    ) s.accepts

-- a law that passes nothing, for one of which both ways are forbidden
pub shut_both : (r : LinkLaw) (of : Law) → Stands r ShutLaw → Stands r (ForwardOnly (ReverseOnly of))
shut_both r of s = record {
  at_least_is = λ S x a. both_ways (s.at_least_is S x a) (against_least false true (flow_at_least of) S x a refl);
  at_most_is = λ S x a. both_ways (s.at_most_is S x a) (against_most false true (flow_at_most of) S x a refl);
  low_is = λ d. s.low_is d ∙ against false true (low of d) refl;
  high_is = λ d. s.high_is d ∙ against false true (high of d) refl;
  sound = s.sound;
  accepts = s.accepts;
}
