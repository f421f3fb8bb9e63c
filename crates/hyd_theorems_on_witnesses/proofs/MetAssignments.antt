-- What is met is an assignment of the period: its flows and outflows follow the exact laws.
use Rattle.std.proofs.Common.{◌≡◌, ℕ, suc, ◌<◌, ℤ, pos, negsuc, ◌+ℤ◌, ◌-ℤ◌, ◌*ℤ◌, ◌≤ℤ◌, refl, sym, subst, arith}
use Rattle.std.proofs.Common.{Bool, true, false, List, [], ◌∷◌, length}
use Rattle.std.specs.Prelude.{MatchBool, MatchOption, Option, Some, None, int_le, if◌then◌else◌}
use Rattle.std.specs.List.{AllByRecursion}
use Rattle.std.specs.Option.{IfSome}
use Rattle.std.proofs.lemmas.Int.{ints}
use Rattle.hyd_num.specs.Rational.{negated, is_at_most}
use Rattle.hyd_spec.specs.ProgramTypes.{Project, Junction, Link, LinkState, Capacity, Origin, PressureDemand, Decimal}
use Rattle.hyd_spec.specs.declared.TankState.{TankState}
use Rattle.hyd_spec.specs.Lists.{Each}
use Rattle.hyd_spec.specs.Scale.{tolerance}
use Rattle.hyd_spec.specs.DemandsHeadsAndPumpLifts.{is_us, demand_of, pressure_value, minimum_pressure}
use Rattle.hyd_spec.specs.DemandsHeadsAndPumpLifts.{required_pressure}
use Rattle.hyd_spec.specs.Law.{QuadraticLaw, Follows, lifted, odd_at_least, odd_at_most, loss_at_most, loss_at_least}
use Rattle.hyd_spec.specs.Law.{pressure_resistance}
use Rattle.hyd_spec.specs.Outflow.{pressure_at, is_pressure_driven, FollowsDemand, FollowsPressure, IsWithinTolerance}
use Rattle.hyd_spec.specs.Scale.{at_scale}
use Rattle.hyd_spec.specs.Assignment.{LinksFollow, none, more, head_at, flow_at}
use Rattle.hyd_spec.specs.LinkLaw.{law_of}
use Rattle.hyd_spec_certificates.specs.PeriodNetwork.{GridLink, grid_links, IsDriven, IsDemandLaw}
use Rattle.hyd_spec_certificates.specs.EnclosingFunctions.{DemandLaw, Fixed, Driven}
use Rattle.hyd_spec_witnesses.specs.MetFlows.{IsMetBy, IsDemandMetBy, IsEmitterMetBy}
use Rattle.hyd_theorems_on_definitions.specs.SoundLawsAndGrids.{IsSoundLaw, IsSoundCapacity}
use Rattle.hyd_theorems_on_definitions.proofs.EachLaw.{IsSoundCapacity-made}
use Rattle.hyd_theorems_on_definitions.proofs.Outflows.{begins_at, ends_at, pressure-above}
use Rattle.hyd_theorems_on_witnesses.specs.DrivenDemands.{Parts}
use Rattle.hyd_theorems_on_witnesses.proofs.EnclosingAtScale.{met-follows}
use Rattle.hyd_theorems_on_witnesses.proofs.DemandsAtScale.{met-demand}

-- ---- links

pub links-follow : (project : Project) (tanks : List TankState) (S : ℕ) (heads : List ℤ) → 0 < S → (links : List Link)
    (states : List LinkState) (flows : List ℤ) → length states ≡ length links → length flows ≡ length links
    → AllByRecursion (λ (link : GridLink). IsSoundLaw link.law) (grid_links project tanks links states)
    → Each (grid_links project tanks links states)
    (λ l link. IsMetBy link.law S (head_at heads link.from -ℤ head_at heads link.to) (flow_at flows l))
    → LinksFollow project tanks S heads links states flows
links-follow project tanks S heads some [] [] [] states-each flows-each sound met = none
links-follow project tanks S heads some [] [] (q ∷ flows) states-each flows-each sound met =
    absurd (omega (arith, flows-each))
links-follow project tanks S heads some [] (state ∷ states) flows states-each flows-each sound met =
    absurd (omega (arith, states-each))
links-follow project tanks S heads some (link ∷ links) [] flows states-each flows-each sound met =
    absurd (omega (arith, states-each))
links-follow project tanks S heads some (link ∷ links) (state ∷ states) [] states-each flows-each sound met =
    absurd (omega (arith, flows-each))
links-follow project tanks S heads some (link ∷ links) (state ∷ states) (q ∷ flows) states-each flows-each sound met =
    let first : IsMetBy (law_of project tanks link state) S (head_at heads link.from -ℤ head_at heads link.to) q =
    met 0 (record { from = link.from; to = link.to; law = law_of project tanks link state }) refl in
    more (met-follows S (law_of project tanks link state) (head_at heads link.from -ℤ head_at heads link.to) q some
    sound.0 first.near.from first.near.to)
    (links-follow project tanks S heads some links states flows (omega (arith, states-each)) (omega (arith, flows-each))
    sound.1 (λ l each at. met (suc l) each at))

-- ---- emitters

pub emitter-follows : (emitter : Option Capacity) (S : ℕ) (p q : ℤ) → 0 < S → IfSome emitter IsSoundCapacity
    → IsEmitterMetBy emitter S p q → MatchOption emitter (q ≡ pos 0) (λ capacity. Follows (QuadraticLaw capacity) S p q)
emitter-follows None S p q some sound met = met
emitter-follows (Some c) S p q some sound met =
    met-follows S (QuadraticLaw c) p q some sound met.near.from met.near.to

-- ---- demands

both-cases : (b : Bool) (P Q P' Q' : Type 0) → (P → P') → (Q → Q') → MatchBool b P Q → MatchBool b P' Q'
both-cases true P Q P' Q' f g h = f h
both-cases false P Q P' Q' f g h = g h

where-true : (b : Bool) (P Q P' Q' : Type 0) → (b ≡ true → P → P') → (Q → Q') → MatchBool b P Q → MatchBool b P' Q'
where-true true P Q P' Q' f g h = f refl h
where-true false P Q P' Q' f g h = g h

driven-parts : (n : ℕ) (c : Capacity) (minimum required : Decimal) (us : Bool)
    → c.origin ≡ PressureDemand (pos n) minimum required us → IsSoundCapacity c
    → Parts (pressure_value us minimum) (pressure_value us required) (pos n) c
driven-parts n c minimum required us origin sound = record {
  some_least = pressure-above us;
  some_most = pressure-above us;
  positive = omega (arith, ints);
  sound = sound;
  begins = λ S p at. subst (λ (o : Origin). lifted (negated (pressure_value us minimum))
      (odd_at_least (loss_at_most o) (loss_at_least o)) S p (pos 0)) (sym origin)
      (begins_at (pressure_resistance (pos n) minimum required us) S (pressure_value us minimum) p at);
  ends = λ S p some at. subst (λ (o : Origin). lifted (negated (pressure_value us minimum))
      (odd_at_most (loss_at_most o) (loss_at_least o)) S p (pos S *ℤ pos n)) (sym origin)
      (ends_at us minimum required n S p at);
}

natural : (D : ℤ) → pos 1 ≤ℤ D → (n : ℕ) × (D ≡ pos n)
natural (pos n) some = (n, refl)
natural (negsuc n) some = absurd (omega (arith, ints, some))

parts-of : (D : ℤ) (c : Capacity) (minimum required : Decimal) (us : Bool) → pos 1 ≤ℤ D
    → c.origin ≡ PressureDemand D minimum required us → IsSoundCapacity c
    → Parts (pressure_value us minimum) (pressure_value us required) D c
parts-of D c minimum required us some = by (natural D some)
  where
    by : (n : ℕ) × (D ≡ pos n) → c.origin ≡ PressureDemand D minimum required us → IsSoundCapacity c
        → Parts (pressure_value us minimum) (pressure_value us required) D c
    by (n, e) = subst (λ (z : ℤ). c.origin ≡ PressureDemand z minimum required us → IsSoundCapacity c
        → Parts (pressure_value us minimum) (pressure_value us required) z c) (sym e)
        (λ origin sound. driven-parts n c minimum required us origin sound)

-- what is driven by pressure is above 0
above-nothing : (project : Project) (D : ℤ) → is_pressure_driven project D ≡ true → pos 1 ≤ℤ D
above-nothing project D driven = by (int_le D (pos 0)) refl driven
  where
    by : (b : Bool) → int_le D (pos 0) ≡ b → (if b then false else project.options.pda) ≡ true → pos 1 ≤ℤ D
    by true e h = absurd (cc)
    by false e h = grind (arith, ints)

driven-follows : (project : Project) (D : ℤ) (law : DemandLaw) (S : ℕ) (p q : ℤ) → 0 < S → pos 1 ≤ℤ D
    → IsDriven project D law → IsDemandMetBy law S p q → FollowsPressure project D S p q
driven-follows project D law S p q some above driven met =
    both-cases (is_at_most (pressure_at S p) (minimum_pressure project)) _ _ _ _ (λ h. h)
    (λ rest. both-cases (is_at_most (required_pressure project) (pressure_at S p)) _ _ _ _ (λ h. h)
    (λ between. record {
      at_least = subst (λ (o : Origin). lifted (negated (minimum_pressure project))
          (odd_at_least (loss_at_most o) (loss_at_least o)) S p (q -ℤ tolerance S)) driven.origin between.at_least;
      at_most = subst (λ (o : Origin). lifted (negated (minimum_pressure project))
          (odd_at_most (loss_at_most o) (loss_at_least o)) S p (q +ℤ tolerance S)) driven.origin between.at_most;
    }) rest)
    (met-demand (minimum_pressure project) (required_pressure project) D driven.capacity
    (parts-of D driven.capacity project.options.p0 project.options.pf (is_us project) above driven.origin
    (IsSoundCapacity-made driven.capacity driven.made)) S some p q here.near.from here.near.to)
  where
    here : IsDemandMetBy (Driven D driven.capacity (minimum_pressure project) (required_pressure project)) S p q
    here = subst (λ (l : DemandLaw). IsDemandMetBy l S p q) driven.is_law met

fixed-follows : (D : ℤ) (law : DemandLaw) (S : ℕ) (p q : ℤ) → law ≡ Fixed D → IsDemandMetBy law S p q
    → IsWithinTolerance S q (at_scale S D)
fixed-follows D law S p q is met = record { low = here.near.from; high = here.near.to }
  where
    here : IsDemandMetBy (Fixed D) S p q
    here = subst (λ (l : DemandLaw). IsDemandMetBy l S p q) is met

pub demand-follows : (project : Project) (time : ℕ) (junction : Junction) (law : DemandLaw) (S : ℕ) (p q : ℤ) → 0 < S
    → IsDemandLaw project (demand_of project time junction) law → IsDemandMetBy law S p q
    → FollowsDemand project time junction S p q
demand-follows project time junction law S p q some is met =
    where-true (is_pressure_driven project (demand_of project time junction)) _ _ _ _
    (λ driven h. driven-follows project (demand_of project time junction) law S p q some
    (above-nothing project (demand_of project time junction) driven) h met)
    (λ h. fixed-follows (demand_of project time junction) law S p q h met) is
