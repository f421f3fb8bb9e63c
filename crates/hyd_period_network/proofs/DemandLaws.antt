-- The demands of a period: the first that is out of range, and the laws of those that are in range.
use Rattle.std.proofs.Common.{◌≡◌, ◌⊎◌, ℕ, ◌+◌, ◌^◌, ◌<◌, ◌≤◌, ℤ, pos, ◌≤ℤ◌, Bool, true, false, List, [], None, length}
use Rattle.std.proofs.Common.{slice_index_or, slice_set, unsigned_abs, refl, sym, ap, subst, ◌∙◌, inl, inr, arith}
use Rattle.std.specs.Prelude.{int_le}
use Rattle.std.proofs.lemmas.Int.{ints}
use Rattle.std.proofs.lemmas.Option.{slice_get-get_or, get_or_from_slice_get}
use Rattle.hyd_num.specs.CapacityPairs.{IsMade}
use Rattle.hyd_num.specs.FileQuantity.{pressure_numerator, pressure_denominator}
use Rattle.hyd_num.specs.QuotientsAndRoots.{IsFloor, IsCeiling}
use Rattle.hyd_num.specs.declared.decimals.Decimal.{Decimal}
use Rattle.hyd_num.specs.declared.spans.Span.{Span}
use Rattle.hyd_net.specs.NetworkRanges.{IsPressure}
use Rattle.hyd_spec.specs.ProgramTypes.{Project, Junction, Capacity, PressureDemand}
use Rattle.hyd_spec.specs.DemandsHeadsAndPumpLifts.{is_us, demand_of, pressure_value}
use Rattle.hyd_spec.specs.Outflow.{is_pressure_driven}
use Rattle.hyd_spec_certificates.specs.EnclosingFunctions.{Driven}
use Rattle.hyd_spec_certificates.specs.Valid.{DemandsAreInRange}
use Rattle.hyd_spec_certificates.specs.Stops.{IsFirstDemand}
use Rattle.hyd_lemmas.proofs.ListsOptionsAndResults.{any_default}
use Rattle.hyd_theorems_on_definitions.proofs.EachLaw.{IsSoundCapacity-made}
use Rattle.hyd_demands_and_reservoir_heads.specs.DemandsAndHeadsByNumber.{junction_demand}
use Rattle.hyd_demands_and_reservoir_heads.proofs.DemandsAndReservoirHeads.{demand_read}
use Rattle.hyd_law.specs.ComposedLaws.{IsLift}
use Rattle.hyd_law.specs.declared.demand_law_kinds.OutLaw.{OutLaw}
use Rattle.hyd_law.specs.declared.demand_law_kinds.OutLaw.TheVariants.{Fixed as FixedOut, Pda as PdaOut}
use Rattle.hyd_units.proofs.FloorsAndCeilings.{IsFloor-floor, IsCeiling-ceiling}
use Rattle.hyd_period_network.specs.Demands.{demand_held, IsOutLawOf, IsHeld, AreHeld, AreDemandsAt}
use Rattle.hyd_theorems_on_definitions.proofs.Outflows.{pressure-above}
use Rattle.hyd_period_network.proofs.OneLinkSet.{same_or}
use Rattle.std.proofs.lemmas.List.{get_or-set_same, get_or-set_other, length-set}

-- ---- a law that is driven by pressure

lift_is : (us : Bool) (pressure : Decimal) (span : Span) → IsFloor (pressure_numerator us pressure.nano)
    (pos (pressure_denominator us)) span.lo
    → IsCeiling (pressure_numerator us pressure.nano) (pos (pressure_denominator us)) span.hi
    → IsLift (pressure_value us pressure) span
lift_is us pressure span lo hi = record {
  floor_is = IsFloor-floor (pressure_value us pressure) span.lo (pressure-above us) lo;
  ceiling_is = IsCeiling-ceiling (pressure_value us pressure) span.hi (pressure-above us) hi;
}

by_pressure : (project : Project) (demand : ℤ) → project.options.pda ≡ true → pos 1 ≤ℤ demand
    → is_pressure_driven project demand ≡ true
by_pressure project demand driven some = let t : int_le demand (pos 0) ≡ false = grind (arith, ints) in
    rw (t, driven) refl

pub driven_is : (project : Project) (demand : ℤ) (us : Bool) (cap : Capacity) (p0 pf : Span) → us ≡ is_us project
    → project.options.pda ≡ true → pos 1 ≤ℤ demand
    → IsPressure project.options.unit project.options.p0 → cap.origin ≡ PressureDemand demand project.options.p0
    project.options.pf us → IsMade cap
    → IsFloor (pressure_numerator us project.options.p0.nano) (pos (pressure_denominator us)) p0.lo
    → IsCeiling (pressure_numerator us project.options.p0.nano) (pos (pressure_denominator us)) p0.hi
    → IsFloor (pressure_numerator us project.options.pf.nano) (pos (pressure_denominator us)) pf.lo
    → IsCeiling (pressure_numerator us project.options.pf.nano) (pos (pressure_denominator us)) pf.hi
    → IsOutLawOf project demand (PdaOut (record {
      demand = demand;
      cap = cap;
      p0 = p0;
      pf = pf;
      minimum = project.options.p0;
      required = project.options.pf;
      us = us;
    }))
driven_is project demand us cap p0 pf e driven some pressure origin made lo hi low high = record {
  is_law = rw (by_pressure project demand driven some) (record {
    capacity = cap;
    origin = subst (λ (b : Bool). cap.origin ≡ PressureDemand demand project.options.p0 project.options.pf b) e origin;
    made = made;
    is_law = ap (λ (b : Bool). Driven demand cap (pressure_value b project.options.p0)
        (pressure_value b project.options.pf)) e;
  });
  sound = record {
    demanded = some;
    not_negative = pressure.not_negative;
    origin = origin;
    capacity = IsSoundCapacity-made cap made;
    none = lift_is us project.options.p0 p0 lo hi;
    all = lift_is us project.options.pf pf low high;
  };
  accepts = λ p le. omega (arith, le);
}

-- a law that isn't
pub fixed_is : (project : Project) (demand : ℤ) → is_pressure_driven project demand ≡ false
    → IsOutLawOf project demand (FixedOut (record { demand = demand }))
fixed_is project demand e = record { is_law = rw e refl; sound = tt; accepts = λ p le. tt }

-- ---- the first demand that is out of range

nobody : Junction
nobody = record { elevation = pos 0; demands = record { list = []; spare = 0 }; emitter = None }

pub first_is : (project : Project) (time i : ℕ) (v : ℤ) → i < length project.junctions.list
    → v ≡ junction_demand project time i → 10 ^ 15 < unsigned_abs v
    → ((k : ℕ) (junction : Junction) → k < i
    → unsigned_abs (demand_of project time (slice_index_or project.junctions.list k junction)) ≤ 10 ^ 15)
    → IsFirstDemand project time i v
first_is project time i v within e beyond earlier = record {
  junction = slice_index_or project.junctions.list i nobody;
  is_junction = slice_get-get_or project.junctions.list i nobody within;
  is_demand = e ∙ demand_read project time i nobody within;
  out_of_range = beyond;
  first = λ k before less found. subst (λ (j : Junction). unsigned_abs (demand_of project time j) ≤ 10 ^ 15)
      (get_or_from_slice_get project.junctions.list k before before found) (earlier k before less);
}

-- one more that is in range
pub in_range_more : (project : Project) (time i : ℕ) (v : ℤ) → i < length project.junctions.list
    → v ≡ junction_demand project time i → unsigned_abs v ≤ 10 ^ 15
    → ((k : ℕ) (junction : Junction) → k < i
    → unsigned_abs (demand_of project time (slice_index_or project.junctions.list k junction)) ≤ 10 ^ 15)
    → (k : ℕ) (junction : Junction) → k < i + 1 → unsigned_abs
    (demand_of project time (slice_index_or project.junctions.list k junction)) ≤ 10 ^ 15
in_range_more project time i v within e small earlier k junction less =
    elim (same_or k i) as (λ _. unsigned_abs (demand_of project time
    (slice_index_or project.junctions.list k junction)) ≤ 10 ^ 15) [
      | inl same ↦ subst (λ (j : ℕ). unsigned_abs (demand_of project time
          (slice_index_or project.junctions.list j junction)) ≤ 10 ^ 15) (sym same)
          (subst (λ (z : ℤ). unsigned_abs z ≤ 10 ^ 15) (e ∙ demand_read project time i junction within) small)
      | inr other ↦ earlier k junction (omega (arith, other))
    ]

-- one more law that is that of the demand it holds, where the demand is so at a time
pub kept_more : (project : Project) (time kept i n : ℕ) (demands : List OutLaw) (law : OutLaw) (held demand : ℤ)
    → AreHeld project demands → AreDemandsAt project time demands kept
    → i < length project.junctions.list → i < length demands → law ≡ slice_index_or demands i law
    → held ≡ demand_held law → demand ≡ junction_demand project time i
    → (n ≡ kept) ⊎ ((kept ≡ i) × ((held ≡ demand) × (n ≡ kept + 1))) → AreDemandsAt project time demands n
kept_more project time kept i n demands law held demand all before within inside at holds is either = elim either [
  | inl same ↦ subst (λ (m : ℕ). AreDemandsAt project time demands m) (sym same) before
  | inr more ↦ λ k junction d less. elim (same_or k i) as (λ _. IsOutLawOf project
      (demand_of project time (slice_index_or project.junctions.list k junction)) (slice_index_or demands k d)) [
        | inl here ↦ (let e : demand_held (slice_index_or demands i d) ≡ demand_of project time
            (slice_index_or project.junctions.list i junction) =
            ap demand_held (any_default demands i d law inside ∙ sym at) ∙ sym holds ∙ more.1.0 ∙ is
            ∙ demand_read project
            time i junction within in
            subst (λ (j : ℕ). IsOutLawOf project (demand_of project time
            (slice_index_or project.junctions.list j junction)) (slice_index_or demands j d)) (sym here)
            (subst (λ (z : ℤ). IsOutLawOf project z (slice_index_or demands i d)) e (all i d inside)))
        | inr other ↦ (let first = more.0 in let next = more.1.1 in
            before k junction d (omega (arith, other, first, next, less)))
      ]
]

-- a demand that is in range isn't refused
pub not_refused : (project : Project) (time i : ℕ) (v : ℤ) → i < length project.junctions.list
    → DemandsAreInRange project time → v ≡ junction_demand project time i
    → 10 ^ 15 < unsigned_abs v → ⊥
not_refused project time i v within all e beyond =
    let same : unsigned_abs v ≡ unsigned_abs (demand_of project time (slice_index_or project.junctions.list i nobody))
    = ap unsigned_abs (e ∙ demand_read project time i nobody within) in
    omega (arith, all i nobody within, same, beyond)

-- ---- one law among all

pub demands_set : (project : Project) (time i : ℕ) (demands : List OutLaw) (law : OutLaw)
    → AreDemandsAt project time demands i → i < length project.junctions.list → i < length demands
    → IsOutLawOf project (junction_demand project time i) law
    → AreDemandsAt project time (slice_set demands i law) (i + 1)
demands_set project time i demands law all within inside here k junction d less =
    elim (same_or k i) as (λ _. IsOutLawOf project (demand_of project time
    (slice_index_or project.junctions.list k junction)) (slice_index_or (slice_set demands i law) k d)) [
      | inl same ↦ subst (λ (j : ℕ). IsOutLawOf project (demand_of project time
          (slice_index_or project.junctions.list j junction)) (slice_index_or (slice_set demands i law) j d)) (sym same)
          (subst (λ (z : ℤ). IsOutLawOf project z (slice_index_or (slice_set demands i law) i d))
          (demand_read project time i junction within)
          (subst (λ (l : OutLaw). IsOutLawOf project (junction_demand project time i) l)
          (sym (get_or-set_same demands i law d inside)) here))
      | inr other ↦ subst (λ (l : OutLaw). IsOutLawOf project
          (demand_of project time (slice_index_or project.junctions.list k junction)) l)
          (sym (get_or-set_other demands i k law d other))
          (all k junction d (omega (arith, other)))
    ]

pub held_set : (project : Project) (i : ℕ) (demands : List OutLaw) (demand : ℤ) (law : OutLaw)
    → AreHeld project demands → i < length demands
    → IsOutLawOf project demand law → demand_held law ≡ demand → AreHeld project (slice_set demands i law)
held_set project i demands demand law all inside here e k d less =
    elim (same_or k i) as (λ _. IsHeld project (slice_index_or (slice_set demands i law) k d)) [
      | inl same ↦ subst (λ (j : ℕ). IsHeld project (slice_index_or (slice_set demands i law) j d)) (sym same)
          (subst (λ (l : OutLaw). IsHeld project l) (sym (get_or-set_same demands i law d inside))
          (subst (λ (z : ℤ). IsOutLawOf project z law) (sym e) here))
      | inr other ↦ subst (λ (l : OutLaw). IsHeld project l) (sym (get_or-set_other demands i k law d other))
          (all k d (rw (length-set demands i law) at less))
    ]
