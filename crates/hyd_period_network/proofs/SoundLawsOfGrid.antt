-- Every law of a net's grid is sound.
use Rattle.std.proofs.Common.{◌≡◌, suc, ◌<◌, Bool, true, false, List, [], ◌∷◌, length, All, Option, Some, None}
use Rattle.std.proofs.Common.{IfSome, arith, lit<}
use Rattle.std.specs.List.{AllByRecursion}
use Rattle.std.specs.Option.{option_map}
use Rattle.std.proofs.lemmas.Int.{ints}
use Rattle.std.proofs.lemmas.Bool.{cond_both}
use Rattle.hyd_spec.specs.ProgramTypes.{Decimal}
use Rattle.hyd_spec.specs.DemandsHeadsAndPumpLifts.{pressure_value}
use Rattle.hyd_spec.specs.Law.{Law, Shut as ShutLaw, Held as HeldLaw, Bent as BentLaw}
use Rattle.hyd_spec_certificates.specs.PeriodNetwork.{GridLink, GridJunction}
use Rattle.hyd_theorems_on_definitions.specs.SoundLawsAndGrids.{IsSoundLaw, IsSoundCapacity}
use Rattle.hyd_theorems_on_definitions.specs.SoundLawsAndGrids.{IsSoundDemand as IsSoundDemandLaw, IsSteady}
use Rattle.hyd_law.specs.ComposedLawsAreLaws.{lift-above}
use Rattle.hyd_law.specs.KnotsOfStraightLines.{places}
use Rattle.hyd_law.specs.LinkLaws.{IsSoundLink}
use Rattle.hyd_law.specs.declared.law_kinds.Quad.{Quad as QuadValue}
use Rattle.hyd_law.specs.declared.link_law_kinds.LinkLaw.{LinkLaw}
use Rattle.hyd_law.specs.declared.link_law_kinds.LinkLaw.TheVariants.{Shut, Quad, Linear, QuadOneWay, LinearOneWay}
use Rattle.hyd_law.specs.declared.link_law_kinds.LinkLaw.TheVariants.{Pump}
use Rattle.hyd_law.specs.declared.link_law_kinds.LinkLaw.TheVariants.{Limit, LinearLimit, LimitOneWay}
use Rattle.hyd_law.specs.declared.link_law_kinds.LinkLaw.TheVariants.{LinearLimitOneWay, Power, PowerOneWay}
use Rattle.hyd_law.specs.declared.link_law_kinds.LinkLaw.TheVariants.{Bent}
use Rattle.hyd_law.specs.declared.demand_law_kinds.OutLaw.{OutLaw}
use Rattle.hyd_law.specs.declared.demand_law_kinds.OutLaw.TheVariants.{Fixed, Pda}
use Rattle.hyd_period_network.specs.declared.junctions_ends_and_settings.NetJunction.{NetJunction}
use Rattle.hyd_period_network.specs.declared.junctions_ends_and_settings.Ends.{Ends}
use Rattle.hyd_period_network.specs.declared.junctions_ends_and_settings.Setting.{Setting}
use Rattle.hyd_period_network.specs.NetView.{NetView}
use Rattle.hyd_period_network.specs.Demands.{demand_of_law}
use Rattle.hyd_period_network.specs.ExactLaw.{exact_law, is_nothing, one_way_law}
use Rattle.hyd_period_network.specs.LawsInSettings.{restricted}
use Rattle.hyd_period_network.specs.NetAsPeriodNetwork.{grid_of, junctions_of, links_of, capacity_of}
use Rattle.hyd_period_network.specs.SoundNets.{IsSoundJunction, IsSoundDemand, HaveLaws, IsSoundNet}

one_way_sound : (forward : Bool) (law : Law) → IsSoundLaw law → IsSoundLaw (one_way_law forward law)
one_way_sound true law sound = sound
one_way_sound false law sound = sound

pub exact_sound : (law : LinkLaw) → IsSoundLink law → IsSoundLaw (exact_law law)
exact_sound (Shut l) sound = tt
exact_sound (Quad l) sound = sound
exact_sound (Linear l) sound = tt
exact_sound (QuadOneWay l) sound = one_way_sound l.forward _ sound
exact_sound (LinearOneWay l) sound = one_way_sound l.forward _ tt
exact_sound (Pump l) sound = one_way_sound l.forward _ (lift-above l.inner.us l.inner.head l.inner.speed, sound.1)
exact_sound (Limit l) sound = sound
exact_sound (LinearLimit l) sound = tt
exact_sound (LimitOneWay l) sound = one_way_sound l.forward _ sound
exact_sound (LinearLimitOneWay l) sound = one_way_sound l.forward _ tt
exact_sound (Power l) sound = sound
exact_sound (PowerOneWay l) sound = one_way_sound l.forward _ sound
exact_sound (Bent l) sound =
    cond_both (is_nothing l.least l.most) ShutLaw (HeldLaw l.least l.most (BentLaw (places l.inner.knots.list)))
    IsSoundLaw (λ e. tt) (λ e. (sound.0, sound.1.ordered))

restricted_sound : (no_forward no_reverse : Bool) (own : Law) → IsSoundLaw own
    → IsSoundLaw (restricted no_forward no_reverse own)
restricted_sound true true own sound = sound
restricted_sound true false own sound = sound
restricted_sound false true own sound = sound
restricted_sound false false own sound = sound

links_sound : (ends : List Ends) (settings : List Setting) (own laws : List LinkLaw) → length own ≡ length settings
    → HaveLaws settings own laws
    → AllByRecursion (λ (link : GridLink). IsSoundLaw link.law) (links_of ends settings own)
links_sound [] settings own laws e all = tt
links_sound (x ∷ ends) [] own laws e all = tt
links_sound (x ∷ ends) (s ∷ settings) [] laws e all = tt
links_sound (x ∷ ends) (s ∷ settings) (o ∷ own) [] e all = (
  restricted_sound s.no_forward s.no_reverse (exact_law o) (exact_sound o (all 0 s o o (omega arith)).own_is.sound),
  links_sound ends settings own [] (omega arith) (λ k setting a b h. all (suc k) setting a b (omega arith)),
)
links_sound (x ∷ ends) (s ∷ settings) (o ∷ own) (l ∷ laws) e all = (
  restricted_sound s.no_forward s.no_reverse (exact_law o) (exact_sound o (all 0 s o l (omega arith)).own_is.sound),
  links_sound ends settings own laws (omega arith) (λ k setting a b h. all (suc k) setting a b (omega arith)),
)

emitter_sound : (e : Option QuadValue) → IfSome e (λ law. IsSoundCapacity (capacity_of law))
    → IfSome (option_map capacity_of e) IsSoundCapacity
emitter_sound None sound = tt
emitter_sound (Some law) sound = sound

emitters_sound : (junctions : List NetJunction) (demands : List OutLaw) → All IsSoundJunction junctions
    → AllByRecursion (λ (j : GridJunction). IfSome j.emitter IsSoundCapacity) (junctions_of junctions demands)
emitters_sound [] demands all = tt
emitters_sound (j ∷ junctions) [] all = tt
emitters_sound (j ∷ junctions) (d ∷ demands) all = (
  emitter_sound j.emitter (all 0 j (omega arith)).emitter,
  emitters_sound junctions demands
      (λ k x h. all (suc k) x (omega arith)),
)

pressure_above : (us : Bool) (p : Decimal) → 0 < (pressure_value us p).den
pressure_above true p = lit< tt
pressure_above false p = lit< tt

demand_sound : (d : OutLaw) → IsSoundDemand d → IsSoundDemandLaw (demand_of_law d)
demand_sound (Fixed l) sound = tt
demand_sound (Pda l) sound =
    let one = sound.sound.demanded in
    (omega (arith, ints, one), (pressure_above l.us l.minimum, pressure_above l.us l.required))

demands_sound : (junctions : List NetJunction) (demands : List OutLaw) → All IsSoundDemand demands
    → AllByRecursion (λ (j : GridJunction). IsSoundDemandLaw j.demand) (junctions_of junctions demands)
demands_sound [] demands all = tt
demands_sound (j ∷ junctions) [] all = tt
demands_sound (j ∷ junctions) (d ∷ demands) all = (
  demand_sound d (all 0 d (omega arith)),
  demands_sound junctions
      demands (λ k x h. all (suc k) x (omega arith)),
)

pub steady : (net : NetView) → IsSoundNet net → IsSteady (grid_of net)
steady net sound =
    let es = sound.each_setting in
    let eo = sound.each_own in
    record {
      sound = record {
        links = links_sound net.ends net.settings net.own net.laws (omega (arith, es, eo)) sound.laws;
        emitters = emitters_sound net.junctions net.demands sound.junctions;
      };
      demands = demands_sound net.junctions net.demands sound.demands;
    }
