-- A net of a sound network whose heads are in range is a sound net.
use Rattle.std.proofs.Common.{◌≡◌, ℕ, zero, suc, ◌<◌, Bool, List, [], ◌∷◌, length, map, All, Option, Some, None, IfSome}
use Rattle.std.proofs.Common.{slice_index_or, refl, sym, ap, subst, arith}
use Rattle.std.specs.List.{AllZip}
use Rattle.std.specs.Option.{option_map}
use Rattle.std.proofs.lemmas.List.{length-map}
use Rattle.hyd_num.specs.CapacityPairs.{IsMade}
use Rattle.hyd_num.specs.declared.flow_units.FlowUnit.{FlowUnit}
use Rattle.hyd_net.specs.NumberRanges.{IsHead}
use Rattle.hyd_net.specs.NetworkRanges.{IsJunction}
use Rattle.hyd_net.specs.Sound.{IsSound, HasEnds as HasNodes}
use Rattle.hyd_net.specs.ListView.{ListView}
use Rattle.hyd_net.specs.ControlsAndRules.{node_count as nodes_of}
use Rattle.hyd_net.specs.declared.curves.HeadPoint.{HeadPoint}
use Rattle.hyd_net.specs.declared.patterns.Pattern.{Pattern}
use Rattle.hyd_spec.specs.ProgramTypes.{Project, Junction, Link, LinkKind, Capacity}
use Rattle.hyd_spec.specs.DemandsHeadsAndPumpLifts.{is_us}
use Rattle.hyd_spec.specs.Law.{Law}
use Rattle.hyd_theorems_on_definitions.specs.SoundLawsAndGrids.{IsSoundCapacity}
use Rattle.hyd_theorems_on_definitions.proofs.EachLaw.{IsSoundCapacity-made}
use Rattle.hyd_law.specs.declared.law_kinds.Quad.{Quad}
use Rattle.hyd_law.specs.declared.link_law_kinds.LinkLaw.{LinkLaw}
use Rattle.hyd_period_network.specs.declared.junctions_ends_and_settings.NetJunction.{NetJunction}
use Rattle.hyd_period_network.specs.declared.junctions_ends_and_settings.Setting.{Setting}
use Rattle.hyd_period_network.specs.NetView.{NetView}
use Rattle.hyd_period_network.specs.Demands.{IsNetJunction}
use Rattle.hyd_period_network.specs.LawsInSettings.{Stands, restricted, AreLaws, AreLawsOf}
use Rattle.hyd_period_network.specs.LinkEnds.{HasEnds}
use Rattle.hyd_period_network.specs.NetAsPeriodNetwork.{node_count, capacity_of}
use Rattle.hyd_period_network.specs.SoundNets.{IsSoundJunction, AreHeads, HasLaws, HaveLaws, IsSoundNet}
use Rattle.hyd_period_network.specs.NetsSetToPeriods.{ends_of, IsNetOf}
use Rattle.hyd_period_network.specs.GivenData.{HasElevation, IsNetButEmitters}

pub long_zipped : {X Y : Type 0} (P : X → Y → Type 0) (xs : List X) (ys : List Y) → AllZip P xs ys
    → length xs ≡ length ys
long_zipped P [] [] all = refl
long_zipped P [] (y ∷ ys) all = absurd all
long_zipped P (x ∷ xs) [] all = absurd all
long_zipped P (x ∷ xs) (y ∷ ys) all = ap suc (long_zipped P xs ys all.1)

emitter_sound : (here : Option Quad) (there : Option Capacity) → option_map (λ (e : Quad). e.cap) here ≡ there
    → IfSome there IsMade
    → IfSome here (λ law. IsSoundCapacity (capacity_of law))
emitter_sound None there e made = tt
emitter_sound (Some q) there e made =
    let is : IfSome (Some q.cap) IsMade = subst (λ (o : Option Capacity). IfSome o IsMade) (sym e) made in
    IsSoundCapacity-made q.cap is

junctions_sound : (unit : FlowUnit) (patterns : List Pattern) (junctions : List Junction) (here : List NetJunction)
    → AllZip IsNetJunction junctions here
    → All (IsJunction unit patterns) junctions → All (λ j. IfSome j.emitter IsMade) junctions → All IsSoundJunction here
junctions_sound unit patterns [] [] zip sizes made k d h = absurd (omega arith)
junctions_sound unit patterns [] (y ∷ here) zip sizes made k d h = absurd zip
junctions_sound unit patterns (x ∷ junctions) [] zip sizes made k d h = absurd zip
junctions_sound unit patterns (x ∷ junctions) (y ∷ here) zip sizes made zero d h = record {
  elevation = subst IsHead (sym zip.0.elevation) (sizes 0 x (omega arith)).elevation;
  emitter = emitter_sound y.emitter x.emitter zip.0.emitter (made 0 x (omega arith));
}
junctions_sound unit patterns (x ∷ junctions) (y ∷ here) zip sizes made (suc k) d h =
    junctions_sound unit patterns junctions here zip.1 (λ i j g. sizes (suc i) j (omega arith))
    (λ i j g. made (suc i) j (omega arith)) k d (omega arith)

ends_hold : (n m : ℕ) → m ≡ n → (links : List Link) → All (HasNodes n) links → All (HasEnds m) (map ends_of links)
ends_hold n m e [] all k d h = absurd (omega arith)
ends_hold n m e (l ∷ links) all zero d h =
    let there = all 0 l (omega arith) in
    record { from = omega (arith, e, there.from_node); to = omega (arith, e, there.to_node) }
ends_hold n m e (l ∷ links) all (suc k) d h = ends_hold n m e links (λ i x g. all (suc i) x (omega arith)) k d
    (omega arith)

with_first : {X : Type 0} (xs : List X) (k : ℕ) (P : Type 0) → k < length xs → ((x : X) → P) → P
with_first [] k P h f = absurd (omega arith)
with_first (x ∷ xs) k P h f = f x

laws_of_own : (us : Bool) (bends : List (ListView HeadPoint)) (kind : LinkKind) (setting : Setting)
    (own law : LinkLaw) → AreLawsOf us bends kind setting own law → HasLaws setting own law
laws_of_own us bends kind setting own law are = record {
  own_is = subst (λ (x : Law). Stands own x) (sym are.own_is.is_exact) are.own_is.stands;
  law_is = subst (λ (x : Law). Stands law (restricted setting.no_forward setting.no_reverse x))
      (sym are.own_is.is_exact) are.law_is;
}

elevated : (junctions : List Junction) (here : List NetJunction) → AllZip IsNetJunction junctions here
    → AllZip HasElevation junctions here
elevated [] [] zip = tt
elevated [] (y ∷ here) zip = absurd zip
elevated (x ∷ junctions) [] zip = absurd zip
elevated (x ∷ junctions) (y ∷ here) zip = (record { elevation = zip.0.elevation }, elevated junctions here zip.1)

pub have_laws : (project : Project) (links : List Link) (settings : List Setting) (own laws : List LinkLaw)
    → length settings ≡ length links → AreLaws project links settings own laws
    → HaveLaws settings own laws
have_laws project links settings own laws e all k setting o l h =
    with_first links k (HasLaws (slice_index_or settings k setting) (slice_index_or own k o)
    (slice_index_or laws k l)) (omega arith)
    (λ link. laws_of_own (is_us project) project.bends.list (slice_index_or links k link).kind
    (slice_index_or settings k setting) (slice_index_or own k o) (slice_index_or laws k l)
    (all k link setting o l (omega arith)))

-- a net of a network is one but for its emitters
pub but_emitters : (project : Project) (net : NetView) → IsNetOf project net → IsNetButEmitters project net
but_emitters project net of = record {
  ends = of.ends;
  junctions = elevated project.junctions.list net.junctions of.junctions;
  each_demand = of.each_demand;
  each_reservoir = of.each_reservoir;
  each_tank = of.each_tank;
  each_setting = of.each_setting;
  each_own = of.each_own;
  each_law = of.each_law;
  demands = of.demands;
  laws = of.laws;
}

pub sound_with : (project : Project) (net : NetView) → IsSound project → IsNetButEmitters project net
    → All IsSoundJunction net.junctions → All IsHead net.reservoirs → All AreHeads net.tanks → IsSoundNet net
sound_with project net sound of junctions reservoirs tanks =
    let j = long_zipped HasElevation project.junctions.list net.junctions of.junctions in
    let l : length net.ends ≡ length project.links.list = rw of.ends (length-map project.links.list ends_of) in
    let cj = sound.counts.junctions in
    let cr = sound.counts.reservoirs in
    let ct = sound.counts.tanks in
    let cl = sound.counts.links in
    record {
      each_demand = omega (arith, j, of.each_demand);
      each_setting = omega (arith, l, of.each_setting);
      each_own = omega (arith, l, of.each_own);
      each_law = omega (arith, l, of.each_law);
      few_nodes = omega (arith, j, of.each_reservoir, of.each_tank, cj, cr, ct);
      few_links = omega (arith, l, cl);
      ends = rw of.ends (ends_hold (nodes_of project) (node_count net)
          (omega (arith, j, of.each_reservoir, of.each_tank)) project.links.list sound.links);
      junctions = junctions;
      demands = λ k d h. (let held = of.demands k d h in record { sound = held.sound; accepts = held.accepts });
      reservoirs = reservoirs;
      tanks = tanks;
      laws = have_laws project project.links.list net.settings net.own net.laws of.each_setting of.laws;
    }

pub sound_net : (project : Project) (net : NetView) → IsSound project → IsNetOf project net → All IsHead net.reservoirs
    → All AreHeads net.tanks → IsSoundNet net
sound_net project net sound of reservoirs tanks =
    sound_with project net sound (but_emitters project net of)
    (junctions_sound project.options.unit project.patterns.list project.junctions.list net.junctions
    of.junctions sound.quantities.junctions sound.made.emitters)
    reservoirs tanks
