-- Nets with given data: emitters that are written item by item, and what stays so of a net.
use Rattle.std.proofs.Common.{◌≡◌, ℕ, zero, suc, ◌+◌, ◌<◌, ◌≤◌, List, [], ◌∷◌, length, All, Option, Some, None, IfSome}
use Rattle.std.proofs.Common.{slice_index_or, slice_set, refl, ap, sym, subst, ◌∙◌, arith}
use Rattle.std.specs.List.{AllZip}
use Rattle.std.proofs.lemmas.List.{get_or-set_other, length-set}
use Rattle.hyd_spec.specs.ProgramTypes.{Project, Junction, Capacity}
use Rattle.hyd_theorems_on_definitions.specs.SoundLawsAndGrids.{IsSoundCapacity}
use Rattle.hyd_lemmas.proofs.ListsOptionsAndResults.{any_default}
use Rattle.hyd_period_network.specs.declared.junctions_ends_and_settings.NetJunction.{NetJunction}
use Rattle.hyd_period_network.specs.NetView.{NetView}
use Rattle.hyd_period_network.specs.LinkEnds.{HasEnds}
use Rattle.hyd_period_network.specs.NetAsPeriodNetwork.{capacity_of, node_count}
use Rattle.hyd_period_network.specs.SoundNets.{IsSoundJunction, IsSoundNet}
use Rattle.hyd_period_network.specs.NetsSetToPeriods.{IsNetOf}
use Rattle.hyd_period_network.specs.GivenData.{law_with, with_emitter, with_emitters, HasElevation, IsNetButEmitters}
use Rattle.hyd_period_network.proofs.ListsItemByItem.{more_set}
use Rattle.hyd_period_network.proofs.NetOfSoundProject.{but_emitters}
use Rattle.std.specs.Option.{option_map}

-- the first i junctions have their emitters, and the others are as they were
pub record AreGiven (i : ℕ) (before : List NetJunction) (emitters : List (Option Capacity)) (now : List NetJunction)
    : Type 0 where
  pub count : length now ≡ length before
  pub given : (k : ℕ) (d : NetJunction) → k < i → (e : Option Capacity) → slice_index_or now k d
      ≡ with_emitter (slice_index_or before k d) (slice_index_or emitters k e)
  pub rest : (k : ℕ) (d : NetJunction) → i ≤ k → slice_index_or now k d ≡ slice_index_or before k d

pub one_given : (i : ℕ) (before : List NetJunction) (emitters : List (Option Capacity)) (now : List NetJunction)
    (old new : NetJunction) (emitter : Option Capacity) → AreGiven i before emitters now → i < length now
    → i < length emitters → emitter ≡ slice_index_or emitters i emitter
    → new ≡ with_emitter (slice_index_or now i old) emitter → AreGiven (i + 1) before emitters (slice_set now i new)
one_given i before emitters now old new emitter are within there emitter_is new_is = record {
  count = length-set now i new ∙ are.count;
  given = λ k d lt e. more_set (λ (n : ℕ) (x : NetJunction). (a : NetJunction) (b : Option Capacity)
      → x ≡ with_emitter (slice_index_or before n a) (slice_index_or emitters n b)) now i new within
      (λ n a less x b. any_default now n a x (omega (arith, less, within)) ∙ are.given n x less b)
      (λ a b. new_is
      ∙ ap (λ (j : NetJunction). with_emitter j emitter) (any_default now i old a within ∙ are.rest i a (omega arith))
      ∙ ap (with_emitter (slice_index_or before i a)) (emitter_is ∙ any_default emitters i emitter b there))
      k d lt d e;
  rest = λ k d le. get_or-set_other now i k new d (λ same. absurd (omega (arith, same, le)))
      ∙ are.rest k d (omega (arith, le));
}

pub all_given : (before : List NetJunction) (emitters : List (Option Capacity)) (now : List NetJunction)
    → length emitters ≡ length before → length now ≡ length before
    → ((k : ℕ) (d : NetJunction) → k < length before → (e : Option Capacity) → slice_index_or now k d
    ≡ with_emitter (slice_index_or before k d) (slice_index_or emitters k e))
    → now ≡ with_emitters before emitters
all_given [] emitters [] le ln all = refl
all_given [] emitters (x ∷ now) le ln all = absurd (omega arith)
all_given (b ∷ before) [] now le ln all = absurd (omega arith)
all_given (b ∷ before) (e ∷ emitters) [] le ln all = absurd (omega arith)
all_given (b ∷ before) (e ∷ emitters) (x ∷ now) le ln all =
    let first : x ≡ with_emitter b e = all 0 x (omega arith) e in
    let rest = all_given before emitters now (omega arith) (omega arith)
    (λ k d less o. all (suc k) d (omega arith) o) in
    rw (first, rest) refl

-- ---- a net with other emitters

pub count_given : (before : List NetJunction) (emitters : List (Option Capacity)) → length emitters ≡ length before
    → length (with_emitters before emitters) ≡ length before
count_given [] emitters le = refl
count_given (b ∷ before) [] le = absurd (omega arith)
count_given (b ∷ before) (e ∷ emitters) le = ap suc (count_given before emitters (omega arith))

-- elevations stay
pub elevations_given : (junctions : List Junction) (before : List NetJunction) (emitters : List (Option Capacity))
    → length emitters ≡ length before → AllZip HasElevation junctions before
    → AllZip HasElevation junctions (with_emitters before emitters)
elevations_given [] [] emitters le zip = tt
elevations_given [] (b ∷ before) emitters le zip = absurd zip
elevations_given (j ∷ junctions) [] emitters le zip = absurd zip
elevations_given (j ∷ junctions) (b ∷ before) [] le zip = absurd (omega arith)
elevations_given (j ∷ junctions) (b ∷ before) (e ∷ emitters) le zip = (
  record { elevation = zip.0.elevation },
  elevations_given junctions before emitters (omega arith) zip.1,
)

law_sound : (emitter : Option Capacity) → IfSome emitter IsSoundCapacity
    → IfSome (option_map law_with emitter) (λ law. IsSoundCapacity (capacity_of law))
law_sound None sound = tt
law_sound (Some capacity) sound = sound

-- so does what makes a net sound
pub sound_given : (before : List NetJunction) (emitters : List (Option Capacity)) → length emitters ≡ length before
    → All IsSoundJunction before → All (λ (e : Option Capacity). IfSome e IsSoundCapacity) emitters
    → All IsSoundJunction (with_emitters before emitters)
sound_given [] emitters le was given k d h = absurd (omega arith)
sound_given (b ∷ before) [] le was given k d h = absurd (omega arith)
sound_given (b ∷ before) (e ∷ emitters) le was given zero d h = record {
  elevation = (was 0 b (omega arith)).elevation;
  emitter = law_sound e (given 0 e (omega arith));
}
sound_given (b ∷ before) (e ∷ emitters) le was given (suc k) d h =
    sound_given before emitters (omega arith) (λ i x g. was (suc i) x (omega (arith, g)))
    (λ i x g. given (suc i) x (omega (arith, g))) k d (omega (arith, h))

module _ (net : NetView) (emitters : List (Option Capacity)) (each : length emitters ≡ length net.junctions) where
  -- the net with them
  abbrev pub given_net : NetView
  given_net = record net { junctions = with_emitters net.junctions emitters }

  count : length given_net.junctions ≡ length net.junctions
  count = count_given net.junctions emitters each

  pub but_given : (project : Project) → IsNetOf project net → IsNetButEmitters project given_net
  but_given project of = (let but = but_emitters project net of in record {
    ends = but.ends;
    junctions = elevations_given project.junctions.list net.junctions emitters each but.junctions;
    each_demand = but.each_demand;
    each_reservoir = but.each_reservoir;
    each_tank = but.each_tank;
    each_setting = but.each_setting;
    each_own = but.each_own;
    each_law = but.each_law;
    demands = but.demands;
    laws = but.laws;
  })

  pub nodes_given : node_count given_net ≡ node_count net
  nodes_given = omega (arith, count)

  pub given_sound : All (λ (e : Option Capacity). IfSome e IsSoundCapacity) emitters → IsSoundNet net
      → IsSoundNet given_net
  given_sound all sound = record {
    each_demand = sound.each_demand ∙ sym count;
    each_setting = sound.each_setting;
    each_own = sound.each_own;
    each_law = sound.each_law;
    few_nodes = omega (arith, nodes_given, sound.few_nodes);
    few_links = sound.few_links;
    ends = subst (λ (n : ℕ). All (HasEnds n) net.ends) (sym nodes_given) sound.ends;
    junctions = sound_given net.junctions emitters each sound.junctions all;
    demands = sound.demands;
    reservoirs = sound.reservoirs;
    tanks = sound.tanks;
    laws = sound.laws;
  }
