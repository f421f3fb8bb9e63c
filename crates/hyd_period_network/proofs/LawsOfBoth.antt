-- The two laws of links, held link by link and as two lists; and links that no tank forbids a way.
use Rattle.std.proofs.Common.{◌≡◌, ℕ, ◌+◌, ◌<◌, false, List, [], ◌∷◌, All, length, map, slice_index_or, refl, sym, ap, subst, arith}
use Rattle.std.proofs.lemmas.List.{get_or-map, length-map}
use Rattle.hyd_spec.specs.ProgramTypes.{Project, Link}
use Rattle.hyd_spec.specs.declared.TankState.{TankState}
use Rattle.hyd_spec.specs.DemandsHeadsAndPumpLifts.{is_us}
use Rattle.hyd_spec.specs.LinkLaw.{forbids_forward, forbids_reverse}
use Rattle.hyd_spec.specs.NodeNumbers.{nodes_before_tanks, is_tank}
use Rattle.hyd_law.specs.declared.link_law_kinds.LinkLaw.{LinkLaw}
use Rattle.hyd_period_network.specs.BothLaws.{first_or, own_of, law_of, IsFree, AreFree}
use Rattle.hyd_period_network.specs.NetView.{NetView}
use Rattle.hyd_period_network.specs.LawsInSettings.{AreLawsOf, AreLaws, AreBoth}
use Rattle.hyd_period_network.specs.declared.both_laws.BothLaws.{BothLaws}
use Rattle.hyd_period_network.specs.declared.junctions_ends_and_settings.Ends.{Ends}
use Rattle.hyd_period_network.specs.declared.junctions_ends_and_settings.Setting.{Setting}
use Rattle.hyd_period_network.specs.NetsSetToPeriods.{ends_of}

-- some item of a list that has one
with_item : {X : Type 0} (xs : List X) (k : ℕ) (P : Type 0) → k < length xs → ((x : X) → P) → P
with_item [] k P h f = absurd (omega arith)
with_item (x ∷ xs) k P h f = f x

pub laws_of_both : (project : Project) (links : List Link) (settings : List Setting) (laws : List BothLaws)
    → length laws ≡ length links → AreBoth project links settings laws
    → AreLaws project links settings (map own_of laws) (map law_of laws)
laws_of_both project links settings laws each all k link setting o l h =
    let us = is_us project in
    let bends = project.bends.list in
    let kind = (slice_index_or links k link).kind in
    let here = slice_index_or settings k setting in
    with_item laws k (AreLawsOf us bends kind here (slice_index_or (map own_of laws) k o)
    (slice_index_or (map law_of laws) k l)) (omega (arith, each, h)) (λ (b : BothLaws).
    subst (λ (x : LinkLaw). AreLawsOf us bends kind here x (slice_index_or (map law_of laws) k l))
    (sym (get_or-map own_of laws k b o (omega (arith, each, h))))
    (subst (λ (x : LinkLaw). AreLawsOf us bends kind here (own_of (slice_index_or laws k b)) x)
    (sym (get_or-map law_of laws k b l (omega (arith, each, h)))) (all k link setting b h)))

pub both_of_laws : (project : Project) (links : List Link) (settings : List Setting) (laws : List BothLaws)
    → length laws ≡ length links → AreLaws project links settings (map own_of laws) (map law_of laws)
    → AreBoth project links settings laws
both_of_laws project links settings laws each all k link setting b h =
    let us = is_us project in
    let bends = project.bends.list in
    let kind = (slice_index_or links k link).kind in
    let here = slice_index_or settings k setting in
    subst (λ (x : LinkLaw). AreLawsOf us bends kind here x (law_of (slice_index_or laws k b)))
    (get_or-map own_of laws k b (own_of b) (omega (arith, each, h)))
    (subst (λ (x : LinkLaw). AreLawsOf us bends kind here (slice_index_or (map own_of laws) k (own_of b)) x)
    (get_or-map law_of laws k b (law_of b) (omega (arith, each, h))) (all k link setting (own_of b) (law_of b) h))

-- links are free by their own ends
pub free_by_ends : (before : ℕ) (links : List Link) (laws : List BothLaws)
    → ((k : ℕ) (link : Link) (b : BothLaws) → k < length links
    → IsFree before (slice_index_or links k link).from (slice_index_or links k link).to (slice_index_or laws k b))
    → AreFree before (map ends_of links) laws
free_by_ends before links laws all k e b h =
    let within : k < length links = omega (arith, h, length-map links ends_of) in
    with_item links k (IsFree before (slice_index_or (map ends_of links) k e).from
    (slice_index_or (map ends_of links) k e).to (slice_index_or laws k b)) within (λ (l : Link).
    subst (λ (x : Ends). IsFree before x.from x.to (slice_index_or laws k b))
    (sym (get_or-map ends_of links k l e within)) (all k l b within))

no_tank : (project : Project) (node : ℕ) → node < nodes_before_tanks project → is_tank project node ≡ false
no_tank project node h = grind (arith, h)

-- a link that ends at no tank passes both ways
pub unforbidden : (project : Project) (tanks : List TankState) (link : Link) → link.from < nodes_before_tanks project
    → link.to < nodes_before_tanks project
    → (forbids_forward project tanks link ≡ false) × (forbids_reverse project tanks link ≡ false)
unforbidden project tanks link from to =
    let f = no_tank project link.from from in
    let t = no_tank project link.to to in
    (rw (f, t) refl, rw (f, t) refl)

-- as many nodes stand before the tanks as in the network
pub before_as : (project : Project) (inside now : NetView) → inside ≡ now
    → length project.junctions.list ≡ length now.junctions
    → length now.reservoirs ≡ length project.reservoirs.list
    → nodes_before_tanks project ≡ length inside.junctions + length inside.reservoirs
before_as project inside now same j r =
    let vj = ap (λ (n : NetView). length n.junctions) same in
    let vr = ap (λ (n : NetView). length n.reservoirs) same in
    omega (arith, j, r, vj, vr)

-- what is so of a link's own law and of the one that it may have between its tanks
pub first_has : (P : LinkLaw → Type 0) (own : LinkLaw) (laws : List LinkLaw) → P own → All P laws
    → P (first_or own laws)
first_has P own [] here all = here
first_has P own (law ∷ laws) here all = all 0 law (omega arith)
