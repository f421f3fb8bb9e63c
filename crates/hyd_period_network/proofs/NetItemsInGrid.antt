-- What is read of a net by number is what its grid has there.
use Rattle.std.proofs.Common.{◌≡◌, ℕ, ◌<◌, ◌*◌, ◌+◌, ℤ, pos, List, length, All, Option, Some, slice_get, slice_index_or}
use Rattle.std.proofs.Common.{IfSome, false, sym, ap, subst, ◌∙◌, arith}
use Rattle.std.specs.Option.{option_map}
use Rattle.std.proofs.lemmas.Option.{slice_get_within, get_or_from_slice_get}
use Rattle.smallvec.specs.SmallVec.{SmallVec}
use Rattle.hyd_spec.specs.ProgramTypes.{Closed}
use Rattle.hyd_spec.specs.Law.{Law}
use Rattle.hyd_spec.specs.Scale.{missed_flow_ticks}
use Rattle.hyd_spec_certificates.specs.NetOutflow.{margin}
use Rattle.hyd_law.specs.declared.law_kinds.Quad.{Quad}
use Rattle.hyd_law.specs.declared.link_law_kinds.LinkLaw.{LinkLaw}
use Rattle.hyd_law.specs.declared.demand_law_kinds.OutLaw.{OutLaw}
use Rattle.hyd_period_network.specs.declared.junctions_ends_and_settings.NetJunction.{NetJunction}
use Rattle.hyd_period_network.specs.declared.junctions_ends_and_settings.Ends.{Ends}
use Rattle.hyd_period_network.specs.declared.junctions_ends_and_settings.Setting.{Setting}
use Rattle.hyd_period_network.specs.declared.junctions_ends_and_settings.Tie.{Tie}
use Rattle.hyd_period_network.specs.NetView.{NetView}
use Rattle.hyd_period_network.specs.Demands.{demand_of_law}
use Rattle.hyd_period_network.specs.ExactLaw.{exact_law}
use Rattle.hyd_period_network.specs.LawsInSettings.{Stands, restricted}
use Rattle.hyd_period_network.specs.NetAsPeriodNetwork.{grid_of, capacity_of}
use Rattle.hyd_period_network.specs.SoundNets.{HasLaws, HaveLaws, IsSoundNet}
use Rattle.hyd_period_network.specs.LinkEnds.{ties_from, AreRowsOf}
use Rattle.hyd_period_network.proofs.GridJunctionsAndLinks.{at_junction, at_link}
use Rattle.hyd_period_network.proofs.SumsOverLinkEnds.{count_of_ties}

pub all_at : {X : Type 0} (P : X → Type 0) (xs : List X) (k : ℕ) (x : X) → All P xs → slice_get xs k ≡ Some x → P x
all_at P xs k x all at = subst P (get_or_from_slice_get xs k x x at) (all k x (slice_get_within xs k x at))

-- ---- junctions

pub elevation_at : (net : NetView) (k : ℕ) (j : NetJunction) (z : ℤ) → slice_get net.junctions k ≡ Some j
    → z ≡ j.elevation
    → IfSome (slice_get (grid_of net).junctions k) (λ g. z ≡ g.elevation)
elevation_at net k j z at e =
    at_junction net.junctions net.demands k (λ g. z ≡ g.elevation) (λ j' d hj hd. (let same : j ≡ j' = cc in
    e ∙ ap (λ (x : NetJunction). x.elevation) same))

pub demand_at : (net : NetView) (k : ℕ) (d : OutLaw) → slice_get net.demands k ≡ Some d
    → IfSome (slice_get (grid_of net).junctions k) (λ g. g.demand ≡ demand_of_law d)
demand_at net k d at =
    at_junction net.junctions net.demands k (λ g. g.demand ≡ demand_of_law d)
    (λ j d' hj hd. (let same : d' ≡ d = cc in ap demand_of_law same))

pub emitter_at : (net : NetView) (k : ℕ) (j : NetJunction) (e : Option Quad) → slice_get net.junctions k ≡ Some j
    → e ≡ j.emitter
    → IfSome (slice_get (grid_of net).junctions k) (λ g. g.emitter ≡ option_map capacity_of e)
emitter_at net k j e at is =
    at_junction net.junctions net.demands k (λ g. g.emitter ≡ option_map capacity_of e)
    (λ j' d hj hd. (let same : j' ≡ j = cc in ap (λ (x : NetJunction). option_map capacity_of x.emitter) same
    ∙ ap (option_map capacity_of) (sym is)))

-- ---- links

pub ends_at : (net : NetView) (k : ℕ) (e : Ends) → slice_get net.ends k ≡ Some e
    → IfSome (slice_get (grid_of net).links k) (λ g. (g.from ≡ e.from) × (g.to ≡ e.to))
ends_at net k e at =
    at_link net.ends net.settings net.own k (λ g. (g.from ≡ e.from) × (g.to ≡ e.to))
    (λ e' s o he hs ho. (let same : e' ≡ e = cc in (ap (λ (x : Ends). x.from) same, ap (λ (x : Ends). x.to) same)))

laws_at : (settings : List Setting) (own laws : List LinkLaw) (k : ℕ) (s : Setting) (o l : LinkLaw)
    → HaveLaws settings own laws
    → slice_get settings k ≡ Some s → slice_get own k ≡ Some o → slice_get laws k ≡ Some l → HasLaws s o l
laws_at settings own laws k s o l all hs ho hl =
    subst (λ (x : Setting). HasLaws x o l) (get_or_from_slice_get settings k s s hs)
    (subst (λ (x : LinkLaw). HasLaws (slice_index_or settings k s) x l) (get_or_from_slice_get own k o o ho)
    (subst (λ (x : LinkLaw). HasLaws (slice_index_or settings k s) (slice_index_or own k o) x)
    (get_or_from_slice_get laws k l l hl)
    (all k s o l (slice_get_within settings k s hs))))

pub law_at : (net : NetView) (k : ℕ) (l : LinkLaw) → IsSoundNet net → slice_get net.laws k ≡ Some l
    → IfSome (slice_get (grid_of net).links k) (λ g. Stands l g.law)
law_at net k l sound at =
    at_link net.ends net.settings net.own k (λ g. Stands l g.law)
    (λ e s o he hs ho. (laws_at net.settings net.own net.laws k s o l sound.laws hs ho at).law_is)

-- whatever law it is
pub law_stands : (net : NetView) (k : ℕ) (l : LinkLaw) → IsSoundNet net → slice_get net.laws k ≡ Some l
    → (exact : Law) × Stands l exact
law_stands net k l sound at =
    let inside = slice_get_within net.laws k l at in
    let setting : Setting = slice_index_or net.settings k (record {
      state = Closed;
      no_forward = false;
      no_reverse = false;
    }) in
    let exact : Law = restricted setting.no_forward setting.no_reverse (exact_law (slice_index_or net.own k l)) in
    let all = sound.laws k (record {
      state = Closed;
      no_forward = false;
      no_reverse = false;
    }) l l (omega (arith, inside, sound.each_law, sound.each_setting)) in
    (exact, subst (λ (x : LinkLaw). Stands x exact) (get_or_from_slice_get net.laws k l l at) all.law_is)

pub own_at : (net : NetView) (k : ℕ) (o : LinkLaw) → IsSoundNet net → slice_get net.own k ≡ Some o
    → Stands o (exact_law o)
own_at net k o sound at =
    let inside = slice_get_within net.own k o at in
    let all = sound.laws k (record {
      state = Closed;
      no_forward = false;
      no_reverse = false;
    }) o o (omega (arith, inside, sound.each_own, sound.each_setting)) in
    subst (λ (x : LinkLaw). Stands x (exact_law x)) (get_or_from_slice_get net.own k o o at) all.own_is

-- ---- rows

pub row_at : (nodes : ℕ) (ends : List Ends) (rows : List (SmallVec Tie)) (k : ℕ) (row : SmallVec Tie)
    → AreRowsOf nodes ends rows → k < nodes
    → row ≡ slice_index_or rows k row → row.items ≡ ties_from k 0 ends
row_at nodes ends rows k row all lt at =
    ap (λ (r : SmallVec Tie). r.items) at ∙ all.are_rows.each k row (omega (arith, lt, all.count))

pub margin_is : (net : NetView) (k n : ℕ) (z : ℤ) → IsSoundNet net → n ≡ length (ties_from k 0 net.ends)
    → z ≡ pos ((n + 3) * missed_flow_ticks) → z ≡ margin (grid_of net) k
margin_is net k n z sound e is =
    is ∙ ap (λ (m : ℕ). pos ((m + 3) * missed_flow_ticks)) (e
    ∙ count_of_ties k 0 net.ends net.settings net.own sound.each_setting sound.each_own)
