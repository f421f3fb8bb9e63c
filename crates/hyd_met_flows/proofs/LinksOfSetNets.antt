-- A link of a net that is set to a period: its ends, and its law by its own one and the ways that tanks forbid.
use Rattle.std.proofs.Common.{◌≡◌, ℕ, zero, suc, ◌<◌, List, [], ◌∷◌, length, sym, ap, subst, ◌∙◌}
use Rattle.std.specs.Prelude.{Some, slice_get, slice_index_or, map}
use Rattle.std.proofs.lemmas.Option.{slice_get-get_or}
use Rattle.hyd_net.specs.ControlsAndRules.{node_count}
use Rattle.hyd_net.specs.Sound.{IsSound, HasEnds}
use Rattle.hyd_spec.specs.ProgramTypes.{Project, Link, LinkState}
use Rattle.hyd_spec.specs.declared.TankState.{TankState}
use Rattle.hyd_spec.specs.DemandsHeadsAndPumpLifts.{is_us}
use Rattle.hyd_spec.specs.Law.{Law}
use Rattle.hyd_spec.specs.LinkLaw.{own_law, forbids_forward, forbids_reverse, law_of}
use Rattle.hyd_spec_certificates.specs.PeriodNetwork.{GridLink, grid_links}
use Rattle.hyd_law.specs.declared.link_law_kinds.LinkLaw.{LinkLaw}
use Rattle.hyd_period_network.specs.ExactLaw.{exact_law}
use Rattle.hyd_period_network.specs.LawsInSettings.{restricted}
use Rattle.hyd_period_network.specs.NetView.{NetView}
use Rattle.hyd_period_network.specs.NetAsPeriodNetwork.{grid_of, states_of}
use Rattle.hyd_period_network.specs.NetsSetToPeriods.{own_laws_of}
use Rattle.hyd_lemmas.proofs.ListsOptionsAndResults.{same_item}
use Rattle.hyd_met_flows.specs.Periods.{IsSet}

-- a link of the grid by its own law
abbrev pub link_with : Project → List TankState → Link → Law → GridLink
link_with project tanks link own = record {
  from = link.from;
  to = link.to;
  law = restricted (forbids_forward project tanks link) (forbids_reverse project tanks link) own;
}

there_from : (project : Project) (tanks : List TankState) (links : List Link) (states : List LinkState)
    (own : List LinkLaw) (k : ℕ) (link : Link) (law : LinkLaw) (here : GridLink)
    → map exact_law own ≡ own_laws_of project links states → slice_get links k ≡ Some link
    → slice_get own k ≡ Some law → slice_get (grid_links project tanks links states) k ≡ Some here
    → here ≡ link_with project tanks link (exact_law law)
there_from project tanks [] states own k link law here same at other there = absurd (cc)
there_from project tanks (x ∷ links) [] own k link law here same at other there = absurd (cc)
there_from project tanks (x ∷ links) (s ∷ states) [] k link law here same at other there = absurd (cc)
there_from project tanks (x ∷ links) (s ∷ states) (o ∷ own) zero link law here same at other there =
    let first : exact_law o ≡ own_law (is_us project) project.bends.list x.kind s = cc in
    let given = same_item GridLink (link_with project tanks x (own_law (is_us project) project.bends.list x.kind s))
    here there in
    sym given ∙ ap (link_with project tanks x) (sym first)
    ∙ ap (λ (q : Link). link_with project tanks q (exact_law o)) (same_item Link x link at)
    ∙ ap (λ (q : LinkLaw). link_with project tanks link (exact_law q)) (same_item LinkLaw o law other)
there_from project tanks (x ∷ links) (s ∷ states) (o ∷ own) (suc k) link law here same at other there =
    let rest : map exact_law own ≡ own_laws_of project links states = cc in
    there_from project tanks links states own k link law here rest at other there

-- a link of a set net
pub link_there : (project : Project) (net : NetView) (tanks : List TankState) (k : ℕ) (link : Link) (law : LinkLaw)
    (here : GridLink) → IsSet project net tanks → slice_get project.links.list k ≡ Some link
    → slice_get net.own k ≡ Some law → slice_get (grid_of net).links k ≡ Some here
    → here ≡ link_with project tanks link (exact_law law)
link_there project net tanks k link law here set at other there =
    there_from project tanks project.links.list (states_of net) net.own k link law here set.own at other
    (ap (λ (ls : List GridLink). slice_get ls k) (sym set.links) ∙ there)

ends_from : (project : Project) (tanks : List TankState) (links : List Link) (states : List LinkState) (k : ℕ)
    (link : Link) (here : GridLink) → slice_get links k ≡ Some link
    → slice_get (grid_links project tanks links states) k ≡ Some here
    → (here.from ≡ link.from) × (here.to ≡ link.to)
ends_from project tanks [] states k link here at there = absurd (cc)
ends_from project tanks (x ∷ links) [] k link here at there = absurd (cc)
ends_from project tanks (x ∷ links) (s ∷ states) zero link here at there =
    let same = same_item Link x link at in
    let given = same_item GridLink (record {
      from = x.from;
      to = x.to;
      law = law_of project tanks x s;
    }) here there in (
      ap (λ (l : GridLink). l.from) (sym given) ∙ ap (λ (l : Link). l.from) same,
      ap (λ (l : GridLink). l.to) (sym given) ∙ ap (λ (l : Link). l.to) same,
    )
ends_from project tanks (x ∷ links) (s ∷ states) (suc k) link here at there =
    ends_from project tanks links states k link here at there

-- its ends
pub ends_there : (project : Project) (net : NetView) (tanks : List TankState) (k : ℕ) (link : Link) (here : GridLink)
    → IsSet project net tanks → slice_get project.links.list k ≡ Some link
    → slice_get (grid_of net).links k ≡ Some here
    → (here.from ≡ link.from) × (here.to ≡ link.to)
ends_there project net tanks k link here set at there =
    ends_from project tanks project.links.list (states_of net) k link here at
    (ap (λ (ls : List GridLink). slice_get ls k) (sym set.links) ∙ there)

-- ---- links of a sound network

pub item_at : (project : Project) (k : ℕ) (links : List Link) (link : Link) → k < length project.links.list
    → links ≡ project.links.list → link ≡ slice_index_or links k link → slice_get project.links.list k ≡ Some link
item_at project k links link lt are is =
    slice_get-get_or project.links.list k link lt
    ∙ ap (λ (l : Link). Some l) (sym (is ∙ ap (λ (ls : List Link). slice_index_or ls k link) are))

pub ends_in : (project : Project) → IsSound project → (k : ℕ) (links : List Link) (link : Link)
    → k < length project.links.list → links ≡ project.links.list → link ≡ slice_index_or links k link
    → HasEnds (node_count project) link
ends_in project sound k links link lt are is =
    subst (HasEnds (node_count project)) (sym (is ∙ ap (λ (ls : List Link). slice_index_or ls k link) are))
    (sound.links k link lt)
