-- The status word of a link of a network, by its own law in its state.
use Rattle.std.proofs.Common.{◌≡◌, ℕ, ◌<◌, Bool, ℤ, List, length, Option, Some, sym, ap, subst, ◌∙◌, arith}
use Rattle.std.specs.Prelude.{slice_get, slice_index_or, IfSome}
use Rattle.std.specs.Option.{option_map}
use Rattle.std.proofs.lemmas.Option.{slice_get_within, slice_get-map, get_or_from_slice_get}
use Rattle.hyd_net.specs.ListView.{ListView}
use Rattle.hyd_net.specs.LinkStates.{CanHave}
use Rattle.hyd_net.specs.declared.curves.HeadPoint.{HeadPoint}
use Rattle.hyd_spec.specs.ProgramTypes.{Project, Link, LinkKind, LinkState, Closed}
use Rattle.hyd_spec.specs.Law.{Law}
use Rattle.hyd_spec.specs.LinkLaw.{own_law}
use Rattle.hyd_spec.specs.DemandsHeadsAndPumpLifts.{is_us}
use Rattle.hyd_spec.specs.Rules.{state_of_link}
use Rattle.hyd_spec_certificates.specs.PeriodNetwork.{GridLink}
use Rattle.hyd_spec_certificates.specs.FlowIntervals.{difference}
use Rattle.hyd_spec_certificates.specs.StatusesOfLinks.{status_of}
use Rattle.hyd_spec_certificates.specs.declared.StatusWord.{StatusWord}
use Rattle.hyd_law.specs.declared.link_law_kinds.LinkLaw.{LinkLaw}
use Rattle.hyd_period_network.specs.declared.junctions_ends_and_settings.Setting.{Setting}
use Rattle.hyd_period_network.specs.ExactLaw.{exact_law}
use Rattle.hyd_period_network.specs.NetView.{NetView}
use Rattle.hyd_period_network.specs.NetAsPeriodNetwork.{grid_of, state_of, states_of, own_laws}
use Rattle.hyd_period_network.specs.LawsInSettings.{AreLaws, AreStates}
use Rattle.hyd_lemmas.proofs.ListsOptionsAndResults.{item_there}

-- what a status word says of each kind, state and place of a link
abbrev pub IsWord : NetView → ℕ → List ℤ → List ℤ → StatusWord → Type 0
IsWord net l below above status =
    (us : Bool) (bends : List (ListView HeadPoint)) (kind : LinkKind) (state : LinkState) (place : GridLink)
    → CanHave kind state → slice_get (states_of net) l ≡ Some state
    → slice_get (own_laws net) l ≡ Some (own_law us bends kind state)
    → slice_get (grid_of net).links l ≡ Some place → status ≡ status_of us bends kind state
    (difference place below above)

-- each link of a net has a setting and two laws, which are those of the setting
pub record AreLinksOf (project : Project) (net : NetView) : Type 0 where
  pub each_setting : length net.settings ≡ length project.links.list
  pub each_own : length net.own ≡ length project.links.list
  pub each_law : length net.laws ≡ length project.links.list
  pub laws : AreLaws project project.links.list net.settings net.own net.laws

word_here : (project : Project) (net : NetView) (l : ℕ) (below above : List ℤ) (status : StatusWord)
    (place : GridLink) (here : Link)
    → AreLinksOf project net → AreStates project (states_of net) → slice_get project.links.list l ≡ Some here
    → slice_get (grid_of net).links l ≡ Some place → IsWord net l below above status
    → status ≡ status_of (is_us project) project.bends.list here.kind (state_of_link (states_of net) l)
    (difference place below above)
word_here project net l below above status place here of states at grid_at word =
    let within = slice_get_within project.links.list l here at in
    let set : (s : Setting) × (slice_get net.settings l ≡ Some s) = item_there net.settings l
    (let e = of.each_setting in omega (arith, within)) in
    let own : (o : LinkLaw) × (slice_get net.own l ≡ Some o) = item_there net.own l (let e = of.each_own in omega
    (arith, within)) in
    let law : (o : LinkLaw) × (slice_get net.laws l ≡ Some o) = item_there net.laws l (let e = of.each_law in omega
    (arith, within)) in
    let state_at : slice_get (states_of net) l ≡ Some set.0.state = slice_get-map state_of net.settings l ∙ ap
    (option_map state_of) set.1 in
    let kind_is : slice_index_or project.links.list l here ≡ here = get_or_from_slice_get project.links.list l here
    here at in
    let setting_is : slice_index_or net.settings l set.0 ≡ set.0 = get_or_from_slice_get net.settings l set.0 set.0
    set.1 in
    let own_is : slice_index_or net.own l own.0 ≡ own.0 = get_or_from_slice_get net.own l own.0 own.0 own.1 in
    let exact = (of.laws l here set.0 own.0 law.0 within).own_is.is_exact in
    let exact_here : exact_law own.0 ≡ own_law (is_us project) project.bends.list here.kind set.0.state =
    ap exact_law (sym own_is) ∙ (exact ∙ (ap (λ (x : Link). own_law (is_us project) project.bends.list x.kind
    (slice_index_or net.settings l set.0).state) kind_is
    ∙ ap (λ (s : Setting). own_law (is_us project) project.bends.list here.kind s.state) setting_is)) in
    let own_at : slice_get (own_laws net) l ≡ Some (own_law (is_us project) project.bends.list here.kind set.0.state) =
    slice_get-map exact_law net.own l ∙ (ap (option_map exact_law) own.1 ∙ ap (λ (x : Law). Some x) exact_here) in
    let many : l < length (states_of net) = slice_get_within (states_of net) l set.0.state state_at in
    let state_is : slice_index_or (states_of net) l set.0.state ≡ set.0.state = get_or_from_slice_get
    (states_of net) l set.0.state set.0.state state_at in
    let can : CanHave here.kind set.0.state =
    subst (λ (s : LinkState). CanHave here.kind s) state_is
    (subst (λ (x : Link). CanHave x.kind (slice_index_or (states_of net) l set.0.state)) kind_is
    (states.can l here set.0.state many)) in
    let shown : state_of_link (states_of net) l ≡ set.0.state = get_or_from_slice_get
    (states_of net) l set.0.state Closed state_at in
    word (is_us project) project.bends.list here.kind set.0.state place can state_at own_at grid_at
    ∙ ap (λ (s : LinkState). status_of (is_us project) project.bends.list here.kind s (difference place below above))
    (sym shown)

pub link_word : (project : Project) (net : NetView) (l : ℕ) (below above : List ℤ) (status : StatusWord)
    (place : GridLink)
    → AreLinksOf project net → AreStates project (states_of net) → l < length project.links.list
    → slice_get (grid_of net).links l ≡ Some place → IsWord net l below above status
    → IfSome (slice_get project.links.list l) (λ here.
    status ≡ status_of (is_us project) project.bends.list here.kind (state_of_link (states_of net) l)
    (difference place below above))
link_word project net l below above status place of states within grid_at word =
    let here : (x : Link) × (slice_get project.links.list l ≡ Some x) = item_there project.links.list l within in
    subst (λ (o : Option Link). IfSome o (λ x.
    status ≡ status_of (is_us project) project.bends.list x.kind (state_of_link (states_of net) l)
    (difference place below above)))
    (sym here.1) (word_here project net l below above status place here.0 of states here.1 grid_at word)
