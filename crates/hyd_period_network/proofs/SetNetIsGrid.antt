-- A net that was set to a period is the grid of that period.
use Rattle.std.proofs.Common.{◌≡◌, ℕ, suc, ◌<◌, List, [], ◌∷◌, length, map, slice_index_or, refl, ap, ◌∙◌, arith}
use Rattle.std.specs.List.{AllZip}
use Rattle.hyd_spec.specs.ProgramTypes.{Project, Junction, Link, LinkState, Closed}
use Rattle.hyd_spec.specs.declared.TankState.{TankState}
use Rattle.hyd_spec.specs.Law.{Law}
use Rattle.hyd_spec.specs.LinkLaw.{own_law, law_of}
use Rattle.hyd_spec.specs.DemandsHeadsAndPumpLifts.{is_us, demand_of, reservoir_head}
use Rattle.hyd_spec_certificates.specs.SpansAsIntervals.{levels_of}
use Rattle.hyd_spec_certificates.specs.PeriodNetwork.{IsGrid, IsJunctionOf, grid_links, tank_intervals}
use Rattle.hyd_law.specs.declared.link_law_kinds.LinkLaw.{LinkLaw}
use Rattle.hyd_law.specs.declared.demand_law_kinds.OutLaw.{OutLaw}
use Rattle.hyd_period_network.specs.declared.junctions_ends_and_settings.NetJunction.{NetJunction}
use Rattle.hyd_spec_certificates.specs.declared.LevelSpan.{LevelSpan}
use Rattle.hyd_period_network.specs.declared.junctions_ends_and_settings.Setting.{Setting}
use Rattle.hyd_period_network.specs.NetView.{NetView}
use Rattle.hyd_period_network.specs.ExactLaw.{exact_law}
use Rattle.hyd_period_network.specs.LawsInSettings.{restricted, AreLaws, AreLawsOf, AreSet, setting_of, closed_setting}
use Rattle.hyd_period_network.specs.Demands.{IsNetJunction, IsOutLawOf, AreDemandsAt}
use Rattle.hyd_period_network.specs.NetAsPeriodNetwork.{grid_of, junctions_of, link_of, links_of, state_of}
use Rattle.hyd_period_network.specs.NetAsPeriodNetwork.{states_of}
use Rattle.hyd_period_network.specs.NetAsPeriodNetwork.{own_laws}
use Rattle.hyd_period_network.specs.NetsSetToPeriods.{ends_of, IsNetOf, AreShut, own_laws_of}

junctions_are : (project : Project) (time : ℕ) (junctions : List Junction) (here : List NetJunction)
    (demands : List OutLaw) → AllZip IsNetJunction junctions here
    → length demands ≡ length junctions
    → ((k : ℕ) (j : Junction) (law : OutLaw) → k < length junctions
    → IsOutLawOf project (demand_of project time (slice_index_or junctions k j)) (slice_index_or demands k law))
    → AllZip (IsJunctionOf project time) junctions (junctions_of here demands)
junctions_are project time [] [] demands zip e all = tt
junctions_are project time [] (h ∷ here) demands zip e all = absurd zip
junctions_are project time (j ∷ junctions) [] demands zip e all = absurd zip
junctions_are project time (j ∷ junctions) (h ∷ here) [] zip e all = absurd (omega arith)
junctions_are project time (j ∷ junctions) (h ∷ here) (d ∷ demands) zip e all = (
  record { elevation = zip.0.elevation; demand = (all 0 j d (omega arith)).is_law; emitter = zip.0.emitter },
  junctions_are project time junctions here demands zip.1 (omega arith) (λ k i law h. all (suc k) i law (omega arith)),
)

link_is : (project : Project) (tanks : List TankState) (l : Link) (q : LinkState) (s : Setting) (o w : LinkLaw)
    → AreLawsOf (is_us project) project.bends.list l.kind s o w
    → s ≡ setting_of project tanks l q → link_of (ends_of l) s o ≡ record {
      from = l.from;
      to = l.to;
      law = law_of project tanks l q;
    }
link_is project tanks l q s o w are e =
    let exact : exact_law o ≡ own_law (is_us project) project.bends.list l.kind s.state = are.own_is.is_exact in
    ap (λ (x : Law). record { from = l.from; to = l.to; law = restricted s.no_forward s.no_reverse x }) exact
    ∙ ap (λ (x : Setting). record {
      from = l.from;
      to = l.to;
      law = restricted x.no_forward x.no_reverse (own_law (is_us project) project.bends.list l.kind x.state);
    }) e

pub links_are : (project : Project) (tanks : List TankState) (links : List Link) (states : List LinkState)
    (settings : List Setting) (own laws : List LinkLaw)
    → AreLaws project links settings own laws → AreSet project tanks links states settings (length links)
    → length states ≡ length links → length settings ≡ length links → length own ≡ length links
    → length laws ≡ length links
    → links_of (map ends_of links) settings own ≡ grid_links project tanks links states
links_are project tanks [] states settings own laws are set eq es eo ew = refl
links_are project tanks (l ∷ links) [] settings own laws are set eq es eo ew = absurd (omega arith)
links_are project tanks (l ∷ links) (q ∷ states) [] own laws are set eq es eo ew = absurd (omega arith)
links_are project tanks (l ∷ links) (q ∷ states) (s ∷ settings) [] laws are set eq es eo ew = absurd (omega arith)
links_are project tanks (l ∷ links) (q ∷ states) (s ∷ settings) (o ∷ own) [] are set eq es eo ew = absurd (omega arith)
links_are project tanks (l ∷ links) (q ∷ states) (s ∷ settings) (o ∷ own) (w ∷ laws) are set eq es eo ew =
    let first = link_is project tanks l q s o w (are 0 l s o w (omega arith)) (set 0 l q s (omega arith)) in
    let rest = links_are project tanks links states settings own laws
    (λ k link setting o' w' h. are (suc k) link setting o' w' (omega arith))
    (λ k link state setting h. set (suc k) link state setting (omega arith))
    (omega arith) (omega arith) (omega arith) (omega arith) in
    rw (first, rest) refl

pub states_are : (project : Project) (tanks : List TankState) (links : List Link) (states : List LinkState)
    (settings : List Setting)
    → AreSet project tanks links states settings (length links) → length states ≡ length links
    → length settings ≡ length links → map state_of settings ≡ states
states_are project tanks [] [] [] set eq es = refl
states_are project tanks [] (q ∷ states) settings set eq es = absurd (omega arith)
states_are project tanks [] [] (s ∷ settings) set eq es = absurd (omega arith)
states_are project tanks (l ∷ links) [] settings set eq es = absurd (omega arith)
states_are project tanks (l ∷ links) (q ∷ states) [] set eq es = absurd (omega arith)
states_are project tanks (l ∷ links) (q ∷ states) (s ∷ settings) set eq es =
    let first : s.state ≡ q = ap state_of (set 0 l q s (omega arith)) in
    let rest = states_are project tanks links states settings (λ k link state setting h. set (suc k) link state
    setting (omega arith)) (omega arith) (omega arith) in
    rw (first, rest) refl

pub own_are : (project : Project) (links : List Link) (settings : List Setting) (own laws : List LinkLaw)
    → AreLaws project links settings own laws
    → length settings ≡ length links → length own ≡ length links → length laws ≡ length links
    → map exact_law own ≡ own_laws_of project links (map state_of settings)
own_are project [] settings [] laws are es eo ew = refl
own_are project [] settings (o ∷ own) laws are es eo ew = absurd (omega arith)
own_are project (l ∷ links) [] own laws are es eo ew = absurd (omega arith)
own_are project (l ∷ links) (s ∷ settings) [] laws are es eo ew = absurd (omega arith)
own_are project (l ∷ links) (s ∷ settings) (o ∷ own) [] are es eo ew = absurd (omega arith)
own_are project (l ∷ links) (s ∷ settings) (o ∷ own) (w ∷ laws) are es eo ew =
    let first : exact_law o ≡ own_law (is_us project) project.bends.list l.kind s.state =
    (are 0 l s o w (omega arith)).own_is.is_exact in
    let rest = own_are project links settings own laws (λ k link setting o' w' h. are (suc k) link setting o' w'
    (omega arith)) (omega arith) (omega arith) (omega arith) in
    rw (first, rest) refl

-- what a net of a network holds after it was set to a period
pub record IsPut (project : Project) (time : ℕ) (levels : List LevelSpan) (tanks : List TankState)
    (states : List LinkState) (net : NetView) : Type 0 where
  pub of : IsNetOf project net
  pub each_state : length states ≡ length project.links.list
  pub demands : AreDemandsAt project time net.demands (length project.junctions.list)
  pub reservoirs : net.reservoirs ≡ map (reservoir_head project time) project.reservoirs.list
  pub tank_heads : map levels_of net.tanks ≡ tank_intervals project.tanks.list (map levels_of levels)
  pub settings : AreSet project tanks project.links.list states net.settings (length project.links.list)

pub grid_is : (project : Project) (time : ℕ) (levels : List LevelSpan) (tanks : List TankState)
    (states : List LinkState) (net : NetView) → IsPut project time levels tanks states net
    → IsGrid project time (map levels_of levels) tanks states (grid_of net)
grid_is project time levels tanks states net put =
    let of = put.of in
    record {
      junctions = junctions_are project time project.junctions.list net.junctions net.demands of.junctions
          of.each_demand put.demands;
      reservoirs = put.reservoirs;
      tank_heads = put.tank_heads;
      links_are = rw of.ends (links_are project tanks project.links.list states net.settings net.own net.laws of.laws
          put.settings put.each_state of.each_setting of.each_own of.each_law);
    }

pub states_set : (project : Project) (time : ℕ) (levels : List LevelSpan) (tanks : List TankState)
    (states : List LinkState) (net : NetView) → IsPut project time levels tanks states net
    → states_of net ≡ states
states_set project time levels tanks states net put =
    states_are project tanks project.links.list states net.settings put.settings put.each_state put.of.each_setting

pub own_set : (project : Project) (time : ℕ) (levels : List LevelSpan) (tanks : List TankState)
    (states : List LinkState) (net : NetView) → IsPut project time levels tanks states net
    → own_laws net ≡ own_laws_of project project.links.list states
own_set project time levels tanks states net put =
    own_are project project.links.list net.settings net.own net.laws put.of.laws put.of.each_setting put.of.each_own
    put.of.each_law
    ∙ ap (own_laws_of project project.links.list) (states_set project time levels tanks states net put)

pub shut_set : (project : Project) (time : ℕ) (levels : List LevelSpan) (tanks : List TankState)
    (states : List LinkState) (net : NetView) → IsPut project time levels tanks states net
    → AreShut project tanks net.laws
shut_set project time levels tanks states net put k link law within forward reverse =
    let set = put.settings k link Closed closed_setting within in
    (put.of.laws k link closed_setting law law within).law_shut (ap (λ (s : Setting). s.no_forward) set ∙ forward)
    (ap (λ (s : Setting). s.no_reverse) set ∙ reverse)
