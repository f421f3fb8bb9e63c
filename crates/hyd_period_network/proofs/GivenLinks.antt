-- A net that was put into a period with given demands and heads of reservoirs.
use Rattle.std.proofs.Common.{◌≡◌, ℤ, List, length, map, ap, ◌∙◌}
use Rattle.std.specs.List.{AllZip}
use Rattle.hyd_spec.specs.ProgramTypes.{Project, LinkState, Closed}
use Rattle.hyd_spec.specs.declared.TankState.{TankState}
use Rattle.hyd_spec_certificates.specs.SpansAsIntervals.{levels_of}
use Rattle.hyd_spec_certificates.specs.PeriodNetwork.{tank_intervals}
use Rattle.hyd_spec_certificates.specs.declared.LevelSpan.{LevelSpan}
use Rattle.hyd_period_network.specs.declared.junctions_ends_and_settings.Setting.{Setting}
use Rattle.hyd_period_network.specs.NetView.{NetView}
use Rattle.hyd_period_network.specs.Demands.{IsOutLawOf}
use Rattle.hyd_period_network.specs.LawsInSettings.{AreSet, closed_setting}
use Rattle.hyd_period_network.specs.NetAsPeriodNetwork.{states_of, own_laws}
use Rattle.hyd_period_network.specs.NetsSetToPeriods.{AreShut, own_laws_of}
use Rattle.hyd_period_network.specs.GivenData.{IsNetButEmitters, IsPutWith}
use Rattle.hyd_period_network.proofs.SetNetIsGrid.{links_are, states_are, own_are}

-- what a net of a network holds after that
pub record IsSetWith (project : Project) (demands heads : List ℤ) (levels : List LevelSpan) (tanks : List TankState)
    (states : List LinkState) (net : NetView) : Type 0 where
  pub of : IsNetButEmitters project net
  pub each_state : length states ≡ length project.links.list
  pub given_demands : AllZip (IsOutLawOf project) demands net.demands
  pub given_heads : net.reservoirs ≡ heads
  pub tank_heads : map levels_of net.tanks ≡ tank_intervals project.tanks.list (map levels_of levels)
  pub settings : AreSet project tanks project.links.list states net.settings (length project.links.list)

module _ (project : Project) (demands heads : List ℤ) (levels : List LevelSpan) (tanks : List TankState)
    (states : List LinkState) (net : NetView)
    (set : IsSetWith project demands heads levels tanks states net) where
  pub put_with : IsPutWith project demands heads levels tanks states net
  put_with = (let of = set.of in record {
    demands = set.given_demands;
    reservoirs = set.given_heads;
    tank_heads = set.tank_heads;
    links_are = rw of.ends (links_are project tanks project.links.list states net.settings net.own net.laws of.laws
        set.settings set.each_state of.each_setting of.each_own of.each_law);
  })

  pub states_with : states_of net ≡ states
  states_with = states_are project tanks project.links.list states net.settings set.settings set.each_state
      set.of.each_setting

  pub own_with : own_laws net ≡ own_laws_of project project.links.list states
  own_with = own_are project project.links.list net.settings net.own net.laws set.of.laws set.of.each_setting
      set.of.each_own set.of.each_law
      ∙ ap (own_laws_of project project.links.list) states_with

  pub shut_with : AreShut project tanks net.laws
  shut_with k link law within forward reverse =
      let here = set.settings k link Closed closed_setting within in
      (set.of.laws k link closed_setting law law within).law_shut (ap (λ (s : Setting). s.no_forward) here ∙ forward)
      (ap (λ (s : Setting). s.no_reverse) here ∙ reverse)
