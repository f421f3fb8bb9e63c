-- The period that a moment tells where a net is set to it.
use Rattle.std.proofs.Common.{◌≡◌, ℕ, List, ap, subst, ◌∙◌}
use Rattle.hyd_spec.specs.Lists.{Each}
use Rattle.hyd_spec.specs.ProgramTypes.{Project, LinkState}
use Rattle.hyd_spec.specs.declared.TankState.{TankState}
use Rattle.hyd_spec.specs.PeriodLength.{Period}
use Rattle.hyd_spec_certificates.specs.PeriodNetwork.{GridLink}
use Rattle.hyd_spec_witnesses.specs.MetPeriods.{Moment, Reached, StartIsMet, commanded_at, period_of, links_of}
use Rattle.hyd_spec_witnesses.specs.MetPeriods.{LinkIsMet, HasSmallDemand}
use Rattle.hyd_spec_witnesses.specs.FirstUnmetClause.{FailsFirstAt, HasDemandsInRange, HasItsLinks}
use Rattle.hyd_period_network.specs.NetAsPeriodNetwork.{grid_of, states_of}
use Rattle.hyd_met_flows.specs.Periods.{period_in}
use Rattle.hyd_lemmas.proofs.ListsOptionsAndResults.{item_is}
use Rattle.std.proofs.lemmas.Option.{slice_get_within}
use Rattle.hyd_course.specs.declared.set_net.SetNet.{SetNet}
use Rattle.hyd_course.specs.NetsSetForMoments.{IsSetAt}

module _ (project : Project) (S : ℕ) (reached : Reached) (moment : Moment) (set : SetNet)
    (is : IsSetAt project S moment.time moment.levels (commanded_at project S reached.last) set) where
  -- the period of the set net is that of the moment
  pub told_period : period_in moment set.tanks.items set.links.items ≡ period_of project S reached moment
  told_period =
      ap (λ (ts : List TankState). period_in moment ts set.links.items) is.tanks
      ∙ ap (λ (ls : List LinkState). period_in moment (period_of project S reached moment).tanks ls) is.links

  same_period : period_in moment set.tanks.items (states_of set.net) ≡ period_of project S reached moment
  same_period = ap (λ (ls : List LinkState). period_in moment set.tanks.items ls) is.states ∙ told_period

  -- and so are its links
  same_links : (grid_of set.net).links ≡ links_of project (period_of project S reached moment)
  same_links =
      is.is_set.links
      ∙ ap (λ (p : Period). links_of project p) same_period

  pub in_range : StartIsMet project S reached moment → HasDemandsInRange project S reached moment
  in_range start = record {
    start = start;
    small = λ k junction at. subst (HasSmallDemand project moment.time k)
        (item_is project.junctions.list k junction junction at)
        (is.in_range k junction (slice_get_within project.junctions.list k junction at));
  }

  pub link_fails : (link : ℕ) → StartIsMet project S reached moment
      → FailsFirstAt (grid_of set.net).links (LinkIsMet project S (period_in moment set.tanks.items
      (states_of set.net))) link
      → FailsFirstAt (links_of project (period_of project S reached moment))
      (LinkIsMet project S (period_of project S reached moment)) link
  link_fails link start fails =
      subst (λ (p : Period). FailsFirstAt (links_of project (period_of project S reached moment))
      (LinkIsMet project S p) link) same_period
      (subst (λ (ls : List GridLink). FailsFirstAt ls (LinkIsMet project S (period_in moment set.tanks.items
      (states_of set.net))) link) same_links fails)

  pub has_links : StartIsMet project S reached moment
      → Each (grid_of set.net).links (LinkIsMet project S (period_in moment set.tanks.items (states_of set.net)))
      → HasItsLinks project S reached moment (grid_of set.net).junctions
  has_links start each = record {
    in_range = in_range start;
    links = subst (λ (p : Period). Each (links_of project (period_of project S reached moment))
        (LinkIsMet project S p)) same_period
        (subst (λ (ls : List GridLink). Each ls (LinkIsMet project S (period_in moment set.tanks.items
        (states_of set.net)))) same_links each);
    are_junctions = is.junctions;
  }
