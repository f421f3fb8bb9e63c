-- Moments of which only some flows differ.
use Rattle.std.proofs.Common.{◌≡◌, ℤ, List, sym, ap, ◌∙◌}
use Rattle.hyd_spec_witnesses.specs.MetPeriods.{Moment}
use Rattle.hyd_spec_witnesses.specs.WitnessText.{Counts, IsMoment, AreValues}
use Rattle.hyd_middle_flows.specs.HalfwayFlows.{with_flows, with_demands, with_emitters}

-- ---- one change more

pub flows_again : (first before after : Moment) (flows : List ℤ) → after ≡ with_flows before flows
    → before ≡ with_flows first before.flows → after ≡ with_flows first after.flows
flows_again first before after flows e rest =
    e ∙ (ap (λ (m : Moment). with_flows m flows) rest ∙ ap (with_flows first) (sym (ap (λ (m : Moment). m.flows) e)))

pub demands_again : (first before after : Moment) (demands : List ℤ) → after ≡ with_demands before demands
    → before ≡ with_demands first before.demands → after ≡ with_demands first after.demands
demands_again first before after demands e rest =
    e ∙ (ap (λ (m : Moment). with_demands m demands) rest
    ∙ ap (with_demands first) (sym (ap (λ (m : Moment). m.demands) e)))

pub emitters_again : (first before after : Moment) (emitters : List ℤ) → after ≡ with_emitters before emitters
    → before ≡ with_emitters first before.emitters → after ≡ with_emitters first after.emitters
emitters_again first before after emitters e rest =
    e ∙ (ap (λ (m : Moment). with_emitters m emitters) rest
    ∙ ap (with_emitters first) (sym (ap (λ (m : Moment). m.emitters) e)))

-- ---- they are moments still

module _ (counts : Counts) (moment : Moment) (is : IsMoment counts moment) where
  pub flows_fit : (flows : List ℤ) → AreValues counts.links flows → IsMoment counts (with_flows moment flows)
  flows_fit flows fit = record {
    number_fits = is.number_fits;
    time_fits = is.time_fits;
    length_fits = is.length_fits;
    heads = is.heads;
    flows = fit;
    demands = is.demands;
    emitters = is.emitters;
    levels = is.levels;
    volumes = is.volumes;
  }

  pub demands_fit : (demands : List ℤ) → AreValues counts.junctions demands
      → IsMoment counts (with_demands moment demands)
  demands_fit demands fit = record {
    number_fits = is.number_fits;
    time_fits = is.time_fits;
    length_fits = is.length_fits;
    heads = is.heads;
    flows = is.flows;
    demands = fit;
    emitters = is.emitters;
    levels = is.levels;
    volumes = is.volumes;
  }

  pub emitters_fit : (emitters : List ℤ) → AreValues counts.junctions emitters
      → IsMoment counts (with_emitters moment emitters)
  emitters_fit emitters fit = record {
    number_fits = is.number_fits;
    time_fits = is.time_fits;
    length_fits = is.length_fits;
    heads = is.heads;
    flows = is.flows;
    demands = is.demands;
    emitters = fit;
    levels = is.levels;
    volumes = is.volumes;
  }
