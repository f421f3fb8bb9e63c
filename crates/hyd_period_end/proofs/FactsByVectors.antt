-- The facts of a period by its certificates.
use Rattle.std.proofs.Common.{◌≡◌, ℕ, ℤ, pos, List, ◌++◌, length, map, sym, ap, ◌∙◌, arith}
use Rattle.std.specs.Prelude.{All}
use Rattle.std.proofs.lemmas.Int.{ints}
use Rattle.std.proofs.lemmas.List.{length-map, length-append}
use Rattle.hyd_num.specs.declared.spans.Span.{Span}
use Rattle.hyd_net.specs.ListView.{ListView}
use Rattle.hyd_spec.specs.ProgramTypes.{Project, Tank}
use Rattle.hyd_spec.specs.Lists.{map_from}
use Rattle.hyd_spec.specs.NodeNumbers.{tank_count, nodes_before_tanks}
use Rattle.hyd_spec_certificates.specs.SpansAsIntervals.{levels_of, flows_of}
use Rattle.hyd_spec_certificates.specs.declared.Problem.TheVariants.{Main, Pinned}
use Rattle.hyd_spec_certificates.specs.declared.Side.TheVariants.{Upper, Lower}
use Rattle.hyd_spec_certificates.specs.Interval.{Interval}
use Rattle.hyd_spec_certificates.specs.PeriodNetwork.{Grid}
use Rattle.hyd_spec_certificates.specs.Certificate.{IsCertificate}
use Rattle.hyd_spec_certificates.specs.RecordAndStanding.{Record, Standing}
use Rattle.hyd_spec_certificates.specs.Decided.{heads_below, heads_above, inflow_of_tank}
use Rattle.hyd_spec_certificates.specs.Valid.{AreCertificates}
use Rattle.hyd_theorems_on_definitions.specs.SoundLawsAndGrids.{IsSteady, TanksInOrder}
use Rattle.hyd_theorems_on_definitions.proofs.HeadLists.{fixed-in-order, ends-in-order}
use Rattle.hyd_theorems_on_definitions.proofs.TwoSides.{heads_below_plus}
use Rattle.hyd_cert.specs.RecordView.{row_of}
use Rattle.hyd_cert.specs.declared.record.Record.{Record as Row}
use Rattle.hyd_period_network.specs.NetAsPeriodNetwork.{grid_of}
use Rattle.hyd_period_network.specs.NetView.{NetView}
use Rattle.hyd_period_network.specs.NetsSetToPeriods.{IsNetOf, ends_of}
use Rattle.hyd_period_network.proofs.GridJunctionsAndLinks.{junctions_count, links_count}
use Rattle.hyd_period_network.proofs.NetOfSoundProject.{long_zipped}
use Rattle.hyd_period_length.specs.PassedOn.{IsVector, AreInOrder}
use Rattle.hyd_tank.specs.StockIntervals.{IsInflow}
use Rattle.hyd_period_facts.specs.declared.facts.Facts.{Facts}
use Rattle.hyd_period_facts.specs.CertificatesPinningTanks.{ArePinned}
use Rattle.hyd_period_length.specs.Readings.{AreRead}
use Rattle.hyd_period_facts.specs.FactsBeforeEnd.{AreStarted, HaveTanks}
use Rattle.hyd_period_end.specs.FactsBeforeVectors.{AreBegun, AreReady}
use Rattle.hyd_lemmas.proofs.ListsOptionsAndResults.{as_long}

-- ---- vectors

module _ (project : Project) (net : NetView) (row : Record) (of : IsNetOf project net)
    (certificates : AreCertificates project (grid_of net) row) where
  abbrev under : IsCertificate (grid_of net) Main Lower row.main.lower
  under = certificates.each Main Lower tt

  abbrev over : IsCertificate (grid_of net) Main Upper row.main.upper
  over = certificates.each Main Upper tt

  pub count-there : length (grid_of net).junctions ≡ length net.junctions
  count-there = junctions_count net.junctions net.demands (of.each_demand ∙ long_zipped _ _ _ of.junctions)

  pub lower-is : IsVector net row.main.lower
  lower-is = record { one_each = under.one_each ∙ count-there; in_box = under.in_box }

  pub upper-is : IsVector net row.main.upper
  upper-is = record { one_each = over.one_each ∙ count-there; in_box = over.in_box }

  -- the heads below lie at or below those above where the tanks' intervals are in order
  pub in-order : IsSteady (grid_of net) → TanksInOrder (grid_of net)
      → AreInOrder (pos 0) (heads_below (grid_of net) row) (heads_above (grid_of net) row)
  in-order steady order = λ m. heads_below_plus (grid_of net) steady Main Main row.main.upper row.main.lower (pos 0)
      over under (omega (arith, ints))
      (λ k. (let f = fixed-in-order (grid_of net).reservoirs
      (map_from (λ (i : ℕ) (x : Interval). x.lo) 0 (grid_of net).tanks)
      (map_from (λ (i : ℕ) (x : Interval). x.hi) 0 (grid_of net).tanks)
      (ends-in-order 0 (grid_of net).tanks order) k in omega (arith, ints, f))) m

  long-heads : (u : List ℤ) → IsVector net u
      → length (u ++ (grid_of net).reservoirs) ≡ nodes_before_tanks project
  long-heads u is =
      let joined = length-append u net.reservoirs in
      let own = is.one_each in
      let others = of.each_reservoir in
      let zipped = long_zipped _ _ _ of.junctions in
      omega (arith, joined, own, others, zipped)

  module _ (low high : List ℤ) (flows : List Span) (read : AreRead (grid_of net) row low high flows) where
    pub each-low : length low ≡ nodes_before_tanks project
    each-low = ap length read.low_is ∙ long-heads row.main.lower lower-is

    pub each-high : length high ≡ nodes_before_tanks project
    each-high = ap length read.high_is ∙ long-heads row.main.upper upper-is

    pub each-flow : length flows ≡ length project.links.list
    each-flow =
        let ends : length net.ends ≡ length project.links.list =
        ap length of.ends ∙ length-map project.links.list ends_of in
        let links = links_count net.ends net.settings net.own (of.each_setting ∙ sym ends) (of.each_own ∙ sym ends) in
        sym (length-map flows flows_of) ∙ ap length read.flows_are ∙ length-map (grid_of net).links _ ∙ links
        ∙ ends

-- both vectors that pin a tank are certificates
pub pinned-of : (project : Project) (net : NetView) (row : Row) → IsNetOf project net
    → AreCertificates project (grid_of net) (row_of row) → row.tanks ≡ tank_count project → ArePinned (grid_of net) row
pinned-of project net row of certificates tanks =
    let long : length (grid_of net).tanks ≡ tank_count project =
    length-map net.tanks levels_of ∙ of.each_tank in
    record {
      tanks = tanks ∙ sym long;
      each = λ tank side less. certificates.each (Pinned tank) side (omega (arith, less, long));
    }

-- ---- facts

pub have-tanks : (project : Project) (grid : Grid) (row : Record) (facts : Facts) (inflows : ListView Span)
    → AreReady project facts
    → map flows_of inflows.list ≡ map_from (λ k tank. inflow_of_tank project grid row k) 0 project.tanks.list
    → All IsInflow inflows.list → HaveTanks project (record facts { inflows = inflows })
have-tanks project grid row facts inflows ready are small = record {
  levels = ready.levels;
  volumes = ready.volumes;
  inflows = sym (length-map inflows.list flows_of) ∙ ap length are
      ∙ as_long (λ k (tank : Tank). inflow_of_tank project grid row k) 0 project.tanks.list;
  tanks = ready.tanks;
  held = ready.held;
  small = small;
}

pub are-started : (project : Project) (grid : Grid) (standing : Standing) (row : Record) (facts : Facts)
    (inflows : ListView Span)
    → map flows_of inflows.list ≡ map_from (λ k tank. inflow_of_tank project grid row k) 0 project.tanks.list
    → AreBegun project standing facts → AreStarted project grid standing row (record facts { inflows = inflows })
are-started project grid standing row facts inflows are begun = record {
  time = begun.time;
  levels = begun.levels;
  volumes = begun.volumes;
  inflows = are;
  tanks = begun.tanks;
  links = begun.links;
}
