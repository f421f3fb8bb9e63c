-- What a step finds and puts in, with the vectors of the named links.
use Rattle.std.proofs.Common.{◌≡◌, ℕ, ◌<◌, ◌^◌, List, All, refl, sym, ap, subst, ◌∙◌}
use Rattle.hyd_cert.specs.Lines.{Header}
use Rattle.hyd_cert.specs.RecordView.{row_of}
use Rattle.hyd_cert.specs.declared.record.Record.{Record as Row}
use Rattle.hyd_flow.specs.GivenRecords.{IsGiven}
use Rattle.hyd_io.specs.declared.output.OutFault.{OutFault}
use Rattle.hyd_period_facts.specs.declared.facts.Facts.{Facts}
use Rattle.hyd_period_network.specs.NetAsPeriodNetwork.{grid_of, states_of}
use Rattle.hyd_period_network.specs.NetView.{NetView}
use Rattle.hyd_period_network.proofs.NetOfSoundProject.{long_zipped}
use Rattle.hyd_report.specs.NodeAndLinkLines.{texts}
use Rattle.hyd_report.specs.PeriodLines.{lines_of}
use Rattle.hyd_run.specs.Pens.{RunMoment, PutIn, IsCutInOrder}
use Rattle.hyd_run.proofs.PeriodLemmas.{grid-count, fewer-left}
use Rattle.hyd_run.proofs.StepLemmas.{found-of, number-is, step-of}
use Rattle.hyd_sim.specs.RunView.{SimView, IsSim, standing_of}
use Rattle.hyd_sim.specs.Steps.{IsPeriod}
use Rattle.hyd_spec.specs.NodeNumbers.{junction_count}
use Rattle.hyd_spec.specs.ProgramTypes.{Project}
use Rattle.hyd_spec_certificates.specs.declared.Problem.TheVariants.{Main}
use Rattle.hyd_spec_certificates.specs.declared.Side.{Side}
use Rattle.hyd_spec_certificates.specs.declared.Side.TheVariants.{Upper, Lower}
use Rattle.hyd_spec_certificates.specs.RecordAndStanding.{Standing}
use Rattle.hyd_spec_reports_with_flows.specs.FlowLines.{FlowLine, AreFlowLines}
use Rattle.hyd_spec_flows.specs.FlowParts.{NamedLink, FlowPart, HasItsVector, IsFlowPart, IsSharpPart, names_of}
use Rattle.hyd_spec_flows.specs.FlowTexts.{entry_text}
use Rattle.hyd_spec_reports_with_flows.specs.PromisesWithFlows.{FoundNaming}
use Rattle.hyd_spec_named_links.specs.NamedLinks.{MayBeNamed}
use Rattle.hyd_theorems_on_definitions.specs.SoundLawsAndGrids.{IsSteady}
use Rattle.hyd_run_naming_flows.specs.NamingRuns.{entry_with, lines_with, IsStepNaming, DidPeriodNaming}
use Rattle.hyd_run_naming_flows.specs.NamingRuns.{LostPeriodNaming}
use Rattle.hyd_run_naming_flows.proofs.PartLemmas.{part-fits}

-- links of a network that stays may still be named, where they are the same
pub may-still : (project other : Project) (named names : List ℕ) → other ≡ project → names ≡ named
    → MayBeNamed project named → MayBeNamed other names
may-still project other named names p n may = rw (p, n) may

-- the record of a run stands for as many junctions as the network has
pub row-junctions : (now : SimView) → IsSim now → now.row.junctions ≡ junction_count now.project
row-junctions now is = ap (λ (h : Header). h.junctions) is.header

given-now : (before now : SimView) → IsSim now → IsPeriod before now → IsSteady (grid_of now.net)
    → IsGiven now.net now.row
given-now before now is period steady = record {
  junctions = row-junctions now is ∙ long_zipped _ _ _ is.net.junctions;
  certified = record {
    steady = steady;
    tanks = period.order;
    upper = period.valid.certificates.each Main Upper tt;
    lower = period.valid.certificates.each Main Lower tt;
  };
}

-- ---- the parts of a run, as they were handed on

module _ (before now : SimView) (is : IsSim now) (period : IsPeriod before now) (project : Project) (net : NetView)
    (row : Row) (facts : Facts)
    (p : project ≡ now.project) (n : net ≡ now.net) (r : row ≡ now.row) (f : facts ≡ now.facts) where
  pub report-there : texts project (lines_of project (grid_of net) (states_of net) (row_of row) facts)
      ≡ texts now.project (lines_of now.project (grid_of now.net) (states_of now.net) (row_of now.row) now.facts)
  report-there = rw (p, n, r, f) refl

module _ (before now : SimView) (is : IsSim now) (period : IsPeriod before now) (net : NetView) (row : Row)
    (n : net ≡ now.net) (r : row ≡ now.row) where
  pub given-there : IsSteady (grid_of net) → IsGiven net row
  given-there steady = rw (n, r) (given-now before now is period (rw n at steady))

  pub part-there : (part : FlowPart) → IsFlowPart (grid_of now.net) (row_of now.row) part
      → IsFlowPart (grid_of net) (row_of row) part
  part-there part is_part = rw (n, r) is_part

  pub vectors-now : (part : FlowPart)
      → All (λ (named : NamedLink). (side : Side) → HasItsVector (grid_of net) (row_of row) named side) part
      → All (λ (named : NamedLink). (side : Side) → HasItsVector (grid_of now.net) (row_of now.row) named side) part
  vectors-now part vectors = rw (n, r) at vectors

  pub near-now : (rounds : ℕ) (part : FlowPart) → rounds ≡ now.settings.rounds
      → IsSharpPart rounds (grid_of net) (row_of row) part
      → IsSharpPart now.settings.rounds (grid_of now.net) (row_of now.row) part
  near-now rounds part e near = rw (e, n, r) at near

  pub lines-now : (project : Project) (standing : Standing) (part : FlowPart) (flows : List FlowLine)
      → project ≡ now.project → AreFlowLines project (grid_of net) standing part flows
      → AreFlowLines now.project (grid_of now.net) standing part flows
  lines-now project standing part flows p are = rw (p, n) at are

-- ---- what was found

abbrev pub naming-of : SimView → SimView → FlowPart → List FlowLine → FoundNaming
naming-of before now part flows = record { found = found-of before now; part = part; flows = flows }

module _ (before now : SimView) (is : IsSim now) (period : IsPeriod before now) (number : now.row.number < 2 ^ 32)
    (time : now.row.time < 2 ^ 32) (seconds : now.row.length < 2 ^ 32) (named : List ℕ) (part : FlowPart)
    (may : MayBeNamed now.project named) (names : names_of part ≡ named)
    (held : IsFlowPart (grid_of now.net) (row_of now.row) part)
    (near : IsSharpPart now.settings.rounds (grid_of now.net) (row_of now.row) part) (flows : List FlowLine)
    (lines : AreFlowLines now.project (grid_of now.net) (standing_of before) part flows) where
  step-naming : IsStepNaming now.project now.settings named (standing_of before) (standing_of now)
      (naming-of before now part flows)
  step-naming = record {
    step = step-of before now is period number time seconds;
    is_found = record { held = held; lines = lines };
    names = record { names = names; near = near };
    fits = part-fits now.project is.sound (grid_of now.net) (grid-count now.project now.net is.net) (row_of now.row)
        part (subst (MayBeNamed now.project) (sym names) may) held;
  }

  pub did-naming : (m o : RunMoment) → PutIn (entry_text (entry_with now part)) (lines_with now flows) m o
      → DidPeriodNaming named before now m o
  did-naming m o put = record {
    naming = naming-of before now part flows;
    step = step-naming;
    fewer = fewer-left before now is (number-is before now is period);
    put = put;
  }

  pub lost-naming : (fault : OutFault) (m o : RunMoment)
      → IsCutInOrder fault (entry_text (entry_with now part)) (lines_with now flows) m o
      → LostPeriodNaming named fault before now m o
  lost-naming fault m o cut_off =
      record { naming = naming-of before now part flows; step = step-naming; cut_off = cut_off }
