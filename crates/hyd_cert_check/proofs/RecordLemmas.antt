-- A record that was read and tried.
use Rattle.std.proofs.Common.{◌≡◌, ◌≢◌, ℕ, suc, ◌+◌, ◌<◌, ◌^◌, List, [], ◌++◌, length, All, Option, Bool, true, false}
use Rattle.std.proofs.Common.{refl, sym, ap, subst, ◌∙◌}
use Rattle.std.proofs.lemmas.List.Elements.{All-nil}
use Rattle.hyd_net.specs.Sound.{IsSound}
use Rattle.hyd_spec.specs.ProgramTypes.{Project}
use Rattle.hyd_spec_certificates.specs.declared.Problem.TheVariants.{Main}
use Rattle.hyd_spec_certificates.specs.declared.Side.TheVariants.{Upper, Lower}
use Rattle.hyd_spec_certificates.specs.RecordAndStanding.{Record, Standing}
use Rattle.hyd_spec_certificates.specs.Valid.{AreCertificates}
use Rattle.hyd_spec_reports.specs.PromisesOfRunsAndChecks.{Found}
use Rattle.hyd_spec_certificates.specs.CertificateText.{record_text, end_line, IsRow}
use Rattle.hyd_spec_certificates.specs.RefusedRecords.{IsRefused}
use Rattle.hyd_spec_certificates.specs.declared.CertRefused.{CertRefused}
use Rattle.hyd_spec_flows.specs.FlowParts.{FlowPart as Part, IsFlowPart, IsRefusedPart}
use Rattle.hyd_spec_flows.specs.FlowTexts.{Entry, IsNamed}
use Rattle.hyd_spec_reports_with_flows.specs.FlowLines.{FlowLine, AreFlowLines}
use Rattle.hyd_spec_reports_with_flows.specs.PromisesWithFlows.{FoundNaming, entry_of, period_text}
use Rattle.hyd_spec_flows.specs.declared.FlowFails.{FlowFails}
use Rattle.hyd_io.specs.declared.desk.Faults.{Faults}
use Rattle.hyd_io.specs.DeskBytes.{prepend_known, where_told}
use Rattle.hyd_io.specs.DeskCounts.{with_read_fault}
use Rattle.hyd_cert.specs.Faults.{lines_on}
use Rattle.hyd_cert.specs.Lines.{Header}
use Rattle.hyd_cert.specs.PlacesOfLines.{First, heads_in}
use Rattle.hyd_cert.specs.ReaderView.{ReaderView, IsGoing, to_come, lead_lines, place_of}
use Rattle.hyd_cert.specs.ReaderWithFlows.{lead_as_read, part_behind, IsPartBehind, part_lines, IsFaultAsRead}
use Rattle.hyd_cert.specs.ReaderWithFlows.{LacksRecordAsRead, HasNoFlows}
use Rattle.hyd_cert.specs.FlowPartView.{part_of}
use Rattle.hyd_cert.specs.RecordView.{header_of, row_of}
use Rattle.hyd_cert.specs.declared.answers_of_reader.CertFault.TheVariants.{Read, Grammar, Count}
use Rattle.hyd_cert.specs.declared.answers_of_reader.Stand.{Stand}
use Rattle.hyd_cert.specs.declared.answers_of_reader.Stand.TheVariants as stand
use Rattle.hyd_cert.specs.declared.answers_of_reader.Stand.TheVariants.{First as AtFirst, Between as AtBetween}
use Rattle.hyd_cert.specs.declared.answers_of_reader.Stand.TheVariants.{Over as AtOver, Stuck as AtStuck}
use Rattle.hyd_cert.specs.declared.flow_part.FlowPart.{FlowPart}
use Rattle.hyd_cert.specs.declared.record.Record.{Record as Row}
use Rattle.hyd_flow.specs.GivenRecords.{IsGiven}
use Rattle.hyd_period_network.specs.NetAsPeriodNetwork.{grid_of, states_of}
use Rattle.hyd_period_network.specs.NetView.{NetView}
use Rattle.hyd_period_network.specs.NetsSetToPeriods.{IsNetOf}
use Rattle.hyd_period_network.specs.LawsInSettings.{AreStates}
use Rattle.hyd_period_network.proofs.NetOfSoundProject.{long_zipped}
use Rattle.hyd_period_facts.specs.declared.facts.Facts.{Facts}
use Rattle.hyd_theorems_on_definitions.specs.SoundLawsAndGrids.{IsSteady}
use Rattle.hyd_run.specs.PassedOn.{AreBounds, AreTankFacts, lines_of}
use Rattle.hyd_run.proofs.PassedOn.{lines_are_report}
use Rattle.hyd_run.proofs.PeriodLemmas.{bounds-of, tank-facts-of, number-next, each-link, fewer-left}
use Rattle.hyd_sim.specs.RunView.{SimView, IsSim, standing_of, header_for}
use Rattle.hyd_sim.specs.Acceptance.{IsAccepted}
use Rattle.hyd_cert_check.specs.ReaderAndPen.{CheckMoment, PutIn, IsCutOff}
use Rattle.hyd_cert_check.specs.RecordByRecord.{coming, entry_as_read, IsEntryAsRead, KeepsFlows, IsRead, IsStep}
use Rattle.hyd_cert_check.specs.RecordByRecord.{IsOfPeriod, DidRecord, LostRecord, IsOver, IsSo, IsEnd, IsFaultyLine}
use Rattle.hyd_cert_check.specs.RecordByRecord.{IsGrammarFault, IsOtherHeader, IsCountsFault}
use Rattle.hyd_cert_check.specs.declared.outcome.CheckFault.{CheckFault}
use Rattle.hyd_cert_check.specs.declared.outcome.Conclusion.{Conclusion}
use Rattle.hyd_cert_check.specs.declared.outcome.Conclusion.TheVariants.{Accepted, Refused, RefusedPart, OtherEnd}
use Rattle.hyd_cert_check.proofs.PenLemmas.{put-then, cut-off-then}

-- ---- what was read

-- behind the header line the reader keeps in mind whether the text has flows
pub keeps-flows : (before now : CheckMoment)
    → (before.reader.stand ≢ stand.First → now.reader.flows ≡ before.reader.flows) → KeepsFlows before now
keeps-flows before now same = record {
  same = λ between. same (λ first. (let apart : stand.Between ≡ stand.First = sym between ∙ first in cc));
}

pub is-read : (header : Header) (row : Row) (part : FlowPart) (before now : CheckMoment) → header_of row ≡ header
    → coming before ≡ prepend_known (lead_as_read now.reader.flows before.reader.stand (header_of row)
    ++ (record_text (row_of row) ++ part_behind now.reader.flows (part_of part))) (coming now)
    → IsRow row.junctions row.tanks (row_of row) → IsPartBehind now.reader.flows row.junctions (part_of part)
    → now.reader.line ≡ lines_on before.reader.line (lead_lines before.reader.stand + length row.vectors.list
    + part_lines now.reader.flows row.junctions (part_of part))
    → now.reader.stand ≡ stand.Between
    → (before.reader.stand ≢ stand.First → now.reader.flows ≡ before.reader.flows)
    → IsRead header (record { row = row_of row; part = part_of part }) before now
is-read header row part before now same text fits behind lines stands keeps =
    subst (λ (h : Header). IsRead h (record { row = row_of row; part = part_of part }) before now) same (record {
      text = text;
      fits = record { row = fits; part = behind };
      stands = stands;
      lines = lines ∙ ap (λ (m : ℕ). lines_on before.reader.line (lead_lines before.reader.stand + m
          + part_lines now.reader.flows row.junctions (part_of part))) row.whole;
      keeps = keeps-flows before now keeps;
    })

-- what is still to come stays
read-there : (header : Header) (entry : Entry) (m n o : CheckMoment) → IsRead header entry m n → o.reader ≡ n.reader
    → o.told.rest ≡ n.told.rest → IsRead header entry m o
read-there header entry m n o read same rest =
    let coming_stays : coming o ≡ coming n = ap (λ (r : ReaderView). to_come r o.told.rest) same ∙ ap (to_come n.reader)
    rest in
    let flows : n.reader.flows ≡ o.reader.flows = ap (λ (r : ReaderView). r.flows) (sym same) in
    record {
      text = subst (λ (f : Bool). coming m ≡ prepend_known (lead_as_read f m.reader.stand header
          ++ entry_as_read f entry) (coming o)) flows
          (read.text ∙ ap (prepend_known (lead_as_read n.reader.flows m.reader.stand header
          ++ entry_as_read n.reader.flows entry)) (sym coming_stays));
      fits = subst (λ (f : Bool). IsEntryAsRead f header.junctions header.tanks entry) flows read.fits;
      stands = ap (λ (r : ReaderView). r.stand) same ∙ read.stands;
      lines = subst (λ (f : Bool). o.reader.line ≡ lines_on m.reader.line (lead_lines m.reader.stand
          + heads_in header.junctions header.tanks + part_lines f header.junctions entry.part)) flows
          (ap (λ (r : ReaderView). r.line) same ∙ read.lines);
      keeps = record { same = λ between. sym flows ∙ read.keeps.same between };
    }

-- the links that are named in a part that was read
pub named-there : (flows : Bool) (junctions : ℕ) (part : Part) → IsPartBehind flows junctions part
    → All (IsNamed junctions) part
named-there true junctions part is = is.each
named-there false junctions part is = subst (All (IsNamed junctions)) (sym is) (All-nil (IsNamed junctions))

-- ---- a period that is reported

module _ (sim : SimView) (is : IsSim sim) (of : IsOfPeriod sim) (project : Project) (net : NetView) (row : Row)
    (facts : Facts) (p : project ≡ sim.project) (n : net ≡ sim.net) (r : row ≡ sim.row) (f : facts ≡ sim.facts) where
  pub sound-there : IsSound project
  sound-there = rw p is.sound

  pub net-there : IsNetOf project net
  net-there = rw (p, n) is.net

  pub states-there : AreStates project (states_of net)
  states-there = rw (p, n) of.states

  pub bounds-there : IsSteady (grid_of net) → AreBounds net (row_of row)
  bounds-there steady =
      bounds-of project net (row_of row) net-there steady (rw n of.order) (rw (p, n, r) of.certificates)

  pub tanks-there : AreTankFacts project facts
  tanks-there = rw (p, f) (tank-facts-of sim.project sim.facts of.have)

  pub links-there : states_of net ≡ facts.links.list
  links-there = rw (n, f) of.links

  -- the record is given to those who judge its part
  pub given-there : IsSteady (grid_of net) → IsGiven net row
  given-there steady =
      let certificates : AreCertificates project (grid_of net) (row_of row) = rw (p, n, r) of.certificates in
      let header : header_of row ≡ header_for project = rw (p, r) is.header in
      let of_net : IsNetOf project net = rw (p, n) is.net in
      record {
        junctions = ap (λ (h : Header). h.junctions) header ∙ long_zipped _ _ _ of_net.junctions;
        certified = record {
          steady = steady;
          tanks = rw n of.order;
          upper = certificates.each Main Upper tt;
          lower = certificates.each Main Lower tt;
        };
      }

-- ---- a record that was accepted

module _ (before now : SimView) (is : IsSim now) (accepted : IsAccepted before now) where
  pub of-period : IsOfPeriod now
  of-period = record {
    certificates = accepted.valid.certificates;
    have = accepted.have;
    order = accepted.order;
    states = accepted.states;
    links = accepted.links;
  }

  -- when it begins
  pub begins-there : (standing_of before).time ≡ now.row.time
  begins-there = sym accepted.valid.time

  -- what was found
  abbrev found : Found
  found = record {
    standing = standing_of before;
    grid = grid_of now.net;
    row = row_of now.row;
    lines = lines_of now.project (grid_of now.net) (states_of now.net) (row_of now.row) now.facts;
    next = standing_of now;
  }

  number-is : (standing_of now).number ≡ suc (standing_of before).number
  number-is =
      number-next now.project (standing_of before) (grid_of now.net) (row_of now.row) (standing_of now) accepted.valid

  is-step : IsStep now.project (standing_of before) (standing_of now) found
  is-step = record {
    begins = refl;
    leaves = refl;
    is_found = record {
      valid = accepted.valid;
      report = lines_are_report now.project (grid_of now.net) (states_of now.net) (standing_of before) (row_of now.row)
          now.facts accepted.facts (tank-facts-of now.project now.facts accepted.have) accepted.links
          (each-link now is);
    };
    number = number-is;
  }

  module _ (part : Part) (m n : CheckMoment)
      (read : IsRead (header_for now.project) (record { row = row_of now.row; part = part }) m n)
      (none : PutIn [] m n) where
    -- its part is refused
    pub part-refused : (period : ℕ) (cause : FlowFails) → period ≡ now.row.number
        → IsRefusedPart (grid_of now.net) (row_of now.row) part cause → IsOver (RefusedPart period cause) before now m n
    part-refused period cause number refused = record {
      is_so = record {
        found = found;
        part = part;
        begins = refl;
        is_found = is-step.is_found;
        read = read;
        refused = refused;
        number = number;
      };
      last = refl;
      put = none;
    }

    module _ (o : CheckMoment) (stays : o.reader ≡ n.reader) (rest : o.told.rest ≡ n.told.rest)
        (held : IsFlowPart (grid_of now.net) (row_of now.row) part) (lines : List FlowLine)
        (are : AreFlowLines now.project (grid_of now.net) (standing_of before) part lines) where
      abbrev naming : FoundNaming
      naming = record { found = found; part = part; flows = lines }

      pub did-there : PutIn (period_text now.project naming) n o → DidRecord before now m o
      did-there put = record {
        naming = naming;
        step = is-step;
        part = record { held = held; lines = are };
        read = read-there (header_for now.project) (entry_of naming) m n o read stays rest;
        fewer = fewer-left before now is number-is;
        put = put-then [] (period_text now.project naming) m n o none put;
      }

      pub lost-there : (why : CheckFault) → IsCutOff why (period_text now.project naming) n o
          → LostRecord why before now m o
      lost-there why cut_off = record {
        naming = naming;
        step = is-step;
        part = record { held = held; lines = are };
        read = read-there (header_for now.project) (entry_of naming) m n o read stays rest;
        cut_off = cut-off-then why [] (period_text now.project naming) m n o none cut_off;
      }

-- the record that was read is that of the run behind it
pub read-accepted : (project : Project) (now : SimView) (row : Row) (part : Part) (m n : CheckMoment)
    → now.project ≡ project → row_of now.row ≡ row_of row
    → IsRead (header_for project) (record { row = row_of row; part = part }) m n
    → IsRead (header_for now.project) (record { row = row_of now.row; part = part }) m n
read-accepted project now row part m n p same read =
    subst (λ (r : Record). IsRead (header_for now.project) (record { row = r; part = part }) m n) (sym same)
    (subst (λ (q : Project). IsRead (header_for q) (record { row = row_of row; part = part }) m n) (sym p) read)

-- ---- a record that is refused

pub refused-there : (before now : SimView) (row : Row) (part : Part) (cause : CertRefused) (m n : CheckMoment)
    → now.project ≡ before.project → IsRefused before.project (standing_of before) (row_of row) cause
    → IsRead (header_for before.project) (record { row = row_of row; part = part }) m n → PutIn [] m n
    → IsOver (Refused cause) before now m n
refused-there before now row part cause m n p refused read none = record {
  is_so = record {
    entry = record { row = row_of row; part = part };
    read = subst (λ (q : Project). IsRead (header_for q) (record { row = row_of row; part = part }) m n) (sym p) read;
    refused = subst (λ (q : Project). IsRefused q (standing_of before) (row_of row) cause) (sym p) refused;
  };
  last = refl;
  put = none;
}

-- ---- where the records end

pub over-there : (conclusion : Conclusion) (sim : SimView) (m n : CheckMoment) → IsSo conclusion sim.project
    (standing_of sim) m n
    → PutIn [] m n → IsOver conclusion sim sim m n
over-there conclusion sim m n so none = record { is_so = so; last = refl; put = none }

pub end-is : (project : Project) (row : Row) (periods : ℕ) (finished : Bool) (before now : CheckMoment)
    → header_of row ≡ header_for project
    → coming before ≡ where_told before.told.rest
    (lead_as_read now.reader.flows before.reader.stand (header_of row) ++ end_line periods finished)
    → now.reader.line ≡ lines_on before.reader.line (lead_lines before.reader.stand)
    → periods < 2 ^ 32 → (before.reader.stand ≢ stand.First → now.reader.flows ≡ before.reader.flows)
    → IsEnd project periods finished before now
end-is project row periods finished before now same text line fits keeps = record {
  text = text ∙ ap (λ (h : Header). where_told before.told.rest
      (lead_as_read now.reader.flows before.reader.stand h ++ end_line periods finished)) same;
  line = line;
  fits = fits;
  keeps = keeps-flows before now keeps;
}

-- what the END line says
pub other-number : (project : Project) (left : Standing) (line periods : ℕ) (finished : Bool)
    (before now : CheckMoment) → left.number < 2 ^ 32 → (((periods ≡ left.number) × (finished ≡ left.finished)) → ⊥)
    → IsEnd project periods finished before now → line ≡ now.reader.line
    → IsSo (OtherEnd line) project left before now
other-number project left line periods finished before now few other end number = (
  record { periods = periods; finished = finished; is_end = end; few = few; other = other },
  number,
)

pub same-number : (project : Project) (left : Standing) (periods : ℕ) (finished : Bool) (before now : CheckMoment)
    → periods ≡ left.number → finished ≡ left.finished → IsEnd project periods finished before now
    → IsSo (Accepted finished) project left before now
same-number project left periods finished before now same done end =
    (subst (λ (p : ℕ). IsEnd project p finished before now) same end, done)

-- the fault of a line, by whether the text has flows
line-fault : (flows : Bool) (header : Header) (at : Stand) (line number : ℕ) (text : Option (List ℕ))
    (start now : Faults) → IsFaultAsRead flows header at line text start now (Grammar number)
    → (offset : ℕ) × ((number ≡ lines_on line offset) × IsFaultyLine flows header at text offset × (now ≡ start))
line-fault true header at line number text start now fault = fault
line-fault false header at line number text start now fault = fault

pub steady-fault : (flows : Bool) (header : Header) (at : Stand) (line number : ℕ) (text : Option (List ℕ))
    (start now : Faults) → IsFaultAsRead flows header at line text start now (Grammar number) → now ≡ start
steady-fault flows header at line number text start now fault =
    (line-fault flows header at line number text start now fault).1.2

pub grammar-is : (project : Project) (row : Row) (line : ℕ) (before after : CheckMoment) (start now : Faults)
    → header_of row ≡ header_for project
    → IsFaultAsRead after.reader.flows (header_of row) before.reader.stand before.reader.line (coming before) start now
    (Grammar line)
    → LacksRecordAsRead after.reader.flows before.reader.stand (header_of row) (coming before)
    → (before.reader.stand ≡ stand.First → after.reader.flows ≡ false → HasNoFlows (header_of row) (coming before))
    → (before.reader.stand ≢ stand.First → after.reader.flows ≡ before.reader.flows)
    → IsGrammarFault project line before after
grammar-is project row line before after start now same fault lacks no_flows keeps =
    let f = line-fault after.reader.flows (header_of row) before.reader.stand before.reader.line line (coming before)
    start now fault in
    record {
      offset = f.0;
      number = f.1.0;
      fault = subst (λ (h : Header). IsFaultyLine after.reader.flows h before.reader.stand (coming before) f.0) same
          f.1.1;
      no_record = subst (λ (h : Header). LacksRecordAsRead after.reader.flows before.reader.stand h (coming before))
          same
          lacks;
      no_flows = λ first none. subst (λ (h : Header). HasNoFlows h (coming before)) same (no_flows first none);
      keeps = keeps-flows before after keeps;
    }

-- the first line of all, by the place of the next line
at-first-place : (at : Stand) → IsGoing at → place_of at ≡ First → at ≡ stand.First
at-first-place AtFirst going e = refl
at-first-place AtBetween going e = absurd (cc)
at-first-place (AtOver end) going e = absurd going
at-first-place (AtStuck fault) going e = absurd going

-- a header line, by whether the text has flows
counts-fault : (flows : Bool) (header : Header) (at : Stand) (line number : ℕ) (text : Option (List ℕ))
    (start now : Faults) → IsGoing at → IsFaultAsRead flows header at line text start now (Count number)
    → (at ≡ stand.First) × (number ≡ lines_on line 1) × IsOtherHeader flows header text × (now ≡ start)
counts-fault true header at line number text start now going fault = fault
counts-fault false header at line number text start now going fault =
    (at-first-place at going fault.0, fault.1, fault.2, fault.3)

pub steady-counts : (flows : Bool) (header : Header) (at : Stand) (line number : ℕ) (text : Option (List ℕ))
    (start now : Faults) → IsGoing at → IsFaultAsRead flows header at line text start now (Count number) → now ≡ start
steady-counts flows header at line number text start now going fault =
    (counts-fault flows header at line number text start now going fault).3

pub counts-is : (project : Project) (row : Row) (line : ℕ) (before after : CheckMoment) (start now : Faults)
    → header_of row ≡ header_for project → IsGoing before.reader.stand
    → IsFaultAsRead after.reader.flows (header_of row) before.reader.stand before.reader.line (coming before) start now
    (Count line)
    → IsCountsFault project line before after
counts-is project row line before after start now same going fault =
    let f = counts-fault after.reader.flows (header_of row) before.reader.stand before.reader.line line (coming before)
    start now going fault in
    record {
      first = f.0;
      number = f.1;
      other_header = subst (λ (h : Header). IsOtherHeader after.reader.flows h (coming before)) same f.2;
    }

pub read-rose : (flows : Bool) (header : Header) (at : Stand) (line : ℕ) (text : Option (List ℕ)) (start now : Faults)
    → IsFaultAsRead flows header at line text start now Read → now ≡ with_read_fault start
read-rose true header at line text start now fault = fault
read-rose false header at line text start now fault = fault
