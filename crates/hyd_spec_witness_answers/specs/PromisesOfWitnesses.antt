-- What finding a witness and checking one promise.
-- Source: this program's.
use Rattle.std.specs.Prelude.{◌≡◌, ℕ, ◌<◌, ◌^◌, List, [], ◌∷◌, ◌++◌, ◌⊎◌, length, map, All}
use Rattle.std.specs.Prelude.{codes, decimal}
use Rattle.std.specs.List.{AllByRecursion}
use Rattle.hyd_spec.specs.ProgramTypes.{Project}
use Rattle.hyd_spec.specs.Lists.{joined}
use Rattle.hyd_spec.specs.NodeNumbers.{junction_count, tank_count}
use Rattle.hyd_spec.specs.History.{IsHistory}
use Rattle.hyd_spec_certificates.specs.RecordAndStanding.{Standing}
use Rattle.hyd_spec_certificates.specs.CertificateText.{line, IsCertificateText, IsRow, version_of, header_line}
use Rattle.hyd_spec_certificates.specs.CertificateText.{record_text}
use Rattle.hyd_spec_reports.specs.PromisesOfRunsAndChecks.{Found, IsFound, IsRun, rows_of}
use Rattle.hyd_spec_reports.specs.ReportLine.{node_id, link_id}
use Rattle.hyd_spec_flows.specs.FlowTexts.{IsTextWithFlows}
use Rattle.hyd_spec_reports_with_flows.specs.PromisesWithFlows.{FoundNaming, IsFoundNaming, founds_in, entries_of}
use Rattle.hyd_spec_reports_with_flows.specs.PromisesWithFlows.{BeginsWithEntries}
use Rattle.hyd_spec_witnesses.specs.declared.MetClause.{MetClause}
use Rattle.hyd_spec_witnesses.specs.declared.MetClause.TheVariants.{Start, Link, Demand, Emitter, Balance, Length}
use Rattle.hyd_spec_witnesses.specs.declared.Unmet.{Unmet}
use Rattle.hyd_spec_witnesses.specs.MetPeriods.{Moment, AreMet, IsMet, at_start, reached_after, periods_of}
use Rattle.hyd_spec_witnesses.specs.FirstUnmetClause.{IsUnmet}
use Rattle.hyd_spec_witnesses.specs.MiddleCandidate.{halves, IsMiddle}
use Rattle.hyd_spec_witnesses.specs.WitnessText.{IsWitnessText, IsMoment, IsScale, counts_of, witness_header}
use Rattle.hyd_spec_witnesses.specs.WitnessText.{moment_text}
use Rattle.hyd_spec_witnesses.specs.FaultyLine.{IsFaultyLine}

-- ---- lines

-- The word of a clause, and the ID of its link or junction where it names one.
abbrev pub unmet_words : Project → MetClause → ℕ → List (List ℕ)
unmet_words project Start number = codes "START" ∷ []
unmet_words project Link number = codes "LINK" ∷ (link_id project number ∷ [])
unmet_words project Demand number = codes "DEMAND" ∷ (node_id project number ∷ [])
unmet_words project Emitter number = codes "EMITTER" ∷ (node_id project number ∷ [])
unmet_words project Balance number = codes "BALANCE" ∷ (node_id project number ∷ [])
unmet_words project Length number = codes "LENGTH" ∷ []

-- `UNMET period p CLAUSE id`
abbrev pub unmet_line : Project → ℕ → Unmet → List ℕ
unmet_line project period unmet =
    line (codes "UNMET" ∷ (codes "period" ∷ (decimal period ∷ unmet_words project unmet.clause unmet.number)))

-- `MEETS n`
abbrev pub meets_line : ℕ → List ℕ
meets_line periods = line (codes "MEETS" ∷ (decimal periods ∷ []))

-- `BADWIT line n`
abbrev pub bad_line : ℕ → List ℕ
bad_line number = line (codes "BADWIT" ∷ (codes "line" ∷ (decimal number ∷ [])))

-- `WITNESS n`
abbrev pub witness_line : ℕ → List ℕ
witness_line periods = line (codes "WITNESS" ∷ (decimal periods ∷ []))

-- `NOWITNESS period p`
abbrev pub no_witness_line : ℕ → List ℕ
no_witness_line period = line (codes "NOWITNESS" ∷ (codes "period" ∷ (decimal period ∷ [])))

-- ---- checking a witness

-- What was read is a witness whose periods are all met, so they are a history of the network; the line says how many
-- they are.
pub record WitnessIsMet (project : Project) (text printed : List ℕ) : Type 0 where
  pub scale : ℕ
  pub moments : List Moment
  pub is_text : IsWitnessText (counts_of project) text scale moments
  pub met : AreMet project scale moments
  pub history : IsHistory project scale (periods_of project scale moments)
  pub report : printed ≡ meets_line (length moments)

-- The text begins as a witness of this scale with these periods, whatever comes after them.
pub record BeginsWithMoments (project : Project) (text : List ℕ) (scale : ℕ) (moments : List Moment) : Type 0 where
  pub is_scale : IsScale scale
  pub moments_fit : All (IsMoment (counts_of project)) moments
  pub count_fits : length moments < 2 ^ 32
  pub unread : List ℕ
  pub is_text : text ≡ witness_header scale (counts_of project) ++ (joined (map moment_text moments) ++ unread)

-- What was read begins as a witness with some periods that are met and one more that isn't, whatever comes after it;
-- the line names that period and its first clause that fails.
pub record WitnessIsUnmet (project : Project) (text printed : List ℕ) (unmet : Unmet) : Type 0 where
  pub scale : ℕ
  pub moments : List Moment
  pub moment : Moment
  pub is_text : BeginsWithMoments project text scale (moments ++ (moment ∷ []))
  pub met : AreMet project scale moments
  pub fails : IsUnmet project scale (reached_after project scale at_start moments) moment unmet
  pub report : printed ≡ unmet_line project (length moments) unmet

-- What was read is at fault in a line, and all whole periods before it are met; the line of the answer names it.
pub record WitnessIsFaulty (project : Project) (text printed : List ℕ) (number : ℕ) : Type 0 where
  pub fault : IsFaultyLine (counts_of project) text number
  pub met : (scale : ℕ) (moments : List Moment) → BeginsWithMoments project text scale moments
      → AreMet project scale moments
  pub report : printed ≡ bad_line number

-- ---- finding a witness

-- The text is the certificate of a run that leaves a standing, with flows of named links or without.
pub data IsCertificateOf (project : Project) (text : List ℕ) (left : Standing) : List Found → Type 0 where
  without_flows : {founds : List Found} → IsRun project founds left
      → IsCertificateText text (version_of project) (junction_count project) (tank_count project) (rows_of founds)
      (length founds) left.finished
      → IsCertificateOf project text left founds
  with_flows : (namings : List FoundNaming) → IsRun project (founds_in namings) left
      → AllByRecursion (IsFoundNaming project) namings
      → IsTextWithFlows text (junction_count project) (tank_count project) (entries_of namings) (length namings)
      left.finished
      → IsCertificateOf project text left (founds_in namings)

-- The text begins as the certificate of a run that leaves a standing, whatever comes after these periods.
pub data BeginsCertificateOf (project : Project) (text : List ℕ) (left : Standing) : List Found → Type 0 where
  without_flows : {founds : List Found} → IsRun project founds left
      → All (IsRow (junction_count project) (tank_count project)) (rows_of founds) → (unread : List ℕ)
      → text ≡ header_line (version_of project) (junction_count project) (tank_count project)
      ++ (joined (map record_text (rows_of founds)) ++ unread)
      → BeginsCertificateOf project text left founds
  with_flows : (namings : List FoundNaming) → IsRun project (founds_in namings) left
      → AllByRecursion (IsFoundNaming project) namings → BeginsWithEntries project text (entries_of namings)
      → BeginsCertificateOf project text left (founds_in namings)

-- The finer scale of a witness that is written.
abbrev pub fine_parts : ℕ
fine_parts = 1024

-- A witness is written in halves of ticks, or in finer parts.
abbrev pub IsWrittenScale : ℕ → Type 0
IsWrittenScale scale = (scale ≡ halves) ⊎ (scale ≡ fine_parts)

-- A witness at a scale with a period for each of those that were found. Its periods are met, and so a history of the
-- network.
pub record WritesWitness (project : Project) (scale : ℕ) (written : List ℕ) (founds : List Found)
    (moments : List Moment) : Type 0 where
  pub one_each : length moments ≡ length founds
  pub is_text : IsWitnessText (counts_of project) written scale moments
  pub met : AreMet project scale moments
  pub history : IsHistory project scale (periods_of project scale moments)

-- What was read is the certificate of a run, and what was written is a witness with a period for each of its records.
pub record FindsWitness (project : Project) (certificate written printed : List ℕ) : Type 0 where
  pub founds : List Found
  pub left : Standing
  pub is_certificate : IsCertificateOf project certificate left founds
  pub scale : ℕ
  pub is_scale : IsWrittenScale scale
  pub moments : List Moment
  pub writes : WritesWitness project scale written founds moments
  pub report : printed ≡ witness_line (length moments)

-- What was read begins as the certificate of a run with one more valid record, whatever comes after that. What was
-- written is a witness in halves of ticks with a period for each of the records before, and the middle candidate of that
-- record isn't met.
pub record FindsNoWitness (project : Project) (certificate written printed : List ℕ) : Type 0 where
  pub founds : List Found
  pub found : Found
  pub is_found : IsFound project found
  pub begins : BeginsCertificateOf project certificate found.standing founds
  pub begins_with_it : BeginsCertificateOf project certificate found.next (founds ++ (found ∷ []))
  pub moments : List Moment
  pub writes : WritesWitness project halves written founds moments
  pub middle : Moment
  pub is_middle : IsMiddle project (reached_after project halves at_start moments) found.row middle
  pub not_met : IsMet project halves (reached_after project halves at_start moments) middle → ⊥
  pub report : printed ≡ no_witness_line (length founds)
