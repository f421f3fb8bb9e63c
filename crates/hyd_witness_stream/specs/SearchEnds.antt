-- What a search for a witness gives, by how it ended.
-- Source: this program's.
use Rattle.std.specs.Prelude.{◌≡◌, ℕ, List}
use Rattle.hyd_spec.specs.ProgramTypes.{Project}
use Rattle.hyd_spec_reports.specs.ReportLine.{refused_line, refused_end_line}
use Rattle.hyd_spec_reports_with_flows.specs.FlowLines.{refused_flow_line}
use Rattle.hyd_spec_witnesses.specs.MiddleCandidate.{halves}
use Rattle.hyd_spec_witness_answers.specs.PromisesOfWitnesses.{witness_line, no_witness_line, FindsWitness}
use Rattle.hyd_spec_witness_answers.specs.PromisesOfWitnesses.{FindsNoWitness}
use Rattle.hyd_spec_check_ends.specs.LinesOfRefusals.{refused_grammar_line, refused_counts_line}
use Rattle.hyd_witness_stream.specs.RefusedCertificates.{RefusesCertificate, StopsShort}
use Rattle.hyd_witness_stream.specs.declared.ending.Halt.{Halt}
use Rattle.hyd_witness_stream.specs.declared.ending.Halt.TheVariants.{Accepted, NoMoment, Refused, RefusedPart}
use Rattle.hyd_witness_stream.specs.declared.ending.Halt.TheVariants.{OtherEnd, Grammar, Counts}

-- The line that says it, of a witness of so many periods.
abbrev pub halt_line : Project → ℕ → Halt → List ℕ
halt_line project periods Accepted = witness_line periods
halt_line project periods NoMoment = no_witness_line periods
halt_line project periods (Refused cause) = refused_line project cause
halt_line project periods (RefusedPart period cause) = refused_flow_line project period cause
halt_line project periods (OtherEnd number) = refused_end_line number
halt_line project periods (Grammar number) = refused_grammar_line number
halt_line project periods (Counts number) = refused_counts_line number

-- What holds of a certificate and of the witness that was written at a scale, and that this line says it: there is a
-- period for each of its records; or none was found for the next record, and in halves of ticks its middle candidate
-- isn't met; or the certificate is refused.
abbrev pub EndsSo : Halt → Project → ℕ → (certificate written line : List ℕ) → Type 0
EndsSo Accepted project scale certificate written line = FindsWitness project certificate written line
EndsSo NoMoment project scale certificate written line =
    StopsShort project scale certificate written line
    × (scale ≡ halves → FindsNoWitness project certificate written line)
EndsSo (Refused cause) project scale certificate written line = RefusesCertificate project certificate written line
EndsSo (RefusedPart period cause) project scale certificate written line =
    RefusesCertificate project certificate written line
EndsSo (OtherEnd number) project scale certificate written line = RefusesCertificate project certificate written line
EndsSo (Grammar number) project scale certificate written line = RefusesCertificate project certificate written line
EndsSo (Counts number) project scale certificate written line = RefusesCertificate project certificate written line
