-- How the command `meet` ends with what is found.
-- Source: this program's.
use Rattle.hyd_witness_trials.specs.declared.finding.Finding.{Finding}
use Rattle.hyd_witness_trials.specs.declared.finding.Finding.TheVariants.{Meets, Fails, BadLine}
use Rattle.hyd_command_answers.specs.declared.status.Status.{Status}
use Rattle.hyd_command_answers.specs.declared.status.Status.TheVariants.{Done, Undecided, CertificateRefused}

abbrev pub status_of_finding : Finding → Status
status_of_finding (Meets periods) = Done
status_of_finding (Fails period unmet) = Undecided
status_of_finding (BadLine number) = CertificateRefused
