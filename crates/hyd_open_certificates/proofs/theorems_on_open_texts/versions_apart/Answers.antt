use Rattle.hyd_open_certificates.proofs.OneOpenReading.{begins_with_header, no_plain_header, no_flows_header}
use Rattle.hyd_open_certificates.proofs.OneOpenReading.{no_plain_text, no_flows_text, no_flows_front}
use Rattle.hyd_open_certificates.proofs.theorems_on_open_texts.versions_apart.Goals as goal

pub returns-clause-begins : goal.returns-clause-begins
returns-clause-begins c = begins_with_header

pub returns-clause-no_header : goal.returns-clause-no_header
returns-clause-no_header c = no_plain_header

pub returns-clause-no_flows_header : goal.returns-clause-no_flows_header
returns-clause-no_flows_header c = no_flows_header

pub returns-clause-no_certificate : goal.returns-clause-no_certificate
returns-clause-no_certificate c = no_plain_text

pub returns-clause-no_certificate_with_flows : goal.returns-clause-no_certificate_with_flows
returns-clause-no_certificate_with_flows c = no_flows_text

pub returns-clause-no_flows : goal.returns-clause-no_flows
returns-clause-no_flows c = no_flows_front
