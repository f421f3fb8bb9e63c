use Rattle.hyd_open_certificates.proofs.OpenLineLemmas.{open_header_is}
use Rattle.hyd_open_certificates.proofs.OpenRests.{stuck_first}
use Rattle.hyd_open_certificates.proofs.OneFirstFault.{one_open_fault, fault_or_other_header}
use Rattle.hyd_open_certificates.specs.OpenLines.{open_header}
use Rattle.hyd_open_certificates.proofs.theorems_on_open_texts.lines_with_faults.Goals as goal

pub returns-clause-one : goal.returns-clause-one
returns-clause-one c = one_open_fault

pub returns-clause-own_header : goal.returns-clause-own_header
returns-clause-own_header c = fault_or_other_header

pub returns-clause-no_header : goal.returns-clause-no_header
returns-clause-no_header c = λ n k text fits_n fits_k lacks. stuck_first (open_header n k)
    (open_header_is n k fits_n fits_k) text lacks
