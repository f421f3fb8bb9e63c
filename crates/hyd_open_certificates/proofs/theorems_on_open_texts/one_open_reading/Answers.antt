use Rattle.hyd_open_certificates.proofs.OneOpenReading.{counts_same, contents_same, record_same, first_records}
use Rattle.hyd_open_certificates.proofs.theorems_on_open_texts.one_open_reading.Goals as goal

pub returns-clause-counts : goal.returns-clause-counts
returns-clause-counts c = counts_same

pub returns-clause-contents : goal.returns-clause-contents
returns-clause-contents c = contents_same

pub returns-clause-one_record : goal.returns-clause-one_record
returns-clause-one_record c = λ n k found other rest behind is_found is_other e.
    record_same n k found other is_found is_other rest behind e

pub returns-clause-first : goal.returns-clause-first
returns-clause-first c = first_records
