use Rattle.hyd_open_certificates.proofs.WholeOpenTexts.{whole_reading}
use Rattle.hyd_open_certificates.proofs.theorems_on_open_texts.open_reading_is_whole.Goals as goal

pub returns : goal.returns
returns c = whole_reading
