-- The bytes that were read are the text.
use Rattle.std.proofs.Common.{◌≡◌, ℕ, List, subst}
use Rattle.hyd_spread_files.specs.SpreadFiles.{IsText}
use Rattle.hyd_spread_files.proofs.spread_file.read_spread_file.Goals as goal

pub returns-in-Ok-Some-clause-text : goal.returns-in-Ok-Some-clause-text
returns-in-Ok-Some-clause-text g c text told =
    let same : c.in-Ok-Some.text.items ≡ text = rw c.in-Ok-Some.field-0-is at (c.in-Ok-Some.ensures.text text told) in
    subst (λ (t : List ℕ). IsText t c.file_of.result) same c.file_of.ensures
