-- The words that are tried are the pieces between spaces.
use Rattle.std.proofs.Common.{rules, tests}
use Rattle.std.proofs.lemmas.Iterator.Search.{all_from_yields_List}
use Rattle.std.proofs.lemmas.Iterator.Splits.{YieldsList-from_slice_split}
use Rattle.hyd_io.specs.FilesEmptied.{is_space, is_number}
use Rattle.hyd_io.proofs.files_to_write.holds_numbers.Goals as goal

pub returns : goal.returns
returns c = all_from_yields_List is_number _ _ c.all.result c.all.ensures.ran
    (YieldsList-from_slice_split _ is_space c.args.text.now c.split.ensures.rest c.split.ensures.done
    c.split.ensures.closure (λ x b q k. search (rules, tests)))
    (λ x b q k. search (rules, tests))
