-- The words that are counted are the pieces between spaces.
use Rattle.std.proofs.Common.{rules, tests}
use Rattle.std.proofs.lemmas.Iterator.Consumers.{count_from_yields_List}
use Rattle.std.proofs.lemmas.Iterator.Splits.{YieldsList-from_slice_split}
use Rattle.hyd_io.specs.FilesEmptied.{is_space}
use Rattle.hyd_io.proofs.files_to_write.count_words.Goals as goal

pub returns : goal.returns
returns c = count_from_yields_List _ c.count.result c.count.ensures.ran
    (YieldsList-from_slice_split _ is_space c.args.text.now c.split.ensures.rest c.split.ensures.done
    c.split.ensures.closure (λ x b q k. search (rules, tests)))
