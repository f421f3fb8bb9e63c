use Rattle.std.proofs.lemmas.Bool.Decides.{Decides-eqb}
use Rattle.std.proofs.lemmas.Slice.Eq.{strip_prefix_is}
use Rattle.hyd_line_reader.proofs.SplitTexts.{match_some, match_none}
use Rattle.hyd_line_reader.proofs.words.after.Goals as goal

pub returns-clause-some : goal.returns-clause-some
returns-clause-some c = match_some c.strip_prefix.result _ _
    (strip_prefix_is Decides-eqb c.args.line.now c.args.front.now c.strip_prefix.result c.strip_prefix.ensures.cases)

pub returns-clause-none : goal.returns-clause-none
returns-clause-none c = match_none c.strip_prefix.result _ _
    (strip_prefix_is Decides-eqb c.args.line.now c.args.front.now c.strip_prefix.result c.strip_prefix.ensures.cases)
