use Rattle.std.proofs.Common.{◌+◌, ◌∷◌, ◌++◌, take, sym, ◌∙◌, ap, subst, arith}
use Rattle.hyd_line_reader.specs.TextsWithoutLine.{HasNo}
use Rattle.hyd_line_reader.proofs.SplitTexts.{split_at, has_no_more}
use Rattle.std.proofs.lemmas.List.{take_all}
use Rattle.hyd_line_reader.proofs.words.split_word.Goals as goal
use Rattle.hyd_io.proofs.MovedBytesLemmas.{take-drop}

pub loop-i-preserved : goal.loop-i-preserved
loop-i-preserved c = has_no_more 32 c.args.text.now c.loop-i.i (omega arith) c.if-text-i-eq32.false c.loop-i.invariant

pub returns-then-text-i-eq32-clause-some : goal.returns-then-text-i-eq32-clause-some
returns-then-text-i-eq32-clause-some c = split_at c.args.text.now c.loop-i.i 32 (omega arith) c.if-text-i-eq32.true
    ∙ ap (λ r. take c.loop-i.i c.args.text.now ++ (32 ∷ r)) (sym (take-drop c.args.text.now (c.loop-i.i + 1)))

pub returns-clause-none : goal.returns-clause-none
returns-clause-none c = subst (HasNo 32) (take_all c.loop-i.i c.args.text.now (omega arith)) c.loop-i.invariant
