use Rattle.std.proofs.lemmas.Result.{err_from_is_err_and}
use Rattle.std.proofs.Common.{◌<◌, List, length, ap, ◌∙◌, arith}
use Rattle.std.proofs.lemmas.List.{take_all}
use Rattle.hyd_spec.specs.Lists.{joined, map_from}
use Rattle.hyd_spec_certificates.specs.declared.LevelSpan.{LevelSpan}
use Rattle.hyd_spec_pressure_targets.specs.LinesOfTargets.{word_line}
use Rattle.hyd_io.proofs.PutLemmas.{puts_same}
use Rattle.hyd_fire.specs.SidesOfClosures.{word_by}
use Rattle.hyd_targets.proofs.PiecesInOrder.{piece-put, piece-cut-off}
use Rattle.hyd_targets.proofs.ClosuresOfPipes.{fused}
use Rattle.hyd_targets.proofs.one_closure.put_words.Goals as goal

pub returns-in_err-put_word : goal.returns-in_err-put_word
returns-in_err-put_word g c =
    let p = err_from_is_err_and c.from_residual.result c.from_residual.ensures.1 in
    rw (p.1, p.2) (let project = c.args.project.now in
    let left = c.args.study.now in
    let sides = c.args.sides in
    let targets = c.args.targets.now in
    let i = c.loop-junction.junction in
    let inside : i < length targets = (let a = c.loop-junction-test.true in let b = c.len-count.ensures in
    let d = c.requires.targets in omega (arith, a, b, d)) in
    puts_same _ _ _ _ _ _ _ (fused project left sides targets)
    (piece-cut-off (λ j target. word_line project j (word_by left sides j target)) targets i _ _ _ _ _ _ _ inside
    c.loop-junction.invariant c.in_err-put_word.field-0.0
    (puts_same _ _ _ _ _ _ _ (ap (word_line project i) c.word_of-word.ensures.value) c.in_err-put_word.ensures)))

pub loop-junction-preserved : goal.loop-junction-preserved
loop-junction-preserved g c =
    let project = c.args.project.now in
    let left = c.args.study.now in
    let sides = c.args.sides in
    let targets = c.args.targets.now in
    let i = c.loop-junction.junction in
    let inside : i < length targets = (let a = c.loop-junction-test.true in let b = c.len-count.ensures in
    let d = c.requires.targets in omega (arith, a, b, d)) in
    piece-put (λ j target. word_line project j (word_by left sides j target)) targets i _ _ _ _ _ _ _ inside
    c.loop-junction.invariant
    (puts_same _ _ _ _ _ _ _ (ap (word_line project i) c.word_of-word.ensures.value) c.in_ok-put_word.ensures)

pub returns : goal.returns
returns g c =
    let project = c.args.project.now in
    let left = c.args.study.now in
    let sides = c.args.sides in
    let targets = c.args.targets.now in
    let a = c.loop-junction-test.false in
    let b = c.len-count.ensures in
    let d = c.requires.targets in
    puts_same _ _ _ _ _ _ _
    (ap (λ (ts : List LevelSpan). joined (map_from (λ j target. word_line project j (word_by left sides j target)) 0
    ts)) (take_all c.loop-junction.junction targets (omega (arith, a, b, d)))
    ∙ fused project left sides targets) c.loop-junction.invariant
