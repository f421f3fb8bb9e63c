use Rattle.std.proofs.Common.{◌≡◌, ◌<◌, ◌≤ℤ◌, ◌∙◌, sym, subst, ap, arith, ℤ, List, length}
use Rattle.std.proofs.lemmas.Bool.{false≢true}
use Rattle.hyd_spec.specs.Assignment.{head_at}
use Rattle.hyd_spec_pressure_targets.specs.declared.ClosureWord.{ClosureWord}
use Rattle.hyd_spec_spread_targets.specs.WordsOverPairs.{IsWordOver}
use Rattle.hyd_fire.specs.StudyView.{StudyView}
use Rattle.hyd_fire.proofs.WordsBySides.{left-without}
use Rattle.hyd_fire.proofs.words.word_of.Goals as goal

pub returns-clause-word : goal.returns-clause-word
returns-clause-word c pair rounds targets left at =
    let j = c.args.junction in
    let target = c.args.target in
    let study = c.args.study.now in
    let lower : c.deref.result.now ≡ study.lower =
    c.deref.ensures.value ∙ ap (λ (s : StudyView). s.lower) c.study.view_is in
    let upper : c.deref-2.result.now ≡ study.upper =
    c.deref-2.ensures.value ∙ ap (λ (s : StudyView). s.upper) c.study.view_is in
    let above : j < length pair.upper.junctions =
    (let a = c.requires in let b = left.upper_each in omega (arith, a, b)) in
    let same : length study.lower ≡ length study.upper =
    sym (ap (λ (s : StudyView). length s.lower) c.study.view_is)
    ∙ (c.study.invariant.0 ∙ ap (λ (s : StudyView). length s.upper) c.study.view_is) in
    let below : j < length pair.lower.junctions =
    (let a = c.requires in let b = left.lower_each in omega (arith, a, b, same)) in
    subst (λ (word : ClosureWord). IsWordOver pair rounds j target.lo target.hi word) (sym c.word_without.ensures)
    (left-without pair rounds j target study above below targets c.args.sides left at
    (λ safe. false≢true (sym c.if-is_safe.false ∙ c.is_safe.ensures.shows.1
    (safe.0, subst (λ (u : List ℤ). target.hi ≤ℤ head_at u j) (sym lower) safe.1)))
    (λ low. false≢true (sym c.if-is_low.false ∙ c.is_low.ensures.shows.1
    (low.0, subst (λ (u : List ℤ). head_at u j ≤ℤ target.lo) (sym upper) low.1))))
