use Rattle.std.proofs.Common.{◌∙◌, sym, ap, refl, arith, true≢false, length, ◌<◌, below_more}
use Rattle.std.proofs.lemmas.List.{get_or_read}
use Rattle.hyd_net.proofs.EqualValues.{map-equal, map-at}
use Rattle.hyd_net.proofs.comparison.same_items.Goals as goal

pub returns-then-not-same : goal.returns-then-not-same
returns-then-not-same g c =
    let compared = g.T.Alike.compared in
    let within : c.loop-i.i < length c.args.b.now = omega (arith, c.loop-i-test.true, c.if-a-b.false) in
    let second = get_or_read c.args.b.now c.loop-i.i c.index-b-i.result within c.index-b-i.is c.index-a-i.result in (
      λ t. absurd (true≢false (sym t)),
      λ e. c.if-not-same.ensures.1 (ap compared c.index-a-i.is
          ∙ map-at compared c.args.a.now c.args.b.now c.loop-i.i c.index-a-i.result c.if-a-b.false e c.loop-i-test.true
          ∙ ap compared (sym second)),
    )

pub loop-i-preserved : goal.loop-i-preserved
loop-i-preserved g c =
    let compared = g.T.Alike.compared in
    let within : c.loop-i.i < length c.args.b.now = omega (arith, c.loop-i-test.true, c.if-a-b.false) in
    below_more _ _ c.loop-i.invariant
    (λ d. ap compared (sym (get_or_read c.args.a.now c.loop-i.i c.index-a-i.result c.loop-i-test.true c.index-a-i.is
    d)) ∙ c.if-not-same.ensures.0 refl ∙ ap compared (get_or_read c.args.b.now c.loop-i.i c.index-b-i.result within
    c.index-b-i.is d))

pub returns : goal.returns
returns g c =
    let equal = map-equal g.T.Alike.compared c.args.a.now c.args.b.now c.if-a-b.false
    (λ k d lt. c.loop-i.invariant k (omega (arith, lt, c.loop-i-test.false)) d) in
    (λ _. equal, λ _. refl)
