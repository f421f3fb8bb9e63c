use Rattle.std.proofs.Common.{subst, arith}
use Rattle.hyd_open_rules.specs.Matters.{IsFirstMatter}
use Rattle.hyd_open_rules.specs.declared.matters.Matter.{Matter}
use Rattle.hyd_open_ends.proofs.EndsBySeconds.{by_acts, acts_open, rule_open}
use Rattle.hyd_open_ends.proofs.with_rules.with_rules.Goals.{else-late-at-via-then-late-at+else-at-seconds}
use Rattle.hyd_open_ends.proofs.with_rules.with_rules.Goals.{else-late-at-via-else-late-at}
use Rattle.hyd_open_ends.proofs.with_rules.with_rules.Goals as goal

pub returns-in-Open-clause-open : goal.returns-in-Open-clause-open
returns-in-Open-clause-open c = λ project grid standing row slack last before after links are first.
    rule_open project grid standing row c.args.late slack c.args.seconds last are before after links c.in-Open.seconds
    c.in-Open.found
    (subst (λ (m : Matter). IsFirstMatter project grid standing row last before after links m) c.in-Open.is first)

pub returns-then-at-seconds-clause-ends : goal.returns-then-at-seconds-clause-ends
returns-then-at-seconds-clause-ends c = λ project grid standing row slack last before after links are first.
    by_acts project grid standing row c.args.late slack c.args.seconds last are before after links c.in-Acts.at
    c.if-late-at.true c.if-at-seconds.true
    (subst (λ (m : Matter). IsFirstMatter project grid standing row last before after links m) c.in-Acts.is first)

pub returns-else-late-at-clause-open : goal.returns-else-late-at-clause-open
returns-else-late-at-clause-open c = λ project grid standing row slack last before after links are first.
    acts_open project grid standing row c.args.late slack c.args.seconds last are before after links c.in-Acts.at
    c.min.result c.last_end.result
    (λ both. elim c.else-late-at.branch [
      | else-late-at-via-then-late-at+else-at-seconds w ↦
          let late = both.1 in
          let not = w.if-at-seconds.false in
          omega (arith, late, not)
      | else-late-at-via-else-late-at w ↦
          let begun = both.0 in
          let not = w.if-late-at.false in
          omega (arith, begun, not)
    ]) c.min.ensures c.last_end.ensures
    (subst (λ (m : Matter). IsFirstMatter project grid standing row last before after links m) c.in-Acts.is first)
