use Rattle.std.proofs.Common.{sym, ap, ◌∙◌}
use Rattle.hyd_spec_spread_rows.specs.TextsOfSpreads.{is_subject}
use Rattle.hyd_spread_rows.proofs.SaidLemmas.{said-other, said-same}
use Rattle.hyd_spread_rows.proofs.said.Said.hear.Goals as goal

pub returns-then-not-is_same-clause-said : goal.returns-then-not-is_same-clause-said
returns-then-not-is_same-clause-said c = λ project rows words distinct places is said.
    said-other project c.args.subject rows words c.args.self.now (ap (λ o. is_subject o c.args.subject) is.subject
    ∙ sym c.is_same.ensures ∙ c.if-not-is_same.true) said

pub returns-clause-said : goal.returns-clause-said
returns-clause-said c = λ project rows words distinct places is said.
    said-same project c.args.subject rows words c.args.row.now c.args.self.now c.set.new.self distinct is
    (sym c.is_same.ensures ∙ c.if-not-is_same.false) places c.set.ensures.all c.set.ensures.named said
