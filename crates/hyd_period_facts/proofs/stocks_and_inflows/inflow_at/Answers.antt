use Rattle.std.proofs.Common.{◌≡◌, ◌∙◌, ap, sym, subst, List}
use Rattle.std.specs.Prelude.{slice_index_or}
use Rattle.hyd_num.specs.declared.spans.Span.{Span}
use Rattle.hyd_spec_certificates.specs.SpansAsIntervals.{flows_of}
use Rattle.hyd_spec_certificates.specs.Decided.{nowhere}
use Rattle.hyd_tank.specs.StockIntervals.{IsInflow}
use Rattle.hyd_lemmas.proofs.ListsOptionsAndResults.{mapped}
use Rattle.hyd_period_facts.proofs.stocks_and_inflows.inflow_at.Goals as goal

pub returns-clause-value : goal.returns-clause-value
returns-clause-value c =
    let here : Span = c.index-as_slice-tank.result in
    let k = c.args.tank in
    let is : here ≡ slice_index_or c.args.facts.now.inflows.list k here =
    c.index-as_slice-tank.is ∙ ap (λ (xs : List Span). slice_index_or xs k here) c.as_slice.ensures in
    ap flows_of is ∙ sym (mapped flows_of c.args.facts.now.inflows.list k nowhere here c.requires.in_range)

pub returns-clause-small : goal.returns-clause-small
returns-clause-small c =
    let here : Span = c.index-as_slice-tank.result in
    let k = c.args.tank in
    let is : here ≡ slice_index_or c.args.facts.now.inflows.list k here =
    c.index-as_slice-tank.is ∙ ap (λ (xs : List Span). slice_index_or xs k here) c.as_slice.ensures in
    subst IsInflow (sym is) (c.requires.small k here c.requires.in_range)
