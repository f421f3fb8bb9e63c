use Rattle.std.proofs.Common.{◌≡◌, ◌∙◌, ℤ, pos, List, sym, subst}
use Rattle.std.specs.Prelude.{Option, slice_index_or}
use Rattle.hyd_spec.specs.PeriodLength.{Period}
use Rattle.hyd_spec_witnesses.specs.MiddleCandidate.{stock_at}
use Rattle.hyd_stocks_at_scale.specs.declared.motions.Stock.{Stock}
use Rattle.hyd_stocks_below.specs.KeptStocks.{AreKept}
use Rattle.hyd_cert.proofs.VectorLemmas.{refill_whole}
use Rattle.hyd_witness.proofs.LastPeriods.{last_none, last_kept}
use Rattle.hyd_witness.proofs.stocks.put_stocks.Goals as goal

pub returns-in-None-clause-levels : goal.returns-in-None-clause-levels
returns-in-None-clause-levels c = λ reached stands k tank at.
    let project = c.args.project.now in
    let new = c.put_stocks_of_file.new.levels in
    let none = last_none project reached.last c.args.standing.now stands.last c.in-None.is in
    let whole = refill_whole c.args.levels.now.list new
    (c.put_stocks_of_file.ensures.levels_fit.one_each ∙ sym c.requires.levels.one_each) in
    subst (λ (xs : List ℤ). slice_index_or xs k (pos 0) ≡ (stock_at project reached.last k tank).level) (sym whole)
    (subst (λ (o : Option Period). slice_index_or new k (pos 0) ≡ (stock_at project o k tank).level) (sym none)
    (c.put_stocks_of_file.ensures.levels k tank at))

pub returns-in-None-clause-volumes : goal.returns-in-None-clause-volumes
returns-in-None-clause-volumes c = λ reached stands k tank at.
    let project = c.args.project.now in
    let new = c.put_stocks_of_file.new.volumes in
    let none = last_none project reached.last c.args.standing.now stands.last c.in-None.is in
    let whole = refill_whole c.args.volumes.now.list new
    (c.put_stocks_of_file.ensures.volumes_fit.one_each ∙ sym c.requires.volumes.one_each) in
    subst (λ (xs : List ℤ). slice_index_or xs k (pos 0) ≡ (stock_at project reached.last k tank).volume) (sym whole)
    (subst (λ (o : Option Period). slice_index_or new k (pos 0) ≡ (stock_at project o k tank).volume) (sym none)
    (c.put_stocks_of_file.ensures.volumes k tank at))

pub returns-in-Some-clause-levels : goal.returns-in-Some-clause-levels
returns-in-Some-clause-levels c = λ reached stands k tank at.
    let project = c.args.project.now in
    let new = c.put_stocks_below.new.levels in
    let last = last_kept project reached.last c.args.standing.now c.in-Some.last stands.last c.in-Some.is in
    let kept = subst (λ (ss : List Stock). AreKept project last.before c.in-Some.last.length ss
    c.deref-in-Some.result.now) (sym c.deref.ensures.value)
    (subst (λ (qs : List ℤ). AreKept project last.before c.in-Some.last.length c.args.standing.now.stocks.items qs)
    (sym c.deref-in-Some.ensures.value) last.kept) in
    let whole = refill_whole c.args.levels.now.list new
    (c.put_stocks_below.ensures.levels_fit.one_each ∙ sym c.requires.levels.one_each) in
    subst (λ (xs : List ℤ). slice_index_or xs k (pos 0) ≡ (stock_at project reached.last k tank).level) (sym whole)
    (subst (λ (o : Option Period). slice_index_or new k (pos 0) ≡ (stock_at project o k tank).level) (sym last.is)
    (c.put_stocks_below.ensures.levels last.before kept k tank at))

pub returns-in-Some-clause-volumes : goal.returns-in-Some-clause-volumes
returns-in-Some-clause-volumes c = λ reached stands k tank at.
    let project = c.args.project.now in
    let new = c.put_stocks_below.new.volumes in
    let last = last_kept project reached.last c.args.standing.now c.in-Some.last stands.last c.in-Some.is in
    let kept = subst (λ (ss : List Stock). AreKept project last.before c.in-Some.last.length ss
    c.deref-in-Some.result.now) (sym c.deref.ensures.value)
    (subst (λ (qs : List ℤ). AreKept project last.before c.in-Some.last.length c.args.standing.now.stocks.items qs)
    (sym c.deref-in-Some.ensures.value) last.kept) in
    let whole = refill_whole c.args.volumes.now.list new
    (c.put_stocks_below.ensures.volumes_fit.one_each ∙ sym c.requires.volumes.one_each) in
    subst (λ (xs : List ℤ). slice_index_or xs k (pos 0) ≡ (stock_at project reached.last k tank).volume) (sym whole)
    (subst (λ (o : Option Period). slice_index_or new k (pos 0) ≡ (stock_at project o k tank).volume) (sym last.is)
    (c.put_stocks_below.ensures.volumes last.before kept k tank at))
