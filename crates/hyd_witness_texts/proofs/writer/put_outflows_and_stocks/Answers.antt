use Rattle.std.proofs.lemmas.Result.{err_from_is_err_and}
use Rattle.std.proofs.Common.{ℤ, List, ◌++◌, codes, ap, ap₂}
use Rattle.hyd_io.proofs.PutLemmas.{puts_then, puts_cut_off, puts_same}
use Rattle.hyd_spec_witnesses.specs.WitnessText.{value_lines, stock_lines}
use Rattle.hyd_witness_texts.proofs.writer.put_outflows_and_stocks.Goals as goal

pub returns-in_err-put_values : goal.returns-in_err-put_values
returns-in_err-put_values g c =
    let p = err_from_is_err_and c.from_residual.result c.from_residual.ensures.1 in
    rw (p.1, p.2) (let m = c.args.moment.now in
    puts_same _ _ _ _ _ _ _ (ap (λ (vs : List ℤ). value_lines (codes "D") vs
    ++ (value_lines (codes "E") m.emitters.list ++ stock_lines m.levels.list m.volumes.list)) c.as_slice.ensures)
    (puts_cut_off _ _ c.in_err-put_values.field-0.0 _ _ _ _ c.in_err-put_values.ensures))

pub returns : goal.returns
returns g c =
    puts_same _ _ _ _ _ _ _ (ap₂ (λ a b. a ++ b) (ap (value_lines (codes "D")) c.as_slice.ensures)
    (ap₂ (λ a b. a ++ b) (ap (value_lines (codes "E")) c.as_slice-2.ensures)
    (ap₂ stock_lines c.as_slice-3.ensures c.as_slice-4.ensures)))
    (puts_then _ _ _ _ _ _ _ _ _ c.in_ok-put_values.ensures
    (puts_then _ _ _ _ _ _ _ _ _ c.in_ok-put_values-2.ensures c.put_stocks.ensures))

pub returns-in_err-put_values-2 : goal.returns-in_err-put_values-2
returns-in_err-put_values-2 g c =
    let p = err_from_is_err_and c.from_residual-in_err-put_values-2.result c.from_residual-in_err-put_values-2.ensures.1 in
    rw (p.1, p.2) (let m = c.args.moment.now in
    puts_same _ _ _ _ _ _ _ (ap₂ (λ a b. a ++ b) (ap (value_lines (codes "D")) c.as_slice.ensures)
    (ap (λ (vs : List ℤ). value_lines (codes "E") vs ++ stock_lines m.levels.list m.volumes.list)
    c.as_slice-2.ensures))
    (puts_then _ _ _ _ _ _ _ _ _ c.in_ok-put_values.ensures
    (puts_cut_off _ _ c.in_err-put_values-2.field-0.0 _ _ _ _ c.in_err-put_values-2.ensures)))
