use Rattle.std.proofs.Common.{◌∙◌, sym, subst}
use Rattle.std.specs.Prelude.{All}
use Rattle.std.proofs.lemmas.List.Elements.{All-set}
use Rattle.hyd_spec_witnesses.specs.WitnessText.{IsValue}
use Rattle.hyd_witness_texts.proofs.ListsOfValues.{value_stored}
use Rattle.hyd_witness_search.proofs.values.put_value.Goals as goal

pub returns-clause-values : goal.returns-clause-values
returns-clause-values c all =
    let value = c.within_witness.result in
    let fits = c.within_witness.ensures in
    subst (All IsValue) (sym (c.store.ensures ∙ value_stored _ _ value fits)) (All-set IsValue _ _ value fits all)
