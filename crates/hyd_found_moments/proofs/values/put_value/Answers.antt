use Rattle.std.proofs.Common.{◌∙◌, sym, subst, arith}
use Rattle.std.proofs.lemmas.List.{length-set}
use Rattle.std.proofs.lemmas.List.Elements.{All-set}
use Rattle.hyd_spec_witnesses.specs.WitnessText.{AreValues, IsValue}
use Rattle.hyd_witness_texts.proofs.ListsOfValues.{value_stored}
use Rattle.hyd_found_moments.proofs.values.put_value.Goals as goal

pub returns : goal.returns
returns c = λ count are.
    let value = c.within_witness.result in
    let fits = c.within_witness.ensures in
    subst (AreValues count) (sym (c.store.ensures ∙ value_stored _ _ value fits)) (record {
      one_each = (let a = length-set c.args.values.now c.args.place value in let b = are.one_each in omega (arith, a, b));
      in_range = All-set IsValue _ _ value fits are.in_range;
    })
