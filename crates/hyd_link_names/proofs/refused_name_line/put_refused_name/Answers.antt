-- The words, the place and the line feed are the line.
use Rattle.std.proofs.lemmas.Result.{err_from_is_err_and}
use Rattle.std.proofs.Common.{◌≡◌, ℕ, ◌++◌, codes, decimal, refl}
use Rattle.std.specs.Fmt.{digits}
use Rattle.hyd_io.proofs.PutLemmas.{puts_then, puts_cut_off, puts_same, puts_ready}
use Rattle.hyd_spec_named_links.specs.declared.NameFails.{NameFails}
use Rattle.hyd_spec_named_links.specs.declared.NameFails.TheVariants.{NoLink, NotBetweenJunctions}
use Rattle.hyd_spec_named_links.specs.RefusedNames.{refused_name_line}
use Rattle.hyd_link_names.specs.WordsBeforePlace.{words_before_place}
use Rattle.hyd_link_names.proofs.refused_name_line.put_refused_name.Goals as goal

line_is : (place : ℕ) (cause : NameFails)
    → words_before_place cause ++ (decimal place ++ codes "\n") ≡ refused_name_line place cause
unfolding digits
line_is place NoLink = refl
line_is place NotBetweenJunctions = refl

pub put_place-requires : goal.put_place-requires
put_place-requires g c = puts_ready _ _ _ _ _ _ c.in_ok-put.ensures c.requires

pub returns-in_err-put : goal.returns-in_err-put
returns-in_err-put g c =
    let p = err_from_is_err_and c.from_residual.result c.from_residual.ensures.1 in
    rw (p.1, p.2) (puts_same _ _ _ _ _ _ _ (line_is c.args.place c.args.cause)
    (puts_cut_off _ _ c.in_err-put.field-0.0 _ _ _ _ (rw c.words_before_place.ensures at c.in_err-put.ensures)))

pub returns : goal.returns
returns g c = puts_same _ _ _ _ _ _ _ (line_is c.args.place c.args.cause)
    (puts_then _ _ _ _ _ _ _ _ _ (rw c.words_before_place.ensures at c.in_ok-put.ensures) c.put_place.ensures)
