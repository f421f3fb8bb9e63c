use Rattle.std.proofs.Common.{◌∙◌, ◌-◌, ◌&&◌, Some, None, arith, sym, ap}
use Rattle.std.proofs.lemmas.Str.Pattern.{split_parts}
use Rattle.hyd_command_words.specs.NamesOfLinks.{names_between_commas, are_names}
use Rattle.hyd_command_words.proofs.NamesBetweenCommas.{not_none, text_may, one_text_may}
use Rattle.hyd_command_words.proofs.names_of_links.+are_names.Goals as goal

pub returns-then-most-eq0 : goal.returns-then-most-eq0
returns-then-most-eq0 t c =
    not_none c.args.ids.now ∙ ap (λ n. are_names n (names_between_commas c.args.ids.now)) (sym c.if-most-eq0.true)

pub returns-then-may_precede : goal.returns-then-may_precede
returns-then-may_precede t c =
    let parts = split_parts 44 c.args.ids.now (Some (c.in-Some.name, c.in-Some.later)) c.in-Some.ensures.cases
    (omega arith) in
    c.are_names.ensures
    ∙ (λ i. sym (sym c.may_precede.ensures ∙ c.if-may_precede.true) i && are_names (c.args.most - 1)
    (names_between_commas c.in-Some.later.now))
    ∙ text_may c.args.most c.args.ids.now c.in-Some.name.now c.in-Some.later.now parts.0 parts.1 c.if-most-eq0.false

pub returns-else-may_precede : goal.returns-else-may_precede
returns-else-may_precede t c =
    let parts = split_parts 44 c.args.ids.now (Some (c.in-Some.name, c.in-Some.later)) c.in-Some.ensures.cases
    (omega arith) in
    c.if-may_precede.false
    ∙ (λ i. sym (sym c.may_precede.ensures ∙ c.if-may_precede.false) i && are_names (c.args.most - 1)
    (names_between_commas c.in-Some.later.now))
    ∙ text_may c.args.most c.args.ids.now c.in-Some.name.now c.in-Some.later.now parts.0 parts.1 c.if-most-eq0.false

pub returns-in-None : goal.returns-in-None
returns-in-None t c =
    let alone = split_parts 44 c.args.ids.now None c.in-None.ensures.cases (omega arith) in
    c.has_length_of_id.ensures ∙ one_text_may c.args.most c.args.ids.now alone c.if-most-eq0.false
