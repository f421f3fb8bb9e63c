use Rattle.std.proofs.Common.{◌≡◌, ◌∙◌, ◌-◌, ◌||◌, Some, None, arith, rules, sym, bytes_eq}
use Rattle.std.proofs.lemmas.Str.Pattern.{split_parts}
use Rattle.hyd_command_words.specs.NamesOfLinks.{names_between_commas}
use Rattle.hyd_command_words.proofs.NamesBetweenCommas.{stands_in_first, stands_in_text, stands_alone}
use Rattle.hyd_command_words.proofs.names_of_links.+stands_among.Goals as goal

pub returns-then-eq : goal.returns-then-eq
returns-then-eq t c =
    let parts = split_parts 44 c.args.ids.now (Some (c.in-Some.first, c.in-Some.later)) c.in-Some.ensures.cases
    (omega arith) in
    let is : c.eq.result ≡ bytes_eq c.args.name.now c.in-Some.first.now = search rules in
    c.if-eq.true
    ∙ (λ i. sym (sym is ∙ c.if-eq.true) i || stands_in_first (c.args.many - 1) c.args.name.now (names_between_commas
    c.in-Some.later.now))
    ∙ stands_in_text c.args.many c.args.name.now c.args.ids.now c.in-Some.first.now c.in-Some.later.now parts.0 parts.1
    c.if-many-eq0.false

pub returns-else-eq : goal.returns-else-eq
returns-else-eq t c =
    let parts = split_parts 44 c.args.ids.now (Some (c.in-Some.first, c.in-Some.later)) c.in-Some.ensures.cases
    (omega arith) in
    let is : c.eq.result ≡ bytes_eq c.args.name.now c.in-Some.first.now = search rules in
    c.stands_among.ensures
    ∙ (λ i. sym (sym is ∙ c.if-eq.false) i || stands_in_first (c.args.many - 1) c.args.name.now (names_between_commas
    c.in-Some.later.now))
    ∙ stands_in_text c.args.many c.args.name.now c.args.ids.now c.in-Some.first.now c.in-Some.later.now parts.0 parts.1
    c.if-many-eq0.false

pub returns-in-None : goal.returns-in-None
returns-in-None t c =
    let alone = split_parts 44 c.args.ids.now None c.in-None.ensures.cases (omega arith) in
    let is : c.eq-in-None.result ≡ bytes_eq c.args.name.now c.args.ids.now = search rules in
    is ∙ stands_alone c.args.many c.args.name.now c.args.ids.now alone c.if-many-eq0.false
