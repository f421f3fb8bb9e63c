use Rattle.std.proofs.Common.{Some, None, arith}
use Rattle.std.proofs.lemmas.Str.Pattern.{split_parts}
use Rattle.hyd_command_words.proofs.NamesBetweenCommas.{name_first, name_later, name_alone, name_beyond}
use Rattle.hyd_command_words.proofs.names_of_links.+name_at.Goals as goal

pub returns-then-place-eq0 : goal.returns-then-place-eq0
returns-then-place-eq0 t c =
    let parts = split_parts 44 c.args.ids.now (Some (c.in-Some.name, c.in-Some.later)) c.in-Some.ensures.cases
    (omega arith) in
    name_first c.args.ids.now c.in-Some.name.now c.in-Some.later.now c.args.place parts.0 parts.1 c.if-place-eq0.true

pub returns-then-place-eq0-2 : goal.returns-then-place-eq0-2
returns-then-place-eq0-2 t c =
    let alone = split_parts 44 c.args.ids.now None c.in-None.ensures.cases (omega arith) in
    name_alone c.args.ids.now c.args.place alone c.if-place-eq0-2.true

pub returns-else-place-eq0 : goal.returns-else-place-eq0
returns-else-place-eq0 t c =
    let parts = split_parts 44 c.args.ids.now (Some (c.in-Some.name, c.in-Some.later)) c.in-Some.ensures.cases
    (omega arith) in
    name_later c.args.ids.now c.in-Some.name.now c.in-Some.later.now c.args.place _ parts.0 parts.1
    c.if-place-eq0.false c.name_at.ensures

pub returns-else-place-eq0-2 : goal.returns-else-place-eq0-2
returns-else-place-eq0-2 t c =
    let alone = split_parts 44 c.args.ids.now None c.in-None.ensures.cases (omega arith) in
    name_beyond c.args.ids.now c.args.place alone c.if-place-eq0-2.false
