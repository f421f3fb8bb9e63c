use Rattle.std.proofs.Common.{◌≤◌, ◌+◌, length, arith, sym, subst}
use Rattle.hyd_command_words.specs.CommandView.{names_seen}
use Rattle.hyd_link_names.proofs.LinksOfNames.{Found, found_all, found_more, refused_at, may_be_named, past_end}
use Rattle.hyd_link_names.proofs.lookup.find_links.Goals as goal

pub returns-in_default-clause-may : goal.returns-in_default-clause-may
returns-in_default-clause-may c = λ some.
    let names = names_seen c.args.names.now in
    let found = c.loop-place.invariant in
    let done : length names ≤ c.loop-place.place =
    past_end names c.loop-place.place c.name.result c.in_default.is c.name.ensures in
    may_be_named c.args.project.now names c.loop-place.links
    (found_all c.args.project.now names c.loop-place.place c.loop-place.links found done) found.join
    c.args.names.now.few c.args.names.now.distinct some

pub returns-clause-may : goal.returns-clause-may
returns-clause-may c = λ some.
    let names = names_seen c.args.names.now in
    let found = c.loop-place.invariant in
    let few : length names ≤ 16 = c.args.names.now.few in
    let done : length names ≤ c.loop-place.place = omega (arith, few) in
    may_be_named c.args.project.now names c.loop-place.links
    (found_all c.args.project.now names c.loop-place.place c.loop-place.links found done) found.join few
    c.args.names.now.distinct some

pub returns-in-Err-clause-refused : goal.returns-in-Err-clause-refused
returns-in-Err-clause-refused c =
    refused_at c.args.project.now (names_seen c.args.names.now) c.loop-place.place c.loop-place.links
    c.in-Some.name.now c.in-Err.cause c.loop-place.invariant (sym c.in-Some.ensures) c.in-Err.ensures.refused

pub loop-place-preserved : goal.loop-place-preserved
loop-place-preserved c =
    subst (Found c.args.project.now (names_seen c.args.names.now) (c.loop-place.place + 1)) (sym c.push.ensures)
    (found_more c.args.project.now (names_seen c.args.names.now) c.loop-place.place c.loop-place.links
    c.in-Some.name.now c.in-Ok.link c.loop-place.invariant (sym c.in-Some.ensures) c.in-Ok.ensures.named
    c.in-Ok.ensures.joins)
