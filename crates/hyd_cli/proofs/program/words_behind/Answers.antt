-- What is collected is what follows the first word.
use Rattle.std.proofs.Common.{◌≡◌, List, Result, Ok, Err, IfOk, Vec, refl, ap, map, string_bytes}
use Rattle.std.specs.Vec.Iter.{into_iter_items, into_iter_steps}
use Rattle.std.specs.Iterator.Adapters.{skip_source}
use Rattle.std.proofs.lemmas.Iterator.{YieldsList, items_from_collect}
use Rattle.std.proofs.lemmas.Iterator.Adapters.{YieldsList-from_skip, YieldsList-from_vec}
use Rattle.hyd_cli.proofs.program.words_behind.Goals as goal

-- a list of f of all items, where these are known
mapped : {X Y Z E : Type 0} (f : X → Y) (r : Result (Vec X Z) E) (items : List X) → IfOk r (λ found. found.items ≡
    items) → IfOk r (λ found. map f found.items ≡ map f items)
mapped f (Ok found) items e = ap (map f) e
mapped f (Err fault) items e = tt

pub returns-in-Ok-clause-words : goal.returns-in-Ok-clause-words
returns-in-Ok-clause-words c =
    let items = into_iter_items c.in-Ok.args in
    let given : YieldsList into_iter_steps (λ y. y) c.in-Ok.args items = YieldsList-from_vec items refl
    c.in-Ok.args.rest.ok.0 in
    let source : YieldsList into_iter_steps (λ y. y) (skip_source c.skip.result) items = rw c.skip.ensures.source
    given in
    let all = items_from_collect _ c.collect.ensures.ran (YieldsList-from_skip {s = c.skip.result} 1 source
    c.skip.ensures.count) in
    rw c.in-Ok.is (mapped string_bytes c.collect.result _ all)
