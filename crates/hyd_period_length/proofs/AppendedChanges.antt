-- Lists of changes to which the rows of a list are appended, or none.
use Rattle.std.proofs.Common.{◌≡◌, ◌≢◌, ◌+◌, ◌<◌, ◌≤◌, List, [], ◌∷◌, ◌++◌, length, refl, ap, ◌∙◌, arith, length-append}
use Rattle.std.proofs.lemmas.List.{append-nil}
use Rattle.hyd_net.specs.ListView.{ListView}
use Rattle.hyd_spec.specs.declared.Change.{Change}

-- ---- rows that were appended

long : {X : Type 0} (before after rows : List X) → after ≡ before ++ rows → length after ≡ length before + length rows
long {X} before after rows e = ap length e ∙ length-append before rows

pub none_added : {X : Type 0} (before after rows : List X) → after ≡ before ++ rows → length after ≤ length before
    → rows ≡ []
none_added {X} before after [] e few = refl
none_added {X} before after (x ∷ rows) e few =
    let l = long before after (x ∷ rows) e in absurd (omega (arith, l, few))

pub some_added : {X : Type 0} (before after rows : List X) → after ≡ before ++ rows → length before < length after
    → rows ≢ []
some_added {X} before after rows e more none =
    let l = long before after rows e in
    let z : length rows ≡ 0 = ap length none in
    omega (arith, l, z, more)

-- a list that nothing is appended to keeps its room too
pub view_stays : (before after : ListView Change) (rows : List Change) → after.list ≡ before.list ++ rows
    → before.spare + length before.list ≡ after.spare + length after.list → length after.list ≤ length before.list
    → after ≡ before
view_stays before after rows e room few =
    let none : rows ≡ [] = none_added before.list after.list rows e few in
    let same : after.list ≡ before.list =
    e ∙ ap (λ (more : List Change). before.list ++ more) none ∙ append-nil before.list in
    let size : length after.list ≡ length before.list = ap length same in
    let spare : after.spare ≡ before.spare = omega (arith, size, room) in
    λ i. record { list = same i; spare = spare i }
