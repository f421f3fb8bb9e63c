-- What the best offers change is what the rules change.
use Rattle.std.proofs.Common.{◌≡◌, ℕ, suc, ◌+◌, ◌-◌, ◌<◌, ◌≤◌, Bool, List, [], ◌∷◌, ◌++◌, length, take, drop, Option}
use Rattle.std.proofs.Common.{refl, ap, sym, ◌∙◌, arith}
use Rattle.std.specs.Option.{option_map_or, option_and_then}
use Rattle.std.proofs.lemmas.List.{take-append-le}
use Rattle.std.proofs.Math.Seq.{take-length}
use Rattle.hyd_spec.specs.ProgramTypes.{Project, LinkState}
use Rattle.hyd_spec.specs.declared.Change.{Change}
use Rattle.hyd_spec.specs.Lists.{map_from, present}
use Rattle.hyd_spec.specs.Rules.{Offer, change_by, change_of, offers_from, acted, rule_changes}
use Rattle.hyd_controls_and_rules.specs.declared.actions_by_priority.Offer as program
use Rattle.hyd_controls_and_rules.specs.ActionsByPriority.{AreBest, change_at, state_at}

-- A table that was written as a whole.
pub whole_table : {X : Type 0} (new old : List X) (size : ℕ) → length new ≡ size
    → take size (new ++ drop (length new) old) ≡ new
whole_table {X} new old size e =
    let fits : size ≤ length new = omega (arith, e) in
    take-append-le size new (drop (length new) old) fits ∙ ap (λ n. take n new) (sym e) ∙ take-length new

same_from : {X Y : Type 0} (f g : ℕ → X → Y) (k : ℕ) (xs : List X) → ((i : ℕ) (x : X) → i < k + length xs
    → f i x ≡ g i x) → map_from f k xs ≡ map_from g k xs
same_from {X} {Y} f g k [] same = refl
same_from {X} {Y} f g k (x ∷ xs) same =
    ap (λ (y : Y). y ∷ map_from f (suc k) xs) (same k x (omega arith))
    ∙ ap (λ (ys : List Y). g k x ∷ ys) (same_from f g (suc k) xs (λ i y h. same i y (omega (arith, h))))

change_is : (project : Project) (values : List Bool) (count : ℕ) (best : List (Option program.Offer))
    → AreBest count (offers_from 0 project.rules.list values) best → (link : ℕ) (state : LinkState) → link < count
    → change_at best link state ≡ change_of project values link state
change_is project values count best are link state h = ap (λ (o : Option Offer). option_and_then
    (change_by state) o) (are.each link h)

pub changes_are : (project : Project) (values : List Bool) (count : ℕ) (best : List (Option program.Offer))
    (links : List LinkState)
    → AreBest count (offers_from 0 project.rules.list values) best → length links ≡ count
    → present (map_from (change_at best) 0 links) ≡ rule_changes project values links
changes_are project values count best links are e =
    ap present (same_from (change_at best) (change_of project values) 0 links
    (λ i state h. change_is project values count best are i state (omega (arith, h, e))))

pub states_are : (project : Project) (values : List Bool) (count : ℕ) (best : List (Option program.Offer))
    (links : List LinkState)
    → AreBest count (offers_from 0 project.rules.list values) best → length links ≡ count
    → map_from (state_at best) 0 links ≡ acted project values links
states_are project values count best links are e =
    same_from (state_at best) (λ link state. option_map_or (λ change. change.to)
    (change_of project values link state) state) 0 links
    (λ i state h. ap (λ (o : Option Change). option_map_or (λ change. change.to) o state)
    (change_is project values count best are i state (omega (arith, h, e))))

-- The room that is left: `held` rows were there.
pub spare_is : (before after : List Change) (places spare held table most : ℕ) → length before ≡ held
    → places - length before ≡ spare → table ≡ places
    → length before ≤ places → length after ≤ length before + most → most ≤ spare
    → spare + held ≡ (table - length after) + length after
spare_is before after places spare held table most are left same fits few room = omega
    (arith, are, left, same, fits, few, room)
