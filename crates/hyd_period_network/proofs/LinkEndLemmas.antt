-- Link ends at a node: they are few, and what they name is there.
use Rattle.std.proofs.Common.{ℕ, zero, suc, ◌+◌, ◌*◌, ◌≤◌, Bool, true, false, List, [], ◌∷◌, length, ◌==◌, arith}
use Rattle.std.proofs.Math.ListN.{length-append}
use Rattle.std.proofs.lemmas.List.Elements.{All-append, All-nil}
use Rattle.std.specs.List.{All}
use Rattle.hyd_period_network.specs.declared.junctions_ends_and_settings.Ends.{Ends}
use Rattle.hyd_period_network.specs.declared.junctions_ends_and_settings.Tie.{Tie}
use Rattle.hyd_period_network.specs.LinkEnds.{tie_if, ties_from, HasEnds, IsTie}

at_most_one : (b : Bool) (t : Tie) → length (tie_if b t) ≤ 1
at_most_one true t = omega arith
at_most_one false t = omega arith

pub few : (node k : ℕ) (links : List Ends) → length (ties_from node k links) ≤ 2 * length links
few node k [] = omega arith
few node k (x ∷ links) =
    let first : Tie = record { link = k; other = x.to; out = true } in
    let second : Tie = record { link = k; other = x.from; out = false } in
    simp (length-append) (omega (
      arith,
      at_most_one (x.from == node) first,
      at_most_one (x.to == node) second,
      few node (suc k) links,
    ))

one : (P : Tie → Type 0) (t : Tie) → P t → All P (t ∷ [])
one P t p zero d h = p
one P t p (suc k) d h = absurd (omega arith)

all_of : (P : Tie → Type 0) (b : Bool) (t : Tie) → P t → All P (tie_if b t)
all_of P true t p = one P t p
all_of P false t p = All-nil P

pub are_ties : (nodes count node k : ℕ) (links : List Ends) → k + length links ≤ count → All (HasEnds nodes) links
    → All (IsTie nodes count) (ties_from node k links)
are_ties nodes count node k [] le ends = All-nil (IsTie nodes count)
are_ties nodes count node k (x ∷ links) le ends =
    let first : Tie = record { link = k; other = x.to; out = true } in
    let second : Tie = record { link = k; other = x.from; out = false } in
    let here : HasEnds nodes x = ends 0 x (omega arith) in
    All-append (IsTie nodes count) _ _
    (All-append (IsTie nodes count) _ _
    (all_of (IsTie nodes count) (x.from == node) first (record { link = omega arith; other = here.to }))
    (all_of (IsTie nodes count) (x.to == node) second (record { link = omega arith; other = here.from })))
    (are_ties nodes count node (suc k) links (omega arith) (λ i d h. ends (suc i) d (omega arith)))
