-- The net outflow of a node is the sum over the link ends there, and bounded by the flows.
use Rattle.std.proofs.Common.{◌≡◌, ℕ, suc, ◌+◌, ◌*◌, ◌<◌, ◌≤◌, ℤ, neg_ℤ, ◌+ℤ◌, ◌-ℤ◌, Bool, true, false}
use Rattle.std.proofs.Common.{List, [], ◌∷◌, ◌++◌, ◌==◌, length, unsigned_abs, subst, ap, ◌∙◌, refl, arith}
use Rattle.std.specs.Prelude.{map, take, slice_index_or}
use Rattle.std.proofs.lemmas.List.{take_more}
use Rattle.std.specs.List.{All}
use Rattle.std.proofs.lemmas.Int.{ints}
use Rattle.hyd_spec.specs.ProgramTypes.{Link}
use Rattle.hyd_spec.specs.Assignment.{flow_at, where_so, net_outflow}
use Rattle.hyd_period_network.specs.declared.junctions_ends_and_settings.Tie.{Tie}
use Rattle.hyd_period_network.specs.LinkEnds.{tie_if, ties_of, ties_from}
use Rattle.hyd_period_network.specs.NetsSetToPeriods.{ends_of}
use Rattle.hyd_met_flows.specs.TieFlows.{tie_flow, ties_flow}

pub joined : (flows : List ℤ) (xs ys : List Tie)
    → ties_flow flows (xs ++ ys) ≡ ties_flow flows xs +ℤ ties_flow flows ys
joined flows [] ys = omega (arith, ints)
joined flows (x ∷ xs) ys = omega (arith, ints, joined flows xs ys)

if_flow : (flows : List ℤ) (b : Bool) (tie : Tie) → ties_flow flows (tie_if b tie) ≡ where_so b (tie_flow flows tie)
if_flow flows true tie = omega (arith, ints)
if_flow flows false tie = refl

where_neg : (b : Bool) (q : ℤ) → where_so b (neg_ℤ q) ≡ neg_ℤ (where_so b q)
where_neg true q = refl
where_neg false q = refl

sum_from : (node k : ℕ) (all : List ℤ) (links : List Link) (flows : List ℤ) → length flows ≡ length links
    → ((j : ℕ) → flow_at all (k + j) ≡ flow_at flows j)
    → ties_flow all (ties_from node k (map ends_of links)) ≡ net_outflow node links flows
sum_from node k all [] flows e at = refl
sum_from node k all (x ∷ links) [] e at = absurd (omega (arith, e))
sum_from node k all (x ∷ links) (q ∷ flows) e at =
    let first : Tie = record { link = k; other = x.to; out = true } in
    let second : Tie = record { link = k; other = x.from; out = false } in
    let here : flow_at all k ≡ q = subst (λ (i : ℕ). flow_at all i ≡ q) (omega arith) (at 0) in
    let later : (j : ℕ) → flow_at all (suc k + j) ≡ flow_at flows j =
    λ j. subst (λ (i : ℕ). flow_at all i ≡ flow_at flows j) (omega arith) (at (suc j)) in
    let p = joined all (ties_of node k (ends_of x)) (ties_from node (suc k) (map ends_of links)) in
    let r = joined all (tie_if (x.from == node) first) (tie_if (x.to == node) second) in
    let a = if_flow all (x.from == node) first ∙ ap (where_so (x.from == node)) here in
    let b = if_flow all (x.to == node) second ∙ where_neg (x.to == node) (flow_at all k)
    ∙ ap (λ (z : ℤ). neg_ℤ (where_so (x.to == node) z)) here in
    let rest = sum_from node (suc k) all links flows (omega (arith, e)) later in
    omega (arith, ints, p, r, a, b, rest)

-- the sum over the link ends at a node
pub sum_over_ties : (node : ℕ) (links : List Link) (flows : List ℤ) → length flows ≡ length links
    → ties_flow flows (ties_from node 0 (map ends_of links)) ≡ net_outflow node links flows
sum_over_ties node links flows e = sum_from node 0 flows links flows e (λ j. ap (flow_at flows) (omega arith))

one_flow : (a b : Bool) (q : ℤ) (most : ℕ) → unsigned_abs q ≤ most
    → unsigned_abs (where_so a q -ℤ where_so b q) ≤ most
one_flow true true q most h = omega (arith, ints, h)
one_flow true false q most h = omega (arith, ints, h)
one_flow false true q most h = omega (arith, ints, h)
one_flow false false q most h = omega (arith, ints, h)

-- it is at most as many times a bound of the flows as there are links
pub bounded : (node : ℕ) (links : List Link) (flows : List ℤ) (most : ℕ) → All (λ q. unsigned_abs q ≤ most) flows
    → unsigned_abs (net_outflow node links flows) ≤ length links * most
bounded node [] flows most all = omega (arith, ints)
bounded node (x ∷ links) [] most all = omega (arith, ints)
bounded node (x ∷ links) (q ∷ flows) most all =
    let here = one_flow (x.from == node) (x.to == node) q most (all 0 q (omega arith)) in
    let rest = bounded node links flows most (λ i d h. all (suc i) d (omega (arith, h))) in
    omega (arith, ints, here, rest)

-- one link end more
pub one_tie_more : (flows : List ℤ) (ties : List Tie) (i : ℕ) (tie : Tie) → i < length ties
    → tie ≡ slice_index_or ties i tie
    → ties_flow flows (take (i + 1) ties) ≡ ties_flow flows (take i ties) +ℤ tie_flow flows tie
one_tie_more flows ties i tie lt is =
    let all = ap (ties_flow flows) (take_more ties i tie lt)
    ∙ joined flows (take i ties) (slice_index_or ties i tie ∷ []) in
    let same = ap (tie_flow flows) is in
    omega (arith, ints, all, same)
