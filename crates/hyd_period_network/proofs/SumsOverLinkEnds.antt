-- The sum over all links of what they take out of a node is the sum over the link ends there, and so is their number.
use Rattle.std.proofs.Common.{◌≡◌, ℕ, suc, ◌+◌, ℤ, neg_ℤ, ◌+ℤ◌, ◌-ℤ◌, Bool, true, false, List, [], ◌∷◌, ◌++◌, ◌==◌}
use Rattle.std.proofs.Common.{length, Some, slice_get, subst, ap, ◌∙◌, refl, arith}
use Rattle.std.proofs.Math.ListN.{length-append}
use Rattle.std.proofs.lemmas.Int.{ints}
use Rattle.hyd_spec.specs.Assignment.{head_at, where_so}
use Rattle.hyd_spec.specs.Law.{Law}
use Rattle.hyd_spec_certificates.specs.PeriodNetwork.{GridLink}
use Rattle.hyd_spec_certificates.specs.NetOutflow.{net, one_if, link_ends}
use Rattle.hyd_law.specs.declared.link_law_kinds.LinkLaw.{LinkLaw}
use Rattle.hyd_period_network.specs.declared.junctions_ends_and_settings.Ends.{Ends}
use Rattle.hyd_period_network.specs.declared.junctions_ends_and_settings.Setting.{Setting}
use Rattle.hyd_period_network.specs.declared.junctions_ends_and_settings.Tie.{Tie}
use Rattle.hyd_period_network.specs.NetView.{NetView}
use Rattle.hyd_period_network.specs.NetAsPeriodNetwork.{grid_of, link_of, links_of}
use Rattle.hyd_period_network.specs.LinkEnds.{tie_if, ties_of, ties_from, tie_share, ties_share}

pub joined : (out into : Law → ℤ → ℤ) (all : List GridLink) (heads : List ℤ) (here : ℤ) (xs ys : List Tie)
    → ties_share out into all heads here (xs ++ ys) ≡ ties_share out into all heads here xs +ℤ ties_share out into all
    heads here ys
joined out into all heads here [] ys = omega (arith, ints)
joined out into all heads here (x ∷ xs) ys = omega (arith, ints, joined out into all heads here xs ys)

if_share : (out into : Law → ℤ → ℤ) (all : List GridLink) (heads : List ℤ) (here : ℤ) (b : Bool) (tie : Tie)
    → ties_share out into all heads here (tie_if b tie) ≡ where_so b (tie_share out into all heads here tie)
if_share out into all heads here true tie = omega (arith, ints)
if_share out into all heads here false tie = refl

where_neg : (b : Bool) (q : ℤ) → where_so b (neg_ℤ q) ≡ neg_ℤ (where_so b q)
where_neg true q = refl
where_neg false q = refl

-- what a link's first end takes out, and its second
first_share : (out into : Law → ℤ → ℤ) (all : List GridLink) (heads : List ℤ) (node k : ℕ) (e : Ends) (s : Setting)
    (o : LinkLaw)
    → slice_get all k ≡ Some (link_of e s o)
    → where_so (e.from == node) (tie_share out into all heads (head_at heads node) (record {
      link = k;
      other = e.to;
      out = true;
    }))
    ≡ where_so (e.from == node) (out (link_of e s o).law (head_at heads node -ℤ head_at heads e.to))
first_share out into all heads node k e s o at = rw at refl

second_share : (out into : Law → ℤ → ℤ) (all : List GridLink) (heads : List ℤ) (node k : ℕ) (e : Ends) (s : Setting)
    (o : LinkLaw)
    → slice_get all k ≡ Some (link_of e s o)
    → where_so (e.to == node) (tie_share out into all heads (head_at heads node) (record {
      link = k;
      other = e.from;
      out = false;
    }))
    ≡ neg_ℤ (where_so (e.to == node) (into (link_of e s o).law (head_at heads e.from -ℤ head_at heads node)))
second_share out into all heads node k e s o at = rw at (where_neg (e.to == node) _)

sum_from : (out into : Law → ℤ → ℤ) (all : List GridLink) (heads : List ℤ) (node k : ℕ) (ends : List Ends)
    (settings : List Setting) (own : List LinkLaw)
    → ((j : ℕ) → slice_get all (k + j) ≡ slice_get (links_of ends settings own) j) → length settings ≡ length ends
    → length own ≡ length ends
    → ties_share out into all heads (head_at heads node) (ties_from node k ends) ≡ net out into heads node
    (links_of ends settings own)
sum_from out into all heads node k [] settings own at es eo = refl
sum_from out into all heads node k (e ∷ ends) [] own at es eo = absurd (omega arith)
sum_from out into all heads node k (e ∷ ends) (s ∷ settings) [] at es eo = absurd (omega arith)
sum_from out into all heads node k (e ∷ ends) (s ∷ settings) (o ∷ own) at es eo =
    let first : Tie = record { link = k; other = e.to; out = true } in
    let second : Tie = record { link = k; other = e.from; out = false } in
    let here_at : slice_get all k ≡ Some (link_of e s o) = subst (λ (i : ℕ). slice_get all i ≡ Some (link_of e s o))
    (omega arith) (at 0) in
    let later : (j : ℕ) → slice_get all (suc k + j) ≡ slice_get (links_of ends settings own) j =
    λ j. subst (λ (i : ℕ). slice_get all i ≡ slice_get (links_of ends settings own) j) (omega arith) (at (suc j)) in
    let p = joined out into all heads (head_at heads node) (ties_of node k e) (ties_from node (suc k) ends) in
    let q = joined out into all heads (head_at heads node) (tie_if (e.from == node) first)
    (tie_if (e.to == node) second) in
    let a = if_share out into all heads (head_at heads node) (e.from == node) first in
    let b = if_share out into all heads (head_at heads node) (e.to == node) second in
    let f = first_share out into all heads node k e s o here_at in
    let g = second_share out into all heads node k e s o here_at in
    let r = sum_from out into all heads node (suc k) ends settings own later (omega arith) (omega arith) in
    omega (arith, ints, p, q, a, b, f, g, r)

-- the sum over the link ends at a node is the net outflow of its links, by any two functions of a law
pub sum_over_ties : (out into : Law → ℤ → ℤ) (heads : List ℤ) (node : ℕ) (project : NetView)
    → length project.settings ≡ length project.ends → length project.own ≡ length project.ends
    → ties_share out into (grid_of project).links heads (head_at heads node) (ties_from node 0 project.ends)
    ≡ net out into heads node (grid_of project).links
sum_over_ties out into heads node project es eo =
    sum_from out into (grid_of project).links heads node 0 project.ends project.settings project.own
    (λ j. ap (slice_get (grid_of project).links) (omega arith)) es eo

-- ---- how many they are

ends_of_one : (node k : ℕ) (e : Ends) → length (ties_of node k e) ≡ one_if (e.from == node) + one_if (e.to == node)
ends_of_one node k e =
    let first : Tie = record { link = k; other = e.to; out = true } in
    let second : Tie = record { link = k; other = e.from; out = false } in
    length-append (tie_if (e.from == node) first) (tie_if (e.to == node) second) ∙ by_cases (e.from == node)
    (e.to == node) first second
  where
    by_cases : (a b : Bool) (s t : Tie) → length (tie_if a s) + length (tie_if b t) ≡ one_if a + one_if b
    by_cases true true s t = refl
    by_cases true false s t = refl
    by_cases false true s t = refl
    by_cases false false s t = refl

pub count_of_ties : (node k : ℕ) (ends : List Ends) (settings : List Setting) (own : List LinkLaw)
    → length settings ≡ length ends → length own ≡ length ends
    → length (ties_from node k ends) ≡ link_ends node (links_of ends settings own)
count_of_ties node k [] settings own es eo = refl
count_of_ties node k (e ∷ ends) [] own es eo = absurd (omega arith)
count_of_ties node k (e ∷ ends) (s ∷ settings) [] es eo = absurd (omega arith)
count_of_ties node k (e ∷ ends) (s ∷ settings) (o ∷ own) es eo =
    let here = ends_of_one node k e in
    let rest = count_of_ties node (suc k) ends settings own (omega arith) (omega arith) in
    let all = length-append (ties_of node k e) (ties_from node (suc k) ends) in
    omega (arith, here, rest, all)
