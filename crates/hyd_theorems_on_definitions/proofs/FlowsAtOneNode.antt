-- Flows of an assignment against those of a vector, at one node of a network.
use Rattle.std.proofs.Common.{◌≡◌, ℕ, ◌+◌, ◌*◌, ◌<◌, ℤ, pos, ◌+ℤ◌, ◌-ℤ◌, ◌*ℤ◌, ◌≤ℤ◌, refl, sym, subst, arith, List, []}
use Rattle.std.proofs.Common.{◌∷◌, Bool, true, false, ◌==◌}
use Rattle.std.specs.List.{AllByRecursion}
use Rattle.std.proofs.lemmas.Int.{ints}
use Rattle.std.proofs.lemmas.Bool.{eqb-true, eq-eqb}
use Rattle.hyd_num.proofs.Integers.{times_plus, times_minus}
use Rattle.hyd_spec.specs.ProgramTypes.{Project, Link, LinkState}
use Rattle.hyd_spec.specs.declared.TankState.{TankState}
use Rattle.hyd_spec.specs.Law.{Law, Follows}
use Rattle.hyd_spec.specs.LinkLaw.{law_of}
use Rattle.hyd_spec_certificates.specs.EnclosingFunctions.{low, high}
use Rattle.hyd_spec.specs.Assignment.{head_at, where_so, net_outflow, LinksFollow, more}
use Rattle.hyd_spec_certificates.specs.PeriodNetwork.{GridLink, grid_links}
use Rattle.hyd_spec_certificates.specs.NetOutflow.{net, one_if, link_ends}
use Rattle.hyd_theorems_on_definitions.specs.SoundLawsAndGrids.{IsSoundLaw}
use Rattle.hyd_theorems_on_definitions.proofs.EachLaw.{IsLaw-each}
use Rattle.hyd_theorems_on_definitions.proofs.HeadsOfAllNodes.{excess, lack}

-- a flow is at least the low flow at a lesser difference, less the tolerance
pub flow-below : (law : Law) (S : ℕ) (d x q : ℤ) → IsSoundLaw law → 0 < S → (pos S *ℤ d) ≤ℤ x → Follows law S x q
    → (pos S *ℤ low law d) ≤ℤ (q +ℤ pos (S * 10))
flow-below law S d x q sound some le follows =
    (IsLaw-each law sound).consistent S x (pos S *ℤ low law d) (q +ℤ pos (S * 10)) some
    ((IsLaw-each law sound).encloses_below S d x some le) follows.at_most

-- and at most the high flow at a greater one, and the tolerance
pub flow-above : (law : Law) (S : ℕ) (d x q : ℤ) → IsSoundLaw law → 0 < S → x ≤ℤ (pos S *ℤ d) → Follows law S x q
    → (q -ℤ pos (S * 10)) ≤ℤ (pos S *ℤ high law d)
flow-above law S d x q sound some le follows =
    (IsLaw-each law sound).consistent S x (q -ℤ pos (S * 10)) (pos S *ℤ high law d) some
    follows.at_least ((IsLaw-each law sound).encloses_above S d x some le)

share-low : (b : Bool) (S : ℕ) (l q : ℤ) → (b ≡ true → (pos S *ℤ l) ≤ℤ (q +ℤ pos (S * 10)))
    → (pos S *ℤ where_so b l) ≤ℤ (where_so b q +ℤ pos (one_if b * (S * 10)))
share-low true S l q h = let r = h refl in omega (arith, ints, r)
share-low false S l q h = omega (arith, ints)

share-high : (b : Bool) (S : ℕ) (l q : ℤ) → (b ≡ true → (q -ℤ pos (S * 10)) ≤ℤ (pos S *ℤ l))
    → where_so b q ≤ℤ ((pos S *ℤ where_so b l) +ℤ pos (one_if b * (S * 10)))
share-high true S l q h = let r = h refl in omega (arith, ints, r)
share-high false S l q h = omega (arith, ints)

-- no node's head lies further above the vector's
abbrev pub IsPeak : ℕ → List ℤ → List ℤ → ℕ → Type 0
IsPeak S heads u i = (m : ℕ) → excess S heads u m ≤ℤ excess S heads u i

abbrev pub IsDip : ℕ → List ℤ → List ℤ → ℕ → Type 0
IsDip S heads u i = (m : ℕ) → lack S heads u m ≤ℤ lack S heads u i

at_node : (P : ℕ → Type 0) (m i : ℕ) → (m == i) ≡ true → P m → P i
at_node P m i e = subst P (eqb-true m i e)

link-upper : (S : ℕ) (heads u : List ℤ) (i : ℕ) (link : GridLink) (q : ℤ) → 0 < S → IsSoundLaw link.law
    → IsPeak S heads u i
    → Follows link.law S (head_at heads link.from -ℤ head_at heads link.to) q
    → (pos S *ℤ (where_so (link.from == i) (low link.law (head_at u i -ℤ head_at u link.to))
    -ℤ where_so (link.to == i) (high link.law (head_at u link.from -ℤ head_at u i))))
    ≤ℤ ((where_so (link.from == i) q -ℤ where_so (link.to == i) q)
    +ℤ pos ((one_if (link.from == i) + one_if (link.to == i)) * (S * 10)))
link-upper S heads u i link q some sound peak follows =
    let a = share-low (link.from == i) S (low link.law (head_at u i -ℤ head_at u link.to)) q
    (λ e. at_node (λ m. (pos S *ℤ low link.law (head_at u m -ℤ head_at u link.to)) ≤ℤ (q +ℤ pos (S * 10))) link.from i e
    (flow-below link.law S (head_at u link.from -ℤ head_at u link.to) (head_at heads link.from
    -ℤ head_at heads link.to) q sound some
    (let p = at_node (λ m. excess S heads u link.to ≤ℤ excess S heads u m) i link.from (sym_test link.from i e)
    (peak link.to) in
    omega (arith, ints, p, times_minus S (head_at u link.from) (head_at u link.to))) follows)) in
    let b = share-high (link.to == i) S (high link.law (head_at u link.from -ℤ head_at u i)) q
    (λ e. at_node (λ m. (q -ℤ pos (S * 10)) ≤ℤ (pos S *ℤ high link.law (head_at u link.from -ℤ head_at u m))) link.to
    i e
    (flow-above link.law S (head_at u link.from -ℤ head_at u link.to) (head_at heads link.from
    -ℤ head_at heads link.to) q sound some
    (let p = at_node (λ m. excess S heads u link.from ≤ℤ excess S heads u m) i link.to (sym_test link.to i e)
    (peak link.from) in
    omega (arith, ints, p, times_minus S (head_at u link.from) (head_at u link.to))) follows)) in
    omega (
      arith,
      ints,
      a,
      b,
      times_minus S (where_so (link.from == i)
          (low link.law (head_at u i -ℤ head_at u link.to))) (where_so (link.to == i)
          (high link.law (head_at u link.from -ℤ head_at u i))),
    )
  where
    sym_test : (m n : ℕ) → (m == n) ≡ true → (n == m) ≡ true
    sym_test m n e = eq-eqb n m (sym (eqb-true m n e))

link-lower : (S : ℕ) (heads u : List ℤ) (i : ℕ) (link : GridLink) (q : ℤ) → 0 < S → IsSoundLaw link.law
    → IsDip S heads u i
    → Follows link.law S (head_at heads link.from -ℤ head_at heads link.to) q
    → (where_so (link.from == i) q -ℤ where_so (link.to == i) q)
    ≤ℤ ((pos S *ℤ (where_so (link.from == i) (high link.law (head_at u i -ℤ head_at u link.to))
    -ℤ where_so (link.to == i) (low link.law (head_at u link.from -ℤ head_at u i))))
    +ℤ pos ((one_if (link.from == i) + one_if (link.to == i)) * (S * 10)))
link-lower S heads u i link q some sound dip follows =
    let a = share-high (link.from == i) S (high link.law (head_at u i -ℤ head_at u link.to)) q
    (λ e. at_node (λ m. (q -ℤ pos (S * 10)) ≤ℤ (pos S *ℤ high link.law (head_at u m -ℤ head_at u link.to))) link.from
    i e
    (flow-above link.law S (head_at u link.from -ℤ head_at u link.to) (head_at heads link.from
    -ℤ head_at heads link.to) q sound some
    (let p = at_node (λ m. lack S heads u link.to ≤ℤ lack S heads u m) i link.from (sym_test link.from i e)
    (dip link.to) in
    omega (arith, ints, p, times_minus S (head_at u link.from) (head_at u link.to))) follows)) in
    let b = share-low (link.to == i) S (low link.law (head_at u link.from -ℤ head_at u i)) q
    (λ e. at_node (λ m. (pos S *ℤ low link.law (head_at u link.from -ℤ head_at u m)) ≤ℤ (q +ℤ pos (S * 10))) link.to i e
    (flow-below link.law S (head_at u link.from -ℤ head_at u link.to) (head_at heads link.from
    -ℤ head_at heads link.to) q sound some
    (let p = at_node (λ m. lack S heads u link.from ≤ℤ lack S heads u m) i link.to (sym_test link.to i e)
    (dip link.from) in
    omega (arith, ints, p, times_minus S (head_at u link.from) (head_at u link.to))) follows)) in
    omega (
      arith,
      ints,
      a,
      b,
      times_minus S (where_so (link.from == i)
          (high link.law (head_at u i -ℤ head_at u link.to))) (where_so (link.to == i)
          (low link.law (head_at u link.from -ℤ head_at u i))),
    )
  where
    sym_test : (m n : ℕ) → (m == n) ≡ true → (n == m) ≡ true
    sym_test m n e = eq-eqb n m (sym (eqb-true m n e))

-- over all links
pub sum-upper : (project : Project) (tanks : List TankState) (S : ℕ) (heads u : List ℤ) (i : ℕ) → 0 < S
    → IsPeak S heads u i
    → (links : List Link) (states : List LinkState) (flows : List ℤ)
    → LinksFollow project tanks S heads links states flows
    → AllByRecursion (λ (link : GridLink). IsSoundLaw link.law) (grid_links project tanks links states)
    → (pos S *ℤ net low high u i (grid_links project tanks links states))
    ≤ℤ (net_outflow i links flows +ℤ pos (link_ends i (grid_links project tanks links states) * (S * 10)))
sum-upper project tanks S heads u i some peak [] [] [] f sound = omega (arith, ints)
sum-upper project tanks S heads u i some peak [] [] (q ∷ flows) f sound = elim f [ ]
sum-upper project tanks S heads u i some peak [] (state ∷ states) flows f sound = elim f [ ]
sum-upper project tanks S heads u i some peak (link ∷ links) [] flows f sound = elim f [ ]
sum-upper project tanks S heads u i some peak (link ∷ links) (state ∷ states) [] f sound = elim f [ ]
sum-upper project tanks S heads u i some peak (link ∷ links) (state ∷ states) (q ∷ flows) (more follows rest) sound =
    let a = link-upper S heads u i (record {
      from = link.from;
      to = link.to;
      law = law_of project tanks link state;
    }) q some sound.0 peak follows in
    let b = sum-upper project tanks S heads u i some peak links states flows rest sound.1 in
    rw times_plus (omega (arith, ints, a, b))

pub sum-lower : (project : Project) (tanks : List TankState) (S : ℕ) (heads u : List ℤ) (i : ℕ) → 0 < S
    → IsDip S heads u i
    → (links : List Link) (states : List LinkState) (flows : List ℤ)
    → LinksFollow project tanks S heads links states flows
    → AllByRecursion (λ (link : GridLink). IsSoundLaw link.law) (grid_links project tanks links states)
    → net_outflow i links flows
    ≤ℤ ((pos S *ℤ net high low u i (grid_links project tanks links states))
    +ℤ pos (link_ends i (grid_links project tanks links states) * (S * 10)))
sum-lower project tanks S heads u i some dip [] [] [] f sound = omega (arith, ints)
sum-lower project tanks S heads u i some dip [] [] (q ∷ flows) f sound = elim f [ ]
sum-lower project tanks S heads u i some dip [] (state ∷ states) flows f sound = elim f [ ]
sum-lower project tanks S heads u i some dip (link ∷ links) [] flows f sound = elim f [ ]
sum-lower project tanks S heads u i some dip (link ∷ links) (state ∷ states) [] f sound = elim f [ ]
sum-lower project tanks S heads u i some dip (link ∷ links) (state ∷ states) (q ∷ flows) (more follows rest) sound =
    let a = link-lower S heads u i (record {
      from = link.from;
      to = link.to;
      law = law_of project tanks link state;
    }) q some sound.0 dip follows in
    let b = sum-lower project tanks S heads u i some dip links states flows rest sound.1 in
    rw times_plus (omega (arith, ints, a, b))
