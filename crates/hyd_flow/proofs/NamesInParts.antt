-- The names of a part, as the program keeps it.
use Rattle.std.proofs.Common.{◌≡◌, ℕ, zero, suc, ◌<◌, List, [], ◌∷◌, length, All, take, map, get_or, slice_set, sym, ap}
use Rattle.std.proofs.Common.{ap₂, subst, ◌∙◌, arith, refl, ◌+◌, ◌++◌, inl, inr}
use Rattle.std.specs.Prelude.{Some, slice_get, slice_index_or, AllPairs, ◌≢◌}
use Rattle.std.proofs.lemmas.Bool.{cases_lt}
use Rattle.std.proofs.lemmas.Option.{slice_get_within}
use Rattle.std.proofs.lemmas.List.{take_more_set, take_more}
use Rattle.std.proofs.lemmas.List.Elements.{All-head, All-tail, All-push}
use Rattle.hyd_spec_certificates.specs.PeriodNetwork.{Grid}
use Rattle.hyd_spec_flows.specs.FlowParts.{NamedLink, FlowPart, JoinsJunctions, NamesAreGood, names_of}
use Rattle.hyd_cert.specs.FlowPartView.{named_of, links_in}
use Rattle.hyd_cert.specs.declared.named_vectors.NamedVectors.{NamedVectors}
use Rattle.hyd_cert.proofs.FlowTextLemmas.{links_push}
use Rattle.hyd_lemmas.proofs.ListsOptionsAndResults.{item_there, same_item}
use Rattle.hyd_flow.proofs.LinksOfNets.{link_in}

-- the numbers of links
abbrev pub numbers : List NamedVectors → List ℕ
numbers links = map (λ (one : NamedVectors). one.link) links

pub name_at : (links : List NamedVectors) (i : ℕ) (d : NamedVectors) → i < length links
    → slice_get (names_of (links_in links)) i ≡ Some (get_or links i d).link
name_at [] i d within = absurd (omega (arith, within))
name_at (x ∷ links) zero d within = refl
name_at (x ∷ links) (suc i) d within = name_at links i d (omega (arith, within))

-- a link put in the place of one with its number
pub numbers_set : (links : List NamedVectors) (i : ℕ) (x d : NamedVectors) → x.link ≡ (get_or links i d).link
    → i < length links → numbers (slice_set links i x) ≡ numbers links
numbers_set [] i x d same within = absurd (omega (arith, within))
numbers_set (y ∷ links) zero x d same within = ap (λ n. n ∷ numbers links) same
numbers_set (y ∷ links) (suc i) x d same within =
    ap (λ ns. y.link ∷ ns) (numbers_set links i x d same (omega (arith, within)))

-- the names of so many links
pub names_kept : (count : ℕ) (xs ys : List NamedVectors) → numbers xs ≡ numbers ys
    → names_of (links_in (take count xs)) ≡ names_of (links_in (take count ys))
names_kept zero xs ys same = refl
names_kept (suc count) [] [] same = refl
names_kept (suc count) [] (y ∷ ys) same = absurd (cc)
names_kept (suc count) (x ∷ xs) [] same = absurd (cc)
names_kept (suc count) (x ∷ xs) (y ∷ ys) same =
    let first : x.link ≡ y.link = cc in
    let rest : numbers xs ≡ numbers ys = cc in
    ap₂ (λ n ns. n ∷ ns) first (names_kept count xs ys rest)

-- each of them joins two junctions
pub joins_at : (grid : Grid) (count i : ℕ) (xs ys : List NamedVectors) (d : NamedVectors) → numbers xs ≡ numbers ys
    → All (λ (named : NamedLink). JoinsJunctions grid named.link) (links_in (take count ys)) → i < count
    → i < length xs → JoinsJunctions grid (get_or xs i d).link
joins_at grid zero i xs ys d same all low within = absurd (omega (arith, low))
joins_at grid (suc count) i [] ys d same all low within = absurd (omega (arith, within))
joins_at grid (suc count) i (x ∷ xs) [] d same all low within = absurd (cc)
joins_at grid (suc count) zero (x ∷ xs) (y ∷ ys) d same all low within =
    let first : x.link ≡ y.link = cc in
    subst (JoinsJunctions grid) (sym first)
    (All-head (λ (named : NamedLink). JoinsJunctions grid named.link) (named_of y) (links_in (take count ys)) all)
joins_at grid (suc count) (suc i) (x ∷ xs) (y ∷ ys) d same all low within =
    let rest : numbers xs ≡ numbers ys = cc in
    joins_at grid count i xs ys d rest
    (All-tail (λ (named : NamedLink). JoinsJunctions grid named.link) (named_of y) (links_in (take count ys)) all)
    (omega (arith, low)) (omega (arith, within))

pub names_count : (links : List NamedVectors) → length (names_of (links_in links)) ≡ length links
names_count [] = refl
names_count (x ∷ links) = let e = names_count links in omega (arith, e)

-- ---- what holds of each link of a part

pub link_at : (P : NamedLink → Type 0) (links : List NamedVectors) (i : ℕ) (d : NamedVectors) → i < length links
    → All P (links_in links) → P (named_of (get_or links i d))
link_at P [] i d within all = absurd (omega (arith, within))
link_at P (x ∷ links) zero d within all = All-head P (named_of x) (links_in links) all
link_at P (x ∷ links) (suc i) d within all =
    link_at P links i d (omega (arith, within)) (All-tail P (named_of x) (links_in links) all)

pub link_joins : (grid : Grid) (links : List NamedVectors) (i : ℕ) (x : NamedVectors) → i < length links
    → x ≡ get_or links i x → All (λ (named : NamedLink). JoinsJunctions grid named.link) (links_in links)
    → JoinsJunctions grid x.link
link_joins grid links i x within is all =
    subst (λ (y : NamedVectors). JoinsJunctions grid y.link) (sym is)
    (link_at (λ (named : NamedLink). JoinsJunctions grid named.link) links i x within all)

pub link_before : (P : NamedLink → Type 0) (links : List NamedVectors) (i before : ℕ) (other : NamedLink)
    → slice_get (links_in links) before ≡ Some other → before < i → All P (links_in (take i links)) → P other
link_before P [] i before other at less all =
    let none : before < 0 = slice_get_within [] before other at in absurd (omega (arith, none))
link_before P (x ∷ links) zero before other at less all = absurd (omega (arith, less))
link_before P (x ∷ links) (suc i) zero other at less all =
    subst P (same_item NamedLink (named_of x) other at) (All-head P (named_of x) (links_in (take i links)) all)
link_before P (x ∷ links) (suc i) (suc before) other at less all =
    link_before P links i before other at (omega (arith, less))
    (All-tail P (named_of x) (links_in (take i links)) all)

-- of one link more, which was put there
pub one_more_put : (P : NamedLink → Type 0) (i : ℕ) (links : List NamedVectors) (x : NamedVectors) → i < length links
    → All P (links_in (take i links)) → P (named_of x) → All P (links_in (take (i + 1) (slice_set links i x)))
one_more_put P i links x within all is =
    subst (All P) (sym (ap links_in (take_more_set links i x within) ∙ links_push (take i links) x))
    (All-push P (links_in (take i links)) (named_of x) all is)

-- of one link more, which stands there
pub links_then : (i : ℕ) (links : List NamedVectors) (x : NamedVectors) → i < length links → x ≡ get_or links i x
    → links_in (take (i + 1) links) ≡ links_in (take i links) ++ (named_of x ∷ [])
links_then i links x within is =
    ap links_in (take_more links i x within ∙ ap (λ y. take i links ++ (y ∷ [])) (sym is))
    ∙ links_push (take i links) x

pub one_more : (P : NamedLink → Type 0) (i : ℕ) (links : List NamedVectors) (x : NamedVectors) → i < length links
    → x ≡ get_or links i x → All P (links_in (take i links)) → P (named_of x) → All P (links_in (take (i + 1) links))
one_more P i links x within is all here =
    subst (All P) (sym (links_then i links x within is)) (All-push P (links_in (take i links)) (named_of x) all here)

-- ---- names that aren't refused

pub joins_decided : (grid : Grid) (number : ℕ) → ((JoinsJunctions grid number → ⊥) → ⊥) → JoinsJunctions grid number
joins_decided grid number not = elim (cases_lt number (length grid.links)) [
  | inl low ↦ (let at = item_there grid.links number low in
      elim (cases_lt at.0.from (length grid.junctions)) [
        | inl from ↦ elim (cases_lt at.0.to (length grid.junctions)) [
          | inl to ↦ (at.0, (at.1, (from, to)))
          | inr far ↦ absurd (not (λ joins. let same = same_item _ joins.0 at.0 (sym joins.1.0 ∙ at.1) in
              let near : at.0.to < length grid.junctions = subst (λ l. l.to < length grid.junctions) same
              joins.1.1.1 in omega (arith, near, far)))
        ]
        | inr far ↦ absurd (not (λ joins. let same = same_item _ joins.0 at.0 (sym joins.1.0 ∙ at.1) in
            let near : at.0.from < length grid.junctions = subst (λ l. l.from < length grid.junctions) same
            joins.1.1.0 in omega (arith, near, far)))
      ])
  | inr far ↦ absurd (not (λ joins. let near = link_in grid number joins in omega (arith, near, far)))
]

-- the name at a place of a part
pub name_of : (part : FlowPart) (k : ℕ) (d : NamedLink) → k < length part
    → slice_get (names_of part) k ≡ Some (slice_index_or part k d).link
name_of [] k d within = absurd (omega (arith, within))
name_of (x ∷ part) zero d within = refl
name_of (x ∷ part) (suc k) d within = name_of part k d (omega (arith, within))

pub all_join : (grid : Grid) (part : FlowPart) → NamesAreGood grid part
    → All (λ (named : NamedLink). JoinsJunctions grid named.link) part
all_join grid part good k d within =
    joins_decided grid (slice_index_or part k d).link (λ no. good k (slice_index_or part k d).link
    (name_of part k d within) (inl no))

pub all_distinct : (grid : Grid) (part : FlowPart) → NamesAreGood grid part
    → AllPairs (λ (one later : NamedLink). one.link ≢ later.link) part
all_distinct grid part good i j d less within same =
    good j (slice_index_or part j d).link (name_of part j d within)
    (inr (i, (less, name_of part i d (omega (arith, less, within)) ∙ ap Some same)))
