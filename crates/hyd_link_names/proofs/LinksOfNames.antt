-- The links of names, name by name.
use Rattle.std.proofs.Common.{◌≡◌, ◌≢◌, ◌∙◌, ℕ, zero, suc, ◌+◌, ◌<◌, ◌≤◌, List, [], ◌∷◌, ◌++◌, length, take, All}
use Rattle.std.proofs.Common.{Option, Some, None, refl, sym, ap, subst, arith, get_or, slice_get, option_map, Bor}
use Rattle.std.specs.Prelude.{AllPairs, slice_index_or, IsTrue, nat_lt, ◌↔◌}
use Rattle.std.specs.List.{AllZip}
use Rattle.std.proofs.lemmas.List.Elements.{All-cons, All-head, All-tail, All-push}
use Rattle.std.proofs.lemmas.Option.{slice_get_within, slice_get-get_or}
use Rattle.std.proofs.lemmas.Bool.{ltb-true, lt-ltb}
use Rattle.hyd_lemmas.proofs.ListsOptionsAndResults.{same_item}
use Rattle.hyd_spec.specs.ProgramTypes.{Project, Link}
use Rattle.hyd_spec.specs.NodeNumbers.{junction_count}
use Rattle.hyd_spec_named_links.specs.NamedLinks.{IsLinkNamed, JoinsTwoJunctions, AreLinksOf, MayBeNamed}
use Rattle.hyd_spec_named_links.specs.RefusedNames.{IsGoodName, NameIsRefused, IsRefusedAt}
use Rattle.hyd_spec_named_links.specs.declared.NameFails.{NameFails}

-- ---- lists

zip_more : {X Y : Type 0} (R : X → Y → Type 0) (xs : List X) (ys : List Y) (i : ℕ) (x : X) (y : Y)
    → slice_get xs i ≡ Some x → AllZip R (take i xs) ys → R x y → AllZip R (take (suc i) xs) (ys ++ (y ∷ []))
zip_more R [] ys i x y at zip r = absurd (cc)
zip_more {X = X} R (x' ∷ xs) [] zero x y at zip r =
    (subst (λ (z : X). R z y) (sym (same_item X x' x at)) r, tt)
zip_more R (x' ∷ xs) (y' ∷ ys) zero x y at zip r = absurd zip
zip_more R (x' ∷ xs) [] (suc i) x y at zip r = absurd zip
zip_more R (x' ∷ xs) (y' ∷ ys) (suc i) x y at zip r = (zip.0, zip_more R xs ys i x y at zip.1 r)

zip_length : {X Y : Type 0} (R : X → Y → Type 0) (xs : List X) (ys : List Y) → AllZip R xs ys → length ys ≡ length xs
zip_length R [] [] zip = refl
zip_length R [] (y ∷ ys) zip = absurd zip
zip_length R (x ∷ xs) [] zip = absurd zip
zip_length R (x ∷ xs) (y ∷ ys) zip = let rest = zip_length R xs ys zip.1 in omega (arith, rest)

zip_at : {X Y : Type 0} (R : X → Y → Type 0) (xs : List X) (ys : List Y) (i : ℕ) (a : X) (b : Y) → AllZip R xs ys
    → i < length ys → R (slice_index_or xs i a) (slice_index_or ys i b)
zip_at R xs [] i a b zip within = absurd (omega (arith, within))
zip_at R [] (y ∷ ys) i a b zip within = absurd zip
zip_at R (x ∷ xs) (y ∷ ys) zero a b zip within = zip.0
zip_at R (x ∷ xs) (y ∷ ys) (suc i) a b zip within = zip_at R xs ys i a b zip.1 (omega (arith, within))

grown : {X : Type 0} (xs : List X) (x : X) → length (xs ++ (x ∷ [])) ≡ length xs + 1
grown [] x = refl
grown (y ∷ ys) x = let next = grown ys x in omega (arith, next)

pub take_all : {X : Type 0} (n : ℕ) (xs : List X) → length xs ≤ n → take n xs ≡ xs
take_all zero [] h = refl
take_all (suc n) [] h = refl
take_all zero (x ∷ xs) h = absurd (omega (arith, h))
take_all (suc n) (x ∷ xs) h = ap (λ r. x ∷ r) (take_all n xs (omega (arith, h)))

-- there is nothing from here on
pub ends_at : {X : Type 0} (xs : List X) (i : ℕ) → slice_get xs i ≡ None → length xs ≤ i
ends_at [] i none = omega arith
ends_at (x ∷ xs) zero none = absurd (cc)
ends_at (x ∷ xs) (suc i) none = let rest : length xs ≤ i = ends_at xs i none in omega (arith, rest)

-- what reading a name past the end says
pub past_end : (names : List (List ℕ)) (i : ℕ) (o : Option (Bor (List ℕ))) → o ≡ None
    → option_map (λ name. name.now) o ≡ slice_get names i → length names ≤ i
past_end names i o none read =
    ends_at names i (sym read ∙ ap (λ (p : Option (Bor (List ℕ))). option_map {U = List ℕ} (λ name. name.now) p) none)

-- ---- the links that were found so far

pub record Found (project : Project) (names : List (List ℕ)) (i : ℕ) (numbers : List ℕ) : Type 0 where
  pub within : i ≤ length names
  pub many : length numbers ≡ i
  pub are : AreLinksOf project (take i names) numbers
  pub join : All (JoinsTwoJunctions project) numbers

pub found_none : (project : Project) (names : List (List ℕ)) → Found project names 0 []
found_none project names = record {
  within = omega arith;
  many = refl;
  are = tt;
  join = λ k d inside. absurd (omega (arith, inside));
}

pub found_more : (project : Project) (names : List (List ℕ)) (i : ℕ) (numbers : List ℕ) (name : List ℕ) (number : ℕ)
    → Found project names i numbers → slice_get names i ≡ Some name → IsLinkNamed project name number
    → JoinsTwoJunctions project number → Found project names (i + 1) (numbers ++ (number ∷ []))
found_more project names i numbers name number found at is joins =
    let inside : i < length names = slice_get_within names i name at in
    let next : suc i ≡ i + 1 = omega arith in
    let zip : AreLinksOf project (take (suc i) names) (numbers ++ (number ∷ [])) =
    zip_more (IsLinkNamed project) names numbers i name number at found.are is in
    record {
      within = omega (arith, inside);
      many = grown numbers number ∙ ap (λ (n : ℕ). n + 1) found.many;
      are = subst (λ (k : ℕ). AreLinksOf project (take k names) (numbers ++ (number ∷ []))) next zip;
      join = All-push (JoinsTwoJunctions project) numbers number found.join joins;
    }

-- all of them
pub found_all : (project : Project) (names : List (List ℕ)) (i : ℕ) (numbers : List ℕ)
    → Found project names i numbers → length names ≤ i → AreLinksOf project names numbers
found_all project names i numbers found done =
    subst (λ (ns : List (List ℕ)). AreLinksOf project ns numbers) (take_all i names done) found.are

-- names whose links join two junctions are good
good_names : (project : Project) (names : List (List ℕ)) (numbers : List ℕ) → AreLinksOf project names numbers
    → All (JoinsTwoJunctions project) numbers → All (IsGoodName project) names
good_names project [] numbers zip join = λ k d inside. absurd (omega (arith, inside))
good_names project (name ∷ names) [] zip join = absurd zip
good_names project (name ∷ names) (number ∷ numbers) zip join =
    All-cons (IsGoodName project) name names
    (number, (zip.0, All-head (JoinsTwoJunctions project) number numbers join))
    (good_names project names numbers zip.1 (All-tail (JoinsTwoJunctions project) number numbers join))

pub refused_at : (project : Project) (names : List (List ℕ)) (i : ℕ) (numbers : List ℕ) (name : List ℕ)
    (cause : NameFails) → Found project names i numbers → slice_get names i ≡ Some name
    → NameIsRefused project name cause → IsRefusedAt project names (i + 1) cause
refused_at project names i numbers name cause found at is =
    let next : i + 1 ≡ suc i = omega arith in
    record {
      before = i;
      place_is = next;
      name = name;
      is_name = at;
      refused = is;
      first = good_names project (take i names) numbers found.are found.join;
    }

-- ---- whether they may be named

distinct_numbers : (project : Project) (names : List (List ℕ)) (numbers : List ℕ) → AreLinksOf project names numbers
    → AllPairs (λ (one later : List ℕ). one ≢ later) names → AllPairs (λ (one later : ℕ). one ≢ later) numbers
distinct_numbers project names numbers zip distinct i j d less within same =
    let many : length numbers ≡ length names = zip_length (IsLinkNamed project) names numbers zip in
    let first : IsLinkNamed project (slice_index_or names i []) (slice_index_or numbers i d) =
    zip_at (IsLinkNamed project) names numbers i [] d zip (omega (arith, less, within)) in
    let later : IsLinkNamed project (slice_index_or names j []) (slice_index_or numbers j d) =
    zip_at (IsLinkNamed project) names numbers j [] d zip within in
    distinct i j [] less (omega (arith, within, many)) (same_item (List ℕ) _ _ (sym first ∙ (ap (slice_get
    project.link_ids) same ∙ later)))

pub may_be_named : (project : Project) (names : List (List ℕ)) (numbers : List ℕ) → AreLinksOf project names numbers
    → All (JoinsTwoJunctions project) numbers → length names ≤ 16
    → AllPairs (λ (one later : List ℕ). one ≢ later) names → names ≢ [] → MayBeNamed project numbers
may_be_named project [] numbers zip join few distinct some = absurd (some refl)
may_be_named project (name ∷ names) numbers zip join few distinct some =
    let many : length numbers ≡ length (name ∷ names) = zip_length (IsLinkNamed project) (name ∷ names) numbers zip in
    record {
      some = omega (arith, many);
      at_most = omega (arith, many, few);
      distinct = distinct_numbers project (name ∷ names) numbers zip distinct;
      join = join;
    }

-- ---- one link

joins_if : (project : Project) (number : ℕ) (link : Link) → slice_get project.links.list number ≡ Some link
    → JoinsTwoJunctions project number → (link.from < junction_count project) × (link.to < junction_count project)
joins_if project number link at joins =
    subst (λ (l : Link). (l.from < junction_count project) × (l.to < junction_count project))
    (same_item Link joins.0 link (sym joins.1.0 ∙ at)) joins.1.1

there : (project : Project) (xs : List Link) (number : ℕ) (link : Link) → xs ≡ project.links.list
    → link ≡ get_or xs number link → number < length xs → slice_get project.links.list number ≡ Some link
there project xs number link all is inside =
    subst (λ (ls : List Link). slice_get ls number ≡ Some link) all
    (slice_get-get_or xs number link inside ∙ ap {B = Option Link} Some (sym is))

-- whether a link that is there joins two junctions: its first end is one
pub joins_by_second : (project : Project) (xs : List Link) (number : ℕ) (link : Link) (count : ℕ)
    → xs ≡ project.links.list → link ≡ get_or xs number link → number < length xs → count ≡ junction_count project
    → link.from < count → IsTrue (nat_lt link.to count) ↔ JoinsTwoJunctions project number
joins_by_second project xs number link count all is inside counted from =
    let at : slice_get project.links.list number ≡ Some link = there project xs number link all is inside in (
      λ t. let to : link.to < count = ltb-true link.to count t in
          (link, (at, (omega (arith, from, counted), omega (arith, to, counted)))),
      λ joins. let ends = joins_if project number link at joins in
          lt-ltb link.to count (omega (arith, ends.1, counted)),
    )

-- its first end is none
pub joins_not_by_first : (project : Project) (xs : List Link) (number : ℕ) (link : Link) (count : ℕ)
    → xs ≡ project.links.list → link ≡ get_or xs number link → number < length xs → count ≡ junction_count project
    → count ≤ link.from → IsTrue (nat_lt link.from count) ↔ JoinsTwoJunctions project number
joins_not_by_first project xs number link count all is inside counted far =
    let at : slice_get project.links.list number ≡ Some link = there project xs number link all is inside in (
      λ t. let near : link.from < count = ltb-true link.from count t in absurd (omega (arith, near, far)),
      λ joins. let ends = joins_if project number link at joins in absurd (omega (arith, ends.0, counted, far)),
    )
