-- The last row that a test picks, and its place.
use Rattle.std.proofs.Common.{◌≡◌, ℕ, zero, suc, ◌<◌, refl, sym, ap, ◌∙◌, arith, Bool, true, false, List, [], ◌∷◌}
use Rattle.std.proofs.Common.{◌++◌, length, ◌⊎◌, inl, inr}
use Rattle.std.specs.Prelude.{Option, Some, None, slice_get, slice_index_or, if◌then◌else◌}
use Rattle.std.specs.Option.{option_map}
use Rattle.hyd_spec.specs.ProgramTypes.{Project}
use Rattle.hyd_spec_lines.specs.Headings.{either}
use Rattle.hyd_lemmas.proofs.ListsOptionsAndResults.{same_item}
use Rattle.hyd_spec_spread_rows.specs.declared.Subject.{Subject}
use Rattle.hyd_spec_spread_rows.specs.TextsOfSpreads.{last_of, names, names_all, row_for}
use Rattle.hyd_spec_spread_starts.specs.StartsOfSpreads.{last_place, place_for}

-- ---- with one row more

either-assoc : {X : Type 0} (b : Bool) (here : X) (o p : Option X)
    → either (if b then Some here else o) p ≡ (if b then Some here else either o p)
either-assoc true here o p = refl
either-assoc false here o p = refl

mapped-if : (b : Bool) (n : ℕ) (o : Option ℕ) → option_map (λ (place : ℕ). suc place) (if b then Some n else o)
    ≡ (if b then Some (suc n) else option_map (λ (place : ℕ). suc place) o)
mapped-if true n o = refl
mapped-if false n o = refl

pub place-more : (test : List (List ℕ) → Bool) (rows : List (List (List ℕ))) (row : List (List ℕ))
    → last_place test (rows ++ row ∷ []) ≡ (if test row then Some (length rows) else last_place test rows)
place-more test [] row = refl
place-more test (x ∷ rows) row =
    ap (λ (o : Option ℕ). either (option_map (λ (place : ℕ). suc place) o) (if test x then Some 0 else None))
    (place-more test rows row)
    ∙ ap (λ (o : Option ℕ). either o (if test x then Some 0 else None))
    (mapped-if (test row) (length rows) (last_place test rows))
    ∙ either-assoc (test row) (suc (length rows)) (option_map (λ (place : ℕ). suc place) (last_place test rows))
    (if test x then Some 0 else None)

-- ---- the row at the place

-- a place and a row go together: the row stands there, and where there is none there is none
pub data Goes (rows : List (List (List ℕ))) : Option ℕ → Option (List (List ℕ)) → Type 0 where
  both : (place : ℕ) (row : List (List ℕ)) → slice_get rows place ≡ Some row → Goes rows (Some place) (Some row)
  neither : Goes rows None None

chosen : (b : Bool) (row : List (List ℕ)) (rows : List (List (List ℕ))) (o : Option ℕ) (p : Option (List (List ℕ)))
    → Goes rows o p
    → Goes (row ∷ rows) (either (option_map (λ (place : ℕ). suc place) o) (if b then Some 0 else None))
    (either p (if b then Some row else None))
chosen b row rows _ _ (both place found at) = both (suc place) found at
chosen true row rows _ _ neither = both 0 row refl
chosen false row rows _ _ neither = neither

last-goes : (test : List (List ℕ) → Bool) (rows : List (List (List ℕ)))
    → Goes rows (last_place test rows) (last_of test rows)
last-goes test [] = neither
last-goes test (row ∷ rows) = chosen (test row) row rows (last_place test rows) (last_of test rows) (last-goes test rows)

either-goes : (rows : List (List (List ℕ))) (o q : Option ℕ) (p r : Option (List (List ℕ))) → Goes rows o p
    → Goes rows q r → Goes rows (either o q) (either p r)
either-goes rows _ q _ r (both place row at) other = both place row at
either-goes rows _ q _ r neither other = other

pub place-goes : (project : Project) (subject : Subject) (rows : List (List (List ℕ))) (node : ℕ)
    → Goes rows (place_for project subject rows node) (row_for project subject rows node)
place-goes project subject rows node =
    let named = names subject (slice_index_or project.node_ids node []) in
    either-goes rows (last_place named rows) (last_place (names_all subject) rows) (last_of named rows)
    (last_of (names_all subject) rows) (last-goes named rows) (last-goes (names_all subject) rows)

same-row : (rows : List (List (List ℕ))) (o : Option ℕ) (p : Option (List (List ℕ))) (place : ℕ) → Goes rows o p
    → o ≡ Some place → slice_get rows place ≡ p
same-row rows _ _ place (both n row at) e =
    let same : place ≡ n = cc in
    ap (slice_get rows) same ∙ at
same-row rows _ _ place neither e = absurd (cc)

some-row : (rows : List (List (List ℕ))) (o : Option ℕ) (p : Option (List (List ℕ))) (place : ℕ) → Goes rows o p
    → o ≡ Some place → (row : List (List ℕ)) × (p ≡ Some row)
some-row rows _ _ place (both n row at) e = (row, refl)
some-row rows _ _ place neither e = absurd (cc)

no-row : (rows : List (List (List ℕ))) (o : Option ℕ) (p : Option (List (List ℕ))) → Goes rows o p → o ≡ None
    → p ≡ None
no-row rows _ _ (both n row at) e = absurd (cc)
no-row rows _ _ neither e = refl

pub row-at : (project : Project) (subject : Subject) (rows : List (List (List ℕ))) (node place : ℕ)
    → place_for project subject rows node ≡ Some place → slice_get rows place ≡ row_for project subject rows node
row-at project subject rows node place e = same-row rows _ _ place (place-goes project subject rows node) e

pub row-there : (project : Project) (subject : Subject) (rows : List (List (List ℕ))) (node place : ℕ)
    → place_for project subject rows node ≡ Some place
    → (row : List (List ℕ)) × (row_for project subject rows node ≡ Some row)
row-there project subject rows node place e = some-row rows _ _ place (place-goes project subject rows node) e

pub no-row-there : (project : Project) (subject : Subject) (rows : List (List (List ℕ))) (node : ℕ)
    → place_for project subject rows node ≡ None → row_for project subject rows node ≡ None
no-row-there project subject rows node e = no-row rows _ _ (place-goes project subject rows node) e

-- ---- no later row

none-picked : (test : List (List ℕ) → Bool) (row : List (List ℕ)) (o : Option ℕ)
    → either (option_map (λ (place : ℕ). suc place) o) (if test row then Some 0 else None) ≡ None
    → (o ≡ None) × (test row ≡ false)
none-picked test row None e = (refl, by-test (test row) e)
  where
    by-test : (b : Bool) → ◌≡◌ {A = Option ℕ} (if b then Some 0 else None) None → b ≡ false
    by-test true f = absurd (cc)
    by-test false f = refl
none-picked test row (Some place) e = absurd (cc)

nowhere-picked : (test : List (List ℕ) → Bool) (rows : List (List (List ℕ))) (k : ℕ) (row : List (List ℕ))
    → last_place test rows ≡ None → slice_get rows k ≡ Some row → test row ≡ false
nowhere-picked test [] k row e at = absurd (cc)
nowhere-picked test (x ∷ rows) zero row e at =
    ap test (sym (same_item (List (List ℕ)) x row at)) ∙ (none-picked test x (last_place test rows) e).1
nowhere-picked test (x ∷ rows) (suc k) row e at =
    nowhere-picked test rows k row (none-picked test x (last_place test rows) e).0 at

-- where the place is the first one, no later row is picked; else it is one further than among the later rows
split : (b : Bool) (o : Option ℕ) (place : ℕ)
    → either (option_map (λ (n : ℕ). suc n) o) (if b then Some 0 else None) ≡ Some place
    → ((o ≡ None) × (place ≡ 0)) ⊎ ((n : ℕ) × ((o ≡ Some n) × (place ≡ suc n)))
split b (Some n) place e = inr (n, (refl, (let same : place ≡ suc n = cc in same)))
split true None place e = inl (refl, (let same : place ≡ 0 = cc in same))
split false None place e = absurd (cc)

pub last-one : (test : List (List ℕ) → Bool) (rows : List (List (List ℕ))) (place later : ℕ) (row : List (List ℕ))
    → last_place test rows ≡ Some place → place < later → slice_get rows later ≡ Some row → test row ≡ false
last-one test [] place later row e lt at = absurd (cc)
last-one test (x ∷ rows) place zero row e lt at = absurd (omega (arith, lt))
last-one test (x ∷ rows) place (suc later) row e lt at =
    elim (split (test x) (last_place test rows) place e) [
      | inl first ↦ nowhere-picked test rows later row first.0 at
      | inr further ↦
          let same = further.1.1 in
          last-one test rows further.0 later row further.1.0 (omega (arith, lt, same)) at
    ]
