-- What stands between the commas of a text, name by name.
use Rattle.std.proofs.Common.{◌≡◌, ◌≢◌, ◌∙◌, ℕ, zero, suc, ◌-◌, ◌<◌, ◌≤◌, ◌==◌, Bool, true, false, not, ◌&&◌, ◌||◌}
use Rattle.std.proofs.Common.{cond, List, [], ◌∷◌, ◌++◌, length, take, get_or, Option, Some, None, nat_le, refl, sym, ap}
use Rattle.std.proofs.Common.{arith, ne_eqb, true≢false, bytes_eq, slice_get, Bor}
use Rattle.std.specs.Prelude.{AllPairs, IsTrue, ◌↔◌, is_some, option_map}
use Rattle.std.specs.List.{list_all, list_any, onto_first, AllByRecursion}
use Rattle.std.proofs.lemmas.Bool.{leb-true, leb-false, lt-leb, le-leb}
use Rattle.std.proofs.lemmas.List.Elements.{All-from_recursion}
use Rattle.std.proofs.lemmas.List.Kept.{AllPairs-cons}
use lib.Pointwise.{bytes_decides}
use Rattle.hyd_lemmas.proofs.BooleanTests.{or-false, both-first, both-second}
use Rattle.hyd_command_words.specs.OptionsAndNames.{Word}
use Rattle.hyd_command_words.specs.NamesOfLinks.{is_comma, names_between_commas, has_length_of_id}
use Rattle.hyd_command_words.specs.NamesOfLinks.{all_differ, are_names, names_given}
use Rattle.hyd_command_words.proofs.KindsOfWords.{and_false}

-- ---- the first name, and those behind it

-- no byte is a comma
abbrev pub LacksComma : Word → Type 0
LacksComma text = (i : ℕ) → i < length text → get_or text i 0 ≢ 44

first_differs : (x : ℕ) (xs : Word) → LacksComma (x ∷ xs) → (x == 44) ≡ false
first_differs x xs lacks = ne_eqb x 44 (lacks 0 (omega arith))

rest_lacks : (x : ℕ) (xs : Word) → LacksComma (x ∷ xs) → LacksComma xs
rest_lacks x xs lacks i within = lacks (suc i) (omega (arith, within))

pub one_name : (text : Word) → LacksComma text → names_between_commas text ≡ text ∷ []
one_name [] lacks = refl
one_name (x ∷ xs) lacks =
    (λ i. cond (first_differs x xs lacks i) ([] ∷ names_between_commas xs) (onto_first x (names_between_commas xs)))
    ∙ ap (onto_first x) (one_name xs (rest_lacks x xs lacks))

name_then : (name later : Word) → LacksComma name
    → names_between_commas (name ++ 44 ∷ later) ≡ name ∷ names_between_commas later
name_then [] later lacks = refl
name_then (x ∷ xs) later lacks =
    (λ i. cond (first_differs x xs lacks i) ([] ∷ names_between_commas (xs ++ 44 ∷ later))
    (onto_first x (names_between_commas (xs ++ 44 ∷ later))))
    ∙ ap (onto_first x) (name_then xs later (rest_lacks x xs lacks))

pub more_names : (text name later : Word) → text ≡ name ++ 44 ∷ later → LacksComma name
    → names_between_commas text ≡ name ∷ names_between_commas later
more_names text name later is lacks = ap names_between_commas is ∙ name_then name later lacks

begun_some : (x : ℕ) (names : List Word) → onto_first x names ≡ [] → ⊥
begun_some x [] e = absurd (cc)
begun_some x (name ∷ names) e = absurd (cc)

-- there is a name
pub some_name : (text : Word) → names_between_commas text ≡ [] → ⊥
some_name [] e = absurd (cc)
some_name (x ∷ xs) e = go (is_comma x) e
  where
    go : (b : Bool) → cond b ([] ∷ names_between_commas xs) (onto_first x (names_between_commas xs)) ≡ [] → ⊥
    go true h = absurd (cc)
    go false h = begun_some x (names_between_commas xs) h

-- no name is given just where the option doesn't stand
pub none_given : (ids : Option (Bor Word)) (b : Bool) → is_some ids ≡ not b
    → (IsTrue b ↔ (names_given (option_map (λ text. text.now) ids) ≡ []))
none_given None true e = (λ t. refl, λ h. refl)
none_given None false e = absurd (true≢false (sym e))
none_given (Some text) true e = absurd (true≢false e)
none_given (Some text) false e = (λ t. absurd (true≢false (sym t)), λ h. absurd (some_name text.now h))

-- ---- whether they may be given

none_may : (names : List Word) → (names ≡ [] → ⊥) → are_names 0 names ≡ false
none_may [] some = absurd (some refl)
none_may (name ∷ names) some =
    λ i. lt-leb (suc (length names)) 0 (omega arith) i && (list_all has_length_of_id (name ∷ names)
    && all_differ (name ∷ names))

-- not one where none is allowed
pub not_none : (text : Word) → false ≡ are_names 0 (names_between_commas text)
not_none text = sym (none_may (names_between_commas text) (some_name text))

one_may : (most : ℕ) (name : Word) → (most ≡ 0 → ⊥) → has_length_of_id name ≡ are_names most (name ∷ [])
one_may zero name some = absurd (some refl)
one_may (suc most) name some =
    go (has_length_of_id name)
    ∙ (λ i. sym (le-leb 1 (suc most) (omega arith)) i && ((has_length_of_id name && true) && true))
  where
    go : (b : Bool) → b ≡ ((b && true) && true)
    go true = refl
    go false = refl

both_parts : (long no_other all differ : Bool)
    → ((long && all) && (no_other && differ)) ≡ ((long && no_other) && (all && differ))
both_parts true true all differ = refl
both_parts true false true differ = refl
both_parts true false false differ = refl
both_parts false no_other all differ = refl

le_more : (n m : ℕ) → nat_le (suc n) (suc m) ≡ nat_le n m
le_more n m = go (nat_le n m) refl
  where
    go : (b : Bool) → nat_le n m ≡ b → nat_le (suc n) (suc m) ≡ b
    go true e = let le : n ≤ m = leb-true n m e in le-leb (suc n) (suc m) (omega (arith, le))
    go false e = let less : m < n = leb-false n m e in lt-leb (suc n) (suc m) (omega (arith, less))

take_whole : {X : Type 0} (n : ℕ) (xs : List X) → length xs ≤ n → take n xs ≡ xs
take_whole zero [] h = refl
take_whole (suc n) [] h = refl
take_whole zero (x ∷ xs) h = absurd (omega (arith, h))
take_whole (suc n) (x ∷ xs) h = ap (λ r. x ∷ r) (take_whole n xs (omega (arith, h)))

-- whether a name stands among the first so many
abbrev pub stands_in_first : ℕ → Word → List Word → Bool
stands_in_first many name names = list_any (bytes_eq name) (take many names)

-- one name more
may_after : (most : ℕ) (name : Word) (names : List Word) → are_names (suc most) (name ∷ names)
    ≡ ((has_length_of_id name && not (stands_in_first most name names)) && are_names most names)
may_after most name names = go (nat_le (length names) most) refl
  where
    go : (b : Bool) → nat_le (length names) most ≡ b → are_names (suc most) (name ∷ names)
        ≡ ((has_length_of_id name && not (stands_in_first most name names)) && are_names most names)
    go true few =
        let le : length names ≤ most = leb-true (length names) most few in
        (λ i. (le_more (length names) most ∙ few) i && ((has_length_of_id name && list_all has_length_of_id names)
        && (not (list_any (bytes_eq name) names) && all_differ names)))
        ∙ both_parts (has_length_of_id name) (not (list_any (bytes_eq name) names)) (list_all has_length_of_id names)
        (all_differ names)
        ∙ (λ i. (has_length_of_id name && not (list_any (bytes_eq name) (sym (take_whole most names le) i)))
        && (sym few i && (list_all has_length_of_id names && all_differ names)))
    go false many =
        (λ i. (le_more (length names) most ∙ many) i && ((has_length_of_id name && list_all has_length_of_id names)
        && (not (list_any (bytes_eq name) names) && all_differ names)))
        ∙ sym ((λ i. (has_length_of_id name && not (stands_in_first most name names))
        && (many i && (list_all has_length_of_id names && all_differ names)))
        ∙ and_false (has_length_of_id name && not (stands_in_first most name names)) false refl)

-- the same, of how many may follow
may_more : (most : ℕ) (name : Word) (names : List Word) → (most ≡ 0 → ⊥)
    → ((has_length_of_id name && not (stands_in_first (most - 1) name names)) && are_names (most - 1) names)
    ≡ are_names most (name ∷ names)
may_more zero name names some = absurd (some refl)
may_more (suc most) name names some =
    let one : suc most - 1 ≡ most = omega arith in
    (λ i. ((has_length_of_id name && not (stands_in_first (one i) name names)) && are_names (one i) names))
    ∙ sym (may_after most name names)

-- the name is the first of them, or stands among those behind it
first_or_later : (many : ℕ) (name first : Word) (names : List Word) → (many ≡ 0 → ⊥)
    → (bytes_eq name first || stands_in_first (many - 1) name names) ≡ stands_in_first many name (first ∷ names)
first_or_later zero name first names some = absurd (some refl)
first_or_later (suc many) name first names some =
    let one : suc many - 1 ≡ many = omega arith in
    λ i. (bytes_eq name first || stands_in_first (one i) name names)

take_none : (n : ℕ) → take {A = Word} n [] ≡ []
take_none zero = refl
take_none (suc n) = refl

only_first : (many : ℕ) (name first : Word) → (many ≡ 0 → ⊥)
    → bytes_eq name first ≡ stands_in_first many name (first ∷ [])
only_first zero name first some = absurd (some refl)
only_first (suc many) name first some =
    go (bytes_eq name first)
    ∙ ap (λ (names : List Word). bytes_eq name first || list_any (bytes_eq name) names) (sym (take_none many))
  where
    go : (b : Bool) → b ≡ (b || false)
    go true = refl
    go false = refl

-- ---- the same of a text

pub text_may : (most : ℕ) (text name later : Word) → text ≡ name ++ 44 ∷ later → LacksComma name → (most ≡ 0 → ⊥)
    → ((has_length_of_id name && not (stands_in_first (most - 1) name (names_between_commas later)))
    && are_names (most - 1) (names_between_commas later))
    ≡ are_names most (names_between_commas text)
text_may most text name later is lacks some =
    may_more most name (names_between_commas later) some
    ∙ ap (are_names most) (sym (more_names text name later is lacks))

pub one_text_may : (most : ℕ) (text : Word) → LacksComma text → (most ≡ 0 → ⊥)
    → has_length_of_id text ≡ are_names most (names_between_commas text)
one_text_may most text lacks some =
    one_may most text some ∙ ap (are_names most) (sym (one_name text lacks))

pub stands_in_text : (many : ℕ) (wanted text name later : Word) → text ≡ name ++ 44 ∷ later → LacksComma name
    → (many ≡ 0 → ⊥)
    → (bytes_eq wanted name || stands_in_first (many - 1) wanted (names_between_commas later))
    ≡ stands_in_first many wanted (names_between_commas text)
stands_in_text many wanted text name later is lacks some =
    first_or_later many wanted name (names_between_commas later) some
    ∙ ap (stands_in_first many wanted) (sym (more_names text name later is lacks))

pub stands_alone : (many : ℕ) (wanted text : Word) → LacksComma text → (many ≡ 0 → ⊥)
    → bytes_eq wanted text ≡ stands_in_first many wanted (names_between_commas text)
stands_alone many wanted text lacks some =
    only_first many wanted text some ∙ ap (stands_in_first many wanted) (sym (one_name text lacks))

-- ---- names that may be given are few and differ

pub are_few : (most : ℕ) (names : List Word) → are_names most names ≡ true → length names ≤ most
are_few most names e = leb-true (length names) most (both-first (nat_le (length names) most) _ e)

differ_from : (name : Word) (later : List Word) → list_any (bytes_eq name) later ≡ false
    → AllByRecursion (λ other. name ≢ other) later
differ_from name [] e = tt
differ_from name (x ∷ xs) e =
    let parts = or-false (bytes_eq name x) (list_any (bytes_eq name) xs) e in
    (λ same. true≢false (sym ((bytes_decides name x).1 same) ∙ parts.0), differ_from name xs parts.1)

not_true : (b : Bool) → not b ≡ true → b ≡ false
not_true true e = absurd (true≢false (sym e))
not_true false e = refl

differ_all : (names : List Word) → all_differ names ≡ true → AllPairs (λ (one later : Word). one ≢ later) names
differ_all [] e = λ i j d less within. absurd (omega (arith, within))
differ_all (name ∷ later) e = AllPairs-cons (λ (one other : Word). one ≢ other) name later
    (All-from_recursion (λ (other : Word). name ≢ other) later (differ_from name later
    (not_true _ (both-first (not (list_any (bytes_eq name) later)) (all_differ later) e))))
    (differ_all later (both-second (not (list_any (bytes_eq name) later)) (all_differ later) e))

pub do_differ : (most : ℕ) (names : List Word) → are_names most names ≡ true
    → AllPairs (λ (one later : Word). one ≢ later) names
do_differ most names e =
    let rest = both-second (nat_le (length names) most) _ e in
    differ_all names (both-second (list_all has_length_of_id names) (all_differ names) rest)

-- ---- the name at a place

at_later : (place : ℕ) (name : Word) (names : List Word) → (place ≡ 0 → ⊥)
    → slice_get names (place - 1) ≡ slice_get (name ∷ names) place
at_later zero name names some = absurd (some refl)
at_later (suc place) name names some =
    let one : suc place - 1 ≡ place = omega arith in ap (slice_get names) one

at_none : (place : ℕ) (name : Word) → (place ≡ 0 → ⊥) → None ≡ slice_get (name ∷ []) place
at_none zero name some = absurd (some refl)
at_none (suc place) name some = refl

pub name_first : (text name later : Word) (place : ℕ) → text ≡ name ++ 44 ∷ later → LacksComma name → place ≡ 0
    → Some name ≡ slice_get (names_between_commas text) place
name_first text name later place is lacks first =
    λ i. slice_get (sym (more_names text name later is lacks) i) (sym first i)

pub name_later : (text name later : Word) (place : ℕ) (found : Option Word) → text ≡ name ++ 44 ∷ later
    → LacksComma name → (place ≡ 0 → ⊥) → found ≡ slice_get (names_between_commas later) (place - 1)
    → found ≡ slice_get (names_between_commas text) place
name_later text name later place found is lacks some at =
    at ∙ at_later place name (names_between_commas later) some
    ∙ ap (λ (names : List Word). slice_get names place) (sym (more_names text name later is lacks))

pub name_alone : (text : Word) (place : ℕ) → LacksComma text → place ≡ 0
    → Some text ≡ slice_get (names_between_commas text) place
name_alone text place lacks first = λ i. slice_get (sym (one_name text lacks) i) (sym first i)

pub name_beyond : (text : Word) (place : ℕ) → LacksComma text → (place ≡ 0 → ⊥)
    → None ≡ slice_get (names_between_commas text) place
name_beyond text place lacks some =
    at_none place text some ∙ ap (λ (names : List Word). slice_get names place) (sym (one_name text lacks))
