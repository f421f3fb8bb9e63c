-- The word `-` right behind `--flows`: what comes of words that have it, and of those that don't.
use Rattle.std.proofs.Common.{◌≡◌, ◌∙◌, Bool, true, false, ◌&&◌, ◌||◌, cond, List, [], ◌∷◌, drop, Option, Some, None}
use Rattle.std.proofs.Common.{nat_eq, refl, sym, ap, subst, true≢false, codes, bytes_eq, ℕ, zero, suc, ◌+◌, ◌<◌, ◌≤◌}
use Rattle.std.proofs.Common.{map, length, get_or, arith, drop-cons, String, string_bytes}
use Rattle.std.specs.List.{list_any, starts_with}
use lib.Pointwise.{bytes_decides}
use Rattle.hyd_lemmas.proofs.BooleanTests.{or-false, or-right}
use Rattle.hyd_command_words.specs.OptionsAndNames.{Word, Part, Kind, sweeps, width, slack, flows, spread}
use Rattle.hyd_command_words.specs.OptionsAndNames.{tight, name, wrong, says}
use Rattle.hyd_command_words.specs.OptionsAndNames.{ends, is_name, is_wrong, kind_of, option_kind}
use Rattle.hyd_command_words.specs.OptionsAndNames.{with_value, parts_from, parts_waiting}
use Rattle.hyd_command_words.specs.ClapParser.{has_dash_behind_flows}

-- the words behind this one have it
abbrev later : Word → List Word → Bool
later word rest = has_dash_behind_flows (bytes_eq word (codes "--flows")) rest

-- the value of the test, of which the first word isn't `--`
tested : (b e : Bool) (word : Word) (rest : List Word) → bytes_eq word (codes "--") ≡ e
    → has_dash_behind_flows b (word ∷ rest)
    ≡ cond e false ((b && bytes_eq word (codes "-")) || later word rest)
tested b e word rest is = λ i. cond (is i) false ((b && bytes_eq word (codes "-")) || later word rest)

later_is : (f : Bool) (word : Word) (rest : List Word) → bytes_eq word (codes "--flows") ≡ f
    → later word rest ≡ has_dash_behind_flows f rest
later_is f word rest is = λ i. has_dash_behind_flows (is i) rest

-- ---- word by word

-- the words from a place on, and those behind it
pub from_place : {Z : Type 0} (words : List (String Z)) (i : ℕ) (d : String Z) (b : Bool) → i < length words
    → has_dash_behind_flows b (map string_bytes (drop i words))
    ≡ has_dash_behind_flows b (string_bytes (get_or words i d) ∷ map string_bytes (drop (i + 1) words))
from_place {Z = Z} words i d b within =
    let next : suc i ≡ i + 1 = omega arith in
    ap (λ (rest : List (String Z)). has_dash_behind_flows b (map string_bytes rest)) (drop-cons words i d within)
    ∙ (λ k. has_dash_behind_flows b (string_bytes (get_or words i d) ∷ map string_bytes (drop (next k) words)))

-- the end of the words
pub at_end : {Z : Type 0} (words : List (String Z)) (i : ℕ) (b : Bool) → length words ≤ i
    → has_dash_behind_flows b (map string_bytes (drop i words)) ≡ false
at_end [] zero b past = refl
at_end [] (suc i) b past = refl
at_end (word ∷ words) zero b past = absurd (omega (arith, past))
at_end (word ∷ words) (suc i) b past = at_end words i b (omega (arith, past))

-- behind a word that is neither `--` nor `-` as the option's value
pub goes_on : (b : Bool) (word : Word) (rest : List Word) → bytes_eq word (codes "--") ≡ false
    → (b && bytes_eq word (codes "-")) ≡ false
    → has_dash_behind_flows (bytes_eq word (codes "--flows")) rest ≡ has_dash_behind_flows b (word ∷ rest)
goes_on b word rest other none =
    (λ i. sym none i || later word rest) ∙ sym (tested b false word rest other)

-- at `--`
pub stops : (b : Bool) (word : Word) (rest : List Word) → bytes_eq word (codes "--") ≡ true
    → false ≡ has_dash_behind_flows b (word ∷ rest)
stops b word rest is = sym (tested b true word rest is)

-- at `-` as the option's value
pub meets : (b : Bool) (word : Word) (rest : List Word) → bytes_eq word (codes "--") ≡ false
    → (b && bytes_eq word (codes "-")) ≡ true → true ≡ has_dash_behind_flows b (word ∷ rest)
meets b word rest other is = (λ i. sym is i || later word rest) ∙ sym (tested b false word rest other)

-- ---- words that don't have it

pub behind_word : (b : Bool) (word : Word) (rest : List Word) → bytes_eq word (codes "--") ≡ false
    → has_dash_behind_flows b (word ∷ rest) ≡ false
    → has_dash_behind_flows (bytes_eq word (codes "--flows")) rest ≡ false
behind_word b word rest e d =
    (or-false (b && bytes_eq word (codes "-")) (later word rest) (sym (tested b false word rest e) ∙ d)).1

-- nor have they it where `--flows` doesn't stand before them
pub without_flows : (b : Bool) (words : List Word) → has_dash_behind_flows b words ≡ false
    → has_dash_behind_flows false words ≡ false
without_flows b [] d = refl
without_flows b (word ∷ rest) d = go (bytes_eq word (codes "--")) refl
  where
    go : (e : Bool) → bytes_eq word (codes "--") ≡ e → has_dash_behind_flows false (word ∷ rest) ≡ false
    go true h = tested false true word rest h
    go false h = tested false false word rest h ∙ behind_word b word rest h d

-- ---- words that have it: something is wrong, whatever option waits

abbrev pub HasWrong : List Word → Option (Word → Part) → Type 0
HasWrong words waits = list_any is_wrong (parts_waiting words waits) ≡ true

-- whether or not `--flows` stands before, and so waits
abbrev pub IsFound : List Word → Type 0
IsFound words = (waits : Option (Word → Part)) (b : Bool) → (b ≡ true → waits ≡ None → ⊥)
    → has_dash_behind_flows b words ≡ true → HasWrong words waits

module _ (rest : List Word) where
  -- what a word of this kind and those behind it say has something wrong
  abbrev IsWrong : Kind → Type 0
  IsWrong k = list_any is_wrong (parts_from k rest (parts_waiting rest)) ≡ true

  either : (b : Bool) (x y : Kind) → IsWrong x → IsWrong y → IsWrong (cond b x y)
  either true x y h g = h
  either false x y h g = g

  says_wrong : HasWrong rest None → (part : Part) → IsWrong (says part)
  says_wrong h part = or-right (is_wrong part) (list_any is_wrong (parts_waiting rest None)) h

  kind_wrong : (word : Word) → bytes_eq word (codes "--") ≡ false → HasWrong rest None
      → ((make : Word → Part) → HasWrong rest (Some make)) → IsWrong (kind_of word)
  unfolding kind_of
  kind_wrong word e none some =
      subst (λ (b : Bool). IsWrong (cond b ends (cond (is_name word) (says (name word)) (option_kind word)))) (sym e)
      (either (is_name word) (says (name word)) (option_kind word) (says_wrong none (name word))
      (either (bytes_eq word (codes "--tight")) _ _ (says_wrong none tight)
      (either (bytes_eq word (codes "--sweeps")) _ _ (some sweeps)
      (either (bytes_eq word (codes "--width")) _ _ (some width)
      (either (bytes_eq word (codes "--slack")) _ _ (some slack)
      (either (bytes_eq word (codes "--flows")) _ _ (some flows)
      (either (bytes_eq word (codes "--spread")) _ _ (some spread)
      (either (starts_with nat_eq word (codes "--sweeps=")) _ _ (says_wrong none (sweeps (drop 9 word)))
      (either (starts_with nat_eq word (codes "--width=")) _ _ (says_wrong none (width (drop 8 word)))
      (either (starts_with nat_eq word (codes "--slack=")) _ _ (says_wrong none (slack (drop 8 word)))
      (either (starts_with nat_eq word (codes "--flows=")) _ _ (says_wrong none (flows (drop 8 word)))
      (either (starts_with nat_eq word (codes "--spread=")) _ _ (says_wrong none (spread (drop 9 word)))
      (says_wrong none wrong)))))))))))))

  flows_wrong : HasWrong rest (Some flows) → HasWrong (codes "--flows" ∷ rest) None
  unfolding kind_of
  flows_wrong h = h

  module _ (found : IsFound rest) (word : Word) where
    not_flows : later word rest ≡ true → bytes_eq word (codes "--flows") ≡ false → (waits : Option (Word → Part))
        → HasWrong rest waits
    not_flows l t waits = found waits false (λ e n. true≢false (sym e)) (sym (later_is false word rest t) ∙ l)

    none_waits : (f : Bool) → bytes_eq word (codes "--flows") ≡ f → bytes_eq word (codes "--") ≡ false
        → later word rest ≡ true → HasWrong (word ∷ rest) None
    none_waits true t e l =
        let is : word ≡ codes "--flows" = (bytes_decides word (codes "--flows")).0 t in
        let some : ◌≡◌ {A = Option (Word → Part)} (Some flows) None → ⊥ = λ n. absurd (cc) in
        subst (λ (w : Word). HasWrong (w ∷ rest) None) (sym is)
        (flows_wrong (found (Some flows) true (λ e n. some n) (sym (later_is true word rest t) ∙ l)))
    none_waits false t e l = kind_wrong word e (not_flows l t None) (λ make. not_flows l t (Some make))

    some_waits : (f : Bool) → bytes_eq word (codes "--flows") ≡ f → (make : Word → Part) → later word rest ≡ true
        → HasWrong (word ∷ rest) (Some make)
    some_waits true t make l =
        let is : word ≡ codes "--flows" = (bytes_decides word (codes "--flows")).0 t in
        subst (λ (w : Word). HasWrong (w ∷ rest) (Some make)) (sym is) refl
    some_waits false t make l = or-right (is_wrong (with_value make word)) (list_any is_wrong (parts_waiting rest None))
        (not_flows l t None)

    dash_waits : (make : Word → Part) → bytes_eq word (codes "-") ≡ true → HasWrong (word ∷ rest) (Some make)
    dash_waits make t =
        let is : word ≡ codes "-" = (bytes_decides word (codes "-")).0 t in
        subst (λ (w : Word). HasWrong (w ∷ rest) (Some make)) (sym is) refl

    by_dash : (waits : Option (Word → Part)) (b x : Bool) → (b ≡ true → waits ≡ None → ⊥)
        → bytes_eq word (codes "--") ≡ false → bytes_eq word (codes "-") ≡ x → ((b && x) || later word rest) ≡ true
        → HasWrong (word ∷ rest) waits
    by_dash None true x n e t l = absurd (n refl refl)
    by_dash None false x n e t l = none_waits (bytes_eq word (codes "--flows")) refl e l
    by_dash (Some make) true true n e t l = dash_waits make t
    by_dash (Some make) true false n e t l = some_waits (bytes_eq word (codes "--flows")) refl make l
    by_dash (Some make) false x n e t l = some_waits (bytes_eq word (codes "--flows")) refl make l

    one_word : (e : Bool) → bytes_eq word (codes "--") ≡ e → IsFound (word ∷ rest)
    one_word true t waits b n d = absurd (true≢false (sym d ∙ tested b true word rest t))
    one_word false t waits b n d =
        by_dash waits b (bytes_eq word (codes "-")) n t refl (sym (tested b false word rest t) ∙ d)

pub dash_is_wrong : (words : List Word) → IsFound words
dash_is_wrong [] waits b n d = absurd (true≢false (sym d))
dash_is_wrong (word ∷ rest) waits b n d =
    one_word rest (dash_is_wrong rest) word (bytes_eq word (codes "--")) refl waits b n d
