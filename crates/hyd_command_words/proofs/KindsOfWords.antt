-- What a word is by itself, from the tests by which clap reads it.
use Rattle.std.proofs.Common.{◌≡◌, ◌⊎◌, ◌∙◌, ℕ, ◌+◌, ◌==◌, ◌&&◌, ◌||◌, nat_eq, Bool, true, false, not, cond, List, []}
use Rattle.std.proofs.Common.{◌∷◌, ◌++◌, length, take, drop, Option, Some, None, slice_get, refl, sym, ap, ap₂, subst}
use Rattle.std.proofs.Common.{inl, inr, true≢false, arith, codes, IsUtf8, bytes_eq, encode_utf8_all, eqb-true, ne_eqb}
use Rattle.std.proofs.Common.{suc}
use Rattle.std.specs.List.{starts_with, before_first, after_first, position_or_len}
use Rattle.std.specs.Char.{encode_utf8}
use Rattle.std.specs.Str.{chars}
use Rattle.std.proofs.lemmas.Str.{encodes-chars}
use Rattle.clap.specs.Lexer.{long_of, short_of, has_byte, name_and_value}
use Rattle.hyd_command_words.specs.OptionsAndNames.{Word, Kind, sweeps, width, slack, flows, spread, tight, name, wrong}
use Rattle.hyd_command_words.specs.OptionsAndNames.{says, wants}
use Rattle.hyd_command_words.specs.OptionsAndNames.{begins_with_dash, kind_of, option_kind, ends}
use lib.Pointwise.{bytes_decides}
use Rattle.hyd_lemmas.proofs.BooleanTests.{or-false}

-- ---- words of bytes

eq_self : (z : ℕ) → (z == z) ≡ true
eq_self z = grind arith

eq_swapped : (x y : ℕ) → (x == y) ≡ (y == x)
eq_swapped x y = go (x == y) refl
  where
    go : (b : Bool) → (x == y) ≡ b → b ≡ (y == x)
    go true e =
        let same : x ≡ y = eqb-true x y e in
        subst (λ (z : ℕ). true ≡ (z == x)) same (sym (eq_self x))
    go false e = sym (ne_eqb y x (λ same. true≢false (sym (eq_self x) ∙ subst (λ (z : ℕ). (x == z) ≡ false) same e)))

pub same_swapped : (xs ys : Word) → bytes_eq xs ys ≡ bytes_eq ys xs
same_swapped [] [] = refl
same_swapped [] (y ∷ ys) = refl
same_swapped (x ∷ xs) [] = refl
same_swapped (x ∷ xs) (y ∷ ys) = ap₂ (λ (a b : Bool). a && b) (eq_swapped x y) (same_swapped xs ys)

pub and_false : (a b : Bool) → b ≡ false → (a && b) ≡ false
and_false true b e = e
and_false false b e = refl

abbrev is_equals : ℕ → Bool
is_equals x = x == 61

-- ---- a name, and a value behind `=`

no_equals : (t : Word) → has_byte 61 t ≡ false → before_first is_equals t ≡ t
no_equals [] e = refl
no_equals (x ∷ xs) e =
    let parts = or-false (x == 61) (has_byte 61 xs) e in
    let more : 1 + position_or_len is_equals xs ≡ suc (position_or_len is_equals xs) = omega arith in
    (λ i. take (cond (not (parts.0 i)) (more i) 0) (x ∷ xs)) ∙ ap (λ (r : Word). x ∷ r) (no_equals xs parts.1)

abbrev IsSplit : ℕ → Word → Type 0
IsSplit n t = (t ≡ take n t ++ 61 ∷ drop (n + 1) t) × (has_byte 61 (take n t) ≡ false)

split_later : (n x : ℕ) (xs : Word) → (x == 61) ≡ false → IsSplit n xs → IsSplit (1 + n) (x ∷ xs)
split_later n x xs plain rest =
    let more : suc n ≡ 1 + n = omega arith in
    let past : suc (n + 1) ≡ (1 + n) + 1 = omega arith in (
      ap (λ (r : Word). x ∷ r) rest.0
          ∙ ap₂ (λ (k m : ℕ). take k (x ∷ xs) ++ 61 ∷ drop m (x ∷ xs)) more past,
      ap (λ (k : ℕ). has_byte 61 (take k (x ∷ xs))) (sym more) ∙ ap₂ (λ (a b : Bool). a || b) plain rest.1,
    )

with_equals : (t : Word) → has_byte 61 t ≡ true → IsSplit (position_or_len is_equals t) t
with_equals [] e = absurd (true≢false (sym e))
with_equals (x ∷ xs) e = go (x == 61) refl (with_equals xs)
  where
    go : (b : Bool) → (x == 61) ≡ b → (has_byte 61 xs ≡ true → IsSplit (position_or_len is_equals xs) xs)
        → IsSplit (position_or_len is_equals (x ∷ xs)) (x ∷ xs)
    go true h rest = subst (λ (b : Bool). IsSplit (cond (not b) (1 + position_or_len is_equals xs) 0) (x ∷ xs)) (sym h)
        (ap (λ (c : ℕ). c ∷ xs) (eqb-true x 61 h), refl)
    go false h rest = subst (λ (b : Bool). IsSplit (cond (not b) (1 + position_or_len is_equals xs) 0) (x ∷ xs)) (sym h)
        (split_later (position_or_len is_equals xs) x xs h
        (rest (subst (λ (b : Bool). (b || has_byte 61 xs) ≡ true) h e)))

-- a name and `=` begin a text just where they are its own
key_then_equals : (n u k : Word) → has_byte 61 n ≡ false → has_byte 61 k ≡ false
    → starts_with nat_eq (n ++ 61 ∷ u) (k ++ 61 ∷ []) ≡ bytes_eq k n
key_then_equals [] u [] e f = refl
key_then_equals (x ∷ xs) u [] e f =
    let differs : (61 == x) ≡ false = eq_swapped 61 x ∙ (or-false (x == 61) (has_byte 61 xs) e).0 in
    ap (λ (b : Bool). b && true) differs
key_then_equals [] u (y ∷ ys) e f =
    ap (λ (b : Bool). b && starts_with nat_eq u (ys ++ 61 ∷ [])) (or-false (y == 61) (has_byte 61 ys) f).0
key_then_equals (x ∷ xs) u (y ∷ ys) e f = ap (λ (b : Bool). (y == x) && b)
    (key_then_equals xs u ys (or-false (x == 61) (has_byte 61 xs) e).1 (or-false (y == 61) (has_byte 61 ys) f).1)

no_key : (t k : Word) → has_byte 61 t ≡ false → starts_with nat_eq t (k ++ 61 ∷ []) ≡ false
no_key [] [] e = refl
no_key [] (y ∷ ys) e = refl
no_key (x ∷ xs) [] e = ap (λ (b : Bool). b && true) (eq_swapped 61 x ∙ (or-false (x == 61) (has_byte 61 xs) e).0)
no_key (x ∷ xs) (y ∷ ys) e = and_false (y == x) _ (no_key xs ys (or-false (x == 61) (has_byte 61 xs) e).1)

not_key : (n u k : Word) → has_byte 61 k ≡ false → bytes_eq (n ++ 61 ∷ u) k ≡ false
not_key [] u [] f = refl
not_key [] u (y ∷ ys) f =
    ap (λ (b : Bool). b && bytes_eq u ys) (eq_swapped 61 y ∙ (or-false (y == 61) (has_byte 61 ys) f).0)
not_key (x ∷ xs) u [] f = refl
not_key (x ∷ xs) u (y ∷ ys) f = and_false (x == y) _ (not_key xs u ys (or-false (y == 61) (has_byte 61 ys) f).1)

abbrev valued_kind : Word → Word → Kind
valued_kind n v = cond (bytes_eq (codes "sweeps") n) (says (sweeps v))
    (cond (bytes_eq (codes "width") n) (says (width v))
    (cond (bytes_eq (codes "slack") n) (says (slack v))
    (cond (bytes_eq (codes "flows") n) (says (flows v))
    (cond (bytes_eq (codes "spread") n) (says (spread v)) (says wrong)))))

-- what an option is, by its name and the value behind `=`
abbrev pub kind_by : (is_tight is_sweeps is_width is_slack is_flows is_spread : Bool) → Option Word → Kind
kind_by is_tight is_sweeps is_width is_slack is_flows is_spread None = cond is_tight (says tight)
    (cond is_sweeps (wants sweeps) (cond is_width (wants width) (cond is_slack (wants slack)
    (cond is_flows (wants flows) (cond is_spread (wants spread) (says wrong))))))
kind_by is_tight is_sweeps is_width is_slack is_flows is_spread (Some v) = cond is_tight (says wrong)
    (cond is_sweeps (says (sweeps v)) (cond is_width (says (width v)) (cond is_slack (says (slack v))
    (cond is_flows (says (flows v)) (cond is_spread (says (spread v)) (says wrong))))))

abbrev pub named_kind : Word → Option Word → Kind
named_kind n v = kind_by (bytes_eq (codes "tight") n) (bytes_eq (codes "sweeps") n) (bytes_eq (codes "width") n)
    (bytes_eq (codes "slack") n) (bytes_eq (codes "flows") n) (bytes_eq (codes "spread") n) v

kind_alone : (t : Word) → has_byte 61 t ≡ false → option_kind (45 ∷ 45 ∷ t) ≡ named_kind t None
kind_alone t e = λ i. cond (same_swapped t (codes "tight") i) (says tight)
    (cond (same_swapped t (codes "sweeps") i) (wants sweeps)
    (cond (same_swapped t (codes "width") i) (wants width)
    (cond (same_swapped t (codes "slack") i) (wants slack)
    (cond (same_swapped t (codes "flows") i) (wants flows)
    (cond (same_swapped t (codes "spread") i) (wants spread)
    (cond (no_key t (codes "sweeps") e i) (says (sweeps (drop 7 t)))
    (cond (no_key t (codes "width") e i) (says (width (drop 6 t)))
    (cond (no_key t (codes "slack") e i) (says (slack (drop 6 t)))
    (cond (no_key t (codes "flows") e i) (says (flows (drop 6 t)))
    (cond (no_key t (codes "spread") e i) (says (spread (drop 7 t))) (says wrong)))))))))))

sweeps_at : (n u : Word) (other : Kind) (b : Bool) → bytes_eq (codes "sweeps") n ≡ b
    → cond b (says (sweeps (drop 7 (n ++ 61 ∷ u)))) other ≡ cond b (says (sweeps u)) other
sweeps_at n u other true e =
    ap (λ (m : Word). says (sweeps (drop 7 (m ++ 61 ∷ u)))) (sym ((bytes_decides (codes "sweeps") n).0 e))
sweeps_at n u other false e = refl

width_at : (n u : Word) (other : Kind) (b : Bool) → bytes_eq (codes "width") n ≡ b
    → cond b (says (width (drop 6 (n ++ 61 ∷ u)))) other ≡ cond b (says (width u)) other
width_at n u other true e =
    ap (λ (m : Word). says (width (drop 6 (m ++ 61 ∷ u)))) (sym ((bytes_decides (codes "width") n).0 e))
width_at n u other false e = refl

slack_at : (n u : Word) (other : Kind) (b : Bool) → bytes_eq (codes "slack") n ≡ b
    → cond b (says (slack (drop 6 (n ++ 61 ∷ u)))) other ≡ cond b (says (slack u)) other
slack_at n u other true e =
    ap (λ (m : Word). says (slack (drop 6 (m ++ 61 ∷ u)))) (sym ((bytes_decides (codes "slack") n).0 e))
slack_at n u other false e = refl

flows_at : (n u : Word) (other : Kind) (b : Bool) → bytes_eq (codes "flows") n ≡ b
    → cond b (says (flows (drop 6 (n ++ 61 ∷ u)))) other ≡ cond b (says (flows u)) other
flows_at n u other true e =
    ap (λ (m : Word). says (flows (drop 6 (m ++ 61 ∷ u)))) (sym ((bytes_decides (codes "flows") n).0 e))
flows_at n u other false e = refl

spread_at : (n u : Word) (other : Kind) (b : Bool) → bytes_eq (codes "spread") n ≡ b
    → cond b (says (spread (drop 7 (n ++ 61 ∷ u)))) other ≡ cond b (says (spread u)) other
spread_at n u other true e =
    ap (λ (m : Word). says (spread (drop 7 (m ++ 61 ∷ u)))) (sym ((bytes_decides (codes "spread") n).0 e))
spread_at n u other false e = refl

kind_with_value : (n u : Word) → has_byte 61 n ≡ false → option_kind (45 ∷ 45 ∷ (n ++ 61 ∷ u)) ≡ named_kind n (Some u)
kind_with_value n u e =
    (λ i. cond (not_key n u (codes "tight") refl i) (says tight)
    (cond (not_key n u (codes "sweeps") refl i) (wants sweeps)
    (cond (not_key n u (codes "width") refl i) (wants width)
    (cond (not_key n u (codes "slack") refl i) (wants slack)
    (cond (not_key n u (codes "flows") refl i) (wants flows)
    (cond (not_key n u (codes "spread") refl i) (wants spread)
    (cond (key_then_equals n u (codes "sweeps") e refl i) (says (sweeps (drop 7 (n ++ 61 ∷ u))))
    (cond (key_then_equals n u (codes "width") e refl i) (says (width (drop 6 (n ++ 61 ∷ u))))
    (cond (key_then_equals n u (codes "slack") e refl i) (says (slack (drop 6 (n ++ 61 ∷ u))))
    (cond (key_then_equals n u (codes "flows") e refl i) (says (flows (drop 6 (n ++ 61 ∷ u))))
    (cond (key_then_equals n u (codes "spread") e refl i) (says (spread (drop 7 (n ++ 61 ∷ u))))
    (says wrong))))))))))))
    ∙ sweeps_at n u _ (bytes_eq (codes "sweeps") n) refl
    ∙ ap (λ (k : Kind). cond (bytes_eq (codes "sweeps") n) (says (sweeps u)) k)
    (width_at n u _ (bytes_eq (codes "width") n) refl
    ∙ ap (λ (k : Kind). cond (bytes_eq (codes "width") n) (says (width u)) k)
    (slack_at n u _ (bytes_eq (codes "slack") n) refl
    ∙ ap (λ (k : Kind). cond (bytes_eq (codes "slack") n) (says (slack u)) k)
    (flows_at n u _ (bytes_eq (codes "flows") n) refl
    ∙ ap (λ (k : Kind). cond (bytes_eq (codes "flows") n) (says (flows u)) k)
    (spread_at n u (says wrong) (bytes_eq (codes "spread") n) refl))))
    ∙ no_value (bytes_eq (codes "tight") n) refl
  where
    no_value : (b : Bool) → bytes_eq (codes "tight") n ≡ b → valued_kind n u ≡ cond b (says wrong) (valued_kind n u)
    no_value true h = ap (λ (m : Word). valued_kind m u) (sym ((bytes_decides (codes "tight") n).0 h))
    no_value false h = refl

kind_long : (t : Word) → option_kind (45 ∷ 45 ∷ t) ≡ named_kind (name_and_value t).0 (name_and_value t).1
kind_long t = go (has_byte 61 t) refl
  where
    go : (b : Bool) → has_byte 61 t ≡ b → option_kind (45 ∷ 45 ∷ t)
        ≡ named_kind (before_first is_equals t) (cond (has_byte 61 t) (Some (after_first is_equals t)) None)
    go true h =
        let parts = with_equals t h in
        ap (λ (w : Word). option_kind (45 ∷ 45 ∷ w)) parts.0
        ∙ kind_with_value (before_first is_equals t) (after_first is_equals t) parts.1
        ∙ ap (λ (b : Bool). named_kind (before_first is_equals t) (cond b (Some (after_first is_equals t)) None))
        (sym h)
    go false h = kind_alone t h
        ∙ ap₂ (λ (w : Word) (b : Bool). named_kind w (cond b (Some (after_first is_equals t)) None))
        (sym (no_equals t h)) (sym h)

-- ---- the four sorts of words

abbrev pub IsPlain : Word → Type 0
IsPlain word = (bytes_eq word (45 ∷ 45 ∷ []) ≡ false) × (long_of word ≡ None) × (short_of word ≡ None)
    × (kind_of word ≡ says (name word)) × ((begins_with_dash word ≡ false) ⊎ (word ≡ codes "-"))

abbrev pub IsShort : Word → Type 0
IsShort word = (x : ℕ) × (xs : Word) × (c : ℕ) × ((bytes_eq word (45 ∷ 45 ∷ []) ≡ false) × (long_of word ≡ None)
    × (short_of word ≡ Some (x ∷ xs)) × (slice_get (chars (x ∷ xs)) 0 ≡ Some c) × (kind_of word ≡ says wrong)
    × (begins_with_dash word ≡ true))

abbrev pub IsLong : Word → Type 0
IsLong word = (n : Word) × (v : Option Word) × ((bytes_eq word (45 ∷ 45 ∷ []) ≡ false)
    × (long_of word ≡ Some (n, v)) × (kind_of word ≡ named_kind n v) × (begins_with_dash word ≡ true)
    × (v ≡ None → word ≡ 45 ∷ 45 ∷ n))

pub data Lexed (word : Word) : Type 0 where
  closing : word ≡ codes "--" → Lexed word
  plain : IsPlain word → Lexed word
  short : IsShort word → Lexed word
  long : IsLong word → Lexed word

no_dash : (x : ℕ) (xs : Word) → (x == 45) ≡ false → IsPlain (x ∷ xs)
unfolding kind_of
no_dash x xs e =
    let swapped : (45 == x) ≡ false = eq_swapped 45 x ∙ e in (
      ap (λ (b : Bool). b && bytes_eq xs (45 ∷ [])) e,
      rw e refl,
      rw e refl,
      λ i. cond (e i && bytes_eq xs (45 ∷ [])) ends
          (cond (not (swapped i && true) || bytes_eq (x ∷ xs) (codes "-")) (says (name (x ∷ xs)))
          (option_kind (x ∷ xs))),
      inl (ap (λ (b : Bool). b && true) swapped),
    )

dash_alone : IsPlain (45 ∷ [])
unfolding kind_of
dash_alone = (refl, refl, refl, refl, inr refl)

empty_word : IsPlain []
unfolding kind_of
empty_word = (refl, refl, refl, refl, inl refl)

-- a text has a character behind its first dash
has_char : (x : ℕ) (xs : Word) → IsUtf8 (45 ∷ x ∷ xs) → (c : ℕ) × (slice_get (chars (x ∷ xs)) 0 ≡ Some c)
unfolding chars encode_utf8
has_char x xs u = go (chars (x ∷ xs)) (encodes-chars (45 ∷ x ∷ xs) u)
  where
    go : (cs : List ℕ) → encode_utf8_all (45 ∷ cs) ≡ 45 ∷ x ∷ xs → (c : ℕ) × (slice_get cs 0 ≡ Some c)
    go [] e = let one : 1 ≡ suc (suc (length xs)) = ap length e in absurd (omega (arith, one))
    go (c ∷ cs) e = (c, refl)

one_dash : (x : ℕ) (xs : Word) → (x == 45) ≡ false → IsUtf8 (45 ∷ x ∷ xs) → IsShort (45 ∷ x ∷ xs)
unfolding kind_of
one_dash x xs e u =
    let letter = has_char x xs u in
    let swapped : (45 == x) ≡ false = eq_swapped 45 x ∙ e in
    let word : Word = 45 ∷ x ∷ xs in
    let kind : kind_of word ≡ says wrong = λ i. cond (e i && bytes_eq xs []) ends
    (cond (e i && bytes_eq xs (codes "tight")) (says tight)
    (cond (e i && bytes_eq xs (codes "sweeps")) (wants sweeps)
    (cond (e i && bytes_eq xs (codes "width")) (wants width)
    (cond (e i && bytes_eq xs (codes "slack")) (wants slack)
    (cond (e i && bytes_eq xs (codes "flows")) (wants flows)
    (cond (e i && bytes_eq xs (codes "spread")) (wants spread)
    (cond (swapped i && starts_with nat_eq xs (codes "sweeps=")) (says (sweeps (drop 9 word)))
    (cond (swapped i && starts_with nat_eq xs (codes "width=")) (says (width (drop 8 word)))
    (cond (swapped i && starts_with nat_eq xs (codes "slack=")) (says (slack (drop 8 word)))
    (cond (swapped i && starts_with nat_eq xs (codes "flows=")) (says (flows (drop 8 word)))
    (cond (swapped i && starts_with nat_eq xs (codes "spread=")) (says (spread (drop 9 word)))
    (says wrong)))))))))))) in
    (x, xs, letter.0, (ap (λ (b : Bool). b && bytes_eq xs []) e, rw e refl, rw e refl, letter.1, kind, refl))

-- an option without a value is its whole word
alone : (t : Word) → (name_and_value t).1 ≡ None → 45 ∷ 45 ∷ t ≡ 45 ∷ 45 ∷ (name_and_value t).0
alone t none = go (has_byte 61 t) refl
  where
    go : (b : Bool) → has_byte 61 t ≡ b → 45 ∷ 45 ∷ t ≡ 45 ∷ 45 ∷ before_first is_equals t
    go true h =
        let bad : ◌≡◌ {A = Option Word} (Some (after_first is_equals t)) None =
        (λ i. cond (sym h i) (Some (after_first is_equals t)) None) ∙ none in
        absurd (cc)
    go false h = ap (λ (w : Word). 45 ∷ 45 ∷ w) (sym (no_equals t h))

two_dashes : (x : ℕ) (xs : Word) → IsLong (45 ∷ 45 ∷ x ∷ xs)
unfolding kind_of
two_dashes x xs = (
  (name_and_value (x ∷ xs)).0,
  (name_and_value (x ∷ xs)).1,
  (refl, refl, kind_long (x ∷ xs), refl, alone (x ∷ xs)),
)

pub lexed : (word : Word) → IsUtf8 word → Lexed word
lexed [] u = plain empty_word
lexed (x ∷ xs) u = first (x == 45) refl
  where
    behind_one : (ys : Word) → IsUtf8 (45 ∷ ys) → Lexed (45 ∷ ys)
    behind_one [] v = plain dash_alone
    behind_one (y ∷ ys) v = second (y == 45) refl
      where
        behind_two : (zs : Word) → Lexed (45 ∷ 45 ∷ zs)
        behind_two [] = closing refl
        behind_two (z ∷ zs) = long (two_dashes z zs)

        second : (b : Bool) → (y == 45) ≡ b → Lexed (45 ∷ y ∷ ys)
        second true e = subst (λ (d : ℕ). Lexed (45 ∷ d ∷ ys)) (sym (eqb-true y 45 e)) (behind_two ys)
        second false e = short (one_dash y ys e v)

    first : (b : Bool) → (x == 45) ≡ b → Lexed (x ∷ xs)
    first true e =
        let dash : x ≡ 45 = eqb-true x 45 e in
        subst (λ (d : ℕ). Lexed (d ∷ xs)) (sym dash) (behind_one xs (subst (λ (d : ℕ). IsUtf8 (d ∷ xs)) dash u))
    first false e = plain (no_dash x xs e)
