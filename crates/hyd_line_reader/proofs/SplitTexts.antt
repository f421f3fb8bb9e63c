-- Texts split at a byte.
use Rattle.std.proofs.Common.{◌≡◌, ◌≢◌, ℕ, zero, suc, ◌+◌, ◌-◌, ◌<◌, ◌≤◌, Option, Some, None, IfSome, IfNone}
use Rattle.std.proofs.Common.{MatchOption, List, [], ◌∷◌, ◌++◌, length, length-append, take, drop, get_or, refl, sym}
use Rattle.std.proofs.Common.{ap, ap₂, ◌∙◌, subst, arith, add-one, drop-cons}
use Rattle.std.proofs.lemmas.Grind.{common_steps}
use Rattle.std.proofs.lemmas.List.{take-append-drop, take_more, length-take, length-take-le, append-nil, drop-take}
use Rattle.std.proofs.lemmas.List.{drop-drop, get_or-take, take-append-le}
use Rattle.std.proofs.Math.Seq.{take-append-add}
use Rattle.std.proofs.lemmas.Slice.{take-put_mid}
use borrow.Rule.Slice.PartMut.{put_mid}
use Rattle.hyd_io.specs.DeskBytes.{prepend_known, where_told}
use Rattle.hyd_io.proofs.MovedBytesLemmas.{prepend_known-prepend_known, take-drop}
use Rattle.hyd_line_reader.specs.TextsWithoutLine.{HasNo, HasNoLine}
use Rattle.hyd_lemmas.proofs.ListsOptionsAndResults.{same_item}

-- a text is what is before the byte at n, that byte, and what follows
pub split_at : (line : List ℕ) (n c : ℕ) → n < length line → get_or line n 0 ≡ c
    → line ≡ take n line ++ (c ∷ drop (n + 1) line)
split_at line n c long at =
    sym (take-append-drop n line) ∙ ap (λ r. take n line ++ r) (drop-cons line n 0 long ∙ ap₂ (λ x xs. x ∷ xs) at
    (ap (λ k. drop k line) (sym (add-one n))))

-- what follows a front and one byte
pub split_after : (word line : List ℕ) (c : ℕ) → length word < length line → take (length word) line ≡ word
    → get_or line (length word) 0 ≡ c
    → line ≡ word ++ (c ∷ take (length line - (length word + 1)) (drop (length word + 1) line))
split_after word line c long front at =
    split_at line (length word) c long at ∙ ap₂ (λ w r. w ++ (c ∷ r)) front (sym (take-drop line (length word + 1)))

-- the front of a text that is split after a word
pub front_of : (word line rest : List ℕ) (c : ℕ) → line ≡ word ++ (c ∷ rest) → take (length word) line ≡ word
front_of word line rest c e = ap (take (length word)) e ∙ grind (arith, common_steps)

-- the byte behind it
pub byte_after : (word line rest : List ℕ) (c : ℕ) → line ≡ word ++ (c ∷ rest) → get_or line (length word) 0 ≡ c
byte_after word line rest c e = ap (λ l. get_or l (length word) 0) e ∙ grind (arith, common_steps)

-- one byte more
has_no_push : (byte : ℕ) (xs : List ℕ) (c : ℕ) → HasNo byte xs → c ≢ byte → HasNo byte (xs ++ (c ∷ []))
has_no_push byte [] c all h = (h, tt)
has_no_push byte (x ∷ xs) c all h = (all.0, has_no_push byte xs c all.1 h)

pub has_no_more : (byte : ℕ) (text : List ℕ) (i : ℕ) → i < length text → get_or text i 0 ≢ byte
    → HasNo byte (take i text) → HasNo byte (take (i + 1) text)
has_no_more byte text i within at all = subst (HasNo byte) (sym (take_more text i 0 within))
    (has_no_push byte (take i text) (get_or text i 0) all at)

-- texts are split at the first of a byte in one way
pub split-same : (byte : ℕ) (a b r s : List ℕ) → HasNo byte a → HasNo byte b → a ++ (byte ∷ r) ≡ b ++ (byte ∷ s)
    → (a ≡ b) × (r ≡ s)
split-same byte [] [] r s no_a no_b e = (refl, cc)
split-same byte [] (y ∷ b) r s no_a no_b e = let first : byte ≡ y = cc in absurd (no_b.0 (sym first))
split-same byte (x ∷ a) [] r s no_a no_b e = let first : x ≡ byte = cc in absurd (no_a.0 first)
split-same byte (x ∷ a) (y ∷ b) r s no_a no_b e =
    let first : x ≡ y = cc in let after : a ++ (byte ∷ r) ≡ b ++ (byte ∷ s) = cc in
    let rest = split-same byte a b r s no_a.1 no_b.1 after in (ap₂ (λ z zs. z ∷ zs) first rest.0, rest.1)

-- and one that has the byte has it
pub has_none : (byte : ℕ) (a r : List ℕ) → HasNo byte (a ++ (byte ∷ r)) → ⊥
has_none byte [] r all = all.0 refl
has_none byte (x ∷ a) r all = has_none byte a r all.1

pub match_some : {A : Type 0} (o : Option A) (P : Type 0) (Q : A → Type 0) → MatchOption o P Q → IfSome o Q
match_some None P Q h = tt
match_some (Some x) P Q h = h

pub match_none : {A : Type 0} (o : Option A) (P : Type 0) (Q : A → Type 0) → MatchOption o P Q → IfNone o P
match_none None P Q h = h
match_none (Some x) P Q h = tt

-- ---- the block of a source

-- passing over bytes of the part that is held
pub skipped : (block : List ℕ) (at end n : ℕ) → n ≤ end - at → take (end - (at + n)) (drop (at + n) block)
    ≡ drop n (take (end - at) (drop at block))
skipped block at end n within =
    let parts : end - at ≡ n + (end - (at + n)) = omega arith in
    sym (ap (λ k. drop n (take k (drop at block))) parts ∙ (drop-take n (end - (at + n)) (drop at block)
    ∙ ap (take (end - (at + n))) (drop-drop n at block)))

take_past : (a b : List ℕ) (k n : ℕ) → length a ≡ k → take (k + n) (a ++ b) ≡ a ++ take n b
take_past a b k n e = ap (λ j. take (j + n) (a ++ b)) (sym e) ∙ take-append-add a b n

-- bytes read behind the first of a block
pub read_front : (block buffer : List ℕ) (used k n : ℕ) → used ≤ length block → n ≤ length buffer
    → take (used + n) (put_mid used k block buffer) ≡ take used block ++ take n buffer
read_front block buffer used k n within few =
    let whole = take-put_mid used k block buffer (used + length buffer) refl within in
    let front : take (used + n) (take (used + length buffer) (put_mid used k block buffer))
    ≡ take (used + n) (put_mid used k block buffer) = grind (arith, common_steps) in
    let len : length (take used block) ≡ used = length-take-le used block within in
    sym front ∙ (ap (take (used + n)) whole ∙ take_past (take used block) buffer used n len)

pub read_same : (block buffer : List ℕ) (used k n : ℕ) (old new : Option (List ℕ)) → used ≤ length block
    → n ≤ length buffer → old ≡ prepend_known (take n buffer) new
    → prepend_known (take (used + n) (put_mid used k block buffer)) new ≡ prepend_known (take used block) old
read_same block buffer used k n old new within few e =
    ap (λ p. prepend_known p new) (read_front block buffer used k n within few)
    ∙ (sym (prepend_known-prepend_known new (take used block) (take n buffer)) ∙ ap (prepend_known (take used block))
    (sym e))

-- ---- no line

has_no_at : (byte : ℕ) (xs : List ℕ) (i : ℕ) → HasNo byte xs → i < length xs → get_or xs i 0 ≢ byte
has_no_at byte [] i all within = absurd (omega arith)
has_no_at byte (x ∷ xs) zero all within = all.0
has_no_at byte (x ∷ xs) (suc i) all within = has_no_at byte xs i all.1 (omega arith)

at_end : (line rest : List ℕ) (c : ℕ) → get_or (line ++ (c ∷ rest)) (length line) 0 ≡ c
at_end line rest c = grind (arith, common_steps)

-- a line feed at a place among the first 64 bytes
no_line_at : (text : List ℕ) (k : ℕ) → HasNo 10 (take k text) → (line rest : List ℕ) → length line < k
    → length line < length text → text ≡ line ++ (10 ∷ rest) → ⊥
no_line_at text k all line rest short within e =
    let few : length line < length (take k text) = (let l = length-take k text in omega (arith, l)) in
    let at : get_or (take k text) (length line) 0 ≡ get_or text (length line) 0 = grind (arith, common_steps) in
    has_no_at 10 (take k text) (length line) all few (at ∙ (ap (λ t. get_or t (length line) 0) e ∙ at_end line rest 10))

-- 64 bytes are held, and no line feed
pub full_none : (held : List ℕ) (rest : Option (List ℕ)) → 64 ≤ length held → HasNo 10 (take 64 held)
    → HasNoLine (prepend_known held rest)
full_none held None full all line more free short e = absurd (cc)
full_none held (Some rest) full all line more free short e =
    let front = take-append-le 64 held rest full in
    let long : length line < length (held ++ rest) = (let l = length-append held rest in omega (arith, l)) in
    no_line_at (held ++ rest) 64 (subst (HasNo 10) (sym front) all) line more short long
    (same_item _ (held ++ rest) (line ++ (10 ∷ more)) e)

-- nothing is left, and none is held
pub end_none : (held : List ℕ) (old new : Option (List ℕ)) → prepend_known held new ≡ prepend_known held old
    → old ≡ where_told old [] → HasNo 10 held → HasNoLine (prepend_known held new)
end_none held None new same end all line more free short e = absurd (cc (same, e))
end_none held (Some rest) new same end all line more free short e =
    let none : rest ≡ [] = same_item _ rest [] end in
    let whole : held ++ rest ≡ line ++ (10 ∷ more) = same_item _ (held ++ rest) (line ++ (10 ∷ more)) (sym same ∙ e) in
    let text : held ≡ line ++ (10 ∷ more) = sym (append-nil held) ∙ (ap (λ r. held ++ r) (sym none) ∙ whole) in
    has_none 10 line more (subst (HasNo 10) text all)

-- ---- the line that a source finds

take_shorter : (n k : ℕ) (xs : List ℕ) → n ≤ k → take n (take k xs) ≡ take n xs
take_shorter n k xs low = grind (arith, common_steps)

pub line_there : (held : List ℕ) (k n : ℕ) → n < length (take k held) → get_or (take k held) n 0 ≡ 10
    → held ≡ take n held ++ (10 ∷ drop (n + 1) held)
line_there held k n within at =
    let l = length-take k held in
    split_at held n 10 (omega (arith, l)) (sym (get_or-take k held n 0 (omega (arith, l))) ∙ at)

pub line_free : (held : List ℕ) (k n : ℕ) → n < length (take k held) → HasNo 10 (take n (take k held))
    → HasNo 10 (take n held)
line_free held k n within free = let l = length-take k held in let low : n ≤ k = omega (arith, l) in
    subst (HasNo 10) (take_shorter n k held low) free

-- a text of which something is held isn't at its end
pub not_over : (held : List ℕ) (rest : Option (List ℕ)) → 0 < length held → prepend_known held rest ≢ Some []
not_over held None some e = absurd (cc)
not_over [] (Some rest) some e = absurd (omega arith)
not_over (c ∷ held) (Some rest) some e = let same : c ∷ (held ++ rest) ≡ [] = same_item _ (c ∷ (held ++ rest)) [] e in
    absurd (cc)
