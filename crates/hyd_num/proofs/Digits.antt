-- Rows of decimal digits: capped sums, fronts, and sizes.
use Rattle.std.proofs.Common.{◌≡◌, ℕ, suc, ◌+◌, ◌-◌, ◌*◌, ◌/◌, ◌^◌, ◌<◌, ◌≤◌, inl, inr, Bool, true, false, nat_le, min}
use Rattle.std.proofs.Common.{List, [], ◌∷◌, ◌++◌, length, take, drop, fold, refl, ap, sym, ◌∙◌, arith, lit≤, lit<}
use Rattle.std.proofs.Common.{pow-suc, mul-le-mul_right, mul-le-mul_left, le_of_lt, lt_of_lt_of_le, length-drop}
use Rattle.std.proofs.Common.{div-one, mul-one, ℤ, add-one, leb-true, not, nat_lt, unwrap_or, position, ltb-false}
use Rattle.std.proofs.Common.{le_antisymm, drop_of_length-le, one-add}
use Rattle.std.specs.List.{list_all, list_any, position_or_len, after_first}
use Rattle.std.proofs.lemmas.Nat.{div-mul-add}
use Rattle.std.proofs.Math.Nat.{pow-le-pow_right, one-le-pow, div-eq_of_lt}
use Rattle.std.proofs.lemmas.Bool.{cases_lt, cases_Bool, and_parts, or_parts}
use Rattle.std.proofs.lemmas.List.{take-append-drop}
use Rattle.std.proofs.lemmas.List.Sums.{fold-append, prefix_len-le-length}
use Rattle.std.proofs.lemmas.List.Folds.{list_all-append}
use Rattle.hyd_num.specs.Numeral.{is_digit, number, shifted}
use borrow.Author.Differences.{up, down}

-- one digit more
abbrev pub step : ℕ → ℕ → ℕ
step n c = 10 * n + (c - 48)

-- a row that is added to a capped number
pub capped_row : (b x : ℕ) (ds : List ℕ) → min (fold step (min x b) ds) b ≡ min (fold step x ds) b
capped_row b x [] = omega arith
capped_row b x (d ∷ ds) =
    let e : min (step (min x b) d) b ≡ min (step x d) b = omega arith in
    sym (capped_row b (step (min x b) d) ds) ∙ ap (λ v. min (fold step v ds) b) e ∙ capped_row b (step x d) ds

pub capped_rows : (b : ℕ) (xs ys : List ℕ) → min (fold step (min (fold step 0 xs) b) ys) b ≡ min (number (xs ++ ys)) b
capped_rows b xs ys = capped_row b (fold step 0 xs) ys ∙ ap (λ v. min v b) (sym (fold-append step 0 xs ys))

-- a power of ten of a capped number
pub capped_power : (b n k : ℕ) → min (min n b * 10 ^ k) b ≡ min (n * 10 ^ k) b
capped_power b n k = elim (cases_lt b n) [
  | inl l ↦ (let p : 1 ≤ 10 ^ k = one-le-pow k 10 (lit≤ tt) in
      let h : b * 1 ≤ b * 10 ^ k = mul-le-mul_left b p in
      let m : b * 10 ^ k ≤ n * 10 ^ k = mul-le-mul_right (10 ^ k) (le_of_lt l) in
      let e : min n b ≡ b = omega arith in
      rw e (omega (arith, h, m)))
  | inr g ↦ (let e : min n b ≡ n = omega arith in rw e refl)
]

pub capped_tenfold : (b n k : ℕ) → min (10 * min (n * 10 ^ k) b) b ≡ min (n * 10 ^ (k + 1)) b
capped_tenfold b n k = rw (add-one, pow-suc 10 k) (omega arith)

-- what stands before a row
fold_from : (a : ℕ) (ds : List ℕ) → fold step a ds ≡ a * 10 ^ length ds + fold step 0 ds
fold_from a [] = omega arith
fold_from a (d ∷ ds) =
    let e : fold step (10 * a + (d - 48)) ds ≡ (10 * a + (d - 48)) * 10 ^ length ds + fold step 0 ds = fold_from
    (10 * a + (d - 48)) ds in
    let f : fold step (10 * 0 + (d - 48)) ds ≡ (10 * 0 + (d - 48)) * 10 ^ length ds + fold step 0 ds = fold_from
    (10 * 0 + (d - 48)) ds in
    let g : 10 ^ suc (length ds) ≡ 10 ^ length ds * 10 = pow-suc 10 (length ds) in
    let r : fold step (10 * a + (d - 48)) ds ≡ a * 10 ^ suc (length ds) + fold step (10 * 0 + (d - 48)) ds =
    omega (arith, e, f, ap (λ x. a * x) g) in r

-- n digits write a number below the n-th power of ten
pub below_power : (ds : List ℕ) → list_all is_digit ds ≡ true → number ds < 10 ^ length ds
below_power [] h = lit< tt
below_power (d ∷ ds) h =
    let p : (is_digit d ≡ true) × (list_all is_digit ds ≡ true) = and_parts (is_digit d) (list_all is_digit ds) h in
    let q : (nat_le 48 d ≡ true) × (nat_le d 57 ≡ true) = and_parts (nat_le 48 d) (nat_le d 57) p.0 in
    let small : d - 48 ≤ 9 = omega (arith, leb-true d 57 q.1) in
    let m : (d - 48) * 10 ^ length ds ≤ 9 * 10 ^ length ds = mul-le-mul_right (10 ^ length ds) small in
    let f : fold step (10 * 0 + (d - 48)) ds ≡ (10 * 0 + (d - 48)) * 10 ^ length ds + fold step 0 ds = fold_from
    (10 * 0 + (d - 48)) ds in
    let r : fold step (10 * 0 + (d - 48)) ds < 10 ^ suc (length ds) =
    omega (arith, f, below_power ds p.1, m, pow-suc 10 (length ds)) in r

-- the number of a row without its last digits
row_divided : (xs ys : List ℕ) → list_all is_digit (xs ++ ys) ≡ true → number (xs ++ ys) / 10 ^ length ys ≡ number xs
row_divided xs ys h =
    let p : (list_all is_digit xs ≡ true) × (list_all is_digit ys ≡ true) = and_parts (list_all is_digit xs)
    (list_all is_digit ys) (sym (list_all-append is_digit xs ys) ∙ h) in
    let e : number (xs ++ ys) ≡ number xs * 10 ^ length ys + number ys = fold-append step 0 xs ys
    ∙ fold_from (fold step 0 xs) ys in
    ap (λ x. x / 10 ^ length ys) e ∙ div-mul-add (number xs) (10 ^ length ys) (number ys) (below_power ys p.1)

-- the front of a row is its number divided by a power of ten
pub front_row : (k : ℕ) (ds : List ℕ) → list_all is_digit ds ≡ true
    → number ds / 10 ^ k ≡ number (take (length ds - k) ds)
front_row k ds h = elim (cases_lt (length ds) k) [
  | inl l ↦ (let z : length ds - k ≡ 0 = omega arith in
      let m : 10 ^ length ds ≤ 10 ^ k = pow-le-pow_right {n = 10} (lit≤ tt) (le_of_lt l) in
      rw z (div-eq_of_lt (lt_of_lt_of_le (below_power ds h) m)))
  | inr g ↦ (let e : take (length ds - k) ds ++ drop (length ds - k) ds ≡ ds = take-append-drop (length ds - k) ds in
      let n : length (drop (length ds - k) ds) ≡ k = length-drop (length ds - k) ds
      ∙ (let o : length ds - (length ds - k) ≡ k = omega arith in o) in
      let a : list_all is_digit (take (length ds - k) ds ++ drop (length ds - k) ds)
      ≡ true = ap (λ x. list_all is_digit x) e ∙ h in
      ap (λ x. number x / 10 ^ k) (sym e)
      ∙ ap (λ x. number (take (length ds - k) ds ++ drop (length ds - k) ds) / 10 ^ x) (sym n)
      ∙ row_divided (take (length ds - k) ds) (drop (length ds - k) ds) a)
]

pub three_digits : (ds : List ℕ) → list_all is_digit ds ≡ true → length ds ≤ 3 → number ds ≤ 999
three_digits ds h short =
    let l : 10 ^ length ds ≤ 10 ^ 3 = pow-le-pow_right {n = 10} (lit≤ tt) short in
    omega (arith, l, below_power ds h)

-- a number that is multiplied or divided by a power of ten
pub shifted_up : (n k l : ℕ) (z : ℤ) → k ≡ up z → l ≡ down z → l ≡ 0 → n * 10 ^ k ≡ shifted n z
shifted_up n k l z more lost none = rw (← more, ← lost, none) (sym (div-one (n * 10 ^ k)))

pub shifted_down : (n k l : ℕ) (z : ℤ) → k ≡ up z → l ≡ down z → k ≡ 0 → n / 10 ^ l ≡ shifted n z
shifted_down n k l z more lost none = rw (← more, ← lost, none) (ap (λ x. x / 10 ^ l) (sym (mul-one n)))

-- the first place that passes, or the end
pub place_is : (p : ℕ → Bool) (xs : List ℕ) → unwrap_or (position p xs) (length xs) ≡ position_or_len p xs
place_is p xs = elim (cases_Bool (nat_lt (position_or_len p xs) (length xs))) [
  | inl t ↦ rw t refl
  | inr f ↦ (let a : length xs ≤ position_or_len p xs = ltb-false (position_or_len p xs) (length xs) f in
      let b : position_or_len p xs ≤ length xs = prefix_len-le-length (λ x. not (p x)) xs in
      rw f (le_antisymm a b))
]

no_place : (p : ℕ → Bool) (xs : List ℕ) → list_any p xs ≡ false → position_or_len p xs ≡ length xs
no_place p [] none = refl
no_place p (x ∷ xs) none =
    let q : (p x ≡ false) × (list_any p xs ≡ false) = or_parts (p x) (list_any p xs) none in
    rw (q.0, one-add) (ap suc (no_place p xs q.1))

-- where nothing passes, nothing stands behind it
pub nothing_behind : (p : ℕ → Bool) (xs : List ℕ) → list_any p xs ≡ false → after_first p xs ≡ []
nothing_behind p xs none = let e : position_or_len p xs ≡ length xs = no_place p xs none in
    let l : length xs ≤ position_or_len p xs + 1 = omega (arith, e) in
    drop_of_length-le xs {i = position_or_len p xs + 1} l
