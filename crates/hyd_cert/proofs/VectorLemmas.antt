-- The vectors of a record in one list of heads.
use Rattle.std.proofs.Common.{◌≡◌, ◌≢◌, ◌⊎◌, inl, inr, nat_lt, rules, ℕ, zero, suc, ◌+◌, ◌*◌, ◌-◌, ◌/◌, ◌%◌, ◌==◌, ◌^◌}
use Rattle.std.proofs.Common.{◌<◌, ◌≤◌, ℤ, Bool, true, false, List, [], ◌∷◌, ◌++◌, length, take, drop, All}
use Rattle.std.proofs.Common.{if◌then◌else◌, codes, Option, refl, sym, ap, ap₂, subst, ◌∙◌, append_assoc, arith}
use Rattle.std.specs.Prelude.{slice_index_or}
use Rattle.std.specs.Fmt.{signed_decimal}
use Rattle.std.proofs.lemmas.Nat.{div-mul-add, mul-le}
use Rattle.std.proofs.lemmas.List.{take-append-drop, length-take-le, length-drop, drop-drop, drop-take}
use Rattle.std.proofs.lemmas.List.Elements.{All-take, All-drop, All-cons, All-nil}
use Rattle.std.proofs.lemmas.Grind.{common_steps}
use Rattle.std.proofs.lemmas.Bool.Decides.{Decides-ltb}
use Rattle.std.proofs.lemmas.Slice.{overwrites, take-put_mid_below, between-put_mid, drop-put_mid}
use borrow.Rule.Slice.PartMut.{put_mid}
use Rattle.std.specs.List.{refill}
use Rattle.hyd_io.specs.DeskBytes.{prepend_known}
use Rattle.hyd_io.proofs.MovedBytesLemmas.{prepend_known-prepend_known}
use Rattle.hyd_spec_certificates.specs.Certificate.{IsInBox}
use Rattle.hyd_spec_certificates.specs.declared.Problem.{Problem}
use Rattle.hyd_spec_certificates.specs.declared.Problem.TheVariants.{Main, Pinned}
use Rattle.hyd_spec_certificates.specs.declared.Side.{Side}
use Rattle.hyd_spec_certificates.specs.declared.Side.TheVariants.{Upper, Lower}
use Rattle.hyd_spec_certificates.specs.RecordAndStanding.{Record as Row, Vectors, vector_of, no_vectors}
use Rattle.hyd_spec_certificates.specs.CertificateText.{line, head_lines, vectors_text, period_line, record_text}
use Rattle.hyd_spec_certificates.specs.CertificateText.{IsVector}
use Rattle.hyd_spec_certificates.specs.CertificateText.{IsRow}
use Rattle.hyd_cert.specs.PlacesOfLines.{front_of, front_at, heads_in, head_text}
use Rattle.hyd_cert.specs.VectorsOfRecord.{AreVectors, two_vectors, behind_two, problems_in, place_in}
use Rattle.hyd_cert.specs.RecordView.{IsProblemOf}
use Rattle.hyd_theorems_on_definitions.proofs.CertificateLines.{IsPair, pinned_lines}

-- ---- keys

-- the key of a vector
abbrev pub key_of : ℕ → List ℕ
key_of vector = if vector == 0 then codes "MU" else (if vector == 1 then codes "ML"
    else (if vector % 2 == 0 then codes "PU" else codes "PL"))

by_tests : (a b d : Bool)
    → (if a then codes "MU " else (if b then codes "ML " else (if d then codes "PU " else codes "PL ")))
    ≡ (if a then codes "MU" else (if b then codes "ML" else (if d then codes "PU" else codes "PL"))) ++ (32 ∷ [])
by_tests true b d = refl
by_tests false true d = refl
by_tests false false true = refl
by_tests false false false = refl

front_is_key : (vector : ℕ) → front_of vector ≡ key_of vector ++ (32 ∷ [])
front_is_key vector = by_tests (vector == 0) (vector == 1) (vector % 2 == 0)

by_both : (a b d : Bool) → a ≡ false → b ≡ false → (if a then codes "MU"
    else (if b then codes "ML" else (if d then codes "PU" else codes "PL"))) ≡ (if d then codes "PU" else codes "PL")
by_both true b d e f = absurd (cc)
by_both false true d e f = absurd (cc)
by_both false false d e f = refl

apart : (m n : ℕ) → n < m → (m == n) ≡ false
apart m n low = search (arith, low)

even_rest : (tank : ℕ) → 2 * (tank + 1) % 2 ≡ 0
even_rest tank = omega arith

odd_rest : (tank : ℕ) → (2 * (tank + 1) + 1) % 2 ≡ 1
odd_rest tank = omega arith

even_key : (tank : ℕ) → key_of (2 * (tank + 1)) ≡ codes "PU"
even_key tank =
    by_both (2 * (tank + 1) == 0) (2 * (tank + 1) == 1) (2 * (tank + 1) % 2 == 0)
    (apart (2 * (tank + 1)) 0 (omega arith)) (apart (2 * (tank + 1)) 1 (omega arith))
    ∙ ap (λ r. if r == 0 then codes "PU" else codes "PL") (even_rest tank)

odd_key : (tank : ℕ) → key_of (2 * (tank + 1) + 1) ≡ codes "PL"
odd_key tank =
    by_both (2 * (tank + 1) + 1 == 0) (2 * (tank + 1) + 1 == 1) ((2 * (tank + 1) + 1) % 2 == 0)
    (apart (2 * (tank + 1) + 1) 0 (omega arith)) (apart (2 * (tank + 1) + 1) 1 (omega arith))
    ∙ ap (λ r. if r == 0 then codes "PU" else codes "PL") (odd_rest tank)

-- ---- the text of one vector

pub head_text-append : (n i : ℕ) (us ws : List ℤ) (j : ℕ) → j ≡ i + length us
    → head_text n i (us ++ ws) ≡ head_text n i us ++ head_text n j ws
head_text-append n i [] ws j e = ap (λ k. head_text n k ws) (omega (arith, e))
head_text-append n i (u ∷ us) ws j e =
    ap (λ t. front_at n i ++ (signed_decimal u ++ (10 ∷ t))) (head_text-append n (i + 1) us ws j (omega (arith, e)))
    ∙ sym (append_assoc (front_at n i) (signed_decimal u ++ (10 ∷ head_text n (i + 1) us)) (head_text n j ws)
    ∙ ap (λ t. front_at n i ++ t) (append_assoc (signed_decimal u) (10 ∷ head_text n (i + 1) us) (head_text n j ws)))

head_line_is : (vector : ℕ) (u : ℤ) (rest : List ℕ) → front_of vector ++ (signed_decimal u ++ (10 ∷ rest))
    ≡ line (key_of vector ∷ (signed_decimal u ∷ [])) ++ rest
head_line_is vector u rest =
    ap (λ f. f ++ (signed_decimal u ++ (10 ∷ rest))) (front_is_key vector)
    ∙ (append_assoc (key_of vector) (32 ∷ []) (signed_decimal u ++ (10 ∷ rest))
    ∙ sym (append_assoc (key_of vector ++ (32 ∷ signed_decimal u)) (10 ∷ []) rest
    ∙ append_assoc (key_of vector) (32 ∷ signed_decimal u) (10 ∷ rest)))

vector_text : (n vector j i : ℕ) (us : List ℤ) → i ≡ vector * n + j → j + length us ≤ n
    → head_text n i us ≡ head_lines (key_of vector) us
vector_text n vector j i [] at within = refl
vector_text n vector j i (u ∷ us) at within =
    let here : i / n ≡ vector = ap (λ k. k / n) at ∙ div-mul-add vector n j (omega (arith, within)) in
    ap (λ v. front_of v ++ (signed_decimal u ++ (10 ∷ head_text n (i + 1) us))) here
    ∙ (head_line_is vector u (head_text n (i + 1) us)
    ∙ ap (λ t. line (key_of vector ∷ (signed_decimal u ∷ [])) ++ t)
    (vector_text n vector (j + 1) (i + 1) us (omega (arith, at)) (omega (arith, within))))

-- ---- of two

pair_text : (n vector : ℕ) (us : List ℤ) → n + n ≤ length us
    → head_text n (vector * n) us ≡ vectors_text (key_of vector) (key_of (vector + 1)) (two_vectors n us)
    ++ head_text n ((vector + 2) * n) (behind_two n us)
pair_text n vector us long =
    let upper = take n us in
    let rest = drop n us in
    let lower = take n rest in
    let few : length upper ≡ n = length-take-le n us (omega (arith, long)) in
    let left : length rest ≡ length us - n = length-drop n us in
    let also : length lower ≡ n = length-take-le n rest (omega (arith, long, left)) in
    let second : (vector + 1) * n ≡ vector * n + n = omega arith in
    let third : (vector + 2) * n ≡ vector * n + n + n = omega arith in
    ap (head_text n (vector * n)) (sym (take-append-drop n us))
    ∙ (head_text-append n (vector * n) upper rest ((vector + 1) * n) (omega (arith, second, few))
    ∙ (ap₂ (λ a b. a ++ b) (vector_text n vector 0 (vector * n) upper (omega arith) (omega (arith, few)))
    (ap (head_text n ((vector + 1) * n)) (sym (take-append-drop n rest))
    ∙ (head_text-append n ((vector + 1) * n) lower (drop n rest) ((vector + 2) * n) (omega (arith, second, third, also))
    ∙ ap (λ t. t ++ head_text n ((vector + 2) * n) (drop n rest)) (vector_text n (vector + 1) 0 ((vector + 1) * n)
    lower (omega arith) (omega (arith, also)))))
    ∙ sym (append_assoc (head_lines (key_of vector) upper) (head_lines (key_of (vector + 1)) lower)
    (head_text n ((vector + 2) * n) (drop n rest)))))

behind_length : (n : ℕ) (us : List ℤ) → length (behind_two n us) ≡ length us - n - n
behind_length n us = length-drop n (drop n us) ∙ ap (λ k. k - n) (length-drop n us)

-- ---- of all

none_left : (n i : ℕ) (us : List ℤ) → length us ≡ 0 → head_text n i us ≡ []
none_left n i [] e = refl
none_left n i (u ∷ us) e = absurd (omega (arith, e))

pinned_text : (n more tank : ℕ) (us : List ℤ) → length us ≡ n * (2 * more) → head_text n (2 * (tank + 1) * n) us
    ≡ pinned_lines (problems_in n more us)
pinned_text n zero tank us e = none_left n (2 * (tank + 1) * n) us (e ∙ omega arith)
pinned_text n (suc more) tank us e =
    let several : n * (2 * suc more) ≡ n + n + n * (2 * more) = omega arith in
    let left = behind_length n us in
    let next : (2 * (tank + 1) + 2) * n ≡ 2 * (tank + 1 + 1) * n = ap (λ k. k * n) (omega arith) in
    pair_text n (2 * (tank + 1)) us (omega (arith, e, several))
    ∙ ap₂ (λ a b. a ++ b)
    (ap₂ (λ a b. vectors_text a b (two_vectors n us)) (even_key tank) (odd_key tank))
    (ap (λ i. head_text n i (behind_two n us)) next ∙ pinned_text n more (tank + 1) (behind_two n us)
    (omega (arith, e, several, left)))

-- the lines of all heads are those of the vectors
pub flat_text : (n tanks : ℕ) (us : List ℤ) → AreVectors n tanks us
    → head_text n 0 us ≡ vectors_text (codes "MU") (codes "ML") (two_vectors n us)
    ++ pinned_lines (problems_in n tanks (behind_two n us))
flat_text n tanks us whole =
    let several : heads_in n tanks ≡ n + n + n * (2 * tanks) = omega arith in
    let left = behind_length n us in
    let none : 0 * n ≡ 0 = omega arith in
    let second : (0 + 2) * n ≡ 2 * (0 + 1) * n = omega arith in
    ap (λ i. head_text n i us) (sym none)
    ∙ (pair_text n 0 us (omega (arith, whole, several))
    ∙ ap (λ t. vectors_text (codes "MU") (codes "ML") (two_vectors n us) ++ t)
    (ap (λ i. head_text n i (behind_two n us)) second ∙ pinned_text n tanks 0 (behind_two n us)
    (omega (arith, whole, several, left))))

-- the list after all its items were written
pub refill_whole : {X : Type 0} (old new : List X) → length new ≡ length old → refill (length old) old new ≡ new
refill_whole {X} old new e = ap (λ k. take k (new ++ drop (length new) old)) (sym e) ∙ grind (arith, common_steps)

-- ---- a record

-- a record of these heads
abbrev pub row_with : ℕ → ℕ → ℕ → ℕ → ℕ → List ℤ → Row
row_with n tanks number time seconds us = record {
  number = number;
  time = time;
  length = seconds;
  main = two_vectors n us;
  pinned = problems_in n tanks (behind_two n us);
}

-- its text is that of its PERIOD line and of its heads
pub row_text : (n tanks number time seconds : ℕ) (us : List ℤ) → AreVectors n tanks us
    → record_text (row_with n tanks number time seconds us) ≡ period_line (row_with n tanks number time seconds us)
    ++ head_text n 0 us
row_text n tanks number time seconds us whole = ap (λ t. period_line (row_with n tanks number time seconds us) ++ t)
    (sym (flat_text n tanks us whole))

-- and so it is read
pub row_read : (n tanks number time seconds : ℕ) (us heads : List ℤ) (first second third : Option (List ℕ))
    → us ≡ heads → AreVectors n tanks us
    → first ≡ prepend_known (period_line (row_with n tanks number time seconds us)) second
    → second ≡ prepend_known (head_text n 0 heads) third
    → first ≡ prepend_known (record_text (row_with n tanks number time seconds us)) third
row_read n tanks number time seconds us heads first second third same whole opening heading =
    let period = period_line (row_with n tanks number time seconds us) in
    opening ∙ (ap (prepend_known period) (heading ∙ ap (λ h. prepend_known (head_text n 0 h) third) (sym same))
    ∙ (prepend_known-prepend_known third period (head_text n 0 us)
    ∙ ap (λ t. prepend_known t third) (sym (row_text n tanks number time seconds us whole))))

-- ---- vectors of a record

take_vector : (n : ℕ) (us : List ℤ) → n ≤ length us → All IsInBox us → IsVector n (take n us)
take_vector n us long box = record { one_each = length-take-le n us long; in_box = All-take IsInBox n us box }

two_are : (n : ℕ) (us : List ℤ) → n + n ≤ length us → All IsInBox us → IsVector n (two_vectors n us).upper
    × IsVector n (two_vectors n us).lower
two_are n us long box =
    let left = length-drop n us in (
      take_vector n us (omega (arith, long)) box,
      take_vector n (drop n us) (omega (arith, long, left))
          (All-drop IsInBox n us box),
    )

behind_box : (n : ℕ) (us : List ℤ) → All IsInBox us → All IsInBox (behind_two n us)
behind_box n us box = All-drop IsInBox n (drop n us) (All-drop IsInBox n us box)

pub problems_length : (n more : ℕ) (us : List ℤ) → length (problems_in n more us) ≡ more
problems_length n zero us = refl
problems_length n (suc more) us = let k = problems_length n more (behind_two n us) in omega (arith, k)

problems_are : (n more : ℕ) (us : List ℤ) → length us ≡ n * (2 * more) → All IsInBox us
    → All (IsPair n) (problems_in n more us)
problems_are n zero us e box = All-nil (IsPair n)
problems_are n (suc more) us e box =
    let several : n * (2 * suc more) ≡ n + n + n * (2 * more) = omega arith in
    let left = behind_length n us in
    All-cons (IsPair n) (two_vectors n us) (problems_in n more (behind_two n us))
    (two_are n us (omega (arith, e, several)) box)
    (problems_are n more (behind_two n us) (omega (arith, e, several, left)) (behind_box n us box))

-- heads in the box are vectors of a record
pub row_is : (n tanks number time seconds : ℕ) (us heads : List ℤ) → us ≡ heads → AreVectors n tanks us
    → All IsInBox heads → number < 2 ^ 32 → time < 2 ^ 32 → seconds < 2 ^ 32
    → IsRow n tanks (row_with n tanks number time seconds us)
row_is n tanks number time seconds us heads same whole in_box number_fits time_fits length_fits =
    let box : All IsInBox us = subst (All IsInBox) (sym same) in_box in
    let several : heads_in n tanks ≡ n + n + n * (2 * tanks) = omega arith in
    let left = behind_length n us in
    let main = two_are n us (omega (arith, whole, several)) box in
    let pinned = problems_are n tanks (behind_two n us) (omega (arith, whole, several, left)) (behind_box n us box) in
    record {
      number_fits = number_fits;
      time_fits = time_fits;
      length_fits = length_fits;
      main_upper = main.0;
      main_lower = main.1;
      pinned_each = problems_length n tanks (behind_two n us);
      pinned_upper = λ k d low. (pinned k d low).0;
      pinned_lower = λ k d low. (pinned k d low).1;
    }

-- ---- the vector of a problem and side

problem_at : (n more tank : ℕ) (us : List ℤ) → tank < more → slice_index_or (problems_in n more us) tank no_vectors
    ≡ two_vectors n (drop (2 * tank * n) us)
problem_at n zero tank us low = absurd (omega (arith, low))
problem_at n (suc more) zero us low = ap (λ k. two_vectors n (drop k us)) (sym (none n))
  where
    none : (n : ℕ) → 2 * zero * n ≡ 0
    none n = omega arith
problem_at n (suc more) (suc tank) us low =
    problem_at n more tank (behind_two n us) (omega (arith, low))
    ∙ ap (two_vectors n) (drop-drop (2 * tank * n) n (drop n us)
    ∙ (drop-drop (n + 2 * tank * n) n us ∙ ap (λ k. drop k us) (one_more n tank)))
  where
    one_more : (n tank : ℕ) → n + (n + 2 * tank * n) ≡ 2 * suc tank * n
    one_more n tank = omega arith

pub vector_at : (n tanks number time seconds : ℕ) (us : List ℤ) (problem : Problem) (side : Side)
    → IsProblemOf tanks problem
    → take n (drop (place_in problem side * n) us) ≡ vector_of (row_with n tanks number time seconds us) problem side
vector_at n tanks number time seconds us Main Upper low = let k : 0 * n ≡ 0 = omega arith in
    ap (λ j. take n (drop j us)) k
vector_at n tanks number time seconds us Main Lower low = let k : 1 * n ≡ n = omega arith in
    ap (λ j. take n (drop j us)) k
vector_at n tanks number time seconds us (Pinned tank) Upper low =
    let k : n + (n + 2 * tank * n) ≡ 2 * (tank + 1) * n = omega arith in
    sym (ap (λ (v : Vectors). v.upper) (problem_at n tanks tank (behind_two n us) low)
    ∙ ap (take n) (drop-drop (2 * tank * n) n (drop n us) ∙ (drop-drop (n + 2 * tank * n) n us ∙ ap (λ j. drop j us)
    k)))
vector_at n tanks number time seconds us (Pinned tank) Lower low =
    let k : n + (n + (2 * tank * n + n)) ≡ (2 * (tank + 1) + 1) * n = omega arith in
    sym (ap (λ (v : Vectors). v.lower) (problem_at n tanks tank (behind_two n us) low)
    ∙ ap (take n) (drop-drop n (2 * tank * n) (behind_two n us)
    ∙ (drop-drop (2 * tank * n + n) n (drop n us) ∙ (drop-drop (n + (2 * tank * n + n)) n us ∙ ap (λ j. drop j us) k))))

place_low : (tanks : ℕ) (problem : Problem) (side : Side) → IsProblemOf tanks problem
    → place_in problem side + 1 ≤ 2 + 2 * tanks
place_low tanks Main Upper low = omega arith
place_low tanks Main Lower low = omega arith
place_low tanks (Pinned tank) Upper low = omega (arith, low)
place_low tanks (Pinned tank) Lower low = omega (arith, low)

-- it lies inside the list
pub vector_within : (n tanks : ℕ) (us : List ℤ) (problem : Problem) (side : Side) → AreVectors n tanks us
    → IsProblemOf tanks problem → place_in problem side * n + n ≤ length us
vector_within n tanks us problem side whole low =
    let below = mul-le (place_in problem side + 1) n (2 + 2 * tanks) n (place_low tanks problem side low)
    (omega arith) in
    let one : (place_in problem side + 1) * n ≡ place_in problem side * n + n = omega arith in
    let turned : (2 + 2 * tanks) * n ≡ heads_in n tanks = omega arith in
    omega (arith, below, one, turned, whole)

-- ---- a vector that was written

-- the vector that was written
part_set : (n from : ℕ) (us part : List ℤ) → from + n ≤ length us → length part ≡ n
    → take n (drop from (put_mid from n us part)) ≡ part
part_set n from us part within size =
    let width : n ≡ from + n - from = omega arith in
    ap (λ k. take k (drop from (put_mid from n us part))) width ∙ between-put_mid from n us part (from + n)
    (omega (arith, within)) (omega (arith, size))

put_mid-length : (n from : ℕ) (us part : List ℤ) → from + n ≤ length us → length part ≡ n
    → length (put_mid from n us part) ≡ length us
put_mid-length n from us part within size = search (rules, overwrites, within, size)

-- and any other one
part_below : (n m from : ℕ) (us part : List ℤ) → from + n ≤ length us → m + n ≤ from
    → take n (drop m (put_mid from n us part)) ≡ take n (drop m us)
part_below n m from us part within low =
    sym (drop-take m n (put_mid from n us part))
    ∙ (ap (drop m) (take-put_mid_below from n us part (m + n) low (omega (arith, within))) ∙ drop-take m n us)

part_above : (n m from : ℕ) (us part : List ℤ) → from + n ≤ length us → from + n ≤ m → length part ≡ n
    → take n (drop m (put_mid from n us part)) ≡ take n (drop m us)
part_above n m from us part within high size = ap (take n) (drop-put_mid from n us part m high (omega (arith, within))
    size)

part_by_order : (n a b : ℕ) (us part : List ℤ) → b * n + n ≤ length us → length part ≡ n → (a < b) ⊎ (b < a)
    → take n (drop (a * n) (put_mid (b * n) n us part)) ≡ take n (drop (a * n) us)
part_by_order n a b us part within size (inl low) =
    let below = mul-le (a + 1) n b n (omega (arith, low)) (omega arith) in
    let one : (a + 1) * n ≡ a * n + n = omega arith in
    part_below n (a * n) (b * n) us part within (omega (arith, below, one))
part_by_order n a b us part within size (inr high) =
    let below = mul-le (b + 1) n a n (omega (arith, high)) (omega arith) in
    let one : (b + 1) * n ≡ b * n + n = omega arith in
    part_above n (a * n) (b * n) us part within (omega (arith, below, one)) size

orders : (a b : ℕ) (c : Bool) → nat_lt a b ≡ c → a ≢ b → (a < b) ⊎ (b < a)
orders a b true e apart = inl ((Decides-ltb a b).0 e)
orders a b false e apart = let low : b ≤ a = search (arith, e) in inr (omega (arith, low, apart))

-- what a record has then
pub record IsWritten (n from : ℕ) (us ws part : List ℤ) : Type 0 where
  pub within : from + n ≤ length us
  pub size : length part ≡ n
  pub is : ws ≡ put_mid from n us part

pub written : (n start from : ℕ) (us slice part : List ℤ) → from ≡ start → from + n ≤ length us → length part ≡ n
    → slice ≡ us
    → IsWritten n start us (refill (length us) us (put_mid from (from + n - from) slice part)) part
written n start from us slice part at within size same =
    let width : from + n - from ≡ n = omega arith in
    let long : length (put_mid from n us part) ≡ length us = put_mid-length n from us part within size in
    record {
      within = omega (arith, at, within);
      size = size;
      is = ap₂ (λ k xs. refill (length us) us (put_mid from k xs part)) width same
          ∙ (refill_whole us (put_mid from n us part) long ∙ ap (λ f. put_mid f n us part) at);
    }

pub vector_set : (n tanks number time seconds : ℕ) (us ws part : List ℤ) (problem : Problem) (side : Side)
    → IsProblemOf tanks problem → IsWritten n (place_in problem side * n) us ws part
    → vector_of (row_with n tanks number time seconds ws) problem side ≡ part
vector_set n tanks number time seconds us ws part problem side low k =
    sym (vector_at n tanks number time seconds ws problem side low)
    ∙ (ap (λ xs. take n (drop (place_in problem side * n) xs)) k.is ∙ part_set n (place_in problem side * n) us part
    k.within k.size)

pub vector_kept : (n tanks number time seconds : ℕ) (us ws part : List ℤ) (problem other : Problem) (side face : Side)
    → IsProblemOf tanks other → IsWritten n (place_in problem side * n) us ws part
    → place_in other face ≢ place_in problem side
    → vector_of (row_with n tanks number time seconds ws) other face
    ≡ vector_of (row_with n tanks number time seconds us) other face
vector_kept n tanks number time seconds us ws part problem other side face low k apart =
    let a = place_in other face in
    let b = place_in problem side in
    sym (vector_at n tanks number time seconds ws other face low)
    ∙ (ap (λ xs. take n (drop (a * n) xs)) k.is
    ∙ (part_by_order n a b us part k.within k.size (orders a b (nat_lt a b) refl apart) ∙ vector_at n tanks number
    time seconds us other face low))
