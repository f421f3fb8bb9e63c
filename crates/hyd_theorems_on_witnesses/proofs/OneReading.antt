-- The lines of a witness are read in one way.
use Rattle.std.proofs.Common.{subst, ◌≡◌, ℕ, suc, ◌^◌, ◌<◌, ℤ, pos, negsuc, List, [], ◌∷◌, ◌++◌, length, map, codes}
use Rattle.std.proofs.Common.{refl, sym, ap, ap₂, ◌∙◌, append_assoc, arith, drop}
use Rattle.std.specs.Prelude.{All}
use Rattle.std.specs.Fmt.{decimal, signed_decimal}
use Rattle.std.specs.Str.Parse.{AllDigits}
use Rattle.std.proofs.Math.Nat.{pow-le-pow_right}
use Rattle.std.proofs.lemmas.Fmt.{decimal_is_IsNumeral_wide}
use Rattle.std.proofs.lemmas.Str.Parse.{digit_from_value}
use Rattle.std.proofs.lemmas.List.{append-nil}
use Rattle.std.proofs.lemmas.List.Elements.{All-head, All-tail}
use Rattle.hyd_spec.specs.Lists.{joined}
use Rattle.hyd_spec_certificates.specs.CertificateText.{line}
use Rattle.hyd_spec_witnesses.specs.MetPeriods.{Moment}
use Rattle.hyd_spec_witnesses.specs.WitnessText.{Counts, moment_line, value_lines, stock_line}
use Rattle.hyd_spec_witnesses.specs.WitnessText.{stock_lines, moment_text, witness_end, IsValue, AreValues, IsMoment}
use Rattle.hyd_spec_witnesses.specs.WitnessText.{IsScale, IsWitnessText}
use Rattle.hyd_theorems_on_definitions.proofs.OneFirstLine.{IsWord, AreWords, line-same}
use Rattle.hyd_theorems_on_definitions.proofs.CertificateLines.{decimal-same}

-- ---- numerals

digits-word : (digits : List ℕ) → AllDigits 10 digits → IsWord digits
digits-word [] h = tt
digits-word (c ∷ cs) h = (let k = digit_from_value c h.0 in omega arith, digits-word cs h.1)

decimal-word : (n : ℕ) → n < 10 ^ 64 → IsWord (decimal n)
decimal-word n short = digits-word (decimal n) (decimal_is_IsNumeral_wide n short).0.1

number-same : (m n : ℕ) → m < 2 ^ 32 → n < 2 ^ 32 → decimal m ≡ decimal n → m ≡ n
number-same m n fits_m fits_n e = decimal-same m n (omega arith) (omega arith) e

value-word : (v : ℤ) → IsValue v → IsWord (signed_decimal v)
value-word (pos n) is = decimal-word n (omega (arith, is))
value-word (negsuc n) is = (omega arith, decimal-word (suc n) (omega (arith, is)))

-- a numeral of digits doesn't begin with a minus sign
unsigned : (n : ℕ) (rest : List ℕ) → n < 10 ^ 64 → decimal n ≡ 45 ∷ rest → ⊥
unsigned n rest short e =
    let digits : AllDigits 10 (45 ∷ rest) = subst (AllDigits 10) e (decimal_is_IsNumeral_wide n short).0.1 in
    let k = digit_from_value 45 digits.0 in omega arith

value-same : (v w : ℤ) → IsValue v → IsValue w → signed_decimal v ≡ signed_decimal w → v ≡ w
value-same (pos m) (pos n) is_v is_w e = ap pos (decimal-same m n (omega (arith, is_v)) (omega (arith, is_w)) e)
value-same (pos m) (negsuc n) is_v is_w e = absurd (unsigned m (decimal (suc n)) (omega (arith, is_v)) e)
value-same (negsuc m) (pos n) is_v is_w e = absurd (unsigned n (decimal (suc m)) (omega (arith, is_w)) (sym e))
value-same (negsuc m) (negsuc n) is_v is_w e =
    let same = decimal-same (suc m) (suc n) (omega (arith, is_v)) (omega (arith, is_w)) (ap (drop 1) e) in
    ap negsuc (omega (arith, same))

-- ---- values

values-same : (key : List ℕ) → IsWord key → (count : ℕ) (vs ws : List ℤ) → AreValues count vs → AreValues count ws
    → (r s : List ℕ) → value_lines key vs ++ r ≡ value_lines key ws ++ s → (vs ≡ ws) × (r ≡ s)
values-same key is_key count vs ws are_v are_w = by vs ws (are_v.one_each ∙ sym are_w.one_each) are_v.in_range
    are_w.in_range
  where
    by : (xs ys : List ℤ) → length xs ≡ length ys → All IsValue xs → All IsValue ys → (r s : List ℕ)
        → value_lines key xs ++ r ≡ value_lines key ys ++ s → (xs ≡ ys) × (r ≡ s)
    by [] [] n are_x are_y r s e = (refl, e)
    by [] (y ∷ ys) n are_x are_y r s e = absurd (omega (arith, n))
    by (x ∷ xs) [] n are_x are_y r s e = absurd (omega (arith, n))
    by (x ∷ xs) (y ∷ ys) n are_x are_y r s e =
        let is_x = All-head IsValue x xs are_x in let is_y = All-head IsValue y ys are_y in
        let k = line-same key key (signed_decimal x ∷ []) (signed_decimal y ∷ []) (value_lines key xs ++ r)
        (value_lines key ys ++ s)
        (is_key, (value-word x is_x, tt)) (is_key, (value-word y is_y, tt))
        (sym (append_assoc (line (key ∷ (signed_decimal x ∷ []))) (value_lines key xs) r)
        ∙ (e ∙ append_assoc (line (key ∷ (signed_decimal y ∷ []))) (value_lines key ys) s)) in
        let words_same = k.0 in let numeral : signed_decimal x ≡ signed_decimal y = cc in
        let first = value-same x y is_x is_y numeral in
        let rest = by xs ys (omega (arith, n)) (All-tail IsValue x xs are_x) (All-tail IsValue y ys are_y) r s k.1 in
        let others = rest.0 in (cc, rest.1)

-- ---- levels and volumes

stocks-same : (ls vs ms ws : List ℤ) → length ls ≡ length ms → length vs ≡ length ls → length ws ≡ length ms
    → All IsValue ls → All IsValue vs → All IsValue ms → All IsValue ws → (r s : List ℕ)
    → stock_lines ls vs ++ r ≡ stock_lines ms ws ++ s → ((ls ≡ ms) × (vs ≡ ws)) × (r ≡ s)
stocks-same [] [] [] [] n a b are_l are_v are_m are_w r s e = ((refl, refl), e)
stocks-same [] [] [] (w ∷ ws) n a b are_l are_v are_m are_w r s e = absurd (omega (arith, b))
stocks-same [] (v ∷ vs) ms ws n a b are_l are_v are_m are_w r s e = absurd (omega (arith, a))
stocks-same [] [] (m ∷ ms) ws n a b are_l are_v are_m are_w r s e = absurd (omega (arith, n))
stocks-same (l ∷ ls) [] ms ws n a b are_l are_v are_m are_w r s e = absurd (omega (arith, a))
stocks-same (l ∷ ls) (v ∷ vs) [] ws n a b are_l are_v are_m are_w r s e = absurd (omega (arith, n))
stocks-same (l ∷ ls) (v ∷ vs) (m ∷ ms) [] n a b are_l are_v are_m are_w r s e = absurd (omega (arith, b))
stocks-same (l ∷ ls) (v ∷ vs) (m ∷ ms) (w ∷ ws) n a b are_l are_v are_m are_w r s e =
    let is_l = All-head IsValue l ls are_l in let is_v = All-head IsValue v vs are_v in
    let is_m = All-head IsValue m ms are_m in let is_w = All-head IsValue w ws are_w in
    let k = line-same (codes "L") (codes "L") (signed_decimal l ∷ (signed_decimal v ∷ []))
    (signed_decimal m ∷ (signed_decimal w ∷ [])) (stock_lines ls vs ++ r) (stock_lines ms ws ++ s)
    (search arith, (value-word l is_l, (value-word v is_v, tt)))
    (search arith, (value-word m is_m, (value-word w is_w, tt)))
    (sym (append_assoc (stock_line l v) (stock_lines ls vs) r)
    ∙ (e ∙ append_assoc (stock_line m w) (stock_lines ms ws) s)) in
    let words_same = k.0 in let level : signed_decimal l ≡ signed_decimal m = cc in
    let volume : signed_decimal v ≡ signed_decimal w = cc in
    let first = value-same l m is_l is_m level in let second = value-same v w is_v is_w volume in
    let rest = stocks-same ls vs ms ws (omega (arith, n)) (omega (arith, a)) (omega (arith, b))
    (All-tail IsValue l ls are_l) (All-tail IsValue v vs are_v) (All-tail IsValue m ms are_m)
    (All-tail IsValue w ws are_w) r s k.1 in
    ((ap₂ (λ x xs. x ∷ xs) first rest.0.0, ap₂ (λ x xs. x ∷ xs) second rest.0.1), rest.1)

-- ---- periods

period-words : (number time seconds : ℕ) → number < 2 ^ 32 → time < 2 ^ 32 → seconds < 2 ^ 32
    → AreWords (codes "PERIOD" ∷ (decimal number ∷ (decimal time ∷ (decimal seconds ∷ []))))
period-words number time seconds a b c = (
  search arith,
  (
    decimal-word number (omega arith),
    (
      decimal-word time (omega arith),
      (decimal-word seconds (omega arith), tt),
    ),
  ),
)

-- the lines of a period, one kind behind another
behind : Moment → List ℕ → List ℕ
behind moment r =
    value_lines (codes "H") moment.heads ++ (value_lines (codes "Q") moment.flows
    ++ (value_lines (codes "D") moment.demands ++ (value_lines (codes "E") moment.emitters
    ++ (stock_lines moment.levels moment.volumes ++ r))))

moment-parts : (moment : Moment) (r : List ℕ) → moment_text moment ++ r ≡ moment_line moment ++ behind moment r
unfolding behind
moment-parts moment r =
    let H = value_lines (codes "H") moment.heads in let Q = value_lines (codes "Q") moment.flows in
    let D = value_lines (codes "D") moment.demands in let E = value_lines (codes "E") moment.emitters in
    let L = stock_lines moment.levels moment.volumes in
    append_assoc (moment_line moment) (H ++ (Q ++ (D ++ (E ++ L)))) r
    ∙ ap (λ t. moment_line moment ++ t)
    (append_assoc H (Q ++ (D ++ (E ++ L))) r
    ∙ ap (λ t. H ++ t) (append_assoc Q (D ++ (E ++ L)) r
    ∙ ap (λ t. Q ++ t) (append_assoc D (E ++ L) r
    ∙ ap (λ t. D ++ t) (append_assoc E L r))))

moment-same : (counts : Counts) (a b : Moment) → IsMoment counts a → IsMoment counts b → (r s : List ℕ)
    → moment_text a ++ r ≡ moment_text b ++ s → (a ≡ b) × (r ≡ s)
unfolding behind
moment-same counts a b is_a is_b r s e =
    let first = line-same (codes "PERIOD") (codes "PERIOD")
    (decimal a.number ∷ (decimal a.time ∷ (decimal a.length ∷ [])))
    (decimal b.number ∷ (decimal b.time ∷ (decimal b.length ∷ []))) (behind a r) (behind b s)
    (period-words a.number a.time a.length is_a.number_fits is_a.time_fits is_a.length_fits)
    (period-words b.number b.time b.length is_b.number_fits is_b.time_fits is_b.length_fits)
    (sym (moment-parts a r) ∙ (e ∙ moment-parts b s)) in
    let words = first.0 in
    let number = number-same a.number b.number is_a.number_fits is_b.number_fits (cc) in
    let time = number-same a.time b.time is_a.time_fits is_b.time_fits (cc) in
    let seconds = number-same a.length b.length is_a.length_fits is_b.length_fits (cc) in
    let heads = values-same (codes "H") (search arith) counts.junctions a.heads b.heads is_a.heads is_b.heads _ _
    first.1 in
    let flows = values-same (codes "Q") (search arith) counts.links a.flows b.flows is_a.flows is_b.flows _ _
    heads.1 in
    let demands = values-same (codes "D") (search arith) counts.junctions a.demands b.demands is_a.demands is_b.demands
    _ _ flows.1 in
    let emitters = values-same (codes "E") (search arith) counts.junctions a.emitters b.emitters is_a.emitters
    is_b.emitters _ _ demands.1 in
    let stocks = stocks-same a.levels a.volumes b.levels b.volumes (is_a.levels.one_each ∙ sym is_b.levels.one_each)
    (is_a.volumes.one_each ∙ sym is_a.levels.one_each) (is_b.volumes.one_each ∙ sym is_b.levels.one_each)
    is_a.levels.in_range is_a.volumes.in_range is_b.levels.in_range is_b.volumes.in_range r s emitters.1 in (
      λ i. record {
        number = number i;
        time = time i;
        length = seconds i;
        heads = heads.0 i;
        flows = flows.0 i;
        demands = demands.0 i;
        emitters = emitters.0 i;
        levels = stocks.0.0 i;
        volumes = stocks.0.1 i;
      },
      stocks.1,
    )

-- ---- the end line

end-words : (periods : ℕ) → periods < 2 ^ 32 → AreWords (codes "END" ∷ (decimal periods ∷ []))
end-words periods fits = (search arith, (decimal-word periods (omega arith), tt))

-- a period doesn't begin as the end line does
end-apart : (counts : Counts) (periods : ℕ) (moment : Moment) → periods < 2 ^ 32 → IsMoment counts moment
    → (r : List ℕ) → witness_end periods ≡ moment_text moment ++ r → ⊥
end-apart counts periods moment fits is r e =
    let words = (line-same (codes "END") (codes "PERIOD") (decimal periods ∷ [])
    (decimal moment.number ∷ (decimal moment.time ∷ (decimal moment.length ∷ []))) [] (behind moment r)
    (end-words periods fits) (period-words moment.number moment.time moment.length is.number_fits is.time_fits
    is.length_fits)
    (append-nil (witness_end periods) ∙ (e ∙ moment-parts moment r))).0 in
    cc

-- ---- all periods and the end line

moments-same : (counts : Counts) (xs ys : List Moment) → All (IsMoment counts) xs → All (IsMoment counts) ys
    → (p q : ℕ) → p < 2 ^ 32 → q < 2 ^ 32
    → joined (map moment_text xs) ++ witness_end p ≡ joined (map moment_text ys) ++ witness_end q → xs ≡ ys
moments-same counts [] [] are_a are_b p q fits_p fits_q e = refl
moments-same counts [] (y ∷ ys) are_a are_b p q fits_p fits_q e =
    absurd (end-apart counts p y fits_p (All-head (IsMoment counts) y ys are_b)
    (joined (map moment_text ys) ++ witness_end q)
    (e ∙ append_assoc (moment_text y) (joined (map moment_text ys)) (witness_end q)))
moments-same counts (x ∷ xs) [] are_a are_b p q fits_p fits_q e =
    absurd (end-apart counts q x fits_q (All-head (IsMoment counts) x xs are_a)
    (joined (map moment_text xs) ++ witness_end p)
    (sym e ∙ append_assoc (moment_text x) (joined (map moment_text xs)) (witness_end p)))
moments-same counts (x ∷ xs) (y ∷ ys) are_a are_b p q fits_p fits_q e =
    let P = IsMoment counts in
    let first = moment-same counts x y (All-head P x xs are_a) (All-head P y ys are_b)
    (joined (map moment_text xs) ++ witness_end p) (joined (map moment_text ys) ++ witness_end q)
    (sym (append_assoc (moment_text x) (joined (map moment_text xs)) (witness_end p))
    ∙ (e ∙ append_assoc (moment_text y) (joined (map moment_text ys)) (witness_end q))) in
    let rest = moments-same counts xs ys (All-tail P x xs are_a) (All-tail P y ys are_b) p q fits_p fits_q first.1 in
    ap₂ (λ z zs. z ∷ zs) first.0 rest

-- ---- the whole text

scale-short : (scale : ℕ) → IsScale scale → scale < 10 ^ 64
scale-short scale is =
    let le = pow-le-pow_right {n = 2} (omega arith) {i = is.power} {j = 10} is.at_most in
    let same = is.is_power in
    omega (arith, le, same)

header-words : (scale : ℕ) (counts : Counts) → scale < 10 ^ 64 → counts.junctions < 2 ^ 32 → counts.links < 2 ^ 32
    → counts.tanks < 2 ^ 32
    → AreWords (codes "HYDWIT" ∷ (decimal 1 ∷ (decimal scale ∷ (decimal counts.junctions ∷ (decimal counts.links
    ∷ (decimal counts.tanks ∷ []))))))
header-words scale counts short junctions links tanks = (
  search arith,
  (
    decimal-word 1 (omega arith),
    (
      decimal-word scale short,
      (
        decimal-word counts.junctions (omega arith),
        (
          decimal-word counts.links (omega arith),
          (decimal-word counts.tanks (omega arith), tt),
        ),
      ),
    ),
  ),
)

pub one-reading : (counts : Counts) → counts.junctions < 2 ^ 32 → counts.links < 2 ^ 32 → counts.tanks < 2 ^ 32
    → (text : List ℕ) (scale other : ℕ) (moments others : List Moment) → IsWitnessText counts text scale moments
    → IsWitnessText counts text other others → (scale ≡ other) × (moments ≡ others)
one-reading counts junctions links tanks text scale other moments others is is' =
    let short = scale-short scale is.is_scale in let short' = scale-short other is'.is_scale in
    let words : ℕ → List (List ℕ) = λ s. decimal 1 ∷ (decimal s ∷ (decimal counts.junctions ∷ (decimal counts.links
    ∷ (decimal counts.tanks ∷ [])))) in
    let first = line-same (codes "HYDWIT") (codes "HYDWIT") (words scale) (words other)
    (joined (map moment_text moments) ++ witness_end (length moments))
    (joined (map moment_text others) ++ witness_end (length others))
    (header-words scale counts short junctions links tanks) (header-words other counts short' junctions links tanks)
    (sym is.is_text ∙ is'.is_text) in
    let same = first.0 in (
      decimal-same scale other short short' (cc),
      moments-same counts moments others is.moments_fit is'.moments_fit (length moments) (length others) is.count_fits
          is'.count_fits first.1,
    )
