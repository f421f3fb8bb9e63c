-- A text begins as a witness in one way: its lines have one value each.
use Rattle.std.proofs.Common.{◌≡◌, ◌≢◌, ℕ, suc, ◌+◌, ◌<◌, ◌^◌, ℤ, pos, negsuc, Some, List, [], ◌∷◌, ◌++◌, length}
use Rattle.std.proofs.Common.{map, drop, refl, sym, ap, ap₂, subst, ◌∙◌, append_assoc, codes, arith}
use Rattle.std.specs.Prelude.{All}
use Rattle.std.specs.Fmt.{decimal, signed_decimal}
use Rattle.std.proofs.lemmas.List.{append_cancel_left}
use Rattle.std.proofs.lemmas.List.Elements.{All-head, All-tail}
use Rattle.hyd_spec.specs.Lists.{joined, IsFrontOf}
use Rattle.hyd_spec_certificates.specs.CertificateText.{words}
use Rattle.hyd_spec_witnesses.specs.MetPeriods.{Moment}
use Rattle.hyd_spec_witnesses.specs.WitnessText.{Counts, IsMoment, IsScale, IsValue, AreValues, moment_line}
use Rattle.hyd_spec_witnesses.specs.WitnessText.{moment_text, value_lines, stock_line, stock_lines, witness_header}
use Rattle.hyd_theorems_on_definitions.proofs.CertificateLines.{decimal-same}
use Rattle.hyd_line_reader.specs.TextsWithoutLine.{HasNo}
use Rattle.hyd_line_reader.proofs.SplitTexts.{split-same}
use Rattle.hyd_cert.proofs.LineLemmas.{wide_free}
use Rattle.hyd_witness_texts.specs.Lines.{header_words}
use Rattle.hyd_witness_texts.specs.PartsOfWitness.{LacksMoment, lists_text}
use Rattle.hyd_witness_texts.proofs.WritingLemmas.{value_line}
use Rattle.hyd_witness_texts.proofs.WitnessLines.{value_free, header_front, header_tail}
use Rattle.hyd_witness_texts.proofs.WitnessLines.{counts_words, header_words_same, scale_low}
use Rattle.hyd_witness_texts.proofs.ListsOfValues.{alone, stock-words, stock_alone}
use Rattle.hyd_witness_texts.proofs.RestOfWitness.{AreSmallCounts, period_words, period_alone, header_alone}
use Rattle.hyd_witness_texts.proofs.RestOfWitness.{small_of}

-- ---- numerals

unsigned : (n : ℕ) (rest : List ℕ) → n < 10 ^ 64 → decimal n ≡ 45 ∷ rest → ⊥
unsigned n rest short e = (subst (HasNo 45) e (wide_free 45 n (omega arith) short)).0 refl

value_same : (v w : ℤ) → IsValue v → IsValue w → signed_decimal v ≡ signed_decimal w → v ≡ w
value_same (pos m) (pos n) is_v is_w e = ap pos (decimal-same m n (omega (arith, is_v)) (omega (arith, is_w)) e)
value_same (pos m) (negsuc n) is_v is_w e = absurd (unsigned m (decimal (suc n)) (omega (arith, is_v)) e)
value_same (negsuc m) (pos n) is_v is_w e = absurd (unsigned n (decimal (suc m)) (omega (arith, is_w)) (sym e))
value_same (negsuc m) (negsuc n) is_v is_w e =
    let same = decimal-same (suc m) (suc n) (omega (arith, is_v)) (omega (arith, is_w)) (ap (drop 1) e) in
    ap negsuc (omega (arith, same))

-- two lines at the front of a text are the same, and so is what follows
lines_same : (a b x y : List ℕ) → HasNo 10 a → HasNo 10 b → (a ++ (10 ∷ [])) ++ x ≡ (b ++ (10 ∷ [])) ++ y
    → (a ≡ b) × (x ≡ y)
lines_same a b x y free_a free_b e =
    split-same 10 a b x y free_a free_b (sym (append_assoc a (10 ∷ []) x) ∙ (e ∙ append_assoc b (10 ∷ []) y))

-- ---- values

module _ (key : ℕ) (apart : key ≢ 10) where
  values_same : (vs ws : List ℤ) → length vs ≡ length ws → All IsValue vs → All IsValue ws → (t r : List ℕ)
      → value_lines (key ∷ []) vs ++ t ≡ value_lines (key ∷ []) ws ++ r → (vs ≡ ws) × (t ≡ r)
  values_same [] [] many all_v all_w t r e = (refl, e)
  values_same [] (w ∷ ws) many all_v all_w t r e = absurd (omega (arith, many))
  values_same (v ∷ vs) [] many all_v all_w t r e = absurd (omega (arith, many))
  values_same (v ∷ vs) (w ∷ ws) many all_v all_w t r e =
      let A = value_lines (key ∷ []) vs in let B = value_lines (key ∷ []) ws in
      let fits_v = All-head IsValue v vs all_v in let fits_w = All-head IsValue w ws all_w in
      let k = lines_same (words ((key ∷ []) ∷ (signed_decimal v ∷ [])))
      (words ((key ∷ []) ∷ (signed_decimal w ∷ []))) (A ++ t) (B ++ r) (alone key apart v fits_v)
      (alone key apart w fits_w)
      (sym (append_assoc (value_line (key ∷ []) v) A t) ∙ (e ∙ append_assoc (value_line (key ∷ []) w) B r)) in
      let first = value_same v w fits_v fits_w (ap (drop 2) k.0) in
      let rest = values_same vs ws (omega (arith, many)) (All-tail IsValue v vs all_v) (All-tail IsValue w ws all_w) t r
      k.1 in
      (ap₂ (λ z zs. z ∷ zs) first rest.0, rest.1)

  lists_same : (n : ℕ) (vs ws : List ℤ) → AreValues n vs → AreValues n ws → (t r : List ℕ)
      → value_lines (key ∷ []) vs ++ t ≡ value_lines (key ∷ []) ws ++ r → (vs ≡ ws) × (t ≡ r)
  lists_same n vs ws are_v are_w t r e = values_same vs ws (are_v.one_each ∙ sym are_w.one_each) are_v.in_range
      are_w.in_range t r e

-- ---- stocks

stocks_same : (ls vs ms ws : List ℤ) → length ls ≡ length vs → length ms ≡ length ws → length ls ≡ length ms
    → All IsValue ls → All IsValue vs → All IsValue ms → All IsValue ws → (t r : List ℕ)
    → stock_lines ls vs ++ t ≡ stock_lines ms ws ++ r → (ls ≡ ms) × ((vs ≡ ws) × (t ≡ r))
stocks_same [] [] [] [] a b many all_l all_v all_m all_w t r e = (refl, (refl, e))
stocks_same [] (v ∷ vs) ms ws a b many all_l all_v all_m all_w t r e = absurd (omega (arith, a))
stocks_same (l ∷ ls) [] ms ws a b many all_l all_v all_m all_w t r e = absurd (omega (arith, a))
stocks_same [] [] (m ∷ ms) ws a b many all_l all_v all_m all_w t r e = absurd (omega (arith, many))
stocks_same [] [] [] (w ∷ ws) a b many all_l all_v all_m all_w t r e = absurd (omega (arith, b))
stocks_same (l ∷ ls) (v ∷ vs) [] ws a b many all_l all_v all_m all_w t r e = absurd (omega (arith, many))
stocks_same (l ∷ ls) (v ∷ vs) (m ∷ ms) [] a b many all_l all_v all_m all_w t r e = absurd (omega (arith, b))
stocks_same (l ∷ ls) (v ∷ vs) (m ∷ ms) (w ∷ ws) a b many all_l all_v all_m all_w t r e =
    let A = stock_lines ls vs in let B = stock_lines ms ws in
    let fits_l = All-head IsValue l ls all_l in let fits_v = All-head IsValue v vs all_v in
    let fits_m = All-head IsValue m ms all_m in let fits_w = All-head IsValue w ws all_w in
    let k = lines_same (stock-words l v) (stock-words m w) (A ++ t) (B ++ r) (stock_alone l v fits_l fits_v)
    (stock_alone m w fits_m fits_w)
    (sym (append_assoc (stock_line l v) A t) ∙ (e ∙ append_assoc (stock_line m w) B r)) in
    let both = split-same 32 (signed_decimal l) (signed_decimal m) (signed_decimal v) (signed_decimal w)
    (value_free l fits_l) (value_free m fits_m) (ap (drop 2) k.0) in
    let level = value_same l m fits_l fits_m both.0 in let volume = value_same v w fits_v fits_w both.1 in
    let rest = stocks_same ls vs ms ws (omega (arith, a)) (omega (arith, b)) (omega (arith, many))
    (All-tail IsValue l ls all_l) (All-tail IsValue v vs all_v) (All-tail IsValue m ms all_m)
    (All-tail IsValue w ws all_w) t r k.1 in
    (ap₂ (λ z zs. z ∷ zs) level rest.0, (ap₂ (λ z zs. z ∷ zs) volume rest.1.0, rest.1.1))

-- ---- periods

record SameNumbers (a b : Moment) : Type 0 where
  number : a.number ≡ b.number
  time : a.time ≡ b.time
  seconds : a.length ≡ b.length

number_same : (m n : ℕ) → m < 2 ^ 32 → n < 2 ^ 32 → decimal m ≡ decimal n → m ≡ n
number_same m n fits_m fits_n e = decimal-same m n (omega (arith, fits_m)) (omega (arith, fits_n)) e

numbers_same : (counts : Counts) (a b : Moment) → IsMoment counts a → IsMoment counts b
    → period_words a.number a.time a.length ≡ period_words b.number b.time b.length → SameNumbers a b
numbers_same counts a b is_a is_b e =
    let numbers = append_cancel_left (codes "PERIOD ")
    (decimal a.number ++ (32 ∷ (decimal a.time ++ (32 ∷ decimal a.length))))
    (decimal b.number ++ (32 ∷ (decimal b.time ++ (32 ∷ decimal b.length)))) e in
    let free : (n : ℕ) → n < 2 ^ 32 → HasNo 32 (decimal n) = λ n fits. wide_free 32 n (omega arith)
    (omega (arith, fits)) in
    let first = split-same 32 (decimal a.number) (decimal b.number) (decimal a.time ++ (32 ∷ decimal a.length))
    (decimal b.time ++ (32 ∷ decimal b.length)) (free a.number is_a.number_fits) (free b.number is_b.number_fits)
    numbers in
    let second = split-same 32 (decimal a.time) (decimal b.time) (decimal a.length) (decimal b.length)
    (free a.time is_a.time_fits) (free b.time is_b.time_fits) first.1 in record {
      number = number_same a.number b.number is_a.number_fits is_b.number_fits first.0;
      time = number_same a.time b.time is_a.time_fits is_b.time_fits second.0;
      seconds = number_same a.length b.length is_a.length_fits is_b.length_fits second.1;
    }

-- the lists of a moment, one behind another
behind : (m : Moment) (r : List ℕ) → lists_text m ++ r ≡ value_lines (codes "H") m.heads
    ++ (value_lines (codes "Q") m.flows ++ (value_lines (codes "D") m.demands ++ (value_lines (codes "E") m.emitters
    ++ (stock_lines m.levels m.volumes ++ r))))
behind m r =
    let H = value_lines (codes "H") m.heads in let Q = value_lines (codes "Q") m.flows in
    let D = value_lines (codes "D") m.demands in let E = value_lines (codes "E") m.emitters in
    let L = stock_lines m.levels m.volumes in
    append_assoc H (Q ++ (D ++ (E ++ L))) r
    ∙ ap (λ t. H ++ t) (append_assoc Q (D ++ (E ++ L)) r
    ∙ ap (λ t. Q ++ t) (append_assoc D (E ++ L) r ∙ ap (λ t. D ++ t) (append_assoc E L r)))

moment_same : (counts : Counts) (a b : Moment) → IsMoment counts a → IsMoment counts b → (t r : List ℕ)
    → moment_text a ++ t ≡ moment_text b ++ r → (a ≡ b) × (t ≡ r)
moment_same counts a b is_a is_b t r e =
    let k = lines_same (period_words a.number a.time a.length) (period_words b.number b.time b.length)
    (lists_text a ++ t) (lists_text b ++ r) (period_alone a.number a.time a.length (small_of counts a is_a))
    (period_alone b.number b.time b.length (small_of counts b is_b))
    (sym (append_assoc (moment_line a) (lists_text a) t) ∙ (e ∙ append_assoc (moment_line b) (lists_text b) r)) in
    let numbers = numbers_same counts a b is_a is_b k.0 in
    let heads = lists_same 72 (λ x. omega (arith, x)) counts.junctions a.heads b.heads is_a.heads is_b.heads _ _
    (sym (behind a t) ∙ (k.1 ∙ behind b r)) in
    let flows = lists_same 81 (λ x. omega (arith, x)) counts.links a.flows b.flows is_a.flows is_b.flows _ _ heads.1 in
    let demands = lists_same 68 (λ x. omega (arith, x)) counts.junctions a.demands b.demands is_a.demands is_b.demands
    _ _ flows.1 in
    let emitters = lists_same 69 (λ x. omega (arith, x)) counts.junctions a.emitters b.emitters is_a.emitters
    is_b.emitters _ _ demands.1 in
    let stocks = stocks_same a.levels a.volumes b.levels b.volumes (is_a.levels.one_each ∙ sym is_a.volumes.one_each)
    (is_b.levels.one_each ∙ sym is_b.volumes.one_each) (is_a.levels.one_each ∙ sym is_b.levels.one_each)
    is_a.levels.in_range is_a.volumes.in_range is_b.levels.in_range is_b.volumes.in_range t r emitters.1 in (
      λ i. record {
        number = numbers.number i;
        time = numbers.time i;
        length = numbers.seconds i;
        heads = heads.0 i;
        flows = flows.0 i;
        demands = demands.0 i;
        emitters = emitters.0 i;
        levels = stocks.0 i;
        volumes = stocks.1.0 i;
      },
      stocks.1.1,
    )

-- ---- beginnings

module _ (counts : Counts) where
  moments_front : (ms os : List Moment) → All (IsMoment counts) ms → All (IsMoment counts) os → (p : ℕ)
      → p + length os < 2 ^ 32 → (rest unread : List ℕ) → LacksMoment counts (p + length ms) (Some rest)
      → joined (map moment_text ms) ++ rest ≡ joined (map moment_text os) ++ unread → IsFrontOf os ms
  moments_front ms [] all_m all_o p fits rest unread lacks e = (ms, refl)
  moments_front [] (o ∷ os) all_m all_o p fits rest unread lacks e =
      absurd (lacks o (joined (map moment_text os) ++ unread) (All-head (IsMoment counts) o os all_o)
      (omega (arith, fits)) (ap Some (e ∙ append_assoc (moment_text o) (joined (map moment_text os)) unread)))
  moments_front (m ∷ ms) (o ∷ os) all_m all_o p fits rest unread lacks e =
      let k = moment_same counts m o (All-head (IsMoment counts) m ms all_m) (All-head (IsMoment counts) o os all_o)
      (joined (map moment_text ms) ++ rest) (joined (map moment_text os) ++ unread)
      (sym (append_assoc (moment_text m) (joined (map moment_text ms)) rest)
      ∙ (e ∙ append_assoc (moment_text o) (joined (map moment_text os)) unread)) in
      let further = moments_front ms os (All-tail (IsMoment counts) m ms all_m) (All-tail (IsMoment counts) o os all_o)
      (p + 1) (omega (arith, fits)) rest unread
      (subst (λ (n : ℕ). LacksMoment counts n (Some rest)) (omega arith) lacks) k.1 in
      (further.0, ap₂ (λ z zs. z ∷ zs) (sym k.0) further.1)

  scale_same : (s o : ℕ) → IsScale s → IsScale o → header_words s counts ≡ header_words o counts → s ≡ o
  scale_same s o is_s is_o e =
      let low_s = scale_low s is_s in let low_o = scale_low o is_o in
      let k = header_words_same (header_words s counts) (header_tail s counts) (decimal s) (counts_words counts)
      (header_words o counts) counts (header_front s counts) (wide_free 32 s (omega arith) (omega (arith, low_s))) refl
      (record { scale = o; is_scale = is_o; is = refl }) e in
      decimal-same s o (omega (arith, low_s)) (omega (arith, low_o)) k.0

  pub one_beginning : AreSmallCounts counts → (text rest unread : List ℕ) (scale other : ℕ)
      (moments others : List Moment) → IsScale scale → IsScale other → All (IsMoment counts) moments
      → All (IsMoment counts) others → length others < 2 ^ 32
      → text ≡ witness_header scale counts ++ (joined (map moment_text moments) ++ rest)
      → LacksMoment counts (length moments) (Some rest)
      → text ≡ witness_header other counts ++ (joined (map moment_text others) ++ unread)
      → (scale ≡ other) × IsFrontOf others moments
  one_beginning small text rest unread scale other moments others is_s is_o all_m all_o fits e lacks begins =
      let k = lines_same (header_words scale counts) (header_words other counts)
      (joined (map moment_text moments) ++ rest) (joined (map moment_text others) ++ unread)
      (header_alone counts small scale is_s) (header_alone counts small other is_o) (sym e ∙ begins) in (
        scale_same scale other is_s is_o k.0,
        moments_front moments others all_m all_o 0 (omega (arith, fits)) rest unread
            (subst (λ (n : ℕ). LacksMoment counts n (Some rest)) (omega arith) lacks) k.1,
      )
