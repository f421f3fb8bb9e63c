-- Lists of values and of stocks, line by line: blocks of as many lines as they have items.
use Rattle.std.proofs.Common.{◌≡◌, ◌≢◌, ℕ, zero, suc, ◌+◌, ◌-◌, ◌<◌, ◌≤◌, ℤ, pos, Option, Some, List, [], ◌∷◌}
use Rattle.std.proofs.Common.{◌++◌, length, take, slice_set, refl, sym, ap, ap₂, subst, ◌∙◌, append_assoc, inl}
use Rattle.std.proofs.Common.{arith, codes, length-append, to_z, of_z}
use Rattle.std.specs.Int.{w128}
use Rattle.std.specs.Prelude.{All}
use Rattle.std.specs.Fmt.{signed_decimal}
use Rattle.std.proofs.lemmas.List.{take_more_set, length-take-le}
use Rattle.std.proofs.lemmas.List.Elements.{All-nil, All-cons, All-head, All-tail, All-append, All-push}
use Rattle.hyd_io.specs.DeskBytes.{prepend_known}
use Rattle.hyd_io.proofs.MovedBytesLemmas.{prepend_known-prepend_known}
use Rattle.hyd_spec_certificates.specs.CertificateText.{words, line, line_feeds}
use Rattle.hyd_spec_witnesses.specs.WitnessText.{IsValue, AreValues, value_lines, stock_line, stock_lines}
use Rattle.hyd_spec_witnesses.specs.FaultyLine.{IsLines}
use Rattle.hyd_io.specs.declared.desk.Faults.{Faults}
use Rattle.hyd_cert.specs.Faults.{lines_on}
use Rattle.hyd_lemmas.proofs.ListsOptionsAndResults.{join-more}
use Rattle.hyd_witness_texts.specs.declared.answers_of_reader.WitnessFault.{WitnessFault}
use Rattle.std.proofs.lemmas.Int.{ints}
use Rattle.hyd_line_reader.specs.TextsWithoutLine.{HasNo}
use Rattle.hyd_cert.specs.PlacesOfLines.{Lacks}
use Rattle.hyd_witness_texts.specs.Lines.{IsValueLine, IsStockLine}
use Rattle.hyd_witness_texts.specs.FirstFaults.{Begins, IsFaultAtFront, IsLineFault, IsTextFault}
use Rattle.hyd_witness_texts.specs.PartsOfWitness.{AreValueLines, AreStockLines}
use Rattle.hyd_witness_texts.proofs.WritingLemmas.{value_line, values_append, stocks_append, stock_push}
use Rattle.hyd_witness_texts.proofs.WitnessLines.{value_is_line, stock_is_line}
use Rattle.hyd_witness_texts.proofs.FirstFaultLemmas.{feeds-append, one_feed, lines_append, one_is_lines, cut_line}
use Rattle.hyd_witness_texts.proofs.FirstFaultLemmas.{HasFirst, stuck_here, stuck_behind, text_stuck_here}
use Rattle.hyd_witness_texts.proofs.FirstFaultLemmas.{text_stuck_behind}
use Rattle.hyd_witness_texts.proofs.Blocks.{IsBlock}

zero_fits : IsValue (pos 0)
zero_fits = omega arith

zeros : ℕ → List ℤ
zeros zero = []
zeros (suc n) = pos 0 ∷ zeros n

zero_values : (n : ℕ) → AreValues n (zeros n)
unfolding zeros
zero_values zero = record { one_each = refl; in_range = All-nil IsValue }
zero_values (suc n) = let k = zero_values n in record {
  one_each = (let c = k.one_each in omega (arith, c));
  in_range = All-cons IsValue (pos 0) (zeros n) zero_fits k.in_range;
}

-- ---- values

module _ (key : ℕ) (apart : key ≢ 10) where
  pub alone : (v : ℤ) → IsValue v → HasNo 10 (words ((key ∷ []) ∷ (signed_decimal v ∷ [])))
  alone v fits = (value_is_line key _ apart (record { value = v; fits = fits; is = refl })).0

  values_are_lines : (vs : List ℤ) → IsLines (value_lines (key ∷ []) vs)
  values_are_lines [] = inl refl
  values_are_lines (v ∷ vs) =
      lines_append (value_line (key ∷ []) v) (value_lines (key ∷ []) vs)
      (one_is_lines (words ((key ∷ []) ∷ (signed_decimal v ∷ [])))) (values_are_lines vs)

  values_feeds : (vs : List ℤ) → All IsValue vs → line_feeds (value_lines (key ∷ []) vs) ≡ length vs
  values_feeds [] all = refl
  values_feeds (v ∷ vs) all =
      let sum = feeds-append (value_line (key ∷ []) v) (value_lines (key ∷ []) vs) in
      let one = one_feed (words ((key ∷ []) ∷ (signed_decimal v ∷ []))) (alone v (All-head IsValue v vs all)) in
      let more = values_feeds vs (All-tail IsValue v vs all) in omega (arith, sum, one, more)

  -- what is left of the values of a text behind some of them
  record LeftOver (vs ws : List ℤ) (t r : List ℕ) : Type 0 where
    rest : List ℤ
    fit : All IsValue rest
    count : length ws ≡ length vs + length rest
    is : t ≡ value_lines (key ∷ []) rest ++ r

  values_left : (vs ws : List ℤ) → All IsValue vs → All IsValue ws → length vs ≤ length ws → (t r : List ℕ)
      → value_lines (key ∷ []) vs ++ t ≡ value_lines (key ∷ []) ws ++ r → LeftOver vs ws t r
  values_left [] ws all_v all_w low t r e = record { rest = ws; fit = all_w; count = omega arith; is = e }
  values_left (v ∷ vs) [] all_v all_w low t r e = absurd (omega (arith, low))
  values_left (v ∷ vs) (w ∷ ws) all_v all_w low t r e =
      let A = value_lines (key ∷ []) vs in let B = value_lines (key ∷ []) ws in
      let after : A ++ t ≡ B ++ r = cut_line (words ((key ∷ []) ∷ (signed_decimal v ∷ [])))
      (words ((key ∷ []) ∷ (signed_decimal w ∷ []))) (A ++ t) (B ++ r) (alone v (All-head IsValue v vs all_v))
      (alone w (All-head IsValue w ws all_w))
      (sym (append_assoc (value_line (key ∷ []) v) A t) ∙ (e ∙ append_assoc (value_line (key ∷ []) w) B r)) in
      let k = values_left vs ws (All-tail IsValue v vs all_v) (All-tail IsValue w ws all_w) (omega (arith, low)) t r
      after in record {
        rest = k.rest;
        fit = k.fit;
        count = (let c = k.count in omega (arith, c));
        is = k.is;
      }

  none_left : (rest : List ℤ) (t r : List ℕ) → length rest ≡ 0 → t ≡ value_lines (key ∷ []) rest ++ r → t ≡ r
  none_left [] t r none e = e
  none_left (v ∷ rest) t r none e = absurd (omega (arith, none))

  pub values_block : (n : ℕ) → IsBlock (AreValueLines (key ∷ []) n) n
  values_block n = record {
    lines = λ a is. subst IsLines (sym is.is) (values_are_lines is.values);
    feeds = λ a is. ap line_feeds is.is ∙ (values_feeds is.values is.are_values.in_range ∙ is.are_values.one_each);
    cut = λ a b x y is_a is_b e.
        let va = is_a.are_values.one_each in let vb = is_b.are_values.one_each in
        let k = values_left is_a.values is_b.values is_a.are_values.in_range is_b.are_values.in_range
        (omega (arith, va, vb)) x y (ap (λ t. t ++ x) (sym is_a.is) ∙ (e ∙ ap (λ t. t ++ y) is_b.is)) in
        let c = k.count in none_left k.rest x y (omega (arith, va, vb, c)) k.is;
    some = (
      value_lines (key ∷ []) (zeros n),
      record {
        values = zeros n;
        are_values = zero_values n;
        is = refl;
      },
    );
  }

  -- the first of some values
  begins_with_value : (m : ℕ) (t : List ℕ) → Begins (AreValueLines (key ∷ []) (suc m)) t
      → HasFirst (IsValueLine (key ∷ [])) t
  begins_with_value m t b = from b.is_such.values b.is_such.are_values.in_range b.is_such.are_values.one_each
      (b.parts ∙ ap (λ f. f ++ b.rest) b.is_such.is)
    where
      from : (vs : List ℤ) → All IsValue vs → length vs ≡ suc m → t ≡ value_lines (key ∷ []) vs ++ b.rest
          → HasFirst (IsValueLine (key ∷ [])) t
      from [] all many e = absurd (omega (arith, many))
      from (v ∷ vs) all many e = record {
        line = words ((key ∷ []) ∷ (signed_decimal v ∷ []));
        rest = value_lines (key ∷ []) vs ++ b.rest;
        is_such = record { value = v; fits = All-head IsValue v vs all; is = refl };
        parts = e ∙ (append_assoc (value_line (key ∷ []) v) (value_lines (key ∷ []) vs) b.rest
            ∙ append_assoc (words ((key ∷ []) ∷ (signed_decimal v ∷ []))) (10 ∷ [])
            (value_lines (key ∷ []) vs ++ b.rest));
      }

  -- the next line isn't that of a value
  value_stuck : (m : ℕ) (t : List ℕ) → Lacks (IsValueLine (key ∷ [])) (Some t)
      → IsFaultAtFront (AreValueLines (key ∷ []) (suc m)) t 1
  value_stuck m t lacks = let k = (values_block (suc m)).some in
      stuck_here (IsValueLine (key ∷ [])) t k.0 k.1 (λ l is. (value_is_line key l apart is).0) (begins_with_value m)
      lacks

  -- behind some values
  pub value_stuck_behind : (vs : List ℤ) (n m : ℕ) → All IsValue vs → n ≡ length vs + suc m → (t : List ℕ)
      → Lacks (IsValueLine (key ∷ [])) (Some t)
      → IsFaultAtFront (AreValueLines (key ∷ []) n) (value_lines (key ∷ []) vs ++ t) (length vs + 1)
  value_stuck_behind vs n m all many t lacks =
      stuck_behind (value_lines (key ∷ []) vs) t (length vs) 1 (values_are_lines vs) (values_feeds vs all)
      push pull (value_stuck m t lacks)
    where
      push : (u : List ℕ) → AreValueLines (key ∷ []) (suc m) u
          → AreValueLines (key ∷ []) n (value_lines (key ∷ []) vs ++ u)
      push u is = record {
        values = vs ++ is.values;
        are_values = record {
          one_each = (let sum = length-append vs is.values in let c = is.are_values.one_each in
              omega (arith, sum, c, many));
          in_range = All-append IsValue vs is.values all is.are_values.in_range;
        };
        is = ap (λ w. value_lines (key ∷ []) vs ++ w) is.is ∙ sym (values_append (key ∷ []) vs is.values);
      }

      pull : (u : List ℕ) → Begins (AreValueLines (key ∷ []) n) (value_lines (key ∷ []) vs ++ u)
          → Begins (AreValueLines (key ∷ []) (suc m)) u
      pull u b =
          let c = b.is_such.are_values.one_each in
          let k = values_left vs b.is_such.values all b.is_such.are_values.in_range (omega (arith, c, many)) u b.rest
          (b.parts ∙ ap (λ f. f ++ b.rest) b.is_such.is) in record {
            front = value_lines (key ∷ []) k.rest;
            rest = b.rest;
            is_such = record {
              values = k.rest;
              are_values = record {
                one_each = (let d = k.count in omega (arith, c, d, many));
                in_range = k.fit;
              };
              is = refl;
            };
            parts = k.is;
          }

  -- what a reader answers behind some values
  pub values_stuck : (into : List ℤ) (i line0 line : ℕ) (first now : Option (List ℕ)) (before counts after : Faults)
      (fault : WitnessFault) → i < length into → All IsValue (take i into)
      → first ≡ prepend_known (value_lines (key ∷ []) (take i into)) now → line ≡ lines_on line0 i → counts ≡ before
      → IsLineFault (IsValueLine (key ∷ [])) line now counts after fault
      → IsTextFault (IsFaultAtFront (AreValueLines (key ∷ []) (length into))) line0 first before after fault
  values_stuck into i line0 line first now before counts after fault within all text at same h =
      let n = length-take-le i into (omega (arith, within)) in
      let Wrong : List ℕ → ℕ → Type 0 = λ t number. (number ≡ 1) × Lacks (IsValueLine (key ∷ [])) (Some t) in
      text_stuck_behind Wrong (IsFaultAtFront (AreValueLines (key ∷ []) (length into)))
      (value_lines (key ∷ []) (take i into)) i line0 line first now before counts after fault text at same
      (λ t number w. subst (IsFaultAtFront (AreValueLines (key ∷ []) (length into))
      (value_lines (key ∷ []) (take i into) ++ t)) (let one = w.0 in omega (arith, n, one))
      (value_stuck_behind (take i into) (length into) (length into - i - 1) all (omega (arith, n, within)) t w.1))
      (text_stuck_here Wrong (IsValueLine (key ∷ [])) line now counts after fault (λ t lacks. (refl, lacks)) h)

-- ---- one value more

pub value_read : (key : List ℕ) (i : ℕ) (into after : List ℤ) (v : ℤ) (first now next : Option (List ℕ))
    → i < length into → after ≡ slice_set into i v → first ≡ prepend_known (value_lines key (take i into)) now
    → now ≡ prepend_known (value_line key v) next
    → first ≡ prepend_known (value_lines key (take (i + 1) after)) next
value_read key i into after v first now next within written so_far read =
    let front = take_more_set into i v within in
    so_far ∙ (ap (prepend_known (value_lines key (take i into))) read
    ∙ (prepend_known-prepend_known next (value_lines key (take i into)) (value_line key v)
    ∙ ap (λ t. prepend_known t next) (sym (join-more (value_line key) (take i into) v)
    ∙ ap (value_lines key) (sym (ap (take (i + 1)) written ∙ front)))))

pub values_fit : (i : ℕ) (into after : List ℤ) (v : ℤ) → i < length into → after ≡ slice_set into i v
    → All IsValue (take i into) → IsValue v → All IsValue (take (i + 1) after)
values_fit i into after v within written all fits =
    subst (All IsValue) (sym (ap (take (i + 1)) written ∙ take_more_set into i v within))
    (All-push IsValue (take i into) v all fits)

-- a value as the program keeps it
pub value_stored : (xs : List ℤ) (i : ℕ) (v : ℤ) → IsValue v
    → slice_set xs i (to_z w128 (of_z w128 v)) ≡ slice_set xs i v
value_stored xs i v fits = ap (slice_set xs i) (omega (arith, ints, fits))

-- ---- stocks

abbrev pub stock-words : ℤ → ℤ → List ℕ
stock-words l v = words (codes "L" ∷ (signed_decimal l ∷ (signed_decimal v ∷ [])))

pub stock_alone : (l v : ℤ) → IsValue l → IsValue v → HasNo 10 (stock-words l v)
stock_alone l v fits_l fits_v = (stock_is_line (stock-words l v) (record {
  level = l;
  volume = v;
  level_fits = fits_l;
  volume_fits = fits_v;
  is = refl;
})).0

stocks_are_lines : (ls vs : List ℤ) → length ls ≡ length vs → IsLines (stock_lines ls vs)
stocks_are_lines [] vs e = inl refl
stocks_are_lines (l ∷ ls) [] e = absurd (omega (arith, e))
stocks_are_lines (l ∷ ls) (v ∷ vs) e = lines_append (stock_line l v) (stock_lines ls vs)
    (one_is_lines (stock-words l v)) (stocks_are_lines ls vs (omega (arith, e)))

stocks_feeds : (ls vs : List ℤ) → length ls ≡ length vs → All IsValue ls → All IsValue vs
    → line_feeds (stock_lines ls vs) ≡ length ls
stocks_feeds [] vs e all_l all_v = refl
stocks_feeds (l ∷ ls) [] e all_l all_v = absurd (omega (arith, e))
stocks_feeds (l ∷ ls) (v ∷ vs) e all_l all_v =
    let sum = feeds-append (stock_line l v) (stock_lines ls vs) in
    let one = one_feed (stock-words l v) (stock_alone l v (All-head IsValue l ls all_l) (All-head IsValue v vs all_v))
    in
    let more = stocks_feeds ls vs (omega (arith, e)) (All-tail IsValue l ls all_l) (All-tail IsValue v vs all_v) in
    omega (arith, sum, one, more)

-- as many levels as volumes
record AreStocks (ls vs : List ℤ) : Type 0 where
  same : length ls ≡ length vs
  levels : All IsValue ls
  volumes : All IsValue vs

are_fewer : (l v : ℤ) (ls vs : List ℤ) → AreStocks (l ∷ ls) (v ∷ vs) → AreStocks ls vs
are_fewer l v ls vs are = record {
  same = (let s = are.same in omega (arith, s));
  levels = All-tail IsValue l ls are.levels;
  volumes = All-tail IsValue v vs are.volumes;
}

are_stocks : (k : ℕ) (t : List ℕ) (is : AreStockLines k t) → AreStocks is.levels is.volumes
are_stocks k t is = record {
  same = is.are_levels.one_each ∙ sym is.are_volumes.one_each;
  levels = is.are_levels.in_range;
  volumes = is.are_volumes.in_range;
}

-- what is left of the stocks of a text behind some of them
record StocksLeft (ls ms : List ℤ) (t r : List ℕ) : Type 0 where
  levels : List ℤ
  volumes : List ℤ
  are : AreStocks levels volumes
  count : length ms ≡ length ls + length levels
  is : t ≡ stock_lines levels volumes ++ r

stocks_left : (ls vs ms ws : List ℤ) → AreStocks ls vs → AreStocks ms ws → length ls ≤ length ms → (t r : List ℕ)
    → stock_lines ls vs ++ t ≡ stock_lines ms ws ++ r → StocksLeft ls ms t r
stocks_left [] vs ms ws are_l are_m low t r e = record {
  levels = ms;
  volumes = ws;
  are = are_m;
  count = omega arith;
  is = e;
}
stocks_left (l ∷ ls) [] ms ws are_l are_m low t r e = absurd (let s = are_l.same in omega (arith, s))
stocks_left (l ∷ ls) (v ∷ vs) [] ws are_l are_m low t r e = absurd (omega (arith, low))
stocks_left (l ∷ ls) (v ∷ vs) (m ∷ ms) [] are_l are_m low t r e = absurd (let s = are_m.same in omega (arith, s))
stocks_left (l ∷ ls) (v ∷ vs) (m ∷ ms) (w ∷ ws) are_l are_m low t r e =
    let A = stock_lines ls vs in let B = stock_lines ms ws in
    let after : A ++ t ≡ B ++ r = cut_line (stock-words l v) (stock-words m w) (A ++ t) (B ++ r)
    (stock_alone l v (All-head IsValue l ls are_l.levels) (All-head IsValue v vs are_l.volumes))
    (stock_alone m w (All-head IsValue m ms are_m.levels) (All-head IsValue w ws are_m.volumes))
    (sym (append_assoc (stock_line l v) A t) ∙ (e ∙ append_assoc (stock_line m w) B r)) in
    let k = stocks_left ls vs ms ws (are_fewer l v ls vs are_l) (are_fewer m w ms ws are_m) (omega (arith, low)) t r
    after in record {
      levels = k.levels;
      volumes = k.volumes;
      are = k.are;
      count = (let c = k.count in omega (arith, c));
      is = k.is;
    }

no_stock_left : (ls vs : List ℤ) (t r : List ℕ) → length ls ≡ 0 → t ≡ stock_lines ls vs ++ r → t ≡ r
no_stock_left [] vs t r none e = e
no_stock_left (l ∷ ls) vs t r none e = absurd (omega (arith, none))

pub stocks_block : (k : ℕ) → IsBlock (AreStockLines k) k
stocks_block k = record {
  lines = λ a is. subst IsLines (sym is.is) (stocks_are_lines is.levels is.volumes (are_stocks k a is).same);
  feeds = λ a is. ap line_feeds is.is ∙ (stocks_feeds is.levels is.volumes (are_stocks k a is).same
      is.are_levels.in_range is.are_volumes.in_range ∙ is.are_levels.one_each);
  cut = λ a b x y is_a is_b e.
      let la = is_a.are_levels.one_each in let lb = is_b.are_levels.one_each in
      let h = stocks_left is_a.levels is_a.volumes is_b.levels is_b.volumes (are_stocks k a is_a) (are_stocks k b is_b)
      (omega (arith, la, lb)) x y (ap (λ t. t ++ x) (sym is_a.is) ∙ (e ∙ ap (λ t. t ++ y) is_b.is)) in
      let c = h.count in no_stock_left h.levels h.volumes x y (omega (arith, la, lb, c)) h.is;
  some = (
    stock_lines (zeros k) (zeros k),
    record {
      levels = zeros k;
      volumes = zeros k;
      are_levels = zero_values k;
      are_volumes = zero_values k;
      is = refl;
    },
  );
}

begins_with_stock : (m : ℕ) (t : List ℕ) → Begins (AreStockLines (suc m)) t → HasFirst IsStockLine t
begins_with_stock m t b = from b.is_such.levels b.is_such.volumes (are_stocks (suc m) b.front b.is_such)
    b.is_such.are_levels.one_each (b.parts ∙ ap (λ f. f ++ b.rest) b.is_such.is)
  where
    from : (ls vs : List ℤ) → AreStocks ls vs → length ls ≡ suc m → t ≡ stock_lines ls vs ++ b.rest
        → HasFirst IsStockLine t
    from [] vs are many e = absurd (omega (arith, many))
    from (l ∷ ls) [] are many e = absurd (let s = are.same in omega (arith, s))
    from (l ∷ ls) (v ∷ vs) are many e = record {
      line = stock-words l v;
      rest = stock_lines ls vs ++ b.rest;
      is_such = record {
        level = l;
        volume = v;
        level_fits = All-head IsValue l ls are.levels;
        volume_fits = All-head IsValue v vs are.volumes;
        is = refl;
      };
      parts = e ∙ (append_assoc (stock_line l v) (stock_lines ls vs) b.rest
          ∙ append_assoc (stock-words l v) (10 ∷ []) (stock_lines ls vs ++ b.rest));
    }

stock_stuck : (m : ℕ) (t : List ℕ) → Lacks IsStockLine (Some t) → IsFaultAtFront (AreStockLines (suc m)) t 1
stock_stuck m t lacks = let k = (stocks_block (suc m)).some in
    stuck_here IsStockLine t k.0 k.1 (λ l is. (stock_is_line l is).0) (begins_with_stock m) lacks

stock_stuck_behind : (ls vs : List ℤ) (n m : ℕ) → AreStocks ls vs → n ≡ length ls + suc m → (t : List ℕ)
    → Lacks IsStockLine (Some t) → IsFaultAtFront (AreStockLines n) (stock_lines ls vs ++ t) (length ls + 1)
stock_stuck_behind ls vs n m are many t lacks =
    stuck_behind (stock_lines ls vs) t (length ls) 1 (stocks_are_lines ls vs are.same)
    (stocks_feeds ls vs are.same are.levels are.volumes) push pull (stock_stuck m t lacks)
  where
    joins : (us ws : List ℤ) → length us ≡ length ls → All IsValue us → AreValues (suc m) ws
        → AreValues n (us ++ ws)
    joins us ws long all are_ws = record {
      one_each = (let sum = length-append us ws in let c = are_ws.one_each in omega (arith, sum, c, many, long));
      in_range = All-append IsValue us ws all are_ws.in_range;
    }

    push : (u : List ℕ) → AreStockLines (suc m) u → AreStockLines n (stock_lines ls vs ++ u)
    push u is = record {
      levels = ls ++ is.levels;
      volumes = vs ++ is.volumes;
      are_levels = joins ls is.levels refl are.levels is.are_levels;
      are_volumes = joins vs is.volumes (sym are.same) are.volumes is.are_volumes;
      is = ap (λ w. stock_lines ls vs ++ w) is.is ∙ sym (stocks_append ls vs is.levels is.volumes are.same);
    }

    pull : (u : List ℕ) → Begins (AreStockLines n) (stock_lines ls vs ++ u) → Begins (AreStockLines (suc m)) u
    pull u b =
        let c = b.is_such.are_levels.one_each in
        let k = stocks_left ls vs b.is_such.levels b.is_such.volumes are (are_stocks n b.front b.is_such)
        (omega (arith, c, many)) u b.rest (b.parts ∙ ap (λ f. f ++ b.rest) b.is_such.is) in
        let long : length k.levels ≡ suc m = (let d = k.count in omega (arith, c, d, many)) in record {
          front = stock_lines k.levels k.volumes;
          rest = b.rest;
          is_such = record {
            levels = k.levels;
            volumes = k.volumes;
            are_levels = record { one_each = long; in_range = k.are.levels };
            are_volumes = record { one_each = sym k.are.same ∙ long; in_range = k.are.volumes };
            is = refl;
          };
          parts = k.is;
        }

pub stocks_stuck : (levels volumes : List ℤ) (i line0 line : ℕ) (first now : Option (List ℕ))
    (before counts after : Faults) (fault : WitnessFault) → i < length levels → length levels ≡ length volumes
    → All IsValue (take i levels) → All IsValue (take i volumes)
    → first ≡ prepend_known (stock_lines (take i levels) (take i volumes)) now → line ≡ lines_on line0 i
    → counts ≡ before → IsLineFault IsStockLine line now counts after fault
    → IsTextFault (IsFaultAtFront (AreStockLines (length levels))) line0 first before after fault
stocks_stuck levels volumes i line0 line first now before counts after fault within as_many all_l all_v text at same h =
    let n = length-take-le i levels (omega (arith, within)) in
    let k = length-take-le i volumes (omega (arith, within, as_many)) in
    let Wrong : List ℕ → ℕ → Type 0 = λ t number. (number ≡ 1) × Lacks IsStockLine (Some t) in
    text_stuck_behind Wrong (IsFaultAtFront (AreStockLines (length levels)))
    (stock_lines (take i levels) (take i volumes)) i line0 line first now before counts after fault text at same
    (λ t number w. subst (IsFaultAtFront (AreStockLines (length levels))
    (stock_lines (take i levels) (take i volumes) ++ t)) (let one = w.0 in omega (arith, n, one))
    (stock_stuck_behind (take i levels) (take i volumes) (length levels) (length levels - i - 1) (record {
      same = n ∙ sym k;
      levels = all_l;
      volumes = all_v;
    }) (omega (arith, n, within)) t w.1))
    (text_stuck_here Wrong IsStockLine line now counts after fault (λ t lacks. (refl, lacks)) h)

-- one stock more
pub stock_read : (i : ℕ) (ls vs ls' vs' : List ℤ) (l v : ℤ) (first now next : Option (List ℕ)) → i < length ls
    → length ls ≡ length vs → ls' ≡ slice_set ls i l → vs' ≡ slice_set vs i v
    → first ≡ prepend_known (stock_lines (take i ls) (take i vs)) now → now ≡ prepend_known (stock_line l v) next
    → first ≡ prepend_known (stock_lines (take (i + 1) ls') (take (i + 1) vs')) next
stock_read i ls vs ls' vs' l v first now next within as_many set_l set_v so_far read =
    let same : length (take i ls) ≡ length (take i vs) = length-take-le i ls (omega (arith, within))
    ∙ sym (length-take-le i vs (omega (arith, within, as_many))) in
    so_far ∙ (ap (prepend_known (stock_lines (take i ls) (take i vs))) read
    ∙ (prepend_known-prepend_known next (stock_lines (take i ls) (take i vs)) (stock_line l v)
    ∙ ap (λ t. prepend_known t next) (sym (stock_push (take i ls) (take i vs) l v same)
    ∙ ap₂ stock_lines (sym (ap (take (i + 1)) set_l ∙ take_more_set ls i l within))
    (sym (ap (take (i + 1)) set_v ∙ take_more_set vs i v (omega (arith, within, as_many)))))))
