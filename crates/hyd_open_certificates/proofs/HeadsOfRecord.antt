-- The heads of a record, line by line.
use Rattle.std.proofs.Common.{◌≡◌, ℕ, zero, suc, ◌+◌, ◌-◌, ◌/◌, ◌<◌, ◌≤◌, ℤ, pos, Option, Some, List, [], ◌∷◌}
use Rattle.std.proofs.Common.{◌++◌, length, length-append, take, All, refl, sym, ap, subst, ◌∙◌, append_assoc, inl}
use Rattle.std.proofs.Common.{arith}
use Rattle.std.specs.Fmt.{signed_decimal}
use Rattle.std.proofs.lemmas.Int.{ints}
use Rattle.std.proofs.lemmas.List.{length-take-le}
use Rattle.std.proofs.lemmas.List.Elements.{All-nil, All-cons, All-head, All-tail, All-append}
use Rattle.hyd_io.specs.DeskBytes.{prepend_known}
use Rattle.hyd_io.specs.declared.desk.Faults.{Faults}
use Rattle.hyd_spec_certificates.specs.Certificate.{IsInBox}
use Rattle.hyd_spec_certificates.specs.CertificateText.{line_feeds}
use Rattle.hyd_spec_witnesses.specs.FaultyLine.{IsLines}
use Rattle.hyd_line_reader.specs.TextsWithoutLine.{HasNo}
use Rattle.hyd_witness_texts.specs.FirstFaults.{Begins, IsFaultAtFront}
use Rattle.hyd_witness_texts.proofs.FirstFaultLemmas.{feeds-append, one_feed, lines_append, one_is_lines, cut_line}
use Rattle.hyd_witness_texts.proofs.FirstFaultLemmas.{HasFirst, stuck_here, stuck_behind}
use Rattle.hyd_cert.specs.Lines.{IsHeadLine}
use Rattle.hyd_cert.specs.PlacesOfLines.{Lacks, front_at, head_text}
use Rattle.hyd_cert.specs.Faults.{lines_on, IsLineFault}
use Rattle.hyd_cert.specs.declared.answers_of_reader.CertFault.{CertFault}
use Rattle.hyd_cert.proofs.LineLemmas.{head_is_line}
use Rattle.hyd_cert.proofs.HeadLemmas.{is_front}
use Rattle.hyd_cert.proofs.VectorLemmas.{head_text-append}
use Rattle.hyd_open_certificates.specs.OpenTexts.{AreHeads}
use Rattle.hyd_open_certificates.specs.OpenFaults.{IsWrongLine}
use Rattle.hyd_open_certificates.proofs.WrongLines.{wrong_here, wrong_behind}

-- ---- one head

module _ (n : ℕ) where
  head_line : (i : ℕ) (u : ℤ) → IsInBox u → IsHeadLine (front_at n i) (front_at n i ++ signed_decimal u)
  head_line i u box = record { head = u; in_box = box; is = refl }

  pub head_alone : (i : ℕ) (u : ℤ) → IsInBox u → HasNo 10 (front_at n i ++ signed_decimal u)
  head_alone i u box = (head_is_line (front_at n i) (front_at n i ++ signed_decimal u) (is_front (i / n))
      (head_line i u box)).0

  -- the heads are its line and the others
  pub first_head : (i : ℕ) (u : ℤ) (us : List ℤ) → head_text n i (u ∷ us)
      ≡ ((front_at n i ++ signed_decimal u) ++ (10 ∷ [])) ++ head_text n (i + 1) us
  first_head i u us =
      sym (append_assoc (front_at n i ++ signed_decimal u) (10 ∷ []) (head_text n (i + 1) us)
      ∙ append_assoc (front_at n i) (signed_decimal u) (10 ∷ head_text n (i + 1) us))

  pub first_then : (i : ℕ) (u : ℤ) (us : List ℤ) (r : List ℕ) → head_text n i (u ∷ us) ++ r
      ≡ ((front_at n i ++ signed_decimal u) ++ (10 ∷ [])) ++ (head_text n (i + 1) us ++ r)
  first_then i u us r =
      ap (λ t. t ++ r) (first_head i u us)
      ∙ append_assoc ((front_at n i ++ signed_decimal u) ++ (10 ∷ [])) (head_text n (i + 1) us) r

  -- ---- several

  pub heads_are_lines : (i : ℕ) (us : List ℤ) → IsLines (head_text n i us)
  heads_are_lines i [] = inl refl
  heads_are_lines i (u ∷ us) =
      subst IsLines (sym (first_head i u us)) (lines_append ((front_at n i ++ signed_decimal u) ++ (10 ∷ []))
      (head_text n (i + 1) us) (one_is_lines (front_at n i ++ signed_decimal u)) (heads_are_lines (i + 1) us))

  pub heads_feeds : (i : ℕ) (us : List ℤ) → All IsInBox us → line_feeds (head_text n i us) ≡ length us
  heads_feeds i [] all = refl
  heads_feeds i (u ∷ us) all =
      let parts = ap line_feeds (first_head i u us) in
      let sum = feeds-append ((front_at n i ++ signed_decimal u) ++ (10 ∷ [])) (head_text n (i + 1) us) in
      let one = one_feed (front_at n i ++ signed_decimal u) (head_alone i u (All-head IsInBox u us all)) in
      let more = heads_feeds (i + 1) us (All-tail IsInBox u us all) in omega (arith, parts, sum, one, more)

  -- what is left of the heads of a text behind some of them
  pub record LeftOver (j : ℕ) (us ws : List ℤ) (t r : List ℕ) : Type 0 where
    pub rest : List ℤ
    pub fit : All IsInBox rest
    pub count : length ws ≡ length us + length rest
    pub is : t ≡ head_text n j rest ++ r

  pub heads_left : (i j : ℕ) (us ws : List ℤ) → j ≡ i + length us → All IsInBox us → All IsInBox ws
      → length us ≤ length ws → (t r : List ℕ) → head_text n i us ++ t ≡ head_text n i ws ++ r
      → LeftOver j us ws t r
  heads_left i j [] ws at all_u all_w low t r e = record {
    rest = ws;
    fit = all_w;
    count = omega arith;
    is = e ∙ ap (λ k. head_text n k ws ++ r) (omega (arith, at));
  }
  heads_left i j (u ∷ us) [] at all_u all_w low t r e = absurd (omega (arith, low))
  heads_left i j (u ∷ us) (w ∷ ws) at all_u all_w low t r e =
      let A = head_text n (i + 1) us in let B = head_text n (i + 1) ws in
      let after : A ++ t ≡ B ++ r = cut_line (front_at n i ++ signed_decimal u) (front_at n i ++ signed_decimal w)
      (A ++ t) (B ++ r) (head_alone i u (All-head IsInBox u us all_u)) (head_alone i w (All-head IsInBox w ws all_w))
      (sym (first_then i u us t) ∙ (e ∙ first_then i w ws r)) in
      let k = heads_left (i + 1) j us ws (omega (arith, at)) (All-tail IsInBox u us all_u)
      (All-tail IsInBox w ws all_w) (omega (arith, low)) t r after in record {
        rest = k.rest;
        fit = k.fit;
        count = (let c = k.count in omega (arith, c));
        is = k.is;
      }

  none_left : (j : ℕ) (rest : List ℤ) (t r : List ℕ) → length rest ≡ 0 → t ≡ head_text n j rest ++ r → t ≡ r
  none_left j [] t r none e = e
  none_left j (u ∷ rest) t r none e = absurd (omega (arith, none))

  -- what follows so many heads is one
  pub heads_cut : (i count : ℕ) (a b x y : List ℕ) → AreHeads n i count a → AreHeads n i count b → a ++ x ≡ b ++ y
      → x ≡ y
  heads_cut i count a b x y is_a is_b e =
      let va = is_a.many in let vb = is_b.many in
      let k = heads_left i (i + length is_a.heads) is_a.heads is_b.heads refl is_a.in_box is_b.in_box
      (omega (arith, va, vb)) x y (ap (λ t. t ++ x) (sym is_a.is) ∙ (e ∙ ap (λ t. t ++ y) is_b.is)) in
      let c = k.count in
      none_left (i + length is_a.heads) k.rest x y (omega (arith, va, vb, c)) k.is

  -- ---- so many heads of 0

  zeros : ℕ → List ℤ
  zeros zero = []
  zeros (suc m) = pos 0 ∷ zeros m

  many_zeros : (m : ℕ) → length (zeros m) ≡ m
  unfolding zeros
  many_zeros zero = refl
  many_zeros (suc m) = let k = many_zeros m in omega (arith, k)

  zeros_in_box : (m : ℕ) → All IsInBox (zeros m)
  unfolding zeros
  zeros_in_box zero = All-nil IsInBox
  zeros_in_box (suc m) = All-cons IsInBox (pos 0) (zeros m) (record {
    above_floor = omega (arith, ints);
    below_ceiling = omega (arith, ints);
  }) (zeros_in_box m)

  zero_heads : (i count : ℕ) → AreHeads n i count (head_text n i (zeros count))
  zero_heads i count = record {
    heads = zeros count;
    many = many_zeros count;
    in_box = zeros_in_box count;
    is = refl;
  }

  -- ---- the next line isn't that of a head

  begins_with_head : (i m : ℕ) (t : List ℕ) → Begins (AreHeads n i (suc m)) t → HasFirst (IsHeadLine (front_at n i)) t
  begins_with_head i m t b = from b.is_such.heads b.is_such.in_box b.is_such.many
      (b.parts ∙ ap (λ f. f ++ b.rest) b.is_such.is)
    where
      from : (us : List ℤ) → All IsInBox us → length us ≡ suc m → t ≡ head_text n i us ++ b.rest
          → HasFirst (IsHeadLine (front_at n i)) t
      from [] all many e = absurd (omega (arith, many))
      from (u ∷ us) all many e = record {
        line = front_at n i ++ signed_decimal u;
        rest = head_text n (i + 1) us ++ b.rest;
        is_such = head_line i u (All-head IsInBox u us all);
        parts = e ∙ (first_then i u us b.rest
            ∙ append_assoc (front_at n i ++ signed_decimal u) (10 ∷ []) (head_text n (i + 1) us ++ b.rest));
      }

  head_stuck : (i m : ℕ) (t : List ℕ) → Lacks (IsHeadLine (front_at n i)) (Some t)
      → IsFaultAtFront (AreHeads n i (suc m)) t 1
  head_stuck i m t lacks =
      stuck_here (IsHeadLine (front_at n i)) t (head_text n i (zeros (suc m))) (zero_heads i (suc m))
      (λ l is. (head_is_line (front_at n i) l (is_front (i / n)) is).0) (begins_with_head i m) lacks

  -- behind some heads
  head_stuck_behind : (us : List ℤ) (j count m : ℕ) → All IsInBox us → j ≡ length us → count ≡ j + suc m
      → (t : List ℕ) → Lacks (IsHeadLine (front_at n j)) (Some t)
      → IsFaultAtFront (AreHeads n 0 count) (head_text n 0 us ++ t) (j + 1)
  head_stuck_behind us j count m all at many t lacks =
      stuck_behind (head_text n 0 us) t j 1 (heads_are_lines 0 us) (heads_feeds 0 us all ∙ sym at) push pull
      (head_stuck j m t lacks)
    where
      push : (v : List ℕ) → AreHeads n j (suc m) v → AreHeads n 0 count (head_text n 0 us ++ v)
      push v is = record {
        heads = us ++ is.heads;
        many = (let sum = length-append us is.heads in let c = is.many in omega (arith, sum, c, many, at));
        in_box = All-append IsInBox us is.heads all is.in_box;
        is = ap (λ w. head_text n 0 us ++ w) is.is ∙ sym (head_text-append n 0 us is.heads j (omega (arith, at)));
      }

      pull : (v : List ℕ) → Begins (AreHeads n 0 count) (head_text n 0 us ++ v) → Begins (AreHeads n j (suc m)) v
      pull v b =
          let c = b.is_such.many in
          let k = heads_left 0 j us b.is_such.heads (omega (arith, at)) all b.is_such.in_box (omega (arith, c, many, at)) v
          b.rest
          (b.parts ∙ ap (λ f. f ++ b.rest) b.is_such.is) in record {
            front = head_text n j k.rest;
            rest = b.rest;
            is_such = record {
              heads = k.rest;
              many = (let d = k.count in omega (arith, c, d, many, at));
              in_box = k.fit;
              is = refl;
            };
            parts = k.is;
          }

  -- what a reader answers behind some heads
  pub heads_stuck : (into : List ℤ) (i line0 line : ℕ) (first now : Option (List ℕ)) (before counts after : Faults)
      (fault : CertFault) → i < length into → All IsInBox (take i into)
      → first ≡ prepend_known (head_text n 0 (take i into)) now → line ≡ lines_on line0 i → counts ≡ before
      → IsLineFault (IsHeadLine (front_at n i)) line now counts after fault
      → IsWrongLine (IsFaultAtFront (AreHeads n 0 (length into))) line0 first before after fault
  heads_stuck into i line0 line first now before counts after fault within all text at same h =
      let k = length-take-le i into (omega (arith, within)) in
      let Wrong : List ℕ → ℕ → Type 0 = λ t number. (number ≡ 1) × Lacks (IsHeadLine (front_at n i)) (Some t) in
      wrong_behind Wrong (IsFaultAtFront (AreHeads n 0 (length into)))
      (head_text n 0 (take i into)) i line0 line first now before counts after fault text at same
      (λ t number w. subst (IsFaultAtFront (AreHeads n 0 (length into))
      (head_text n 0 (take i into) ++ t)) (let one = w.0 in omega (arith, one))
      (head_stuck_behind (take i into) i (length into) (length into - i - 1) all (omega (arith, k))
      (omega (arith, within)) t w.1))
      (wrong_here Wrong (IsHeadLine (front_at n i)) line now counts after fault (λ t lacks. (refl, lacks)) h)
