-- First faults: behind lines, in texts that have to go on, and where the next line isn't one that can stand there.
use Rattle.std.proofs.Common.{◌≡◌, ◌≢◌, ℕ, ◌+◌, ◌==◌, Bool, true, false, if◌then◌else◌, ◌⊎◌, List, [], ◌∷◌, ◌++◌}
use Rattle.std.proofs.Common.{Option, Some, None, IfSome, refl, sym, ap, subst, ◌∙◌, append_assoc, inl, inr, arith}
use Rattle.std.proofs.lemmas.Bool.{eqb-true}
use Rattle.std.proofs.lemmas.List.{append-nil}
use Rattle.hyd_io.specs.DeskBytes.{prepend_known}
use Rattle.hyd_io.specs.DeskCounts.{with_read_fault}
use Rattle.hyd_io.specs.declared.desk.Faults.{Faults}
use Rattle.hyd_spec_certificates.specs.CertificateText.{line_feeds}
use Rattle.hyd_spec_witnesses.specs.FaultyLine.{IsLines, HasFirstLine, ended, unended}
use Rattle.hyd_line_reader.specs.TextsWithoutLine.{HasNo}
use Rattle.hyd_cert.specs.PlacesOfLines.{Lacks}
use Rattle.hyd_cert.specs.Faults.{lines_on}
use Rattle.hyd_line_reader.proofs.SplitTexts.{split-same, has_none}
use Rattle.hyd_witness_texts.specs.FirstFaults.{IsFirstFault, IsLineFault, IsTextFault}
use Rattle.hyd_witness_texts.specs.declared.answers_of_reader.WitnessFault.{WitnessFault}
use Rattle.hyd_witness_texts.specs.declared.answers_of_reader.WitnessFault.TheVariants.{Read, Grammar}

-- ---- line feeds

pub feeds-append : (a b : List ℕ) → line_feeds (a ++ b) ≡ line_feeds a + line_feeds b
feeds-append [] b = omega arith
feeds-append (c ∷ a) b = let k = feeds-append a b in omega (arith, k)

free_feeds : (text : List ℕ) → HasNo 10 text → line_feeds text ≡ 0
free_feeds [] free = refl
free_feeds (c ∷ text) free = none (c == 10) c (line_feeds text) refl free.0 (free_feeds text free.1)
  where
    none : (b : Bool) (c feeds : ℕ) → (c == 10) ≡ b → c ≢ 10 → feeds ≡ 0 → (if c == 10 then 1 else 0) + feeds ≡ 0
    none true c feeds e apart rest = absurd (apart (eqb-true c 10 e))
    none false c feeds e apart rest = ap (λ (b : Bool). (if b then 1 else 0) + feeds) e ∙ omega (arith, rest)

-- a line has one
pub one_feed : (l : List ℕ) → HasNo 10 l → line_feeds (l ++ (10 ∷ [])) ≡ 1
one_feed l free = let sum = feeds-append l (10 ∷ []) in let none = free_feeds l free in omega (arith, sum, none)

pub lines_append : (a b : List ℕ) → IsLines a → IsLines b → IsLines (a ++ b)
lines_append a b first (inl e) = subst IsLines (sym (ap (λ t. a ++ t) e ∙ append-nil a)) first
lines_append a b first (inr second) =
    inr (a ++ second.0, ap (λ t. a ++ t) second.1 ∙ sym (append_assoc a second.0 (10 ∷ [])))

pub one_is_lines : (l : List ℕ) → IsLines (l ++ (10 ∷ []))
one_is_lines l = inr (l, refl)

-- what follows two lines is the same where both texts are
pub cut_line : (a b x y : List ℕ) → HasNo 10 a → HasNo 10 b → (a ++ (10 ∷ [])) ++ x ≡ (b ++ (10 ∷ [])) ++ y → x ≡ y
cut_line a b x y free_a free_b e =
    (split-same 10 a b x y free_a free_b (sym (append_assoc a (10 ∷ []) x) ∙ (e ∙ append_assoc b (10 ∷ []) y))).1

-- ---- first lines

record HasLine (text : List ℕ) : Type 0 where
  line : List ℕ
  rest : List ℕ
  free : HasNo 10 line
  is : text ≡ line ++ (10 ∷ rest)

no-feed : (c : ℕ) → (c == 10) ≡ false → c ≢ 10
no-feed c other same = let one : (10 == 10) ≡ false = ap (λ d. d == 10) (sym same) ∙ other in absurd (cc)

feed-by-test : (b : Bool) (c : ℕ) (text : List ℕ) → (c == 10) ≡ b → HasNo 10 text ⊎ HasLine text
    → HasNo 10 (c ∷ text) ⊎ HasLine (c ∷ text)
feed-by-test true c text e more = inr (record {
  line = [];
  rest = text;
  free = tt;
  is = ap (λ d. d ∷ text) (eqb-true c 10 e);
})
feed-by-test false c text e (inl free) = inl (no-feed c e, free)
feed-by-test false c text e (inr more) = inr (record {
  line = c ∷ more.line;
  rest = more.rest;
  free = (no-feed c e, more.free);
  is = ap (λ t. c ∷ t) more.is;
})

first-feed : (text : List ℕ) → HasNo 10 text ⊎ HasLine text
first-feed [] = inl tt
first-feed (c ∷ text) = feed-by-test (c == 10) c text refl (first-feed text)

own-line : (text : List ℕ) → HasNo 10 text ⊎ HasLine text → HasFirstLine text text
own-line text (inl free) = unended free
own-line text (inr k) = subst (HasFirstLine text) (sym k.is) (ended k.line k.rest k.rest k.free k.is)

-- the text begins with such a line
pub record HasFirst (IsSuch : List ℕ → Type 0) (text : List ℕ) : Type 0 where
  pub line : List ℕ
  pub rest : List ℕ
  pub is_such : IsSuch line
  pub parts : text ≡ line ++ (10 ∷ rest)

same_first : (text after : List ℕ) → HasFirstLine text after → (l r : List ℕ) → after ≡ l ++ (10 ∷ r) → HasNo 10 l
    → (rest : List ℕ) × (text ≡ l ++ (10 ∷ rest))
same_first text _ (ended line rest after free e) l r is alone =
    (rest, e ∙ ap (λ x. x ++ (10 ∷ rest)) (split-same 10 line l after r free alone is).0)
same_first text _ (unended free) l r is alone = absurd (has_none 10 l r (subst (HasNo 10) is free))

not_nil : (l r : List ℕ) → l ++ (10 ∷ r) ≡ [] → ⊥
not_nil [] r e = cc
not_nil (c ∷ l) r e = cc

same_nothing : (text after : List ℕ) → HasFirstLine text after → after ≡ [] → text ≡ []
same_nothing text _ (ended line rest after free e) is = absurd (not_nil line after is)
same_nothing text _ (unended free) is = is

-- ---- faults

module _ {GoesOn IsSuch : List ℕ → Type 0} where
  -- a text at fault is none
  pub none_such : (text : List ℕ) (number : ℕ) → IsFirstFault GoesOn IsSuch text number → IsSuch text → ⊥
  none_such text number k is = k.stops k.rest (own-line k.rest (first-feed k.rest)) (subst IsSuch k.parts is)

  -- the next line can't stand there
  pub stuck_here : (IsFirst : List ℕ → Type 0) (text more : List ℕ) → GoesOn more
      → ((l : List ℕ) → IsFirst l → HasNo 10 l) → ((t : List ℕ) → IsSuch t → HasFirst IsFirst t)
      → Lacks IsFirst (Some text) → IsFirstFault GoesOn IsSuch text 1
  stuck_here IsFirst text more goes_on alone begins lacks = record {
    front = [];
    rest = text;
    parts = refl;
    lines = inl refl;
    count = omega arith;
    more = more;
    goes_on = goes_on;
    stops = λ after first is. let f = begins after is in
        let same = same_first text after first f.line f.rest f.parts (alone f.line f.is_such) in
        lacks f.line same.0 f.is_such (ap Some same.1);
  }

  module _ {GoesOnToo IsSuchToo : List ℕ → Type 0} where
    -- a fault behind some lines
    pub stuck_behind : (a rest : List ℕ) (m number : ℕ) → IsLines a → line_feeds a ≡ m
        → ((t : List ℕ) → GoesOn t → GoesOnToo (a ++ t)) → ((t : List ℕ) → IsSuchToo (a ++ t) → IsSuch t)
        → IsFirstFault GoesOn IsSuch rest number → IsFirstFault GoesOnToo IsSuchToo (a ++ rest) (m + number)
    stuck_behind a rest m number lines feeds push pull k = record {
      front = a ++ k.front;
      rest = k.rest;
      parts = ap (λ t. a ++ t) k.parts ∙ sym (append_assoc a k.front k.rest);
      lines = lines_append a k.front lines k.lines;
      count = (let sum = feeds-append a k.front in let c = k.count in omega (arith, sum, c, feeds));
      more = k.more;
      goes_on = subst GoesOnToo (sym (append_assoc a k.front k.more)) (push (k.front ++ k.more) k.goes_on);
      stops = λ after first is. k.stops after first
          (pull (k.front ++ after) (subst IsSuchToo (append_assoc a k.front after) is));
    }

    -- a fault in the front of a text that has to go on
    pub stuck_with_more : (text : List ℕ) (number : ℕ)
        → ((t : List ℕ) → GoesOn t → (u : List ℕ) × GoesOnToo (t ++ u))
        → ((t : List ℕ) → IsSuchToo t → IsSuch t)
        → IsFirstFault GoesOn IsSuch text number → IsFirstFault GoesOnToo IsSuchToo text number
    stuck_with_more text number push pull k =
        let further = push (k.front ++ k.more) k.goes_on in record {
          front = k.front;
          rest = k.rest;
          parts = k.parts;
          lines = k.lines;
          count = k.count;
          more = k.more ++ further.0;
          goes_on = subst GoesOnToo (append_assoc k.front k.more further.0) further.1;
          stops = λ after first is. k.stops after first (pull (k.front ++ after) is);
        }

-- something stands where the text has to end
pub stuck_at_end : (text : List ℕ) → text ≢ [] → IsFirstFault (λ t. t ≡ []) (λ t. t ≡ []) text 1
stuck_at_end text some = record {
  front = [];
  rest = text;
  parts = refl;
  lines = inl refl;
  count = omega arith;
  more = [];
  goes_on = refl;
  stops = λ after first is. some (same_nothing text after first is);
}

-- ---- what a reader answers

-- a fault of all lines is one of such lines
pub line_fault_of : (IsSuch IsOther : List ℕ → Type 0) (line : ℕ) (text : Option (List ℕ)) (before now : Faults)
    (fault : WitnessFault) → ((l : List ℕ) → IsOther l → IsSuch l)
    → IsLineFault IsSuch line text before now fault → IsLineFault IsOther line text before now fault
line_fault_of IsSuch IsOther line text before now Read all h = h
line_fault_of IsSuch IsOther line text before now (Grammar number) all h =
    (h.0, λ l rest is. h.1 l rest (all l is), h.2)

module _ (IsWrong : List ℕ → ℕ → Type 0) where
  -- the next line can't stand there
  pub text_stuck_here : (IsSuch : List ℕ → Type 0) (line : ℕ) (text : Option (List ℕ)) (before now : Faults)
      (fault : WitnessFault) → ((t : List ℕ) → Lacks IsSuch (Some t) → IsWrong t 1)
      → IsLineFault IsSuch line text before now fault → IsTextFault IsWrong line text before now fault
  text_stuck_here IsSuch line text before now Read wrong h = h
  text_stuck_here IsSuch line None before now (Grammar number) wrong h = (1, (h.0, tt, h.2))
  text_stuck_here IsSuch line (Some t) before now (Grammar number) wrong h = (1, (h.0, wrong t h.1, h.2))

  module _ (IsWrongToo : List ℕ → ℕ → Type 0) where
    -- a fault in other words
    pub text_stuck : (line : ℕ) (text : Option (List ℕ)) (before now : Faults) (fault : WitnessFault)
        → ((t : List ℕ) (number : ℕ) → IsWrong t number → IsWrongToo t number)
        → IsTextFault IsWrong line text before now fault → IsTextFault IsWrongToo line text before now fault
    text_stuck line text before now Read wrong h = h
    text_stuck line None before now (Grammar number) wrong h = (h.0, (h.1.0, tt, h.1.2))
    text_stuck line (Some t) before now (Grammar number) wrong h = (h.0, (h.1.0, wrong t h.0 h.1.1, h.1.2))

    -- a fault behind some lines
    pub text_stuck_behind : (a : List ℕ) (m line0 line : ℕ) (first rest : Option (List ℕ)) (before counts now : Faults)
        (fault : WitnessFault) → first ≡ prepend_known a rest → line ≡ lines_on line0 m → counts ≡ before
        → ((t : List ℕ) (number : ℕ) → IsWrong t number → IsWrongToo (a ++ t) (m + number))
        → IsTextFault IsWrong line rest counts now fault → IsTextFault IsWrongToo line0 first before now fault
    text_stuck_behind a m line0 line first rest before counts now Read text at same wrong h =
        h ∙ ap with_read_fault same
    text_stuck_behind a m line0 line first None before counts now (Grammar number) text at same wrong h = (
      m + h.0,
      (
        let far = h.1.0 in omega (arith, far, at),
        subst (λ (t : Option (List ℕ)). IfSome t (λ told. IsWrongToo told (m + h.0))) (sym text) tt,
        h.1.2 ∙ same,
      ),
    )
    text_stuck_behind a m line0 line first (Some t) before counts now (Grammar number) text at same wrong h = (
      m + h.0,
      (
        let far = h.1.0 in omega (arith, far, at),
        subst (λ (t : Option (List ℕ)). IfSome t (λ told. IsWrongToo told (m + h.0))) (sym text)
            (wrong t h.0 h.1.1),
        h.1.2 ∙ same,
      ),
    )
