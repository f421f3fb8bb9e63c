-- A text begins with one record, with one part and with one entry at most, so the entries of a text are one list.
use Rattle.std.proofs.Common.{◌≡◌, ℕ, ◌+◌, ◌<◌, ◌^◌, ℤ, pos, negsuc, Bool, List, [], ◌∷◌, ◌++◌, length, map, All}
use Rattle.std.proofs.Common.{codes, get_or, inl, refl, sym, ap, ap₂, subst, ◌∙◌, append_assoc, arith}
use Rattle.std.specs.Fmt.{decimal, signed_decimal}
use Rattle.std.proofs.lemmas.Fmt.{signed_decimal_injective}
use Rattle.std.proofs.lemmas.Int.{ints}
use Rattle.std.proofs.lemmas.List.{append-nil, append_cancel_left}
use Rattle.std.proofs.lemmas.List.Elements.{All-nil, All-head, All-tail}
use lib.Signed.{mag}
use Rattle.hyd_spec.specs.Lists.{joined}
use Rattle.hyd_spec_certificates.specs.Certificate.{IsInBox}
use Rattle.hyd_spec_certificates.specs.RecordAndStanding.{Record}
use Rattle.hyd_spec_certificates.specs.CertificateText.{words, header_line, record_text, end_line, IsVector, IsRow}
use Rattle.hyd_spec_certificates.specs.CertificateText.{certificate_text, IsCertificateText}
use Rattle.hyd_spec_flows.specs.FlowParts.{NamedLink, FlowPart}
use Rattle.hyd_spec_flows.specs.FlowTexts.{Entry, IsEntry, IsPart, IsNamed, IsTextWithFlows, flows_version, entry_text}
use Rattle.hyd_spec_flows.specs.FlowTexts.{part_text, named_text, name_line, flows_line}
use Rattle.hyd_line_reader.specs.TextsWithoutLine.{HasNo}
use Rattle.hyd_cert.specs.PlacesOfLines.{front_at, head_text}
use Rattle.hyd_cert.specs.PlacesWithFlows.{held_lines}
use Rattle.hyd_line_reader.proofs.SplitTexts.{split-same}
use Rattle.hyd_cert.proofs.LineLemmas.{head_free, wide_free, next_is_line}
use Rattle.hyd_cert.proofs.CertificatesLineByLine.{by_heads, flat}
use Rattle.hyd_cert.proofs.HeadLemmas.{period_is}
use Rattle.hyd_cert.proofs.VectorLemmas.{row_with, row_text}
use Rattle.hyd_cert.proofs.FlowLineLemmas.{flows_is_line, name_is_line, held_is}
use Rattle.hyd_theorems_on_definitions.proofs.CertificateLines.{decimal-same, header-short, contents-same}

-- ---- numbers

number_same : (m n : ℕ) → m < 2 ^ 32 → n < 2 ^ 32 → decimal m ≡ decimal n → m ≡ n
number_same m n small_m small_n e = decimal-same m n (omega (arith, small_m)) (omega (arith, small_n)) e

number_free : (n : ℕ) → n < 2 ^ 32 → HasNo 32 (decimal n)
number_free n small = wide_free 32 n (omega arith) (omega (arith, small))

mag_small : (u : ℤ) → IsInBox u → mag u < 2 ^ 63
mag_small (pos n) box = let b = box.below_ceiling in omega (arith, ints, b)
mag_small (negsuc n) box = let b = box.above_floor in omega (arith, ints, b)

-- a head before a line feed
one_head : (u v : ℤ) (r s : List ℕ) → IsInBox u → IsInBox v
    → signed_decimal u ++ (10 ∷ r) ≡ signed_decimal v ++ (10 ∷ s) → (u ≡ v) × (r ≡ s)
one_head u v r s in_u in_v e =
    let k = split-same 10 (signed_decimal u) (signed_decimal v) r s (head_free 10 u (omega arith) in_u)
    (head_free 10 v (omega arith) in_v) e in
    (signed_decimal_injective u v (mag_small u in_u) (mag_small v in_v) k.0, k.1)

-- ---- lines of heads

-- the lines of heads, each behind the key of its number
abbrev keyed : (ℕ → List ℕ) → ℕ → List ℤ → List ℕ
keyed key i [] = []
keyed key i (u ∷ us) = key i ++ (signed_decimal u ++ (10 ∷ keyed key (i + 1) us))

record_keyed : (n i : ℕ) (us : List ℤ) → head_text n i us ≡ keyed (front_at n) i us
record_keyed n i [] = refl
record_keyed n i (u ∷ us) = ap (λ t. front_at n i ++ (signed_decimal u ++ (10 ∷ t))) (record_keyed n (i + 1) us)

held_keyed : (front : List ℕ) (i : ℕ) (us : List ℤ) → held_lines front us ≡ keyed (λ k. front) i us
held_keyed front i [] = refl
held_keyed front i (u ∷ us) = ap (λ t. front ++ (signed_decimal u ++ (10 ∷ t))) (held_keyed front (i + 1) us)

-- a head's line, and what follows
line_parted : (key : List ℕ) (u : ℤ) (more rest : List ℕ)
    → (key ++ (signed_decimal u ++ (10 ∷ more))) ++ rest ≡ key ++ (signed_decimal u ++ (10 ∷ (more ++ rest)))
line_parted key u more rest =
    append_assoc key (signed_decimal u ++ (10 ∷ more)) rest
    ∙ ap (λ t. key ++ t) (append_assoc (signed_decimal u) (10 ∷ more) rest)

keyed_same : (key : ℕ → List ℕ) (i : ℕ) (us vs : List ℤ) (r s : List ℕ) → length us ≡ length vs → All IsInBox us
    → All IsInBox vs → keyed key i us ++ r ≡ keyed key i vs ++ s → (us ≡ vs) × (r ≡ s)
keyed_same key i [] [] r s long box_u box_v e = (refl, e)
keyed_same key i [] (v ∷ vs) r s long box_u box_v e = absurd (omega (arith, long))
keyed_same key i (u ∷ us) [] r s long box_u box_v e = absurd (omega (arith, long))
keyed_same key i (u ∷ us) (v ∷ vs) r s long box_u box_v e =
    let more = keyed key (i + 1) us in
    let others = keyed key (i + 1) vs in
    let first = one_head u v (more ++ r) (others ++ s) (All-head IsInBox u us box_u) (All-head IsInBox v vs box_v)
    (append_cancel_left (key i) (signed_decimal u ++ (10 ∷ (more ++ r))) (signed_decimal v ++ (10 ∷ (others ++ s)))
    (sym (line_parted (key i) u more r) ∙ (e ∙ line_parted (key i) v others s))) in
    let rest = keyed_same key (i + 1) us vs r s (omega (arith, long)) (All-tail IsInBox u us box_u)
    (All-tail IsInBox v vs box_v) first.1 in
    (ap₂ (λ x xs. x ∷ xs) first.0 rest.0, rest.1)

-- ---- records

abbrev period_words : Record → List ℕ
period_words row = words (codes "PERIOD" ∷ (decimal row.number ∷ (decimal row.time ∷ (decimal row.length ∷ []))))

period_free : (n k : ℕ) (row : Record) → IsRow n k row → HasNo 10 (period_words row)
period_free n k row is =
    (next_is_line (period_words row) (inl (period_is row.number row.time row.length is.number_fits is.time_fits
    is.length_fits))).0

-- a record is its PERIOD line and its heads
record_parted : (n k : ℕ) (row : Record) (rest : List ℕ) → IsRow n k row
    → record_text row ++ rest ≡ period_words row ++ (10 ∷ (head_text n 0 (flat row) ++ rest))
record_parted n k row rest is =
    let by = by_heads n k row is in
    let heads = head_text n 0 (flat row) in
    let period = period_words row in
    let parts : record_text row ≡ (period ++ (10 ∷ [])) ++ heads =
    ap record_text (sym by.same) ∙ row_text n k row.number row.time row.length (flat row) by.whole in
    ap (λ t. t ++ rest) parts ∙ (append_assoc (period ++ (10 ∷ [])) heads rest
    ∙ append_assoc period (10 ∷ []) (heads ++ rest))

-- the numbers of a PERIOD line
record SameNumbers (a b : Record) : Type 0 where
  number : a.number ≡ b.number
  time : a.time ≡ b.time
  seconds : a.length ≡ b.length

period_same : (n k : ℕ) (a b : Record) → IsRow n k a → IsRow n k b → period_words a ≡ period_words b → SameNumbers a b
period_same n k a b x y e =
    let numbers = split-same 32 (decimal a.number) (decimal b.number) (decimal a.time ++ (32 ∷ decimal a.length))
    (decimal b.time ++ (32 ∷ decimal b.length)) (number_free a.number x.number_fits)
    (number_free b.number y.number_fits)
    (append_cancel_left (codes "PERIOD ") (decimal a.number ++ (32 ∷ (decimal a.time ++ (32 ∷ decimal a.length))))
    (decimal b.number ++ (32 ∷ (decimal b.time ++ (32 ∷ decimal b.length)))) e) in
    let times = split-same 32 (decimal a.time) (decimal b.time) (decimal a.length) (decimal b.length)
    (number_free a.time x.time_fits) (number_free b.time y.time_fits) numbers.1 in
    record {
      number = number_same a.number b.number x.number_fits y.number_fits numbers.0;
      time = number_same a.time b.time x.time_fits y.time_fits times.0;
      seconds = number_same a.length b.length x.length_fits y.length_fits times.1;
    }

-- two records that begin a text are the same, and so is what follows
pub one_record : (n k : ℕ) (a b : Record) (r s : List ℕ) → IsRow n k a → IsRow n k b
    → record_text a ++ r ≡ record_text b ++ s → (a ≡ b) × (r ≡ s)
one_record n k a b r s is_a is_b e =
    let x = by_heads n k a is_a in
    let y = by_heads n k b is_b in
    let period = split-same 10 (period_words a) (period_words b) (head_text n 0 (flat a) ++ r) (head_text n 0 (flat b) ++ s)
    (period_free n k a is_a) (period_free n k b is_b)
    (sym (record_parted n k a r is_a) ∙ (e ∙ record_parted n k b s is_b)) in
    let same = period_same n k a b is_a is_b period.0 in
    let heads = keyed_same (front_at n) 0 (flat a) (flat b) r s (x.whole ∙ sym y.whole) x.box y.box
    (ap (λ t. t ++ r) (sym (record_keyed n 0 (flat a))) ∙ (period.1 ∙ ap (λ t. t ++ s) (record_keyed n 0 (flat b)))) in
    let number = same.number in
    let time = same.time in
    let seconds = same.seconds in
    let rows : row_with n k a.number a.time a.length (flat a) ≡ row_with n k b.number b.time b.length (flat b) =
    λ i. row_with n k (number i) (time i) (seconds i) (heads.0 i) in
    (sym x.same ∙ (rows ∙ y.same), heads.1)

-- ---- parts

-- the heads of one vector of a link
one_vector : (n : ℕ) (front : List ℕ) (us vs : List ℤ) (r s : List ℕ) → IsVector n us → IsVector n vs
    → held_lines front us ++ r ≡ held_lines front vs ++ s → (us ≡ vs) × (r ≡ s)
one_vector n front us vs r s x y e =
    keyed_same (λ k. front) 0 us vs r s (x.one_each ∙ sym y.one_each) x.in_box y.in_box
    (ap (λ t. t ++ r) (sym (held_keyed front 0 us)) ∙ (e ∙ ap (λ t. t ++ s) (held_keyed front 0 vs)))

abbrev link_words : NamedLink → List ℕ
link_words named = words (codes "LINK" ∷ (decimal named.link ∷ []))

abbrev upper_lines : NamedLink → List ℕ
upper_lines named = held_lines (codes "FU ") named.held.upper

abbrev lower_lines : NamedLink → List ℕ
lower_lines named = held_lines (codes "FL ") named.held.lower

-- a link is its LINK line and its heads
link_parted : (named : NamedLink) (rest : List ℕ)
    → named_text named ++ rest ≡ link_words named ++ (10 ∷ (upper_lines named ++ (lower_lines named ++ rest)))
link_parted named rest =
    let upper = upper_lines named in
    let lower = lower_lines named in
    let heads : named_text named ≡ name_line named.link ++ (upper ++ lower) =
    ap (λ t. name_line named.link ++ t) (ap₂ (λ a b. a ++ b) (sym (held_is (codes "FU") named.held.upper))
    (sym (held_is (codes "FL") named.held.lower))) in
    ap (λ t. t ++ rest) heads ∙ (append_assoc (name_line named.link) (upper ++ lower) rest
    ∙ (ap (λ t. name_line named.link ++ t) (append_assoc upper lower rest)
    ∙ append_assoc (link_words named) (10 ∷ []) (upper ++ (lower ++ rest))))

name_free : (n : ℕ) (named : NamedLink) → IsNamed n named → HasNo 10 (link_words named)
name_free n named is =
    (name_is_line (link_words named) (named.link, record { fits = is.link_fits; is = refl })).0

one_link : (n : ℕ) (a b : NamedLink) (r s : List ℕ) → IsNamed n a → IsNamed n b
    → named_text a ++ r ≡ named_text b ++ s → (a ≡ b) × (r ≡ s)
one_link n a b r s is_a is_b e =
    let name = split-same 10 (link_words a) (link_words b) (upper_lines a ++ (lower_lines a ++ r))
    (upper_lines b ++ (lower_lines b ++ s)) (name_free n a is_a) (name_free n b is_b)
    (sym (link_parted a r) ∙ (e ∙ link_parted b s)) in
    let number = number_same a.link b.link is_a.link_fits is_b.link_fits
    (append_cancel_left (codes "LINK ") (decimal a.link) (decimal b.link) name.0) in
    let upper = one_vector n (codes "FU ") a.held.upper b.held.upper (lower_lines a ++ r) (lower_lines b ++ s)
    is_a.upper is_b.upper name.1 in
    let lower = one_vector n (codes "FL ") a.held.lower b.held.lower r s is_a.lower is_b.lower upper.1 in
    (λ i. record { link = number i; held = record { upper = upper.0 i; lower = lower.0 i } }, lower.1)

same_links : (n : ℕ) (p q : FlowPart) (r s : List ℕ) → length p ≡ length q → All (IsNamed n) p → All (IsNamed n) q
    → joined (map named_text p) ++ r ≡ joined (map named_text q) ++ s → (p ≡ q) × (r ≡ s)
same_links n [] [] r s many are_p are_q e = (refl, e)
same_links n [] (b ∷ q) r s many are_p are_q e = absurd (omega (arith, many))
same_links n (a ∷ p) [] r s many are_p are_q e = absurd (omega (arith, many))
same_links n (a ∷ p) (b ∷ q) r s many are_p are_q e =
    let more = joined (map named_text p) in
    let others = joined (map named_text q) in
    let first = one_link n a b (more ++ r) (others ++ s) (All-head (IsNamed n) a p are_p)
    (All-head (IsNamed n) b q are_q)
    (sym (append_assoc (named_text a) more r) ∙ (e ∙ append_assoc (named_text b) others s)) in
    let rest = same_links n p q r s (omega (arith, many)) (All-tail (IsNamed n) a p are_p)
    (All-tail (IsNamed n) b q are_q) first.1 in
    (ap₂ (λ x xs. x ∷ xs) first.0 rest.0, rest.1)

abbrev flows_words : FlowPart → List ℕ
flows_words part = words (codes "FLOWS" ∷ (decimal (length part) ∷ []))

part_parted : (part : FlowPart) (rest : List ℕ)
    → part_text part ++ rest ≡ flows_words part ++ (10 ∷ (joined (map named_text part) ++ rest))
part_parted part rest =
    let links = joined (map named_text part) in
    append_assoc (flows_line (length part)) links rest ∙ append_assoc (flows_words part) (10 ∷ []) (links ++ rest)

flows_free : (n : ℕ) (part : FlowPart) → IsPart n part → HasNo 10 (flows_words part)
flows_free n part is =
    (flows_is_line (flows_words part) (length part, record { some = is.some; at_most = is.at_most; is = refl })).0

one_part : (n : ℕ) (p q : FlowPart) (r s : List ℕ) → IsPart n p → IsPart n q
    → part_text p ++ r ≡ part_text q ++ s → (p ≡ q) × (r ≡ s)
one_part n p q r s is_p is_q e =
    let first = split-same 10 (flows_words p) (flows_words q) (joined (map named_text p) ++ r)
    (joined (map named_text q) ++ s) (flows_free n p is_p) (flows_free n q is_q)
    (sym (part_parted p r) ∙ (e ∙ part_parted q s)) in
    let few = is_p.at_most in
    let most = is_q.at_most in
    let many = decimal-same (length p) (length q) (omega (arith, few)) (omega (arith, most))
    (append_cancel_left (codes "FLOWS ") (decimal (length p)) (decimal (length q)) first.0) in
    same_links n p q r s many is_p.each is_q.each first.1

-- ---- entries

-- two entries that begin a text are the same, and so is what follows
pub one_entry : (n k : ℕ) (a b : Entry) (r s : List ℕ) → IsEntry n k a → IsEntry n k b
    → entry_text a ++ r ≡ entry_text b ++ s → (a ≡ b) × (r ≡ s)
one_entry n k a b r s is_a is_b e =
    let row = one_record n k a.row b.row (part_text a.part ++ r) (part_text b.part ++ s) is_a.row is_b.row
    (sym (append_assoc (record_text a.row) (part_text a.part) r)
    ∙ (e ∙ append_assoc (record_text b.row) (part_text b.part) s)) in
    let part = one_part n a.part b.part r s is_a.part is_b.part row.1 in
    (λ i. record { row = row.0 i; part = part.0 i }, part.1)

-- an entry doesn't begin as the END line does
end_apart : (n k periods : ℕ) (finished : Bool) (entry : Entry) (rest : List ℕ) → IsEntry n k entry
    → end_line periods finished ≡ entry_text entry ++ rest → ⊥
end_apart n k periods finished entry rest is e =
    let first : 69 ≡ 80 = ap (λ (t : List ℕ). get_or t 0 0)
    (e ∙ (append_assoc (record_text entry.row) (part_text entry.part) rest
    ∙ record_parted n k entry.row (part_text entry.part ++ rest) is.row)) in
    absurd (omega (arith, first))

-- the END line alone, behind a header line
bare : (periods : ℕ) (finished : Bool) (text : List ℕ) → periods < 2 ^ 32
    → text ≡ certificate_text 1 0 0 [] periods finished → IsCertificateText text 1 0 0 [] periods finished
bare periods finished text fits e = record {
  known = inl refl;
  junctions_fit = omega arith;
  tanks_fit = omega arith;
  header_fits = header-short 1 0 0 (omega arith) (omega arith) (omega arith);
  rows_fit = All-nil (IsRow 0 0);
  periods_fit = fits;
  is_text = e;
}

one_end : (p q : ℕ) (f g : Bool) → p < 2 ^ 32 → q < 2 ^ 32 → end_line p f ≡ end_line q g → (p ≡ q) × (f ≡ g)
one_end p q f g fits_p fits_q e =
    (contents-same (certificate_text 1 0 0 [] p f) 1 1 0 0 0 0 p q [] [] f g
    (bare p f (certificate_text 1 0 0 [] p f) fits_p refl)
    (bare q g (certificate_text 1 0 0 [] p f) fits_q (ap (λ t. header_line 1 0 0 ++ t) e))).1

-- the entries with which entries and an END line begin are the first of them
pub first_entries : (n k : ℕ) (front all : List Entry) (unread : List ℕ) (periods : ℕ) (finished : Bool)
    → All (IsEntry n k) front → All (IsEntry n k) all
    → joined (map entry_text front) ++ unread ≡ joined (map entry_text all) ++ end_line periods finished
    → (more : List Entry) × ((all ≡ front ++ more)
    × (unread ≡ joined (map entry_text more) ++ end_line periods finished))
first_entries n k [] all unread periods finished are_f are_a e = (all, (refl, e))
first_entries n k (f ∷ front) [] unread periods finished are_f are_a e =
    let more = joined (map entry_text front) in
    absurd (end_apart n k periods finished f (more ++ unread) (All-head (IsEntry n k) f front are_f)
    (sym e ∙ append_assoc (entry_text f) more unread))
first_entries n k (f ∷ front) (a ∷ all) unread periods finished are_f are_a e =
    let more = joined (map entry_text front) in
    let others = joined (map entry_text all) in
    let end = end_line periods finished in
    let first = one_entry n k f a (more ++ unread) (others ++ end) (All-head (IsEntry n k) f front are_f)
    (All-head (IsEntry n k) a all are_a)
    (sym (append_assoc (entry_text f) more unread) ∙ (e ∙ append_assoc (entry_text a) others end)) in
    let rest = first_entries n k front all unread periods finished (All-tail (IsEntry n k) f front are_f)
    (All-tail (IsEntry n k) a all are_a) first.1 in
    (rest.0, (ap₂ (λ x xs. x ∷ xs) (sym first.0) rest.1.0, rest.1.1))

-- ---- texts

abbrev pub SameReading : (a b : List Entry) (p q : ℕ) (f g : Bool) → Type 0
SameReading a b p q f g = (a ≡ b) × ((p ≡ q) × (f ≡ g))

nothing_more : (n k : ℕ) (a b more : List Entry) (p q : ℕ) (f g : Bool) → p < 2 ^ 32 → q < 2 ^ 32
    → All (IsEntry n k) b → b ≡ a ++ more → end_line p f ≡ joined (map entry_text more) ++ end_line q g
    → SameReading a b p q f g
nothing_more n k a b [] p q f g fits_p fits_q are e rest =
    (sym (e ∙ append-nil a), one_end p q f g fits_p fits_q rest)
nothing_more n k a b (entry ∷ more) p q f g fits_p fits_q are e rest =
    absurd (end_apart n k p f entry (joined (map entry_text more) ++ end_line q g)
    (at_place a (subst (All (IsEntry n k)) e are))
    (rest ∙ append_assoc (entry_text entry) (joined (map entry_text more)) (end_line q g)))
  where
    at_place : (before : List Entry) → All (IsEntry n k) (before ++ (entry ∷ more)) → IsEntry n k entry
    at_place [] all = All-head (IsEntry n k) entry more all
    at_place (x ∷ before) all = at_place before (All-tail (IsEntry n k) x (before ++ (entry ∷ more)) all)

-- a text with flows has one reading
pub one_reading : (text : List ℕ) (n k : ℕ) (a b : List Entry) (p q : ℕ) (f g : Bool)
    → IsTextWithFlows text n k a p f → IsTextWithFlows text n k b q g → SameReading a b p q f g
one_reading text n k a b p q f g x y =
    let head = header_line flows_version n k in
    let end = end_line p f in
    let first = first_entries n k a b end q g x.entries_fit y.entries_fit
    (append_cancel_left head (joined (map entry_text a) ++ end) (joined (map entry_text b) ++ end_line q g)
    (sym x.is_text ∙ y.is_text)) in
    nothing_more n k a b first.0 p q f g x.periods_fit y.periods_fit y.entries_fit first.1.0 first.1.1

-- and the entries with which it begins are the first of its own
pub front_entries : (text unread : List ℕ) (n k : ℕ) (front all : List Entry) (periods : ℕ) (finished : Bool)
    → IsTextWithFlows text n k all periods finished → All (IsEntry n k) front
    → text ≡ header_line flows_version n k ++ (joined (map entry_text front) ++ unread)
    → (more : List Entry) × (all ≡ front ++ more)
front_entries text unread n k front all periods finished is are e =
    let head = header_line flows_version n k in
    let first = first_entries n k front all unread periods finished are is.entries_fit
    (append_cancel_left head (joined (map entry_text front) ++ unread)
    (joined (map entry_text all) ++ end_line periods finished) (sym e ∙ is.is_text)) in
    (first.0, first.1.0)
