-- How many lines records and their parts have.
use Rattle.std.proofs.Common.{◌≡◌, ◌≢◌, ℕ, ◌+◌, ◌*◌, ◌<◌, ◌^◌, suc, ℤ, Bool, true, false, List, [], ◌∷◌, ◌++◌, length}
use Rattle.std.proofs.Common.{map}
use Rattle.std.proofs.Common.{All, codes, refl, ap, ap₂, ◌∙◌, inl, inr, arith}
use Rattle.std.specs.Fmt.{decimal, signed_decimal}
use Rattle.std.proofs.lemmas.List.Elements.{All-head, All-tail}
use Rattle.hyd_spec.specs.Lists.{joined}
use Rattle.hyd_spec_certificates.specs.Certificate.{IsInBox}
use Rattle.hyd_spec_certificates.specs.RecordAndStanding.{Record, Vectors}
use Rattle.hyd_spec_certificates.specs.CertificateText.{words, head_lines, vectors_text, record_text, line_feeds}
use Rattle.hyd_spec_certificates.specs.CertificateText.{IsVector}
use Rattle.hyd_spec_certificates.specs.CertificateText.{IsRow, end_line}
use Rattle.hyd_spec_flows.specs.FlowParts.{NamedLink, FlowPart}
use Rattle.hyd_spec_flows.specs.FlowTexts.{IsNamed, IsPart, named_text, part_text}
use Rattle.hyd_line_reader.specs.TextsWithoutLine.{HasNo}
use Rattle.hyd_cert.specs.Lines.{end_word}
use Rattle.hyd_cert.specs.PlacesOfLines.{heads_in}
use Rattle.hyd_cert.specs.ReaderWithFlows.{part_behind, IsPartBehind, part_lines}
use Rattle.hyd_cert.proofs.LineLemmas.{head_free, next_is_line}
use Rattle.hyd_cert.proofs.HeadLemmas.{period_is, end_is}
use Rattle.hyd_cert.proofs.FlowLineLemmas.{flows_is_line, name_is_line}
use Rattle.hyd_cert.proofs.TextsAtFault.{no_feeds}
use Rattle.hyd_cert.proofs.WholeTextLemmas.{feeds_append}

-- a line and its line feed
pub one-feed : (line : List ℕ) → HasNo 10 line → line_feeds (line ++ (10 ∷ [])) ≡ 1
one-feed line free = no_feeds line [] free

-- a key of two letters, and a space
key-is : (a b : ℕ) → a ≢ 10 → b ≢ 10 → HasNo 10 (a ∷ (b ∷ (32 ∷ [])))
key-is a b one two = (one, (two, ((λ e. omega (arith, e)), tt)))

-- ---- heads

key-free : (key : List ℕ) (h : ℤ) → HasNo 10 (key ++ (32 ∷ [])) → IsInBox h
    → HasNo 10 (words (key ∷ (signed_decimal h ∷ [])))
key-free [] h free box = (free.0, head_free 10 h (omega arith) box)
key-free (c ∷ key) h free box = (free.0, key-free key h free.1 box)

one-more : (whole here rest count : ℕ) → whole ≡ here + rest → here ≡ 1 → rest ≡ count → whole ≡ suc count
one-more whole here rest count w h r = omega (arith, w, h, r)

heads-feeds : (key : List ℕ) (heads : List ℤ) → HasNo 10 (key ++ (32 ∷ [])) → All IsInBox heads
    → line_feeds (head_lines key heads) ≡ length heads
heads-feeds key [] free box = refl
heads-feeds key (h ∷ heads) free box =
    one-more _ _ _ (length heads) (feeds_append (words (key ∷ (signed_decimal h ∷ [])) ++ (10 ∷ []))
    (head_lines key heads))
    (one-feed (words (key ∷ (signed_decimal h ∷ []))) (key-free key h free (All-head IsInBox h heads box)))
    (heads-feeds key heads free (All-tail IsInBox h heads box))

-- ---- vectors

vectors-feeds : (upper lower : List ℕ) (n : ℕ) (vectors : Vectors) → HasNo 10 (upper ++ (32 ∷ []))
    → HasNo 10 (lower ++ (32 ∷ [])) → IsVector n vectors.upper → IsVector n vectors.lower
    → line_feeds (vectors_text upper lower vectors) ≡ n + n
vectors-feeds upper lower n vectors free other over under =
    feeds_append (head_lines upper vectors.upper) (head_lines lower vectors.lower)
    ∙ ap₂ (λ a b. a + b) (heads-feeds upper vectors.upper free over.in_box ∙ over.one_each)
    (heads-feeds lower vectors.lower other under.in_box ∙ under.one_each)

-- the texts of one tank more
tank-more : (whole here rest n k : ℕ) → whole ≡ here + rest → here ≡ n + n → rest ≡ k * (n + n)
    → whole ≡ suc k * (n + n)
tank-more whole here rest n k w h r = omega (arith, w, h, r)

pinned-feeds : (n : ℕ) (pinned : List Vectors) → All (λ vectors. IsVector n vectors.upper) pinned
    → All (λ vectors. IsVector n vectors.lower) pinned
    → line_feeds (joined (map (vectors_text (codes "PU") (codes "PL")) pinned)) ≡ length pinned * (n + n)
pinned-feeds n [] over under = omega arith
pinned-feeds n (vectors ∷ pinned) over under =
    tank-more _ _ _ n (length pinned)
    (feeds_append (vectors_text (codes "PU") (codes "PL") vectors) (joined (map (vectors_text (codes "PU") (codes "PL"))
    pinned)))
    (vectors-feeds (codes "PU") (codes "PL") n vectors (key-is 80 85 (λ e. omega (arith, e)) (λ e. omega (arith, e)))
    (key-is 80 76 (λ e. omega (arith, e)) (λ e. omega (arith, e)))
    (All-head (λ (v : Vectors). IsVector n v.upper) vectors pinned over)
    (All-head (λ (v : Vectors). IsVector n v.lower) vectors pinned under))
    (pinned-feeds n pinned (All-tail (λ (v : Vectors). IsVector n v.upper) vectors pinned over)
    (All-tail (λ (v : Vectors). IsVector n v.lower) vectors pinned under))

-- ---- records

record-sum : (whole first vectors main pinned n k m : ℕ) → whole ≡ first + vectors → first ≡ 1 → vectors ≡ main + pinned
    → main ≡ n + n → pinned ≡ m * (n + n) → m ≡ k → whole ≡ 1 + heads_in n k
record-sum whole first vectors main pinned n k m w f v a p e =
    let all : pinned ≡ k * (n + n) = p ∙ ap (λ i. i * (n + n)) e in
    let several : heads_in n k ≡ (n + n) + k * (n + n) = omega arith in
    omega (arith, w, f, v, a, all, several)

record-feeds : (n k : ℕ) (row : Record) → IsRow n k row → line_feeds (record_text row) ≡ 1 + heads_in n k
record-feeds n k row is =
    let period = words (codes "PERIOD" ∷ (decimal row.number ∷ (decimal row.time ∷ (decimal row.length ∷ [])))) in
    let main = vectors_text (codes "MU") (codes "ML") row.main in
    let pinned = joined (map (vectors_text (codes "PU") (codes "PL")) row.pinned) in
    record-sum (line_feeds (record_text row)) (line_feeds (period ++ (10 ∷ []))) (line_feeds (main ++ pinned))
    (line_feeds main) (line_feeds pinned) n k (length row.pinned)
    (feeds_append (period ++ (10 ∷ [])) (main ++ pinned))
    (one-feed period (next_is_line period (inl (period_is row.number row.time row.length is.number_fits is.time_fits
    is.length_fits))).0)
    (feeds_append main pinned)
    (vectors-feeds (codes "MU") (codes "ML") n row.main (key-is 77 85 (λ e. omega (arith, e)) (λ e. omega (arith, e)))
    (key-is 77 76 (λ e. omega (arith, e)) (λ e. omega (arith, e))) is.main_upper is.main_lower)
    (pinned-feeds n row.pinned is.pinned_upper is.pinned_lower) is.pinned_each

row-more : (whole here rest per count : ℕ) → whole ≡ here + rest → here ≡ per → rest ≡ count * per
    → whole ≡ suc count * per
row-more whole here rest per count w h r = omega (arith, w, h, r)

pub rows-feeds : (n k : ℕ) (rows : List Record) → All (IsRow n k) rows
    → line_feeds (joined (map record_text rows)) ≡ length rows * (1 + heads_in n k)
rows-feeds n k [] all = omega arith
rows-feeds n k (row ∷ rows) all =
    row-more _ _ _ (1 + heads_in n k) (length rows) (feeds_append (record_text row) (joined (map record_text rows)))
    (record-feeds n k row (All-head (IsRow n k) row rows all))
    (rows-feeds n k rows (All-tail (IsRow n k) row rows all))

-- ---- parts

link-sum : (whole name held n : ℕ) → whole ≡ name + held → name ≡ 1 → held ≡ n + n → whole ≡ 1 + 2 * n
link-sum whole name held n w a h = omega (arith, w, a, h)

link-feeds : (n : ℕ) (named : NamedLink) → IsNamed n named → line_feeds (named_text named) ≡ 1 + 2 * n
link-feeds n named is =
    let l = words (codes "LINK" ∷ (decimal named.link ∷ [])) in
    let held = vectors_text (codes "FU") (codes "FL") named.held in
    link-sum (line_feeds (named_text named)) (line_feeds (l ++ (10 ∷ []))) (line_feeds held) n
    (feeds_append (l ++ (10 ∷ [])) held)
    (one-feed l (name_is_line l (named.link, record { fits = is.link_fits; is = refl })).0)
    (vectors-feeds (codes "FU") (codes "FL") n named.held (key-is 70 85 (λ e. omega (arith, e)) (λ e. omega (arith, e)))
    (key-is 70 76 (λ e. omega (arith, e)) (λ e. omega (arith, e))) is.upper is.lower)

links-feeds : (n : ℕ) (part : FlowPart) → All (IsNamed n) part
    → line_feeds (joined (map named_text part)) ≡ length part * (1 + 2 * n)
links-feeds n [] all = omega arith
links-feeds n (named ∷ part) all =
    row-more _ _ _ (1 + 2 * n) (length part) (feeds_append (named_text named) (joined (map named_text part)))
    (link-feeds n named (All-head (IsNamed n) named part all))
    (links-feeds n part (All-tail (IsNamed n) named part all))

part-sum : (whole first links all : ℕ) → whole ≡ first + links → first ≡ 1 → links ≡ all → whole ≡ 1 + all
part-sum whole first links all w f l = omega (arith, w, f, l)

part-feeds : (n : ℕ) (part : FlowPart) → IsPart n part → line_feeds (part_text part) ≡ 1 + length part * (1 + 2 * n)
part-feeds n part is =
    let l = words (codes "FLOWS" ∷ (decimal (length part) ∷ [])) in
    let links = joined (map named_text part) in
    part-sum (line_feeds (part_text part)) (line_feeds (l ++ (10 ∷ []))) (line_feeds links)
    (length part * (1 + 2 * n))
    (feeds_append (l ++ (10 ∷ [])) links)
    (one-feed l (flows_is_line l (length part, record { some = is.some; at_most = is.at_most; is = refl })).0)
    (links-feeds n part is.each)

behind-feeds : (flows : Bool) (n : ℕ) (part : FlowPart) → IsPartBehind flows n part
    → line_feeds (part_behind flows part) ≡ part_lines flows n part
behind-feeds true n part is = part-feeds n part is
behind-feeds false n part is = refl

-- ---- entries

entry-sum : (whole row part heads lines : ℕ) → whole ≡ row + part → row ≡ 1 + heads → part ≡ lines
    → whole ≡ 1 + heads + lines
entry-sum whole row part heads lines w r p = omega (arith, w, r, p)

-- a record and the part behind it
pub entry-feeds : (flows : Bool) (n k : ℕ) (row : Record) (part : FlowPart) → IsRow n k row → IsPartBehind flows n part
    → line_feeds (record_text row ++ part_behind flows part) ≡ 1 + heads_in n k + part_lines flows n part
entry-feeds flows n k row part is behind =
    entry-sum (line_feeds (record_text row ++ part_behind flows part)) (line_feeds (record_text row))
    (line_feeds (part_behind flows part)) (heads_in n k) (part_lines flows n part)
    (feeds_append (record_text row) (part_behind flows part)) (record-feeds n k row is)
    (behind-feeds flows n part behind)

-- the END line
pub end-feeds : (periods : ℕ) (finished : Bool) → periods < 2 ^ 32 → line_feeds (end_line periods finished) ≡ 1
end-feeds periods finished fits =
    let l = words (codes "END" ∷ (decimal periods ∷ (end_word finished ∷ []))) in
    one-feed l (next_is_line l (inr (end_is periods finished fits))).0
