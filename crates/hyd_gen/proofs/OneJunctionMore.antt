-- The lines of one junction more, and the text of the parts.
use Rattle.std.proofs.Common.{◌≡◌, ℕ, zero, suc, ◌+◌, List, [], ◌∷◌, ◌++◌, map, ap, sym, ◌∙◌, arith, refl, append-nil}
use Rattle.std.proofs.Common.{append_assoc}
use Rattle.std.specs.List.{range_with_len, flat_map}
use Rattle.std.proofs.lemmas.List.{map_push}
use Rattle.std.proofs.lemmas.List.Concat.{flat_map-append}
use Rattle.hyd_spec_certificates.specs.CertificateText.{line}
use Rattle.hyd_spec_generated.specs.Sequence.{following, drawn}
use Rattle.hyd_spec_generated.specs.GeneratedText.{Line, numbers, junction_line, next_pipe, under_pipe, pipes_from}

-- ---- one junction more

-- the last number
last : (a n i : ℕ) → a + n ≡ i → range_with_len a (suc n) ≡ range_with_len a n ++ i ∷ []
last a zero i e = let same : a ≡ i = omega arith in ap (λ k. k ∷ []) same
last a (suc n) i e = ap (λ l. a ∷ l) (last (a + 1) n i (omega arith))

numbers_more : (n i : ℕ) → n + 1 ≡ i → numbers i ≡ numbers n ++ i ∷ []
numbers_more n i e = let next : i ≡ suc n = omega arith in ap numbers next ∙ last 1 n i (omega arith)

-- the sequence goes on
pub drawn_more : (seed n i : ℕ) → n + 1 ≡ i → drawn seed i ≡ following (drawn seed n)
drawn_more seed n i e = let next : i ≡ suc n = omega arith in ap (drawn seed) next

-- the line of one junction more
pub junctions_more : (seed n i : ℕ) → n + 1 ≡ i
    → flat_map line (map (junction_line seed) (numbers i))
    ≡ flat_map line (map (junction_line seed) (numbers n)) ++ line (junction_line seed i)
junctions_more seed n i e =
    let before = map (junction_line seed) (numbers n) in
    ap (λ ns. flat_map line (map (junction_line seed) ns)) (numbers_more n i e)
    ∙ (ap (flat_map line) (map_push (junction_line seed) (numbers n) i)
    ∙ (flat_map-append line before (junction_line seed i ∷ [])
    ∙ ap (λ t. flat_map line before ++ t) (append-nil (line (junction_line seed i)))))

-- the pipes that begin at one junction more
pub pipes_more : (junctions n i : ℕ) → n + 1 ≡ i
    → flat_map line (flat_map (pipes_from junctions) (numbers i))
    ≡ flat_map line (flat_map (pipes_from junctions) (numbers n))
    ++ (flat_map line (next_pipe junctions i) ++ flat_map line (under_pipe junctions i))
pipes_more junctions n i e =
    let before = flat_map (pipes_from junctions) (numbers n) in
    ap (λ ns. flat_map line (flat_map (pipes_from junctions) ns)) (numbers_more n i e)
    ∙ (ap (flat_map line) (flat_map-append (pipes_from junctions) (numbers n) (i ∷ []))
    ∙ (flat_map-append line before (pipes_from junctions i ++ [])
    ∙ ap (λ t. flat_map line before ++ t)
    (ap (flat_map line) (append-nil (pipes_from junctions i))
    ∙ flat_map-append line (next_pipe junctions i) (under_pipe junctions i))))

-- ---- texts

-- one piece behind a text
pub one_more : (start before piece after old new : List ℕ) → old ≡ start ++ before → new ≡ old ++ piece
    → after ≡ before ++ piece → new ≡ start ++ after
one_more start before piece after old new was is more =
    is ∙ (ap (λ t. t ++ piece) was ∙ (append_assoc start before piece ∙ ap (λ t. start ++ t) (sym more)))

-- two pieces behind it
pub two_more : (start before first second after old middle new : List ℕ) → old ≡ start ++ before
    → middle ≡ old ++ first → new ≡ middle ++ second → after ≡ before ++ (first ++ second) → new ≡ start ++ after
two_more start before first second after old middle new was halfway is more =
    one_more start before (first ++ second) after old new was
    (is ∙ (ap (λ t. t ++ second) halfway ∙ append_assoc old first second)) more

-- five pieces, from an empty text
pub five : (a b c d e t0 t1 t2 t3 t4 t5 : List ℕ) → t0 ≡ [] → t1 ≡ t0 ++ a → t2 ≡ t1 ++ b → t3 ≡ t2 ++ c → t4 ≡ t3 ++ d
    → t5 ≡ t4 ++ e → t5 ≡ (((a ++ b) ++ c) ++ d) ++ e
five a b c d e t0 t1 t2 t3 t4 t5 e0 e1 e2 e3 e4 e5 =
    e5 ∙ ap (λ t. t ++ e) (e4 ∙ ap (λ t. t ++ d) (e3 ∙ ap (λ t. t ++ c) (e2 ∙ ap (λ t. t ++ b)
    (e1 ∙ ap (λ t. t ++ a) e0))))

joining : (a b c d e : List ℕ) → (a ++ b) ++ (c ++ (d ++ e)) ≡ ((a ++ (b ++ c)) ++ d) ++ e
joining a b c d e = simp append_assoc refl

-- the text of the parts, one behind the other
pub parts : (first junctions sources pipes last : List Line) (heading : Line)
    → flat_map line (first ++ junctions ++ sources ++ ((heading ∷ pipes) ++ last))
    ≡ (((flat_map line first ++ flat_map line junctions) ++ (flat_map line sources ++ line heading))
    ++ flat_map line pipes) ++ flat_map line last
parts first junctions sources pipes last heading =
    flat_map-append line (first ++ junctions ++ sources) (heading ∷ (pipes ++ last))
    ∙ (ap (λ t. t ++ (line heading ++ flat_map line (pipes ++ last))) (flat_map-append line (first ++ junctions) sources
    ∙ ap (λ t. t ++ flat_map line sources) (flat_map-append line first junctions))
    ∙ (ap (λ t. ((flat_map line first ++ flat_map line junctions) ++ flat_map line sources) ++ (line heading ++ t))
    (flat_map-append line pipes last)
    ∙ joining (flat_map line first ++ flat_map line junctions) (flat_map line sources) (line heading)
    (flat_map line pipes) (flat_map line last)))
