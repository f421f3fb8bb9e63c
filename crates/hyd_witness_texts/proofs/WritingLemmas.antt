-- The lines of values and of stocks, piece by piece.
use Rattle.std.proofs.Common.{◌≡◌, ℕ, ◌+◌, ◌<◌, ℤ, pos, List, [], ◌∷◌, ◌++◌, length, take, drop, get_or, refl, sym, ap}
use Rattle.std.proofs.Common.{ap₂, ◌∙◌, append_assoc, arith}
use Rattle.std.specs.Fmt.{signed_decimal}
use Rattle.std.proofs.lemmas.List.{take_more, take-append-drop, append-nil, length-take-le}
use Rattle.hyd_spec_certificates.specs.CertificateText.{line}
use Rattle.hyd_spec_witnesses.specs.WitnessText.{value_lines, stock_line, stock_lines}
use Rattle.hyd_lemmas.proofs.ListsOptionsAndResults.{join-more, joined_append}

-- ---- values

-- the line of a value
abbrev pub value_line : List ℕ → ℤ → List ℕ
value_line key value = line (key ∷ (signed_decimal value ∷ []))

pub values_append : (key : List ℕ) (vs ws : List ℤ) → value_lines key (vs ++ ws) ≡ value_lines key vs
    ++ value_lines key ws
values_append key vs ws = joined_append (value_line key) vs ws

-- one value more
pub value_more : (key : List ℕ) (i : ℕ) (vs : List ℤ) → i < length vs
    → value_lines key (take i vs) ++ value_line key (get_or vs i (pos 0)) ≡ value_lines key (take (i + 1) vs)
value_more key i vs within =
    sym (join-more (value_line key) (take i vs) (get_or vs i (pos 0)))
    ∙ ap (value_lines key) (sym (take_more vs i (pos 0) within))

-- the values up to one, and the others
pub value_split : (key : List ℕ) (i : ℕ) (vs : List ℤ) → i < length vs
    → (value_lines key (take i vs) ++ value_line key (get_or vs i (pos 0))) ++ value_lines key (drop (i + 1) vs)
    ≡ value_lines key vs
value_split key i vs within =
    ap (λ t. t ++ value_lines key (drop (i + 1) vs)) (value_more key i vs within)
    ∙ (sym (values_append key (take (i + 1) vs) (drop (i + 1) vs))
    ∙ ap (value_lines key) (take-append-drop (i + 1) vs))

-- ---- stocks

pub stocks_append : (ls vs ms ws : List ℤ) → length ls ≡ length vs
    → stock_lines (ls ++ ms) (vs ++ ws) ≡ stock_lines ls vs ++ stock_lines ms ws
stocks_append [] [] ms ws e = refl
stocks_append [] (v ∷ vs) ms ws e = absurd (omega (arith, e))
stocks_append (l ∷ ls) [] ms ws e = absurd (omega (arith, e))
stocks_append (l ∷ ls) (v ∷ vs) ms ws e =
    ap (λ t. stock_line l v ++ t) (stocks_append ls vs ms ws (omega (arith, e)))
    ∙ sym (append_assoc (stock_line l v) (stock_lines ls vs) (stock_lines ms ws))

-- one stock more at the end
pub stock_push : (ls vs : List ℤ) (l v : ℤ) → length ls ≡ length vs
    → stock_lines (ls ++ (l ∷ [])) (vs ++ (v ∷ [])) ≡ stock_lines ls vs ++ stock_line l v
stock_push ls vs l v e = stocks_append ls vs (l ∷ []) (v ∷ []) e
    ∙ ap (λ t. stock_lines ls vs ++ t) (append-nil (stock_line l v))

fronts : (i : ℕ) (ls vs : List ℤ) → length ls ≡ length vs → i < length ls → length (take i ls) ≡ length (take i vs)
fronts i ls vs e within = length-take-le i ls (omega (arith, within)) ∙ sym (length-take-le i vs (omega (
  arith,
  within,
  e,
)))

pub stock_more : (i : ℕ) (ls vs : List ℤ) → length ls ≡ length vs → i < length ls
    → stock_lines (take i ls) (take i vs) ++ stock_line (get_or ls i (pos 0)) (get_or vs i (pos 0))
    ≡ stock_lines (take (i + 1) ls) (take (i + 1) vs)
stock_more i ls vs e within =
    sym (stock_push (take i ls) (take i vs) (get_or ls i (pos 0)) (get_or vs i (pos 0)) (fronts i ls vs e within))
    ∙ ap₂ stock_lines (sym (take_more ls i (pos 0) within)) (sym (take_more vs i (pos 0) (omega (arith, within, e))))

pub stock_split : (i : ℕ) (ls vs : List ℤ) → length ls ≡ length vs → i < length ls
    → (stock_lines (take i ls) (take i vs) ++ stock_line (get_or ls i (pos 0)) (get_or vs i (pos 0)))
    ++ stock_lines (drop (i + 1) ls) (drop (i + 1) vs) ≡ stock_lines ls vs
stock_split i ls vs e within =
    let same : length (take (i + 1) ls) ≡ length (take (i + 1) vs) = length-take-le (i + 1) ls (omega (arith, within))
    ∙ sym (length-take-le (i + 1) vs (omega (arith, within, e))) in
    ap (λ t. t ++ stock_lines (drop (i + 1) ls) (drop (i + 1) vs)) (stock_more i ls vs e within)
    ∙ (sym (stocks_append (take (i + 1) ls) (take (i + 1) vs) (drop (i + 1) ls) (drop (i + 1) vs) same)
    ∙ ap₂ stock_lines (take-append-drop (i + 1) ls) (take-append-drop (i + 1) vs))
