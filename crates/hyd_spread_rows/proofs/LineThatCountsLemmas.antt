-- The last rows about a subject of the lines that were read.
use Rattle.std.proofs.Common.{◌≡◌, ℕ, zero, suc, ◌+◌, ◌<◌, ◌≤◌, refl, sym, ap, subst, ◌∙◌, arith, Bool, true, false}
use Rattle.std.proofs.Common.{List, [], ◌∷◌, ◌++◌, length, drop, append_assoc, append-nil, length-append, length-drop}
use Rattle.std.proofs.lemmas.List.{drop-drop}
use Rattle.std.specs.Prelude.{Option, Some, None, slice_index_or, if◌then◌else◌}
use Rattle.std.specs.Option.{option_map}
use Rattle.hyd_spec.specs.ProgramTypes.{Project}
use Rattle.hyd_spec_lines.specs.WordsOfLines.{text_lines, body, words_in}
use Rattle.hyd_spec_lines.specs.Headings.{either}
use Rattle.hyd_spec_spread_rows.specs.declared.Subject.{Subject}
use Rattle.hyd_spec_spread_rows.specs.TextsOfSpreads.{rows_of, names, names_all}
use Rattle.hyd_spec_spread_starts.specs.StartsOfSpreads.{last_place, place_for}
use Rattle.hyd_theorems_on_spread_starts.proofs.LastRows.{place-more}
use Rattle.hyd_spread_rows.specs.LinesThatCount.{AreLast, HasHeard}
use Rattle.hyd_spread_rows.specs.declared.lines_that_count.LastLines.{LastLines}
use Rattle.hyd_spread_rows.proofs.ReadLemmas.{rows-more}

-- the line of a place
abbrev pub line_at : Option ℕ → Option ℕ
line_at o = option_map (λ (place : ℕ). suc place) o

mapped-if : (b : Bool) (n : ℕ) (o : Option ℕ) → line_at (if b then Some n else o)
    ≡ (if b then Some (suc n) else line_at o)
mapped-if true n o = refl
mapped-if false n o = refl

-- one row more
line-more : (test : List (List ℕ) → Bool) (rows : List (List (List ℕ))) (words : List (List ℕ)) (number : ℕ)
    (old new : Option ℕ) → length rows ≡ number → old ≡ line_at (last_place test rows)
    → new ≡ (if test words then Some (number + 1) else old) → new ≡ line_at (last_place test (rows ++ words ∷ []))
line-more test rows words number old new long before is =
    let n : number + 1 ≡ suc (length rows) = omega (arith, long) in
    is ∙ ap (λ (o : Option ℕ). if test words then Some (number + 1) else o) before
    ∙ ap (λ (m : ℕ). if test words then Some m else line_at (last_place test rows)) n
    ∙ sym (mapped-if (test words) (length rows) (last_place test rows))
    ∙ sym (ap line_at (place-more test rows words))

rows-long : (lines : List (List ℕ)) → length (rows_of lines) ≡ length lines
rows-long [] = refl
rows-long (line ∷ lines) = ap suc (rows-long lines)

-- one line more
pub hear-next : (subject : Subject) (id text : List ℕ) (at number used : ℕ) (line : List ℕ) (old new : LastLines)
    → HasHeard subject id text at number old
    → text_lines (drop at text) ≡ line ∷ text_lines (drop used (drop at text)) → 0 < used
    → used ≤ length (drop at text)
    → new.named ≡ (if names subject id (words_in (body line)) then Some (number + 1) else old.named)
    → new.all ≡ (if names_all subject (words_in (body line)) then Some (number + 1) else old.all)
    → HasHeard subject id text (at + used) (number + 1) new
hear-next subject id text at number used line old new is lines some within named all =
    let a = is.within in
    let b = is.few in
    let c = is.count in
    let words = words_in (body line) in
    let long : length (rows_of is.before) ≡ number = rows-long is.before ∙ is.count in
    let more = sym (rows-more is.before line) in
    record {
      within = omega (arith, a, within, length-drop at text);
      few = omega (arith, b, some);
      before = is.before ++ line ∷ [];
      count = omega (arith, c, length-append is.before (line ∷ []));
      lines = is.lines ∙ ap (λ ls. is.before ++ ls) lines
          ∙ sym (append_assoc is.before (line ∷ []) (text_lines (drop used (drop at text))))
          ∙ ap (λ xs. (is.before ++ line ∷ []) ++ text_lines xs) (drop-drop used at text);
      are_last = subst (λ (rows : List (List (List ℕ))). AreLast subject id rows new) more (record {
        named = line-more (names subject id) (rows_of is.before) words number old.named new.named long is.are_last.named
            named;
        all = line-more (names_all subject) (rows_of is.before) words number old.all new.all long is.are_last.all all;
      });
    }

-- all lines
pub heard-all : (subject : Subject) (id text : List ℕ) (at number : ℕ) (last : LastLines)
    → HasHeard subject id text at number last → length text ≤ at → AreLast subject id (rows_of (text_lines text)) last
heard-all subject id text at number last is over =
    let none : drop at text ≡ [] = drop-all at text over in
    let whole : text_lines text ≡ is.before =
    is.lines ∙ ap (λ (xs : List ℕ). is.before ++ text_lines xs) none ∙ append-nil is.before in
    subst (λ (lines : List (List ℕ)). AreLast subject id (rows_of lines) last) (sym whole) is.are_last
  where
    drop-all : (n : ℕ) (xs : List ℕ) → length xs ≤ n → drop n xs ≡ []
    drop-all n [] le = drop-none n
      where
        drop-none : (m : ℕ) → drop m (let none : List ℕ = [] in none) ≡ []
        drop-none zero = refl
        drop-none (suc m) = refl
    drop-all zero (x ∷ xs) le = absurd (omega (arith, le))
    drop-all (suc n) (x ∷ xs) le = drop-all n xs (omega (arith, le))

-- the line that counts for a node
either-mapped : (o p : Option ℕ) → either (line_at o) (line_at p) ≡ line_at (either o p)
either-mapped (Some n) p = refl
either-mapped None p = refl

pub line-for : (project : Project) (subject : Subject) (rows : List (List (List ℕ))) (node : ℕ) (id : List ℕ)
    (last : LastLines) → slice_index_or project.node_ids node [] ≡ id → AreLast subject id rows last
    → either last.named last.all ≡ line_at (place_for project subject rows node)
line-for project subject rows node id last own are =
    ap (λ (o : Option ℕ). either o last.all) are.named
    ∙ ap (either (line_at (last_place (names subject id) rows))) are.all
    ∙ either-mapped (last_place (names subject id) rows) (last_place (names_all subject) rows)
    ∙ ap (λ (name : List ℕ). line_at (either (last_place (names subject name) rows)
    (last_place (names_all subject) rows))) (sym own)
