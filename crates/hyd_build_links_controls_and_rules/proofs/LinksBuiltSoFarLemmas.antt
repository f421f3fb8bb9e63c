-- Links, one row further.
use Rattle.std.proofs.Common.{◌≡◌, ◌+◌, ◌≤◌, ◌++◌, ℕ, true, true≢false, false, List, [], ◌∷◌, take, length, slice_get}
use Rattle.std.proofs.Common.{Some, refl, sym, ap, ◌∙◌, subst, append_assoc, append-nil, ◌==◌}
use Rattle.std.proofs.lemmas.Bool.{eqb-true, false_from_ne_true, or_left, or_right}
use Rattle.hyd_spec_lines.specs.Lines.{Row}
use Rattle.hyd_spec_lines.specs.declared.line.Line.{Line}
use Rattle.hyd_spec_lines.specs.declared.section.Section.{Section}
use Rattle.hyd_spec_lines.specs.declared.section.Section.TheVariants.{Pipes, Pumps, Valves}
use Rattle.hyd_net.specs.declared.links.Link.{Link}
use Rattle.hyd_spec_input.specs.Project.{IsLink, Match}
use Rattle.hyd_spec_input.specs.SectionsAndTables.{place, is_of, is_link, rows_of}
use Rattle.hyd_rows_and_tables.specs.RowsOfLines.{rows_at}
use Rattle.hyd_rows_and_tables.proofs.FirstWrongRowLemmas.{filter_more, filter_same}
use Rattle.hyd_rows_and_tables.proofs.WrongInSectionLemmas.{all_rows}
use Rattle.hyd_build_links_controls_and_rules.specs.LinksBuiltSoFar.{AreBuilt}
use Rattle.hyd_theorems_on_input.proofs.MatchedLists.{match_push}
use Rattle.hyd_judge_links_controls_and_rules.specs.AskedStatesOfLinks.{is_link_section}

-- ---- sections

pub other_section : (section : Section) (row : Row) → (place row.section ≡ place section → ⊥)
    → is_of section row ≡ false
other_section section row apart = false_from_ne_true (is_of section row) (λ e. apart (eqb-true _ _ e))

pub same_section : (section : Section) (row : Row) → place row.section ≡ place section → is_of section row ≡ true
same_section section row e = rw e (itself section)
  where
    itself : (s : Section) → (place s == place s) ≡ true
    itself Pipes = refl
    itself _ = refl

pub link_section : (section : Section) (row : Row) → is_link_section section ≡ true → is_of section row ≡ true
    → is_link row ≡ true
link_section Pipes row h of = rw of refl
link_section Pumps row h of = or_right (is_of Pipes row) _ (or_left (is_of Pumps row) _ of)
link_section Valves row h of = or_right (is_of Pipes row) _ (or_right (is_of Pumps row) _ of)
link_section _ row h of = absurd (true≢false (sym h))

-- ---- rows

pub built_same : (rows before : List Row) (section : Section) (k : ℕ) (row : Row) (links : List Link)
    → slice_get rows k ≡ Some row → is_of section row ≡ false → AreBuilt rows before section k links
    → AreBuilt rows before section (k + 1) links
built_same rows before section k row links is other built =
    let P : List Row → Type 0 = λ rs. Match (IsLink rows) (before ++ rs) links in
    subst P (sym (filter_same (is_of section) rows k row is other)) built

pub built_more : (rows before : List Row) (section : Section) (k : ℕ) (row : Row) (links after : List Link)
    (link : Link)
    → slice_get rows k ≡ Some row → is_of section row ≡ true → IsLink rows row link → after ≡ links ++ link ∷ []
    → AreBuilt rows before section k links → AreBuilt rows before section (k + 1) after
built_more rows before section k row links after link is of made e built =
    let P : List Row → Type 0 = λ rs. Match (IsLink rows) rs after in
    let more : before ++ rows_of section (take (k + 1) rows) ≡ (before ++ rows_of section (take k rows)) ++ row ∷ [] =
    ap (λ (rs : List Row). before ++ rs) (filter_more (is_of section) rows k row is of) ∙ simp append_assoc in
    subst P (sym more) (rw e (match_push (IsLink rows) (before ++ rows_of section (take k rows)) links row link built
    made))

pub built_none : (rows before : List Row) (section : Section) (links : List Link) → Match (IsLink rows) before links
    → AreBuilt rows before section 0 links
built_none rows before section links m =
    let P : List Row → Type 0 = λ rs. Match (IsLink rows) rs links in
    subst P (sym (append-nil before)) m

pub built_all : (text : List ℕ) (lines : List Line) (before : List Row) (section : Section) (k : ℕ) (links : List Link)
    → AreBuilt (rows_at text lines) before section k links → length lines ≤ k
    → Match (IsLink (rows_at text lines)) (before ++ rows_of section (rows_at text lines)) links
built_all text lines before section k links built l =
    let P : List Row → Type 0 = λ rs. Match (IsLink (rows_at text lines)) (before ++ rows_of section rs) links in
    subst P (all_rows text lines k l) built
