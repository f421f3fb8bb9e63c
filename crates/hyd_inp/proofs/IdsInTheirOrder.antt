-- IDs of a table that are those of sections, one after another.
use Rattle.std.proofs.Common.{◌≡◌, ◌+◌, ◌≤◌, ℕ, true, false, List, [], ◌∷◌, ◌++◌, map}
use Rattle.std.proofs.Common.{take, length, slice_get, Option, Some, None, IfSome, IfNone, sym, ap, ◌∙◌}
use Rattle.std.proofs.Common.{append_assoc}
use Rattle.std.proofs.lemmas.List.{take_more, map-append, take_all}
use Rattle.std.proofs.lemmas.Option.{slice_get_within, get_or_from_slice_get}
use Rattle.hyd_spec_lines.specs.Lines.{Row}
use Rattle.hyd_spec_lines.specs.declared.line.Line.{Line}
use Rattle.hyd_spec_lines.specs.declared.section.Section.{Section}
use Rattle.hyd_spec_lines.specs.declared.section.Section.TheVariants.{Junctions, Reservoirs, Tanks}
use Rattle.hyd_spec_lines.specs.declared.section.Section.TheVariants.{Pipes, Pumps, Valves}
use Rattle.hyd_spec_input.specs.MeaningsAcrossRows.{node_ids, link_ids}
use Rattle.hyd_spec_input.specs.SectionsAndTables.{is_of, rows_of, own_id}
use Rattle.hyd_rows_and_tables.specs.RowsOfLines.{rows_at}
use Rattle.hyd_rows_and_tables.proofs.FirstWrongRowLemmas.{filter_more, filter_same}
use Rattle.hyd_rows_and_tables.proofs.WrongInSectionLemmas.{all_rows}
use Rattle.hyd_theorems_on_input.proofs.Names.{own_ids, node_ids_are, link_ids_are}

next_id : (ids : List (List ℕ)) (k : ℕ) (id : List ℕ) → slice_get ids k ≡ Some id
    → take (k + 1) ids ≡ take k ids ++ id ∷ []
next_id ids k id is = take_more ids k id (slice_get_within ids k id is)
    ∙ ap (λ (i : List ℕ). take k ids ++ i ∷ []) (get_or_from_slice_get ids k id id is)

-- ---- the rows of a section, one row further

pub next_row : (section : Section) (rows : List Row) (k : ℕ) (row : Row) (ids front : List (List ℕ)) (to : ℕ)
    → slice_get rows k ≡ Some row → is_of section row ≡ true → slice_get ids to ≡ Some (own_id row)
    → take to ids ≡ front ++ map own_id (rows_of section (take k rows))
    → take (to + 1) ids ≡ front ++ map own_id (rows_of section (take (k + 1) rows))
next_row section rows k row ids front to is member at before =
    next_id ids to (own_id row) at ∙ ap (λ l. l ++ own_id row ∷ []) before
    ∙ append_assoc front (map own_id (rows_of section (take k rows))) (own_id row ∷ [])
    ∙ ap (λ l. front ++ l) (sym (ap (map own_id) (filter_more (is_of section) rows k row is member)
    ∙ map-append own_id (rows_of section (take k rows)) (row ∷ [])))

pub other_row : (section : Section) (rows : List Row) (k : ℕ) (row : Row) (ids front : List (List ℕ)) (to : ℕ)
    → slice_get rows k ≡ Some row → is_of section row ≡ false
    → take to ids ≡ front ++ map own_id (rows_of section (take k rows))
    → take to ids ≡ front ++ map own_id (rows_of section (take (k + 1) rows))
other_row section rows k row ids front to is other before =
    before ∙ ap (λ rs. front ++ map own_id rs) (sym (filter_same (is_of section) rows k row is other))

pub last_row : (section : Section) (text : List ℕ) (lines : List Line) (k : ℕ) (ids front : List (List ℕ))
    (to : ℕ) → length lines ≤ k
    → take to ids ≡ front ++ map own_id (rows_of section (take k (rows_at text lines)))
    → take to ids ≡ front ++ map own_id (rows_of section (rows_at text lines))
last_row section text lines k ids front to l before =
    before ∙ ap (λ rs. front ++ map own_id (rows_of section rs)) (all_rows text lines k l)

-- ---- three sections

pub in_turn : (ids xs ys zs : List (List ℕ)) (a b c : ℕ) → take a ids ≡ take 0 ids ++ xs
    → take b ids ≡ take a ids ++ ys → take c ids ≡ take b ids ++ zs → length ids ≤ c
    → ids ≡ xs ++ ys ++ zs
in_turn ids xs ys zs a b c first second third l =
    sym (take_all c ids l) ∙ third ∙ ap (λ l. l ++ zs) (second ∙ ap (λ l. l ++ ys) first)

ids_parted : (xs ys zs : List Row) → own_ids (xs ++ ys ++ zs) ≡ own_ids xs ++ own_ids ys ++ own_ids zs
ids_parted xs ys zs = map-append own_id (xs ++ ys) zs ∙ ap (λ l. l ++ own_ids zs) (map-append own_id xs ys)

pub are_node_ids : (rows : List Row) (ids : List (List ℕ)) → ids ≡ own_ids (rows_of Junctions rows)
    ++ own_ids (rows_of Reservoirs rows) ++ own_ids (rows_of Tanks rows) → ids ≡ node_ids rows
are_node_ids rows ids e = e ∙ sym (node_ids_are rows
    ∙ ids_parted (rows_of Junctions rows) (rows_of Reservoirs rows) (rows_of Tanks rows))

pub are_link_ids : (rows : List Row) (ids : List (List ℕ)) → ids ≡ own_ids (rows_of Pipes rows)
    ++ own_ids (rows_of Pumps rows) ++ own_ids (rows_of Valves rows) → ids ≡ link_ids rows
are_link_ids rows ids e = e ∙ sym (link_ids_are rows
    ∙ ids_parted (rows_of Pipes rows) (rows_of Pumps rows) (rows_of Valves rows))

-- ---- IDs that are numbered apart, or those of a table

pub apart_or_of_table : (apart : Option (List (List ℕ))) (table ids result : List (List ℕ))
    → IfSome apart (λ a. result ≡ a) → IfNone apart (result ≡ table) → IfSome apart (λ a. a ≡ ids)
    → IfNone apart (table ≡ ids) → result ≡ ids
apart_or_of_table (Some apart) table ids result some none is is_table = some ∙ is
apart_or_of_table None table ids result some none is is_table = none ∙ is_table
