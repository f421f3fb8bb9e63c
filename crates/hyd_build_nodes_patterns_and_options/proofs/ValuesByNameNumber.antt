-- Values by the numbers of names, one of them set.
use Rattle.std.proofs.Common.{◌≡◌, ℕ, true, false, List, length, position, Option, Some, None, slice_get, refl, sym, ap}
use Rattle.std.proofs.Common.{◌∙◌, subst, true≢false, inl, inr, nat_lt, ltb-true, ltb-false}
use Rattle.std.specs.Prelude.{slice_index_or}
use Rattle.std.specs.List.{All}
use Rattle.std.specs.Str.{bytes_eq}
use Rattle.std.specs.Cmp.Lexicographic.{bytes_decides}
use Rattle.std.proofs.lemmas.Bool.{cases_Bool}
use Rattle.std.proofs.Math.ListN.{get_or-eq_default}
use Rattle.hyd_spec_lines.specs.Lines.{Row}
use Rattle.hyd_spec_lines.specs.declared.line.Line.{Line}
use Rattle.hyd_spec_lines.specs.declared.section.Section.TheVariants.{Junctions}
use Rattle.hyd_spec_input.specs.MeaningsAcrossRows.{number_in}
use Rattle.hyd_spec_input.specs.SectionsAndTables.{is_of, is_node, node_rows, own_id, row_with, has_id}
use Rattle.hyd_spec_input.specs.FaultsWithOtherRows.{known_as, known_junction}
use Rattle.hyd_rows_and_tables.specs.IdTables.{AreFirsts}
use Rattle.hyd_rows_and_tables.proofs.FirstWrongRowLemmas.{one_name, has_more}
use Rattle.hyd_rows_and_tables.proofs.TableLemmas.{not_found, has_id-is}
use Rattle.hyd_build_nodes_patterns_and_options.specs.DemandsAndEmitters.{IsSetAt, value_of}

-- ---- names

-- a junction that is known has a number
pub known_there : (text : List ℕ) (rows : List Row) (names : List (List ℕ)) (firsts : List Line) (name : List ℕ)
    → AreFirsts text (node_rows rows) names firsts → known_junction rows name ≡ None
    → position (bytes_eq name) names ≡ None → ⊥
known_there text rows names firsts name table known none =
    let no : row_with name (node_rows rows) ≡ None = not_found text (node_rows rows) names firsts name table none in
    let wrong : known_as (is_of Junctions) None ≡ None = subst (λ (o : Option Row). known_as
    (is_of Junctions) o ≡ None) no known in
    let x : ⊥ = cc in x

-- a node's own ID has a number
pub own_there : (text : List ℕ) (rows : List Row) (k : ℕ) (row : Row) (names : List (List ℕ)) (firsts : List Line)
    → AreFirsts text (node_rows rows) names firsts → slice_get rows k ≡ Some row → is_node row ≡ true
    → position (bytes_eq (own_id row)) names ≡ None → ⊥
own_there text rows k row names firsts table is member none =
    let no : row_with (own_id row) (node_rows rows) ≡ None = not_found text (node_rows rows) names firsts
    (own_id row) table none in
    let there : has_id (own_id row) (node_rows rows) ≡ true = has_more is_node rows k row is member in
    let gone : has_id (own_id row) (node_rows rows) ≡ false = has_id-is (own_id row) (node_rows rows) ∙ rw no refl in
    true≢false (sym there ∙ gone)

-- ---- one value set

-- what is so of each name's value is so after that of one name is set
pub set_named : {A : Type 0} (default : A) (Before After : List ℕ → A → Type 0) (names : List (List ℕ))
    (before after : List A) (number : ℕ) (id : List ℕ) (value : A) → position (bytes_eq id) names ≡ Some number
    → IsSetAt default before after number value
    → ((name : List ℕ) → Before name (value_of default before (number_in names name)))
    → After id value → ((name : List ℕ) (v : A) → bytes_eq name id ≡ false → Before name v → After name v)
    → (name : List ℕ) → After name (value_of default after (number_in names name))
set_named default Before After names before after number id value there set was here others name =
    by (number_in names name) refl (was name)
  where
    by : (found : Option ℕ) → found ≡ number_in names name → Before name (value_of default before found)
        → After name (value_of default after found)
    by None f w = elim (cases_Bool (bytes_eq name id)) [
      | inl t ↦ (let e : name ≡ id = (bytes_decides name id).0 t in
          let g : None ≡ Some number = f ∙ rw e there in
          absurd (let x : ⊥ = cc in x))
      | inr o ↦ others name default o w
    ]
    by (Some found) f w = elim (cases_Bool (bytes_eq name id)) [
      | inl t ↦ (let e : name ≡ id = (bytes_decides name id).0 t in
          let g : Some found ≡ Some number = f ∙ rw e there in
          let n : found ≡ number = cc in
          let v : slice_index_or after found default ≡ value = rw n set.here in
          subst (After name) (sym v) (subst (λ (m : List ℕ). After m value) (sym e) here))
      | inr o ↦ (let v : slice_index_or after found default ≡ slice_index_or before found default =
          set.others found (λ n.
          let e : name ≡ id = one_name names name id found (sym f) (there ∙ ap Some (sym n)) in
          true≢false (sym ((bytes_decides name id).1 e) ∙ o)) in
          subst (After name) (sym v) (others name (slice_index_or before found default) o w))
    ]

-- all values are the default
pub default_at : {A : Type 0} (default : A) (values : List A) → All (λ v. v ≡ default) values → (found : Option ℕ)
    → value_of default values found ≡ default
default_at default values all None = refl
default_at default values all (Some k) = elim (cases_Bool (nat_lt k (length values))) [
  | inl t ↦ all k default (ltb-true k (length values) t)
  | inr f ↦ get_or-eq_default values default (ltb-false k (length values) f)
]
