-- Clauses of a file without a fault: what they name has a number.
use Rattle.std.proofs.Common.{◌≡◌, ℕ, true, false, List, Option, Some, None, subst}
use Rattle.std.specs.Prelude.{◌&&◌}
use Rattle.std.proofs.lemmas.Bool.{and_parts}
use Rattle.hyd_spec_lines.specs.Lines.{Row}
use Rattle.hyd_spec_input.specs.Columns.{word}
use Rattle.hyd_spec_input.specs.Keywords.{attribute_word}
use Rattle.hyd_spec_input.specs.MeaningsAcrossRows.{node_ids, tank_ids, link_ids}
use Rattle.hyd_spec_input.specs.RuleRows.{can_have, attribute_place}
use Rattle.hyd_spec_input.specs.SectionsAndTables.{node_named, link_named, allows_node, allows_link}
use Rattle.hyd_spec_input.specs.FaultsWithOtherRows as others
use Rattle.hyd_spec_input.specs.FaultsWithOtherRows.{can_show}
use Rattle.hyd_spec_input.specs.declared.Attribute.{Attribute}
use Rattle.hyd_spec_input.specs.declared.Attribute.TheVariants.{Head, Pressure, Level, Flow, Setting, Status, Time}
use Rattle.hyd_spec_input.specs.declared.Attribute.TheVariants.{Clock}
use Rattle.hyd_spec_input.specs.declared.ObjectWord.{ObjectWord}
use Rattle.hyd_spec_input.specs.declared.ObjectWord.TheVariants.{System, Node, Link}
use Rattle.hyd_spec_input.specs.declared.NodeWord.{NodeWord}
use Rattle.hyd_spec_input.specs.declared.LinkWord.{LinkWord}
use Rattle.hyd_build_links_controls_and_rules.specs.Clauses.{HasNumber}
use Rattle.hyd_build_links_controls_and_rules.proofs.ControlLemmas.{known}
use Rattle.hyd_build_links_controls_and_rules.proofs.NumberedNameLemmas.{node_numbered, tank_numbered, link_numbered}

-- an attribute of a node
node_has : (rows : List Row) (kind : NodeWord) (words : List (List ℕ)) (a : Attribute)
    → attribute_word (word 3 words) ≡ Some a → can_have (Node kind) a ≡ true
    → others.object_known rows (Some (Node kind)) words ≡ None
    → HasNumber (node_ids rows) (tank_ids rows) (link_ids rows) a (word 2 words)
node_has rows kind words a is can none =
    let found = known (λ node. allows_node (Some kind) node && can_show (attribute_word (word 3 words)) node)
    (node_named rows (word 2 words)) none in
    let both = and_parts (allows_node (Some kind) found.row) (can_show (attribute_word (word 3 words)) found.row)
    found.passes in
    let shows : can_show (Some a) found.row ≡ true =
    subst (λ (o : Option Attribute). can_show o found.row ≡ true) is both.1 in
    by a can found.row found.is shows
  where
    by : (b : Attribute) → can_have (Node kind) b ≡ true → (row : Row) → node_named rows (word 2 words) ≡ Some row
        → can_show (Some b) row ≡ true → HasNumber (node_ids rows) (tank_ids rows) (link_ids rows) b (word 2 words)
    by Head c row at s = node_numbered rows (word 2 words) row at
    by Pressure c row at s = node_numbered rows (word 2 words) row at
    by Level c row at s = tank_numbered rows (word 2 words) row at s
    by Flow c row at s = absurd (let x : false ≡ true = c in let y : ⊥ = cc in y)
    by Setting c row at s = absurd (let x : false ≡ true = c in let y : ⊥ = cc in y)
    by Status c row at s = absurd (let x : false ≡ true = c in let y : ⊥ = cc in y)
    by Time c row at s = tt
    by Clock c row at s = tt

link_has : (rows : List Row) (kind : LinkWord) (words : List (List ℕ)) (a : Attribute) → can_have (Link kind) a ≡ true
    → others.link_by_word rows (Some kind) (word 2 words) ≡ None
    → HasNumber (node_ids rows) (tank_ids rows) (link_ids rows) a (word 2 words)
link_has rows kind words a can none =
    let found = known (allows_link (Some kind)) (link_named rows (word 2 words)) none in
    by a can found.row found.is
  where
    by : (b : Attribute) → can_have (Link kind) b ≡ true → (row : Row) → link_named rows (word 2 words) ≡ Some row
        → HasNumber (node_ids rows) (tank_ids rows) (link_ids rows) b (word 2 words)
    by Flow c row at = link_numbered rows (word 2 words) row at
    by Setting c row at = link_numbered rows (word 2 words) row at
    by Status c row at = link_numbered rows (word 2 words) row at
    by Head c row at = absurd (let x : false ≡ true = c in let y : ⊥ = cc in y)
    by Pressure c row at = absurd (let x : false ≡ true = c in let y : ⊥ = cc in y)
    by Level c row at = absurd (let x : false ≡ true = c in let y : ⊥ = cc in y)
    by Time c row at = tt
    by Clock c row at = tt

system_has : (rows : List Row) (words : List (List ℕ)) (a : Attribute) → can_have System a ≡ true
    → HasNumber (node_ids rows) (tank_ids rows) (link_ids rows) a (word 2 words)
system_has rows words Time c = tt
system_has rows words Clock c = tt
system_has rows words Head c = absurd (let x : false ≡ true = c in let y : ⊥ = cc in y)
system_has rows words Pressure c = absurd (let x : false ≡ true = c in let y : ⊥ = cc in y)
system_has rows words Level c = absurd (let x : false ≡ true = c in let y : ⊥ = cc in y)
system_has rows words Flow c = absurd (let x : false ≡ true = c in let y : ⊥ = cc in y)
system_has rows words Setting c = absurd (let x : false ≡ true = c in let y : ⊥ = cc in y)
system_has rows words Status c = absurd (let x : false ≡ true = c in let y : ⊥ = cc in y)

-- what a clause names has a number, where its object can have its attribute and is known
pub clause_numbered : (rows : List Row) (words : List (List ℕ)) (o : ObjectWord) (a : Attribute)
    → attribute_word (word (attribute_place o) words) ≡ Some a → can_have o a ≡ true
    → others.object_known rows (Some o) words ≡ None
    → HasNumber (node_ids rows) (tank_ids rows) (link_ids rows) a (word 2 words)
clause_numbered rows words System a is can none = system_has rows words a can
clause_numbered rows words (Node kind) a is can none = node_has rows kind words a is can none
clause_numbered rows words (Link kind) a is can none = link_has rows kind words a can none
