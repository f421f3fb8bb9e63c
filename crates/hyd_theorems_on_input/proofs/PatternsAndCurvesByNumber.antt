-- What the number of a name numbers: patterns and curves.
use Rattle.std.proofs.Common.{◌≡◌, ℕ, ◌<◌, List, length, Option, Some, None, sym, ◌∙◌, subst, arith}
use Rattle.std.specs.Prelude.{slice_get, All, ℤ}
use Rattle.std.proofs.lemmas.Option.{slice_get_within, get_or_from_slice_get}
use Rattle.hyd_spec_lines.specs.Lines.{Row}
use Rattle.hyd_net.specs.NumberRanges.{Numbers}
use Rattle.hyd_net.specs.NetworkRanges.{HasPattern, HasBend}
use Rattle.hyd_net.specs.ListView.{ListView}
use Rattle.hyd_net.specs.declared.curves.HeadPoint.{HeadPoint}
use Rattle.hyd_net.specs.declared.patterns.Pattern.{Pattern}
use Rattle.hyd_net.specs.declared.project.Project.{Project}
use Rattle.hyd_spec_input.specs.SectionsAndTables.{pattern_named}
use Rattle.hyd_spec_input.specs.MeaningsAcrossRows.{number_in, pattern_ids, pattern_number, bend_names}
use Rattle.hyd_spec_input.specs.FaultsWithOtherRows.{multipliers_of}
use Rattle.hyd_spec_input.specs.Project.{Match, IsPattern, IsProject, bend_points}
use Rattle.hyd_theorems_on_input.proofs.ListsByPlace.{partner, match_length, item_at}
use Rattle.hyd_theorems_on_input.proofs.OccurrencesOfNames.{number_inside, number_names}

-- the item at a place of a table
pub numbers_from : {X : Type 0} (P : X → Type 0) (table : List X) (n : ℕ) (x : X) → slice_get table n ≡ Some x → P x
    → Numbers P table n
numbers_from P table n x is holds = record {
  in_range = slice_get_within table n x is;
  holds = λ d. subst P (sym (get_or_from_slice_get table n x d is)) holds;
}

-- the item of a name's number is the name's
pub record Found {B : Type 0} (R : List ℕ → B → Type 0) (table : List B) (name : List ℕ) (n : ℕ) : Type 0 where
  pub item : B
  pub is : slice_get table n ≡ Some item
  pub holds : R name item

pub found_by : {B : Type 0} (R : List ℕ → B → Type 0) (ids : List (List ℕ)) (table : List B) (name : List ℕ) (n : ℕ)
    → Match R ids table → number_in ids name ≡ Some n → Found R table name n
found_by R ids table name n match e =
    let inside : n < length table = omega (arith, number_inside ids name n e, match_length R ids table match) in
    let at = item_at table n inside in
    let pair = partner R ids table n at.item match at.is in
    let there : Some pair.item ≡ Some name = sym pair.is ∙ number_names ids name n e in
    let same : pair.item ≡ name = cc in
    record { item = at.item; is = at.is; holds = subst (λ id. R id at.item) same pair.holds }

-- ---- patterns

pub has_pattern : (rows : List Row) (p : Project) (P : ℤ → Type 0) (name : List ℕ) (named : Option ℕ)
    → IsProject rows p → named ≡ number_in (pattern_ids rows) name
    → All P (pattern_named rows name) → HasPattern P p.patterns.list named
has_pattern rows p P name None of is all = tt
has_pattern rows p P name (Some n) of is all =
    let found = found_by (IsPattern rows) (pattern_ids rows) p.patterns.list name n of.patterns (sym is) in
    numbers_from (λ (q : Pattern). All P q.multipliers.list) p.patterns.list n found.item found.is
    (subst (λ list. All P list) (sym found.holds) all)

-- where a pattern may be named
pub may_have_pattern : (rows : List Row) (p : Project) (P : ℤ → Type 0) (name : Option (List ℕ)) (named : Option ℕ)
    → IsProject rows p → named ≡ pattern_number rows name
    → All P (multipliers_of rows name) → HasPattern P p.patterns.list named
may_have_pattern rows p P None named of is all = subst (λ o. HasPattern P p.patterns.list o) (sym is) tt
may_have_pattern rows p P (Some name) named of is all = has_pattern rows p P name named of is all

-- ---- curves by straight lines

pub has_bend : (rows : List Row) (p : Project) (P : List HeadPoint → Type 0) (name : List ℕ) (bend : ℕ)
    → IsProject rows p → number_in (bend_names rows) name ≡ Some bend
    → P (bend_points rows name) → HasBend P p.bends.list bend
has_bend rows p P name bend of is holds =
    let R : List ℕ → ListView HeadPoint → Type 0 = λ id list. list.list ≡ bend_points rows id in
    let found = found_by R (bend_names rows) p.bends.list name bend of.bends is in
    numbers_from (λ (b : ListView HeadPoint). P b.list) p.bends.list bend found.item found.is
    (subst P (sym found.holds) holds)
