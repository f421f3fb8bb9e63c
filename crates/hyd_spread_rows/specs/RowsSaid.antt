-- What the rows that were read say of each subject.
use Rattle.std.specs.Prelude.{◌≡◌, ℕ, ◌<◌, List, [], length, Option, Some, None, slice_index_or, slice_set, vec_len}
use Rattle.std.specs.Option.{option_map}
use Rattle.hyd_spec.specs.ProgramTypes.{Project}
use Rattle.hyd_spec_lines.specs.Headings.{either}
use Rattle.hyd_spec_spread_rows.specs.declared.Subject.{Subject}
use Rattle.hyd_spec_spread_rows.specs.declared.Subject.TheVariants.{Demand, Emitter, Head, Level}
use Rattle.hyd_spec_spread_rows.specs.declared.Ends.{Ends}
use Rattle.hyd_spec_spread_rows.specs.RowsOfSpreads.{ends_of}
use Rattle.hyd_spec_spread_rows.specs.TextsOfSpreads.{last_of, names, names_all, ends_or}
use Rattle.hyd_spread_rows.specs.declared.said.Said.{Said}
use Rattle.hyd_spread_rows.specs.declared.said.Tables.{Tables}

-- the ends for all, and those for each node alone, of the last rows that give some
pub record IsSaid (project : Project) (subject : Subject) (rows : List (List (List ℕ))) (said : Said) : Type 0 where
  pub all : said.all ≡ option_map (ends_of project subject) (last_of (names_all subject) rows)
  pub named : (node : ℕ) → node < length project.node_ids → slice_index_or said.named.items node None
      ≡ option_map (ends_of project subject) (last_of (names subject (slice_index_or project.node_ids node [])) rows)

pub record AreSaid (project : Project) (rows : List (List (List ℕ))) (tables : Tables) : Type 0 where
  pub demands : IsSaid project Demand rows tables.demands
  pub emitters : IsSaid project Emitter rows tables.emitters
  pub heads : IsSaid project Head rows tables.heads
  pub levels : IsSaid project Level rows tables.levels

-- a place for each node
pub record HasPlaces (project : Project) (tables : Tables) : Type 0 where
  pub demands : vec_len tables.demands.named ≡ length project.node_ids
  pub emitters : vec_len tables.emitters.named ≡ length project.node_ids
  pub heads : vec_len tables.heads.named ≡ length project.node_ids
  pub levels : vec_len tables.levels.named ≡ length project.node_ids

-- with one row more
abbrev pub all_after : Option ℕ → Option Ends → Ends → Option Ends
all_after None all ends = Some ends
all_after (Some node) all ends = all

abbrev pub named_after : Option ℕ → List (Option Ends) → Ends → List (Option Ends)
named_after None named ends = named
named_after (Some node) named ends = slice_set named node (Some ends)

-- the ends for a node, its own where no row speaks of it
abbrev pub ends_at : Said → Ends → ℕ → Ends
ends_at said own node = ends_or own (either (slice_index_or said.named.items node None) said.all)
