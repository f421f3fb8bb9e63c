-- Runs for a spread whose ends of periods may be open by some seconds: records whose vectors are certificates on the
-- outermost grids, and whose periods end, whatever the data within the spread are, between two seconds.
-- Source: this program's.
use Rattle.std.specs.Prelude.{◌≡◌, ℕ, ◌≤◌, List, [], ◌∷◌, false}
use Rattle.hyd_spec.specs.ProgramTypes.{Project}
use Rattle.hyd_spec_open_ends.specs.OpenStandings.{OpenStanding, OpenRecord}
use Rattle.hyd_spec_open_ends.specs.OpenRecords.{LeadsOnOpenly}
use Rattle.hyd_spec_spread.specs.Spreads.{Spread}
use Rattle.hyd_spec_spread_runs.specs.OutermostPairs.{Pair, spanned, spanning}
use Rattle.hyd_spec_spread_runs.specs.RunsForSpreads.{standing_within, StartIsDecided, ArePairAt, AreDemandsInRange}
use Rattle.hyd_spec_spread_runs.specs.RunsForSpreads.{AreCertificatesOver}

-- ---- the start

-- What is known at the start of a run for a spread, which every history begins at time 0.
abbrev pub open_standing_within : Project → Spread → OpenStanding
open_standing_within project spread = record { known = standing_within project spread; late = 0 }

-- ---- records

-- The record with the heads of reservoirs behind those of junctions.
abbrev pub spanning_openly : Pair → OpenRecord → OpenRecord
spanning_openly pair found = record found { row = spanning pair found.row }

-- A record is valid for a spread at a standing whose start may be open, on the outermost grids of its period, and leads
-- on to the next one. As without open ends, and its start is open as long as that of the standing; how its period ends,
-- and what the end leaves, is decided by what both grids leave open.
pub record IsValidOpenlyOver (project : Project) (spread : Spread) (standing : OpenStanding) (pair : Pair)
    (found : OpenRecord) (next : OpenStanding) : Type 0 where
  pub unfinished : standing.known.finished ≡ false
  pub number : found.row.number ≡ standing.known.number
  pub time : found.row.time ≡ standing.known.time
  pub late : found.late ≡ standing.late
  pub demands : AreDemandsInRange project spread standing.known.time
  pub are_pair : ArePairAt project spread standing.known pair
  pub certificates : AreCertificatesOver project pair found.row
  pub leads_on : LeadsOnOpenly project (spanned pair) standing (spanning_openly pair found) next

-- ---- runs

-- A period of such a run, and what is known of it: the standing at its start, its grids and its record, and the
-- standing that it leaves.
pub record OpenFoundOver : Type 0 where
  pub standing : OpenStanding
  pub pair : Pair
  pub found : OpenRecord
  pub next : OpenStanding

-- One period after another, from one standing to another. Each record is valid, and no end is open by more seconds than
-- the slack.
pub data IsOpenRunOverFrom (project : Project) (spread : Spread) (slack : ℕ) : OpenStanding → List OpenFoundOver
    → OpenStanding → Type 0 where
  none : {standing : OpenStanding} → IsOpenRunOverFrom project spread slack standing [] standing
  more : {last : OpenStanding} {here : OpenFoundOver} {rest : List OpenFoundOver}
      → IsValidOpenlyOver project spread here.standing here.pair here.found here.next → here.next.late ≤ slack
      → IsOpenRunOverFrom project spread slack here.next rest last
      → IsOpenRunOverFrom project spread slack here.standing (here ∷ rest) last

-- A run for a spread with a slack, from its start on, which leaves no doubt there.
pub record IsOpenRunOver (project : Project) (spread : Spread) (slack : ℕ) (founds : List OpenFoundOver)
    (last : OpenStanding) : Type 0 where
  pub start : StartIsDecided project spread
  pub run : IsOpenRunOverFrom project spread slack (open_standing_within project spread) founds last
