-- Link ends at a node, and sums over them.
use Rattle.std.specs.Prelude.{◌≡◌, ◌<◌, ◌==◌, ℕ, suc, ℤ, pos, neg_ℤ, ◌+ℤ◌, ◌-ℤ◌, Bool, true, false, List, [], ◌∷◌, ◌++◌}
use Rattle.std.specs.Prelude.{length, slice_get, slice_index_or}
use Rattle.std.specs.Option.{option_map_or}
use Rattle.smallvec.specs.SmallVec.{SmallVec}
use Rattle.hyd_spec.specs.Assignment.{head_at}
use Rattle.hyd_spec.specs.Law.{Law}
use Rattle.hyd_spec_certificates.specs.PeriodNetwork.{GridLink}
use Rattle.hyd_period_network.specs.declared.junctions_ends_and_settings.Ends.{Ends}
use Rattle.hyd_period_network.specs.declared.junctions_ends_and_settings.Tie.{Tie}

-- a link end where the test holds, else none
abbrev pub tie_if : Bool → Tie → List Tie
tie_if true tie = tie ∷ []
tie_if false tie = []

-- the ends of link number k at a node
abbrev pub ties_of : ℕ → ℕ → Ends → List Tie
ties_of node k link =
    tie_if (link.from == node) (record { link = k; other = link.to; out = true })
    ++ tie_if (link.to == node) (record { link = k; other = link.from; out = false })

-- the link ends at a node, of links that are numbered from k
abbrev pub ties_from : ℕ → ℕ → List Ends → List Tie
ties_from node k [] = []
ties_from node k (link ∷ links) = ties_of node k link ++ ties_from node (suc k) links

-- the row of each junction holds the link ends there
pub record AreRows (links : List Ends) (rows : List (SmallVec Tie)) : Type 0 where
  pub each : (i : ℕ) (d : SmallVec Tie) → i < length rows → (slice_index_or rows i d).items ≡ ties_from i 0 links

-- there is a row for each of so many nodes, with the link ends there
pub record AreRowsOf (nodes : ℕ) (links : List Ends) (rows : List (SmallVec Tie)) : Type 0 where
  pub count : length rows ≡ nodes
  pub are_rows : AreRows links rows

-- a link end is appended to the row of a node, where the node has one
pub record AddsTie (node : ℕ) (tie : Tie) (old new : List (SmallVec Tie)) : Type 0 where
  pub count : length new ≡ length old
  pub each : (i : ℕ) (d : SmallVec Tie) → i < length old
      → (slice_index_or new i d).items ≡ (slice_index_or old i d).items ++ tie_if (node == i) tie

-- both ends of a link are nodes
pub record HasEnds (nodes : ℕ) (link : Ends) : Type 0 where
  pub from : link.from < nodes
  pub to : link.to < nodes

-- the link and the other node of a link end are there
pub record IsTie (nodes links : ℕ) (tie : Tie) : Type 0 where
  pub link : tie.link < links
  pub other : tie.other < nodes

-- ---- sums over link ends

-- what a link takes out of a node at its first end, by one function of its law, or less what it brings at its second,
-- by another
abbrev pub share : (Law → ℤ → ℤ) → (Law → ℤ → ℤ) → Law → Bool → ℤ → ℤ → ℤ
share out into law true here there = out law (here -ℤ there)
share out into law false here there = neg_ℤ (into law (there -ℤ here))

-- what a link end takes out of a node at a head, among heads of all nodes
abbrev pub tie_share : (Law → ℤ → ℤ) → (Law → ℤ → ℤ) → List GridLink → List ℤ → ℤ → Tie → ℤ
tie_share out into links heads here tie =
    option_map_or (λ (link : GridLink). share out into link.law tie.out here (head_at heads tie.other))
    (slice_get links tie.link) (pos 0)

-- what link ends take out of it together
abbrev pub ties_share : (Law → ℤ → ℤ) → (Law → ℤ → ℤ) → List GridLink → List ℤ → ℤ → List Tie → ℤ
ties_share out into links heads here [] = pos 0
ties_share out into links heads here (tie ∷ ties) =
    tie_share out into links heads here tie +ℤ ties_share out into links heads here ties
