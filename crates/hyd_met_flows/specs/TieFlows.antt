-- Flows over the link ends at a node.
use Rattle.std.specs.Prelude.{ℤ, pos, ◌+ℤ◌, neg_ℤ, Bool, true, false, List, [], ◌∷◌}
use Rattle.hyd_spec.specs.Assignment.{flow_at}
use Rattle.hyd_period_network.specs.declared.junctions_ends_and_settings.Tie.{Tie}

-- a flow out of a node, and one into it
abbrev pub taken : Bool → ℤ → ℤ
taken true q = q
taken false q = neg_ℤ q

-- what a link end takes out of its node
abbrev pub tie_flow : List ℤ → Tie → ℤ
tie_flow flows tie = taken tie.out (flow_at flows tie.link)

-- what link ends take out together
abbrev pub ties_flow : List ℤ → List Tie → ℤ
ties_flow flows [] = pos 0
ties_flow flows (tie ∷ ties) = tie_flow flows tie +ℤ ties_flow flows ties
