-- The program's offers as those of the definitions.
-- Source: EPANET 2.2 User Manual, appendix C ([RULES], priorities).
use Rattle.std.specs.Prelude.{◌≡◌, ℕ, ◌<◌, ℤ, Bool, true, List, Option, Some, None, slice_index_or}
use Rattle.std.specs.Option.{option_map, option_map_or, option_and_then}
use Rattle.hyd_spec.specs.ProgramTypes.{LinkState}
use Rattle.hyd_spec.specs.declared.Change.{Change}
use Rattle.hyd_spec.specs.Rules.{Offer, is_above, best_offer, change_by}
use Rattle.hyd_controls_and_rules.specs.declared.actions_by_priority.Offer as program

-- the offer that an offer of the program stands for
abbrev pub offer_for : program.Offer → Offer
offer_for offer = record { rule = offer.rule; priority = offer.priority; link = offer.link; to = offer.to }

-- an offer of this priority ranks above the best of those before it
abbrev pub is_higher : Option ℤ → Option Offer → Bool
is_higher priority None = true
is_higher priority (Some best) = is_above priority best.priority

-- the best of some offers to a link
abbrev pub best_of : List (Option program.Offer) → ℕ → Option Offer
best_of best link = option_map offer_for (slice_index_or best link None)

-- for each link below a number the best of these offers to it
pub record AreBest (count : ℕ) (offers : List Offer) (best : List (Option program.Offer)) : Type 0 where
  pub each : (link : ℕ) → link < count → best_of best link ≡ best_offer link offers

-- what the best offers change of a link
abbrev pub change_at : List (Option program.Offer) → ℕ → LinkState → Option Change
change_at best link state = option_and_then (change_by state) (best_of best link)

-- the state that the best offers leave a link in
abbrev pub state_at : List (Option program.Offer) → ℕ → LinkState → LinkState
state_at best link state = option_map_or (λ change. change.to) (change_at best link state) state
