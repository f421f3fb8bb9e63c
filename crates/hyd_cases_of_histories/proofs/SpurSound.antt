-- The small networks are networks that a file can stand for.
use Rattle.std.proofs.Common.{◌≡◌, ◌≢◌, ℕ, zero, suc, ◌<◌, ◌≤◌, ◌^◌, pos, List, [], ◌∷◌, refl, arith}
use Rattle.std.specs.Prelude.{codes}
use Rattle.std.specs.Option.{IfSome}
use Rattle.std.specs.List.{All}
use Rattle.std.proofs.lemmas.List.Elements.{All-from_recursion}
use Rattle.std.proofs.lemmas.List.Kept.{AllPairs-cons}
use Rattle.hyd_num.specs.CapacityPairs.{IsMade}
use Rattle.hyd_net.specs.Ids.{AreDistinct, IsId}
use Rattle.hyd_net.specs.Sound.{HasIds, HasEnds, IsWithinLimits, IsPattern, IsSound}
use Rattle.hyd_net.specs.NetworkRanges.{HasOptions, IsJunction, IsReservoir, IsTank, HasSizes, HasQuantities}
use Rattle.hyd_net.specs.NumberRanges.{IsHead}
use Rattle.hyd_net.specs.LinkStates.{CanHave}
use Rattle.hyd_net.specs.ControlsAndRules.{IsControl, IsRule}
use Rattle.hyd_net.specs.RoundedFileNumbers.{IsAreaMade, IsKindMade, IsStateMade, IsRuleMade, IsKindAcross}
use Rattle.hyd_net.specs.RoundedFileNumbers.{IsStateAcross, IsAcross, IsAllMade}
use Rattle.hyd_net.specs.declared.rules.Rule.{Rule}
use Rattle.hyd_cases_of_histories.specs.OneLink.{Spur, network_of, junction_of}
use Rattle.hyd_lemmas.proofs.ListsOptionsAndResults.{differ}

-- ---- IDs

nothing : AreDistinct []
nothing i j d before within = absurd (omega (arith, within))

alone : (a : List ℕ) → AreDistinct (a ∷ [])
alone a = AllPairs-cons (λ a b. a ≢ b) a [] (All-from_recursion (λ b. a ≢ b) [] tt) nothing

-- ---- what differs

-- the parts of a network that are its own are in range and made of their numbers
pub record IsOwnSound (spur : Spur) : Type 0 where
  pub counts : IsWithinLimits (network_of spur)
  pub options : HasOptions (network_of spur).options []
  pub junction : IsJunction spur.unit [] (junction_of spur)
  pub head : IsHead spur.head
  pub sizes : HasSizes spur.unit [] spur.bends spur.kind
  pub state : CanHave spur.kind spur.start
  pub controls : All (IsControl (network_of spur)) spur.controls
  pub duration : spur.duration ≤ 10 ^ 8
  pub start_clock : spur.start_clock < 86400
  pub emitter_made : IfSome spur.emitter IsMade
  pub kind_made : IsKindMade spur.unit spur.kind
  pub start_made : IsStateMade spur.unit spur.start
  pub states_made : All (λ c. IsStateMade spur.unit c.to) spur.controls
  pub kind_across : IsKindAcross (pos 0) spur.kind
  pub start_across : IsStateAcross (pos 0) spur.start
  pub states_across : All (λ c. c.link ≡ 0 → IsStateAcross (pos 0) c.to) spur.controls

module _ (spur : Spur) (own : IsOwnSound spur) where
  ids : HasIds (network_of spur)
  ids = record {
    each_node = refl;
    each_link = refl;
    distinct_nodes =
        AllPairs-cons (λ a b. a ≢ b) (codes "J") (codes "R" ∷ [])
        (All-from_recursion (λ b. codes "J" ≢ b) (codes "R" ∷ []) (differ _ _ (λ e. omega (arith, e)), tt))
        (alone (codes "R"));
    distinct_links = alone (codes "L");
    node_ids = All-from_recursion IsId (network_of spur).node_ids (
      (omega arith, omega arith),
      ((omega arith, omega arith), tt),
    );
    link_ids = All-from_recursion IsId (network_of spur).link_ids ((omega arith, omega arith), tt);
  }

  quantities : HasQuantities (network_of spur)
  quantities = record {
    options = own.options;
    junctions = All-from_recursion (IsJunction spur.unit []) (network_of spur).junctions.list (own.junction, tt);
    reservoirs = All-from_recursion (IsReservoir []) (network_of spur).reservoirs.list (
      record {
        head = own.head;
        pattern = tt;
      },
      tt,
    );
    tanks = All-from_recursion (IsTank []) [] tt;
    links = All-from_recursion (λ l. HasSizes spur.unit [] spur.bends l.kind) (network_of spur).links.list
        (own.sizes, tt);
  }

  across : (number : ℕ) → number < 1 → IsAcross (network_of spur) number (pos 0)
  across zero below = record {
    link = λ d. (own.kind_across, own.start_across);
    controls = own.states_across;
    yes = All-from_recursion (λ (r : Rule). All (λ a. a.link ≡ 0 → IsStateAcross (pos 0) a.to) r.yes.list) [] tt;
    no = All-from_recursion (λ (r : Rule). All (λ a. a.link ≡ 0 → IsStateAcross (pos 0) a.to) r.no.list) [] tt;
  }
  across (suc number) below = absurd (omega (arith, below))

  made : IsAllMade (network_of spur)
  made = record {
    emitters = All-from_recursion (λ j. IfSome j.emitter IsMade) (network_of spur).junctions.list
        (own.emitter_made, tt);
    areas = All-from_recursion (IsAreaMade spur.unit) [] tt;
    links = All-from_recursion (λ l. IsKindMade spur.unit l.kind) (network_of spur).links.list (own.kind_made, tt);
    starts = All-from_recursion (λ l. IsStateMade spur.unit l.start) (network_of spur).links.list (own.start_made, tt);
    controls = own.states_made;
    rules = All-from_recursion (IsRuleMade spur.unit) [] tt;
    diameters = λ number below. (pos 0, across number below);
  }

  pub sound : IsSound (network_of spur)
  sound = record {
    ids = ids;
    counts = own.counts;
    links = All-from_recursion (HasEnds 2) (network_of spur).links.list
        (record { from_node = omega arith; to_node = omega arith; apart = λ e. omega (arith, e) }, tt);
    states = All-from_recursion (λ l. CanHave l.kind l.start) (network_of spur).links.list (own.state, tt);
    quantities = quantities;
    patterns = All-from_recursion IsPattern [] tt;
    controls = own.controls;
    rules = All-from_recursion (IsRule (network_of spur)) [] tt;
    times = record {
      duration = own.duration;
      hydraulic = omega arith;
      within_pattern = omega arith;
      within_report = omega arith;
      pattern = omega arith;
      pattern_start = omega arith;
      report = omega arith;
      report_start = omega arith;
      start_clock = own.start_clock;
      rule = omega arith;
      within_hydraulic = omega arith;
    };
    made = made;
  }
