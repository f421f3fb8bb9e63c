-- The room of the knots of a link's curve.
use Rattle.std.proofs.Common.{◌*◌, ℕ, List, [], length, sym, ap, subst, Option}
use Rattle.std.specs.Option.{option_map_or}
use Rattle.std.proofs.lemmas.Option.{slice_get-get_or}
use Rattle.hyd_net.specs.NetworkRanges.{HasBend}
use Rattle.hyd_net.specs.ListView.{ListView}
use Rattle.hyd_net.specs.declared.curves.HeadPoint.{HeadPoint}
use Rattle.hyd_spec.specs.ProgramTypes.{LinkKind, PipeLink, CheckPipe, PumpLink, CurvePump, Tcv, Fcv, Gpv}
use Rattle.hyd_spec.specs.DemandsHeadsAndPumpLifts.{points_of}
use Rattle.hyd_law.specs.declared.link_law_kinds.LinkLaw.{LinkLaw}
use Rattle.hyd_period_network.specs.LawsInSettings.{HasRoom, HasRoomFor}

-- a law that keeps whatever room another has
pub room_kept : (bends : List (ListView HeadPoint)) (kind : LinkKind) (law new : LinkLaw)
    → ((n : ℕ) → HasRoom n law → HasRoom n new) → HasRoomFor bends kind law → HasRoomFor bends kind new
room_kept bends (PipeLink cap) law new keeps room = tt
room_kept bends (CheckPipe cap) law new keeps room = tt
room_kept bends (PumpLink cap shutoff head pattern) law new keeps room = tt
room_kept bends (CurvePump bend pattern) law new keeps room = keeps (length (points_of bends bend)) room
room_kept bends (Tcv valve) law new keeps room = tt
room_kept bends (Fcv valve) law new keeps room = tt
room_kept bends (Gpv bend) law new keeps room = keeps (2 * length (points_of bends bend)) room

-- the points of a curve that is there
pub bend_points : (P : List HeadPoint → Type 0) (bends : List (ListView HeadPoint)) (bend : ℕ) → HasBend P bends bend
    → P (points_of bends bend)
bend_points P bends bend has =
    let none : ListView HeadPoint = record { list = []; spare = 0 } in
    let there = ap (λ (o : Option (ListView HeadPoint)). option_map_or (λ (b : ListView HeadPoint). b.list) o [])
    (slice_get-get_or bends bend none has.in_range) in
    subst P (sym there) (has.holds none)
