-- The states of links at the start of a period.
use Rattle.std.proofs.Common.{◌≡◌, ℕ, zero, suc, ◌<◌, true, false, List, [], ◌∷◌, length, refl, sym, ap, subst}
use Rattle.std.proofs.Common.{arith}
use Rattle.std.proofs.Common.{◌≤◌, map, ◌∙◌}
use Rattle.std.specs.Prelude.{Result, Ok, Err, OnOk, IfErr, is_err, slice_index_or}
use Rattle.std.proofs.lemmas.List.{length-map}
use Rattle.std.specs.List.{AllZip}
use Rattle.std.proofs.lemmas.Bool.{true≢false}
use Rattle.hyd_net.specs.LinkStates.{CanHave}
use Rattle.hyd_net.specs.RoundedFileNumbers.{IsStateMade}
use Rattle.hyd_spec.specs.ProgramTypes.{Project, Link, LinkState}
use Rattle.hyd_theorems_on_histories.specs.Agreement.{IsOwnState}
use Rattle.hyd_spec.specs.Tank.{walls_of}
use Rattle.hyd_spec_certificates.specs.SpansAsIntervals.{levels_of}
use Rattle.hyd_spec_certificates.specs.Valid.{ControlsAreDecided}
use Rattle.hyd_spec_certificates.specs.declared.LevelSpan.{LevelSpan}
use Rattle.hyd_tank.specs.StockIntervals.{AreHeld, volumes_of}
use Rattle.hyd_tank.specs.declared.stock_intervals.VolumeSpan.{VolumeSpan}
use Rattle.hyd_controls_and_rules.specs.PumpPatternsAndSimpleControls.{IsFirstOpen}
use Rattle.hyd_controls_and_rules.specs.declared.pump_patterns_and_simple_controls.LevelOpen.{LevelOpen}
use Rattle.hyd_period_facts.specs.ReservedMemory.{HasRoom}
use Rattle.hyd_period_facts.specs.declared.facts.Facts.{Facts}
use Rattle.hyd_period_network.specs.LawsInSettings.{AreStates}
use Rattle.hyd_period_facts.specs.TankStart.{stocks_among}
use Rattle.hyd_period_end.specs.FactsBeforeVectors.{AreReady}
use Rattle.hyd_sim.specs.RunView.{IsStanding}
use Rattle.hyd_sim.specs.declared.standing_between_periods.Standing.{Standing as Here}
use Rattle.hyd_theorems_on_definitions.proofs.OneRefusal.{controls-decided}

-- what holds of an answer that is no error
pub not-err : {A E : Type 0} (P : Type 0) (result : Result A E) → is_err result ≡ false → OnOk result P → P
not-err P (Ok value) e p = p
not-err P (Err fault) e p = absurd (true≢false e)

module _ (project : Project) where
  pub zip-length : (links : List Link) (states : List LinkState) → AllZip (IsOwnState project) links states
      → length states ≡ length links
  zip-length [] [] all = refl
  zip-length [] (s ∷ states) all = absurd all
  zip-length (l ∷ links) [] all = absurd all
  zip-length (l ∷ links) (s ∷ states) all = ap suc (zip-length links states all.1)

  zip-can : (links : List Link) (states : List LinkState) → AllZip (IsOwnState project) links states
      → (k : ℕ) (link : Link) (state : LinkState) → k < length states
      → CanHave (slice_index_or links k link).kind (slice_index_or states k state)
  zip-can links [] all k link state less = absurd (omega (arith, less))
  zip-can [] (s ∷ states) all k link state less = absurd all
  zip-can (l ∷ links) (s ∷ states) all zero link state less = all.0.can
  zip-can (l ∷ links) (s ∷ states) all (suc k) link state less =
      zip-can links states all.1 k link state (omega (arith, less))

  zip-made : (links : List Link) (states : List LinkState) → AllZip (IsOwnState project) links states
      → (k : ℕ) (state : LinkState) → k < length states
      → IsStateMade project.options.unit (slice_index_or states k state)
  zip-made links [] all k state less = absurd (omega (arith, less))
  zip-made [] (s ∷ states) all k state less = absurd all
  zip-made (l ∷ links) (s ∷ states) all zero state less = all.0.made
  zip-made (l ∷ links) (s ∷ states) all (suc k) state less =
      zip-made links states all.1 k state (omega (arith, less))

  -- states of their own are states that links can have
  pub own-states : (states : List LinkState) → AllZip (IsOwnState project) project.links.list states
      → AreStates project states
  own-states states all = record {
    each = zip-length project.links.list states all;
    can = zip-can project.links.list states all;
    made = zip-made project.links.list states all;
  }

-- a control that is decided is none that is open
pub none-unsure : (project : Project) (levels : List LevelSpan) → ControlsAreDecided project (map levels_of levels)
    → (found : LevelOpen) → IsFirstOpen project levels found → ⊥
none-unsure project levels decided found first =
    controls-decided project (map levels_of levels) found.control decided first.first

pub decided-settles : {T : Type 0} (project : Project) (levels : List LevelSpan)
    → ControlsAreDecided project (map levels_of levels) → (result : Result T LevelOpen)
    → IfErr result (IsFirstOpen project levels) → is_err result ≡ false
decided-settles project levels decided (Ok value) first = refl
decided-settles project levels decided (Err found) first = absurd (none-unsure project levels decided found first)

-- facts of a start are ready
pub ready-of : (project : Project) (here : Here) (facts : Facts) → IsStanding project here
    → facts.levels.list ≡ here.stocks.levels.list → facts.volumes.list ≡ here.stocks.volumes.list
    → facts.tanks.list ≡ here.stocks.tanks.list → length facts.links.list ≡ length project.links.list
    → length facts.changes.list ≤ length project.controls.list → HasRoom project facts → AreReady project facts
ready-of project here facts is levels volumes tanks links changes room = record {
  levels = ap length levels ∙ sym (length-map here.stocks.levels.list levels_of) ∙ is.tidy.levels_each;
  volumes = ap length volumes ∙ sym (length-map here.stocks.volumes.list volumes_of) ∙ is.tidy.volumes_each;
  tanks = ap length tanks ∙ is.tidy.tanks_each;
  links = links;
  held = λ k tank at. subst (λ (vs : List VolumeSpan). AreHeld (walls_of project tank) tank
      (stocks_among facts.levels.list vs k)) (sym volumes)
      (subst (λ (ls : List LevelSpan). AreHeld (walls_of project tank) tank
      (stocks_among ls here.stocks.volumes.list k)) (sym levels) (is.held k tank at));
  changes = changes;
  room = room;
}
