-- What is known of a run that was opened for the spread of a text, and of one that couldn't be.
use Rattle.std.proofs.Common.{◌≡◌, ℕ, suc, ◌<◌, ◌+◌, List, [], ◌∷◌, length, Option, Some, None, refl, ap, subst, arith}
use Rattle.std.specs.Prelude.{slice_get, IsSomeAnd, MatchOption}
use Rattle.std.specs.Option.{option_map}
use Rattle.std.proofs.lemmas.Slice.Zip.{AllZip-left}
use Rattle.std.proofs.lemmas.Option.{slice_get_within}
use Rattle.hyd_net.specs.Sound.{IsSound}
use Rattle.hyd_spec.specs.ProgramTypes.{Project, Junction, Capacity}
use Rattle.hyd_spec.specs.Lists.{Each, map_from}
use Rattle.hyd_spec.specs.NodeNumbers.{junction_count}
use Rattle.hyd_spec_certificates.specs.declared.Side.TheVariants.{Upper}
use Rattle.hyd_spec_spread.specs.Spreads.{Spread}
use Rattle.hyd_period_network.specs.NetAsPeriodNetwork.{capacity_of}
use Rattle.hyd_period_network.specs.declared.junctions_ends_and_settings.NetJunction.{NetJunction}
use Rattle.hyd_spread_networks.specs.NetsOfSpreads.{SpreadNetsView, KnownEmitter, IsOutermost, HasOutermost}
use Rattle.hyd_spread_networks.specs.NetsOfSpreads.{known_emitter, known_emitters, AreNetsOf}
use Rattle.hyd_spread_networks.specs.HeadsBySpreads.{HeadsStay}
use Rattle.hyd_spread_networks.specs.RefusedSpreads.{IsFirstEmitter, IsFirstHead}
use Rattle.hyd_spec_spread_rows.specs.TextsOfSpreads.{spread_in}
use Rattle.hyd_spec_spread_starts.specs.StartsOfSpreads.{CanBegin}
use Rattle.hyd_spread_files.specs.RefusedSpreads.{GivesRun}

-- ---- emitters of both nets

has-one : (known : KnownEmitter) (there : Option NetJunction) → IsSomeAnd there (HasOutermost known)
    → (emitter : Option Capacity) × IsOutermost known emitter
has-one known None has = absurd has
has-one known (Some junction) has = (option_map capacity_of junction.emitter, has)

at-place : (here : Option KnownEmitter) (there : Option NetJunction) (known : KnownEmitter) → here ≡ Some known
    → MatchOption here (Unit {0}) (λ k. IsSomeAnd there (HasOutermost k))
    → (emitter : Option Capacity) × IsOutermost known emitter
at-place here there known is has =
    has-one known there (subst (λ (o : Option KnownEmitter). MatchOption o (Unit {0}) (λ k. IsSomeAnd there
    (HasOutermost k))) is has)

pub outermost-emitters : (project : Project) (nets : SpreadNetsView) → AreNetsOf project nets → (j : ℕ)
    (known : KnownEmitter) → slice_get (known_emitters project nets.spread) j ≡ Some known
    → (emitter : Option Capacity) × IsOutermost known emitter
outermost-emitters project nets are j known is =
    at-place (slice_get (known_emitters project nets.spread) j) (slice_get nets.upper.junctions j) known is
    (AllZip-left HasOutermost (known_emitters project nets.spread) nets.upper.junctions (are.emitters Upper) j)

-- ---- nodes that have a number

known-long : (spread : Spread) (from : ℕ) (js : List Junction)
    → length (map_from (known_emitter spread) from js) ≡ length js
known-long spread from [] = refl
known-long spread from (j ∷ js) = ap suc (known-long spread (suc from) js)

-- there is such a junction
pub emitter-within : (project : Project) (spread : Spread) (j : ℕ) → IsSound project → IsFirstEmitter project spread j
    → j < length project.node_ids
emitter-within project spread j sound first =
    let here = slice_get_within (known_emitters project spread) j first.known first.is_known in
    let long = known-long spread 0 project.junctions.list in
    let each = sound.ids.each_node in
    omega (arith, here, long, each)

-- there is such a reservoir
pub reservoir-within : (project : Project) (spread : Spread) (r : ℕ) → IsFirstHead project spread r
    → r < length project.reservoirs.list
reservoir-within project spread r first =
    slice_get_within project.reservoirs.list r first.reservoir first.is_reservoir

pub head-within : (project : Project) (spread : Spread) (r : ℕ) → IsSound project → IsFirstHead project spread r
    → junction_count project + r < length project.node_ids
head-within project spread r sound first =
    let here = reservoir-within project spread r first in
    let each = sound.ids.each_node in
    omega (arith, here, each)

-- ---- a run that was opened

-- the text gives a run, where it can begin with the text and has nets for its spread
pub gives : (project : Project) (text : List ℕ) (nets : SpreadNetsView) → CanBegin project text
    → nets.spread ≡ spread_in project text → AreNetsOf project nets → GivesRun project text
gives project text nets begins same are = record {
  begins = begins;
  heads = subst (λ (s : Spread). Each project.reservoirs.list (HeadsStay project s)) same are.heads;
  emitters = subst (λ (s : Spread). (j : ℕ) (known : KnownEmitter) → slice_get (known_emitters project s) j ≡ Some known
      → (emitter : Option Capacity) × IsOutermost known emitter) same (outermost-emitters project nets are);
}
