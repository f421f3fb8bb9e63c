-- What a valid record decides the tight vectors of its standing decide in the same way.
use Rattle.std.proofs.Common.{◌≡◌, ◌≢◌, ℕ, zero, suc, ◌+◌, ◌<◌, ◌≤◌, ℤ, pos, ◌≤ℤ◌, refl, sym, ap, subst, ◌∙◌, arith}
use Rattle.std.proofs.Common.{Bool, true, false, List, [], ◌∷◌, length, map, inl, inr, MatchBool}
use Rattle.std.specs.Prelude.{Option, Some, None, slice_get, slice_index_or, int_le, if◌then◌else◌}
use Rattle.std.specs.List.{AllByRecursion, AllZip}
use Rattle.std.proofs.lemmas.Int.{ints}
use Rattle.std.proofs.lemmas.Bool.{cases_lt}
use Rattle.hyd_net.specs.Sound.{IsSound}
use Rattle.hyd_spec.specs.ProgramTypes.{Project, Tank, Junction, LinkState}
use Rattle.hyd_spec.specs.declared.TankState.{TankState}
use Rattle.hyd_spec.specs.Lists.{map_from}
use Rattle.hyd_spec.specs.DemandsHeadsAndPumpLifts.{is_us, demand_of, pressure_value}
use Rattle.hyd_spec.specs.PeriodLength.{duration}
use Rattle.hyd_spec.specs.Tank.{walls_of, kept_volume, tank_state}
use Rattle.hyd_spec_certificates.specs.declared.Side.TheVariants.{Upper, Lower}
use Rattle.hyd_spec_certificates.specs.Interval.{Interval, exactly}
use Rattle.hyd_spec_certificates.specs.EnclosingFunctions.{DemandLaw, Fixed}
use Rattle.hyd_spec_certificates.specs.Stocks.{state_of}
use Rattle.hyd_spec_certificates.specs.ThreeValuedLogic.{is_unknown}
use Rattle.hyd_spec_certificates.specs.PeriodNetwork.{Grid, GridJunction, IsJunctionOf, IsDemandLaw, IsDriven}
use Rattle.hyd_spec_certificates.specs.RecordAndStanding.{Record, Standing, initial_standing, vector_of}
use Rattle.hyd_spec_certificates.specs.Decided.{links_at, acts_on, nowhere, control_truth, IsClockLength}
use Rattle.hyd_spec_certificates.specs.Decided.{by_rules as decided_by_rules, by_clock as decided_by_clock}
use Rattle.hyd_spec_certificates.specs.Valid.{IsGridAt, IsValid, Continues, continues, LeavesLinks}
use Rattle.hyd_spec_certificates.specs.Valid.{by_rules as left_by_rules, by_clock as left_by_clock, AreStates}
use Rattle.hyd_spec_certificates.specs.Valid.{ControlsAreDecided, stocks_next, levels_next, volumes_next}
use Rattle.hyd_theorems_on_definitions.specs.LyingInIntervals.{IsInside}
use Rattle.hyd_theorems_on_definitions.specs.SoundLawsAndGrids.{IsSoundDemand, IsSteady}
use Rattle.hyd_lemmas.proofs.BooleanTests.{le-no}
use Rattle.hyd_lemmas.proofs.ListsOptionsAndResults.{as_long}
use Rattle.hyd_theorems_on_definitions.proofs.LawsOfGrids.{IsSoundGrid-made}
use Rattle.hyd_theorems_on_definitions.proofs.StocksInIntervals.{state_nests}
use Rattle.hyd_theorems_on_definitions.proofs.DecidedByEnds.{control_tells}
use Rattle.hyd_theorems_on_definitions.proofs.SoundTankLemmas.{vessels}
use Rattle.hyd_theorems_on_histories.specs.Agreement.{IsKept}
use Rattle.hyd_theorems_on_histories.proofs.ListsByPlace.{numbered_from_start}
use Rattle.hyd_theorems_on_histories.proofs.AgreementAfterPeriod.{made-states}
use Rattle.hyd_theorems_on_histories.proofs.CommandedLinkStates.{started_own}
use Rattle.hyd_theorems_on_nesting.specs.Nesting.{IsOrdered, AreNested, IsTightened}
use Rattle.hyd_theorems_on_nesting.specs.StandingsOfRuns.{IsTidy}
use Rattle.hyd_theorems_on_nesting.proofs.ClockLengthAndEndsExist.{clock_length_is, earliest_is}
use Rattle.hyd_theorems_on_nesting.proofs.InnerRecordsDecide.{lies-one, widened-lies, stocks_within, stocks_there}
use Rattle.hyd_theorems_on_nesting.proofs.InnerRecordsDecide.{ends-refine}
use Rattle.hyd_theorems_on_nesting.proofs.InnerRecordsDecide.{known-same, leaves_so}

-- ---- demands

demand-sound : (project : Project) (demand : ℤ) (law : DemandLaw) → IsDemandLaw project demand law → IsSoundDemand law
demand-sound project demand law is = by-case (int_le demand (pos 0)) project.options.pda refl is
  where
    some-den : (us : Bool) (nano : _) → 0 < (pressure_value us nano).den
    some-den true nano = omega arith
    some-den false nano = omega arith

    by-case : (a b : Bool) → int_le demand (pos 0) ≡ a
        → MatchBool (if a then false else b) (IsDriven project demand law) (law ≡ Fixed demand) → IsSoundDemand law
    by-case true b e fixed = subst IsSoundDemand (sym fixed) tt
    by-case false true e driven =
        subst IsSoundDemand (sym driven.is_law) (
          (let l = le-no demand (pos 0) e in
              omega (arith, ints, l)),
          (
            some-den (is_us project) project.options.p0,
            some-den
                (is_us project) project.options.pf,
          ),
        )
    by-case false false e fixed = subst IsSoundDemand (sym fixed) tt

demands-sound : (project : Project) (time : ℕ) (xs : List Junction) (ys : List GridJunction)
    → AllZip (IsJunctionOf project time) xs ys → AllByRecursion (λ (j : GridJunction). IsSoundDemand j.demand) ys
demands-sound project time [] [] all = tt
demands-sound project time [] (y ∷ ys) all = absurd all
demands-sound project time (x ∷ xs) [] all = absurd all
demands-sound project time (x ∷ xs) (y ∷ ys) all =
    (demand-sound project (demand_of project time x) y.demand all.0.demand, demands-sound project time xs ys all.1)

-- ---- lists

long-mapped : (X Y : Type 0) (f : X → Y) (xs : List X) → length (map f xs) ≡ length xs
long-mapped X Y f [] = refl
long-mapped X Y f (x ∷ xs) = let r = long-mapped X Y f xs in omega (arith, r)

-- past the end of the tanks there is no interval
past : (f : ℕ → Tank → Interval) (from : ℕ) (tanks : List Tank) (m : ℕ) → slice_get tanks m ≡ None
    → slice_index_or (map_from f from tanks) m nowhere ≡ nowhere
past f from [] m none = refl
past f from (t ∷ tanks) zero none = absurd (cc)
past f from (t ∷ tanks) (suc m) none = past f (suc from) tanks m none

nowhere-ordered : IsOrdered nowhere
nowhere-ordered = let o : pos 0 ≤ℤ pos 0 = omega (arith, ints) in o

exact-ordered : (f : Tank → ℤ) (tanks : List Tank) (k : ℕ)
    → IsOrdered (slice_index_or (map (λ (tank : Tank). exactly (f tank)) tanks) k nowhere)
exact-ordered f [] k = nowhere-ordered
exact-ordered f (tank ∷ tanks) zero = let o : f tank ≤ℤ f tank = omega (arith, ints) in o
exact-ordered f (tank ∷ tanks) (suc k) = exact-ordered f tanks k

numbered-ordered : (f : ℕ → Tank → Interval) (tanks : List Tank) (k : ℕ)
    → ((tank : Tank) → slice_get tanks k ≡ Some tank → IsOrdered (f k tank))
    → IsOrdered (slice_index_or (map_from f 0 tanks) k nowhere)
numbered-ordered f tanks k each = by-place (slice_get tanks k) refl
  where
    by-place : (o : Option Tank) → slice_get tanks k ≡ o → IsOrdered (slice_index_or (map_from f 0 tanks) k nowhere)
    by-place None at = subst IsOrdered (sym (past f 0 tanks k at)) nowhere-ordered
    by-place (Some tank) at = subst IsOrdered (sym (numbered_from_start Tank Interval f tanks k tank nowhere at))
        (each tank at)

decided-long : (f : ℕ → Tank → Option TankState) (from : ℕ) (tanks : List Tank) (states : List TankState)
    → map_from f from tanks ≡ map Some states
    → length states ≡ length tanks
decided-long f from [] [] e = refl
decided-long f from [] (s ∷ states) e = absurd (cc)
decided-long f from (tank ∷ tanks) [] e = absurd (cc)
decided-long f from (tank ∷ tanks) (s ∷ states) e =
    let others : map_from f (suc from) tanks ≡ map {B = Option TankState} Some states = cc in
    let r = decided-long f (suc from) tanks states others in omega (arith, r)

module _ (project : Project) (sound : IsSound project) where
  -- the grid of a standing of a run has sound laws
  pub steady_at : (standing : Standing) (grid : Grid) → IsKept project standing → IsGridAt project standing grid
      → IsSteady grid
  steady_at standing grid kept is = record {
    sound = IsSoundGrid-made project standing.time standing.levels standing.tanks (links_at project standing) grid is
        (record {
          emitters = sound.made.emitters;
          kinds = sound.made.links;
          sizes = sound.quantities.links;
          states = made-states project project.links.list (links_at project standing)
              (started_own project sound standing.time (acts_on standing.levels) standing.commanded kept.states);
        });
    demands = demands-sound project standing.time project.junctions.list grid.junctions is.junctions;
  }

  -- ---- what every standing keeps

  pub tidy_at_start : IsTidy project (initial_standing project)
  tidy_at_start = record {
    levels_each = long-mapped Tank Interval (λ tank. exactly tank.initial) project.tanks.list;
    volumes_each = long-mapped Tank Interval (λ tank. exactly (kept_volume (walls_of project tank) tank.initial))
        project.tanks.list;
    tanks_each = long-mapped Tank TankState (λ tank. tank_state 1 tank tank.initial) project.tanks.list;
    ordered = λ k. record {
      level = exact-ordered (λ tank. tank.initial) project.tanks.list k;
      volume = exact-ordered (λ tank. kept_volume (walls_of project tank) tank.initial) project.tanks.list k;
    };
    in_time = omega arith;
  }

  module _ (standing : Standing) (grid : Grid) (row next : _) (kept : IsKept project standing)
      (tidy : IsTidy project standing) (valid : IsValid project standing grid row next) where
    -- the record inside itself
    self-nested : AreNested project standing grid row row
    self-nested = record {
      is_grid = valid.is_grid;
      steady = steady_at standing grid kept valid.is_grid;
      levels_each = tidy.levels_each;
      ordered = tidy.ordered;
      outer_certificates = valid.certificates;
      inner_certificates = valid.certificates;
      about = record {
        upper = λ problem is i junction at. omega (arith, ints);
        lower =
            λ problem is i junction at. omega (arith, ints);
      };
      vessels = vessels project sound;
    }

    ends-in-time : (cap : ℕ) → IsClockLength project standing.time cap → (seconds : ℕ) (links : List LinkState)
        → LeavesLinks project grid standing row seconds links → seconds ≤ cap
    ends-in-time cap clock seconds _ (left_by_rules (decided_by_rules first known)) = let a =
        first.is_earliest.least cap (inl clock) in let b = first.in_time in omega (arith, a, b)
    ends-in-time cap clock seconds _ (left_by_clock (decided_by_clock none latest)) =
        none.is_earliest.least cap (inl clock)

    pub tidy_next : Continues project grid standing row next → IsTidy project next
    tidy_next c = record {
      levels_each = ap length c.levels ∙ as_long {X = Tank} {Y = Interval}
          (λ k tank. (stocks_next project grid standing row row.length k tank).level) 0 project.tanks.list;
      volumes_each = ap length c.volumes ∙ as_long {X = Tank} {Y = Interval}
          (λ k tank. (stocks_next project grid standing row row.length k tank).volume) 0 project.tanks.list;
      tanks_each = decided-long (λ k tank. state_of tank (slice_index_or next.levels k nowhere))
          0 project.tanks.list next.tanks c.tanks;
      ordered = λ k. record {
        level = subst (λ ls. IsOrdered (slice_index_or ls k nowhere)) (sym c.levels)
            (numbered-ordered (λ n tank. (stocks_next project grid standing row row.length n tank).level)
            project.tanks.list k
            (λ tank at. (stocks_there project sound standing grid row row self-nested row.length k tank at).level));
        volume = subst (λ vs. IsOrdered (slice_index_or vs k nowhere)) (sym c.volumes)
            (numbered-ordered (λ n tank. (stocks_next project grid standing row row.length n tank).volume)
            project.tanks.list k
            (λ tank at.
            (stocks_there project sound standing grid row row self-nested row.length k tank at).volume));
      };
      in_time =
          let found = clock_length_is project standing.time sound.times.hydraulic in
          let before : standing.time < project.times.duration =
          strict standing.time project.times.duration tidy.in_time c.not_last in
          let a = found.1.least project.times.duration (duration before refl) in
          let b = ends-in-time found.0 found.1 row.length next.commanded c.leaves_links in
          let t = c.time in omega (arith, a, b, t);
    }
      where
        strict : (m n : ℕ) → m ≤ n → m ≢ n → m < n
        strict m n le other = elim (cases_lt m n) [
          | inl less ↦ less
          | inr more ↦ absurd (other (omega (arith, le, more)))
        ]

    -- ---- tight vectors

    module _ (tight : Record) (tightened : IsTightened project grid row tight) where
      pub tight-nested : AreNested project standing grid row tight
      tight-nested = record {
        is_grid = valid.is_grid;
        steady = steady_at standing grid kept valid.is_grid;
        levels_each = tidy.levels_each;
        ordered = tidy.ordered;
        outer_certificates = valid.certificates;
        inner_certificates = record {
          pinned_each = tightened.pinned_each;
          each =
              λ problem side is. (tightened.each problem side is).is_certificate;
        };
        about = record {
          upper = λ problem is. (tightened.each problem Upper is).nearest (vector_of row problem Upper)
              (valid.certificates.each problem Upper is);
          lower = λ problem is. (tightened.each problem Lower is).nearest (vector_of row problem Lower)
              (valid.certificates.each problem Lower is);
        };
        vessels = vessels project sound;
      }

      abbrev next-level : Record → ℕ → Tank → Interval
      next-level r k tank = (stocks_next project grid standing r row.length k tank).level

      level-within : (k : ℕ) (tank : Tank) → slice_get project.tanks.list k ≡ Some tank
          → IsInside (next-level tight k tank) (next-level row k tank)
      level-within k tank at =
          (stocks_within project sound standing grid row tight tight-nested row.length k tank at).level

      level-there : (k : ℕ) (tank : Tank) → slice_get project.tanks.list k ≡ Some tank
          → IsOrdered (next-level tight k tank)
      level-there k tank at =
          (stocks_there project sound standing grid row tight tight-nested row.length k tank at).level

      control-known : (k : ℕ) (tank : Tank) (above : Bool) (ticks : ℤ) → slice_get project.tanks.list k ≡ Some tank
          → is_unknown (control_truth (next-level row k tank) above ticks) ≡ false
          → is_unknown (control_truth (next-level tight k tank) above ticks) ≡ false
      control-known k tank above ticks at known =
          let outer = next-level row k tank in let inner = next-level tight k tank in
          let lo = widened-lies inner outer inner.lo (level-within k tank at)
          (lies-one inner inner.lo (omega (arith, ints)) (level-there k tank at)) in
          let hi = widened-lies inner outer inner.hi (level-within k tank at)
          (lies-one inner inner.hi (level-there k tank at) (omega (arith, ints))) in
          let refines = ends-refine (control_truth outer above ticks) _ _
          (control_tells 1 outer above ticks inner.lo (omega arith) lo) (control_tells 1 outer above ticks inner.hi
          (omega arith) hi) in
          ap is_unknown
          (sym (known-same (control_truth outer above ticks) (control_truth inner above ticks) known refines))
          ∙ known

      -- ---- over all tanks

      at-next : (r : Record) (k : ℕ) (tank : Tank) → slice_get project.tanks.list k ≡ Some tank
          → slice_index_or (levels_next project grid standing r row.length) k nowhere ≡ next-level r k tank
      at-next r k tank at =
          numbered_from_start Tank Interval (λ n t. (stocks_next project grid standing r row.length n t).level)
          project.tanks.list k tank nowhere at

      states-same : (f g : ℕ → Tank → Option TankState) (from : ℕ) (tanks : List Tank) (states : List TankState)
          → ((k : ℕ) (tank : Tank) (s : TankState) → slice_get tanks k ≡ Some tank → f (from + k) tank ≡ Some s
          → g (from + k) tank ≡ Some s)
          → map_from f from tanks ≡ map Some states → map_from g from tanks ≡ map Some states
      states-same f g from [] states each e = e
      states-same f g from (tank ∷ tanks) [] each e = absurd (cc)
      states-same f g from (tank ∷ tanks) (s ∷ states) each e =
          let first : f from tank ≡ Some s = cc in
          let others : map_from f (suc from) tanks ≡ map {B = Option TankState} Some states = cc in
          let n : from + 0 ≡ from = omega arith in
          let here : g from tank ≡ Some s = subst (λ m. f m tank ≡ Some s → g m tank ≡ Some s) n (each 0 tank s refl)
          first in
          let rest = states-same f g (suc from) tanks states (λ k t u at. let m : from + suc k ≡ suc from + k =
          omega arith in subst (λ p. f p t ≡ Some u → g p t ≡ Some u) m (each (suc k) t u at)) others in
          λ i. here i ∷ rest i

      pub next_states : (states : List TankState) → AreStates project (levels_next project grid standing row row.length)
          states → AreStates project (levels_next project grid standing tight row.length) states
      next_states states =
          states-same
          (λ k tank. state_of tank (slice_index_or (levels_next project grid standing row row.length) k nowhere))
          (λ k tank. state_of tank (slice_index_or (levels_next project grid standing tight row.length) k nowhere))
          0 project.tanks.list states
          (λ k tank s at. let n : k ≡ 0 + k = omega arith in
          subst (λ m. state_of tank (slice_index_or (levels_next project grid standing row row.length) m nowhere)
          ≡ Some s → state_of tank (slice_index_or (levels_next project grid standing tight row.length) m nowhere)
          ≡ Some s) n
          (λ e. ap (state_of tank) (at-next tight k tank at)
          ∙ state_nests tank (next-level tight k tank) (next-level row k tank) s (level-there k tank at)
          (level-within k tank at) (ap (state_of tank) (sym (at-next row k tank at)) ∙ e)))

      pub next_controls : ControlsAreDecided project (levels_next project grid standing row row.length)
          → ControlsAreDecided project (levels_next project grid standing tight row.length)
      next_controls decided each k above ticks contained is = by-place (slice_get project.tanks.list k) refl
        where
          known : is_unknown
              (control_truth (slice_index_or (levels_next project grid standing row row.length) k nowhere) above ticks)
              ≡ false
          known = decided each k above ticks contained is

          by-place : (o : Option Tank) → slice_get project.tanks.list k ≡ o
              → is_unknown
              (control_truth (slice_index_or (levels_next project grid standing tight row.length) k nowhere)
              above ticks) ≡ false
          by-place None at =
              let a = past (λ n t. (stocks_next project grid standing row row.length n t).level)
              0 project.tanks.list k at in
              let b = past (λ n t. (stocks_next project grid standing tight row.length n t).level)
              0 project.tanks.list k at in
              ap (λ x. is_unknown (control_truth x above ticks)) (b ∙ sym a) ∙ known
          by-place (Some tank) at =
              ap (λ x. is_unknown (control_truth x above ticks)) (at-next tight k tank at)
              ∙ control-known k tank above ticks at (ap (λ x. is_unknown (control_truth x above ticks))
              (sym (at-next row k tank at)) ∙ known)

      -- the standing that the tight record leads on to: its stocks lie inside the other's
      abbrev tight-next : Standing
      tight-next = record next {
        levels = levels_next project grid standing tight tight.length;
        volumes = volumes_next project grid standing tight tight.length;
      }

      pub tight_continues : Continues project grid standing row next → Continues project grid standing tight tight-next
      tight_continues c =
          let found = earliest_is project grid standing tight sound.times.hydraulic in
          let same = tightened.length_is in
          record {
            not_last = c.not_last;
            leaves_links = subst (λ n. LeavesLinks project grid standing tight n next.commanded) (sym same)
                (leaves_so project sound standing grid row tight tight-nested row.length found.0 next.commanded found.1
                c.leaves_links);
            levels = refl;
            volumes = refl;
            tanks = subst (λ n. AreStates project (levels_next project grid standing tight n) next.tanks) (sym same)
                (next_states next.tanks (subst (λ ls. AreStates project ls next.tanks) c.levels c.tanks));
            controls = subst (λ n. ControlsAreDecided project (levels_next project grid standing tight n)) (sym same)
                (next_controls (subst (ControlsAreDecided project) c.levels c.controls));
            number = c.number;
            time = let t = c.time in omega (arith, t, same);
            unfinished = c.unfinished;
          }

      pub tight_is_valid : Continues project grid standing row next → IsValid project standing grid tight tight-next
      tight_is_valid c = record {
        unfinished = valid.unfinished;
        number = tightened.number ∙ valid.number;
        time = tightened.time ∙ valid.time;
        demands = valid.demands;
        is_grid = valid.is_grid;
        certificates = tight-nested.inner_certificates;
        leads_on = continues (tight_continues c);
      }
