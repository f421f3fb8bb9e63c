-- The history of a network of one link and no time to run, from its link and its junction, and back.
use Rattle.std.proofs.Common.{◌≡◌, ℕ, ◌≤◌, ◌<◌, ℤ, ◌-ℤ◌, ◌≤ℤ◌, List, [], ◌∷◌, false, int_le, refl, arith}
use Rattle.std.specs.Prelude.{nat_le}
use Rattle.std.proofs.lemmas.Int.{ints}
use Rattle.std.proofs.lemmas.Bool.{leb-false}
use Rattle.hyd_lemmas.proofs.Each.{each_one}
use Rattle.hyd_spec.specs.ProgramTypes.{Project, Junction, Link, LinkState}
use Rattle.hyd_spec.specs.declared.TankState.{TankState}
use Rattle.hyd_spec.specs.Scale.{at_scale}
use Rattle.hyd_spec.specs.Law.{Follows}
use Rattle.hyd_spec.specs.LinkLaw.{law_of}
use Rattle.hyd_spec.specs.PumpPatternsAndSimpleControls.{started, acts_at}
use Rattle.hyd_spec.specs.Assignment.{Assignment, LinksFollow, none, more, JunctionObeys, IsAssignment, head_at}
use Rattle.hyd_spec.specs.PeriodLength.{at_end}
use Rattle.hyd_spec.specs.History.{IsHistory}
use Rattle.hyd_cases_of_histories.specs.OneLink.{Spur, network_of, junction_of, link_of, period_of}
use Rattle.hyd_lemmas.proofs.BooleanTests.{lt-yes}

-- ---- tests that fail

pub more_than : (a b : ℕ) → nat_le a b ≡ false → a ≤ b → ⊥
more_than a b e le = let less : b < a = leb-false a b e in omega (arith, lt-yes, le)

pub greater : (a b : ℤ) → int_le a b ≡ false → a ≤ℤ b → ⊥
greater a b e le = grind (arith, ints)

-- ---- one link

pub follows_one : (project : Project) (tanks : List TankState) (S : ℕ) (heads : List ℤ) (link : Link)
    (state : LinkState) (q : ℤ)
    → LinksFollow project tanks S heads (link ∷ []) (state ∷ []) (q ∷ [])
    → Follows (law_of project tanks link state) S (head_at heads link.from -ℤ head_at heads link.to) q
follows_one project tanks S heads link state q (more f rest) = f

module _ (spur : Spur) (S : ℕ) (head flow taken emitted : ℤ) where
  abbrev assigned : Assignment
  assigned = (period_of spur head flow taken emitted).assignment

  -- the state of a period of any time and state
  pub obeys : (time : ℕ) (state : LinkState) → 1 ≤ S
      → Follows (law_of (network_of spur) [] (link_of spur) state) S (at_scale S spur.head -ℤ head) flow
      → JunctionObeys (network_of spur) time S assigned 0 (junction_of spur)
      → IsAssignment (network_of spur) S time [] [] (state ∷ []) assigned
  obeys time state scale follows junction = record {
    scale = scale;
    level_each = refl;
    tank_each = refl;
    head_each = refl;
    demand_each = refl;
    emitter_each = refl;
    links_follow = more follows none;
    junctions_obey = each_one Junction (JunctionObeys (network_of spur) time S assigned) (junction_of spur) junction;
  }

  pub history : 1 ≤ S → 0 ≡ spur.duration
      → spur.start ∷ [] ≡ started (network_of spur) 0 (acts_at S []) (spur.start ∷ [])
      → Follows (law_of (network_of spur) [] (link_of spur) spur.start) S (at_scale S spur.head -ℤ head) flow
      → JunctionObeys (network_of spur) 0 S assigned 0 (junction_of spur)
      → IsHistory (network_of spur) S (period_of spur head flow taken emitted ∷ [])
  history scale over starts follows junction = (
    record { at_time = refl; at_levels = refl; at_volumes = refl; tanks = refl; links = starts },
    (record { obeys = obeys 0 spur.start scale follows junction; lasts = at_end over refl }, tt),
  )

  pub link_follows : IsHistory (network_of spur) S (period_of spur head flow taken emitted ∷ [])
      → Follows (law_of (network_of spur) [] (link_of spur) spur.start) S (at_scale S spur.head -ℤ head) flow
  link_follows is = follows_one (network_of spur) [] S _ (link_of spur) spur.start flow is.1.0.obeys.links_follow

  pub junction_obeys : IsHistory (network_of spur) S (period_of spur head flow taken emitted ∷ [])
      → JunctionObeys (network_of spur) 0 S assigned 0 (junction_of spur)
  junction_obeys is = is.1.0.obeys.junctions_obey 0 (junction_of spur) refl
