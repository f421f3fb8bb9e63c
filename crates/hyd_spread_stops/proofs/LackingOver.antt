-- A vector that is lacking on one of the outermost networks stops a run for a spread.
use Rattle.std.proofs.Common.{◌≡◌, ℕ, ◌<◌, Bool, length, refl, sym, subst, ◌∙◌}
use Rattle.hyd_spec.specs.ProgramTypes.{Project, Junction}
use Rattle.hyd_spec.specs.NodeNumbers.{junction_count, tank_count}
use Rattle.hyd_spec_certificates.specs.declared.Problem.{Problem}
use Rattle.hyd_spec_certificates.specs.declared.Side.{Side}
use Rattle.hyd_spec_certificates.specs.PeriodNetwork.{Grid}
use Rattle.hyd_spec_certificates.specs.RecordAndStanding.{Standing, vector_of}
use Rattle.hyd_spec_open_ends.specs.OpenStandings.{OpenStanding}
use Rattle.hyd_spec_spread.specs.Spreads.{Spread}
use Rattle.hyd_spec_spread.specs.IntervalsOfData.{KnownJunction, known_junction, known_junctions}
use Rattle.hyd_spec_spread.specs.OutermostGrids.{IsOutermostJunction}
use Rattle.hyd_spec_spread_runs.specs.OutermostPairs.{Pair, grid_on}
use Rattle.hyd_spec_spread_runs.specs.RunsForSpreads.{AreDemandsInRange, ArePairAt}
use Rattle.hyd_spec_spread_stops.specs.StopsOfSpreads.{HasEarlierOver, HasNoCertificateOver, SpendsRoundsOver, StopsOver}
use Rattle.hyd_lemmas.proofs.ListsOptionsAndResults.{as_long}
use Rattle.hyd_theorems_on_spread.proofs.ZippedLists.{zip-long}
use Rattle.hyd_period_vectors.specs.SoughtVectors.{Lacks, HasNone, AreSpent, IsStuck}
use Rattle.hyd_period_vectors.specs.declared.missing_vector.Lack.{Lack}
use Rattle.hyd_period_vectors.specs.declared.missing_vector.Lack.TheVariants.{NoCertificate as LacksCertificate}
use Rattle.hyd_period_vectors.specs.declared.missing_vector.Lack.TheVariants.{RoundsSpent as SpentRounds}
use Rattle.hyd_period_vectors.proofs.SoughtVectors.{sought-certificate}
use Rattle.hyd_sim.specs.NarrowRecordsAndStops.{LacksOne, stop_of}
use Rattle.hyd_sim.proofs.MissingVectors.{lacks-one}
use Rattle.hyd_sim.proofs.StopsAndTightRecords.{problem-of, problem-in}
use Rattle.hyd_spread_vectors.specs.VectorsOfBothNetworks.{Told, Held, LacksFirstOver, told_on, held_on}
use Rattle.hyd_spread_vectors.specs.declared.lack_on_network.SpreadLack.{SpreadLack}
use Rattle.hyd_spread_stops.specs.StuckOverSpreads.{NamesStuckOver}

module _ (project : Project) (spread : Spread) (standing : OpenStanding) (slack rounds : ℕ) (tight : Bool) (told : Told)
    (pair : Pair) (held : Held) (lack : SpreadLack) (in_range : AreDemandsInRange project spread standing.known.time)
    (are : ArePairAt project spread standing.known pair)
    (first : LacksFirstOver tight told pair (tank_count project) rounds held lack) where
  abbrev face : Side
  face = lack.network

  abbrev grid : Grid
  grid = grid_on lack.network pair

  one : LacksOne (grid_on lack.network pair) (tank_count project) rounds lack.lack
  one = lacks-one tight (told_on face told) grid (tank_count project) rounds (held_on face held) lack.lack first.lacks

  count : length grid.junctions ≡ junction_count project
  count =
      sym (zip-long (IsOutermostJunction project face) (known_junctions project spread standing.known.time)
      grid.junctions (are face).junctions)
      ∙ as_long {X = Junction} {Y = KnownJunction} (known_junction project spread standing.known.time) 0
      project.junctions.list

  module _ (problem : Problem) (side : Side) (mine : LacksOne grid (tank_count project) rounds lack.lack)
      (p : problem ≡ mine.problem) (s : side ≡ mine.side) where
    earlier-over : HasEarlierOver project spread standing.known pair face mine.problem mine.side
    earlier-over = record {
      in_range = in_range;
      is_problem = problem-in project mine.problem mine.is_problem;
      are_pair = are;
      earlier = λ other on is less. mine.earlier other on (problem-of project other is) less;
      upper_first = λ e other on is. (
        vector_of held.above other on,
        sought-certificate tight told.above pair.upper (tank_count project) other on (vector_of held.above other on)
            ((first.earlier e).found other on (problem-of project other is)),
      );
    }

    moved : (P : Problem → Side → Type 0) → P mine.problem mine.side → P problem side
    moved P holds = subst (λ (q : Problem). P q side) (sym p) (subst (λ (t : Side). P mine.problem t) (sym s) holds)

    none : HasNone grid mine.problem mine.side → HasNoCertificateOver project spread standing.known problem side
    none lacking = moved (HasNoCertificateOver project spread standing.known) (record {
      pair = pair;
      network = face;
      earlier = earlier-over;
      none = lacking;
    })

    spent : AreSpent grid mine.problem mine.side rounds
        → SpendsRoundsOver project spread standing.known problem side rounds
    spent over = moved (λ q t. SpendsRoundsOver project spread standing.known q t rounds) (record {
      pair = pair;
      network = face;
      earlier = earlier-over;
      reached = over.reached;
      by_rounds = over.by_rounds;
      not_one = over.not_one;
    })

  by-lack : (mine : LacksOne grid (tank_count project) rounds lack.lack) (l : Lack)
      → Lacks grid mine.problem mine.side rounds l
      → StopsOver project spread standing slack rounds (stop_of standing.known.number rounds l)
  by-lack mine (LacksCertificate problem side junction) (p, (s, (less, (lacking, stuck)))) = record {
    period_is = refl;
    holds = (subst (λ (n : ℕ). junction < n) count less, none problem side mine p s lacking);
  }
  by-lack mine (SpentRounds problem side) (p, (s, over)) = record {
    period_is = refl;
    holds = (refl, spent problem side mine p s over);
  }

  pub lack-stops-over : StopsOver project spread standing slack rounds
      (stop_of standing.known.number rounds lack.lack)
  lack-stops-over = by-lack one lack.lack one.lacks

-- where no vector is a certificate, it names a junction that is stuck
pub lack-stuck-over : (project : Project) (spread : Spread) (standing : Standing) (rounds : ℕ) (tight : Bool)
    (told : Told) (pair : Pair) (held : Held) (lack : SpreadLack) → ArePairAt project spread standing pair
    → LacksFirstOver tight told pair (tank_count project) rounds held lack → (number : ℕ)
    → NamesStuckOver project spread standing rounds (stop_of number rounds lack.lack)
lack-stuck-over project spread standing rounds tight told pair held lack are first number =
    by one.problem one.side lack.lack one.lacks
  where
    one : LacksOne (grid_on lack.network pair) (tank_count project) rounds lack.lack
    one = lacks-one tight (told_on lack.network told) (grid_on lack.network pair) (tank_count project) rounds
        (held_on lack.network held) lack.lack first.lacks

    by : (problem : Problem) (side : Side) (l : Lack) → Lacks (grid_on lack.network pair) problem side rounds l
        → NamesStuckOver project spread standing rounds (stop_of number rounds l)
    by problem side (LacksCertificate other face junction) (p, (s, (less, (lacking, stuck)))) = record {
      stuck = λ period q t j e.
          let a : problem ≡ q = cc in
          let b : side ≡ t = cc in
          let d : junction ≡ j = cc in
          record {
            pair = pair;
            are_pair = are;
            network = lack.network;
            stuck = subst (λ (k : ℕ). IsStuck (grid_on lack.network pair) q t rounds k) d
                (subst (λ (f : Side). IsStuck (grid_on lack.network pair) q f rounds junction) b
                (subst (λ (r : Problem). IsStuck (grid_on lack.network pair) r side rounds junction) a stuck));
          };
    }
    by problem side (SpentRounds other face) (p, (s, over)) = record { stuck = λ period q t j e. absurd (cc) }
