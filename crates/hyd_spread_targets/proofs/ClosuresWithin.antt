-- The closures of pipes for a spread.
use Rattle.std.proofs.Common.{◌≡◌, ℕ, ◌<◌, List, length, map, refl, sym, ap, true}
use Rattle.std.proofs.Common.{◌∙◌, subst, arith}
use Rattle.std.specs.Prelude.{Some, slice_get}
use Rattle.std.specs.List.{AllZip}
use Rattle.std.proofs.lemmas.List.{length-map, take_all}
use Rattle.std.proofs.lemmas.Option.{slice_get_within}
use Rattle.hyd_num.specs.Rational.{Rational}
use Rattle.hyd_net.specs.Sound.{IsSound}
use Rattle.hyd_spec.specs.ProgramTypes.{Project, Junction}
use Rattle.hyd_spec.specs.DemandsHeadsAndPumpLifts.{is_us}
use Rattle.hyd_spec_certificates.specs.declared.LevelSpan.{LevelSpan}
use Rattle.hyd_spec_certificates.specs.declared.Side.{Side}
use Rattle.hyd_spec_certificates.specs.declared.Side.TheVariants.{Upper, Lower}
use Rattle.hyd_spec_pressure_targets.specs.declared.ClosureWord.{ClosureWord}
use Rattle.hyd_spec_pressure_targets.specs.TargetHeads.{target_low, target_high}
use Rattle.hyd_spec_pressure_targets.specs.FirstPeriod.{pipes_of}
use Rattle.hyd_spec_spread.specs.Spreads.{Spread}
use Rattle.hyd_spec_spread.specs.IntervalsOfData.{known_junction, known_junctions}
use Rattle.hyd_spec_spread.specs.OutermostGrids.{IsOutermostJunction}
use Rattle.hyd_spec_spread_runs.specs.OutermostPairs.{Pair, grid_on}
use Rattle.hyd_spec_spread_runs.specs.RunsForSpreads.{StartIsDecided}
use Rattle.hyd_spec_spread_targets.specs.FirstPeriodWithin.{IsFirstPairWithShut}
use Rattle.hyd_spec_targets_within.specs.PromisesWithinSpreads.{ClosureWithin, IsClosureWithin, FindsClosuresWithin}
use Rattle.hyd_spec_spread_targets.specs.WordsOverPairs.{IsWordOver}
use Rattle.hyd_period_network.proofs.NetOfSoundProject.{long_zipped}
use Rattle.hyd_theorems_on_spread_targets.proofs.WordsHoldWithin.{word-holds}
use Rattle.hyd_fire.specs.StudyView.{StudyView}
use Rattle.hyd_fire.specs.SidesOfClosures.{word_by, IsLeft}
use Rattle.hyd_fire.specs.declared.answers.Sides.{Sides}
use Rattle.hyd_lemmas.proofs.ListsOptionsAndResults.{as_long}
use Rattle.hyd_targets.specs.Inquiries.{target_of, target_pressure}
use Rattle.hyd_targets.specs.ClosuresPutOut.{words_by}
use Rattle.hyd_targets.proofs.ClosuresOfPipes.{words-left, zipped-long}
use Rattle.hyd_spread_targets.specs.declared.spread_inquiry.SpreadInquiry.{SpreadInquiry}
use Rattle.hyd_spread_targets.specs.InquiriesWithin.{spread_for, target_within}
use Rattle.hyd_spread_targets.specs.ClosuresPutOutWithin.{AreSoFarWithin}

-- the grids of the first period have the junctions of the network
pub pair-long : (project : Project) (spread : Spread) (pipe : ℕ) (pair : Pair)
    → IsFirstPairWithShut project spread pipe pair → (side : Side)
    → length (grid_on side pair).junctions ≡ length project.junctions.list
pair-long project spread pipe pair is side =
    sym (long_zipped (IsOutermostJunction project side) (known_junctions project spread 0)
    (grid_on side pair).junctions (is side).junctions)
    ∙ as_long (known_junction project spread 0) 0 project.junctions.list

-- what a closure left of a pair is a closure with its words
pub closure-is : (project : Project) → IsSound project → (spread : Spread) → StartIsDecided project spread
    → (target : Rational) → 0 < target.den → (rounds pipe : ℕ) (pair : Pair)
    → IsFirstPairWithShut project spread pipe pair → (left : StudyView) (sides : Sides) (targets : List LevelSpan)
    → targets ≡ map (target_of target) project.junctions.list → IsLeft pair rounds targets left sides
    → IsClosureWithin project spread target rounds pipe
    (record { pipe = pipe; pair = pair; words = words_by left sides targets })
closure-is project sound spread decided target some rounds pipe pair is-pair left sides targets is-targets is =
    record {
      pipe_is = refl;
      are_pair = is-pair;
      one_each = as_long (λ j target. word_by left sides j target) 0 targets
          ∙ (ap length is-targets ∙ length-map project.junctions.list (target_of target));
      words = words;
      holds = λ j junction word at there.
          word-holds project sound spread decided pipe pair is-pair j
          (slice_get_within project.junctions.list j junction at) junction.elevation target some rounds word
          (words j junction word at there);
    }
  where
    words : (j : ℕ) (junction : Junction) (word : ClosureWord) → slice_get project.junctions.list j ≡ Some junction
        → slice_get (words_by left sides targets) j ≡ Some word
        → IsWordOver pair rounds j (target_low junction.elevation target) (target_high junction.elevation target) word
    words = words-left project target rounds pair (pair-long project spread pipe pair is-pair Upper)
        (pair-long project spread pipe pair is-pair Lower) left sides targets is-targets is

-- a closure is one for each inquiry of the same spread and pressure
pub still-closure : (project : Project) (a b : SpreadInquiry) (rounds pipe : ℕ) (closure : ClosureWithin)
    → spread_for a ≡ spread_for b → a.pressure ≡ b.pressure
    → IsClosureWithin project (spread_for a) (target_within project a) rounds pipe closure
    → IsClosureWithin project (spread_for b) (target_within project b) rounds pipe closure
still-closure project a b rounds pipe closure spread same is =
    subst (λ (s : Spread). IsClosureWithin project s (target_within project b) rounds pipe closure) spread
    (subst (λ (target : Rational). IsClosureWithin project (spread_for a) target rounds pipe closure)
    (λ i. target_pressure (is_us project) (same i).nano) is)

-- the text of all closures is one of those so far
pub all-so-far : (project : Project) (spread : Spread) (target : Rational) (rounds : ℕ) (text : List ℕ)
    → FindsClosuresWithin project spread target rounds text → AreSoFarWithin project spread target rounds text
all-so-far project spread target rounds text finds =
    let long = zipped-long (IsClosureWithin project spread target rounds) (pipes_of project) finds.closures
    finds.each in
    record {
      closures = finds.closures;
      each = subst (λ (ps : List ℕ). AllZip (IsClosureWithin project spread target rounds) ps finds.closures)
          (sym (take_all (length finds.closures) (pipes_of project) (omega (arith, long)))) finds.each;
      is_whole = true;
      all = λ _. long;
      is_text = finds.is_text;
    }
