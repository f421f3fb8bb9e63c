-- The closures of the pipes among the first links.
use Rattle.std.proofs.Common.{◌≡◌, ℕ, zero, suc, ◌+◌, ◌<◌, List, [], ◌∷◌, ◌++◌, length, take, drop, map, refl, sym, ap}
use Rattle.std.proofs.Common.{◌∙◌, subst, arith, append_assoc, append-nil, Bool, true, false}
use Rattle.std.specs.Prelude.{Option, Some, None, slice_get, slice_index_or, if◌then◌else◌, Result, Ok, Err, OnOk, IfErr}
use Rattle.std.specs.List.{AllZip}
use Rattle.std.proofs.lemmas.Option.{slice_get_within}
use Rattle.hyd_spec.specs.ProgramTypes.{Project, Link, Junction}
use Rattle.hyd_spec.specs.Lists.{joined, map_from, present}
use Rattle.hyd_spec_certificates.specs.declared.LevelSpan.{LevelSpan}
use Rattle.hyd_spec_pressure_targets.specs.declared.ClosureWord.{ClosureWord}
use Rattle.hyd_spec_pressure_targets.specs.FirstPeriod.{is_pipe, pipes_of}
use Rattle.hyd_spec_pressure_targets.specs.LinesOfTargets.{word_line}
use Rattle.hyd_num.specs.Rational.{Rational}
use Rattle.hyd_net.specs.Sound.{IsSound}
use Rattle.hyd_spec_certificates.specs.PeriodNetwork.{Grid}
use Rattle.hyd_spec_pressure_targets.specs.FirstPeriod.{IsFirstGridWithShut}
use Rattle.hyd_spec_pressure_targets.specs.TargetHeads.{target_low, target_high}
use Rattle.hyd_spec_pressure_targets.specs.ClosureWords.{IsWord}
use Rattle.hyd_spec_pressure_targets.specs.PromisesOfTargets.{Closure, IsClosure, FindsClosures}
use Rattle.hyd_spec_spread_runs.specs.OutermostPairs.{Pair}
use Rattle.hyd_spec_spread_targets.specs.WordsOverPairs.{IsWordOver}
use Rattle.hyd_spec_spread_targets.proofs.OneGridOnBothSides.{both, word-alone}
use Rattle.hyd_theorems_on_pressure_targets.proofs.WordsHold.{word-holds}
use Rattle.hyd_fire.proofs.WordsBySides.{left-word}
use Rattle.hyd_fire.specs.SidesOfClosures.{IsLeft}
use Rattle.hyd_spec.specs.DemandsHeadsAndPumpLifts.{is_us}
use Rattle.hyd_targets.specs.declared.inquiry.Inquiry.{Inquiry}
use Rattle.hyd_targets.specs.Inquiries.{target_of, target_for, target_pressure}
use Rattle.hyd_targets.proofs.TargetsOfJunctions.{target-there}
use Rattle.std.proofs.lemmas.List.{length-map, take_all}
use Rattle.hyd_fire.specs.StudyView.{StudyView}
use Rattle.hyd_fire.specs.SidesOfClosures.{word_by}
use Rattle.hyd_fire.specs.declared.answers.Sides.{Sides}
use Rattle.hyd_lemmas.proofs.ListsOptionsAndResults.{numbered_at, item_is, item_there, as_long}
use Rattle.hyd_targets.specs.ClosuresPutOut.{words_by, pipes_among, AreSoFar}

-- ---- lists

pub zipped-more : {X Y : Type 0} (P : X → Y → Type 0) (xs : List X) (ys : List Y) (x : X) (y : Y) → AllZip P xs ys
    → P x y → AllZip P (xs ++ (x ∷ [])) (ys ++ (y ∷ []))
zipped-more P [] [] x y all here = (here, tt)
zipped-more P [] (b ∷ ys) x y all here = absurd all
zipped-more P (a ∷ xs) [] x y all here = absurd all
zipped-more P (a ∷ xs) (b ∷ ys) x y all here = (all.0, zipped-more P xs ys x y all.1 here)

pub zipped-front : {X Y : Type 0} (P : X → Y → Type 0) (xs rest : List X) (ys : List Y) → AllZip P xs ys
    → AllZip P (take (length ys) (xs ++ rest)) ys
zipped-front P [] rest [] all = tt
zipped-front P [] rest (b ∷ ys) all = absurd all
zipped-front P (a ∷ xs) rest [] all = absurd all
zipped-front P (a ∷ xs) rest (b ∷ ys) all = (all.0, zipped-front P xs rest ys all.1)

pub zipped-long : {X Y : Type 0} (P : X → Y → Type 0) (xs : List X) (ys : List Y) → AllZip P xs ys
    → length ys ≡ length xs
zipped-long P [] [] all = refl
zipped-long P [] (b ∷ ys) all = absurd all
zipped-long P (a ∷ xs) [] all = absurd all
zipped-long P (a ∷ xs) (b ∷ ys) all = ap suc (zipped-long P xs ys all.1)

-- ---- pipes

abbrev pipe-at : ℕ → Link → Option ℕ
pipe-at l link = if is_pipe link.kind then Some l else None

present-first : (o : Option ℕ) (rest : List (Option ℕ)) → present (o ∷ rest) ≡ present (o ∷ []) ++ present rest
present-first None rest = refl
present-first (Some n) rest = refl

present-yes : (b : Bool) (n : ℕ) → b ≡ true → present ((if b then Some n else None) ∷ []) ≡ n ∷ []
present-yes true n e = refl
present-yes false n e = absurd (cc)

present-no : (b : Bool) (n : ℕ) → b ≡ false → present ((if b then Some n else None) ∷ []) ≡ []
present-no true n e = absurd (cc)
present-no false n e = refl

-- the pipes among the first links, and one link more
more-from : (from : ℕ) (links : List Link) (i : ℕ) (d : Link) → i < length links
    → present (map_from pipe-at from (take (suc i) links))
    ≡ present (map_from pipe-at from (take i links)) ++ present (pipe-at (from + i) (slice_index_or links i d) ∷ [])
more-from from [] i d lt = absurd (omega (arith, lt))
more-from from (x ∷ links) zero d lt =
    let n : from ≡ from + 0 = omega arith in ap (λ (m : ℕ). present (pipe-at m x ∷ [])) n
more-from from (x ∷ links) (suc i) d lt =
    let n : suc from + i ≡ from + suc i = omega arith in
    present-first (pipe-at from x) (map_from pipe-at (suc from) (take (suc i) links))
    ∙ (ap (λ ys. present (pipe-at from x ∷ []) ++ ys) (more-from (suc from) links i d (omega (arith, lt)))
    ∙ (sym (append_assoc (present (pipe-at from x ∷ [])) (present (map_from pipe-at (suc from) (take i links)))
    (present (pipe-at (suc from + i) (slice_index_or links i d) ∷ [])))
    ∙ (ap (λ ys. ys ++ present (pipe-at (suc from + i) (slice_index_or links i d) ∷ []))
    (sym (present-first (pipe-at from x) (map_from pipe-at (suc from) (take i links))))
    ∙ ap (λ (m : ℕ). present (map_from pipe-at from (x ∷ take i links))
    ++ present (pipe-at m (slice_index_or links i d) ∷ [])) n)))

pub pipe-more : (links : List Link) (i : ℕ) (d : Link) → i < length links
    → is_pipe (slice_index_or links i d).kind ≡ true
    → pipes_among (take (i + 1) links) ≡ pipes_among (take i links) ++ (i ∷ [])
pipe-more links i d lt is =
    let n : 0 + i ≡ i = omega arith in
    let m : i + 1 ≡ suc i = omega arith in
    ap (λ (k : ℕ). pipes_among (take k links)) m
    ∙ (more-from 0 links i d lt ∙ ap (λ ys. pipes_among (take i links) ++ ys)
    (present-yes (is_pipe (slice_index_or links i d).kind) (0 + i) is ∙ ap (λ (k : ℕ). k ∷ []) n))

pub no-pipe-more : (links : List Link) (i : ℕ) (d : Link) → i < length links
    → is_pipe (slice_index_or links i d).kind ≡ false
    → pipes_among (take (i + 1) links) ≡ pipes_among (take i links)
no-pipe-more links i d lt other =
    let m : i + 1 ≡ suc i = omega arith in
    ap (λ (k : ℕ). pipes_among (take k links)) m
    ∙ (more-from 0 links i d lt ∙ (ap (λ ys. pipes_among (take i links) ++ ys)
    (present-no (is_pipe (slice_index_or links i d).kind) (0 + i) other) ∙ append-nil (pipes_among (take i links))))

-- they begin those of all links
split-from : (from : ℕ) (links : List Link) (i : ℕ)
    → present (map_from pipe-at from (take i links)) ++ present (map_from pipe-at (from + i) (drop i links))
    ≡ present (map_from pipe-at from links)
split-from from [] zero = refl
split-from from [] (suc i) = refl
split-from from (x ∷ links) zero =
    let n : from + 0 ≡ from = omega arith in ap (λ (m : ℕ). present (map_from pipe-at m (x ∷ links))) n
split-from from (x ∷ links) (suc i) =
    let n : from + suc i ≡ suc from + i = omega arith in
    ap (λ ys. ys ++ present (map_from pipe-at (from + suc i) (drop i links)))
    (present-first (pipe-at from x) (map_from pipe-at (suc from) (take i links)))
    ∙ (append_assoc (present (pipe-at from x ∷ [])) (present (map_from pipe-at (suc from) (take i links)))
    (present (map_from pipe-at (from + suc i) (drop i links)))
    ∙ (ap (λ ys. present (pipe-at from x ∷ []) ++ ys)
    (ap (λ (m : ℕ). present (map_from pipe-at (suc from) (take i links)) ++ present (map_from pipe-at m (drop i links)))
    n ∙ split-from (suc from) links i)
    ∙ sym (present-first (pipe-at from x) (map_from pipe-at (suc from) links))))

pub pipes-split : (links : List Link) (i : ℕ)
    → pipes_among (take i links) ++ present (map_from pipe-at (0 + i) (drop i links)) ≡ pipes_among links
pipes-split links i = split-from 0 links i

-- the first pipes of all
pub zipped-pipes : {Y : Type 0} (P : ℕ → Y → Type 0) (links : List Link) (i : ℕ) (ys : List Y)
    → AllZip P (pipes_among (take i links)) ys → AllZip P (take (length ys) (pipes_among links)) ys
zipped-pipes {Y} P links i ys all = subst (λ (ps : List ℕ). AllZip P (take (length ys) ps) ys) (pipes-split links i)
    (zipped-front P (pipes_among (take i links)) (present (map_from pipe-at (0 + i) (drop i links))) ys all)

-- ---- words

-- the lines of words, made one by one
fused-from : (project : Project) (left : StudyView) (sides : Sides) (from : ℕ) (targets : List LevelSpan)
    → map_from (λ j target. word_line project j (word_by left sides j target)) from targets
    ≡ map_from (word_line project) from (map_from (λ j target. word_by left sides j target) from targets)
fused-from project left sides from [] = refl
fused-from project left sides from (t ∷ targets) =
    ap (λ ys. word_line project from (word_by left sides from t) ∷ ys)
    (fused-from project left sides (suc from) targets)

pub fused : (project : Project) (left : StudyView) (sides : Sides) (targets : List LevelSpan)
    → joined (map_from (λ j target. word_line project j (word_by left sides j target)) 0 targets)
    ≡ joined (map_from (word_line project) 0 (words_by left sides targets))
fused project left sides targets = ap joined (fused-from project left sides 0 targets)

-- the word at a place
pub word-there : (left : StudyView) (sides : Sides) (targets : List LevelSpan) (j : ℕ) (target : LevelSpan)
    (word : ClosureWord) → slice_get targets j ≡ Some target → slice_get (words_by left sides targets) j ≡ Some word
    → word ≡ word_by left sides j target
word-there left sides targets j target word at is =
    let n : 0 + j ≡ j = omega arith in
    sym (item_is (words_by left sides targets) j word word is)
    ∙ (numbered_at (λ j target. word_by left sides j target) 0 targets j target word at
    ∙ ap (λ (m : ℕ). word_by left sides m target) n)

-- the target at a place
pub target-item : (project : Project) (target : Rational) (targets : List LevelSpan)
    → targets ≡ map (target_of target) project.junctions.list → (j : ℕ) (here : Junction)
    → slice_get project.junctions.list j ≡ Some here → slice_get targets j ≡ Some (target_of target here)
target-item project target targets is j here at =
    let within = slice_get_within project.junctions.list j here at in
    let long = ap length is ∙ length-map project.junctions.list (target_of target) in
    let there = item_there targets j (omega (arith, within, long)) in
    let e = target-there project target targets j here there.0 is at in
    let f = item_is targets j there.0 there.0 there.1 in
    there.1 ∙ ap (λ (t : LevelSpan). Some t) (sym f ∙ e)

-- the words that a closure left are those for its grids
pub words-left : (project : Project) (target : Rational) (rounds : ℕ) (pair : Pair)
    → length pair.upper.junctions ≡ length project.junctions.list
    → length pair.lower.junctions ≡ length project.junctions.list
    → (left : StudyView) (sides : Sides) (targets : List LevelSpan)
    → targets ≡ map (target_of target) project.junctions.list → IsLeft pair rounds targets left sides
    → (j : ℕ) (junction : Junction) (word : ClosureWord) → slice_get project.junctions.list j ≡ Some junction
    → slice_get (words_by left sides targets) j ≡ Some word
    → IsWordOver pair rounds j (target_low junction.elevation target) (target_high junction.elevation target) word
words-left project target rounds pair above below left sides targets is-targets is j junction word at there =
    let within = slice_get_within project.junctions.list j junction at in
    let item = target-item project target targets is-targets j junction at in
    let e = word-there left sides targets j (target_of target junction) word item there in
    subst (λ (w : ClosureWord). IsWordOver pair rounds j (target_low junction.elevation target)
    (target_high junction.elevation target) w) (sym e)
    (left-word pair rounds j (target_of target junction) left (omega (arith, within, above))
    (omega (arith, within, below)) targets sides is item)

-- what a closure left of one grid is a closure with its words
pub closure-is : (project : Project) → IsSound project → (target : Rational) → 0 < target.den → (rounds pipe : ℕ)
    (grid : Grid) → IsFirstGridWithShut project pipe grid → length grid.junctions ≡ length project.junctions.list
    → (left : StudyView) (sides : Sides) (targets : List LevelSpan)
    → targets ≡ map (target_of target) project.junctions.list → IsLeft (both grid) rounds targets left sides
    → IsClosure project target rounds pipe
    (record { pipe = pipe; grid = grid; words = words_by left sides targets })
closure-is project sound target some rounds pipe grid is-grid long left sides targets is-targets is = record {
  pipe_is = refl;
  is_grid = is-grid;
  one_each = as_long (λ j target. word_by left sides j target) 0 targets
      ∙ (ap length is-targets ∙ length-map project.junctions.list (target_of target));
  words = own;
  holds = λ S assignment obeys j junction word at there.
      word-holds project sound pipe grid is-grid rounds j junction.elevation target some word
      (own j junction word at there) S assignment obeys
      (slice_get_within project.junctions.list j junction at);
}
  where
    own : (j : ℕ) (junction : Junction) (word : ClosureWord) → slice_get project.junctions.list j ≡ Some junction
        → slice_get (words_by left sides targets) j ≡ Some word
        → IsWord grid rounds j (target_low junction.elevation target) (target_high junction.elevation target) word
    own j junction word at there =
        (word-alone grid rounds j (target_low junction.elevation target) (target_high junction.elevation target) word).0
        (words-left project target rounds (both grid) long long left sides targets is-targets is j junction word at
        there)

-- a closure is one for each inquiry of the same pressure
pub still-closure : (project : Project) (a b : Inquiry) (rounds pipe : ℕ) (closure : Closure)
    → a.pressure ≡ b.pressure → IsClosure project (target_for project a) rounds pipe closure
    → IsClosure project (target_for project b) rounds pipe closure
still-closure project a b rounds pipe closure same is =
    subst (λ (target : Rational). IsClosure project target rounds pipe closure)
    (λ i. target_pressure (is_us project) (same i).nano) is

-- ---- results

pub on-ok-so : {A E : Type 0} (P : Type 0) (result : Result A E) → P → OnOk result P
on-ok-so P (Ok value) p = p
on-ok-so P (Err fault) p = tt

pub if-err-so : {A E : Type 0} (P : Type 0) (result : Result A E) → P → IfErr result (λ fault. P)
if-err-so P (Ok value) p = tt
if-err-so P (Err fault) p = p

-- ---- texts

-- the text of all closures is one of those so far
pub all-so-far : (project : Project) (target : Rational) (rounds : ℕ) (text : List ℕ)
    → FindsClosures project target rounds text → AreSoFar project target rounds text
all-so-far project target rounds text finds =
    let long = zipped-long (IsClosure project target rounds) (pipes_of project) finds.closures finds.each in
    record {
      closures = finds.closures;
      each = subst (λ (ps : List ℕ). AllZip (IsClosure project target rounds) ps finds.closures)
          (sym (take_all (length finds.closures) (pipes_of project) (omega (arith, long)))) finds.each;
      is_whole = true;
      all = λ _. long;
      is_text = finds.is_text;
    }
