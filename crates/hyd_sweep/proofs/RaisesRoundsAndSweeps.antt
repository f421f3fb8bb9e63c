-- Raises one after another, rounds of them, and sweeps that are spent or fail.
use Rattle.std.proofs.Common.{◌≡◌, ℕ, zero, suc, ◌<◌, ℤ, pos, ◌≤ℤ◌, ◌<ℤ◌, refl, sym, ap, subst, ◌∙◌, arith, Bool, true}
use Rattle.std.proofs.Common.{false, List, [], ◌∷◌, ◌++◌, length, inl, inr, ◌⊎◌, take}
use Rattle.std.specs.Prelude.{Some, None, Option, slice_get, slice_set, slice_index_or, All, Contains}
use Rattle.std.proofs.lemmas.Int.{ints}
use Rattle.std.proofs.lemmas.Bool.{cases_eq, false≢true}
use Rattle.std.proofs.lemmas.List.{length-set, set-get_or}
use Rattle.std.proofs.lemmas.Option.{slice_get_within}
use Rattle.hyd_spec_certificates.specs.declared.Side.{Side}
use Rattle.hyd_spec_certificates.specs.declared.Problem.{Problem}
use Rattle.hyd_spec_certificates.specs.declared.HeldJunction.{HeldJunction}
use Rattle.hyd_spec.specs.Assignment.{head_at}
use Rattle.hyd_spec.specs.Lists.{Each}
use Rattle.hyd_spec_certificates.specs.PeriodNetwork.{Grid, GridJunction}
use Rattle.hyd_spec_certificates.specs.Certificate.{IsInBox, Suits, IsCertificateHolding, IsTightHolding}
use Rattle.hyd_theorems_on_definitions.specs.SoundLawsAndGrids.{IsSteady}
use Rattle.hyd_spec_certificates.specs.StartsRaisesAndLeaps.{IsStart, Climbs, done, raised, HasRounds, HasParts}
use Rattle.hyd_spec_certificates.specs.StartsRaisesAndLeaps.{LiesBeyond}
use Rattle.hyd_theorems_on_definitions.specs.Sides.{along}
use Rattle.hyd_theorems_on_raises.proofs.WhereOneLiesBeyondByMost.{beyond-is}
use Rattle.hyd_theorems_on_raises.proofs.RaisesAndTightVector.{set-in-box, set-here, along-one, no-value, start-tight}
use Rattle.hyd_theorems_on_raises.proofs.RaisesAndTightVector.{inside-of}
use Rattle.hyd_theorems_on_raises.proofs.RaisesInAnyOrder.{vector-self, climb-on, climb-start, climb-so-far}
use Rattle.hyd_theorems_on_raises.proofs.RaisesInAnyOrder.{so-far-begins}
use Rattle.hyd_theorems_on_raises.proofs.RaisesInAnyOrder.{has-more}
use Rattle.hyd_theorems_on_raises.proofs.RaisesInAnyOrder.{rounds-spent, every-order}
use Rattle.hyd_sweep.specs.declared.answers_of_sweeps.Raised.{Raised}
use Rattle.hyd_sweep.specs.declared.answers_of_sweeps.Raised.TheVariants.{Passed, Moved, NoValue}
use Rattle.hyd_sweep.specs.declared.answers_of_sweeps.Swept.TheVariants.{NoCertificate, RoundsSpent}
use Rattle.hyd_sweep.specs.Sweeps.{RaisesTo, RaiseGives, AreRaises, no_raise, one_raise, FollowGives, FollowLeads}
use Rattle.hyd_sweep.specs.Sweeps.{NamesEach, RoundGives, SweepGives, numbers, IsFollowing}
use Rattle.hyd_lemmas.proofs.ListsOptionsAndResults.{item_there}

-- what is named by the numbers below n
pub numbered : (n i : ℕ) → i < n → Contains (numbers n) i
numbered zero i lt = absurd (omega (arith, lt))
numbered (suc n) i lt = elim (cases_eq i n) [
  | inl e ↦ subst (λ (m : ℕ). Contains (numbers n ++ (n ∷ [])) m) (sym e) (last (numbers n) n)
  | inr ne ↦ before (numbers n) (n ∷ []) i (numbered n i (omega (arith, lt, ne)))
]
  where
    last : (xs : List ℕ) (m : ℕ) → Contains (xs ++ (m ∷ [])) m
    last [] m = (0, omega arith, refl)
    last (x ∷ xs) m = let c = last xs m in (suc c.0, (let lt = c.1 in omega (arith, lt)), c.2)

    before : (xs ys : List ℕ) (m : ℕ) → Contains xs m → Contains (xs ++ ys) m
    before [] ys m (k, lt, e) = absurd (omega (arith, lt))
    before (x ∷ xs) ys m (zero, lt, e) = (0, omega arith, e)
    before (x ∷ xs) ys m (suc k, lt, e) = let c = before xs ys m (k, omega (arith, lt), e) in
        (suc c.0, (let less = c.1 in omega (arith, less)), c.2)

pub take-more : (xs : List ℕ) (k : ℕ) → k < length xs → take (suc k) xs ≡ take k xs ++ (slice_index_or xs k 0 ∷ [])
take-more [] k lt = absurd (omega (arith, lt))
take-more (x ∷ xs) zero lt = refl
take-more (x ∷ xs) (suc k) lt = ap (λ (ys : List ℕ). x ∷ ys) (take-more xs k (omega (arith, lt)))

pub take-whole : (xs : List ℕ) → take (length xs) xs ≡ xs
take-whole [] = refl
take-whole (x ∷ xs) = ap (λ (ys : List ℕ). x ∷ ys) (take-whole xs)

module _ (held : Option HeldJunction) (grid : Grid) (steady : IsSteady grid) (problem : Problem) (side : Side) where
  pub raises-climb : (order : List ℕ) (u w : List ℤ) → AreRaises held grid problem side order u w
      → Climbs held grid problem side order u w
  raises-climb _ u _ no_raise = done
  raises-climb _ u w (one_raise {i = i} {order = order} {junction = junction} {x = x} at raise on) = raised at raise
      (raises-climb order (slice_set u i x) w on)

  pub raises-append : (first rest : List ℕ) (u v w : List ℤ) → AreRaises held grid problem side first u v
      → AreRaises held grid problem side rest v w → AreRaises held grid problem side (first ++ rest) u w
  raises-append _ rest u _ w no_raise more = more
  raises-append _ rest u v w (one_raise {i = i} {order = order} {junction = junction} {x = x} at raise on) more =
      one_raise at raise (raises-append order rest (slice_set u i x) v w on more)

  pub following-begins : (u : List ℤ) → length u ≡ length grid.junctions → All IsInBox u
      → IsFollowing held grid problem side [] u u false
  following-begins u long in_box = record {
    one_each = long;
    in_box = in_box;
    raises = no_raise;
    still = λ e. refl;
    ahead = λ e. absurd (false≢true e);
  }

  one-raise-more : (order : List ℕ) (old u : List ℤ) (i : ℕ) (x : ℤ) → i < length grid.junctions
      → AreRaises held grid problem side order old u → RaisesTo held grid problem side u i x
      → AreRaises held grid problem side (order ++ (i ∷ [])) old (slice_set u i x)
  one-raise-more order old u i x inside so_far raises =
      let at = item_there grid.junctions i inside in
      raises-append order (i ∷ []) old u (slice_set u i x) so_far (one_raise at.1 (raises at.0 at.1) no_raise)

  pub following-passed : (order : List ℕ) (old u new : List ℤ) (moved : Bool) (i : ℕ) → i < length grid.junctions
      → IsFollowing held grid problem side order old u moved
      → RaiseGives held grid problem side i u new Passed → IsFollowing held grid problem side (order ++ (i ∷ [])) old
      new moved
  following-passed order old u new moved i inside so_far gives =
      let e : slice_set u i (head_at u i) ≡ u = set-get_or u i (pos 0) in
      let on = one-raise-more order old u i (head_at u i) inside so_far.raises gives.1 in
      subst (λ (v : List ℤ). IsFollowing held grid problem side (order ++ (i ∷ [])) old v moved) (sym gives.0)
      (record {
        one_each = so_far.one_each;
        in_box = so_far.in_box;
        raises = subst (λ (v : List ℤ). AreRaises held grid
            problem side (order ++ (i ∷ [])) old v) e on;
        still = so_far.still;
        ahead = so_far.ahead;
      })

  pub following-moved : (order : List ℕ) (old u new : List ℤ) (moved : Bool) (i : ℕ) → i < length grid.junctions
      → length old ≡ length grid.junctions → IsFollowing held grid problem side order old u moved
      → RaiseGives held grid problem side i u new Moved → IsFollowing held grid problem side (order ++ (i ∷ [])) old
      new true
  following-moved order old u new moved i inside long so_far gives =
      let x = gives.0 in
      let at = item_there grid.junctions i inside in
      let raise = gives.1.1.1 at.0 at.1 in
      let in-u : i < length u = (let l = so_far.one_each in omega (arith, l, inside)) in
      let here = ap (along side) (set-here u i x in-u) in
      let before = beyond-is side (head_at old i) (head_at u i) ((climb-on held grid steady problem side order old u
      (raises-climb order old u so_far.raises) long).1 i (omega (arith, inside, long))) in
      let far = beyond-is side (head_at u i) x raise.is_candidate.beyond in
      let differs : along side (head_at u i) ≡ along side x → ⊥ = λ e. gives.1.1.0
      (sym (along-one side (head_at u i) x e)) in
      subst (λ (v : List ℤ). IsFollowing held grid problem side (order ++ (i ∷ [])) old v true) (sym gives.1.0)
      (record {
        one_each = length-set u i x ∙ so_far.one_each;
        in_box = set-in-box u i x raise.is_candidate.in_box so_far.in_box;
        raises = one-raise-more order old u i x inside so_far.raises gives.1.1.1;
        still = λ e. absurd (false≢true (sym e));
        ahead = λ e. (
          i,
          (
            omega (arith, inside, long),
            strict (along side (head_at u i)) (along side x)
                (along side (head_at old i)) (along side (head_at (slice_set u i x) i)) before far differs here,
          ),
        );
      })
    where
      strict : (a b c d : ℤ) → c ≤ℤ a → a ≤ℤ b → (a ≡ b → ⊥) → d ≡ b → c <ℤ d
      strict a b c d p q ne e = omega (arith, ints, p, q, ne, e)

  -- at the end
  pub followed : (order : List ℕ) (old u : List ℤ) (moved : Bool) → IsFollowing held grid problem side order old u moved
      → (moved ≡ true → FollowGives held grid problem side order old u Moved) × (moved ≡ false
      → FollowGives held grid problem side order old u Passed)
  followed order old u moved so_far = (
    (λ e. (
      (λ same. (let a = so_far.ahead e in let lt = a.1.1 in let f = ap (λ (v : List ℤ). along side (head_at v
          a.0)) same in absurd (omega (arith, ints, lt, f)))),
      so_far.raises,
    )),
    (λ e. (so_far.still e, so_far.raises)),
  )

  -- ---- sweeps

  pub round-more : (n : ℕ) (first u w : List ℤ) → length u ≡ length grid.junctions
      → HasRounds held grid problem side n first u → RoundGives held grid problem side u w None
      → HasRounds held grid problem side (suc n) first w
  round-more n first u w long rounds raises =
      has-more held grid steady problem side n (λ m. ⊥ ⊎ Contains (numbers (length grid.junctions)) m) first u rounds w
      (climb-so-far held grid steady problem side (λ m. ⊥) rounds.reached (numbers (length grid.junctions)) u w
      (raises-climb (numbers (length grid.junctions)) u w raises) (so-far-begins held grid steady problem side
      rounds.reached u rounds.one_each long rounds.ahead))
      (λ i lt. inr (numbered (length grid.junctions) i lt))

  pub round-start : (u w : List ℤ) → RoundGives held grid problem side u w None → IsStart held grid problem side u
      → IsStart held grid problem side w
  round-start u w raises start = climb-start held grid steady problem side (numbers (length grid.junctions)) u w
      (raises-climb (numbers (length grid.junctions)) u w raises) start

  pub sweep-none : (n : ℕ) (old u w : List ℤ) (j : ℕ) → IsStart held grid problem side u
      → RoundGives held grid problem side u w (Some j) → SweepGives held grid problem side n old w (NoCertificate j)
  sweep-none n old u w j start gives =
      let at = item_there grid.junctions j gives.0 in
      let next = climb-start held grid steady problem side (numbers j) u w (raises-climb (numbers j) u w gives.1.0)
      start in (
        gives.0,
        (
          gives.1.1,
          (
            next.in_box,
            no-value held grid steady problem side w j at.0 next at.1 (gives.1.1 at.0
                at.1),
          ),
        ),
      )

  pub sweep-spent : (n : ℕ) (old u : List ℤ) → IsStart held grid problem side u
      → HasRounds held grid problem side n old u → (Each grid.junctions (Suits held grid problem side u) → ⊥)
      → SweepGives held grid problem side n old u RoundsSpent
  sweep-spent n old u start rounds not = (
    rounds.reached,
    (
      rounds.by_rounds,
      (
        rounds-spent held grid steady problem side n old u rounds start (λ is. not
            is.passes),
        (rounds.ahead, (start, λ is. not is.passes)),
      ),
    ),
  )

  pub following-either : (order : List ℕ) (old u new : List ℤ) (moved : Bool) (i : ℕ) (result : Raised)
      → i < length grid.junctions → length old ≡ length grid.junctions
      → IsFollowing held grid problem side order old u moved → RaiseGives held grid problem side i u new result
      → (result ≡ NoValue → ⊥)
      → (m : Bool) × IsFollowing held grid problem side (order ++ (i ∷ [])) old new m
  following-either order old u new moved i Passed inside long so_far gives not =
      (moved, following-passed order old u new moved i inside so_far gives)
  following-either order old u new moved i Moved inside long so_far gives not =
      (true, following-moved order old u new moved i inside long so_far gives)
  following-either order old u new moved i NoValue inside long so_far gives not = absurd (not refl)

  -- ---- where raises in an order lead

  gives-start : (order : List ℕ) (old new : List ℤ) (result : Raised)
      → FollowGives held grid problem side order old new result
      → IsStart held grid problem side old → IsStart held grid problem side new
  gives-start order old new Passed gives start = climb-start held grid steady problem side order old new (raises-climb
      order old new gives.1) start
  gives-start order old new Moved gives start = climb-start held grid steady problem side order old new (raises-climb
      order old new gives.1) start
  gives-start order old new NoValue gives start = climb-start held grid steady problem side (take gives.0 order) old
      new (raises-climb (take gives.0 order) old new gives.1.1.0) start

  gives-rounds : (order : List ℕ) (old new : List ℤ) (result : Raised) → length old ≡ length grid.junctions
      → FollowGives held grid problem side order old new result
      → (result ≡ NoValue → ⊥) → (n : ℕ) → HasParts (length grid.junctions) n order
      → HasRounds held grid problem side n old new
  gives-rounds order old new Passed long gives not n parts = every-order held grid steady problem side n order old new
      long parts (raises-climb order old new gives.1)
  gives-rounds order old new Moved long gives not n parts = every-order held grid steady problem side n order old new
      long parts (raises-climb order old new gives.1)
  gives-rounds order old new NoValue long gives not n parts = absurd (not refl)

  gives-none : (order : List ℕ) (old new : List ℤ) → ((k : ℕ) → k < length order
      → slice_index_or order k 0 < length grid.junctions)
      → FollowGives held grid problem side order old new NoValue → IsStart held grid problem side old → (w : List ℤ)
      → IsCertificateHolding held grid problem side w → ⊥
  gives-none order old new inside gives start w =
      let i = slice_index_or order gives.0 0 in
      let at = item_there grid.junctions i (inside gives.0 gives.1.0) in
      no-value held grid steady problem side new i at.0 (gives-start order old new NoValue gives start) at.1
      (gives.1.1.1 at.0 at.1) w

  -- raises that lead no farther out than where they began moved no head
  same-suits : (order : List ℕ) (u w : List ℤ) → length u ≡ length grid.junctions
      → AreRaises held grid problem side order u w → LiesBeyond side w u
      → (k : ℕ) (m : ℕ) (junction : GridJunction) → k < length order → slice_index_or order k m ≡ m
      → slice_get grid.junctions m ≡ Some junction
      → Suits held grid problem side u m junction
  same-suits _ u _ long no_raise back k m junction lt e at = absurd (omega (arith, lt))
  same-suits _ u w long (one_raise {i = i} {order = order} {junction = here} {x = x} there raise on) back k m junction
      lt e at =
      let v = slice_set u i x in
      let inside : i < length u = inside-of held grid steady problem side u i here long there in
      let l : length v ≡ length u = length-set u i x in
      let rest = climb-on held grid steady problem side order v w (raises-climb order v w on) (l ∙ long) in
      let first = beyond-is side (head_at u i) x raise.is_candidate.beyond in
      let set = ap (along side) (set-here u i x inside) in
      let then = beyond-is side (head_at v i) (head_at w i) (rest.1 i (omega (arith, inside, l))) in
      let again = beyond-is side (head_at w i) (head_at u i) (back i (let r = rest.0 in omega (
        arith,
        inside,
        r,
        long,
      ))) in
      let same : x ≡ head_at u i = along-one side x (head_at u i) (omega (arith, ints, first, set, then, again)) in
      let kept : v ≡ u = ap (slice_set u i) same ∙ set-get_or u i (pos 0) in
      let suits : Suits held grid problem side u i here = subst (λ (y : List ℤ). Suits held grid problem side y i here)
      kept raise.is_candidate.passes in
      by k lt e suits (λ a b other less is one. subst (λ (y : List ℤ). Suits held grid problem side y b other) kept
      (same-suits order v w (l ∙ long) on (subst (λ (y : List ℤ). LiesBeyond side w y) (sym kept) back) a b other
      less is one))
    where
      by : (n : ℕ) → n < suc (length order) → slice_index_or (i ∷ order) n m ≡ m → Suits held grid problem side u i here
          → ((a : ℕ) (b : ℕ) (other : GridJunction) → a < length order → slice_index_or order a b ≡ b
          → slice_get grid.junctions b ≡ Some other → Suits held grid problem side u b other)
          → Suits held grid problem side u m junction
      by zero less is suits later =
          let e : i ≡ m = is in
          let one : here ≡ junction = cc in
          subst (λ (j : GridJunction). Suits held grid problem side u m j) one (subst (λ (a : ℕ). Suits held grid
          problem side u a here) e suits)
      by (suc n) less is suits later = later n m junction (omega (arith, less)) is at

  passed-tight : (order : List ℕ) (old new : List ℤ) → FollowGives held grid problem side order old new Passed
      → IsStart held grid problem side old → NamesEach grid order
      → IsTightHolding held grid problem side new
  passed-tight order old new gives start names =
      subst (λ (v : List ℤ). IsTightHolding held grid problem side v) (sym gives.0) (start-tight held grid steady
      problem side old start (λ m junction at.
      (let named = names m (inside-junction m junction at) in
      same-suits order old new start.one_each gives.1 (subst (λ (v : List ℤ). LiesBeyond side v old) (sym gives.0)
      (vector-self side old)) named.0 m junction named.1 named.2 at)))
    where
      inside-junction : (m : ℕ) (junction : GridJunction) → slice_get grid.junctions m ≡ Some junction
          → m < length grid.junctions
      inside-junction m junction at = slice_get_within grid.junctions m junction at

  pub follow-leads : (order : List ℕ) (old new : List ℤ) (result : Raised) → length old ≡ length grid.junctions
      → ((k : ℕ) → k < length order → slice_index_or order k 0 < length grid.junctions)
      → FollowGives held grid problem side order old new result
      → FollowLeads held grid problem side order old new result
  follow-leads order old new result long inside gives = record {
    start = gives-start order old new result gives;
    tight = λ start suits. start-tight held grid steady problem side new (gives-start order old new result gives start)
        suits;
    passed = λ start is names. passed-tight order old new (subst (λ (r : Raised). FollowGives held grid problem side
        order old new r) is gives) start names;
    rounds = λ n parts not. gives-rounds order old new result long gives not n parts;
    none = λ start is w. gives-none order old new inside (subst (λ (r : Raised). FollowGives held grid problem side
        order old new r) is gives) start w;
  }
