-- Raises in any order, with leaps between them, against rounds.
use Rattle.std.proofs.Common.{◌≡◌, ℕ, zero, suc, ◌+◌, ◌<◌, ℤ, pos, ◌<ℤ◌, refl, sym, ap, subst, ◌∙◌, arith, List, []}
use Rattle.std.proofs.Common.{◌∷◌, ◌++◌, length, inl, inr, ◌⊎◌}
use Rattle.std.specs.Prelude.{Some, Option, slice_get, slice_set, Contains}
use Rattle.std.proofs.lemmas.Int.{ints}
use Rattle.std.proofs.lemmas.List.{length-set, get_or_default}
use Rattle.hyd_spec_certificates.specs.declared.Side.{Side}
use Rattle.hyd_spec_certificates.specs.declared.Problem.{Problem}
use Rattle.hyd_spec.specs.Assignment.{head_at}
use Rattle.hyd_spec_certificates.specs.PeriodNetwork.{Grid, GridJunction}
use Rattle.hyd_spec_certificates.specs.declared.HeldJunction.{HeldJunction}
use Rattle.hyd_spec_certificates.specs.Certificate.{IsInBox, IsBeyond, IsCertificateHolding, IsRaisedHolding}
use Rattle.hyd_spec_certificates.specs.Certificate.{IsRoundHolding, AreRoundsHolding, none, more}
use Rattle.hyd_theorems_on_definitions.proofs.HeadsOfAllNodes.{greatest_below}
use Rattle.hyd_theorems_on_definitions.specs.SoundLawsAndGrids.{IsSteady}
use Rattle.hyd_spec_certificates.specs.StartsRaisesAndLeaps.{LiesBeyond, IsStart, IsLeap, Climbs, done, raised, leapt}
use Rattle.hyd_spec_certificates.specs.StartsRaisesAndLeaps.{HasParts}
use Rattle.hyd_spec_certificates.specs.StartsRaisesAndLeaps.{no_more, part, HasRounds}
use Rattle.hyd_theorems_on_definitions.specs.Sides.{along}
use Rattle.hyd_theorems_on_raises.proofs.WhereOneLiesBeyondByMost.{beyond-is, lead, fails-leading, suits-nearer}
use Rattle.hyd_theorems_on_raises.proofs.FirstItemsAndChoices.{choose}
use Rattle.hyd_theorems_on_raises.proofs.RaisesAndTightVector.{beyond-trans, beyond-self, along-one, by-beyond}
use Rattle.hyd_theorems_on_raises.proofs.RaisesAndTightVector.{set-here, set-on}
use Rattle.hyd_theorems_on_raises.proofs.RaisesAndTightVector.{raise-or-none, one-raise, candidate-of, candidate-nearer}
use Rattle.hyd_theorems_on_raises.proofs.RaisesAndTightVector.{inside-of}
use Rattle.hyd_theorems_on_raises.proofs.RaisesAndTightVector.{start-raised}
use Rattle.hyd_lemmas.proofs.ListsOptionsAndResults.{item_there}

-- ---- vectors

pub vector-self : (side : Side) (u : List ℤ) → LiesBeyond side u u
vector-self side u m lt = beyond-self side (head_at u m)

pub vector-trans : (side : Side) (u v w : List ℤ) → length u ≡ length v → LiesBeyond side u v → LiesBeyond side v w
    → LiesBeyond side u w
vector-trans side u v w same a b m lt = beyond-trans side (head_at u m) (head_at v m) (head_at w m) (a m lt)
    (b m (omega (arith, lt, same)))

pub one-vector : (side : Side) (u v : List ℤ) → length u ≡ length v → LiesBeyond side u v → LiesBeyond side v u → u ≡ v
one-vector side [] [] same a b = refl
one-vector side [] (y ∷ v) same a b = absurd (omega (arith, same))
one-vector side (x ∷ u) [] same a b = absurd (omega (arith, same))
one-vector side (x ∷ u) (y ∷ v) same a b =
    let p = beyond-is side x y (a 0 (omega arith)) in
    let q = beyond-is side y x (b 0 (omega arith)) in
    let first : x ≡ y = along-one side x y (omega (arith, ints, p, q)) in
    let rest : u ≡ v = one-vector side u v (omega (arith, same)) (λ m lt. a (suc m) (omega (arith, lt)))
    (λ m lt. b (suc m) (omega (arith, lt))) in
    λ i. first i ∷ rest i

contains-cons : (i : ℕ) (order : List ℕ) (m : ℕ) → Contains (i ∷ order) m → (m ≡ i) ⊎ Contains order m
contains-cons i order m (zero, lt, e) = inl (sym e)
contains-cons i order m (suc k, lt, e) = inr (k, omega (arith, lt), e)

module _ (held : Option HeldJunction) (grid : Grid) (steady : IsSteady grid) (problem : Problem) (side : Side) where
  -- ---- leaps

  pub start-leapt : (u v : List ℤ) → IsStart held grid problem side u → IsLeap held grid problem side u v
      → IsStart held grid problem side v
  start-leapt u v start leap = record {
    one_each = leap.one_each ∙ start.one_each;
    in_box = leap.in_box;
    nearer = λ w certificate m lt. by-beyond side (head_at v m) (head_at w m) (λ beyond. beyond)
        (λ ahead. absurd (none w certificate m lt ahead));
  }
    where
      none : (w : List ℤ) → IsCertificateHolding held grid problem side w → (m : ℕ) → m < length v → along side
          (head_at w m) <ℤ along side (head_at v m) → ⊥
      none w certificate m lt ahead =
          let same : length v ≡ length w = leap.one_each ∙ (start.one_each ∙ sym certificate.one_each) in
          let (i, best) = greatest_below (lead side v w) (length v) (omega (arith, lt)) in
          let most = best.each m lt in
          let inside = best.below in
          let long = leap.one_each in let other = start.one_each in
          let at = item_there grid.junctions i (omega (arith, inside, long, other)) in
          let near = beyond-is side (head_at u i) (head_at w i)
          (start.nearer w certificate i (omega (arith, inside, long))) in
          elim (leap.fails i at.0 at.1) [
            | inl e ↦ (let f = ap (along side) e in absurd (omega (arith, ints, f, near, most, ahead)))
            | inr fails ↦ fails-leading grid steady problem held side v w i at.0 same inside
                (omega (arith, ints, most, ahead)) best.each at.1 fails (certificate.passes i at.0 at.1)
          ]

  -- ---- within a round

  -- A vector u on the way from v, which rounds led to: u lies beyond v, and the raise from v of each junction that was
  -- named since exists and ends no farther out than u.
  pub record IsRoundSoFar (named : ℕ → Type 0) (v u : List ℤ) : Type 0 where
    pub one_each : length v ≡ length grid.junctions
    pub other_each : length u ≡ length grid.junctions
    pub ahead : LiesBeyond side v u
    pub raises : (i : ℕ) (junction : GridJunction) → slice_get grid.junctions i ≡ Some junction → named i
        → (x : ℤ) × (IsRaisedHolding held grid problem side v i junction x × IsBeyond side x (head_at u i))

  raised-nearer : (u v : List ℤ) (i : ℕ) (junction : GridJunction) (x : ℤ) → length u ≡ length v → i < length u
      → LiesBeyond side u v → slice_get grid.junctions i ≡ Some junction
      → IsRaisedHolding held grid problem side v i junction x → (y : ℤ) ×
      (IsRaisedHolding held grid problem side u i junction y × IsBeyond side y x)
  raised-nearer u v i junction x same inside beyond at raise =
      let candidate =
      candidate-nearer held grid steady problem side u v i junction x same inside beyond at raise.is_candidate in
      elim (raise-or-none held grid steady problem side u i junction) [
        | inl found ↦ (found.0, (found.1, found.1.nearest x candidate))
        | inr nothing ↦ absurd (nothing x candidate)
      ]

  pub so-far-begins : (v u : List ℤ) → length v ≡ length grid.junctions → length u ≡ length grid.junctions
      → LiesBeyond side v u → IsRoundSoFar (λ m. ⊥) v u
  so-far-begins v u long other ahead = record {
    one_each = long;
    other_each = other;
    ahead = ahead;
    raises =
        λ i junction at named. absurd named;
  }

  pub so-far-on : (named : ℕ → Type 0) (v u w : List ℤ) → IsRoundSoFar named v u → length w ≡ length u
      → LiesBeyond side u w → IsRoundSoFar named v w
  so-far-on named v u w so_far same beyond = record {
    one_each = so_far.one_each;
    other_each = same ∙ so_far.other_each;
    ahead = vector-trans side v u w (so_far.one_each ∙ sym so_far.other_each) so_far.ahead beyond;
    raises = λ i junction at name.
        let r = so_far.raises i junction at name in (
          r.0,
          (
            r.1.0,
            beyond-trans side r.0 (head_at u i) (head_at w i) r.1.1
                (beyond i (inside-of held grid steady problem side u i junction so_far.other_each at)),
          ),
        );
  }

  pub so-far-raised : (named : ℕ → Type 0) (v u : List ℤ) (i : ℕ) (junction : GridJunction) (x : ℤ)
      → IsRoundSoFar named v u → slice_get grid.junctions i ≡ Some junction
      → IsRaisedHolding held grid problem side u i junction x → IsRoundSoFar (λ m. named m ⊎ (m ≡ i)) v
      (slice_set u i x)
  so-far-raised named v u i junction x so_far at raise =
      let inside = inside-of held grid steady problem side u i junction so_far.other_each at in
      let long = so_far.one_each ∙ sym so_far.other_each in
      let on = so-far-on named v u (slice_set u i x) so_far (length-set u i x)
      (set-on side u u i x inside raise.is_candidate.beyond (vector-self side u) refl) in
      record {
        one_each = on.one_each;
        other_each = on.other_each;
        ahead = on.ahead;
        raises = λ m here is name. elim name [
          | inl before ↦ on.raises m here is before
          | inr e ↦
              let plain = raised-nearer v u i junction x long (omega (arith, inside, long)) so_far.ahead at raise in
              again m i here junction v (slice_set u i x) e (let s : Some here ≡ Some junction = sym is ∙
              (ap (slice_get grid.junctions) e ∙ at) in s)
              (plain.0, (plain.1.0, subst (λ (y : ℤ). IsBeyond side plain.0 y) (sym (set-here u i x inside)) plain.1.1))
        ];
      }
    where
      again : (m i : ℕ) (here junction : GridJunction) (v w : List ℤ) → m ≡ i → ◌≡◌ {A = Option GridJunction}
          (Some here) (Some junction)
          → (y : ℤ) × (IsRaisedHolding held grid problem side v i junction y × IsBeyond side y (head_at w i))
          → (y : ℤ) × (IsRaisedHolding held grid problem side v m here y × IsBeyond side y (head_at w m))
      again m i here junction v w e s is =
          let t : here ≡ junction = cc in (
            is.0,
            (
              subst (λ (k : ℕ). IsRaisedHolding held grid problem side v k here is.0) (sym e)
                  (subst (λ (j : GridJunction). IsRaisedHolding held grid problem side v i j is.0) (sym t) is.1.0),
              subst (λ (k : ℕ). IsBeyond side is.0 (head_at w k)) (sym e) is.1.1,
            ),
          )

  -- all named: the round exists
  pub so-far-whole : (named : ℕ → Type 0) (v u : List ℤ) → IsRoundSoFar named v u →
      ((i : ℕ) → i < length grid.junctions → named i)
      → (w : List ℤ) × (IsRoundHolding held grid problem side v w × LiesBeyond side w u)
  so-far-whole named v u so_far all =
      let chosen = choose (λ i junction z. IsRaisedHolding held grid problem side v i junction z × IsBeyond side z
      (head_at u i)) grid.junctions
      (λ i junction at. so_far.raises i junction at (all i (let s =
      inside-of held grid steady problem side v i junction so_far.one_each at in let l = so_far.one_each in omega
      (arith, s, l)))) in (
        chosen.values,
        (
          record {
            one_each = chosen.one_each ∙ sym so_far.one_each;
            raised = λ i junction at.
                (chosen.are i junction at).0;
          },
          λ m lt. (let l = chosen.one_each in let at = item_there grid.junctions m (omega (arith, lt, l)) in
              (chosen.are m at.0 at.1).1),
        ),
      )

  pub rounds-on : (n : ℕ) (u v w : List ℤ) → AreRoundsHolding held grid problem side n u v
      → IsRoundHolding held grid problem side v w → AreRoundsHolding held grid problem side (suc n) u w
  rounds-on _ _ _ w none round = more round none
  rounds-on _ _ v w (more {n = n} {v = x} first rest) round = more first (rounds-on n x v w rest round)

  pub has-begins : (u : List ℤ) → length u ≡ length grid.junctions → HasRounds held grid problem side 0 u u
  has-begins u long = record { reached = u; one_each = long; by_rounds = none; ahead = vector-self side u }

  pub has-more : (n : ℕ) (named : ℕ → Type 0) (first u : List ℤ)
      (rounds : HasRounds held grid problem side n first u) (w : List ℤ)
      → IsRoundSoFar named rounds.reached w → ((i : ℕ) → i < length grid.junctions → named i)
      → HasRounds held grid problem side (suc n) first w
  has-more n named first u rounds w so_far all =
      let whole = so-far-whole named rounds.reached w so_far all in
      record {
        reached = whole.0;
        one_each = (let r = whole.1.0.one_each in r ∙ rounds.one_each);
        by_rounds = rounds-on n first rounds.reached whole.0 rounds.by_rounds whole.1.0;
        ahead = whole.1.1;
      }

  -- ---- lists of raises

  pub climb-so-far : (named : ℕ → Type 0) (v : List ℤ) (order : List ℕ) (u w : List ℤ)
      → Climbs held grid problem side order u w → IsRoundSoFar named v u
      → IsRoundSoFar (λ m. named m ⊎ Contains order m) v w
  climb-so-far named v _ u _ done so_far = record {
    one_each = so_far.one_each;
    other_each = so_far.other_each;
    ahead = so_far.ahead;
    raises = λ i junction at name.
        elim name [ inl before ↦ so_far.raises i junction at before | inr in_empty ↦ absurd (empty i in_empty) ];
  }
    where
      empty : (i : ℕ) → Contains [] i → ⊥
      empty i is = absurd (let lt = is.1 in omega (arith, lt))
  climb-so-far named v _ u w (raised {i = i} {order = order} {junction = junction} {x = x} at raise rest) so_far =
      let on = climb-so-far (λ m. named m ⊎ (m ≡ i)) v order (slice_set u i x) w rest
      (so-far-raised named v u i junction x so_far at raise) in
      record {
        one_each = on.one_each;
        other_each = on.other_each;
        ahead = on.ahead;
        raises = λ m here is name. on.raises m here is (elim name [
          | inl before ↦ inl
              (inl before)
          | inr in_list ↦ elim (contains-cons i order m in_list) [
            | inl e ↦ inl
                (inr e)
            | inr later ↦ inr later
          ]
        ]);
      }
  climb-so-far named v order u w (leapt {v = x} leap rest) so_far =
      climb-so-far named v order x w rest (so-far-on named v u x so_far leap.one_each leap.beyond)

  pub climb-start : (order : List ℕ) (u w : List ℤ) → Climbs held grid problem side order u w
      → IsStart held grid problem side u → IsStart held grid problem side w
  climb-start _ u _ done start = start
  climb-start _ u w (raised {i = i} {order = order} {junction = junction} {x = x} at raise rest) start =
      climb-start order (slice_set u i x) w rest
      (start-raised held grid steady problem side u i junction x start at raise)
  climb-start order u w (leapt {v = x} leap rest) start = climb-start order x w rest (start-leapt u x start leap)

  record Halves (first rest : List ℕ) (u w : List ℤ) : Type 0 where
    middle : List ℤ
    to : Climbs held grid problem side first u middle
    from : Climbs held grid problem side rest middle w

  split : (first rest both : List ℕ) (u w : List ℤ) → both ≡ first ++ rest → Climbs held grid problem side both u w
      → Halves first rest u w
  split [] rest both u w e climbs = record {
    middle = u;
    to = done;
    from = subst
        (λ (o : List ℕ). Climbs held grid problem side o u w) e climbs;
  }
  split (a ∷ first) rest _ u _ e done = absurd (cc)
  split (a ∷ first) rest _ u w e (raised {i = i} {order = order} {junction = junction} {x = x} at raise on) =
      let same : i ≡ a = cc in
      let tail : order ≡ first ++ rest = cc in
      let halves = split first rest order (slice_set u i x) w tail on in
      record {
        middle = halves.middle;
        to = subst (λ (k : ℕ). Climbs held grid problem side
            (k ∷ first) u halves.middle) same (raised at raise halves.to);
        from = halves.from;
      }
  split (a ∷ first) rest both u w e (leapt {v = x} leap on) =
      let halves = split (a ∷ first) rest both x w e on in
      record { middle = halves.middle; to = leapt leap halves.to; from = halves.from }

  pub climb-on : (order : List ℕ) (u w : List ℤ) → Climbs held grid problem side order u w
      → length u ≡ length grid.junctions → (length w ≡ length grid.junctions) × LiesBeyond side u w
  climb-on _ u _ done long = (long, vector-self side u)
  climb-on _ u w (raised {i = i} {order = order} {junction = junction} {x = x} at raise rest) long =
      let l : length (slice_set u i x) ≡ length u = length-set u i x in
      let on = climb-on order (slice_set u i x) w rest (l ∙ long) in (
        on.0,
        vector-trans side u (slice_set u i x) w (sym l) (set-on side u u i x
            (inside-of held grid steady problem side u i junction long at) raise.is_candidate.beyond
            (vector-self side u) refl) on.1,
      )
  climb-on order u w (leapt {v = x} leap rest) long =
      let on = climb-on order x w rest (leap.one_each ∙ long) in
      (on.0, vector-trans side u x w (sym leap.one_each) leap.beyond on.1)

  pub has-on : (k : ℕ) (first u w : List ℤ) → HasRounds held grid problem side k first u → LiesBeyond side u w
      → length u ≡ length grid.junctions → HasRounds held grid problem side k first w
  has-on k first u w rounds beyond long = record {
    reached = rounds.reached;
    one_each = rounds.one_each;
    by_rounds = rounds.by_rounds;
    ahead = vector-trans side rounds.reached u w (rounds.one_each ∙ sym long) rounds.ahead beyond;
  }

  -- n parts that each name every junction are worth n rounds
  over-parts : (n k : ℕ) (first : List ℤ) (order : List ℕ) (u w : List ℤ) → HasParts (length grid.junctions) n order
      → Climbs held grid problem side order u w
      → length u ≡ length grid.junctions → HasRounds held grid problem side k first u
      → HasRounds held grid problem side (n + k) first w
  over-parts _ k first order u w no_more climbs long rounds =
      subst (λ (m : ℕ). HasRounds held grid problem side m first w) (let e : k ≡ 0 + k = omega arith in e)
      (has-on k first u w rounds (climb-on order u w climbs long).1 long)
  over-parts _ k first _ u w (part {n = n} head tail names rest) climbs long rounds =
      let halves = split head tail (head ++ tail) u w refl climbs in
      let on = climb-on head u halves.middle halves.to long in
      let so_far = climb-so-far (λ m. ⊥) rounds.reached head u halves.middle halves.to
      (so-far-begins rounds.reached u rounds.one_each long rounds.ahead) in
      let one = has-more k (λ m. ⊥ ⊎ Contains head m) first u rounds halves.middle so_far (λ i lt. inr (names i lt)) in
      let all = over-parts n (suc k) first tail halves.middle w rest halves.from on.0 one in
      subst (λ (m : ℕ). HasRounds held grid problem side m first w)
      (let e : n + suc k ≡ suc n + k = omega arith in e) all

  pub every-order : (n : ℕ) (order : List ℕ) (u w : List ℤ) → length u ≡ length grid.junctions → HasParts
      (length grid.junctions) n order → Climbs held grid problem side order u w
      → HasRounds held grid problem side n u w
  every-order n order u w long parts climbs =
      subst (λ (m : ℕ). HasRounds held grid problem side m u w) (let e : n + 0 ≡ n = omega arith in e)
      (over-parts n 0 u order u w parts climbs long (has-begins u long))

  -- where rounds from a start lead to no more than another start that is no certificate, theirs is none
  pub rounds-spent : (n : ℕ) (first u : List ℤ) (rounds : HasRounds held grid problem side n first u)
      → IsStart held grid problem side u → (IsCertificateHolding held grid problem side u → ⊥)
      → IsCertificateHolding held grid problem side rounds.reached → ⊥
  rounds-spent n first u rounds start missed is =
      let same = one-vector side rounds.reached u (rounds.one_each ∙ sym start.one_each) rounds.ahead
      (start.nearer rounds.reached is) in
      missed (subst (λ (v : List ℤ). IsCertificateHolding held grid problem side v) same is)

  -- ---- rounds lead to one vector

  one-round-only : (u v w : List ℤ) → length u ≡ length grid.junctions → IsRoundHolding held grid problem side u v
      → IsRoundHolding held grid problem side u w → v ≡ w
  one-round-only u v w long a b =
      let l = a.one_each in let m = b.one_each in
      let same = λ (k : ℕ) (lt : k < length v).
      let at = item_there grid.junctions k (omega (arith, lt, l, long)) in
      one-raise held grid steady problem side u k at.0 (head_at v k) (head_at w k) (a.raised k at.0 at.1)
      (b.raised k at.0 at.1) in
      one-vector side v w (l ∙ sym m)
      (λ k lt. subst (λ (x : ℤ). IsBeyond side (head_at v k) x) (same k lt) (beyond-self side (head_at v k)))
      (λ k lt. let less : k < length v = omega (arith, lt, l, m) in subst (λ (x : ℤ). IsBeyond side x (head_at v k))
      (same k less) (beyond-self side (head_at v k)))

  first-of : (m n : ℕ) (u w : List ℤ) → m ≡ suc n → AreRoundsHolding held grid problem side m u w → (v : List ℤ) ×
      (IsRoundHolding held grid problem side u v × AreRoundsHolding held grid problem side n v w)
  first-of _ n u _ e none = absurd (cc)
  first-of _ n u w e (more {n = k} {v = v} round rest) =
      let same : k ≡ n = cc in (v, (round, subst (λ (m : ℕ). AreRoundsHolding held grid problem side m v w) same rest))

  no-rounds : (m : ℕ) (u w : List ℤ) → m ≡ 0 → AreRoundsHolding held grid problem side m u w → u ≡ w
  no-rounds _ u _ e none = refl
  no-rounds _ u w e (more round rest) = absurd (cc)

  pub one-reached : (n : ℕ) (u v w : List ℤ) → length u ≡ length grid.junctions
      → AreRoundsHolding held grid problem side n u v → AreRoundsHolding held grid problem side n u w → v ≡ w
  one-reached _ u _ w long none b = no-rounds 0 u w refl b
  one-reached _ u v w long (more {n = n} {v = x} round rest) b =
      let other = first-of (suc n) n u w refl b in
      let here = one-round-only u x other.0 long round other.1.0 in
      one-reached n x v w (let r = round.one_each in r ∙ long) rest
      (subst (λ (t : List ℤ). AreRoundsHolding held grid problem side n t w) (sym here) other.1.1)

  -- ---- the nearer of two

  pub nearer-of-two : (u w v : List ℤ) → IsCertificateHolding held grid problem side u
      → IsCertificateHolding held grid problem side w → length v ≡ length u
      → ((m : ℕ) → m < length v → ((head_at v m ≡ head_at u m) × IsBeyond side (head_at v m) (head_at w m)) ⊎
      ((head_at v m ≡ head_at w m) × IsBeyond side (head_at v m) (head_at u m)))
      → IsCertificateHolding held grid problem side v
  nearer-of-two u w v own other same nearer =
      let a = own.one_each in let b = other.one_each in
      let to-u : LiesBeyond side v u = λ m lt. elim (nearer m lt) [
        | inl e ↦ subst
            (λ (x : ℤ). IsBeyond side (head_at v m) x) e.0 (beyond-self side (head_at v m))
        | inr e ↦ e.1
      ] in
      let to-w : LiesBeyond side v w = λ m lt. elim (nearer m lt) [
        | inl e ↦ e.1
        | inr e ↦ subst
            (λ (x : ℤ). IsBeyond side (head_at v m) x) e.0 (beyond-self side (head_at v m))
      ] in
      record {
        one_each = same ∙ a;
        in_box = λ k d lt. subst IsInBox (get_or_default v k (pos 0) d lt) (elim (nearer k lt) [
          | inl e ↦ subst IsInBox (sym e.0) (own.in_box k (pos 0) (omega (arith, lt, same)))
          | inr e ↦ subst IsInBox (sym e.0) (other.in_box k (pos 0) (omega (arith, lt, same, a, b)))
        ]);
        passes = λ i junction at.
            let inside : i < length v = inside-of held grid steady problem side v i junction (same ∙ a) at in
            elim (nearer i inside) [
              | inl e ↦ suits-nearer grid steady problem held side v u i junction same inside to-u e.0 at
                  (own.passes i junction at)
              | inr e ↦ suits-nearer grid steady problem held side v w i junction
                  (same ∙ (a ∙ sym b)) inside to-w e.0 at (other.passes i junction at)
            ];
      }

  -- ---- rounds from a nearer vector

  pub rounds-nearer : (n : ℕ) (u v w : List ℤ) → length u ≡ length grid.junctions → length v ≡ length grid.junctions
      → LiesBeyond side u v → AreRoundsHolding held grid problem side n v w
      → HasRounds held grid problem side n u w
  rounds-nearer _ u v _ long other beyond none = record {
    reached = u;
    one_each = long;
    by_rounds = none;
    ahead =
        beyond;
  }
  rounds-nearer _ u v w long other beyond (more {n = n} {v = x} round rest) =
      let whole = so-far-whole (λ m. Unit {0}) u x (record {
        one_each = long;
        other_each = round.one_each ∙ other;
        ahead = (λ m lt. (let at = item_there grid.junctions m (omega (arith, lt, long)) in
            beyond-trans side (head_at u m) (head_at v m) (head_at x m) (beyond m lt)
            (round.raised m at.0 at.1).is_candidate.beyond));
        raises = λ i junction at named. raised-nearer u v i junction (head_at x i) (long ∙ sym other)
            (inside-of held grid steady problem side u i junction long at) beyond at (round.raised i junction at);
      }) (λ i lt. tt) in
      let on = rounds-nearer n whole.0 x w (let r = whole.1.0.one_each in r ∙ long)
      (round.one_each ∙ other) whole.1.1 rest in
      record { reached = on.reached; one_each = on.one_each; by_rounds = more whole.1.0 on.by_rounds; ahead = on.ahead }

  start-round : (u v : List ℤ) → IsStart held grid problem side u → IsRoundHolding held grid problem side u v
      → IsStart held grid problem side v
  start-round u v start round = record {
    one_each = round.one_each ∙ start.one_each;
    in_box = λ k d lt. (let l = round.one_each in let s = start.one_each in let at = item_there grid.junctions k
        (omega (arith, lt, l, s)) in
        subst IsInBox (get_or_default v k (pos 0) d lt) (round.raised k at.0 at.1).is_candidate.in_box);
    nearer = λ w certificate m lt. (let l = round.one_each in let s = start.one_each in let at =
        item_there grid.junctions m (omega (arith, lt, l, s)) in
        (round.raised m at.0 at.1).nearest (head_at w m)
        (candidate-of held grid steady problem side u w m at.0 (s ∙ sym certificate.one_each) (omega (arith, lt, l))
        (start.nearer w certificate) at.1 certificate));
  }

  rounds-start : (n : ℕ) (u v : List ℤ) → IsStart held grid problem side u
      → AreRoundsHolding held grid problem side n u v → IsStart held grid problem side v
  rounds-start _ u _ start none = start
  rounds-start _ u v start (more {n = n} {v = x} round rest) = rounds-start n x v (start-round u x start round) rest

  -- rounds from a start that lead to no certificate show that as many from any nearer vector don't either
  pub spent-nearer : (n : ℕ) (first u w : List ℤ) → length first ≡ length grid.junctions → LiesBeyond side first u
      → IsStart held grid problem side u → AreRoundsHolding held grid problem side n u w
      → (IsCertificateHolding held grid problem side w → ⊥) → (v : List ℤ) ×
      (AreRoundsHolding held grid problem side n first v × (IsCertificateHolding held grid problem side v → ⊥))
  spent-nearer n first u w long beyond start rounds missed =
      let near = rounds-nearer n first u w long start.one_each beyond rounds in
      (near.reached, (near.by_rounds, rounds-spent n first w near (rounds-start n u w start rounds) missed))
