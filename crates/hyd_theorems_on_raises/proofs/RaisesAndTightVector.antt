-- Raises, rounds and leaps, on both sides and with or without a junction held.
use Rattle.std.proofs.Common.{◌≡◌, ℕ, zero, suc, ◌*◌, ◌<◌, ℤ, pos, ◌+ℤ◌, ◌-ℤ◌, ◌≤ℤ◌, ◌<ℤ◌, neg_ℤ, refl, sym, ap, subst}
use Rattle.std.proofs.Common.{◌∙◌, arith, Bool, true, false, ◌==◌, List, [], ◌∷◌, length, inl, inr, ◌⊎◌}
use Rattle.std.specs.Prelude.{Some, None, Option, slice_get, slice_set, slice_index_or, MatchBool, All, unsigned_abs}
use Rattle.std.proofs.lemmas.Int.{ints, by_lt_z}
use Rattle.std.proofs.lemmas.Bool.{cases_eq}
use Rattle.std.proofs.lemmas.Option.{slice_get_within}
use Rattle.std.proofs.lemmas.List.{length-set, get_or-set_same, get_or-set_other, set-get_or}
use Rattle.hyd_spec_certificates.specs.declared.Side.{Side}
use Rattle.hyd_spec_certificates.specs.declared.Side.TheVariants.{Upper, Lower}
use Rattle.hyd_spec_certificates.specs.declared.Problem.{Problem}
use Rattle.hyd_spec.specs.Lists.{Each}
use Rattle.hyd_spec.specs.Assignment.{head_at}
use Rattle.hyd_spec_certificates.specs.PeriodNetwork.{Grid, GridJunction}
use Rattle.hyd_spec_certificates.specs.NetOutflow.{net_low, net_high, margin}
use Rattle.hyd_spec_certificates.specs.declared.HeldJunction.{HeldJunction}
use Rattle.hyd_spec_certificates.specs.Certificate.{box_limit, IsInBox, Passes, Suits, IsBeyond, IsCertificateHolding}
use Rattle.hyd_spec_certificates.specs.Certificate.{IsCandidateHolding, IsRaisedHolding, IsTightHolding}
use Rattle.hyd_theorems_on_definitions.specs.SoundLawsAndGrids.{IsSteady}
use Rattle.hyd_spec_certificates.specs.StartsRaisesAndLeaps.{LiesBeyond, IsStart}
use Rattle.hyd_theorems_on_definitions.specs.Sides.{along}
use Rattle.hyd_lemmas.proofs.Integers.{same-or-not}
use Rattle.hyd_theorems_on_raises.proofs.WhereOneLiesBeyondByMost.{beyond-is, is-beyond, suits-nearer}
use Rattle.hyd_theorems_on_raises.proofs.FirstItemsAndChoices.{first-below, each-or-lacks}

-- ---- the order of a side

pub beyond-trans : (side : Side) (x y z : ℤ) → IsBeyond side x y → IsBeyond side y z → IsBeyond side x z
beyond-trans side x y z a b = let p = beyond-is side x y a in let q = beyond-is side y z b in is-beyond side x z
    (omega (arith, ints, p, q))

pub beyond-self : (side : Side) (x : ℤ) → IsBeyond side x x
beyond-self side x = is-beyond side x x (omega (arith, ints))

pub along-one : (side : Side) (x y : ℤ) → along side x ≡ along side y → x ≡ y
along-one Upper x y e = e
along-one Lower x y e = omega (arith, ints, e)

pub by-beyond : {R : Type 0} (side : Side) (y x : ℤ) → (IsBeyond side y x → R) → (along side x <ℤ along side y → R) → R
by-beyond side y x is short = by_lt_z (along side x) (along side y) short (λ ge. is (is-beyond side y x ge))

-- ---- the box

-- the head that lies so many ticks from the near end of the box
abbrev from-end : Side → ℕ → ℤ
from-end Upper k = pos k -ℤ pos box_limit
from-end Lower k = pos box_limit -ℤ pos k

along-end : (side : Side) (k : ℕ) → along side (from-end side k) ≡ pos k -ℤ pos box_limit
along-end Upper k = refl
along-end Lower k = omega (arith, ints)

record HasPlace (side : Side) (x : ℤ) : Type 0 where
  ticks : ℕ
  within : ticks < suc (2 * box_limit)
  is : x ≡ from-end side ticks

pub along-floor : (side : Side) (x : ℤ) → IsInBox x → (pos 0 -ℤ pos box_limit) ≤ℤ along side x
along-floor Upper x in_box = let a = in_box.above_floor in omega (arith, ints, a)
along-floor Lower x in_box = let a = in_box.below_ceiling in omega (arith, ints, a)

pub along-ceiling : (side : Side) (x : ℤ) → IsInBox x → along side x ≤ℤ pos box_limit
along-ceiling Upper x in_box = let a = in_box.below_ceiling in omega (arith, ints, a)
along-ceiling Lower x in_box = let a = in_box.above_floor in omega (arith, ints, a)

place-of : (side : Side) (x : ℤ) → IsInBox x → HasPlace side x
place-of side x in_box =
    let a = along-floor side x in_box in
    let b = along-ceiling side x in_box in
    let k = unsigned_abs (along side x +ℤ pos box_limit) in
    let e = along-end side k in
    record {
      ticks = k;
      within = omega (arith, ints, a, b);
      is = along-one side x (from-end side k)
          (omega (arith, ints, a, e));
    }

pub box-or-not : (x : ℤ) → IsInBox x ⊎ (IsInBox x → ⊥)
box-or-not x = by_lt_z x (neg_ℤ (pos box_limit)) (λ lt. inr (λ is. absurd
    (let a = is.above_floor in omega (arith, ints, lt, a))))
    (λ ge. by_lt_z (pos box_limit) x (λ lt. inr (λ is. absurd
    (let a = is.below_ceiling in omega (arith, ints, lt, a))))
    (λ le. inl (record { above_floor = ge; below_ceiling = le })))

-- ---- one head put in

pub set-here : (u : List ℤ) (i : ℕ) (x : ℤ) → i < length u → head_at (slice_set u i x) i ≡ x
set-here u i x lt = get_or-set_same u i x (pos 0) lt

pub set-there : (u : List ℤ) (i m : ℕ) (x : ℤ) → (m ≡ i → ⊥) → head_at (slice_set u i x) m ≡ head_at u m
set-there u i m x ne = get_or-set_other u i m x (pos 0) ne

-- putting x into both, the nearer in the nearer
pub set-both : (side : Side) (u v : List ℤ) (i : ℕ) (x : ℤ) → i < length u → length u ≡ length v
    → LiesBeyond side u v → LiesBeyond side (slice_set u i x) (slice_set v i x)
set-both side u v i x inside same beyond m lt = elim (cases_eq m i) [
  | inl e ↦ subst (λ (k : ℕ). IsBeyond side (head_at (slice_set u i x) k) (head_at (slice_set v i x) k)) (sym e)
      (is-beyond side (head_at (slice_set u i x) i) (head_at (slice_set v i x) i)
      (let a = ap (along side) (set-here u i x inside) in let b = ap (along side)
      (set-here v i x (omega (arith, inside, same))) in omega (arith, ints, a, b)))
  | inr ne ↦ is-beyond side (head_at (slice_set u i x) m) (head_at (slice_set v i x) m)
      (let a = ap (along side) (set-there u i m x ne) in let b = ap (along side) (set-there v i m x ne) in
      let c = beyond-is side (head_at u m) (head_at v m) (beyond m
      (let l = length-set u i x in omega (arith, lt, l))) in omega (arith, ints, a, b, c))
]

-- x put into u alone
pub set-one : (side : Side) (u v : List ℤ) (i : ℕ) (x : ℤ) → i < length u → IsBeyond side x (head_at v i)
    → LiesBeyond side u v → LiesBeyond side (slice_set u i x) v
set-one side u v i x inside far beyond m lt = elim (cases_eq m i) [
  | inl e ↦ subst (λ (k : ℕ). IsBeyond side (head_at (slice_set u i x) k) (head_at v k)) (sym e)
      (subst (λ (y : ℤ). IsBeyond side y (head_at v i)) (sym (set-here u i x inside)) far)
  | inr ne ↦ subst (λ (y : ℤ). IsBeyond side y (head_at v m)) (sym (set-there u i m x ne))
      (beyond m (let l = length-set u i x in omega (arith, lt, l)))
]

-- u with x put in lies beyond u
pub set-on : (side : Side) (u v : List ℤ) (i : ℕ) (x : ℤ) → i < length v → IsBeyond side (head_at u i) x
    → LiesBeyond side u v → length u ≡ length v → LiesBeyond side u (slice_set v i x)
set-on side u v i x inside far beyond same m lt = elim (cases_eq m i) [
  | inl e ↦ subst (λ (k : ℕ). IsBeyond side (head_at u k) (head_at (slice_set v i x) k)) (sym e)
      (subst (λ (y : ℤ). IsBeyond side (head_at u i) y) (sym (set-here v i x inside)) far)
  | inr ne ↦ subst (λ (y : ℤ). IsBeyond side (head_at u m) y) (sym (set-there v i m x ne)) (beyond m lt)
]

pub set-in-box : (u : List ℤ) (i : ℕ) (x : ℤ) → IsInBox x → All IsInBox u → All IsInBox (slice_set u i x)
set-in-box u i x here all k d lt =
    let l = length-set u i x in
    let inside : k < length u = omega (arith, lt, l) in
    elim (cases_eq k i) [
      | inl e ↦ subst IsInBox (sym (ap (λ (m : ℕ). slice_index_or (slice_set u i x) m d) e ∙ get_or-set_same u i x d
          (subst (λ (m : ℕ). m < length u) e inside))) here
      | inr ne ↦ subst IsInBox (sym (get_or-set_other u i k x d ne)) (all k d inside)
    ]

-- ---- how far a vector is from the far end of the box

abbrev room : Side → List ℤ → ℤ
room side [] = pos 0
room side (x ∷ u) = (pos box_limit -ℤ along side x) +ℤ room side u

room-set : (side : Side) (u : List ℤ) (i : ℕ) (x : ℤ) → i < length u → room side (slice_set u i x) ≡
    (room side u +ℤ along side (head_at u i)) -ℤ along side x
room-set side [] i x lt = absurd (omega (arith, lt))
room-set side (y ∷ u) zero x lt = omega (arith, ints)
room-set side (y ∷ u) (suc i) x lt = let r = room-set side u i x (omega (arith, lt)) in omega (arith, ints, r)

room-some : (side : Side) (u : List ℤ) → All IsInBox u → pos 0 ≤ℤ room side u
room-some side [] all = omega (arith, ints)
room-some side (x ∷ u) all =
    let a = along-ceiling side x (all 0 (pos 0) (omega arith)) in
    let r = room-some side u (λ k d lt. all (suc k) d (omega (arith, lt))) in
    omega (arith, ints, a, r)

module _ (held : Option HeldJunction) (grid : Grid) (problem : Problem) (side : Side) where
  passes-or-not : (s : Side) (u : List ℤ) (i : ℕ) (junction : GridJunction) → Passes grid problem s u i junction ⊎
      (Passes grid problem s u i junction → ⊥)
  passes-or-not Upper u i junction = by_lt_z (net_low grid problem u i junction) (margin grid i +ℤ pos 1)
      (λ lt. inr (λ is. absurd (omega (arith, ints, lt, is)))) (λ ge. inl ge)
  passes-or-not Lower u i junction = by_lt_z (neg_ℤ (margin grid i +ℤ pos 1)) (net_high grid problem u i junction)
      (λ lt. inr (λ is. absurd (omega (arith, ints, lt, is)))) (λ ge. inl ge)

  pub suits-or-not : (u : List ℤ) (i : ℕ) (junction : GridJunction) → Suits held grid problem side u i junction ⊎
      (Suits held grid problem side u i junction → ⊥)
  suits-or-not u i junction = by held
    where
      by-test : (b : Bool) (h : ℤ) → MatchBool b (head_at u i ≡ h) (Passes grid problem side u i junction) ⊎
          (MatchBool b (head_at u i ≡ h) (Passes grid problem side u i junction) → ⊥)
      by-test true h = same-or-not (head_at u i) h
      by-test false h = passes-or-not side u i junction

      by : (h : Option HeldJunction) → Suits h grid problem side u i junction ⊎
          (Suits h grid problem side u i junction → ⊥)
      by None = passes-or-not side u i junction
      by (Some h) = by-test (h.junction == i) h.head

module _ (held : Option HeldJunction) (grid : Grid) (steady : IsSteady grid) (problem : Problem) (side : Side) where
  -- ---- one raise

  candidate-or-not : (u : List ℤ) (i : ℕ) (junction : GridJunction) (x : ℤ)
      → IsCandidateHolding held grid problem side u i junction x ⊎
      (IsCandidateHolding held grid problem side u i junction x → ⊥)
  candidate-or-not u i junction x = elim (box-or-not x) [
    | inr out ↦ inr (λ is. out is.in_box)
    | inl in_box ↦ by-beyond side (head_at u i) x
        (λ beyond. elim (suits-or-not held grid problem side (slice_set u i x) i junction) [
          | inl suits ↦ inl (record { in_box = in_box; beyond = beyond; passes = suits })
          | inr fails ↦ inr (λ is. fails is.passes)
        ])
        (λ lt. inr (λ is. absurd (let b = beyond-is side (head_at u i) x is.beyond in omega (arith, ints, lt, b))))
  ]

  -- a raise exists, or there is no such value
  pub raise-or-none : (u : List ℤ) (i : ℕ) (junction : GridJunction)
      → ((x : ℤ) × IsRaisedHolding held grid problem side u i junction x) ⊎
      ((x : ℤ) → IsCandidateHolding held grid problem side u i junction x → ⊥)
  raise-or-none u i junction = by (suc (2 * box_limit)) refl
    where
      Here : ℕ → Type 0
      Here k = IsCandidateHolding held grid problem side u i junction (from-end side k)

      by : (n : ℕ) → n ≡ suc (2 * box_limit) → ((x : ℤ) × IsRaisedHolding held grid problem side u i junction x) ⊎
          ((x : ℤ) → IsCandidateHolding held grid problem side u i junction x → ⊥)
      by n e = elim (first-below Here (λ k. candidate-or-not u i junction (from-end side k)) n) [
        | inl found ↦ inl (
          from-end side found.0,
          record {
            is_candidate = found.1.holds;
            nearest = λ y is.
                let p = place-of side y is.in_box in
                let le = found.1.least p.ticks (subst (λ (z : ℤ).
                IsCandidateHolding held grid problem side u i junction z) p.is is) in
                let a = along-end side found.0 in let b = along-end side p.ticks in let c = ap (along side) p.is in
                is-beyond side (from-end side found.0) y (omega (arith, ints, le, a, b, c));
          },
        )
        | inr nowhere ↦ inr (λ x is.
            let p = place-of side x is.in_box in
            nowhere p.ticks (let w = p.within in omega (arith, w, e))
            (subst (λ (z : ℤ). IsCandidateHolding held grid problem side u i junction z) p.is is))
      ]

  -- its value is unique
  pub one-raise : (u : List ℤ) (i : ℕ) (junction : GridJunction) (x y : ℤ)
      → IsRaisedHolding held grid problem side u i junction x → IsRaisedHolding held grid problem side u i junction y
      → x ≡ y
  one-raise u i junction x y a b =
      let p = beyond-is side x y (a.nearest y b.is_candidate) in
      let q = beyond-is side y x (b.nearest x a.is_candidate) in
      along-one side x y (omega (arith, ints, p, q))

  -- a value that is one from a vector is one from a nearer vector
  pub candidate-nearer : (u v : List ℤ) (i : ℕ) (junction : GridJunction) (x : ℤ) → length u ≡ length v
      → i < length u → LiesBeyond side u v → slice_get grid.junctions i ≡ Some junction
      → IsCandidateHolding held grid problem side v i junction x
      → IsCandidateHolding held grid problem side u i junction x
  candidate-nearer u v i junction x same inside beyond at is = record {
    in_box = is.in_box;
    beyond = beyond-trans side (head_at u i) (head_at v i) x (beyond i inside) is.beyond;
    passes = suits-nearer grid steady problem held side (slice_set u i x) (slice_set v i x) i junction
        (let a = length-set u i x in let b = length-set v i x in omega (arith, a, b, same))
        (let a = length-set u i x in omega (arith, a, inside))
        (set-both side u v i x inside same beyond) (set-here u i x inside ∙ sym
        (set-here v i x (omega (arith, inside, same)))) at is.passes;
  }

  -- the head of a certificate is one
  pub candidate-of : (u w : List ℤ) (i : ℕ) (junction : GridJunction) → length u ≡ length w → i < length u
      → LiesBeyond side u w → slice_get grid.junctions i ≡ Some junction
      → IsCertificateHolding held grid problem side w → IsCandidateHolding held grid problem side u i junction
      (head_at w i)
  candidate-of u w i junction same inside beyond at certificate = record {
    in_box = certificate.in_box i (pos 0) (omega (arith, inside, same));
    beyond = beyond i inside;
    passes = suits-nearer grid steady problem held side (slice_set u i (head_at w i)) w i junction
        (let a = length-set u i (head_at w i) in omega (arith, a, same))
        (let a = length-set u i (head_at w i) in omega (arith, a, inside))
        (set-one side u w i (head_at w i) inside (beyond-self side (head_at w i)) beyond)
        (set-here u i (head_at w i) inside) at (certificate.passes i junction at);
  }

  pub inside-of : (u : List ℤ) (i : ℕ) (junction : GridJunction) → length u ≡ length grid.junctions
      → slice_get grid.junctions i ≡ Some junction → i < length u
  inside-of u i junction long at = let a = slice_get_within grid.junctions i junction at in omega (arith, a, long)

  -- ---- starts

  -- from a start no value at a junction means no certificate
  pub no-value : (u : List ℤ) (i : ℕ) (junction : GridJunction) → IsStart held grid problem side u
      → slice_get grid.junctions i ≡ Some junction
      → ((x : ℤ) → IsCandidateHolding held grid problem side u i junction x → ⊥) → (w : List ℤ)
      → IsCertificateHolding held grid problem side w → ⊥
  no-value u i junction start at nothing w certificate =
      let same : length u ≡ length w = start.one_each ∙ sym certificate.one_each in
      nothing (head_at w i) (candidate-of u w i junction same (inside-of u i junction start.one_each at)
      (start.nearer w certificate) at certificate)

  -- a raise leads from a start to one
  pub start-raised : (u : List ℤ) (i : ℕ) (junction : GridJunction) (x : ℤ) → IsStart held grid problem side u
      → slice_get grid.junctions i ≡ Some junction
      → IsRaisedHolding held grid problem side u i junction x → IsStart held grid problem side (slice_set u i x)
  start-raised u i junction x start at raise = record {
    one_each = length-set u i x ∙ start.one_each;
    in_box = set-in-box u i x raise.is_candidate.in_box start.in_box;
    nearer = λ w certificate.
        let same : length u ≡ length w = start.one_each ∙ sym certificate.one_each in
        let inside = inside-of u i junction start.one_each at in
        set-one side u w i x inside (raise.nearest (head_at w i)
        (candidate-of u w i junction same inside (start.nearer w certificate) at certificate))
        (start.nearer w certificate);
  }

  -- a start that passes is the tight vector
  pub start-tight : (u : List ℤ) → IsStart held grid problem side u → Each grid.junctions
      (Suits held grid problem side u) → IsTightHolding held grid problem side u
  start-tight u start passes = record {
    is_certificate = record { one_each = start.one_each; in_box = start.in_box; passes = passes };
    nearest = λ w certificate i junction at. start.nearer w certificate i (inside-of u i junction start.one_each at);
  }

  -- ---- the tight vector exists, or there is no certificate

  abbrev pub TightOrNone : Type 0
  TightOrNone = ((v : List ℤ) × IsTightHolding held grid problem side v) ⊎
      ((w : List ℤ) → IsCertificateHolding held grid problem side w → ⊥)

  step : (u : List ℤ) → IsStart held grid problem side u → ((v : List ℤ) → IsStart held grid problem side v
      → room side v <ℤ room side u → TightOrNone) → TightOrNone
  step u start recur = elim (each-or-lacks (Suits held grid problem side u)
      (λ i junction. suits-or-not held grid problem side u i junction) grid.junctions) [
        | inl passes ↦ inl (u, start-tight u start passes)
        | inr at ↦ elim (raise-or-none u at.place at.item) [
          | inr nothing ↦ inr (no-value u at.place at.item start at.is_item nothing)
          | inl raise ↦
              let inside = inside-of u at.place at.item start.one_each at.is_item in
              let far = beyond-is side (head_at u at.place) raise.0 raise.1.is_candidate.beyond in
              let r = room-set side u at.place raise.0 inside in
              by_lt_z (along side (head_at u at.place)) (along side raise.0)
              (λ lt. recur (slice_set u at.place raise.0)
              (start-raised u at.place at.item raise.0 start at.is_item raise.1) (omega (arith, ints, lt, r)))
              (λ ge. absurd (
              let e : raise.0 ≡ head_at u at.place = along-one side raise.0 (head_at u at.place)
              (omega (arith, ints, far, ge)) in
              at.lacks (subst (λ (v : List ℤ). Suits held grid problem side v at.place at.item)
              (ap (slice_set u at.place) e ∙ set-get_or u at.place (pos 0)) raise.1.is_candidate.passes)))
        ]
      ]

  descend : (n : ℕ) (u : List ℤ) → IsStart held grid problem side u → room side u ≤ℤ pos n → TightOrNone
  descend zero u start le = step u start (λ v other lt. absurd
      (let s = room-some side v other.in_box in omega (arith, ints, le, lt, s)))
  descend (suc n) u start le = step u start (λ v other lt. descend n v other (omega (arith, ints, le, lt)))

  pub tight-or-none : (u : List ℤ) → IsStart held grid problem side u → TightOrNone
  tight-or-none u start = descend (unsigned_abs (room side u)) u start
      (let s = room-some side u start.in_box in omega (arith, ints, s))
