-- The raises on the small grid: a junction fails one tick nearer, and so it does at every head nearer still.
use Rattle.std.proofs.Common.{◌≡◌, ℤ, pos, ◌-ℤ◌, neg_ℤ, inl, inr, ◌≤ℤ◌, Bool, true, false, List, [], ◌∷◌, refl, sym}
use Rattle.std.proofs.Common.{subst, arith}
use Rattle.std.proofs.lemmas.Int.{ints, clamps}
use Rattle.hyd_spec_certificates.specs.declared.Problem.TheVariants.{Main}
use Rattle.hyd_spec_certificates.specs.declared.Side.{Side}
use Rattle.hyd_spec_certificates.specs.declared.Side.TheVariants.{Upper, Lower}
use Rattle.hyd_spec.specs.Lists.{Each}
use Rattle.hyd_spec.specs.Law.{LinearLaw, Capped}
use Rattle.hyd_spec_certificates.specs.EnclosingFunctions.{low}
use Rattle.hyd_spec_certificates.specs.PeriodNetwork.{GridJunction}
use Rattle.hyd_spec.specs.Assignment.{head_at}
use Rattle.hyd_spec_certificates.specs.Certificate.{IsBeyond, Passes, IsCertificate, IsCandidate, IsRaised, IsRound}
use Rattle.hyd_spec_certificates.specs.Certificate.{AreRounds, none, more, IsTight}
use Rattle.hyd_cases_of_runs.specs.Rounds.{chain, first_junction, second_junction, floor_heads, ceiling_heads}
use Rattle.hyd_cases_of_runs.specs.Rounds.{floor_once}
use Rattle.hyd_cases_of_runs.specs.Rounds.{floor_twice, ceiling_once, ceiling_twice}
use Rattle.hyd_cases_of_runs.proofs.VillageCertificates.{inside, in_box, passing, passes, passes_test, is_certificate}
use Rattle.hyd_cases_of_runs.proofs.VillageCertificates.{certificate, no_certificate}
use Rattle.hyd_cases_of_runs.proofs.VillageTight.{IsRising, straight_rises, capped_rises, nearer, next_beyond}
use Rattle.hyd_cases_of_runs.proofs.VillageTight.{two_heads}
use Rattle.hyd_lemmas.proofs.Each.{each_two}

-- ---- heads further out

between : IsRising (Capped (pos 10000000000) LinearLaw)
between = capped_rises (pos 10000000000)

first_further : (side : Side) (x further y : ℤ) → IsBeyond side x further
    → Passes chain Main side (x ∷ y ∷ []) 0 first_junction → Passes chain Main side (further ∷ y ∷ []) 0 first_junction
first_further Upper x further y le passed =
    let into = straight_rises.high_rises (pos 1000000000000000 -ℤ further) (pos 1000000000000000 -ℤ x)
    (omega (arith, ints, le)) in
    let out = between.low_rises (x -ℤ y) (further -ℤ y) (omega (arith, ints, le)) in
    omega (arith, ints, into, out, passed)
first_further Lower x further y le passed =
    let into = straight_rises.low_rises (pos 1000000000000000 -ℤ x) (pos 1000000000000000 -ℤ further)
    (omega (arith, ints, le)) in
    let out = between.high_rises (further -ℤ y) (x -ℤ y) (omega (arith, ints, le)) in
    omega (arith, ints, into, out, passed)

second_further : (side : Side) (x y further : ℤ) → IsBeyond side y further
    → Passes chain Main side (x ∷ y ∷ []) 1 second_junction → Passes chain Main side (x ∷ further ∷ []) 1
    second_junction
second_further Upper x y further le passed =
    let into = between.high_rises (x -ℤ further) (x -ℤ y) (omega (arith, ints, le)) in
    let out = straight_rises.low_rises (y -ℤ pos 600000000000000) (further -ℤ pos 600000000000000)
    (omega (arith, ints, le)) in
    omega (arith, ints, into, out, passed)
second_further Lower x y further le passed =
    let into = between.low_rises (x -ℤ y) (x -ℤ further) (omega (arith, ints, le)) in
    let out = straight_rises.high_rises (further -ℤ pos 600000000000000) (y -ℤ pos 600000000000000)
    (omega (arith, ints, le)) in
    omega (arith, ints, into, out, passed)

-- ---- raises

module _ (side : Side) (a b : ℤ) where
  first_nearest : (x : ℤ) → passing chain Main side (nearer side x ∷ b ∷ []) 0 first_junction ≡ false
      → (y : ℤ) → Passes chain Main side (y ∷ b ∷ []) 0 first_junction → IsBeyond side x y
  first_nearest x fails y passed = elim (next_beyond side x y) [
    | inl l ↦ l
    | inr n ↦ let t = passes_test chain Main side (nearer side x ∷ b ∷ []) 0 first_junction
        (first_further side y (nearer side x) b n passed) in
        absurd (cc)
  ]

  second_nearest : (x : ℤ) → passing chain Main side (a ∷ nearer side x ∷ []) 1 second_junction ≡ false
      → (y : ℤ) → Passes chain Main side (a ∷ y ∷ []) 1 second_junction → IsBeyond side x y
  second_nearest x fails y passed = elim (next_beyond side x y) [
    | inl l ↦ l
    | inr n ↦ let t = passes_test chain Main side (a ∷ nearer side x ∷ []) 1 second_junction
        (second_further side a y (nearer side x) n passed) in
        absurd (cc)
  ]

  pub first_candidate : (x : ℤ) → inside x ≡ true → IsBeyond side a x
      → passing chain Main side (x ∷ b ∷ []) 0 first_junction ≡ true
      → IsCandidate chain Main side (a ∷ b ∷ []) 0 first_junction x
  first_candidate x box on e = record {
    in_box = in_box x box;
    beyond = on;
    passes = passes chain Main side (x ∷ b ∷ []) 0 first_junction e;
  }

  second_candidate : (x : ℤ) → inside x ≡ true → IsBeyond side b x
      → passing chain Main side (a ∷ x ∷ []) 1 second_junction ≡ true
      → IsCandidate chain Main side (a ∷ b ∷ []) 1 second_junction x
  second_candidate x box on e = record {
    in_box = in_box x box;
    beyond = on;
    passes = passes chain Main side (a ∷ x ∷ []) 1 second_junction e;
  }

  -- a value at which a junction passes, and one tick nearer it fails
  pub first_raised : (x : ℤ) → inside x ≡ true → IsBeyond side a x
      → passing chain Main side (x ∷ b ∷ []) 0 first_junction ≡ true
      → passing chain Main side (nearer side x ∷ b ∷ []) 0 first_junction ≡ false
      → IsRaised chain Main side (a ∷ b ∷ []) 0 first_junction x
  first_raised x box on e fails = record {
    is_candidate = first_candidate x box on e;
    nearest = λ y is. first_nearest x fails y is.passes;
  }

  pub second_raised : (x : ℤ) → inside x ≡ true → IsBeyond side b x
      → passing chain Main side (a ∷ x ∷ []) 1 second_junction ≡ true
      → passing chain Main side (a ∷ nearer side x ∷ []) 1 second_junction ≡ false
      → IsRaised chain Main side (a ∷ b ∷ []) 1 second_junction x
  second_raised x box on e fails = record {
    is_candidate = second_candidate x box on e;
    nearest = λ y is. second_nearest x fails y is.passes;
  }

  -- a junction that passes stays where it is
  first_stays : inside a ≡ true → IsBeyond side a a → passing chain Main side (a ∷ b ∷ []) 0 first_junction ≡ true
      → IsRaised chain Main side (a ∷ b ∷ []) 0 first_junction a
  first_stays box on e = record { is_candidate = first_candidate a box on e; nearest = λ y is. is.beyond }

  second_stays : inside b ≡ true → IsBeyond side b b → passing chain Main side (a ∷ b ∷ []) 1 second_junction ≡ true
      → IsRaised chain Main side (a ∷ b ∷ []) 1 second_junction b
  second_stays box on e = record { is_candidate = second_candidate b box on e; nearest = λ y is. is.beyond }

  round : (x y : ℤ) → IsRaised chain Main side (a ∷ b ∷ []) 0 first_junction x
      → IsRaised chain Main side (a ∷ b ∷ []) 1 second_junction y
      → IsRound chain Main side (a ∷ b ∷ []) (x ∷ y ∷ [])
  round x y up low = record {
    one_each = refl;
    raised = each_two GridJunction (λ i junction. IsRaised chain Main side (a ∷ b ∷ []) i junction
        (head_at (x ∷ y ∷ []) i))
        first_junction second_junction up low;
  }

-- ---- upwards

pub first_up : IsRaised chain Main Upper floor_heads 0 first_junction (pos 999999998255848)
first_up = first_raised Upper _ _ _ refl (omega (arith, ints)) refl refl

pub second_up : IsRaised chain Main Upper floor_heads 1 second_junction (neg_ℤ (pos 499700000000124582))
second_up = second_raised Upper _ _ _ refl (omega (arith, ints)) refl refl

pub round_up : IsRound chain Main Upper floor_heads floor_once
round_up = round Upper _ _ _ _ first_up second_up

round_up_again : IsRound chain Main Upper floor_once floor_twice
round_up_again = round Upper _ _ _ _ (first_stays Upper _ _ refl (omega (arith, ints)) refl)
    (second_raised Upper _ _ _ refl (omega (arith, ints)) refl refl)

pub rounds_up : AreRounds chain Main Upper 2 floor_heads floor_twice
rounds_up = more round_up (more round_up_again none)

-- ---- downwards

pub first_down : IsRaised chain Main Lower ceiling_heads 0 first_junction (pos 500499999999750835)
first_down = first_raised Lower _ _ _ refl (omega (arith, ints)) refl refl

pub second_down : IsRaised chain Main Lower ceiling_heads 1 second_junction (pos 600000000996658)
second_down = second_raised Lower _ _ _ refl (omega (arith, ints)) refl refl

pub round_down : IsRound chain Main Lower ceiling_heads ceiling_once
round_down = round Lower _ _ _ _ first_down second_down

round_down_again : IsRound chain Main Lower ceiling_once ceiling_twice
round_down_again = round Lower _ _ _ _ (first_raised Lower _ _ _ refl (omega (arith, ints)) refl refl)
    (second_stays Lower _ _ refl (omega (arith, ints)) refl)

pub rounds_down : AreRounds chain Main Lower 2 ceiling_heads ceiling_twice
rounds_down = more round_down (more round_down_again none)

-- ---- certificates

pub not_yet_up : IsCertificate chain Main Upper floor_once → ⊥
not_yet_up = no_certificate chain Main Upper floor_once 1 second_junction refl refl

pub not_yet_down : IsCertificate chain Main Lower ceiling_once → ⊥
not_yet_down = no_certificate chain Main Lower ceiling_once 0 first_junction refl refl

-- ---- candidates

pub candidate_nearest : IsCandidate chain Main Upper floor_heads 0 first_junction (pos 999999998255848)
candidate_nearest = first_candidate Upper _ _ _ refl (omega (arith, ints)) refl

pub candidate_further : IsCandidate chain Main Upper floor_heads 0 first_junction (pos 1000000000000000)
candidate_further = first_candidate Upper _ _ _ refl (omega (arith, ints)) refl

pub none_short : IsCandidate chain Main Upper floor_heads 0 first_junction (pos 999999998255847) → ⊥
none_short is = let below : pos 999999998255848 ≤ℤ pos 999999998255847 = first_up.nearest (pos 999999998255847) is in
    omega (arith, ints, below)

pub none_outside : IsCandidate chain Main Upper floor_heads 0 first_junction (pos 1000000000000000001) → ⊥
none_outside is = let below = is.in_box.below_ceiling in omega (arith, ints, below)

-- ---- tight vectors

-- upwards the first junction's bound holds whatever the head of the second: at most the limit flows out of it
first_least : (y : ℤ) → passing chain Main Upper (pos 999999998255847 ∷ y ∷ []) 0 first_junction ≡ true → ⊥
first_least y e = let p = passes chain Main Upper (pos 999999998255847 ∷ y ∷ []) 0 first_junction e in
    omega (arith, ints, clamps, p)

-- downwards the second junction's does: at most the limit flows into it
second_greatest : (x : ℤ) → passing chain Main Lower (x ∷ pos 600000000996659 ∷ []) 1 second_junction ≡ true → ⊥
second_greatest x e = let p = passes chain Main Lower (x ∷ pos 600000000996659 ∷ []) 1 second_junction e in
    omega (arith, ints, clamps, p)

not_true : (b : Bool) → (b ≡ true → ⊥) → b ≡ false
not_true true never = absurd (never refl)
not_true false never = refl

-- a junction that passes does so where its neighbour is less far out
second_nearer : (x nearer y : ℤ) → nearer ≤ℤ x → Passes chain Main Upper (x ∷ y ∷ []) 1 second_junction
    → Passes chain Main Upper (nearer ∷ y ∷ []) 1 second_junction
second_nearer x nearer y le passed = let into = between.high_rises (nearer -ℤ y) (x -ℤ y) (omega (arith, ints, le)) in
    omega (arith, ints, into, passed)

first_nearer : (x y nearer : ℤ) → y ≤ℤ nearer → Passes chain Main Lower (x ∷ y ∷ []) 0 first_junction
    → Passes chain Main Lower (x ∷ nearer ∷ []) 0 first_junction
first_nearer x y nearer le passed = let out = between.high_rises (x -ℤ nearer) (x -ℤ y) (omega (arith, ints, le)) in
    omega (arith, ints, out, passed)

module _ (side : Side) (a b : ℤ) where
  both_beyond : is_certificate chain Main side (a ∷ b ∷ []) ≡ true
      → ((x y : ℤ) → Passes chain Main side (x ∷ y ∷ []) 0 first_junction
      → Passes chain Main side (x ∷ y ∷ []) 1 second_junction
      → IsBeyond side a x × IsBeyond side b y)
      → IsTight chain Main side (a ∷ b ∷ [])
  both_beyond passed beyond = record {
    is_certificate = certificate chain Main side (a ∷ b ∷ []) passed;
    nearest = λ v is.
        let heads = two_heads v is.one_each in
        let two : IsCertificate chain Main side (heads.first ∷ heads.second ∷ []) =
        subst (IsCertificate chain Main side) heads.is is in
        let both = beyond heads.first heads.second (two.passes 0 first_junction refl)
        (two.passes 1 second_junction refl) in
        subst (λ (w : List ℤ). Each chain.junctions (λ i junction. IsBeyond side (head_at (a ∷ b ∷ []) i)
        (head_at w i))) (sym heads.is)
        (each_two GridJunction (λ i junction. IsBeyond side (head_at (a ∷ b ∷ []) i)
        (head_at (heads.first ∷ heads.second ∷ []) i))
        first_junction second_junction both.0 both.1);
  }

pub tight_up : IsTight chain Main Upper floor_twice
tight_up = both_beyond Upper _ _ refl (λ x y first second.
    let up = first_nearest Upper x y (pos 999999998255848) (not_true _ (first_least y)) x first in (
      up,
      second_nearest Upper (pos 999999998255848) y (pos 600000000996659) refl y
          (second_nearer x (pos 999999998255848) y up second),
    ))

pub tight_down : IsTight chain Main Lower ceiling_twice
tight_down = both_beyond Lower _ _ refl (λ x y first second.
    let low = second_nearest Lower x y (pos 600000000996658) (not_true _ (second_greatest x)) y second in (
      first_nearest Lower x (pos 600000000996658) (pos 999999998255847) refl x
          (first_nearer x y (pos 600000000996658) low first),
      low,
    ))
