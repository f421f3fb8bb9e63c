-- Instants at which the rules are tried, one after another.
use Rattle.std.proofs.Common.{◌≡◌, ℕ, ◌+◌, ◌*◌, ◌-◌, ◌/◌, ◌%◌, ◌<◌, ◌≤◌, ap, ◌∙◌, subst, arith, inl, inr}
use Rattle.std.proofs.lemmas.Nat.{div-add-mod'}
use Rattle.std.proofs.lemmas.Bool.{cases_lt}
use Rattle.std.proofs.Math.Nat.{mul-le-mul_right, mod-lt, mul-mod_left}
use Rattle.hyd_spec.specs.ProgramTypes.{Project}
use Rattle.hyd_spec_certificates.specs.PeriodNetwork.{Grid}
use Rattle.hyd_spec.specs.PeriodLength.{IsLeast}
use Rattle.hyd_spec_certificates.specs.RecordAndStanding.{Record, Standing}
use Rattle.hyd_spec_certificates.specs.Decided.{RulesMatter}
use Rattle.hyd_theorems_on_nesting.specs.FirstAmongWatched.{IsWalked}

-- a multiple is its quotient times the step
whole-part : (n r : ℕ) → n % r ≡ 0 → n ≡ (n / r) * r
whole-part n r e = omega (arith, div-add-mod' n r, e)

-- the next multiple is a step later
pub a_step_later : (n m r : ℕ) → n % r ≡ 0 → m % r ≡ 0 → n < m → n + r ≤ m
a_step_later n m r p q less = elim (cases_lt (n / r) (m / r)) [
  | inl lt ↦
      let a = whole-part n r p in let b = whole-part m r q in
      let more : (n / r) + 1 ≤ m / r = omega (arith, lt) in
      let c : ((n / r) + 1) * r ≤ (m / r) * r = mul-le-mul_right r more in
      omega (arith, a, b, c)
  | inr ge ↦ absurd (
      let a = whole-part n r p in let b = whole-part m r q in
      let c : (m / r) * r ≤ (n / r) * r = mul-le-mul_right r ge in
      omega (arith, a, b, c, less))
]

-- from a time the first multiple after it
pub first_after : (time r : ℕ) → 1 ≤ r → ((time + (r - time % r)) % r ≡ 0) → (k : ℕ) → 0 < k → (time + k) % r ≡ 0
    → r - time % r ≤ k
first_after time r some is k later tried = elim (cases_lt k (r - time % r)) [
  | inl less ↦ absurd (
      let a = a_step_later (time + k) (time + (r - time % r)) r tried is (omega (arith, less)) in
      omega (arith, a, later))
  | inr more ↦ more
]

-- the time less what it is past a multiple, and a step more, is a multiple
pub first_multiple : (n r : ℕ) → 1 ≤ r → (n + (r - n % r)) % r ≡ 0
first_multiple n r some =
    let a = div-add-mod' n r in
    let b : n % r < r = mod-lt n some in
    let e : n + (r - n % r) ≡ ((n / r) + 1) * r = omega (arith, a, b) in
    ap (λ (m : ℕ). m % r) e ∙ mul-mod_left ((n / r) + 1) r

module _ (project : Project) (grid : Grid) (standing : Standing) (row : Record) where
  pub walk_on : (current : ℕ) → (standing.time + current) % project.times.rule ≡ 0
      → (RulesMatter project grid standing row current → ⊥) → IsWalked project grid standing row current
      → IsWalked project grid standing row (current + project.times.rule)
  walk_on current tried idle walked = record {
    none_before = λ k matters.
        let l = walked.none_before k matters in
        elim (cases_lt current k) [
          | inl less ↦ let a = a_step_later (standing.time + current) (standing.time + k)
              project.times.rule tried matters.tried.is_multiple (omega (arith, less)) in omega (arith, a)
          | inr more ↦ let e : k ≡ current = omega (arith, l, more) in
              absurd (idle (subst (RulesMatter project grid standing row) e matters))
        ];
  }

  pub walk_begins : 1 ≤ project.times.rule
      → IsWalked project grid standing row (project.times.rule - standing.time % project.times.rule)
  walk_begins some = record {
    none_before = λ k matters. first_after standing.time project.times.rule some
        (first_multiple standing.time project.times.rule some) k matters.tried.later matters.tried.is_multiple;
  }

  pub found : (current : ℕ) → RulesMatter project grid standing row current → IsWalked project grid standing row current
      → IsLeast (RulesMatter project grid standing row) current
  found current matters walked = record { holds = matters; least = λ k other. walked.none_before k other }
