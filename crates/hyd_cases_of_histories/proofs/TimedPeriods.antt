-- When the periods of the network with controls by time end.
use Rattle.std.proofs.Common.{◌≡◌, ◌≢◌, ℕ, zero, suc, ◌+◌, ◌-◌, ◌%◌, ◌<◌, ◌≤◌, ◌⊎◌, inl, inr, [], ◌∷◌, refl, sym, subst}
use Rattle.std.proofs.Common.{arith, lit<}
use Rattle.std.specs.Prelude.{Contains}
use Rattle.hyd_spec.specs.ProgramTypes.{Control, AtTime, AtClock, LinkState, Open, Closed}
use Rattle.hyd_spec.specs.PeriodLength.{EndsByClock, step, duration, pattern, report, control_time, control_clock}
use Rattle.hyd_spec.specs.PeriodLength.{EndsByLevel, full, empty, control as at_control, MayEnd, by_clock, by_level}
use Rattle.hyd_spec.specs.PeriodLength.{by_rules}
use Rattle.hyd_spec.specs.PeriodLength.{HasItsLength, before_end}
use Rattle.hyd_cases_of_histories.specs.OneLink.{network_of}
use Rattle.hyd_cases_of_histories.specs.Timed.{timed_spur, closing, opening, still}

-- a control is one of the two
one_of_two : (each : Control) → Contains (closing ∷ opening ∷ []) each → (each ≡ closing) ⊎ (each ≡ opening)
one_of_two each (zero, less, at) = inl (sym at)
one_of_two each (suc zero, less, at) = inr (sym at)
one_of_two each (suc (suc k), less, at) = absurd (omega (arith, less))

-- the control by time acts at 1000 s, the one by the clock at 2:00
at_time : (each : Control) (e : ℕ) → Contains (closing ∷ opening ∷ []) each → each.when ≡ AtTime e → e ≡ 1000
at_time each e contained acts = elim (one_of_two each contained) [
  | inl same ↦ let when : AtTime 1000 ≡ AtTime e = cc in cc
  | inr same ↦ let when : AtClock 7200 ≡ AtTime e = cc in absurd (cc)
]

at_clock : (each : Control) (at : ℕ) → Contains (closing ∷ opening ∷ []) each → each.when ≡ AtClock at → at ≡ 7200
at_clock each at contained acts = elim (one_of_two each contained) [
  | inl same ↦ let when : AtTime 1000 ≡ AtClock at = cc in absurd (cc)
  | inr same ↦ let when : AtClock 7200 ≡ AtClock at = cc in cc
]

-- what ends a period by the clock comes after its start, and is one of these instants
pub instants : (time e : ℕ) → EndsByClock (network_of timed_spur) time e
    → (time < e) × ((e ≡ time + 3600) ⊎ ((e ≡ 4000) ⊎ ((e % 7200 ≡ 0) ⊎ ((e ≡ 1000) ⊎ ((e + 6000) % 86400 ≡ 7200)))))
instants time e (step later is) = (later, inl is)
instants time e (duration later is) = (later, inr (inl is))
instants time e (pattern later begins) = (
  later,
  inr (inr (inl (let z : e + 0 ≡ e = omega arith in
      subst (λ (n : ℕ). n % 7200 ≡ 0) z begins))),
)
instants time e (report later started begins) = (
  later,
  inr (inr (inl (let z : e - 0 ≡ e = omega arith in
      subst (λ (n : ℕ). n % 7200 ≡ 0) z begins))),
)
instants time e (control_time each contained acts later) = (
  later,
  inr (inr (inr (inl
      (at_time each e contained acts)))),
)
instants time e (control_clock each at contained acts shows later) = (
  later,
  inr (inr (inr (inr (let is = at_clock each at contained acts in
      let so : (e + 6000) % 86400 ≡ 7200 = cc in so)))),
)

-- a period ends where the clock ends it first
pub lasts : (time length : ℕ) (state : LinkState) → time ≢ 4000
    → EndsByClock (network_of timed_spur) time (time + length)
    → ((e : ℕ) → EndsByClock (network_of timed_spur) time e → time + length ≤ e)
    → HasItsLength (network_of timed_spur) 1 (still time length state)
lasts time length state early ends first = before_end early (record { holds = by_clock ends; least = least })
  where
    no_control : (e : ℕ) (seconds : ℕ)
        → EndsByLevel (network_of timed_spur) 1 (still time length state) seconds → time + length ≤ e
    no_control e seconds (full k tank is other reached) = absurd (cc)
    no_control e seconds (empty k tank is other reached) = absurd (cc)
    no_control e seconds (at_control each k above ticks tank contained is_level is before reached) = absurd (cc)

    least : (e : ℕ) → MayEnd (network_of timed_spur) 1 (still time length state) e → time + length ≤ e
    least e (by_clock clock) = first e clock
    least e (by_level seconds some is level) = no_control e seconds level
    least e (by_rules rules) = absurd (rules.changes refl)

pub from_start : (e : ℕ) → EndsByClock (network_of timed_spur) 0 e → 1000 ≤ e
from_start e ends = elim (instants 0 e ends).1 [
  | inl is ↦ omega (arith, is)
  | inr (inl is) ↦ omega (arith, is)
  | inr (inr (inl is)) ↦ let later = (instants 0 e ends).0 in omega (arith, is, later)
  | inr (inr (inr (inl is))) ↦ omega (arith, is)
  | inr (inr (inr (inr is))) ↦ omega (arith, is)
]

pub from_closed : (e : ℕ) → EndsByClock (network_of timed_spur) 1000 e → 1200 ≤ e
from_closed e ends = let later = (instants 1000 e ends).0 in elim (instants 1000 e ends).1 [
  | inl is ↦ omega (arith, is)
  | inr (inl is) ↦ omega (arith, is)
  | inr (inr (inl is)) ↦ omega (arith, is, later)
  | inr (inr (inr (inl is))) ↦ absurd (omega (arith, is, later))
  | inr (inr (inr (inr is))) ↦ omega (arith, is, later)
]

pub from_opened : (e : ℕ) → EndsByClock (network_of timed_spur) 1200 e → 4000 ≤ e
from_opened e ends = let later = (instants 1200 e ends).0 in elim (instants 1200 e ends).1 [
  | inl is ↦ omega (arith, is)
  | inr (inl is) ↦ omega (arith, is)
  | inr (inr (inl is)) ↦ omega (arith, is, later)
  | inr (inr (inr (inl is))) ↦ absurd (omega (arith, is, later))
  | inr (inr (inr (inr is))) ↦ omega (arith, is, later)
]

pub time_ends : (time : ℕ) → time < 1000 → EndsByClock (network_of timed_spur) time 1000
time_ends time later = control_time closing (0, lit< tt, refl) refl later

pub clock_ends : (time : ℕ) → time < 1200 → EndsByClock (network_of timed_spur) time 1200
clock_ends time later = control_clock opening 7200 (1, lit< tt, refl) refl refl later

pub first_lasts : HasItsLength (network_of timed_spur) 1 (still 0 1000 Open)
first_lasts = lasts 0 1000 Open (λ is. omega (arith, is)) (time_ends 0 (lit< tt)) from_start

pub second_lasts : HasItsLength (network_of timed_spur) 1 (still 1000 200 Closed)
second_lasts = lasts 1000 200 Closed (λ is. omega (arith, is)) (clock_ends 1000 (lit< tt)) from_closed

pub third_lasts : HasItsLength (network_of timed_spur) 1 (still 1200 2800 Open)
third_lasts = lasts 1200 2800 Open (λ is. omega (arith, is)) (duration (lit< tt) refl) from_opened
