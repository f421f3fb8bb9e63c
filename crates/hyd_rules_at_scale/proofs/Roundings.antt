-- Rounding a multiple of a value in two steps.
use Rattle.std.proofs.Common.{◌≡◌, ℕ, ◌*◌, ◌/◌, ◌%◌, ◌<◌, ◌≤◌, ℤ, pos, ◌+ℤ◌, ◌*ℤ◌, ◌≤ℤ◌, ◌<ℤ◌, sym, ap, ◌∙◌, arith}
use Rattle.std.proofs.Common.{mul-pos, subst}
use Rattle.std.specs.Int.{div_ceil}
use Rattle.std.proofs.lemmas.Int.{ints, by_lt_z}
use Rattle.std.proofs.lemmas.Grind.{div_ceil_times}
use Rattle.std.proofs.Math.Nat.{mul_comm, div-le_self}
use Rattle.std.proofs.Math.IntN.{*ℤ_comm}
use Rattle.hyd_num.proofs.Integers.{times_plus, times_one, times_rises, times_reflects, times_times, one_times}
use Rattle.hyd_num.specs.QuotientsAndRoots.{IsFloor, IsCeiling}
use Rattle.hyd_lemmas.proofs.Integers.{exchanged}

-- ---- in two steps

module _ (of parts den count : ℕ) (num value : ℤ) (some_of : 0 < of) (some_parts : 0 < parts) (some : 0 < den)
    (same : pos (of * parts) *ℤ num ≡ pos den *ℤ value) where
  whole : (k : ℤ) → pos (of * parts) *ℤ (k *ℤ pos den) ≡ pos den *ℤ ((k *ℤ pos parts) *ℤ pos of)
  whole k =
      ap (λ (y : ℤ). pos (of * parts) *ℤ y) (*ℤ_comm k (pos den)) ∙ exchanged den (of * parts) k
      ∙ ap (λ (y : ℤ). pos den *ℤ y) (sym (times_times of parts k)
      ∙ ap (λ (y : ℤ). pos of *ℤ y) (*ℤ_comm (pos parts) k) ∙ *ℤ_comm (pos of) (k *ℤ pos parts))

  times : pos (of * parts) *ℤ (pos count *ℤ num) ≡ pos den *ℤ (pos count *ℤ value)
  times =
      exchanged count (of * parts) num ∙ ap (λ (y : ℤ). pos count *ℤ y) same ∙ exchanged den count value

  many : 0 < of * parts
  many = mul-pos some_of some_parts

  below : (k : ℤ) → ((k *ℤ pos parts) *ℤ pos of) ≤ℤ (pos count *ℤ value) → (k *ℤ pos den) ≤ℤ (pos count *ℤ num)
  below k h =
      let l = times_rises den ((k *ℤ pos parts) *ℤ pos of) (pos count *ℤ value) h in
      times_reflects (of * parts) (k *ℤ pos den) (pos count *ℤ num) many (omega (arith, ints, l, whole k, times))

  below_too : (k : ℤ) → (k *ℤ pos den) ≤ℤ (pos count *ℤ num) → ((k *ℤ pos parts) *ℤ pos of) ≤ℤ (pos count *ℤ value)
  below_too k h =
      let l = times_rises (of * parts) (k *ℤ pos den) (pos count *ℤ num) h in
      times_reflects den ((k *ℤ pos parts) *ℤ pos of) (pos count *ℤ value) some
      (omega (arith, ints, l, whole k, times))

  above : (k : ℤ) → (pos count *ℤ value) ≤ℤ ((k *ℤ pos parts) *ℤ pos of) → (pos count *ℤ num) ≤ℤ (k *ℤ pos den)
  above k h =
      let l = times_rises den (pos count *ℤ value) ((k *ℤ pos parts) *ℤ pos of) h in
      times_reflects (of * parts) (pos count *ℤ num) (k *ℤ pos den) many (omega (arith, ints, l, whole k, times))

  above_too : (k : ℤ) → (pos count *ℤ num) ≤ℤ (k *ℤ pos den) → (pos count *ℤ value) ≤ℤ ((k *ℤ pos parts) *ℤ pos of)
  above_too k h =
      let l = times_rises (of * parts) (pos count *ℤ num) (k *ℤ pos den) h in
      times_reflects den (pos count *ℤ value) ((k *ℤ pos parts) *ℤ pos of) some
      (omega (arith, ints, l, whole k, times))

  once : (z : ℤ) → pos 1 *ℤ z ≡ z
  once z = one_times z

  more : (a b : ℤ) → a ≤ℤ b → (a *ℤ pos of) ≤ℤ (b *ℤ pos of)
  more a b h =
      let l = times_rises of a b h in
      omega (arith, ints, l, *ℤ_comm a (pos of), *ℤ_comm b (pos of))

  pub floor_over : (low r : ℤ) → IsFloor (pos count *ℤ value) (pos of) low → IsFloor (pos 1 *ℤ low) (pos parts) r
      → IsFloor (pos count *ℤ num) (pos den) r
  floor_over low r first second = record {
    at_most =
        let l = more (r *ℤ pos parts) low (let a = second.at_most in omega (arith, ints, a, once low)) in
        let a = first.at_most in
        below r (omega (arith, ints, l, a));
    greatest = λ k h.
        let l = first.greatest (k *ℤ pos parts) (below_too k h) in
        second.greatest k (omega (arith, ints, l, once low));
  }

  pub ceiling_over : (high r : ℤ) → IsCeiling (pos count *ℤ value) (pos of) high
      → IsCeiling (pos 1 *ℤ high) (pos parts) r → IsCeiling (pos count *ℤ num) (pos den) r
  ceiling_over high r first second = record {
    at_least =
        let l = more high (r *ℤ pos parts) (let a = second.at_least in omega (arith, ints, a, once high)) in
        let a = first.at_least in
        above r (omega (arith, ints, l, a));
    least = λ k h.
        let l = first.least (k *ℤ pos parts) (above_too k h) in
        second.least k (omega (arith, ints, l, once high));
  }

-- ---- in one step

floor_between : (n : ℤ) (d : ℕ) (r : ℤ) → 0 < d → (pos d *ℤ r) ≤ℤ n → n <ℤ ((pos d *ℤ r) +ℤ pos d)
    → IsFloor n (pos d) r
floor_between n d r some from to = record {
  at_most = rw *ℤ_comm from;
  greatest = λ k h. by_lt_z r k (λ lt.
      let l = times_rises d (r +ℤ pos 1) k (omega (arith, ints, lt)) in
      let below : (pos d *ℤ k) ≤ℤ n = rw *ℤ_comm h in
      absurd (omega (arith, ints, l, below, to, times_plus d r (pos 1), times_one d))) (λ ge. ge);
}

ceiling_between : (n : ℤ) (d : ℕ) (r : ℤ) → 0 < d → n ≤ℤ (pos d *ℤ r) → (pos d *ℤ r) <ℤ (n +ℤ pos d)
    → IsCeiling n (pos d) r
ceiling_between n d r some to from = record {
  at_least = rw *ℤ_comm to;
  least = λ k h. by_lt_z k r (λ lt.
      let l = times_rises d (k +ℤ pos 1) r (omega (arith, ints, lt)) in
      let above : n ≤ℤ (pos d *ℤ k) = rw *ℤ_comm h in
      absurd (omega (arith, ints, l, above, from, times_plus d k (pos 1), times_one d))) (λ ge. ge);
}

-- so many times a whole number and a part, over one denominator
spread : (count of part : ℕ) (whole : ℤ) → pos count *ℤ ((pos of *ℤ whole) +ℤ pos part)
    ≡ (pos of *ℤ (pos count *ℤ whole)) +ℤ pos (count * part)
spread count of part whole = times_plus count (pos of *ℤ whole) (pos part)
    ∙ ap (λ (z : ℤ). z +ℤ pos (count * part)) (exchanged of count whole)

pub floor_with_part : (count of part : ℕ) (whole r : ℤ) → 0 < of
    → r ≡ (pos count *ℤ whole) +ℤ pos (count * part / of)
    → IsFloor (pos count *ℤ ((pos of *ℤ whole) +ℤ pos part)) (pos of) r
floor_with_part count of part whole r some is =
    let p = count * part in
    let value = pos count *ℤ ((pos of *ℤ whole) +ℤ pos part) in
    let e = spread count of part whole in
    let f = times_plus of (pos count *ℤ whole) (pos (p / of)) in
    let parts : pos p ≡ pos (of * (p / of)) +ℤ pos (p % of) = omega (arith, ints, some) in
    subst (λ (z : ℤ). IsFloor value (pos of) z) (sym is)
    (floor_between value of ((pos count *ℤ whole) +ℤ pos (p / of)) some (omega (arith, ints, e, f, parts))
    (omega (arith, ints, e, f, parts, some)))

pub ceiling_with_part : (count of part : ℕ) (whole r : ℤ) → 0 < of
    → r ≡ (pos count *ℤ whole) +ℤ pos (div_ceil (count * part) of)
    → IsCeiling (pos count *ℤ ((pos of *ℤ whole) +ℤ pos part)) (pos of) r
ceiling_with_part count of part whole r some is =
    let p = count * part in
    let c = div_ceil p of in
    let value = pos count *ℤ ((pos of *ℤ whole) +ℤ pos part) in
    let e = spread count of part whole in
    let f = times_plus of (pos count *ℤ whole) (pos c) in
    let b = div_ceil_times p of some in
    let turned = mul_comm c of in
    subst (λ (z : ℤ). IsCeiling value (pos of) z) (sym is)
    (ceiling_between value of ((pos count *ℤ whole) +ℤ pos c) some (omega (arith, ints, e, f, b.0, turned))
    (omega (arith, ints, e, f, b.1, turned)))

-- a quotient is at most what is divided
pub quotient_within : (n d : ℕ) → 0 < d → n / d ≤ n
quotient_within n d some = div-le_self n d
