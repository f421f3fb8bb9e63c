use Rattle.std.proofs.Common.{◌≡◌, pos, ◌-ℤ◌, ◌*ℤ◌, neg_ℤ, to_z, of_z, ap, ◌∙◌, arith, ◌≤ℤ◌, ◌^◌}
use Rattle.std.specs.Int.{w128, int_div_euclid}
use Rattle.std.proofs.lemmas.Int.{ints, to_z-of_z}
use Rattle.hyd_num.specs.Rational.{Rational}
use Rattle.hyd_lemmas.proofs.Integers.{floor_greatest}
use Rattle.hyd_laws_at_scale.proofs.simple_windows.linear.Goals as goal

pub returns : goal.returns
returns c = λ S. record {
  in_range = record { difference = c.requires; parts = tt };
  low_is =
      let inner : to_z w128 (of_z w128 (pos 8026822656 *ℤ to_z w128 (of_z w128 c.from-flow.result)))
      ≡ pos 8026822656 *ℤ c.args.d = omega (arith, ints, c.from-flow.ensures, c.requires) in
      c.window_of.ensures.low
      ∙ (to_z-of_z w128 c.div_euclid-low.result (record { sfits = c.div_euclid-low.type_inv })
      ∙ (c.div_euclid-low.ensures ∙ ap (λ z. int_div_euclid z (pos 1000000)) inner));
  high_is =
      let inner : to_z w128 (of_z w128 (pos 0 -ℤ to_z w128 (of_z w128 (pos 8026822656
      *ℤ to_z w128 (of_z w128 c.from-flow.result))))) ≡ neg_ℤ (pos 8026822656 *ℤ c.args.d) =
      omega (arith, ints, c.from-flow.ensures, c.requires) in
      let value : c.div_euclid-high.result ≡ int_div_euclid (neg_ℤ (pos 8026822656 *ℤ c.args.d)) (pos 1000000) =
      c.div_euclid-high.ensures ∙ ap (λ z. int_div_euclid z (pos 1000000)) inner in
      let x : Rational = record { num = neg_ℤ (pos 8026822656 *ℤ c.args.d); den = 1000000 } in
      let least : neg_ℤ (pos (10 ^ 30)) ≤ℤ int_div_euclid (neg_ℤ (pos 8026822656 *ℤ c.args.d)) (pos 1000000) =
      floor_greatest x (neg_ℤ (pos (10 ^ 30))) (omega arith) (omega (arith, ints, c.requires)) in
      let turned : c.window_of.result.high ≡ neg_ℤ c.div_euclid-high.result =
      omega (arith, ints, c.window_of.ensures.high, value, least, c.div_euclid-high.type_inv) in
      turned ∙ ap neg_ℤ value;
}
