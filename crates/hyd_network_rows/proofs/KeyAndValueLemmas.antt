-- Pairs of a pump's row.
use Rattle.std.proofs.Common.{◌≡◌, ℕ, List, [], ◌∷◌, codes, Option, Some, None, Result, refl, subst, inl, inr, pos}
use Rattle.std.proofs.lemmas.Bool.{cases_Bool}
use lib.Signed.{le_z}
use Rattle.std.specs.Prelude.{◌&&◌}
use Rattle.hyd_num.specs.Numeral.{nano_of}
use Rattle.hyd_num.specs.declared.decimals.Decimal.{Decimal}
use Rattle.hyd_spec_lines.specs.WordsOfLines.{is_keyword}
use Rattle.hyd_option_and_rule_lines.specs.FaultOrValue.{Judged}
use Rattle.hyd_spec_input.specs.Columns.{number, or_else, unless, up_to, units}
use Rattle.hyd_spec_input.specs.NodeAndLinkRows.{pump_key, pump_value, pump_pairs, none_earlier, and_key, pair_value}
use Rattle.hyd_spec_input.specs.NodeAndLinkRows.{speed_of}
use Rattle.hyd_spec_input.specs.declared.EarlierKeys.{EarlierKeys}
use Rattle.hyd_net.specs.declared.refusal_cause.Cause.{Cause}
use Rattle.hyd_net.specs.declared.refusal_cause.Cause.TheVariants.{Range}
use Rattle.hyd_theorems_on_input.proofs.RowsWithoutFault.{or_none}

nothing_more : (fault : Option Cause) → fault ≡ or_else fault None
nothing_more None = refl
nothing_more (Some cause) = refl

-- a pair without a fault
pub pair_more : (earlier next : EarlierKeys) (key value : List ℕ) (all behind rest : List (List ℕ)) → all ≡ key ∷ behind
    → behind ≡ value ∷ rest → pump_key earlier key ≡ None → pump_value key value ≡ None → next ≡ and_key earlier key
    → pump_pairs next rest ≡ pump_pairs earlier all
pair_more earlier next key value all behind rest a b k v n =
    rw (a, b, k, v, n) (nothing_more (pump_pairs (and_key earlier key) rest))

-- the speed among right pairs is a number
pub speed_is_number : (earlier : EarlierKeys) (words : List (List ℕ)) (word : List ℕ) → pump_pairs earlier words ≡ None
    → pair_value (codes "SPEED") words ≡ Some word → number word ≡ None
speed_is_number earlier [] word right found = absurd (let x : ⊥ = cc in x)
speed_is_number earlier (key ∷ []) word right found = absurd (let x : ⊥ = cc in x)
speed_is_number earlier (key ∷ value ∷ words) word right found =
    let later = pump_pairs (and_key earlier key) words in
    let all = or_none (pump_key earlier key) (or_else (pump_value key value) (or_else later None)) right in
    let behind = or_none (pump_value key value) (or_else later None) all.1 in
    let rest = or_none later None behind.1 in
    elim (cases_Bool (is_keyword (codes "SPEED") key)) [
      | inl is ↦ (let same : Some value ≡ Some word = rw is at found in
          let speed : up_to 10 value ≡ None = rw is at behind.0 in
          let number_is = or_none (number value)
          (unless (le_z (pos 0) (nano_of value) && le_z (nano_of value) (units 10)) Range) speed in
          let equal : value ≡ word = cc in
          rw (← equal) number_is.0)
      | inr other ↦ (let next : pair_value (codes "SPEED") words ≡ Some word = rw other at found in
          speed_is_number (and_key earlier key) words word rest.0 next)
    ]

pub speed_is_right : (words : List (List ℕ)) (word : List ℕ) (result : Result Decimal Cause)
    → pump_pairs none_earlier words ≡ None → pair_value (codes "SPEED") words ≡ Some word
    → Judged (number word) result (λ (speed : Decimal). speed.nano ≡ nano_of word)
    → Judged None result (λ (speed : Decimal). speed.nano ≡ speed_of (pair_value (codes "SPEED") words))
speed_is_right words word result right found judged =
    let P : Option Cause → Type 0 = λ fault. Judged fault result (λ (speed : Decimal). speed.nano ≡ nano_of word) in
    rw found (subst P (speed_is_number none_earlier words word right found) judged)
