-- What is said part by part.
use Rattle.std.proofs.Common.{◌≡◌, ℕ, ◌+◌, Bool, true, false, ◌||◌, List, [], ◌∷◌, ◌++◌, length, refl, arith}
use Rattle.std.proofs.Common.{append_assoc}
use Rattle.std.specs.Prelude.{filter}
use Rattle.std.specs.List.{list_any}
use Rattle.std.proofs.lemmas.List.Elements.{filter_map-append}
use Rattle.hyd_command_words.specs.OptionsAndNames.{Part, Said, sweeps, width, slack, flows, spread, tight, name, wrong}
use Rattle.hyd_command_words.specs.OptionsAndNames.{sweeps_value, width_value, slack_value, flows_value, spread_value}
use Rattle.hyd_command_words.specs.OptionsAndNames.{named}
use Rattle.hyd_command_words.specs.OptionsAndNames.{is_tight, is_wrong, said_by}

-- what is said first, and then this
abbrev pub joined : Said → Said → Said
joined first next = record {
  sweeps_values = first.sweeps_values ++ next.sweeps_values;
  width_values = first.width_values ++ next.width_values;
  slack_values = first.slack_values ++ next.slack_values;
  flows_values = first.flows_values ++ next.flows_values;
  spread_values = first.spread_values ++ next.spread_values;
  tight_count = first.tight_count + next.tight_count;
  names = first.names ++ next.names;
  has_wrong = first.has_wrong || next.has_wrong;
}

or_assoc : (a b c : Bool) → ((a || b) || c) ≡ (a || (b || c))
or_assoc true b c = refl
or_assoc false b c = refl

add_assoc : (a b c : ℕ) → (a + b) + c ≡ a + (b + c)
add_assoc a b c = omega arith

pub joined_assoc : (a b c : Said) → joined (joined a b) c ≡ joined a (joined b c)
joined_assoc a b c = λ i. record {
  sweeps_values = append_assoc a.sweeps_values b.sweeps_values c.sweeps_values i;
  width_values = append_assoc a.width_values b.width_values c.width_values i;
  slack_values = append_assoc a.slack_values b.slack_values c.slack_values i;
  flows_values = append_assoc a.flows_values b.flows_values c.flows_values i;
  spread_values = append_assoc a.spread_values b.spread_values c.spread_values i;
  tight_count = add_assoc a.tight_count b.tight_count c.tight_count i;
  names = append_assoc a.names b.names c.names i;
  has_wrong = or_assoc a.has_wrong b.has_wrong c.has_wrong i;
}

wrong_first : (p : Part) (ps : List Part)
    → (is_wrong p || list_any is_wrong ps) ≡ ((is_wrong p || false) || list_any is_wrong ps)
wrong_first (sweeps v) ps = refl
wrong_first (width v) ps = refl
wrong_first (slack v) ps = refl
wrong_first (flows v) ps = refl
wrong_first (spread v) ps = refl
wrong_first tight ps = refl
wrong_first (name v) ps = refl
wrong_first wrong ps = refl

tight_first : (p : Part) (ps : List Part)
    → length (filter is_tight (p ∷ ps)) ≡ length (filter is_tight (p ∷ [])) + length (filter is_tight ps)
tight_first (sweeps v) ps = omega arith
tight_first (width v) ps = omega arith
tight_first (slack v) ps = omega arith
tight_first (flows v) ps = omega arith
tight_first (spread v) ps = omega arith
tight_first tight ps = omega arith
tight_first (name v) ps = omega arith
tight_first wrong ps = omega arith

pub part_first : (p : Part) (ps : List Part) → said_by (p ∷ ps) ≡ joined (said_by (p ∷ [])) (said_by ps)
part_first p ps = λ i. record {
  sweeps_values = filter_map-append sweeps_value (p ∷ []) ps i;
  width_values = filter_map-append width_value (p ∷ []) ps i;
  slack_values = filter_map-append slack_value (p ∷ []) ps i;
  flows_values = filter_map-append flows_value (p ∷ []) ps i;
  spread_values = filter_map-append spread_value (p ∷ []) ps i;
  tight_count = tight_first p ps i;
  names = filter_map-append named (p ∷ []) ps i;
  has_wrong = wrong_first p ps i;
}
