-- Verdicts on valves with a capacity.
use Rattle.std.proofs.Common.{◌≡◌, ℕ, Bool, true, false, List, Option, None, refl, sym, inl, inr, ◌⊎◌, true≢false}
use Rattle.hyd_num.specs.declared.flow_units.FlowUnit.{FlowUnit}
use Rattle.hyd_spec_lines.specs.Lines.{Row}
use Rattle.hyd_net.specs.declared.refusal_cause.Cause.{Cause}
use Rattle.hyd_spec_input.specs.CapacitiesOutOfRange.{IsRefusedValve}
use Rattle.hyd_spec_input.specs.Columns.{amount}
use Rattle.hyd_spec_input.specs.NodeAndLinkRows.{is_throttle, is_general, valve_minor}
use Rattle.hyd_rows_and_tables.proofs.WrongInSectionLemmas.{fault_then_alike}
use Rattle.hyd_rows_and_tables.specs.QuantityRanges.{flow_fault}
use Rattle.hyd_rows_and_tables.specs.WrongInSection.{IsCapacityFault, IsFaultThen}
use Rattle.hyd_judge_links_controls_and_rules.specs.LinkFaults.{setting_fault, IsRefusedValveOf}
use Rattle.hyd_theorems_on_input.proofs.RowsWithoutFault.{or_last}

-- the verdict on a throttle control valve
pub throttle_verdict : (rows : List Row) (unit : FlowUnit) (words : List (List ℕ)) (us : Bool) (cause : Option Cause)
    → is_throttle words ≡ true → is_general words ≡ false
    → IsCapacityFault (IsRefusedValve (amount 3 words) (valve_minor words) us ⊎ IsRefusedValve (amount 3 words)
    (amount 5 words) us) cause
    → IsFaultThen (setting_fault rows unit words) (IsRefusedValveOf us words) cause
throttle_verdict rows unit words us cause t g refused =
    rw (t, g) (fault_then_alike None
    (IsRefusedValve (amount 3 words) (valve_minor words) us ⊎ IsRefusedValve (amount 3 words) (amount 5 words) us)
    ((false ≡ false) × (IsRefusedValve (amount 3 words) (valve_minor words) us
    ⊎ ((true ≡ true) × IsRefusedValve (amount 3 words) (amount 5 words) us)))
    cause
    (λ w. elim w [ inl a ↦ (refl, inl a) | inr b ↦ (refl, inr (refl, b)) ])
    (λ w. elim w.1 [ inl a ↦ inl a | inr b ↦ inr b.1 ])
    refused)

-- the verdict on a flow control valve
pub flow_verdict : (rows : List Row) (unit : FlowUnit) (words : List (List ℕ)) (us : Bool) (cause : Option Cause)
    → is_throttle words ≡ false → is_general words ≡ false
    → IsFaultThen (flow_fault unit (amount 5 words)) (IsRefusedValve (amount 3 words) (valve_minor words) us) cause
    → IsFaultThen (setting_fault rows unit words) (IsRefusedValveOf us words) cause
flow_verdict rows unit words us cause t g refused =
    rw (t, g, or_last (flow_fault unit (amount 5 words)))
    (fault_then_alike (flow_fault unit (amount 5 words)) (IsRefusedValve (amount 3 words) (valve_minor words) us)
    ((false ≡ false) × (IsRefusedValve (amount 3 words) (valve_minor words) us
    ⊎ ((false ≡ true) × IsRefusedValve (amount 3 words) (amount 5 words) us)))
    cause
    (λ w. (refl, inl w))
    (λ w. elim w.1 [ inl a ↦ a | inr b ↦ absurd (true≢false (sym b.0)) ])
    refused)
