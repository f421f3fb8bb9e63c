-- The formula of head losses in a text: where no line breaks a rule of lines, its rows are all rows.
use Rattle.std.proofs.Common.{◌≡◌, List, [], ◌∷◌, Some, None, refl, sym, ap, subst}
use Rattle.std.specs.Prelude.{Bool, Result, Ok, Err}
use Rattle.hyd_spec_lines.specs.Lines.{Row, rows_in, all_rows_in, fault_in}
use Rattle.hyd_spec_lines.specs.declared.fault.LexFault.{LexFault}
use Rattle.hyd_spec_input.specs.OptionsAndTimesInForce.{has_hazen_williams}
use Rattle.hyd_spec_input.specs.SingleRows.{IsWrongBy, IsWrongByItself}
use Rattle.hyd_spec_input.specs.Faults.{NoneIs, IsWrongAlone}

pub all_rows : (items : List (Result Row LexFault)) → fault_in items ≡ None → all_rows_in items ≡ rows_in items
all_rows [] none = refl
all_rows (Ok row ∷ items) none = ap (λ rows. row ∷ rows) (all_rows items none)
all_rows (Err fault ∷ items) none = cc

-- the formula is that of the rows
pub formula_of_rows : (items : List (Result Row LexFault)) → fault_in items ≡ None
    → has_hazen_williams (all_rows_in items) ≡ has_hazen_williams (rows_in items)
formula_of_rows items none = ap has_hazen_williams (all_rows items none)

pub none_by_itself : (items : List (Result Row LexFault)) → fault_in items ≡ None → NoneIs (IsWrongAlone items)
    → NoneIs (IsWrongByItself (rows_in items))
none_by_itself items none alone =
    subst (λ (by_power : Bool). NoneIs (IsWrongBy by_power (rows_in items))) (formula_of_rows items none) alone

pub none_alone_again : (items : List (Result Row LexFault)) → fault_in items ≡ None
    → NoneIs (IsWrongByItself (rows_in items)) → NoneIs (IsWrongAlone items)
none_alone_again items none by_itself =
    subst (λ (by_power : Bool). NoneIs (IsWrongBy by_power (rows_in items))) (sym (formula_of_rows items none))
    by_itself
