-- The earlier of two findings of different kinds.
use Rattle.std.proofs.Common.{◌<◌, ◌≤◌, ℕ, List, length, Option, Some, None, arith, inl, inr, nat_lt, ltb-true}
use Rattle.std.proofs.Common.{ltb-false}
use Rattle.std.proofs.lemmas.Bool.{cases_Bool}
use Rattle.std.proofs.lemmas.Option.{slice_get_within}
use Rattle.hyd_spec_lines.specs.Lines.{Row}
use Rattle.hyd_net.specs.declared.refusal_cause.Cause.{Cause}
use Rattle.hyd_rows_and_tables.specs.declared.first_wrong.Found.{Found}
use Rattle.hyd_rows_and_tables.specs.FirstWrongRow.{HasFound, Either, least}

pub found_least : (rows : List Row) (One Other : ℕ → Cause → Type 0) (n : ℕ) (one other : Option Found)
    → length rows ≤ n
    → HasFound rows One n one → HasFound rows Other n other → HasFound rows (Either One Other) n (least one other)
found_least rows One Other n None None all a b = λ k l cause w. elim w [ inl u ↦ a k l cause u | inr v ↦ b k l cause v ]
found_least rows One Other n None (Some other) all a b =
    let within : other.place < length rows = slice_get_within rows other.place b.row b.row_is in
    record {
      wrong = inr b.wrong;
      row = b.row;
      row_is = b.row_is;
      line_is = b.line_is;
      earlier = λ k l cause w.
          elim w [ inl u ↦ a k (omega (arith, l, within, all)) cause u | inr v ↦ b.earlier k l cause v ];
    }
found_least rows One Other n (Some one) None all a b =
    let within : one.place < length rows = slice_get_within rows one.place a.row a.row_is in
    record {
      wrong = inl a.wrong;
      row = a.row;
      row_is = a.row_is;
      line_is = a.line_is;
      earlier = λ k l cause w.
          elim w [ inl u ↦ a.earlier k l cause u | inr v ↦ b k (omega (arith, l, within, all)) cause v ];
    }
found_least rows One Other n (Some one) (Some other) all a b = elim (cases_Bool (nat_lt other.place one.place)) [
  | inl t ↦ (let before : other.place < one.place = ltb-true other.place one.place t in
      rw t (record {
        wrong = inr b.wrong;
        row = b.row;
        row_is = b.row_is;
        line_is = b.line_is;
        earlier = λ k l cause w.
            elim w [ inl u ↦ a.earlier k (omega (arith, l, before)) cause u | inr v ↦ b.earlier k l cause v ];
      }))
  | inr f ↦ (let before : one.place ≤ other.place = ltb-false other.place one.place f in
      rw f (record {
        wrong = inl a.wrong;
        row = a.row;
        row_is = a.row_is;
        line_is = a.line_is;
        earlier = λ k l cause w.
            elim w [ inl u ↦ a.earlier k l cause u | inr v ↦ b.earlier k (omega (arith, l, before)) cause v ];
      }))
]
