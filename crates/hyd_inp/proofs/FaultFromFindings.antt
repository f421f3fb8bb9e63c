-- The fault of a text from what was found.
use Rattle.std.proofs.Common.{◌≡◌, ◌≤◌, ◌^◌, ℕ, Bool, true, false, ◌||◌, List, [], ◌∷◌, length, Some, None}
use Rattle.std.proofs.Common.{refl, sym, ap, ◌∙◌, subst, arith, inl, inr}
use Rattle.std.specs.List.{list_any}
use Rattle.std.proofs.lemmas.Bool.{cases_Bool, le-leb}
use Rattle.std.proofs.lemmas.List.{length-map}
use Rattle.std.proofs.lemmas.Option.{slice_get_within}
use Rattle.hyd_spec_lines.specs.Lines.{Row, row_of, items_of, rows_in, all_rows_in, fault_in}
use Rattle.hyd_spec_lines.specs.declared.fault.LexFault.{LexFault}
use Rattle.hyd_spec_lines.specs.declared.line.Line.{Line}
use Rattle.hyd_spec_lines.specs.declared.section.Section.TheVariants.{Reservoirs, Tanks}
use Rattle.hyd_net.specs.declared.refusal_cause.Cause.{Cause}
use Rattle.hyd_net.specs.declared.refusal_cause.Cause.TheVariants.{Missing}
use Rattle.hyd_spec_input.specs.SingleRows.{IsWrongBy, IsWrongByItself}
use Rattle.hyd_spec_input.specs.Faults.{NoneIs, IsFirst, IsFaultOf, HasNoFault, IsWrongWithOthers, IsFault, line_cause}
use Rattle.hyd_spec_input.specs.Faults.{lack, has_some, IsWrongAlone}
use Rattle.hyd_spec_input.specs.OptionsAndTimesInForce.{names_head_loss, has_hazen_williams}
use Rattle.hyd_theorems_on_input.proofs.FormulaInForce.{formula_of_rows, none_by_itself}
use Rattle.hyd_spec_input.specs.SectionsAndTables.{is_of, rows_of}
use Rattle.hyd_rows_and_tables.specs.declared.first_wrong.Found.{Found}
use Rattle.hyd_rows_and_tables.specs.FirstWrongRow.{HasFound}
use Rattle.hyd_rows_and_tables.specs.RowsOfLines.{rows_at}
use Rattle.hyd_rows_and_tables.proofs.FirstWrongRowLemmas.{first_of, none_of}
use Rattle.hyd_inp.specs.WaterSourceRows.{is_source}
use Rattle.hyd_net.specs.Sound.{IsSound}
use Rattle.hyd_net.specs.declared.project.Project.{Project}
use Rattle.hyd_spec_input.specs.Project.{IsProject}
use Rattle.hyd_theorems_on_input.proofs.RowsToProject.{all_right}
use Rattle.hyd_inp.specs.declared.fault.InpFault.{InpFault}
use Rattle.hyd_inp.specs.declared.fault.InpRefused.{InpRefused}
use Rattle.hyd_inp.specs.declared.fault.InpRefused.TheVariants.{OutOfMemory, Fault}
use Rattle.hyd_inp.specs.FaultOrNoMemory.{IfFault}

-- ---- none is wrong

-- by the formula of a text
abbrev formula : List ℕ → Bool
formula text = has_hazen_williams (all_rows_in (items_of text))

pub none_alone : (text : List ℕ) (lines : List Line) (by_power : Bool) → by_power ≡ formula text
    → HasFound (rows_at text lines) (IsWrongBy by_power (rows_at text lines)) (length lines) None
    → NoneIs (IsWrongBy (formula text) (rows_at text lines))
none_alone text lines by_power e none =
    none_of (rows_at text lines) (IsWrongBy (formula text) (rows_at text lines)) (length lines) (rw e at none)
    (omega (arith, length-map lines (row_of text)))
    (λ k cause w. slice_get_within (rows_at text lines) k w.row w.row_is)

-- by the formula of the rows, where no line breaks a rule of lines
pub none_by_rows : (text : List ℕ) (lines : List Line) → rows_at text lines ≡ rows_in (items_of text)
    → None ≡ fault_in (items_of text) → NoneIs (IsWrongBy (formula text) (rows_at text lines))
    → NoneIs (IsWrongByItself (rows_at text lines))
none_by_rows text lines rows end alone =
    let P : Bool → Type 0 = λ by_power. NoneIs (IsWrongBy by_power (rows_at text lines)) in
    subst P (formula_of_rows (items_of text) (sym end) ∙ sym (ap has_hazen_williams rows)) alone

pub none_among : (text : List ℕ) (lines : List Line)
    → HasFound (rows_at text lines) (IsWrongWithOthers (rows_at text lines)) (length lines) None
    → NoneIs (IsWrongWithOthers (rows_at text lines))
none_among text lines none =
    none_of (rows_at text lines) (IsWrongWithOthers (rows_at text lines)) (length lines) none
    (omega (arith, length-map lines (row_of text)))
    (λ k cause w. slice_get_within (rows_at text lines) k w.row w.row_is)

-- ---- the four kinds of faults, and none

pub fault_alone : (text : List ℕ) (lines : List Line) (by_power : Bool) (found : Found) → by_power ≡ formula text
    → rows_at text lines ≡ rows_in (items_of text)
    → HasFound (rows_at text lines) (IsWrongBy by_power (rows_at text lines)) (length lines) (Some found)
    → IsFaultOf (items_of text) found.line found.cause
fault_alone text lines by_power found e rows is =
    let P : List Row → Type 0 = λ rs. IsFirst rs (IsWrongBy (formula text) rs) found.line found.cause in
    inl (subst P rows (first_of (rows_at text lines) (IsWrongBy (formula text) (rows_at text lines)) found
    (rw e at is)))

right_alone : (text : List ℕ) (lines : List Line) → rows_at text lines ≡ rows_in (items_of text)
    → NoneIs (IsWrongBy (formula text) (rows_at text lines)) → NoneIs (IsWrongAlone (items_of text))
right_alone text lines rows none =
    let P : List Row → Type 0 = λ rs. NoneIs (IsWrongBy (formula text) rs) in subst P rows none

pub fault_of_lines : (text : List ℕ) (lines : List Line) (fault : LexFault) (cause : Cause)
    → rows_at text lines ≡ rows_in (items_of text) → NoneIs (IsWrongBy (formula text) (rows_at text lines))
    → Some fault ≡ fault_in (items_of text) → cause ≡ line_cause fault.cause
    → IsFaultOf (items_of text) fault.line cause
fault_of_lines text lines fault cause rows none end c =
    inr (
      right_alone text lines rows none,
      inl (record { fault = fault; fault_is = sym end; line_is = refl; cause_is = c }),
    )

pub fault_among : (text : List ℕ) (lines : List Line) (found : Found)
    → rows_at text lines ≡ rows_in (items_of text) → NoneIs (IsWrongBy (formula text) (rows_at text lines))
    → None ≡ fault_in (items_of text)
    → HasFound (rows_at text lines) (IsWrongWithOthers (rows_at text lines)) (length lines) (Some found)
    → IsFaultOf (items_of text) found.line found.cause
fault_among text lines found rows none end is =
    let P : List Row → Type 0 = λ rs. IsFirst rs (IsWrongWithOthers rs) found.line found.cause in
    inr (
      right_alone text lines rows none,
      inr (
        sym end,
        inl (subst P rows (first_of (rows_at text lines) (IsWrongWithOthers (rows_at text lines)) found is)),
      ),
    )

right_among : (text : List ℕ) (lines : List Line) → rows_at text lines ≡ rows_in (items_of text)
    → NoneIs (IsWrongWithOthers (rows_at text lines)) → NoneIs (IsWrongWithOthers (rows_in (items_of text)))
right_among text lines rows none =
    let P : List Row → Type 0 = λ rs. NoneIs (IsWrongWithOthers rs) in subst P rows none

pub fault_of_all : (text : List ℕ) (lines : List Line) (cause : Cause)
    → rows_at text lines ≡ rows_in (items_of text) → NoneIs (IsWrongBy (formula text) (rows_at text lines))
    → None ≡ fault_in (items_of text) → NoneIs (IsWrongWithOthers (rows_at text lines))
    → Some cause ≡ lack (rows_at text lines) → IsFaultOf (items_of text) 0 cause
fault_of_all text lines cause rows alone end among lacks =
    inr (
      right_alone text lines rows alone,
      inr (
        sym end,
        inr (right_among text lines rows among, refl, sym (lacks ∙ ap lack rows)),
      ),
    )

pub no_fault : (text : List ℕ) (lines : List Line) → length text ≤ 2 ^ 26
    → rows_at text lines ≡ rows_in (items_of text) → NoneIs (IsWrongBy (formula text) (rows_at text lines))
    → None ≡ fault_in (items_of text) → NoneIs (IsWrongWithOthers (rows_at text lines))
    → None ≡ lack (rows_at text lines) → HasNoFault text
no_fault text lines short rows alone end among lacks = record {
  short = short;
  lines = sym end;
  by_itself = none_by_itself (items_of text) (sym end) (right_alone text lines rows alone);
  with_others = right_among text lines rows among;
  whole = sym (lacks ∙ ap lack rows);
}

-- ---- reservoirs and tanks

has_first : (x : Row) (xs : List Row) → has_some (x ∷ xs) ≡ true
has_first x xs = le-leb 1 (length (x ∷ xs)) (omega arith)

pub some_water_sources : (text : List ℕ) (lines : List Line)
    → list_any is_source lines ≡ (has_some (rows_of Reservoirs (rows_at text lines)) || has_some (rows_of Tanks
    (rows_at text lines)))
some_water_sources text [] = refl
some_water_sources text (line ∷ lines) =
    let row = row_of text line in
    elim (cases_Bool (is_of Reservoirs row)) [
      | inl r ↦ rw (r, has_first row (rows_of Reservoirs (rows_at text lines))) refl
      | inr s ↦ elim (cases_Bool (is_of Tanks row)) [
        | inl t ↦ rw (s, t, has_first row (rows_of Tanks (rows_at text lines)))
            (either_true (has_some (rows_of Reservoirs (rows_at text lines))))
        | inr u ↦ rw (s, u) (some_water_sources text lines)
      ]
    ]
  where
    either_true : (b : Bool) → true ≡ (b || true)
    either_true true = refl
    either_true false = refl

-- ---- what a file lacks

pub lacks_sources : (rows : List Row) → names_head_loss rows ≡ true
    → (has_some (rows_of Reservoirs rows) || has_some (rows_of Tanks rows)) ≡ false → Some Missing ≡ lack rows
lacks_sources rows named none = rw (named, none) refl

pub lacks_nothing : (rows : List Row) → names_head_loss rows ≡ true
    → (has_some (rows_of Reservoirs rows) || has_some (rows_of Tanks rows)) ≡ true → None ≡ lack rows
lacks_nothing rows named some = rw (named, some) refl

-- ---- what is found by the reader of a text

pub found_of_text : (text t : List ℕ) (fault : InpFault) → t ≡ text → length text ≤ 2 ^ 26
    → IsFaultOf (items_of t) fault.line fault.cause → IsFault text fault.line fault.cause
found_of_text text t fault e short faulty =
    let P : List ℕ → Type 0 = λ x. IsFaultOf (items_of x) fault.line fault.cause in
    inr (short, subst P e faulty)

-- ---- the whole reader

pub fault_read : (text t : List ℕ) (refused : InpRefused) → t ≡ text → length text ≤ 2 ^ 26
    → IfFault refused (λ f. IsFaultOf (items_of t) f.line f.cause) → IfFault refused (λ f. IsFault text f.line f.cause)
fault_read text t OutOfMemory e short faulty = tt
fault_read text t (Fault fault) e short faulty =
    found_of_text text t fault e short faulty

rows_read : (text t : List ℕ) (lines items : List Line) → t ≡ text → lines ≡ items
    → rows_at text items ≡ rows_in (items_of text) → rows_in (items_of t) ≡ rows_at t lines
rows_read text t lines items e same rows =
    ap (λ x. rows_in (items_of x)) e ∙ sym (ap (λ x. rows_at x lines) e ∙ ap (rows_at text) same ∙ rows)

pub alone_read : (text t : List ℕ) (lines items : List Line) → t ≡ text → lines ≡ items
    → rows_at text items ≡ rows_in (items_of text) → HasNoFault t → NoneIs (IsWrongByItself (rows_at t lines))
alone_read text t lines items e same rows none =
    let P : List Row → Type 0 = λ rs. NoneIs (IsWrongByItself rs) in
    subst P (rows_read text t lines items e same rows) none.by_itself

pub among_read : (text t : List ℕ) (lines items : List Line) → t ≡ text → lines ≡ items
    → rows_at text items ≡ rows_in (items_of text) → HasNoFault t → NoneIs (IsWrongWithOthers (rows_at t lines))
among_read text t lines items e same rows none =
    let P : List Row → Type 0 = λ rs. NoneIs (IsWrongWithOthers rs) in
    subst P (rows_read text t lines items e same rows) none.with_others

pub sound_read : (text t : List ℕ) (lines items : List Line) (p : Project) → t ≡ text → lines ≡ items
    → rows_at text items ≡ rows_in (items_of text) → HasNoFault t → IsProject (rows_at t lines) p → IsSound p
sound_read text t lines items p e same rows none is =
    let P : List Row → Type 0 = λ rs. IsProject rs p in
    all_right t p none (subst P (sym (rows_read text t lines items e same rows)) is)
