-- Controls of a file without a fault: each sets a link that is there to a state that it can have, at a moment in range.
use Rattle.std.proofs.Common.{◌≡◌, ℕ, ◌<◌, true, false, List, [], ◌∷◌, length, Option, Some, None, refl, sym, ap, ◌∙◌}
use Rattle.std.proofs.Common.{subst, arith, inl, inr, true≢false}
use Rattle.std.specs.Prelude.{slice_get, not, All, codes, if◌then◌else◌}
use Rattle.std.proofs.lemmas.Bool.{cases_Bool, and_parts, and_from, not-true}
use Rattle.std.proofs.lemmas.List.{length-map}
use Rattle.hyd_spec_lines.specs.Lines.{Row}
use Rattle.hyd_spec_lines.specs.WordsOfLines.{is_keyword}
use Rattle.hyd_spec_lines.specs.declared.section.Section.TheVariants.{Pipes, Pumps, Tanks, Controls as ControlsSection}
use Rattle.hyd_net.specs.NumberRanges.{IsHead}
use Rattle.hyd_net.specs.LinkStates.{CanHave, CanBeSet}
use Rattle.hyd_net.specs.ControlsAndRules as commands
use Rattle.hyd_net.specs.ControlsAndRules.{CanCommand, IsMoment}
use Rattle.hyd_net.specs.declared.controls.When.{When}
use Rattle.hyd_net.specs.declared.controls.When.TheVariants.{Level as LevelAt, Time as TimeAt, Clock as ClockAt}
use Rattle.hyd_net.specs.declared.controls.Control.{Control}
use Rattle.hyd_net.specs.declared.links.Link.{Link}
use Rattle.hyd_net.specs.declared.links.LinkKind.{LinkKind}
use Rattle.hyd_net.specs.declared.links.LinkKind.TheVariants.{Pipe, CheckPipe, Pump, CurvePump, Tcv, Fcv, Gpv}
use Rattle.hyd_net.specs.declared.links.LinkState.{LinkState}
use Rattle.hyd_net.specs.declared.project.Project.{Project}
use Rattle.hyd_spec_input.specs.Columns.{needed, id, one_of, meant, asked, word, amount, word_is, is_option_keyword}
use Rattle.hyd_spec_input.specs.Keywords.{link_word}
use Rattle.hyd_spec_input.specs.TimesAndClockTimes.{time, clock}
use Rattle.hyd_spec_input.specs.ControlRows as alone
use Rattle.hyd_spec_input.specs.SectionsAndTables.{is_of, rows_of, own_id, words_of, words_of_row}
use Rattle.hyd_spec_input.specs.MeaningsAcrossRows.{tank_ids, number_in}
use Rattle.hyd_spec_input.specs.FaultsWithOtherRows as others
use Rattle.hyd_spec_input.specs.FaultsWithOtherRows.{head, is_check_valve, control_tank}
use Rattle.hyd_spec_input.specs.Project as project
use Rattle.hyd_spec_input.specs.Project.{IsProject, IsTank, IsKind, IsWhen}
use Rattle.hyd_theorems_on_input.proofs.ListsByPlace.{match_all, match_length, kept_stands, kept_passes, source}
use Rattle.hyd_theorems_on_input.proofs.RowsWithoutFault.{AreRight, right_alone, right_among, or_none, all_none}
use Rattle.hyd_theorems_on_input.proofs.OccurrencesOfNames.{number_inside}
use Rattle.hyd_theorems_on_input.proofs.OptionsAndTimesInForce.{keyword_same}
use Rattle.hyd_theorems_on_input.proofs.TimesAndClockTimes.{time_right, clock_right}
use Rattle.hyd_theorems_on_input.proofs.Names.{tank_ids_are}
use Rattle.hyd_theorems_on_input.proofs.PatternsAndCurvesByNumber.{numbers_from}
use Rattle.hyd_theorems_on_input.proofs.NodeRanges.{head_right}
use Rattle.hyd_theorems_on_input.proofs.LinkKinds.{where_true, where_false}
use Rattle.hyd_theorems_on_input.proofs.LinkStates.{Command, command}

-- ---- what a command may set

-- a link whose kind is a pipe with a check valve has a row that says so
check_valve_is : (rows : List Row) (row : Row) (kind : LinkKind) → IsKind rows row kind → is_check_valve row ≡ false
    → (state : LinkState) → CanHave kind state → CanBeSet kind state
check_valve_is rows row (Pipe cap) is none state can = can
check_valve_is rows row (CheckPipe cap) is none state can = elim (cases_Bool (is_of Pipes row)) [
  | inl t ↦ (let pipe = where_true (is_of Pipes row) _ _ t is in
      absurd (true≢false (sym (and_from (is_of Pipes row) _ t pipe.0) ∙ none)))
  | inr f ↦ (let rest = where_false (is_of Pipes row) _ _ f is in
      elim (cases_Bool (is_of Pumps row)) [
        | inl t ↦ absurd (where_true (is_of Pumps row) _ _ t rest)
        | inr g ↦ absurd (where_false (is_of Pumps row) _ _ g rest)
      ])
]
check_valve_is rows row (Pump cap shutoff head pattern) is none state can = can
check_valve_is rows row (CurvePump bend pattern) is none state can = can
check_valve_is rows row (Tcv valve) is none state can = can
check_valve_is rows row (Fcv valve) is none state can = can
check_valve_is rows row (Gpv bend) is none state can = can

pub can_command : (rows : List Row) (p : Project) (number : ℕ) (to : LinkState) → Command rows p number to
    → CanCommand p number to
can_command rows p number to c =
    numbers_from (λ (l : Link). CanBeSet l.kind to) p.links.list number c.link c.link_is
    (check_valve_is rows c.row c.link.kind c.made.kind c.no_check_valve to c.state.can)

-- ---- moments

-- a word that is one keyword isn't another
pub word_apart : (a b : List ℕ) (o : Option (List ℕ)) → is_option_keyword a o ≡ true → is_keyword b a ≡ false
    → is_option_keyword b o ≡ false
word_apart a b None is apart = refl
word_apart a b (Some w) is apart = keyword_same a b w is ∙ apart

pub at_not_if : is_keyword (codes "IF") (codes "AT") ≡ false
unfolding is_keyword
at_not_if = refl

pub tank_inside : (rows : List Row) (p : Project) (name : List ℕ) (n : ℕ) → IsProject rows p
    → number_in (tank_ids rows) name ≡ Some n → n < length p.tanks.list
tank_inside rows p name n of e =
    let same = ap length (tank_ids_are rows) ∙ length-map (rows_of Tanks rows) own_id ∙ match_length (IsTank rows) _ _
    of.tanks in
    omega (arith, same, number_inside (tank_ids rows) name n e)

-- the line of a control, by its words
timed : (words : List (List ℕ)) → alone.control words ≡ None → word_is 3 (codes "AT") words ≡ true
    → alone.time_control words ≡ None
timed words e at =
    let each = all_none (needed (meant link_word) 0 words ∷ needed id 1 words ∷ needed asked 2 words
    ∷ needed (one_of (codes "IF" ∷ codes "AT" ∷ [])) 3 words
    ∷ (if word_is 3 (codes "IF") words then alone.level_control words else alone.time_control words) ∷ []) e in
    let other : word_is 3 (codes "IF") words ≡ false =
    word_apart (codes "AT") (codes "IF") (slice_get words 3) at at_not_if in
    rw other at each.1.1.1.1.0

moment_right : (rows : List Row) (p : Project) (k : ℕ) (row : Row) (w : When) → AreRight rows → IsProject rows p
    → slice_get rows k ≡ Some row → is_of ControlsSection row ≡ true
    → IsWhen rows row.words w → IsMoment p w
moment_right rows p k row (LevelAt tank above ticks) right of at section is =
    let each = all_none (others.control_faults rows k row)
    (right_among rows ControlsSection k row right at section) in
    let level : head rows (amount 7 row.words) ≡ None = rw is.0 at each.1.1.1.1.0 in (
      tank_inside rows p (word 5 row.words) tank of is.1,
      subst IsHead (sym is.3)
          (head_right rows (amount 7 row.words) level),
    )
moment_right rows p k row (TimeAt seconds) right of at section is =
    let both = and_parts (word_is 3 (codes "AT") row.words) (not (word_is 4 (codes "CLOCKTIME") row.words)) is.0 in
    let line =
    (or_none (needed (one_of (codes "TIME" ∷ codes "CLOCKTIME" ∷ [])) 4 row.words) _
    (timed row.words (right_alone rows ControlsSection k row right at section) both.0)).1 in
    let time_line : time 0 5 row.words ≡ None =
    rw (not-true (word_is 4 (codes "CLOCKTIME") row.words) both.1) at line in
    rw is.1 (time_right 0 5 row.words time_line).at_most
moment_right rows p k row (ClockAt seconds) right of at section is =
    let both = and_parts (word_is 3 (codes "AT") row.words) (word_is 4 (codes "CLOCKTIME") row.words) is.0 in
    let line =
    (or_none (needed (one_of (codes "TIME" ∷ codes "CLOCKTIME" ∷ [])) 4 row.words) _
    (timed row.words (right_alone rows ControlsSection k row right at section) both.0)).1 in
    let clock_line : clock 5 row.words ≡ None = rw both.1 at line in
    rw is.1 (clock_right 5 row.words clock_line)

-- ---- controls

pub record ControlRight (rows : List Row) (p : Project) (c : Control) : Type 0 where
  pub command : Command rows p c.link c.to
  pub moment : IsMoment p c.when

control_right : (rows : List Row) (p : Project) (k : ℕ) (row : Row) (c : Control) → AreRight rows → IsProject rows p
    → slice_get rows k ≡ Some row → is_of ControlsSection row ≡ true
    → project.IsControl rows row.words c → ControlRight rows p c
control_right rows p k row c right of at section is =
    let each = all_none (others.control_faults rows k row)
    (right_among rows ControlsSection k row right at section) in
    record {
      command = command rows p (word 1 row.words) (word 2 row.words) c.link c.to (control_tank rows row) right of
          is.link each.1.1.1.0 is.to;
      moment = moment_right rows p k row c.when right of at section is.when;
    }

pub each_control : (rows : List Row) (p : Project) → AreRight rows → IsProject rows p
    → All (ControlRight rows p) p.controls.list
each_control rows p right of =
    match_all (project.IsControl rows) (ControlRight rows p) (words_of ControlsSection rows) p.controls.list
    of.controls (λ n words c at _ made.
    let found = source words_of_row (rows_of ControlsSection rows) n words at in
    let stands = kept_stands (is_of ControlsSection) rows n found.item found.is in
    control_right rows p stands.place found.item c right of stands.is
    (kept_passes (is_of ControlsSection) rows n found.item found.is)
    (subst (λ ws. project.IsControl rows ws c) (sym found.gives) made))

pub controls_right : (rows : List Row) (p : Project) → AreRight rows → IsProject rows p
    → All (commands.IsControl p) p.controls.list
controls_right rows p right of = λ k d l.
    let c = each_control rows p right of k d l in record {
      command = can_command rows p _ _ c.command;
      moment =
          c.moment;
    }
