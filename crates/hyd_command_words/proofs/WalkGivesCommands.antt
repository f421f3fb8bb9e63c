-- clap's walk over words gives the commands of what they say.
use Rattle.std.proofs.Common.{◌≡◌, ◌⊎◌, ◌∙◌, ◌==◌, not, ◌&&◌, ◌||◌, Bool, true, false, cond, List, [], ◌∷◌, ◌++◌}
use Rattle.std.proofs.Common.{length, Option, Some, None, IsUtf8, arith, refl, sym, ap, subst, inl, inr, codes}
use Rattle.std.proofs.Common.{bytes_eq, option_map, option_and_then, ne_eqb, true≢false}
use lib.Pointwise.{bytes_decides}
use Rattle.clap.specs.Kinds.{Kinds, or_else}
use Rattle.clap.specs.Faults.{long_fault, settle_fault, step_fault}
use Rattle.hyd_command_words.specs.ClapParser.{said_of, has_dash_behind_flows}
use Rattle.clap.specs.Walk.{Held, Row, Rule, Step, Text, Waiting, Walk, after_flag, after_step, arg_by_id, idle}
use Rattle.clap.specs.Walk.{long_met, next, option, plain_word, positional, settled_rows}
use Rattle.hyd_num.specs.Numeral.{is_numeral}
use Rattle.hyd_command_words.specs.OptionsAndNames.{Word, Part, Kind, Said, sweeps, width, slack, flows, spread}
use Rattle.hyd_command_words.specs.OptionsAndNames.{tight, name, wrong}
use Rattle.hyd_command_words.specs.OptionsAndNames.{says}
use Rattle.hyd_command_words.specs.OptionsAndNames.{begins_with_dash}
use Rattle.hyd_command_words.specs.OptionsAndNames.{kind_of, parts_from, parts_waiting, said, said_by}
use Rattle.hyd_command_words.specs.CommandGrammar.{RunOrder, has_names_alone, is_sound, number_within, width_in_ticks}
use Rattle.hyd_command_words.specs.CommandGrammar.{once, default_rounds, default_width, default_slack, slack_of}
use Rattle.hyd_command_words.specs.CommandGrammar.{rounds_of, spread_of, file_name, two_files}
use Rattle.hyd_command_words.specs.CommandGrammar.{width_of, run_order, run_with, run_command, check_command}
use Rattle.hyd_command_words.specs.CommandGrammar.{fire_command, closures_command}
use Rattle.hyd_command_words.specs.CommandGrammar.{FireOrder, ClosuresOrder, fire_asked, fire_with, closures_asked}
use Rattle.hyd_command_words.specs.CommandGrammar.{closures_with, has_rounds_and_spread_at_most, has_spread_at_most}
use Rattle.hyd_command_words.proofs.SaidLemmas.{joined}
use Rattle.hyd_command_words.proofs.MatchRowLemmas.{rules, used_by, sweeps_used, width_used, slack_used, flows_used}
use Rattle.hyd_command_words.proofs.MatchRowLemmas.{spread_used, name_used, tight_used}
use Rattle.hyd_command_words.proofs.DashBehindFlows.{behind_word, without_flows}
use Rattle.hyd_command_words.proofs.KindsOfWords.{Lexed, closing, plain, short, long, IsPlain, IsLong, and_false}
use Rattle.hyd_command_words.proofs.KindsOfWords.{kind_by}
use Rattle.hyd_command_words.proofs.KindsOfWords.{lexed}
use Rattle.hyd_command_words.proofs.KindsOfWords.{named_kind}
use Rattle.hyd_command_words.proofs.WalkSteps.{shape, Pending, held, at, IsFree, IsWhole, IsFault, turn, step}
use Rattle.hyd_command_words.proofs.WalkSteps.{name_held}
use Rattle.hyd_command_words.proofs.WalkSteps.{name_step, name_fault, turn_from, step_from, plain_met, plain_fault}
use Rattle.hyd_command_words.proofs.WalkSteps.{short_fails}
use Rattle.hyd_command_words.proofs.WalkSteps.{long_fault_is, long_met_is, closing_turn, closing_step, first_faults}
use Rattle.hyd_command_words.proofs.WalkEnds.{Comes, IsNeverOrder, IsNoOrder, ends_faulty, ends_whole, go_on, join_part}
use Rattle.hyd_command_words.proofs.WalkEnds.{fits_none}
use Rattle.hyd_command_words.proofs.WalkEnds.{next_part, seen, trails, trails_faulty, wrong_here, wrong_word}

-- ---- an option whose value is the next word

pub data Valued : Type 0 where
  of_sweeps : Valued
  of_width : Valued
  of_slack : Valued
  of_flows : Valued
  of_spread : Valued

abbrev pub id_of : Valued → Text
id_of of_sweeps = codes "sweeps"
id_of of_width = codes "width"
id_of of_slack = codes "slack"
id_of of_flows = codes "flows"
id_of of_spread = codes "spread"

abbrev pub make_of : Valued → Word → Part
make_of of_sweeps value = sweeps value
make_of of_width value = width value
make_of of_slack value = slack value
make_of of_flows value = flows value
make_of of_spread value = spread value

abbrev pub is_flows : Valued → Bool
is_flows of_sweeps = false
is_flows of_width = false
is_flows of_slack = false
is_flows of_flows = true
is_flows of_spread = false

abbrev pub unvalued : Valued → Pending
unvalued o = Some (id_of o, [])

abbrev pub Free : List Word → Type 0
Free words = (rows : List Row) (p : Pending) (waiting : Waiting) → IsFree waiting → IsWhole rows p
    → Comes (at false rows p waiting) words (joined (seen rows p) (said words))

-- the same, where `-` doesn't stand right behind `--flows`
abbrev pub Goes : List Word → Type 0
Goes words = has_dash_behind_flows false words ≡ false → Free words

abbrev pub Waits : List Word → Type 0
Waits words = (o : Valued) → has_dash_behind_flows (is_flows o) words ≡ false → (rows : List Row)
    → Comes (at false rows (unvalued o) (option (id_of o))) words
    (joined (said_of rows) (said_by (parts_waiting words (Some (make_of o)))))

pub unvalued_faults : (o : Valued) (rows : List Row) → IsFault (settle_fault rules false (held rows (unvalued o)))
unvalued_faults of_sweeps rows = tt
unvalued_faults of_width rows = tt
unvalued_faults of_slack rows = tt
unvalued_faults of_flows rows = tt
unvalued_faults of_spread rows = tt

-- ---- an option by its name

abbrev pub pick : (is_tight is_sweeps is_width is_slack is_flows is_spread : Bool) → Option Rule
pick is_tight is_sweeps is_width is_slack is_flows is_spread =
    cond (is_tight || false) (arg_by_id rules (codes "tight"))
    (cond (is_sweeps || false) (arg_by_id rules (codes "sweeps"))
    (cond (is_width || false) (arg_by_id rules (codes "width"))
    (cond (is_slack || false) (arg_by_id rules (codes "slack"))
    (cond (is_flows || false) (arg_by_id rules (codes "flows"))
    (cond (is_spread || false) (arg_by_id rules (codes "spread")) None)))))

-- the option of this name
abbrev pub picked : Word → Option Rule
picked n = pick (bytes_eq (codes "tight") n) (bytes_eq (codes "sweeps") n) (bytes_eq (codes "width") n)
    (bytes_eq (codes "slack") n) (bytes_eq (codes "flows") n) (bytes_eq (codes "spread") n)

module _ (rows : List Row) (p : Pending) (waiting : Waiting) (word : Word) where
  abbrev met_by : Option Rule → Option Word → Held × Step
  met_by o v = after_flag rules waiting word (long_met rules o v (held rows p)).0 (long_met rules o v (held rows p)).1

  abbrev turn_by : Option Rule → Option Word → Kinds
  turn_by o v = or_else (long_fault rules false o v (held rows p)) (step_fault shape 1 (met_by o v).0 (met_by o v).1)

  abbrev step_by : Option Rule → Option Word → Walk
  step_by o v = after_step rules word (at false rows p waiting) (met_by o v).0 (met_by o v).1

  long_turn : (k : IsLong word) → turn (at false rows p waiting) word ≡ turn_by (picked k.0) k.1
  long_turn k = λ i. or_else (long_fault_is rows p waiting word k i)
      (step_fault shape 1 (long_met_is rows p waiting word k i).0 (long_met_is rows p waiting word k i).1)

  long_step : (k : IsLong word) → step (at false rows p waiting) word ≡ step_by (picked k.0) k.1
  long_step k = step_from rows p waiting word _ _ (long_met_is rows p waiting word k)

  -- where no option waits
  free_long : (a b c d g h : Bool) (v : Option Word) (rest : List Word) → IsWhole rows p → Free rest → Waits rest
      → has_dash_behind_flows false rest ≡ false → (g ≡ true → v ≡ None → has_dash_behind_flows true rest ≡ false)
      → turn (at false rows p waiting) word ≡ turn_by (pick a b c d g h) v
      → step (at false rows p waiting) word ≡ step_by (pick a b c d g h) v
      → Comes (at false rows p waiting) (word ∷ rest)
      (joined (seen rows p) (said_by (parts_from (kind_by a b c d g h v) rest (parts_waiting rest))))
  free_long true b c d g h None rest whole f q after here t s =
      go_on _ (at false (used_by (codes "tight") [] (settled_rows rules p rows)) None idle) word rest
      (joined (seen rows p) (said_by (tight ∷ parts_waiting rest None)))
      (t ∙ (λ i. or_else (or_else (whole i) []) [])) s
      (next_part _ rest (seen rows p) _ tight (parts_waiting rest None) (tight_used (settled_rows rules p rows))
      (f (used_by (codes "tight") [] (settled_rows rules p rows)) None idle (λ w h. refl) refl))
  free_long true b c d g h (Some v) rest whole f q after here t s =
      wrong_here _ word rest (seen rows p) (parts_waiting rest None) (subst IsFault (sym t) tt) refl
  free_long false true c d g h None rest whole f q after here t s =
      go_on _ (at false (settled_rows rules p rows) (unvalued of_sweeps) (option (codes "sweeps"))) word rest
      (joined (seen rows p) (said_by (parts_waiting rest (Some (make_of of_sweeps)))))
      (t ∙ (λ i. or_else (whole i) [])) s (q of_sweeps after (settled_rows rules p rows))
  free_long false true c d g h (Some v) rest whole f q after here t s =
      go_on _ (at false (used_by (codes "sweeps") (v ∷ []) (settled_rows rules p rows)) None idle) word rest
      (joined (seen rows p) (said_by (sweeps v ∷ parts_waiting rest None)))
      (t ∙ (λ i. or_else (or_else (whole i) []) [])) s
      (next_part _ rest (seen rows p) _ (sweeps v) (parts_waiting rest None) (sweeps_used v (settled_rows rules p rows))
      (f (used_by (codes "sweeps") (v ∷ []) (settled_rows rules p rows)) None idle (λ w h. refl) refl))
  free_long false false true d g h None rest whole f q after here t s =
      go_on _ (at false (settled_rows rules p rows) (unvalued of_width) (option (codes "width"))) word rest
      (joined (seen rows p) (said_by (parts_waiting rest (Some (make_of of_width)))))
      (t ∙ (λ i. or_else (whole i) [])) s (q of_width after (settled_rows rules p rows))
  free_long false false true d g h (Some v) rest whole f q after here t s =
      go_on _ (at false (used_by (codes "width") (v ∷ []) (settled_rows rules p rows)) None idle) word rest
      (joined (seen rows p) (said_by (width v ∷ parts_waiting rest None)))
      (t ∙ (λ i. or_else (or_else (whole i) []) [])) s
      (next_part _ rest (seen rows p) _ (width v) (parts_waiting rest None) (width_used v (settled_rows rules p rows))
      (f (used_by (codes "width") (v ∷ []) (settled_rows rules p rows)) None idle (λ w h. refl) refl))
  free_long false false false true g h None rest whole f q after here t s =
      go_on _ (at false (settled_rows rules p rows) (unvalued of_slack) (option (codes "slack"))) word rest
      (joined (seen rows p) (said_by (parts_waiting rest (Some (make_of of_slack)))))
      (t ∙ (λ i. or_else (whole i) [])) s (q of_slack after (settled_rows rules p rows))
  free_long false false false true g h (Some v) rest whole f q after here t s =
      go_on _ (at false (used_by (codes "slack") (v ∷ []) (settled_rows rules p rows)) None idle) word rest
      (joined (seen rows p) (said_by (slack v ∷ parts_waiting rest None)))
      (t ∙ (λ i. or_else (or_else (whole i) []) [])) s
      (next_part _ rest (seen rows p) _ (slack v) (parts_waiting rest None) (slack_used v (settled_rows rules p rows))
      (f (used_by (codes "slack") (v ∷ []) (settled_rows rules p rows)) None idle (λ w h. refl) refl))
  free_long false false false false true h None rest whole f q after here t s =
      go_on _ (at false (settled_rows rules p rows) (unvalued of_flows) (option (codes "flows"))) word rest
      (joined (seen rows p) (said_by (parts_waiting rest (Some (make_of of_flows)))))
      (t ∙ (λ i. or_else (whole i) [])) s (q of_flows (here refl refl) (settled_rows rules p rows))
  free_long false false false false true h (Some v) rest whole f q after here t s =
      go_on _ (at false (used_by (codes "flows") (v ∷ []) (settled_rows rules p rows)) None idle) word rest
      (joined (seen rows p) (said_by (flows v ∷ parts_waiting rest None)))
      (t ∙ (λ i. or_else (or_else (whole i) []) [])) s
      (next_part _ rest (seen rows p) _ (flows v) (parts_waiting rest None) (flows_used v (settled_rows rules p rows))
      (f (used_by (codes "flows") (v ∷ []) (settled_rows rules p rows)) None idle (λ w h. refl) refl))
  free_long false false false false false true None rest whole f q after here t s =
      go_on _ (at false (settled_rows rules p rows) (unvalued of_spread) (option (codes "spread"))) word rest
      (joined (seen rows p) (said_by (parts_waiting rest (Some (make_of of_spread)))))
      (t ∙ (λ i. or_else (whole i) [])) s (q of_spread after (settled_rows rules p rows))
  free_long false false false false false true (Some v) rest whole f q after here t s =
      go_on _ (at false (used_by (codes "spread") (v ∷ []) (settled_rows rules p rows)) None idle) word rest
      (joined (seen rows p) (said_by (spread v ∷ parts_waiting rest None)))
      (t ∙ (λ i. or_else (or_else (whole i) []) [])) s
      (next_part _ rest (seen rows p) _ (spread v) (parts_waiting rest None) (spread_used v (settled_rows rules p rows))
      (f (used_by (codes "spread") (v ∷ []) (settled_rows rules p rows)) None idle (λ w h. refl) refl))
  free_long false false false false false false None rest whole f q after here t s =
      wrong_here _ word rest (seen rows p) (parts_waiting rest None) (subst IsFault (sym t) tt) refl
  free_long false false false false false false (Some v) rest whole f q after here t s =
      wrong_here _ word rest (seen rows p) (parts_waiting rest None) (subst IsFault (sym t) tt) refl

-- where an option waits
pub waits_long : (a b c d g h : Bool) (v : Option Word) (o : Valued) (rows : List Row)
    → IsFault (long_fault rules false (pick a b c d g h) v (held rows (unvalued o)))
waits_long true b c d g h None o rows = first_faults _ _ (unvalued_faults o rows)
waits_long true b c d g h (Some v) o rows = tt
waits_long false true c d g h None o rows = unvalued_faults o rows
waits_long false true c d g h (Some v) o rows = first_faults _ _ (unvalued_faults o rows)
waits_long false false true d g h None o rows = unvalued_faults o rows
waits_long false false true d g h (Some v) o rows = first_faults _ _ (unvalued_faults o rows)
waits_long false false false true g h None o rows = unvalued_faults o rows
waits_long false false false true g h (Some v) o rows = first_faults _ _ (unvalued_faults o rows)
waits_long false false false false true h None o rows = unvalued_faults o rows
waits_long false false false false true h (Some v) o rows = first_faults _ _ (unvalued_faults o rows)
waits_long false false false false false true None o rows = unvalued_faults o rows
waits_long false false false false false true (Some v) o rows = first_faults _ _ (unvalued_faults o rows)
waits_long false false false false false false v o rows = tt

-- ---- `-` as a value, which is no number, and no name of a file

abbrev pub dash : Word
dash = codes "-"

pub dash_no_rounds : number_within 6 0 100000 dash ≡ None
dash_no_rounds = refl

pub dash_no_slack : number_within 5 0 86400 dash ≡ None
dash_no_slack = refl

pub dash_no_width : width_in_ticks dash ≡ None
unfolding is_numeral
dash_no_width = refl

pub dash_no_spread : option_map Some (file_name dash) ≡ None
dash_no_spread = refl

pub once_never : {X : Type 0} (default : X) (read : Word → Option X) (v : Word) (xs ys : List Word) → read v ≡ None
    → once default read ((xs ++ v ∷ []) ++ ys) ≡ None
once_never default read v [] [] e = e
once_never default read v [] (y ∷ ys) e = refl
once_never default read v (x ∷ []) ys e = refl
once_never default read v (x ∷ z ∷ zs) ys e = refl

pub stands : (xs ys : List Word) (v : Word) → (length ((xs ++ v ∷ []) ++ ys) == 0) ≡ false
stands [] ys v = ne_eqb _ _ (λ e. omega (arith, e))
stands (x ∷ xs) ys v = ne_eqb _ _ (λ e. omega (arith, e))

pub no_value : {X Y : Type 0} (b : Bool) (o : Option X) (f : X → Option Y) → o ≡ None
    → cond b (option_and_then f o) None ≡ None
no_value {X = X} true o f e = ap (λ (p : Option X). option_and_then f p) e
no_value false o f e = refl

pub no_value_within : {X Y Z : Type 0} (b : Bool) (o : Option Y) (x : Option X) (f : Y → X → Option Z) → x ≡ None
    → cond b (option_and_then (λ y. option_and_then (f y) x) o) None ≡ None
no_value_within false o x f e = refl
no_value_within true None x f e = refl
no_value_within {X = X} true (Some y) x f e = ap (λ (p : Option X). option_and_then (f y) p) e

pub no_value_behind : {W X Y Z : Type 0} (b : Bool) (o : Option Z) (p : Option Y) (x : Option X)
    (f : Z → Y → X → Option W) → x ≡ None
    → cond b (option_and_then (λ z. option_and_then (λ y. option_and_then (f z y) x) p) o) None ≡ None
no_value_behind false o p x f e = refl
no_value_behind true None p x f e = refl
no_value_behind true (Some z) p x f e = no_value_within true p x (f z) e

pub no_run : (s : Said) → run_order s ≡ None → run_command s ≡ None
no_run s e = ap (λ (o : Option RunOrder). option_and_then
    (λ order. option_and_then (λ file. run_with file order) (spread_of s.spread_values)) o) e

pub no_fire : (s : Said) → fire_asked s ≡ None → fire_command s ≡ None
no_fire s e = ap (λ (o : Option FireOrder). option_and_then
    (λ order. option_and_then (λ file. fire_with file order) (spread_of s.spread_values)) o) e

pub no_closures : (s : Said) → closures_asked s ≡ None → closures_command s ≡ None
no_closures s e = ap (λ (o : Option ClosuresOrder). option_and_then
    (λ order. option_and_then (λ file. closures_with file order) (spread_of s.spread_values)) o) e

-- neither what a wrong value is for, nor where no value is taken
pub no_order_by : (s : Said) → run_command s ≡ None → check_command s ≡ None → has_names_alone s ≡ false
    → fire_command s ≡ None → closures_command s ≡ None → IsNoOrder s
no_order_by s e check h fire closures =
    fits_none s e check (rw h refl) fire closures (rw h refl) (rw h refl)

-- an option that `check` doesn't take
pub no_order_past : (s : Said) → run_order s ≡ None → has_spread_at_most s ≡ false → fire_command s ≡ None
    → closures_command s ≡ None → IsNoOrder s
no_order_past s e more fire closures = no_order_by s (no_run s e) (rw more refl)
    (ap (λ (b : Bool). b && (length s.spread_values == 0)) more) fire closures

-- an option that `run` alone takes
pub no_order_with : (s : Said) → run_order s ≡ None
    → ((length s.width_values == 0) && ((length s.slack_values == 0) && (length s.flows_values == 0))) ≡ false
    → IsNoOrder s
no_order_with s e stays =
    let more_options : has_rounds_and_spread_at_most s ≡ false =
    and_false (not s.has_wrong) _ (and_false (s.tight_count == 0) _ stays) in
    no_order_past s e (and_false (not s.has_wrong) _ (and_false (s.tight_count == 0) _
    (and_false (length s.sweeps_values == 0) _ stays))) (no_fire s (rw more_options refl))
    (no_closures s (rw more_options refl))

pub dash_never : (o : Valued) → (is_flows o ≡ true → ⊥) → (s : Said)
    → IsNeverOrder (joined s (said_by (make_of o dash ∷ [])))
dash_never of_sweeps other s more =
    let all = joined (joined s (said_by (sweeps dash ∷ []))) more in
    let none : rounds_of all.sweeps_values ≡ None =
    once_never default_rounds (number_within 6 0 100000) dash s.sweeps_values more.sweeps_values dash_no_rounds in
    no_order_past all (no_value (is_sound all) (rounds_of all.sweeps_values) _ none)
    (and_false (not all.has_wrong) _ (and_false (all.tight_count == 0) _
    (ap (λ (b : Bool). b && ((length all.width_values == 0)
    && ((length all.slack_values == 0) && (length all.flows_values == 0))))
    (stands s.sweeps_values more.sweeps_values dash))))
    (no_fire all (no_value (has_rounds_and_spread_at_most all) (rounds_of all.sweeps_values) _ none))
    (no_closures all (no_value (has_rounds_and_spread_at_most all) (rounds_of all.sweeps_values) _ none))
dash_never of_width other s more =
    let all = joined (joined s (said_by (width dash ∷ []))) more in
    let none : width_of all.width_values ≡ None =
    once_never default_width width_in_ticks dash s.width_values more.width_values dash_no_width in
    let stays : ((length all.width_values == 0) && ((length all.slack_values == 0) && (length all.flows_values == 0)))
    ≡ false =
    ap (λ (b : Bool). b && ((length all.slack_values == 0) && (length all.flows_values == 0)))
    (stands s.width_values more.width_values dash) in
    no_order_with all
    (no_value_within (is_sound all) (rounds_of all.sweeps_values) (width_of all.width_values) _ none) stays
dash_never of_slack other s more =
    let all = joined (joined s (said_by (slack dash ∷ []))) more in
    let none : slack_of all.slack_values ≡ None =
    once_never default_slack (number_within 5 0 86400) dash s.slack_values more.slack_values dash_no_slack in
    let stays : ((length all.width_values == 0) && ((length all.slack_values == 0) && (length all.flows_values == 0)))
    ≡ false =
    and_false (length all.width_values == 0) _
    (ap (λ (b : Bool). b && (length all.flows_values == 0)) (stands s.slack_values more.slack_values dash)) in
    no_order_with all (no_value_behind (is_sound all) (rounds_of all.sweeps_values) (width_of all.width_values)
    (slack_of all.slack_values) _ none) stays
dash_never of_flows other s more = absurd (other refl)
dash_never of_spread other s more =
    let all = joined (joined s (said_by (spread dash ∷ []))) more in
    let none : spread_of all.spread_values ≡ None =
    once_never None (λ word. option_map Some (file_name word)) dash s.spread_values more.spread_values dash_no_spread in
    let stays : (length all.spread_values == 0) ≡ false = stands s.spread_values more.spread_values dash in
    no_order_by all (no_value_within true (run_order all) (spread_of all.spread_values) _ none)
    (no_value_within (has_spread_at_most all) (two_files all.names) (spread_of all.spread_values) _ none)
    (and_false (has_spread_at_most all) _ stays)
    (no_value_within true (fire_asked all) (spread_of all.spread_values) _ none)
    (no_value_within true (closures_asked all) (spread_of all.spread_values) _ none)

pub same_orders : (w : Walk) (words : List Word) (a b : Said) → IsNoOrder a → IsNoOrder b → Comes w words a
    → Comes w words b
same_orders w words a b no_a no_b h named = h named ∙ no_a named ∙ sym (no_b named)

-- ---- one word more

pub by_kind : (w : Walk) (word : Word) (rest : List Word) (s : Said) (k : Kind) → kind_of word ≡ k
    → Comes w (word ∷ rest) (joined s (said_by (parts_from k rest (parts_waiting rest))))
    → Comes w (word ∷ rest) (joined s (said (word ∷ rest)))
by_kind w word rest s k e h =
    subst (λ (j : Kind). Comes w (word ∷ rest) (joined s (said_by (parts_from j rest (parts_waiting rest))))) (sym e) h

module _ (rest : List Word) (f : Goes rest) (q : Waits rest) where
  free_closing : (rows : List Row) (p : Pending) (waiting : Waiting) → IsWhole rows p
      → Comes (at false rows p waiting) (codes "--" ∷ rest) (joined (seen rows p) (said (codes "--" ∷ rest)))
  unfolding kind_of
  free_closing rows p waiting whole =
      go_on (at false rows p waiting) (at true rows p waiting) (codes "--") rest
      (joined (seen rows p) (said (codes "--" ∷ rest))) (closing_turn rows p waiting) (closing_step rows p waiting)
      (trails rest rows p waiting whole)

  -- behind the word `-` doesn't stand right behind `--flows`
  goes : (b : Bool) (word : Word) → bytes_eq word (codes "--") ≡ false
      → has_dash_behind_flows b (word ∷ rest) ≡ false → has_dash_behind_flows false rest ≡ false
  goes b word other d = without_flows (bytes_eq word (codes "--flows")) rest (behind_word b word rest other d)

  -- nor where the word is `--flows`
  flows_go : (word : Word) (k : IsLong word) → has_dash_behind_flows false (word ∷ rest) ≡ false
      → bytes_eq (codes "flows") k.0 ≡ true → k.1 ≡ None → has_dash_behind_flows true rest ≡ false
  flows_go word k d is none =
      let word_is : word ≡ codes "--flows" = k.2.4 none
      ∙ ap (λ (n : Word). 45 ∷ 45 ∷ n) (sym ((bytes_decides (codes "flows") k.0).0 is)) in
      subst (λ (w : Word). has_dash_behind_flows false (w ∷ rest) ≡ false) word_is d

  free_step : (word : Word) → Lexed word → has_dash_behind_flows false (word ∷ rest) ≡ false → (rows : List Row)
      (p : Pending) (waiting : Waiting) → IsFree waiting
      → IsWhole rows p → Comes (at false rows p waiting) (word ∷ rest) (joined (seen rows p) (said (word ∷ rest)))
  free_step word (closing e) d rows p waiting free whole =
      subst (λ (w : Word). Comes (at false rows p waiting) (w ∷ rest) (joined (seen rows p) (said (w ∷ rest)))) (sym e)
      (free_closing rows p waiting whole)
  free_step word (plain k) d rows p waiting free whole =
      let met = plain_met rows p waiting word k ∙ free word (held rows p) in
      by_kind (at false rows p waiting) word rest (seen rows p) (says (name word)) k.3
      (go_on (at false rows p waiting) (at false (settled_rows rules p rows) (name_held word) positional) word rest
      (joined (seen rows p) (said_by (name word ∷ parts_waiting rest None)))
      (turn_from rows p waiting word _ _ (plain_fault rows p waiting word k) met ∙ name_fault rows p ∙ whole)
      (step_from rows p waiting word _ _ met ∙ name_step false rows p waiting word)
      (next_part _ rest (seen rows p) (seen (settled_rows rules p rows) (name_held word)) (name word)
      (parts_waiting rest None) (name_used word (settled_rows rules p rows))
      (f (goes false word k.0 d) (settled_rows rules p rows) (name_held word) positional (λ w h. refl) refl)))
  free_step word (short k) d rows p waiting free whole =
      by_kind (at false rows p waiting) word rest (seen rows p) (says wrong) k.3.4
      (wrong_here (at false rows p waiting) word rest (seen rows p) (parts_waiting rest None)
      (short_fails rows p waiting word k) refl)
  free_step word (long k) d rows p waiting free whole =
      by_kind (at false rows p waiting) word rest (seen rows p) (named_kind k.0 k.1) k.2.2
      (free_long rows p waiting word (bytes_eq (codes "tight") k.0) (bytes_eq (codes "sweeps") k.0)
      (bytes_eq (codes "width") k.0) (bytes_eq (codes "slack") k.0) (bytes_eq (codes "flows") k.0)
      (bytes_eq (codes "spread") k.0) k.1 rest whole (f (goes false word k.2.0 d)) q
      (goes false word k.2.0 d) (flows_go word k d) (long_turn rows p waiting word k)
      (long_step rows p waiting word k))

  -- the word is the value that an option waits for
  valued_met : (o : Valued) (rows : List Row) (word : Word)
      → plain_word rules (option (id_of o)) word (held rows (unvalued o))
      ≡ (held rows (Some (id_of o, word ∷ [])), next idle)
  valued_met of_sweeps rows word = refl
  valued_met of_width rows word = refl
  valued_met of_slack rows word = refl
  valued_met of_flows rows word = refl
  valued_met of_spread rows word = refl

  valued_whole : (o : Valued) (rows : List Row) (word : Word) → IsWhole rows (Some (id_of o, word ∷ []))
  valued_whole of_sweeps rows word = refl
  valued_whole of_width rows word = refl
  valued_whole of_slack rows word = refl
  valued_whole of_flows rows word = refl
  valued_whole of_spread rows word = refl

  valued_used : (o : Valued) (rows : List Row) (word : Word)
      → seen rows (Some (id_of o, word ∷ [])) ≡ joined (said_of rows) (said_by (make_of o word ∷ []))
  valued_used of_sweeps rows word = sweeps_used word rows
  valued_used of_width rows word = width_used word rows
  valued_used of_slack rows word = slack_used word rows
  valued_used of_flows rows word = flows_used word rows
  valued_used of_spread rows word = spread_used word rows

  valued_on : (o : Valued) (rows : List Row) (word : Word) → Free rest → IsPlain word
      → Comes (at false rows (unvalued o) (option (id_of o))) (word ∷ rest)
      (joined (said_of rows) (said_by (make_of o word ∷ parts_waiting rest None)))
  valued_on o rows word free k =
      let met = plain_met rows (unvalued o) (option (id_of o)) word k ∙ valued_met o rows word in
      go_on (at false rows (unvalued o) (option (id_of o))) (at false rows (Some (id_of o, word ∷ [])) idle) word rest
      (joined (said_of rows) (said_by (make_of o word ∷ parts_waiting rest None)))
      (turn_from rows (unvalued o) (option (id_of o)) word _ _
      (plain_fault rows (unvalued o) (option (id_of o)) word k) met)
      (step_from rows (unvalued o) (option (id_of o)) word _ _ met)
      (next_part _ rest (said_of rows) (seen rows (Some (id_of o, word ∷ []))) (make_of o word)
      (parts_waiting rest None) (valued_used o rows word)
      (free rows (Some (id_of o, word ∷ [])) idle (λ w h. refl) (valued_whole o rows word)))

  -- the value begins with `-`
  waits_wrong : (o : Valued) (rows : List Row) (word : Word) → begins_with_dash word ≡ true
      → Comes (at false rows (unvalued o) (option (id_of o))) (word ∷ rest)
      (joined (said_of rows) (said_by (wrong ∷ parts_waiting rest None)))
      → Comes (at false rows (unvalued o) (option (id_of o))) (word ∷ rest)
      (joined (said_of rows) (said_by (parts_waiting (word ∷ rest) (Some (make_of o)))))
  waits_wrong o rows word e h = subst (λ (b : Bool). Comes (at false rows (unvalued o) (option (id_of o))) (word ∷ rest)
      (joined (said_of rows) (said_by (cond b wrong (make_of o word) ∷ parts_waiting rest None)))) (sym e) h

  waits_plain : (o : Valued) → (rows : List Row) (word : Word) → IsPlain word
      → has_dash_behind_flows (is_flows o) (word ∷ rest) ≡ false
      → ((begins_with_dash word ≡ false) ⊎ (word ≡ codes "-"))
      → Comes (at false rows (unvalued o) (option (id_of o))) (word ∷ rest)
      (joined (said_of rows) (said_by (parts_waiting (word ∷ rest) (Some (make_of o)))))
  waits_plain o rows word k d (inl e) = subst (λ (b : Bool).
      Comes (at false rows (unvalued o) (option (id_of o))) (word ∷ rest)
      (joined (said_of rows) (said_by (cond b wrong (make_of o word) ∷ parts_waiting rest None)))) (sym e)
      (valued_on o rows word (f (goes (is_flows o) word k.0 d)) k)
  waits_plain o rows word k d (inr e) =
      let other : is_flows o ≡ true → ⊥ =
      λ is. true≢false ((λ i. has_dash_behind_flows (sym is i) (sym e i ∷ rest)) ∙ d) in
      let never : IsNoOrder (joined (said_of rows) (said_by (make_of o word ∷ parts_waiting rest None))) =
      subst (λ (w : Word). IsNoOrder (joined (said_of rows) (said_by (make_of o w ∷ parts_waiting rest None)))) (sym e)
      (subst IsNoOrder (join_part (said_of rows) (make_of o dash) (parts_waiting rest None))
      (dash_never o other (said_of rows) (said_by (parts_waiting rest None)))) in
      waits_wrong o rows word (ap begins_with_dash e)
      (same_orders (at false rows (unvalued o) (option (id_of o))) (word ∷ rest)
      (joined (said_of rows) (said_by (make_of o word ∷ parts_waiting rest None)))
      (joined (said_of rows) (said_by (wrong ∷ parts_waiting rest None))) never
      (wrong_word (said_of rows) (parts_waiting rest None) refl)
      (valued_on o rows word (f (goes (is_flows o) word k.0 d)) k))

  waits_step : (word : Word) → Lexed word → (o : Valued) → has_dash_behind_flows (is_flows o) (word ∷ rest) ≡ false
      → (rows : List Row)
      → Comes (at false rows (unvalued o) (option (id_of o))) (word ∷ rest)
      (joined (said_of rows) (said_by (parts_waiting (word ∷ rest) (Some (make_of o)))))
  waits_step word (closing e) o d rows =
      waits_wrong o rows word (ap begins_with_dash e)
      (subst (λ (w : Word). Comes (at false rows (unvalued o) (option (id_of o))) (w ∷ rest)
      (joined (said_of rows) (said_by (wrong ∷ parts_waiting rest None)))) (sym e)
      (go_on (at false rows (unvalued o) (option (id_of o))) (at true rows (unvalued o) (option (id_of o)))
      (codes "--") rest
      (joined (said_of rows) (said_by (wrong ∷ parts_waiting rest None)))
      (closing_turn rows (unvalued o) (option (id_of o))) (closing_step rows (unvalued o) (option (id_of o)))
      (trails_faulty rest rows (unvalued o) (option (id_of o))
      (joined (said_of rows) (said_by (wrong ∷ parts_waiting rest None)))
      (unvalued_faults o rows) (wrong_word (said_of rows) (parts_waiting rest None) refl))))
  waits_step word (plain k) o d rows = waits_plain o rows word k d k.4
  waits_step word (short k) o d rows = waits_wrong o rows word k.3.5
      (wrong_here (at false rows (unvalued o) (option (id_of o))) word rest (said_of rows) (parts_waiting rest None)
      (short_fails rows (unvalued o) (option (id_of o)) word k) refl)
  waits_step word (long k) o d rows = waits_wrong o rows word k.2.3
      (wrong_here (at false rows (unvalued o) (option (id_of o))) word rest (said_of rows) (parts_waiting rest None)
      (subst IsFault (sym (long_turn rows (unvalued o) (option (id_of o)) word k)) (first_faults _ _
      (waits_long (bytes_eq (codes "tight") k.0) (bytes_eq (codes "sweeps") k.0) (bytes_eq (codes "width") k.0)
      (bytes_eq (codes "slack") k.0) (bytes_eq (codes "flows") k.0) (bytes_eq (codes "spread") k.0) k.1 o rows))) refl)

-- ---- all the words

abbrev pub AreTexts : List Word → Type 0
AreTexts [] = Unit {0}
AreTexts (word ∷ rest) = IsUtf8 word × AreTexts rest

pub simulated : (words : List Word) → AreTexts words → Goes words × Waits words
simulated [] u = (
  λ d rows p waiting free whole. ends_whole false rows p waiting whole,
  λ o d rows. ends_faulty false rows (unvalued o) (option (id_of o)) (joined (said_of rows) (said_by (wrong ∷ [])))
      (unvalued_faults o rows) (wrong_word (said_of rows) [] refl),
)
simulated (word ∷ rest) u =
    let later = simulated rest u.1 in
    let is = lexed word u.0 in
    (free_step rest later.0 later.1 word is, waits_step rest later.0 later.1 word is)
