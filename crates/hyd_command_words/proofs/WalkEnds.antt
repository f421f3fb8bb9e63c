-- What clap's walk over words comes to, from where it stands.
use Rattle.std.proofs.Common.{◌≡◌, ◌∙◌, ◌+◌, Bool, true, false, cond, List, [], ◌∷◌, map, fold, Option, None, arith}
use Rattle.std.proofs.Common.{refl, sym, ap, subst, codes, bytes_eq, append-nil}
use Rattle.clap.specs.Kinds.{Kinds, or_else}
use Rattle.clap.specs.Faults.{settle_fault, walk_fault}
use Rattle.hyd_command_words.specs.ClapParser.{said_of}
use Rattle.clap.specs.Walk.{Held, Row, Waiting, Walk, positional, settled_rows, walked}
use Rattle.hyd_command_words.specs.OptionsAndNames.{Word, Part, Said, name, wrong, said_by}
use Rattle.hyd_command_words.specs.CommandGrammar.{Order, order_named, run_command, check_command, gen_command}
use Rattle.hyd_command_words.specs.CommandGrammar.{fire_command, closures_command, witness_command, meet_command}
use Rattle.hyd_command_words.proofs.SaidLemmas.{joined, joined_assoc, part_first}
use Rattle.hyd_command_words.proofs.MatchRowLemmas.{rules, name_used}
use Rattle.hyd_command_words.proofs.WalkSteps.{shape, Pending, held, at, IsWhole, IsFault, turn, step, name_held}
use Rattle.hyd_command_words.proofs.WalkSteps.{trailing_turn}
use Rattle.hyd_command_words.proofs.WalkSteps.{trailing_step, first_faults}

-- no command has this said behind its name
abbrev pub IsNoOrder : Said → Type 0
IsNoOrder s = (word : Word) → order_named word s ≡ None

-- whatever is said after this
abbrev pub IsNeverOrder : Said → Type 0
IsNeverOrder s = (more : Said) → IsNoOrder (joined s more)

-- ---- what a walk comes to

abbrev pub end_of : Walk → List Word → Held
end_of w words = (fold (walked rules []) w words).held

abbrev pub fault_from : Walk → List Word → Kinds
fault_from w words = or_else (walk_fault shape [] w words) (settle_fault rules false (end_of w words))

abbrev pub rows_at_end : Walk → List Word → List Row
rows_at_end w words = settled_rows rules (end_of w words).pending (end_of w words).rows

-- the command, where nothing failed
abbrev pub order_if : Kinds → Option Order → Option Order
order_if [] order = order
order_if (k ∷ ks) order = None

-- the walk from here gives the commands of what is said
abbrev pub Comes : Walk → List Word → Said → Type 0
Comes w words target = (word : Word)
    → order_if (fault_from w words) (order_named word (said_of (rows_at_end w words))) ≡ order_named word target

pub none_if_fault : (f : Kinds) (order : Option Order) → IsFault f → order_if f order ≡ None
none_if_fault [] order h = absurd h
none_if_fault (k ∷ ks) order h = refl

pub go_on : (w after : Walk) (word : Word) (rest : List Word) (target : Said) → turn w word ≡ [] → step w word ≡ after
    → Comes after rest target → Comes w (word ∷ rest) target
unfolding walk_fault
go_on w after word rest target passed is h =
    let moved : Comes (step w word) rest target = subst (λ (v : Walk). Comes v rest target) (sym is) h in
    λ named. (λ i. order_if (or_else (or_else (passed i) (walk_fault shape [] (step w word) rest))
    (settle_fault rules false (end_of (step w word) rest)))
    (order_named named (said_of (rows_at_end (step w word) rest)))) ∙ moved named

pub fails_here : (w : Walk) (word : Word) (rest : List Word) (target : Said) → IsFault (turn w word) → IsNoOrder target
    → Comes w (word ∷ rest) target
unfolding walk_fault
fails_here w word rest target h none = λ named.
    none_if_fault _ _ (first_faults _ _ (first_faults _ _ h)) ∙ sym (none named)

-- ---- what is no command

-- what is said fits behind no name
pub fits_none : (s : Said) → run_command s ≡ None → check_command s ≡ None → gen_command s ≡ None
    → fire_command s ≡ None → closures_command s ≡ None → witness_command s ≡ None → meet_command s ≡ None
    → IsNoOrder s
fits_none s run check gen fire closures witness meet word =
    go (bytes_eq word (codes "run")) (bytes_eq word (codes "check")) (bytes_eq word (codes "gen"))
    (bytes_eq word (codes "fire")) (bytes_eq word (codes "closures")) (bytes_eq word (codes "witness"))
    (bytes_eq word (codes "meet"))
  where
    go : (a b c d e f g : Bool) → cond a (run_command s) (cond b (check_command s) (cond c (gen_command s)
        (cond d (fire_command s) (cond e (closures_command s) (cond f (witness_command s)
        (cond g (meet_command s) None)))))) ≡ None
    go true b c d e f g = run
    go false true c d e f g = check
    go false false true d e f g = gen
    go false false false true e f g = fire
    go false false false false true f g = closures
    go false false false false false true g = witness
    go false false false false false false true = meet
    go false false false false false false false = refl

pub wrong_is_none : (s : Said) → s.has_wrong ≡ true → IsNoOrder s
wrong_is_none s e = fits_none s (rw e refl) (rw e refl) (rw e refl) (rw e refl) (rw e refl)
    (rw e refl) (rw e refl)

pub wrong_word : (s : Said) (ps : List Part) → s.has_wrong ≡ false → IsNoOrder (joined s (said_by (wrong ∷ ps)))
wrong_word s ps e = wrong_is_none (joined s (said_by (wrong ∷ ps))) (rw e refl)

pub wrong_here : (w : Walk) (word : Word) (rest : List Word) (s : Said) (ps : List Part) → IsFault (turn w word)
    → s.has_wrong ≡ false → Comes w (word ∷ rest) (joined s (said_by (wrong ∷ ps)))
wrong_here w word rest s ps h e =
    fails_here w word rest (joined s (said_by (wrong ∷ ps))) h (wrong_word s ps e)

-- ---- one part, and those behind it

pub join_part : (s : Said) (p : Part) (ps : List Part)
    → joined (joined s (said_by (p ∷ []))) (said_by ps) ≡ joined s (said_by (p ∷ ps))
join_part s p ps = joined_assoc s (said_by (p ∷ [])) (said_by ps) ∙ ap (joined s) (sym (part_first p ps))

pub next_part : (w : Walk) (words : List Word) (s now : Said) (p : Part) (ps : List Part)
    → now ≡ joined s (said_by (p ∷ []))
    → Comes w words (joined now (said_by ps)) → Comes w words (joined s (said_by (p ∷ ps)))
next_part w words s now p ps is h =
    subst (Comes w words) (ap (λ (t : Said). joined t (said_by ps)) is ∙ join_part s p ps) h

pub nothing_more : (rows : List Row) → said_of rows ≡ joined (said_of rows) (said_by [])
nothing_more rows =
    let s = said_of rows in
    let count : s.tight_count ≡ s.tight_count + 0 = omega arith in
    λ i. record {
      sweeps_values = sym (append-nil s.sweeps_values) i;
      width_values = sym (append-nil s.width_values) i;
      slack_values = sym (append-nil s.slack_values) i;
      flows_values = sym (append-nil s.flows_values) i;
      spread_values = sym (append-nil s.spread_values) i;
      tight_count = count i;
      names = sym (append-nil s.names) i;
      has_wrong = false;
    }

abbrev pub seen : List Row → Pending → Said
seen rows p = said_of (settled_rows rules p rows)

-- the end, where what is held is whole
pub ends_whole : (is_trailing : Bool) (rows : List Row) (p : Pending) (waiting : Waiting) → IsWhole rows p
    → Comes (at is_trailing rows p waiting) [] (joined (seen rows p) (said_by []))
unfolding walk_fault
ends_whole is_trailing rows p waiting whole = λ named.
    (λ i. order_if (whole i) (order_named named (seen rows p)))
    ∙ ap (order_named named) (nothing_more (settled_rows rules p rows))

-- the end, where it is not
pub ends_faulty : (is_trailing : Bool) (rows : List Row) (p : Pending) (waiting : Waiting) (target : Said)
    → IsFault (settle_fault rules false (held rows p)) → IsNoOrder target
    → Comes (at is_trailing rows p waiting) [] target
unfolding walk_fault
ends_faulty is_trailing rows p waiting target h none = λ named. none_if_fault _ _ h ∙ sym (none named)

-- ---- behind `--`

pub trails : (words : List Word) (rows : List Row) (p : Pending) (waiting : Waiting) → IsWhole rows p
    → Comes (at true rows p waiting) words (joined (seen rows p) (said_by (map name words)))
trails [] rows p waiting whole = ends_whole true rows p waiting whole
trails (word ∷ rest) rows p waiting whole =
    go_on (at true rows p waiting) _ word rest (joined (seen rows p) (said_by (map name (word ∷ rest))))
    (trailing_turn rows p waiting word ∙ whole) (trailing_step rows p waiting word)
    (next_part _ rest (seen rows p) (seen (settled_rows rules p rows) (name_held word)) (name word) (map name rest)
    (name_used word (settled_rows rules p rows))
    (trails rest (settled_rows rules p rows) (name_held word) positional refl))

pub trails_faulty : (words : List Word) (rows : List Row) (p : Pending) (waiting : Waiting) (target : Said)
    → IsFault (settle_fault rules false (held rows p)) → IsNoOrder target → Comes (at true rows p waiting) words target
trails_faulty [] rows p waiting target h none = ends_faulty true rows p waiting target h none
trails_faulty (word ∷ rest) rows p waiting target h none =
    fails_here (at true rows p waiting) word rest target
    (subst IsFault (sym (trailing_turn rows p waiting word)) h) none
