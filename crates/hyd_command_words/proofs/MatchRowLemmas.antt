-- What the rows of clap's matches say, use by use.
use Rattle.std.proofs.Common.{◌≡◌, ◌∙◌, ◌+◌, Bool, true, false, List, [], ◌∷◌, ◌++◌, length, Option, Some, None}
use Rattle.std.proofs.Common.{option_map, unwrap_or, refl, sym, ap, subst, arith, append-nil, codes, bytes_eq, Bor}
use Rattle.std.specs.Option.{UnwrapsOrElse}
use Rattle.hyd_command_words.specs.CommandView.{texts_seen}
use Rattle.clap.specs.Walk.{Row, Rule, Text, with_values}
use Rattle.clap.specs.Simple.{built}
use Rattle.clap.specs.Walk.{arg_by_id, used_by_id}
use Rattle.clap.specs.declared.builder.value_parser.Reading.{Reading}
use Rattle.clap.specs.declared.parser.matches.ValueSource.{ValueSource}
use Rattle.clap.specs.declared.parser.matches.ValueSource.TheVariants.{CommandLine}
use Rattle.clap.specs.declared.builder.value_parser.Reading.TheVariants.{AsWritten}
use Rattle.hyd_command_words.proofs.SaidLemmas.{joined}
use Rattle.hyd_command_words.specs.OptionsAndNames.{Word, said_by, sweeps, width, slack, flows, spread, tight, name}
use Rattle.hyd_command_words.specs.ClapParser.{all_values, words_command, said_of}
use lib.Pointwise.{bytes_decides}

same_id : (id : Text) (how : Reading) (s : ValueSource) (values : List Text) (rows : List Row)
    → all_values id (with_values id how s values rows) ≡ all_values id rows ++ values
same_id id how s values [] =
    let same : bytes_eq id id ≡ true = (bytes_decides id id).1 refl in
    rw same refl
same_id id how s values (r ∷ rs) = go (bytes_eq r.id id) refl (same_id id how s values rs)
  where
    go : (b : Bool) → bytes_eq r.id id ≡ b
        → all_values id (with_values id how s values rs) ≡ all_values id rs ++ values
        → all_values id (with_values id how s values (r ∷ rs)) ≡ all_values id (r ∷ rs) ++ values
    go true h rest = rw h (rw h refl)
    go false h rest = rw h (rw h rest)

other_id : (id other : Text) (how : Reading) (s : ValueSource) (values : List Text) (rows : List Row)
    → bytes_eq id other ≡ false → all_values other (with_values id how s values rows) ≡ all_values other rows
other_id id other how s values [] e = rw e refl
other_id id other how s values (r ∷ rs) e = go (bytes_eq r.id id) refl (other_id id other how s values rs e)
  where
    next : (b : Bool) → bytes_eq r.id other ≡ b → bytes_eq r.id id ≡ false
        → all_values other (with_values id how s values rs) ≡ all_values other rs
        → all_values other (with_values id how s values (r ∷ rs)) ≡ all_values other (r ∷ rs)
    next true g h rest = rw (h, g) refl
    next false g h rest = rw h (rw g rest)

    go : (b : Bool) → bytes_eq r.id id ≡ b → all_values other (with_values id how s values rs) ≡ all_values other rs
        → all_values other (with_values id how s values (r ∷ rs)) ≡ all_values other (r ∷ rs)
    go true h rest =
        let same : r.id ≡ id = (bytes_decides r.id id).0 h in
        let differs : bytes_eq r.id other ≡ false = subst (λ (t : Text). bytes_eq t other ≡ false) (sym same) e in
        rw h (rw differs refl)
    go false h rest = next (bytes_eq r.id other) refl h rest

abbrev pub rules : List Rule
rules = (built words_command).top.rules

abbrev pub used_by : Text → List Text → List Row → List Row
used_by id values rows = used_by_id (arg_by_id rules id) values rows

module _ (id : Text) (how : Reading) (s : ValueSource) (values : List Text) (rows : List Row) where
  abbrev after : List Row
  after = with_values id how s values rows

  kept : (other : Text) → bytes_eq id other ≡ false → all_values other after ≡ all_values other rows ++ []
  kept other e = other_id id other how s values rows e ∙ sym (append-nil (all_values other rows))

  count_kept : bytes_eq id (codes "tight") ≡ false
      → length (all_values (codes "tight") after) ≡ length (all_values (codes "tight") rows) + 0
  count_kept e =
      let count = length (all_values (codes "tight") rows) in
      let more : count ≡ count + 0 = omega arith in
      ap (λ (xs : List Text). length xs) (other_id id (codes "tight") how s values rows e) ∙ more

pub sweeps_used : (v : Word) (rows : List Row)
    → said_of (used_by (codes "sweeps") (v ∷ []) rows) ≡ joined (said_of rows) (said_by (sweeps v ∷ []))
sweeps_used v rows = λ i. record {
  sweeps_values = same_id (codes "sweeps") AsWritten CommandLine (v ∷ []) rows i;
  width_values = kept (codes "sweeps") AsWritten CommandLine (v ∷ []) rows (codes "width") refl i;
  slack_values = kept (codes "sweeps") AsWritten CommandLine (v ∷ []) rows (codes "slack") refl i;
  flows_values = kept (codes "sweeps") AsWritten CommandLine (v ∷ []) rows (codes "flows") refl i;
  spread_values = kept (codes "sweeps") AsWritten CommandLine (v ∷ []) rows (codes "spread") refl i;
  tight_count = count_kept (codes "sweeps") AsWritten CommandLine (v ∷ []) rows refl i;
  names = kept (codes "sweeps") AsWritten CommandLine (v ∷ []) rows (codes "names") refl i;
  has_wrong = false;
}

pub width_used : (v : Word) (rows : List Row)
    → said_of (used_by (codes "width") (v ∷ []) rows) ≡ joined (said_of rows) (said_by (width v ∷ []))
width_used v rows = λ i. record {
  sweeps_values = kept (codes "width") AsWritten CommandLine (v ∷ []) rows (codes "sweeps") refl i;
  width_values = same_id (codes "width") AsWritten CommandLine (v ∷ []) rows i;
  slack_values = kept (codes "width") AsWritten CommandLine (v ∷ []) rows (codes "slack") refl i;
  flows_values = kept (codes "width") AsWritten CommandLine (v ∷ []) rows (codes "flows") refl i;
  spread_values = kept (codes "width") AsWritten CommandLine (v ∷ []) rows (codes "spread") refl i;
  tight_count = count_kept (codes "width") AsWritten CommandLine (v ∷ []) rows refl i;
  names = kept (codes "width") AsWritten CommandLine (v ∷ []) rows (codes "names") refl i;
  has_wrong = false;
}

pub slack_used : (v : Word) (rows : List Row)
    → said_of (used_by (codes "slack") (v ∷ []) rows) ≡ joined (said_of rows) (said_by (slack v ∷ []))
slack_used v rows = λ i. record {
  sweeps_values = kept (codes "slack") AsWritten CommandLine (v ∷ []) rows (codes "sweeps") refl i;
  width_values = kept (codes "slack") AsWritten CommandLine (v ∷ []) rows (codes "width") refl i;
  slack_values = same_id (codes "slack") AsWritten CommandLine (v ∷ []) rows i;
  flows_values = kept (codes "slack") AsWritten CommandLine (v ∷ []) rows (codes "flows") refl i;
  spread_values = kept (codes "slack") AsWritten CommandLine (v ∷ []) rows (codes "spread") refl i;
  tight_count = count_kept (codes "slack") AsWritten CommandLine (v ∷ []) rows refl i;
  names = kept (codes "slack") AsWritten CommandLine (v ∷ []) rows (codes "names") refl i;
  has_wrong = false;
}

pub flows_used : (v : Word) (rows : List Row)
    → said_of (used_by (codes "flows") (v ∷ []) rows) ≡ joined (said_of rows) (said_by (flows v ∷ []))
flows_used v rows = λ i. record {
  sweeps_values = kept (codes "flows") AsWritten CommandLine (v ∷ []) rows (codes "sweeps") refl i;
  width_values = kept (codes "flows") AsWritten CommandLine (v ∷ []) rows (codes "width") refl i;
  slack_values = kept (codes "flows") AsWritten CommandLine (v ∷ []) rows (codes "slack") refl i;
  flows_values = same_id (codes "flows") AsWritten CommandLine (v ∷ []) rows i;
  spread_values = kept (codes "flows") AsWritten CommandLine (v ∷ []) rows (codes "spread") refl i;
  tight_count = count_kept (codes "flows") AsWritten CommandLine (v ∷ []) rows refl i;
  names = kept (codes "flows") AsWritten CommandLine (v ∷ []) rows (codes "names") refl i;
  has_wrong = false;
}

pub spread_used : (v : Word) (rows : List Row)
    → said_of (used_by (codes "spread") (v ∷ []) rows) ≡ joined (said_of rows) (said_by (spread v ∷ []))
spread_used v rows = λ i. record {
  sweeps_values = kept (codes "spread") AsWritten CommandLine (v ∷ []) rows (codes "sweeps") refl i;
  width_values = kept (codes "spread") AsWritten CommandLine (v ∷ []) rows (codes "width") refl i;
  slack_values = kept (codes "spread") AsWritten CommandLine (v ∷ []) rows (codes "slack") refl i;
  flows_values = kept (codes "spread") AsWritten CommandLine (v ∷ []) rows (codes "flows") refl i;
  spread_values = same_id (codes "spread") AsWritten CommandLine (v ∷ []) rows i;
  tight_count = count_kept (codes "spread") AsWritten CommandLine (v ∷ []) rows refl i;
  names = kept (codes "spread") AsWritten CommandLine (v ∷ []) rows (codes "names") refl i;
  has_wrong = false;
}

pub name_used : (v : Word) (rows : List Row)
    → said_of (used_by (codes "names") (v ∷ []) rows) ≡ joined (said_of rows) (said_by (name v ∷ []))
name_used v rows = λ i. record {
  sweeps_values = kept (codes "names") AsWritten CommandLine (v ∷ []) rows (codes "sweeps") refl i;
  width_values = kept (codes "names") AsWritten CommandLine (v ∷ []) rows (codes "width") refl i;
  slack_values = kept (codes "names") AsWritten CommandLine (v ∷ []) rows (codes "slack") refl i;
  flows_values = kept (codes "names") AsWritten CommandLine (v ∷ []) rows (codes "flows") refl i;
  spread_values = kept (codes "names") AsWritten CommandLine (v ∷ []) rows (codes "spread") refl i;
  tight_count = count_kept (codes "names") AsWritten CommandLine (v ∷ []) rows refl i;
  names = same_id (codes "names") AsWritten CommandLine (v ∷ []) rows i;
  has_wrong = false;
}

one_more : (xs : List Text) (x : Text) → length (xs ++ x ∷ []) ≡ length xs + 1
one_more [] x = refl
one_more (y ∷ ys) x = let next = one_more ys x in omega (arith, next)

pub tight_used : (rows : List Row)
    → said_of (used_by (codes "tight") [] rows) ≡ joined (said_of rows) (said_by (tight ∷ []))
tight_used rows = λ i. record {
  sweeps_values = kept (codes "tight") AsWritten CommandLine ([] ∷ []) rows (codes "sweeps") refl i;
  width_values = kept (codes "tight") AsWritten CommandLine ([] ∷ []) rows (codes "width") refl i;
  slack_values = kept (codes "tight") AsWritten CommandLine ([] ∷ []) rows (codes "slack") refl i;
  flows_values = kept (codes "tight") AsWritten CommandLine ([] ∷ []) rows (codes "flows") refl i;
  spread_values = kept (codes "tight") AsWritten CommandLine ([] ∷ []) rows (codes "spread") refl i;
  tight_count = (ap (λ (xs : List Text). length xs) (same_id (codes "tight") AsWritten CommandLine ([] ∷ []) rows)
      ∙ one_more (all_values (codes "tight") rows) []) i;
  names = kept (codes "tight") AsWritten CommandLine ([] ∷ []) rows (codes "names") refl i;
  has_wrong = false;
}

-- the values that are read where there are some, and none else
pub values_read : (o : Option (Bor (List (Bor Text)))) (r : Bor (List (Bor Text))) (all : Option (List Text))
    → UnwrapsOrElse o (λ x. x.now ≡ []) r → option_map (λ s. texts_seen s.now) o ≡ all
    → texts_seen r.now ≡ unwrap_or all []
values_read None r all h e =
    ap texts_seen h ∙ ap (λ (texts : Option (List Text)). unwrap_or texts []) e
values_read (Some x) r all h e =
    ap (λ (b : Bor (List (Bor Text))). texts_seen b.now) h ∙ ap (λ (texts : Option (List Text)). unwrap_or texts []) e
