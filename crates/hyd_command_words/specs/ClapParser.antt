-- The command of clap that reads the words behind a command's name: it takes each option as often as it stands.
use Rattle.std.specs.Prelude.{List, [], ◌∷◌, length, Some, codes, Bool, true, false, ◌&&◌, ◌||◌, unwrap_or, bytes_eq}
use Rattle.std.specs.Prelude.{if◌then◌else◌}
use Rattle.clap.specs.Walk.{Row, Rule, Text, all_of}
use Rattle.clap.specs.Simple.{App, new_app, new_rule, new_shape, with_rule}
use Rattle.clap.specs.declared.builder.action.ArgAction.TheVariants.{Append}
use Rattle.hyd_command_words.specs.OptionsAndNames.{Word, Said}

-- `--name` with one value
abbrev pub valued_rule : Text → Rule
valued_rule id = record (new_rule id) { long = Some id; action = Some Append }

-- `--tight`, of which each use leaves one empty value
abbrev pub tight_rule : Rule
tight_rule = record (new_rule (codes "tight")) {
  long = Some (codes "tight");
  action = Some Append;
  range = Some (record { start_inclusive = 0; end_inclusive = 0 });
  missing = [] ∷ [];
}

-- the words that stand by their positions
abbrev pub names_rule : Rule
names_rule = record (new_rule (codes "names")) { action = Some Append }

abbrev pub bare : App
bare = record (new_app (codes "hyd")) {
  top = record (new_shape (codes "hyd")) {
    no_binary_name = true;
    disable_help_flag = true;
    disable_version_flag = true;
  };
}

abbrev pub with_sharpness : App
with_sharpness =
    with_rule (with_rule (with_rule bare tight_rule) (valued_rule (codes "sweeps"))) (valued_rule (codes "width"))

abbrev pub with_options : App
with_options = with_rule (with_rule (with_rule with_sharpness (valued_rule (codes "slack")))
    (valued_rule (codes "flows"))) (valued_rule (codes "spread"))

abbrev pub words_command : App
words_command = with_rule with_options names_rule

-- the values of an argument, of all its uses
abbrev pub all_values : Text → List Row → List Text
all_values id rows = unwrap_or (all_of id rows) []

-- what these matches say
abbrev pub said_of : List Row → Said
said_of rows = record {
  sweeps_values = all_values (codes "sweeps") rows;
  width_values = all_values (codes "width") rows;
  slack_values = all_values (codes "slack") rows;
  flows_values = all_values (codes "flows") rows;
  spread_values = all_values (codes "spread") rows;
  tight_count = length (all_values (codes "tight") rows);
  names = all_values (codes "names") rows;
  has_wrong = false;
}

-- The word `-` stands right behind `--flows`, before the first word `--`; or, where `--flows` stands before these words,
-- it is the first of them. clap takes it for the option's value, and no command has a value that begins with `-` there.
abbrev pub has_dash_behind_flows : Bool → List Word → Bool
has_dash_behind_flows behind_flows [] = false
has_dash_behind_flows behind_flows (word ∷ rest) =
    if bytes_eq word (codes "--") then false
    else ((behind_flows && bytes_eq word (codes "-"))
    || has_dash_behind_flows (bytes_eq word (codes "--flows")) rest)
