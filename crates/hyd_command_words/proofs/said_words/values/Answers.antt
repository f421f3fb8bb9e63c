use Rattle.std.proofs.Common.{◌∙◌}
use Rattle.clap.proofs.WalkLemmas.{raw_values-rows}
use Rattle.clap.specs.Matches.{found_of}
use Rattle.clap.specs.Walk.{all_of, rows_of}
use Rattle.hyd_command_words.proofs.MatchRowLemmas.{values_read}
use Rattle.hyd_command_words.proofs.said_words.values.Goals as goal

pub returns : goal.returns
returns c = values_read c.get_raw.result c.unwrap_or_default.result
    (all_of c.args.id.now (rows_of (found_of c.args.matches.now))) c.unwrap_or_default.ensures
    (c.get_raw.ensures ∙ raw_values-rows (found_of c.args.matches.now) c.args.id.now)
