use Rattle.std.proofs.Common.{map, string_bytes}
use Rattle.clap.specs.Simple.{app_of}
use Rattle.hyd_command_words.proofs.CommandOfMatches.{found_is}
use Rattle.hyd_command_words.proofs.clap_parser.matches_in.Goals as goal

pub returns-in-Ok : goal.returns-in-Ok
returns-in-Ok c = found_is (app_of c.in_ok-command.command) (map string_bytes c.args.words.now) c.in-Ok.matches
    c.in_ok-command.ensures c.in-Ok.ensures.matches c.in-Ok.ensures.kinds
