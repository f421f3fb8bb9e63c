use Rattle.std.proofs.Common.{◌≡◌, false, map, drop, string_bytes}
use Rattle.hyd_command_words.specs.ClapParser.{has_dash_behind_flows}
use Rattle.hyd_command_words.proofs.command_of_words.has_dash_behind_flows.Given as goal

-- the words from here on say it for all
abbrev pub invariant-loop-word : goal.invariant-loop-word
invariant-loop-word l = has_dash_behind_flows l.behind_flows (map string_bytes (drop l.word-index l.words))
    ≡ has_dash_behind_flows false (map string_bytes l.words)
