use Rattle.std.proofs.Common.{◌≡◌, ◌∙◌, ap, true, false, map, string_bytes}
use Rattle.clap.specs.Matches.{found_of}
use Rattle.clap.specs.Walk.{rows_of}
use Rattle.hyd_command_words.specs.ClapParser.{said_of, has_dash_behind_flows}
use Rattle.hyd_command_words.specs.CommandGrammar.{order_named}
use Rattle.hyd_command_words.proofs.CommandOfMatches.{none_found, some_found, dash_found}
use Rattle.hyd_command_words.proofs.command_of_words.read_words.Goals as goal

pub returns-in-Some-2 : goal.returns-in-Some-2
returns-in-Some-2 c =
    let dashless : has_dash_behind_flows false (map string_bytes c.in-Some.behind.now) ≡ false = cc in
    record {
      command = c.order_named.ensures
          ∙ ap (order_named c.as_str.result.now) c.said_by.ensures
          ∙ ap (λ named. order_named named (said_of (rows_of (found_of c.in-Some-2.matches)))) c.as_str.ensures.value
          ∙ some_found c.args.words.now c.in-Some.behind.now c.in-Some.name.now c.in_ok-matches.field-0
          c.in-Some-2.matches
          c.in-Some.ensures.cases.0 dashless c.in_ok-matches.ensures c.in-Some-2.is;
    }

pub returns-in-None : goal.returns-in-None
returns-in-None c =
    let dashless : has_dash_behind_flows false (map string_bytes c.in-Some.behind.now) ≡ false = cc in
    record {
      command = none_found c.args.words.now c.in-Some.behind.now c.in-Some.name.now c.in_ok-matches.field-0
          c.in-Some.ensures.cases.0 dashless c.in_ok-matches.ensures c.in-None.is;
    }

pub returns-then-has_dash_behind_flows : goal.returns-then-has_dash_behind_flows
returns-then-has_dash_behind_flows c =
    let dash : has_dash_behind_flows false (map string_bytes c.in-Some.behind.now) ≡ true = cc in
    record {
      command = dash_found c.args.words.now c.in-Some.behind.now c.in-Some.name.now c.in-Some.ensures.cases.0 dash;
    }
