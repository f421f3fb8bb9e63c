-- The commands that the reader hands out, and what it holds on its way, as the definitions see them.
use Rattle.std.specs.Prelude.{false, List, map, option_map}
use Rattle.std.specs.Borrow.{Bor}
use Rattle.hyd_command_words.specs.OptionsAndNames.{Word, Said}
use Rattle.hyd_command_words.specs.NamesOfLinks.{names_given}
use Rattle.hyd_command_words.specs.declared.said_words.Said.{Said as Read}
use Rattle.hyd_command_words.specs.CommandGrammar.{Order, RunOrder, GenOrder, TwoFiles, run, check, gen}
use Rattle.hyd_command_words.specs.CommandGrammar.{FireOrder, ClosuresOrder, fire, closures}
use Rattle.hyd_command_words.specs.CommandGrammar.{WitnessOrder, MeetOrder, witness, meet}
use Rattle.hyd_command_words.specs.CommandGrammar.{SpreadRunOrder, SpreadCheckOrder, run_over, check_over}
use Rattle.hyd_command_words.specs.CommandGrammar.{SpreadFireOrder, SpreadClosuresOrder, fire_over, closures_over}
use Rattle.hyd_command_words.specs.declared.command.Command.{Command}
use Rattle.hyd_command_words.specs.declared.command.Command.TheVariants as command
use Rattle.hyd_command_words.specs.declared.command.Files.{Files}
use Rattle.hyd_command_words.specs.declared.command.LinkNames.{LinkNames}
use Rattle.hyd_command_words.specs.declared.command.RunWords.{RunWords}
use Rattle.hyd_command_words.specs.declared.command.SpreadRunWords.{SpreadRunWords}
use Rattle.hyd_command_words.specs.declared.command.SpreadCheckWords.{SpreadCheckWords}
use Rattle.hyd_command_words.specs.declared.command.GenWords.{GenWords}
use Rattle.hyd_command_words.specs.declared.command.FireWords.{FireWords}
use Rattle.hyd_command_words.specs.declared.command.ClosuresWords.{ClosuresWords}
use Rattle.hyd_command_words.specs.declared.command.SpreadFireWords.{SpreadFireWords}
use Rattle.hyd_command_words.specs.declared.command.SpreadClosuresWords.{SpreadClosuresWords}
use Rattle.hyd_command_words.specs.declared.command.WitnessWords.{WitnessWords}
use Rattle.hyd_command_words.specs.declared.command.MeetWords.{MeetWords}

abbrev pub files_seen : Files → TwoFiles
files_seen f = record { net = f.net.now; cert = f.cert.now }

-- the names that are given, in order
abbrev pub names_seen : LinkNames → List Word
names_seen n = names_given (option_map (λ ids. ids.now) n.ids)

abbrev pub run_seen : RunWords → RunOrder
run_seen r = record {
  files = files_seen r.files;
  rounds = r.rounds;
  width = r.width;
  tight = r.tight;
  slack = r.slack;
  flows = names_seen r.flows;
}

abbrev pub spread_run_seen : SpreadRunWords → SpreadRunOrder
spread_run_seen s = record { run = run_seen s.run; spread = s.spread.now }

abbrev pub spread_check_seen : SpreadCheckWords → SpreadCheckOrder
spread_check_seen s = record { files = files_seen s.files; spread = s.spread.now }

abbrev pub gen_seen : GenWords → GenOrder
gen_seen g = record { seed = g.seed; junctions = g.junctions; files = files_seen g.files }

abbrev pub fire_seen : FireWords → FireOrder
fire_seen f =
    record { net = f.net.now; junction = f.junction.now; pressure = f.pressure.nano; rounds = f.rounds }

abbrev pub closures_seen : ClosuresWords → ClosuresOrder
closures_seen c = record { net = c.net.now; pressure = c.pressure.nano; rounds = c.rounds }

abbrev pub spread_fire_seen : SpreadFireWords → SpreadFireOrder
spread_fire_seen s = record { fire = fire_seen s.fire; spread = s.spread.now }

abbrev pub spread_closures_seen : SpreadClosuresWords → SpreadClosuresOrder
spread_closures_seen s = record { closures = closures_seen s.closures; spread = s.spread.now }

abbrev pub witness_seen : WitnessWords → WitnessOrder
witness_seen w = record { files = files_seen w.files; out = w.out.now }

abbrev pub meet_seen : MeetWords → MeetOrder
meet_seen m = record { net = m.net.now; witness = m.witness.now }

-- a command with its options and names
abbrev pub order_seen : Command → Order
order_seen (command.Run r) = run (run_seen r)
order_seen (command.RunOver s) = run_over (spread_run_seen s)
order_seen (command.Check f) = check (files_seen f)
order_seen (command.CheckOver s) = check_over (spread_check_seen s)
order_seen (command.Gen g) = gen (gen_seen g)
order_seen (command.Fire f) = fire (fire_seen f)
order_seen (command.FireOver s) = fire_over (spread_fire_seen s)
order_seen (command.Closures c) = closures (closures_seen c)
order_seen (command.ClosuresOver s) = closures_over (spread_closures_seen s)
order_seen (command.Witness w) = witness (witness_seen w)
order_seen (command.Meet m) = meet (meet_seen m)

-- the words behind references
abbrev pub texts_seen : List (Bor Word) → List Word
texts_seen = map (λ text. text.now)

-- what has been said, where nothing is wrong
abbrev pub said_seen : Read → Said
said_seen s = record {
  sweeps_values = texts_seen s.sweeps_values.now;
  width_values = texts_seen s.width_values.now;
  slack_values = texts_seen s.slack_values.now;
  flows_values = texts_seen s.flows_values.now;
  spread_values = texts_seen s.spread_values.now;
  tight_count = s.tight_count;
  names = texts_seen s.names.now;
  has_wrong = false;
}
