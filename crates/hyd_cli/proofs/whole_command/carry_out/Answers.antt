-- What a command does is what was asked for.
use Rattle.std.proofs.Common.{◌≡◌, Option, Some, option_map, sym, ap, ◌∙◌, subst}
use Rattle.hyd_command_words.specs.CommandGrammar.{Order, run, check, gen, fire, closures, witness, meet}
use Rattle.hyd_command_words.specs.CommandView.{order_seen, run_seen, gen_seen, files_seen, fire_seen, closures_seen}
use Rattle.hyd_command_words.specs.CommandGrammar.{run_over, check_over, fire_over, closures_over}
use Rattle.hyd_command_words.specs.CommandView.{witness_seen, meet_seen, spread_run_seen, spread_check_seen}
use Rattle.hyd_command_words.specs.CommandView.{spread_fire_seen, spread_closures_seen}
use Rattle.hyd_command_words.specs.declared.command.Command.{Command}
use Rattle.hyd_command_words.specs.declared.command.Command.TheVariants.{Run, Check, Gen, Fire, Closures, Witness, Meet}
use Rattle.hyd_command_words.specs.declared.command.Command.TheVariants.{RunOver, CheckOver, FireOver, ClosuresOver}
use Rattle.hyd_command_answers.specs.DeskContents.{seen}
use Rattle.hyd_cli.specs.Answers.{Leaves}
use Rattle.hyd_cli.specs.Commands.{DoesOrder}
use Rattle.hyd_cli.proofs.whole_command.carry_out.Goals as goal

pub returns-in-Some-Run-clause-leaves : goal.returns-in-Some-Run-clause-leaves
returns-in-Some-Run-clause-leaves g c =
    let words = c.in-Some-Run.words in
    let kind : c.in-Some-Run.field-0 ≡ Run words = rw c.in-Some-Run.is at c.in-Some-Run.field-0-is in
    let found : c.args.found ≡ Some (Run words) = c.in-Some-Run.is ∙ ap Some kind in
    let before = seen g.D.Desk.files g.D.Desk.written g.D.Desk.printed c.args.desk.now in
    let now = seen g.D.Desk.files g.D.Desk.written g.D.Desk.printed c.run_words.new.desk in
    let known : option_map order_seen c.args.found ≡ Some (run (run_seen words)) =
    ap (λ (f : Option Command). option_map order_seen f) found in
    subst (λ (o : Option Order). Leaves o c.run_words.result before now) (sym known) c.run_words.ensures.leaves

pub returns-in-Some-Run-clause-does : goal.returns-in-Some-Run-clause-does
returns-in-Some-Run-clause-does g c =
    let words = c.in-Some-Run.words in
    let kind : c.in-Some-Run.field-0 ≡ Run words = rw c.in-Some-Run.is at c.in-Some-Run.field-0-is in
    let found : c.args.found ≡ Some (Run words) = c.in-Some-Run.is ∙ ap Some kind in
    let before = seen g.D.Desk.files g.D.Desk.written g.D.Desk.printed c.args.desk.now in
    let now = seen g.D.Desk.files g.D.Desk.written g.D.Desk.printed c.run_words.new.desk in
    let known : option_map order_seen c.args.found ≡ Some (run (run_seen words)) =
    ap (λ (f : Option Command). option_map order_seen f) found in
    subst (λ (o : Option Order). DoesOrder o c.run_words.result before now (g.D.Desk.openings c.args.desk.now)
    (g.D.Desk.openings c.run_words.new.desk) (g.D.Desk.ready c.run_words.new.desk)) (sym known)
    c.run_words.ensures.does

pub returns-in-Some-Check-clause-leaves : goal.returns-in-Some-Check-clause-leaves
returns-in-Some-Check-clause-leaves g c =
    let files = c.in-Some-Check.files in
    let kind : c.in-Some-Check.field-0 ≡ Check files = rw c.in-Some-Check.is at c.in-Some-Check.field-0-is in
    let found : c.args.found ≡ Some (Check files) = c.in-Some-Check.is ∙ ap Some kind in
    let before = seen g.D.Desk.files g.D.Desk.written g.D.Desk.printed c.args.desk.now in
    let now = seen g.D.Desk.files g.D.Desk.written g.D.Desk.printed c.check_files.new.desk in
    let known : option_map order_seen c.args.found ≡ Some (check (files_seen files)) =
    ap (λ (f : Option Command). option_map order_seen f) found in
    subst (λ (o : Option Order). Leaves o c.check_files.result before now) (sym known) c.check_files.ensures.leaves

pub returns-in-Some-Check-clause-does : goal.returns-in-Some-Check-clause-does
returns-in-Some-Check-clause-does g c =
    let files = c.in-Some-Check.files in
    let kind : c.in-Some-Check.field-0 ≡ Check files = rw c.in-Some-Check.is at c.in-Some-Check.field-0-is in
    let found : c.args.found ≡ Some (Check files) = c.in-Some-Check.is ∙ ap Some kind in
    let before = seen g.D.Desk.files g.D.Desk.written g.D.Desk.printed c.args.desk.now in
    let now = seen g.D.Desk.files g.D.Desk.written g.D.Desk.printed c.check_files.new.desk in
    let known : option_map order_seen c.args.found ≡ Some (check (files_seen files)) =
    ap (λ (f : Option Command). option_map order_seen f) found in
    subst (λ (o : Option Order). DoesOrder o c.check_files.result before now (g.D.Desk.openings c.args.desk.now)
    (g.D.Desk.openings c.check_files.new.desk) (g.D.Desk.ready c.check_files.new.desk)) (sym known)
    (record {
      refused = c.check_files.ensures.refused;
      checks = c.check_files.ensures.answers;
      checks_openly = c.check_files.ensures.answers_openly;
      not_refused = c.check_files.ensures.not_refused;
      only_prints = c.check_files.ensures.only_prints;
      once = c.check_files.ensures.once;
    })

pub returns-in-Some-Gen-clause-leaves : goal.returns-in-Some-Gen-clause-leaves
returns-in-Some-Gen-clause-leaves g c =
    let words = c.in-Some-Gen.words in
    let kind : c.in-Some-Gen.field-0 ≡ Gen words = rw c.in-Some-Gen.is at c.in-Some-Gen.field-0-is in
    let found : c.args.found ≡ Some (Gen words) = c.in-Some-Gen.is ∙ ap Some kind in
    let before = seen g.D.Desk.files g.D.Desk.written g.D.Desk.printed c.args.desk.now in
    let now = seen g.D.Desk.files g.D.Desk.written g.D.Desk.printed c.generate_network.new.desk in
    let known : option_map order_seen c.args.found ≡ Some (gen (gen_seen words)) =
    ap (λ (f : Option Command). option_map order_seen f) found in
    subst (λ (o : Option Order). Leaves o c.generate_network.result before now) (sym known)
    (c.generate_network.ensures.leaves (gen_seen words))

pub returns-in-Some-Gen-clause-does : goal.returns-in-Some-Gen-clause-does
returns-in-Some-Gen-clause-does g c =
    let words = c.in-Some-Gen.words in
    let kind : c.in-Some-Gen.field-0 ≡ Gen words = rw c.in-Some-Gen.is at c.in-Some-Gen.field-0-is in
    let found : c.args.found ≡ Some (Gen words) = c.in-Some-Gen.is ∙ ap Some kind in
    let before = seen g.D.Desk.files g.D.Desk.written g.D.Desk.printed c.args.desk.now in
    let now = seen g.D.Desk.files g.D.Desk.written g.D.Desk.printed c.generate_network.new.desk in
    let known : option_map order_seen c.args.found ≡ Some (gen (gen_seen words)) =
    ap (λ (f : Option Command). option_map order_seen f) found in
    subst (λ (o : Option Order). DoesOrder o c.generate_network.result before now (g.D.Desk.openings c.args.desk.now)
    (g.D.Desk.openings c.generate_network.new.desk) (g.D.Desk.ready c.generate_network.new.desk)) (sym known)
    (record {
      refused = c.generate_network.ensures.refused;
      generates = c.generate_network.ensures.answers;
      others = c.generate_network.ensures.others;
      once = c.generate_network.ensures.once;
      keeps_cert = c.generate_network.ensures.keeps_cert;
      keeps_net = c.generate_network.ensures.keeps_net;
    })

pub returns-in-Some-Fire-clause-leaves : goal.returns-in-Some-Fire-clause-leaves
returns-in-Some-Fire-clause-leaves g c =
    let words = c.in-Some-Fire.words in
    let kind : c.in-Some-Fire.field-0 ≡ Fire words = rw c.in-Some-Fire.is at c.in-Some-Fire.field-0-is in
    let found : c.args.found ≡ Some (Fire words) = c.in-Some-Fire.is ∙ ap Some kind in
    let before = seen g.D.Desk.files g.D.Desk.written g.D.Desk.printed c.args.desk.now in
    let now = seen g.D.Desk.files g.D.Desk.written g.D.Desk.printed c.find_bracket.new.desk in
    let known : option_map order_seen c.args.found ≡ Some (fire (fire_seen words)) =
    ap (λ (f : Option Command). option_map order_seen f) found in
    subst (λ (o : Option Order). Leaves o c.find_bracket.result before now) (sym known) c.find_bracket.ensures.leaves

pub returns-in-Some-Fire-clause-does : goal.returns-in-Some-Fire-clause-does
returns-in-Some-Fire-clause-does g c =
    let words = c.in-Some-Fire.words in
    let kind : c.in-Some-Fire.field-0 ≡ Fire words = rw c.in-Some-Fire.is at c.in-Some-Fire.field-0-is in
    let found : c.args.found ≡ Some (Fire words) = c.in-Some-Fire.is ∙ ap Some kind in
    let before = seen g.D.Desk.files g.D.Desk.written g.D.Desk.printed c.args.desk.now in
    let now = seen g.D.Desk.files g.D.Desk.written g.D.Desk.printed c.find_bracket.new.desk in
    let known : option_map order_seen c.args.found ≡ Some (fire (fire_seen words)) =
    ap (λ (f : Option Command). option_map order_seen f) found in
    subst (λ (o : Option Order). DoesOrder o c.find_bracket.result before now (g.D.Desk.openings c.args.desk.now)
    (g.D.Desk.openings c.find_bracket.new.desk) (g.D.Desk.ready c.find_bracket.new.desk)) (sym known)
    (record {
      refused = c.find_bracket.ensures.refused;
      fires = c.find_bracket.ensures.fires;
      only_prints = c.find_bracket.ensures.only_prints;
      once = c.find_bracket.ensures.once;
    })

pub returns-in-Some-Closures-clause-leaves : goal.returns-in-Some-Closures-clause-leaves
returns-in-Some-Closures-clause-leaves g c =
    let words = c.in-Some-Closures.words in
    let kind : c.in-Some-Closures.field-0 ≡ Closures words = rw c.in-Some-Closures.is at c.in-Some-Closures.field-0-is in
    let found : c.args.found ≡ Some (Closures words) = c.in-Some-Closures.is ∙ ap Some kind in
    let before = seen g.D.Desk.files g.D.Desk.written g.D.Desk.printed c.args.desk.now in
    let now = seen g.D.Desk.files g.D.Desk.written g.D.Desk.printed c.close_pipes.new.desk in
    let known : option_map order_seen c.args.found ≡ Some (closures (closures_seen words)) =
    ap (λ (f : Option Command). option_map order_seen f) found in
    subst (λ (o : Option Order). Leaves o c.close_pipes.result before now) (sym known) c.close_pipes.ensures.leaves

pub returns-in-Some-Closures-clause-does : goal.returns-in-Some-Closures-clause-does
returns-in-Some-Closures-clause-does g c =
    let words = c.in-Some-Closures.words in
    let kind : c.in-Some-Closures.field-0 ≡ Closures words = rw c.in-Some-Closures.is at c.in-Some-Closures.field-0-is in
    let found : c.args.found ≡ Some (Closures words) = c.in-Some-Closures.is ∙ ap Some kind in
    let before = seen g.D.Desk.files g.D.Desk.written g.D.Desk.printed c.args.desk.now in
    let now = seen g.D.Desk.files g.D.Desk.written g.D.Desk.printed c.close_pipes.new.desk in
    let known : option_map order_seen c.args.found ≡ Some (closures (closures_seen words)) =
    ap (λ (f : Option Command). option_map order_seen f) found in
    subst (λ (o : Option Order). DoesOrder o c.close_pipes.result before now (g.D.Desk.openings c.args.desk.now)
    (g.D.Desk.openings c.close_pipes.new.desk) (g.D.Desk.ready c.close_pipes.new.desk)) (sym known)
    (record {
      refused = c.close_pipes.ensures.refused;
      closes = c.close_pipes.ensures.closes;
      only_prints = c.close_pipes.ensures.only_prints;
      once = c.close_pipes.ensures.once;
    })

pub returns-in-Some-Witness-clause-leaves : goal.returns-in-Some-Witness-clause-leaves
returns-in-Some-Witness-clause-leaves g c =
    let words = c.in-Some-Witness.words in
    let kind : c.in-Some-Witness.field-0 ≡ Witness words = rw c.in-Some-Witness.is at c.in-Some-Witness.field-0-is in
    let found : c.args.found ≡ Some (Witness words) = c.in-Some-Witness.is ∙ ap Some kind in
    let before = seen g.D.Desk.files g.D.Desk.written g.D.Desk.printed c.args.desk.now in
    let now = seen g.D.Desk.files g.D.Desk.written g.D.Desk.printed c.write_witness.new.desk in
    let known : option_map order_seen c.args.found ≡ Some (witness (witness_seen words)) =
    ap (λ (f : Option Command). option_map order_seen f) found in
    subst (λ (o : Option Order). Leaves o c.write_witness.result before now) (sym known) c.write_witness.ensures.leaves

pub returns-in-Some-Witness-clause-does : goal.returns-in-Some-Witness-clause-does
returns-in-Some-Witness-clause-does g c =
    let words = c.in-Some-Witness.words in
    let kind : c.in-Some-Witness.field-0 ≡ Witness words = rw c.in-Some-Witness.is at c.in-Some-Witness.field-0-is in
    let found : c.args.found ≡ Some (Witness words) = c.in-Some-Witness.is ∙ ap Some kind in
    let before = seen g.D.Desk.files g.D.Desk.written g.D.Desk.printed c.args.desk.now in
    let now = seen g.D.Desk.files g.D.Desk.written g.D.Desk.printed c.write_witness.new.desk in
    let known : option_map order_seen c.args.found ≡ Some (witness (witness_seen words)) =
    ap (λ (f : Option Command). option_map order_seen f) found in
    subst (λ (o : Option Order). DoesOrder o c.write_witness.result before now (g.D.Desk.openings c.args.desk.now)
    (g.D.Desk.openings c.write_witness.new.desk) (g.D.Desk.ready c.write_witness.new.desk)) (sym known)
    (record {
      refused = c.write_witness.ensures.refused;
      searches = c.write_witness.ensures.searches;
      not_refused = c.write_witness.ensures.not_refused;
      holds = c.write_witness.ensures.holds;
      others = c.write_witness.ensures.others;
      opens_in_turn = c.write_witness.ensures.opens_in_turn;
    })

pub returns-in-Some-Meet-clause-leaves : goal.returns-in-Some-Meet-clause-leaves
returns-in-Some-Meet-clause-leaves g c =
    let words = c.in-Some-Meet.words in
    let kind : c.in-Some-Meet.field-0 ≡ Meet words = rw c.in-Some-Meet.is at c.in-Some-Meet.field-0-is in
    let found : c.args.found ≡ Some (Meet words) = c.in-Some-Meet.is ∙ ap Some kind in
    let before = seen g.D.Desk.files g.D.Desk.written g.D.Desk.printed c.args.desk.now in
    let now = seen g.D.Desk.files g.D.Desk.written g.D.Desk.printed c.meet_file.new.desk in
    let known : option_map order_seen c.args.found ≡ Some (meet (meet_seen words)) =
    ap (λ (f : Option Command). option_map order_seen f) found in
    subst (λ (o : Option Order). Leaves o c.meet_file.result before now) (sym known) c.meet_file.ensures.leaves

pub returns-in-Some-Meet-clause-does : goal.returns-in-Some-Meet-clause-does
returns-in-Some-Meet-clause-does g c =
    let words = c.in-Some-Meet.words in
    let kind : c.in-Some-Meet.field-0 ≡ Meet words = rw c.in-Some-Meet.is at c.in-Some-Meet.field-0-is in
    let found : c.args.found ≡ Some (Meet words) = c.in-Some-Meet.is ∙ ap Some kind in
    let before = seen g.D.Desk.files g.D.Desk.written g.D.Desk.printed c.args.desk.now in
    let now = seen g.D.Desk.files g.D.Desk.written g.D.Desk.printed c.meet_file.new.desk in
    let known : option_map order_seen c.args.found ≡ Some (meet (meet_seen words)) =
    ap (λ (f : Option Command). option_map order_seen f) found in
    subst (λ (o : Option Order). DoesOrder o c.meet_file.result before now (g.D.Desk.openings c.args.desk.now)
    (g.D.Desk.openings c.meet_file.new.desk) (g.D.Desk.ready c.meet_file.new.desk)) (sym known)
    (record {
      refused = c.meet_file.ensures.refused;
      meets = c.meet_file.ensures.meets;
      not_refused = c.meet_file.ensures.not_refused;
      only_prints = c.meet_file.ensures.only_prints;
      once = c.meet_file.ensures.once;
    })

pub returns-in-Some-RunOver-clause-leaves : goal.returns-in-Some-RunOver-clause-leaves
returns-in-Some-RunOver-clause-leaves g c =
    let words = c.in-Some-RunOver.words in
    let kind : c.in-Some-RunOver.field-0 ≡ RunOver words = rw c.in-Some-RunOver.is at c.in-Some-RunOver.field-0-is in
    let found : c.args.found ≡ Some (RunOver words) = c.in-Some-RunOver.is ∙ ap Some kind in
    let before = seen g.D.Desk.files g.D.Desk.written g.D.Desk.printed c.args.desk.now in
    let now = seen g.D.Desk.files g.D.Desk.written g.D.Desk.printed c.run_for_spread.new.desk in
    let known : option_map order_seen c.args.found ≡ Some (run_over (spread_run_seen words)) =
    ap (λ (f : Option Command). option_map order_seen f) found in
    subst (λ (o : Option Order). Leaves o c.run_for_spread.result before now) (sym known)
    c.run_for_spread.ensures.leaves

pub returns-in-Some-RunOver-clause-does : goal.returns-in-Some-RunOver-clause-does
returns-in-Some-RunOver-clause-does g c =
    let words = c.in-Some-RunOver.words in
    let kind : c.in-Some-RunOver.field-0 ≡ RunOver words = rw c.in-Some-RunOver.is at c.in-Some-RunOver.field-0-is in
    let found : c.args.found ≡ Some (RunOver words) = c.in-Some-RunOver.is ∙ ap Some kind in
    let before = seen g.D.Desk.files g.D.Desk.written g.D.Desk.printed c.args.desk.now in
    let now = seen g.D.Desk.files g.D.Desk.written g.D.Desk.printed c.run_for_spread.new.desk in
    let known : option_map order_seen c.args.found ≡ Some (run_over (spread_run_seen words)) =
    ap (λ (f : Option Command). option_map order_seen f) found in
    subst (λ (o : Option Order). DoesOrder o c.run_for_spread.result before now (g.D.Desk.openings c.args.desk.now)
    (g.D.Desk.openings c.run_for_spread.new.desk) (g.D.Desk.ready c.run_for_spread.new.desk)) (sym known)
    c.run_for_spread.ensures.does

pub returns-in-Some-CheckOver-clause-leaves : goal.returns-in-Some-CheckOver-clause-leaves
returns-in-Some-CheckOver-clause-leaves g c =
    let words = c.in-Some-CheckOver.words in
    let kind : c.in-Some-CheckOver.field-0 ≡ CheckOver words =
    rw c.in-Some-CheckOver.is at c.in-Some-CheckOver.field-0-is in
    let found : c.args.found ≡ Some (CheckOver words) = c.in-Some-CheckOver.is ∙ ap Some kind in
    let before = seen g.D.Desk.files g.D.Desk.written g.D.Desk.printed c.args.desk.now in
    let now = seen g.D.Desk.files g.D.Desk.written g.D.Desk.printed c.check_for_spread.new.desk in
    let known : option_map order_seen c.args.found ≡ Some (check_over (spread_check_seen words)) =
    ap (λ (f : Option Command). option_map order_seen f) found in
    subst (λ (o : Option Order). Leaves o c.check_for_spread.result before now) (sym known)
    c.check_for_spread.ensures.leaves

pub returns-in-Some-CheckOver-clause-does : goal.returns-in-Some-CheckOver-clause-does
returns-in-Some-CheckOver-clause-does g c =
    let words = c.in-Some-CheckOver.words in
    let kind : c.in-Some-CheckOver.field-0 ≡ CheckOver words =
    rw c.in-Some-CheckOver.is at c.in-Some-CheckOver.field-0-is in
    let found : c.args.found ≡ Some (CheckOver words) = c.in-Some-CheckOver.is ∙ ap Some kind in
    let before = seen g.D.Desk.files g.D.Desk.written g.D.Desk.printed c.args.desk.now in
    let now = seen g.D.Desk.files g.D.Desk.written g.D.Desk.printed c.check_for_spread.new.desk in
    let known : option_map order_seen c.args.found ≡ Some (check_over (spread_check_seen words)) =
    ap (λ (f : Option Command). option_map order_seen f) found in
    subst (λ (o : Option Order). DoesOrder o c.check_for_spread.result before now (g.D.Desk.openings c.args.desk.now)
    (g.D.Desk.openings c.check_for_spread.new.desk) (g.D.Desk.ready c.check_for_spread.new.desk)) (sym known)
    c.check_for_spread.ensures.does

pub returns-in-Some-FireOver-clause-leaves : goal.returns-in-Some-FireOver-clause-leaves
returns-in-Some-FireOver-clause-leaves g c =
    let words = c.in-Some-FireOver.words in
    let kind : c.in-Some-FireOver.field-0 ≡ FireOver words =
    rw c.in-Some-FireOver.is at c.in-Some-FireOver.field-0-is in
    let found : c.args.found ≡ Some (FireOver words) = c.in-Some-FireOver.is ∙ ap Some kind in
    let before = seen g.D.Desk.files g.D.Desk.written g.D.Desk.printed c.args.desk.now in
    let now = seen g.D.Desk.files g.D.Desk.written g.D.Desk.printed c.find_bracket_for_spread.new.desk in
    let known : option_map order_seen c.args.found ≡ Some (fire_over (spread_fire_seen words)) =
    ap (λ (f : Option Command). option_map order_seen f) found in
    subst (λ (o : Option Order). Leaves o c.find_bracket_for_spread.result before now) (sym known)
    c.find_bracket_for_spread.ensures.leaves

pub returns-in-Some-FireOver-clause-does : goal.returns-in-Some-FireOver-clause-does
returns-in-Some-FireOver-clause-does g c =
    let words = c.in-Some-FireOver.words in
    let kind : c.in-Some-FireOver.field-0 ≡ FireOver words =
    rw c.in-Some-FireOver.is at c.in-Some-FireOver.field-0-is in
    let found : c.args.found ≡ Some (FireOver words) = c.in-Some-FireOver.is ∙ ap Some kind in
    let before = seen g.D.Desk.files g.D.Desk.written g.D.Desk.printed c.args.desk.now in
    let now = seen g.D.Desk.files g.D.Desk.written g.D.Desk.printed c.find_bracket_for_spread.new.desk in
    let known : option_map order_seen c.args.found ≡ Some (fire_over (spread_fire_seen words)) =
    ap (λ (f : Option Command). option_map order_seen f) found in
    subst (λ (o : Option Order). DoesOrder o c.find_bracket_for_spread.result before now
    (g.D.Desk.openings c.args.desk.now) (g.D.Desk.openings c.find_bracket_for_spread.new.desk)
    (g.D.Desk.ready c.find_bracket_for_spread.new.desk)) (sym known) c.find_bracket_for_spread.ensures.does

pub returns-in-Some-ClosuresOver-clause-leaves : goal.returns-in-Some-ClosuresOver-clause-leaves
returns-in-Some-ClosuresOver-clause-leaves g c =
    let words = c.in-Some-ClosuresOver.words in
    let kind : c.in-Some-ClosuresOver.field-0 ≡ ClosuresOver words =
    rw c.in-Some-ClosuresOver.is at c.in-Some-ClosuresOver.field-0-is in
    let found : c.args.found ≡ Some (ClosuresOver words) = c.in-Some-ClosuresOver.is ∙ ap Some kind in
    let before = seen g.D.Desk.files g.D.Desk.written g.D.Desk.printed c.args.desk.now in
    let now = seen g.D.Desk.files g.D.Desk.written g.D.Desk.printed c.close_pipes_for_spread.new.desk in
    let known : option_map order_seen c.args.found ≡ Some (closures_over (spread_closures_seen words)) =
    ap (λ (f : Option Command). option_map order_seen f) found in
    subst (λ (o : Option Order). Leaves o c.close_pipes_for_spread.result before now) (sym known)
    c.close_pipes_for_spread.ensures.leaves

pub returns-in-Some-ClosuresOver-clause-does : goal.returns-in-Some-ClosuresOver-clause-does
returns-in-Some-ClosuresOver-clause-does g c =
    let words = c.in-Some-ClosuresOver.words in
    let kind : c.in-Some-ClosuresOver.field-0 ≡ ClosuresOver words =
    rw c.in-Some-ClosuresOver.is at c.in-Some-ClosuresOver.field-0-is in
    let found : c.args.found ≡ Some (ClosuresOver words) = c.in-Some-ClosuresOver.is ∙ ap Some kind in
    let before = seen g.D.Desk.files g.D.Desk.written g.D.Desk.printed c.args.desk.now in
    let now = seen g.D.Desk.files g.D.Desk.written g.D.Desk.printed c.close_pipes_for_spread.new.desk in
    let known : option_map order_seen c.args.found ≡ Some (closures_over (spread_closures_seen words)) =
    ap (λ (f : Option Command). option_map order_seen f) found in
    subst (λ (o : Option Order). DoesOrder o c.close_pipes_for_spread.result before now
    (g.D.Desk.openings c.args.desk.now) (g.D.Desk.openings c.close_pipes_for_spread.new.desk)
    (g.D.Desk.ready c.close_pipes_for_spread.new.desk)) (sym known) c.close_pipes_for_spread.ensures.does
