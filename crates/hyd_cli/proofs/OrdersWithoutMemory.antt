-- A command for which memory ran out has left all as it was.
use Rattle.std.proofs.Common.{◌≡◌, ℕ, zero, suc, Bool, List, [], ◌∷◌, Option, Some, None, inl, refl}
use Rattle.hyd_io.specs.declared.desk.Openings.{Openings}
use Rattle.hyd_command_words.specs.CommandGrammar.{TwoFiles, FireOrder, ClosuresOrder, WitnessOrder, MeetOrder}
use Rattle.hyd_command_words.specs.CommandGrammar.{Order, RunOrder, GenOrder, run, check, gen, fire, closures, witness}
use Rattle.hyd_command_words.specs.CommandGrammar.{meet, SpreadRunOrder, SpreadCheckOrder, run_over, check_over}
use Rattle.hyd_command_words.specs.CommandGrammar.{SpreadFireOrder, SpreadClosuresOrder, fire_over, closures_over}
use Rattle.hyd_command_answers.specs.DeskContents.{Seen, IsUntouched}
use Rattle.hyd_command_answers.specs.declared.status.Status.TheVariants.{OutOfMemory, InputRefused}
use Rattle.hyd_spread_target_commands.specs.PassedOn.{DoesFire, DoesClosures}
use Rattle.hyd_spread_target_commands.specs.SpreadTargetOrders.{DoesSpreadFire, DoesSpreadClosures}
use Rattle.hyd_witness_commands.specs.CommandMeet.{DoesMeet}
use Rattle.hyd_written_witnesses.specs.CommandWitness.{DoesWitness}
use Rattle.hyd_spread_command.specs.SpreadOrders.{DoesSpreadCheck}
use Rattle.hyd_cli.specs.Commands.{AnswersPlainOrder, AnswersOrder, DoesRun, DoesCheck, DoesGen, DoesOrder}
use Rattle.hyd_cli.specs.SpreadRuns.{DoesSpreadRun}
use Rattle.hyd_spread_command.proofs.PassedOn.{prints_nothing}

untouched : (same : Seen) → IsUntouched same same
untouched same = record { files = refl; written = refl; printed = refl }

not_refused : OutOfMemory ≡ InputRefused → ⊥
not_refused is = cc

plain_nothing : (text : List ℕ) (order : RunOrder) (slack : ℕ) (same : Seen)
    → AnswersPlainOrder text order slack OutOfMemory same same
plain_nothing text order zero same = untouched same
plain_nothing text order (suc seconds) same = untouched same

order_nothing : (text : List ℕ) (order : RunOrder) (names : List (List ℕ)) (same : Seen)
    → AnswersOrder text order names OutOfMemory same same
order_nothing text order [] same = plain_nothing text order order.slack same
order_nothing text order (name ∷ names) same = untouched same

runs_nothing : (order : RunOrder) (same : Seen) (openings : Openings)
    → DoesRun order OutOfMemory same same openings openings
runs_nothing order same openings = record {
  refused = λ text line why told fault. untouched same;
  runs = λ text told none. order_nothing text order order.flows same;
  holds = tt;
  others = λ other apart. refl;
  once = inl refl;
}

generates_nothing : (order : GenOrder) (same : Seen) (openings : Openings) (writable : Bool)
    → DoesGen order OutOfMemory same same openings openings writable
generates_nothing order same openings writable = record {
  refused = λ line why fault. untouched same;
  generates = λ none. untouched same;
  others = λ other net cert. refl;
  once = refl;
  keeps_cert = inl refl;
  keeps_net = inl refl;
}

checks_nothing : (files : TwoFiles) (same : Seen) (openings : Openings)
    → DoesCheck files OutOfMemory same same openings openings
checks_nothing files same openings = record {
  refused = λ text line why told fault. untouched same;
  checks = λ text certificate told none told_too begins. untouched same;
  checks_openly = λ text certificate told none told_too begins. untouched same;
  not_refused = λ text told none. λ e. cc;
  only_prints = prints_nothing same;
  once = inl refl;
}

fires_nothing : (order : FireOrder) (same : Seen) (openings : Openings)
    → DoesFire order OutOfMemory same same openings openings
fires_nothing order same openings = record {
  refused = λ text line why told fault. untouched same;
  fires = λ text told none. untouched same;
  only_prints = prints_nothing same;
  once = inl refl;
}

closes_nothing : (order : ClosuresOrder) (same : Seen) (openings : Openings)
    → DoesClosures order OutOfMemory same same openings openings
closes_nothing order same openings = record {
  refused = λ text line why told fault. untouched same;
  closes = λ text told none. untouched same;
  only_prints = prints_nothing same;
  once = inl refl;
}

searches_nothing : (order : WitnessOrder) (same : Seen) (openings : Openings)
    → DoesWitness order OutOfMemory same same openings openings
searches_nothing order same openings = record {
  refused = λ text line why told fault. untouched same;
  searches = λ text certificate told none told_too. untouched same;
  not_refused = λ text told none. λ e. cc;
  holds = tt;
  others = λ other apart. refl;
  opens_in_turn = inl refl;
}

meets_nothing : (order : MeetOrder) (same : Seen) (openings : Openings)
    → DoesMeet order OutOfMemory same same openings openings
meets_nothing order same openings = record {
  refused = λ text line why told fault. untouched same;
  meets = λ text witness told none told_too. untouched same;
  not_refused = λ text told none. λ e. cc;
  only_prints = prints_nothing same;
  once = inl refl;
}

runs_over_nothing : (order : SpreadRunOrder) (same : Seen) (openings : Openings)
    → DoesSpreadRun order OutOfMemory same same openings openings
runs_over_nothing order same openings = record {
  refused = λ net line why told fault. untouched same;
  runs = λ net text told none told_too. untouched same;
  refuses_spread = λ net told none is. absurd (not_refused is);
  holds = tt;
  others = λ other apart. refl;
  once = inl (inl refl);
}

checks_over_nothing : (order : SpreadCheckOrder) (same : Seen) (openings : Openings)
    → DoesSpreadCheck order OutOfMemory same same openings openings
checks_over_nothing order same openings = record {
  refused = λ net line why told fault. untouched same;
  checks = λ net text told none told_spread. untouched same;
  refuses_spread = λ net told none is. absurd (not_refused is);
  only_prints = prints_nothing same;
  once = inl (inl refl);
}

fires_over_nothing : (order : SpreadFireOrder) (same : Seen) (openings : Openings)
    → DoesSpreadFire order OutOfMemory same same openings openings
fires_over_nothing order same openings = record {
  refused = λ net line why told fault. untouched same;
  fires = λ net text told none told_spread. untouched same;
  refuses = λ net told none is. absurd (not_refused is);
  only_prints = prints_nothing same;
  once = inl (inl refl);
}

closes_over_nothing : (order : SpreadClosuresOrder) (same : Seen) (openings : Openings)
    → DoesSpreadClosures order OutOfMemory same same openings openings
closes_over_nothing order same openings = record {
  refused = λ net line why told fault. untouched same;
  closes = λ net text told none told_spread. untouched same;
  refuses_spread = λ net told none is. absurd (not_refused is);
  only_prints = prints_nothing same;
  once = inl (inl refl);
}

pub orders_nothing : (order : Option Order) (same : Seen) (openings : Openings) (writable : Bool)
    → DoesOrder order OutOfMemory same same openings openings writable
orders_nothing None same openings writable = (untouched same, refl)
orders_nothing (Some (run order)) same openings writable = runs_nothing order same openings
orders_nothing (Some (check files)) same openings writable = checks_nothing files same openings
orders_nothing (Some (gen order)) same openings writable = generates_nothing order same openings writable
orders_nothing (Some (fire order)) same openings writable = fires_nothing order same openings
orders_nothing (Some (closures order)) same openings writable = closes_nothing order same openings
orders_nothing (Some (witness order)) same openings writable = searches_nothing order same openings
orders_nothing (Some (meet order)) same openings writable = meets_nothing order same openings
orders_nothing (Some (run_over order)) same openings writable = runs_over_nothing order same openings
orders_nothing (Some (check_over order)) same openings writable = checks_over_nothing order same openings
orders_nothing (Some (fire_over order)) same openings writable = fires_over_nothing order same openings
orders_nothing (Some (closures_over order)) same openings writable = closes_over_nothing order same openings
