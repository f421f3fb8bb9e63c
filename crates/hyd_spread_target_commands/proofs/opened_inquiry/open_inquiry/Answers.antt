-- An inquiry that was opened is for the spread of the text, and its nets are the network's.
use Rattle.std.proofs.Common.{◌∙◌, subst}
use Rattle.hyd_spec_spread.specs.Spreads.{Spread}
use Rattle.hyd_spread_networks.specs.RefusedSpreads.{IsRefusedFor}
use Rattle.hyd_spread_files.proofs.OpenedRuns.{gives}
use Rattle.hyd_spread_target_commands.proofs.opened_inquiry.open_inquiry.Goals as goal

pub nets_fault-requires-clause-refused : goal.nets_fault-requires-clause-refused
nets_fault-requires-clause-refused c =
    subst (λ (s : Spread). IsRefusedFor c.args.project.now s c.in-Err.refused) c.in_ok-start.ensures.spread
    c.in-Err.ensures.refused

pub returns-in-Ok-clause-gives : goal.returns-in-Ok-clause-gives
returns-in-Ok-clause-gives c =
    gives c.args.project.now c.args.text.now c.in-Ok.inquiry.first.nets c.in_ok-start.ensures.begins
    (c.in-Ok.ensures.spread ∙ c.in_ok-start.ensures.spread) c.in-Ok.ensures.open.ready.of
