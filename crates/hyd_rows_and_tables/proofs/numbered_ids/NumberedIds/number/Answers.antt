use Rattle.std.proofs.Common.{sym}
use Rattle.hyd_net.proofs.IdLemmas.{place_of_id}
use Rattle.hyd_rows_and_tables.proofs.LookUpsByHash.{number_is, found_iff}
use Rattle.hyd_rows_and_tables.proofs.numbered_ids.NumberedIds.number.Goals as goal

pub returns-in_err-number-clause-found : goal.returns-in_err-number-clause-found
returns-in_err-number-clause-found c =
    rw c.from_residual.ensures (found_iff _ _ _ c.self.view_is c.args.id.now _ c.in_err-number.ensures.found)

pub returns-in_err-number-clause-value : goal.returns-in_err-number-clause-value
returns-in_err-number-clause-value c =
    rw c.from_residual.ensures (number_is _ _ _ c.self.view_is c.args.id.now _ c.in_err-number.ensures.index)

pub returns-clause-found : goal.returns-clause-found
returns-clause-found c = found_iff _ _ _ c.self.view_is c.args.id.now _ c.in_ok-number.ensures.found

pub returns-clause-place : goal.returns-clause-place
returns-clause-place c = place_of_id _ _ _ (sym (number_is _ _ _ c.self.view_is c.args.id.now _
    c.in_ok-number.ensures.index))

pub returns-clause-value : goal.returns-clause-value
returns-clause-value c = number_is _ _ _ c.self.view_is c.args.id.now _ c.in_ok-number.ensures.index
