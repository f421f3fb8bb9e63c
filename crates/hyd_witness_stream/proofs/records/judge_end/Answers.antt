-- The END line says what is so.
use Rattle.std.proofs.Common.{◌≡◌, ◌∙◌, Bool, true, false, not, refl}
use Rattle.std.specs.Bool.{beq}
use Rattle.hyd_sim.specs.RunView.{standing_of}
use Rattle.hyd_cert_check.proofs.RecordLemmas.{same-number}
use Rattle.hyd_witness_stream.proofs.records.judge_end.Goals as goal

alike : (a b : Bool) → not (beq a b) ≡ false → a ≡ b
alike true true e = refl
alike false false e = refl
alike true false e = absurd (let apart : true ≡ false = e in cc)
alike false true e = absurd (let apart : true ≡ false = e in cc)

pub returns : goal.returns
returns c = λ before now end line moments S. (
  c.args.finished,
  same-number c.args.sim.now.project (standing_of c.args.sim.now) c.args.periods c.args.finished before now
      (c.if-periods-number.false ∙ c.number.ensures)
      (alike c.args.finished c.is_finished.result c.if-finished-is_finished.false ∙ c.is_finished.ensures) end,
)
