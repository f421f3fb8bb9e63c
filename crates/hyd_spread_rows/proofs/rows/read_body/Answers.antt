use Rattle.std.proofs.Common.{◌≡◌, ℕ, refl, List, [], ◌∷◌}
use Rattle.std.specs.Prelude.{Option, None, slice_get}
use Rattle.hyd_net.specs.declared.refusal_cause.Cause.{Cause}
use Rattle.hyd_spec.specs.ProgramTypes.{Project}
use Rattle.hyd_spec_lines.specs.WordsOfLines.{words_in}
use Rattle.hyd_spec_spread_rows.specs.TextsOfSpreads.{words_fault}
use Rattle.hyd_spread_rows.proofs.rows.read_body.Goals as goal

no-words : (project : Project) (text : List ℕ) (words : List (List ℕ))
    → ◌≡◌ {A = Option (List ℕ)} None (slice_get words 0)
    → (◌≡◌ {A = Option Cause} (words_fault project text words) None) × (words ≡ [])
no-words project text [] e = (refl, refl)
no-words project text (w ∷ ws) e = absurd (cc)

pub returns-in-None : goal.returns-in-None
returns-in-None c = no-words c.args.project.now c.args.body.now (words_in c.args.body.now) c.in-None.ensures
