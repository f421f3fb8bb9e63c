-- Controls of a file without a fault.
use Rattle.std.specs.Prelude.{◌≡◌, ℕ, true, false, List, codes, take, None}
use Rattle.hyd_spec_lines.specs.Lines.{Row}
use Rattle.hyd_spec_lines.specs.declared.section.Section.TheVariants.{Controls}
use Rattle.hyd_net.specs.NumberRanges.{IsHead}
use Rattle.hyd_net.specs.declared.controls.Control.{Control}
use Rattle.hyd_num.specs.FileQuantity.{is_us_unit, head_ticks}
use Rattle.hyd_num.specs.declared.flow_units.FlowUnit.{FlowUnit}
use Rattle.hyd_spec_input.specs.Columns.{word, word_is, amount}
use Rattle.hyd_spec_input.specs.MeaningsAcrossRows.{number_in}
use Rattle.hyd_spec_input.specs.Project.{Match, IsControl}
use Rattle.hyd_spec_input.specs.SectionsAndTables.{words_of}

-- the words of a control name a tank and a level in range, where it acts at one, and else a time
pub record IsRightWhen (tanks : List (List ℕ)) (unit : FlowUnit) (words : List (List ℕ)) : Type 0 where
  pub tank : word_is 3 (codes "IF") words ≡ true → number_in tanks (word 5 words) ≡ None → ⊥
  pub level : word_is 3 (codes "IF") words ≡ true → IsHead (head_ticks (is_us_unit unit) (amount 7 words))
  pub time : word_is 3 (codes "IF") words ≡ false → word_is 3 (codes "AT") words ≡ true

-- the controls of the first rows
abbrev pub AreControls : List Row → ℕ → List Control → Type 0
AreControls rows k controls = Match (IsControl rows) (words_of Controls (take k rows)) controls
