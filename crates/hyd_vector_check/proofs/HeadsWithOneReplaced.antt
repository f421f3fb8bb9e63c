-- Heads of nodes among the heads of all nodes, with one junction's replaced.
use Rattle.std.proofs.Common.{◌≡◌, ℕ, ◌<◌, ℤ, ◌∙◌, arith, List, length}
use Rattle.std.specs.Prelude.{slice_set}
use Rattle.std.proofs.lemmas.List.{length-set, get_or-set_same, get_or-set_other}
use Rattle.hyd_spec.specs.Assignment.{head_at}
use Rattle.hyd_spec_certificates.specs.declared.Problem.{Problem}
use Rattle.hyd_spec_certificates.specs.declared.Side.{Side}
use Rattle.hyd_spec_certificates.specs.PeriodNetwork.{Grid, all_heads, fixed_heads}
use Rattle.hyd_theorems_on_definitions.proofs.HeadsOfAllNodes.{head_front}
use Rattle.std.proofs.Common.{pos}

pub own-head : (grid : Grid) (problem : Problem) (side : Side) (u : List ℤ) (i : ℕ) (h : ℤ) → i < length u
    → head_at (all_heads grid problem side (slice_set u i h)) i ≡ h
own-head grid problem side u i h lt =
    head_front (slice_set u i h) (fixed_heads grid problem side) i (let l = length-set u i h in omega (arith, l, lt))
    ∙ get_or-set_same u i h (pos 0) lt

pub other-head : (grid : Grid) (problem : Problem) (side : Side) (u : List ℤ) (i node : ℕ) (h : ℤ) → (node ≡ i → ⊥)
    → node < length u → head_at (all_heads grid problem side (slice_set u i h)) node ≡ head_at u node
other-head grid problem side u i node h ne lt =
    head_front (slice_set u i h) (fixed_heads grid problem side) node (let l = length-set u i h in omega (arith, l, lt))
    ∙ get_or-set_other u i node h (pos 0) ne
