-- Without a spread a period is as sharp as one of the network.
use Rattle.std.proofs.Common.{Bool, true, false, refl, ◌⊎◌, inl, inr}
use Rattle.std.specs.Prelude.{MatchBool}
use Rattle.hyd_spec.specs.ProgramTypes.{Project}
use Rattle.hyd_spec_certificates.specs.declared.Side.TheVariants.{Upper, Lower}
use Rattle.hyd_spec_open_ends.specs.OpenRuns.{OpenFound}
use Rattle.hyd_spec_open_reports.specs.PromisesOfOpenReports.{IsNarrowOpenly, IsTightOpenly, IsSharpOpenly}
use Rattle.hyd_spec_reports.specs.PromisesOfRunsAndChecks.{Sharpness}
use Rattle.hyd_spec_spread.specs.Spreads.{no_spread}
use Rattle.hyd_spec_spread_promises.specs.SharpOverSpreads.{IsNarrowWithin, AreTightOver, IsSharpWithin}
use Rattle.hyd_theorems_on_open_spreads.specs.RunsAsOthers.{on_both_sides}
use Rattle.hyd_theorems_on_spread_runs.proofs.RunsAlone.{both}

matched : (b : Bool) (A B C D : Type 0) → (A → B) → (C → D) → MatchBool b A C → MatchBool b B D
matched true A B C D to other a = to a
matched false A B C D to other c = other c

module _ (project : Project) (sharpness : Sharpness) (here : OpenFound) where
  tight : AreTightOver project (both here.grid) here.found.row → IsTightOpenly project here
  tight all problem Upper is = all problem Upper is
  tight all problem Lower is = all problem Lower is

  narrow : IsNarrowWithin sharpness.width no_spread here.standing (both here.grid) here.found.row here.next
      → IsNarrowOpenly sharpness.width here.standing here.found here.next
  narrow is = record { heads = is.heads refl; levels = is.levels refl }

  either : AreTightOver project (both here.grid) here.found.row
      ⊎ IsNarrowWithin sharpness.width no_spread here.standing (both here.grid) here.found.row here.next
      → IsTightOpenly project here ⊎ IsNarrowOpenly sharpness.width here.standing here.found here.next
  either (inl all) = inl (tight all)
  either (inr is) = inr (narrow is)

  pub sharp_alone : IsSharpWithin project no_spread sharpness (on_both_sides here)
      → IsSharpOpenly project sharpness here
  sharp_alone is = matched sharpness.tight (AreTightOver project (both here.grid) here.found.row)
      (IsTightOpenly project here)
      (AreTightOver project (both here.grid) here.found.row
      ⊎ IsNarrowWithin sharpness.width no_spread here.standing (both here.grid) here.found.row here.next)
      (IsTightOpenly project here ⊎ IsNarrowOpenly sharpness.width here.standing here.found here.next)
      tight either is
