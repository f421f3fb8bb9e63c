-- What a course keeps of its last period.
use Rattle.std.proofs.Common.{◌≡◌, refl, ap}
use Rattle.std.specs.Prelude.{Option, Some, None}
use Rattle.hyd_spec.specs.PeriodLength.{Period}
use Rattle.hyd_spec.specs.ProgramTypes.{Project}
use Rattle.hyd_lemmas.proofs.ListsOptionsAndResults.{same_some}
use Rattle.hyd_stocks_below.specs.KeptStocks.{AreKept}
use Rattle.hyd_course.specs.declared.standing.Standing.{Standing}
use Rattle.hyd_course.specs.declared.standing.Lasted.{Lasted}
use Rattle.hyd_course.specs.Standings.{HasLast}

-- it has none
pub last_none : (project : Project) (last : Option Period) (standing : Standing) → HasLast project last standing
    → ◌≡◌ {A = Option Lasted} standing.last None → ◌≡◌ {A = Option Period} last None
last_none project None standing has e = refl
last_none project (Some before) standing has e = absurd (let l = has.last in cc)

-- it has one, of which stocks and inflows are kept
pub record IsLast (project : Project) (last : Option Period) (standing : Standing) (lasted : Lasted) : Type 0 where
  pub before : Period
  pub is : last ≡ Some before
  pub kept : AreKept project before lasted.length standing.stocks.items standing.inflows.items

pub last_kept : (project : Project) (last : Option Period) (standing : Standing) (lasted : Lasted)
    → HasLast project last standing → standing.last ≡ Some lasted → IsLast project last standing lasted
last_kept project None standing lasted has e = absurd (let l : ◌≡◌ {A = Option Lasted} standing.last None = has in cc)
last_kept project (Some before) standing lasted has e =
    let own : Lasted = record { time = before.time; length = before.length } in
    record {
      before = before;
      is = refl;
      kept = record {
        lasts = ap (λ (l : Lasted). l.length) (same_some standing.last own lasted has.last e);
        stock_each = has.stocks;
        inflow_each = has.inflows;
      };
    }
