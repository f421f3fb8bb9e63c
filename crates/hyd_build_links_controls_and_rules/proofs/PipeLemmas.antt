-- What a pipe is made of.
use Rattle.std.proofs.Common.{◌≡◌, ℕ, Bool, true, false, List, sym, ap, ◌∙◌, inl, inr, if◌then◌else◌}
use Rattle.std.proofs.lemmas.Bool.{cases_Bool}
use Rattle.hyd_num.specs.CapacityPairs.{IsMade}
use Rattle.hyd_spec_power_laws.specs.PowerCapacities.{IsMade as IsPowerMade}
use Rattle.hyd_spec_power_laws.specs.declared.power_capacities.HazenWilliamsPipe.{HazenWilliamsPipe}
use Rattle.hyd_spec_power_laws.specs.declared.power_capacities.PowerCapacity.{PowerCapacity}
use Rattle.hyd_num.specs.declared.link_capacities.Capacity.{Capacity}
use Rattle.hyd_num.specs.declared.link_capacities.Origin.TheVariants.{Pipe}
use Rattle.hyd_spec_lines.specs.Lines.{Row}
use Rattle.hyd_network_rows.specs.Rows.{IsPipeRow, pipe_status}
use Rattle.hyd_network_rows.specs.declared.pipes.PipeRow.{PipeRow}
use Rattle.hyd_network_rows.specs.declared.pipes.PipeStatus.{PipeStatus}
use Rattle.hyd_network_rows.specs.declared.pipes.PipeStatus.TheVariants.{Open, Closed, CheckValve}
use Rattle.hyd_spec_input.specs.Columns.{amount}
use Rattle.hyd_spec_input.specs.NodeAndLinkRows.{has_check_valve, is_closed_pipe, pipe_minor}
use Rattle.hyd_spec_input.specs.Project.{IsPipeOf, IsPowerPipeOf}
use Rattle.hyd_spec_input.specs.FaultsWithOtherRows as others

pub pipe_made : (rows : List Row) (row : Row) (us : Bool) (pipe : PipeRow) (cap : Capacity) → us ≡ others.us rows
    → IsPipeRow row.words pipe → IsMade cap
    → cap.origin ≡ Pipe us pipe.length pipe.diameter pipe.roughness pipe.minor
    → IsPipeOf (others.us rows) (amount 3 row.words) (amount 4 row.words) (amount 5 row.words) (pipe_minor row.words)
    cap
pipe_made rows row us pipe cap u is made origin = record {
  made = made;
  l = pipe.length;
  l_is = is.length;
  d = pipe.diameter;
  d_is = is.diameter;
  n = pipe.roughness;
  n_is = is.roughness;
  k = pipe.minor;
  k_is = is.minor;
  origin = rw (← u) origin;
}

-- the numbers of a row, for losses by Hazen-Williams
abbrev pub numbers_of : PipeRow → Bool → HazenWilliamsPipe
numbers_of pipe us = record {
  length = pipe.length;
  diameter = pipe.diameter;
  coefficient = pipe.roughness;
  minor = pipe.minor;
  us = us;
}

pub power_pipe_made : (rows : List Row) (row : Row) (us : Bool) (pipe : PipeRow) (cap : PowerCapacity)
    → us ≡ others.us rows → IsPipeRow row.words pipe → IsPowerMade cap → cap.pipe ≡ numbers_of pipe us
    → IsPowerPipeOf (others.us rows) (amount 3 row.words) (amount 4 row.words) (amount 5 row.words)
    (pipe_minor row.words) cap
power_pipe_made rows row us pipe cap u is made same = record {
  made = made;
  length_is = ap (λ (p : HazenWilliamsPipe). p.length.nano) same ∙ is.length;
  diameter_is = ap (λ (p : HazenWilliamsPipe). p.diameter.nano) same ∙ is.diameter;
  coefficient_is = ap (λ (p : HazenWilliamsPipe). p.coefficient.nano) same ∙ is.roughness;
  minor_is = ap (λ (p : HazenWilliamsPipe). p.minor.nano) same ∙ is.minor;
  us_is = ap (λ (p : HazenWilliamsPipe). p.us) same ∙ u;
}

-- ---- statuses

other_status : (closed : Bool) → (if closed then Closed else Open) ≡ CheckValve → ⊥
other_status true e = let x : ⊥ = cc in x
other_status false e = let x : ⊥ = cc in x

pub checks : (words : List (List ℕ)) (status : PipeStatus) → status ≡ pipe_status words → status ≡ CheckValve
    → has_check_valve words ≡ true
checks words status is e = elim (cases_Bool (has_check_valve words)) [
  | inl t ↦ t
  | inr f ↦ (let g : status ≡ (if is_closed_pipe words then Closed else Open) = rw f at is in
      absurd (other_status (is_closed_pipe words) (sym g ∙ e)))
]

pub checks_not : (words : List (List ℕ)) (status : PipeStatus) → status ≡ pipe_status words
    → (status ≡ CheckValve → ⊥) → has_check_valve words ≡ false
checks_not words status is other = elim (cases_Bool (has_check_valve words)) [
  | inl t ↦ (let g : status ≡ CheckValve = rw t at is in absurd (other g))
  | inr f ↦ f
]
