-- Ends of contents, one of two each.
use Rattle.std.proofs.Common.{◌≡◌, ℤ, ◌≤ℤ◌, ap, subst, sym, inl, inr, ◌⊎◌, ◌∙◌}
use Rattle.hyd_spec.specs.Tank.{Bounds}
use Rattle.hyd_theorems_on_definitions.specs.LyingInIntervals.{IsWithin}
use Rattle.hyd_open_stocks.specs.declared.ends_of_contents.End.{End}
use Rattle.hyd_open_stocks.specs.declared.ends_of_contents.Contents.{Contents}
use Rattle.hyd_open_stocks.specs.EndsOfContents.{contents_of, levels_with, GoWith, AreWithin}

-- what holds of both of two ends holds of one of them
pub of_one : (P : End → Type 0) (a b x : End) → (x ≡ a) ⊎ (x ≡ b) → P a → P b → P x
of_one P a b x (inl is) p q = subst P (sym is) p
of_one P a b x (inr is) p q = subst P (sym is) q

-- an end lies within bounds
pub record LiesWithin (contents levels : Bounds) (x : End) : Type 0 where
  pub least : contents.least ≤ℤ x.content
  pub most : x.content ≤ℤ contents.most
  pub level_least : levels.least ≤ℤ x.level
  pub level_most : x.level ≤ℤ levels.most

pub low_lies : (contents levels : Bounds) (x : Contents) → AreWithin contents levels x → LiesWithin contents levels x.lo
low_lies contents levels x are = record {
  least = are.contents_lie.lo_above;
  most = are.contents_lie.lo_below;
  level_least = are.levels_lie.lo_above;
  level_most = are.levels_lie.lo_below;
}

pub high_lies : (contents levels : Bounds) (x : Contents) → AreWithin contents levels x
    → LiesWithin contents levels x.hi
high_lies contents levels x are = record {
  least = are.contents_lie.hi_above;
  most = are.contents_lie.hi_below;
  level_least = are.levels_lie.hi_above;
  level_most = are.levels_lie.hi_below;
}

pub both_lie : (contents levels : Bounds) (x : Contents) → LiesWithin contents levels x.lo
    → LiesWithin contents levels x.hi → AreWithin contents levels x
both_lie contents levels x low high = record {
  contents_lie = record { lo_above = low.least; lo_below = low.most; hi_above = high.least; hi_below = high.most };
  levels_lie = record {
    lo_above = low.level_least;
    lo_below = low.level_most;
    hi_above = high.level_least;
    hi_below = high.level_most;
  };
}
