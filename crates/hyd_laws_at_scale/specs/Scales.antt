-- The scale of a witness.
use Rattle.std.specs.Prelude.{ℕ, ◌^◌}
use Rattle.hyd_laws_at_scale.specs.declared.scale.Scale.{Scale}

-- how many parts a tick has
abbrev pub parts_of : Scale → ℕ
parts_of scale = 2 ^ scale.power
