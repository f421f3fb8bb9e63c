-- The heads of reservoirs and tanks among those of all nodes.
use Rattle.std.proofs.Common.{◌≡◌, ℕ, zero, suc, ◌+◌, ◌-◌, ◌<◌, ◌≤◌, ℤ, pos, true, false, List, [], ◌∷◌, length, map}
use Rattle.std.proofs.Common.{slice_index_or, refl, sym, ap, ◌∙◌, arith}
use Rattle.std.proofs.lemmas.List.{get_or_append_left, get_or-append_right}
use Rattle.hyd_spec.specs.Assignment.{head_at}
use Rattle.hyd_spec.specs.Lists.{map_from}
use Rattle.hyd_spec_certificates.specs.SpansAsIntervals.{levels_of}
use Rattle.hyd_spec_certificates.specs.declared.Problem.{Problem}
use Rattle.hyd_spec_certificates.specs.declared.Side.{Side}
use Rattle.hyd_spec_certificates.specs.declared.Side.TheVariants.{Upper, Lower}
use Rattle.hyd_spec_certificates.specs.PeriodNetwork.{end_on, tank_side, all_heads, fixed_heads}
use Rattle.hyd_spec_certificates.specs.declared.LevelSpan.{LevelSpan}
use Rattle.hyd_period_network.specs.NetView.{NetView}
use Rattle.hyd_period_network.specs.NetAsPeriodNetwork.{grid_of}
use Rattle.hyd_period_network.specs.SoundNets.{is_upper}

tank_end : (problem : Problem) (side : Side) (k : ℕ) (tanks : List LevelSpan) (t : ℕ) (d : LevelSpan) → t < length tanks
    → head_at (map_from (λ k tank. end_on (tank_side problem side k) tank) k (map levels_of tanks)) t
    ≡ end_on (tank_side problem side (k + t)) (levels_of (slice_index_or tanks t d))
tank_end problem side k [] t d lt = absurd (omega arith)
tank_end problem side k (x ∷ tanks) zero d lt = ap (λ (n : ℕ). end_on (tank_side problem side n) (levels_of x))
    (omega arith)
tank_end problem side k (x ∷ tanks) (suc t) d lt =
    tank_end problem side (suc k) tanks t d (omega arith)
    ∙ ap (λ (n : ℕ). end_on (tank_side problem side n) (levels_of (slice_index_or tanks t d))) (omega arith)

pub fixed_reservoir : (net : NetView) (problem : Problem) (side : Side) (node r : ℕ) (h : ℤ) (u : List ℤ)
    → length u ≡ length net.junctions → length net.junctions ≤ node
    → r ≡ node - length net.junctions → r < length net.reservoirs → h ≡ slice_index_or net.reservoirs r (pos 0)
    → h ≡ head_at (all_heads (grid_of net) problem side u) node
fixed_reservoir net problem side node r h u e le is lt value =
    value ∙ ap (λ (n : ℕ). slice_index_or net.reservoirs n (pos 0)) is
    ∙ sym (get_or-append_right u (fixed_heads (grid_of net) problem side) (length net.junctions) node (pos 0) e le
    ∙ get_or_append_left net.reservoirs _ (pos 0) (node - length net.junctions) (omega (arith, is, lt)))

pub fixed_tank : (net : NetView) (problem : Problem) (side : Side) (node nj nr : ℕ) (tank : LevelSpan) (h : ℤ)
    (u : List ℤ) → nj ≡ length net.junctions → nr ≡ length net.reservoirs
    → length u ≡ length net.junctions → nj ≤ node → nr ≤ node - nj → node - nj - nr < length net.tanks
    → tank ≡ slice_index_or net.tanks (node - nj - nr) tank
    → h ≡ end_on (tank_side problem side (node - nj - nr)) (levels_of tank)
    → h ≡ head_at (all_heads (grid_of net) problem side u) node
fixed_tank net problem side node nj nr tank h u ej er e le past lt at value =
    value ∙ ap (λ (x : LevelSpan). end_on (tank_side problem side (node - nj - nr)) (levels_of x)) at
    ∙ ap (λ (n : ℕ). end_on (tank_side problem side n) (levels_of (slice_index_or net.tanks (node - nj - nr) tank)))
    (let z : node - nj - nr ≡ 0 + (node - nj - nr) = omega arith in z)
    ∙ sym (get_or-append_right u (fixed_heads (grid_of net) problem side) nj node (pos 0) (e ∙ sym ej) le
    ∙ get_or-append_right net.reservoirs _ nr (node - nj) (pos 0) (sym er) past
    ∙ tank_end problem side 0 net.tanks (node - nj - nr) tank lt)

pub upper_end : (side : Side) (x : LevelSpan) → is_upper side ≡ true → x.hi ≡ end_on side (levels_of x)
upper_end Upper x e = refl
upper_end Lower x e = cc

pub lower_end : (side : Side) (x : LevelSpan) → is_upper side ≡ false → x.lo ≡ end_on side (levels_of x)
lower_end Upper x e = cc
lower_end Lower x e = refl
