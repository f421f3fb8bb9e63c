-- The outermost grids of a period are in order: that of the LOWER side lies beyond that of the UPPER side, so a LOWER
-- certificate of the one is one of the other.
use Rattle.std.proofs.Common.{◌≡◌, ℕ, zero, suc, ◌+◌, ℤ, ◌≤ℤ◌, refl, sym, subst, ◌∙◌, arith, List, [], ◌∷◌, ◌++◌}
use Rattle.std.specs.Prelude.{Some, slice_get, map}
use Rattle.std.specs.List.{AllZip}
use Rattle.std.proofs.lemmas.Int.{ints}
use Rattle.hyd_net.specs.Sound.{IsSound}
use Rattle.hyd_spec.specs.ProgramTypes.{Project, Reservoir, Tank, LinkState}
use Rattle.hyd_spec.specs.declared.TankState.{TankState}
use Rattle.hyd_spec.specs.Lists.{map_from}
use Rattle.hyd_spec.specs.Assignment.{head_at}
use Rattle.hyd_spec_certificates.specs.declared.Problem.TheVariants.{Main}
use Rattle.hyd_spec_certificates.specs.declared.Side.TheVariants.{Upper, Lower}
use Rattle.hyd_spec_certificates.specs.Interval.{Interval, shifted}
use Rattle.hyd_spec_certificates.specs.PeriodNetwork.{Grid, GridJunction, end_on, tank_intervals}
use Rattle.hyd_spec_spread.specs.Spreads.{Spread, IsSpread, IsLevelInterval, level_interval}
use Rattle.hyd_spec_spread.specs.IntervalsOfData.{KnownJunction, known_junctions, known_heads}
use Rattle.hyd_spec_spread.specs.NetworksWithin.{IsJunctionWithin, HasHeadWithin}
use Rattle.hyd_spec_spread.specs.OutermostGrids.{IsOutermostJunction, IsOutermostGrid}
use Rattle.hyd_lemmas.proofs.ListsOptionsAndResults.{same_item}
use Rattle.hyd_theorems_on_spread.specs.GridsBeyondOthers.{TakesNoLess, IsBelow}
use Rattle.hyd_theorems_on_spread.proofs.OutermostJunctions.{junction-inside}
use Rattle.hyd_theorems_on_spread.proofs.OwnNetwork.{own-within}

-- ---- junctions

-- of what is known of a junction, its least demand alone
abbrev least_alone : KnownJunction → KnownJunction
least_alone known = record known { demand = record { lo = known.demand.lo; hi = known.demand.lo } }

junction-order : (project : Project) (known : KnownJunction) (lower upper : GridJunction)
    → known.demand.lo ≤ℤ known.demand.hi → IsOutermostJunction project Lower known lower
    → IsOutermostJunction project Upper known upper → TakesNoLess lower upper
junction-order project known lower upper ordered below above =
    junction-inside project Lower known lower (least_alone known) upper below
    (record {
      elevation = refl;
      demand = record { low = omega (arith, ints); high = ordered };
      emitter = refl;
      factors = record { least = omega arith; greatest = omega arith };
    })
    (record { elevation = above.elevation; demand = above.demand; emitter = above.emitter })

zip-three : {K X B Y : Type 0} (P : K → X → Type 0) (Q : K → B → Type 0) (R : K → Y → Type 0) (T : X → Y → Type 0)
    → ((k : K) (x : X) (b : B) (y : Y) → P k x → Q k b → R k y → T x y) → (ks : List K) (xs : List X) (bs : List B)
    (ys : List Y) → AllZip P ks xs → AllZip Q ks bs → AllZip R ks ys → AllZip T xs ys
zip-three P Q R T f [] [] bs [] p q r = tt
zip-three P Q R T f [] [] bs (y ∷ ys) p q r = absurd r
zip-three P Q R T f [] (x ∷ xs) bs ys p q r = absurd p
zip-three P Q R T f (k ∷ ks) [] bs ys p q r = absurd p
zip-three P Q R T f (k ∷ ks) (x ∷ xs) [] ys p q r = absurd q
zip-three P Q R T f (k ∷ ks) (x ∷ xs) (b ∷ bs) [] p q r = absurd r
zip-three P Q R T f (k ∷ ks) (x ∷ xs) (b ∷ bs) (y ∷ ys) p q r =
    (f k x b y p.0 q.0 r.0, zip-three P Q R T f ks xs bs ys p.1 q.1 r.1)

-- ---- reservoirs

reservoirs-order : (project : Project) (time : ℕ) (known : List Interval) (rs : List Reservoir) (ps : List ℤ)
    → AllZip (HasHeadWithin project time) known rs → (m : ℕ)
    → head_at (map (end_on Lower) known ++ ps) m ≤ℤ head_at (map (end_on Upper) known ++ ps) m
reservoirs-order project time [] rs ps all m = omega (arith, ints)
reservoirs-order project time (x ∷ known) [] ps all m = absurd all
reservoirs-order project time (x ∷ known) (r ∷ rs) ps all zero =
    let low = all.0.low in let high = all.0.high in omega (arith, ints, low, high)
reservoirs-order project time (x ∷ known) (r ∷ rs) ps all (suc m) =
    reservoirs-order project time known rs ps all.1 m

-- ---- tanks at the start

pub start-order : (spread : Spread) (from : ℕ) (tanks : List Tank)
    → ((k : ℕ) (tank : Tank) → slice_get tanks k ≡ Some tank
    → IsLevelInterval tank (level_interval spread (from + k) tank)) → (k : ℕ) (x : Interval)
    → slice_get (tank_intervals tanks (map_from (level_interval spread) from tanks)) k ≡ Some x → x.lo ≤ℤ x.hi
start-order spread from [] is k x at = absurd (cc)
start-order spread from (tank ∷ tanks) is zero x at =
    let n : from + 0 ≡ from = omega arith in
    let own = (subst (λ (m : ℕ). IsLevelInterval tank (level_interval spread m tank)) n (is 0 tank refl)).own in
    let low = own.low in
    let high = own.high in
    subst (λ (y : Interval). y.lo ≤ℤ y.hi)
    (same_item Interval (shifted tank.bottom (level_interval spread from tank)) x at)
    (omega (arith, ints, low, high))
start-order spread from (tank ∷ tanks) is (suc k) x at =
    start-order spread (suc from) tanks (λ i other there. let m : from + suc i ≡ suc from + i = omega arith in
    subst (λ (p : ℕ). IsLevelInterval other (level_interval spread p other)) m (is (suc i) other there)) k x at

-- ---- grids

module _ (project : Project) (sound : IsSound project) (spread : Spread) (is : IsSpread project spread) (time : ℕ)
    (levels : List Interval) (tanks : List TankState) (links : List LinkState) (upper lower : Grid)
    (above : IsOutermostGrid project spread Upper time levels tanks links upper)
    (below : IsOutermostGrid project spread Lower time levels tanks links lower) where
  pub lower-beyond : IsBelow Main lower upper
  lower-beyond =
      let own = own-within project sound spread is time in
      record {
        junctions = zip-three (IsOutermostJunction project Lower) (IsJunctionWithin project time)
            (IsOutermostJunction project Upper) TakesNoLess
            (λ k x b y p q r. junction-order project k x y
            (let low = q.demand.low in let high = q.demand.high in omega (arith, ints, low, high)) p r)
            (known_junctions project spread time) lower.junctions project.junctions.list upper.junctions
            below.junctions own.junctions above.junctions;
        links = above.links_are ∙ sym below.links_are;
        fixed = λ m. rw (below.reservoirs, above.reservoirs, below.tank_heads, above.tank_heads)
            (reservoirs-order project time (known_heads project spread time) project.reservoirs.list _
            own.reservoirs m);
      }
