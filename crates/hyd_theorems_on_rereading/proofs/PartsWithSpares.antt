-- The parts of a network in which spares stand, beside the rest: two sets of parts are alike where what they hold is
-- the same, whatever the spares are.
use Rattle.std.proofs.Common.{◌≡◌, ℕ, zero, suc, ℤ, List, [], ◌∷◌, map, refl, sym}
use Rattle.std.specs.Prelude.{slice_get}
use Rattle.std.specs.Option.{option_map_or}
use Rattle.std.specs.List.{AllZip}
use Rattle.hyd_net.specs.ListView.{ListView}
use Rattle.hyd_net.specs.ProjectAsCompared.{bare_list, compared_pattern}
use Rattle.hyd_spec.specs.ProgramTypes.{Project, Junction, Pattern, VolumePoint, HeadPoint, Rule}
use Rattle.hyd_spec.specs.DemandsHeadsAndPumpLifts.{points_of}
use Rattle.hyd_theorems_on_rereading.specs.WithoutSpare.{bare_junction, bare_rule}

-- ---- parts

-- the lists that hold lists, and the spares of the others
pub record Inner : Type 0 where
  pub junctions : ListView Junction
  pub patterns : ListView Pattern
  pub shapes : ListView (ListView VolumePoint)
  pub bends : ListView (ListView HeadPoint)
  pub rules : ListView Rule
  pub reservoirs : ℕ
  pub tanks : ℕ
  pub links : ℕ
  pub controls : ℕ

-- a network with these in place of its own
abbrev pub with_inner : Project → Inner → Project
with_inner p x =
    record {
      options = p.options;
      times = p.times;
      node_ids = p.node_ids;
      link_ids = p.link_ids;
      junctions = x.junctions;
      reservoirs = record { list = p.reservoirs.list; spare = x.reservoirs };
      tanks = record { list = p.tanks.list; spare = x.tanks };
      links = record { list = p.links.list; spare = x.links };
      patterns = x.patterns;
      shapes = x.shapes;
      bends = x.bends;
      controls = record { list = p.controls.list; spare = x.controls };
      rules = x.rules;
    }

-- a network's own
abbrev pub own_inner : Project → Inner
own_inner p = record {
  junctions = p.junctions;
  patterns = p.patterns;
  shapes = p.shapes;
  bends = p.bends;
  rules = p.rules;
  reservoirs = p.reservoirs.spare;
  tanks = p.tanks.spare;
  links = p.links.spare;
  controls = p.controls.spare;
}

-- the same without spares
abbrev pub bare_inner : Project → Inner
bare_inner p = record {
  junctions = record { list = map bare_junction p.junctions.list; spare = 0 };
  patterns = record { list = map compared_pattern p.patterns.list; spare = 0 };
  shapes = record { list = map bare_list p.shapes.list; spare = 0 };
  bends = record { list = map bare_list p.bends.list; spare = 0 };
  rules = record { list = map bare_rule p.rules.list; spare = 0 };
  reservoirs = 0;
  tanks = 0;
  links = 0;
  controls = 0;
}

-- ---- alike

-- two junctions hold the same
pub record IsLikeJunction (a b : Junction) : Type 0 where
  pub elevation : a.elevation ≡ b.elevation
  pub demands : a.demands.list ≡ b.demands.list
  pub emitter : a.emitter ≡ b.emitter

-- two rules hold the same
pub record IsLikeRule (a b : Rule) : Type 0 where
  pub id : a.id.list ≡ b.id.list
  pub clauses : a.clauses.list ≡ b.clauses.list
  pub yes : a.yes.list ≡ b.yes.list
  pub no : a.no.list ≡ b.no.list
  pub priority : a.priority ≡ b.priority

-- the multipliers of a pattern by its number; none where there is no such pattern
abbrev pub inner_multipliers : List Pattern → ℕ → List ℤ
inner_multipliers patterns k = option_map_or (λ (p : Pattern). p.multipliers.list) (slice_get patterns k) []

-- the points of a volume curve by its number; none where there is no such curve
abbrev pub inner_shape : List (ListView VolumePoint) → ℕ → List VolumePoint
inner_shape shapes k = option_map_or (λ (points : ListView VolumePoint). points.list) (slice_get shapes k) []

-- two sets of parts hold the same: item by item, or as it is read by number
pub record AreAlike (x y : Inner) : Type 0 where
  pub junctions : AllZip IsLikeJunction x.junctions.list y.junctions.list
  pub multipliers : (k : ℕ) → inner_multipliers x.patterns.list k ≡ inner_multipliers y.patterns.list k
  pub shapes : (k : ℕ) → inner_shape x.shapes.list k ≡ inner_shape y.shapes.list k
  pub bends : (k : ℕ) → points_of x.bends.list k ≡ points_of y.bends.list k
  pub rules : AllZip IsLikeRule x.rules.list y.rules.list

-- ---- the other way round

zip_back : {X : Type 0} (R : X → X → Type 0) → ((a b : X) → R a b → R b a) → (xs ys : List X) → AllZip R xs ys
    → AllZip R ys xs
zip_back R back [] [] all = tt
zip_back R back [] (y ∷ ys) all = absurd all
zip_back R back (x ∷ xs) [] all = absurd all
zip_back R back (x ∷ xs) (y ∷ ys) all = (back x y all.0, zip_back R back xs ys all.1)

pub turned : (x y : Inner) → AreAlike x y → AreAlike y x
turned x y alike = record {
  junctions = zip_back IsLikeJunction (λ a b r. record {
    elevation = sym r.elevation;
    demands = sym r.demands;
    emitter = sym r.emitter;
  }) x.junctions.list y.junctions.list alike.junctions;
  multipliers = λ k. sym (alike.multipliers k);
  shapes = λ k. sym (alike.shapes k);
  bends = λ k. sym (alike.bends k);
  rules = zip_back IsLikeRule (λ a b r. record {
    id = sym r.id;
    clauses = sym r.clauses;
    yes = sym r.yes;
    no = sym r.no;
    priority = sym r.priority;
  }) x.rules.list y.rules.list alike.rules;
}

-- ---- a network without its spares

zip_image : {X : Type 0} (R : X → X → Type 0) (f : X → X) → ((a : X) → R a (f a)) → (xs : List X)
    → AllZip R xs (map f xs)
zip_image R f each [] = tt
zip_image R f each (x ∷ xs) = (each x, zip_image R f each xs)

-- what is read of an item by its number is the same of its image
read_image : {X Y : Type 0} (read : X → List Y) (f : X → X) → ((a : X) → read a ≡ read (f a)) → (xs : List X) (k : ℕ)
    → option_map_or read (slice_get xs k) [] ≡ option_map_or read (slice_get (map f xs) k) []
read_image read f each [] k = refl
read_image read f each (x ∷ xs) zero = each x
read_image read f each (x ∷ xs) (suc k) = read_image read f each xs k

pub bare_alike : (p : Project) → AreAlike (own_inner p) (bare_inner p)
bare_alike p = record {
  junctions = zip_image IsLikeJunction bare_junction
      (λ a. record { elevation = refl; demands = refl; emitter = refl }) p.junctions.list;
  multipliers = read_image (λ (q : Pattern). q.multipliers.list) compared_pattern (λ a. refl) p.patterns.list;
  shapes = read_image (λ (v : ListView VolumePoint). v.list) bare_list (λ a. refl) p.shapes.list;
  bends = read_image (λ (v : ListView HeadPoint). v.list) bare_list (λ a. refl) p.bends.list;
  rules = zip_image IsLikeRule bare_rule
      (λ a. record { id = refl; clauses = refl; yes = refl; no = refl; priority = refl }) p.rules.list;
}
