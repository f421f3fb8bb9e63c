-- A certificate on a grid is one on each grid inside it: less flows out of a junction whose neighbours stand higher.
use Rattle.std.proofs.Common.{◌≡◌, ℕ, zero, suc, ◌<◌, ℤ, ◌-ℤ◌, ◌≤ℤ◌, refl, ◌∙◌, subst, arith, Bool, true, false}
use Rattle.std.proofs.Common.{List, [], ◌∷◌, ◌++◌, length, ◌==◌}
use Rattle.std.specs.Prelude.{Some, slice_get}
use Rattle.std.specs.List.{AllZip}
use Rattle.std.proofs.lemmas.Int.{ints}
use Rattle.hyd_spec.specs.Law.{Law}
use Rattle.hyd_spec.specs.Assignment.{head_at, where_so}
use Rattle.hyd_spec_certificates.specs.declared.Problem.{Problem}
use Rattle.hyd_spec_certificates.specs.declared.Side.{Side}
use Rattle.hyd_spec_certificates.specs.declared.Side.TheVariants.{Upper, Lower}
use Rattle.hyd_spec_certificates.specs.EnclosingFunctions.{low, high}
use Rattle.hyd_spec_certificates.specs.PeriodNetwork.{Grid, GridLink, GridJunction, all_heads, fixed_heads}
use Rattle.hyd_spec_certificates.specs.NetOutflow.{net, link_ends}
use Rattle.hyd_spec_certificates.specs.Certificate.{IsCertificate}
use Rattle.hyd_lemmas.proofs.ListsOptionsAndResults.{same_item}
use Rattle.hyd_theorems_on_definitions.proofs.NetOutflowsRise.{Rises, low-rises, high-rises, SoundLinks}
use Rattle.hyd_theorems_on_spread.specs.GridsBeyondOthers.{TakesNoMore, TakesNoLess, IsAbove, IsBelow, IsBeyondGrid}
use Rattle.hyd_theorems_on_spread.proofs.ZippedLists.{zip-long}

-- ---- sums over links

where-ordered : (b : Bool) (p q : ℤ) → p ≤ℤ q → where_so b p ≤ℤ where_so b q
where-ordered true p q le = le
where-ordered false p q le = omega (arith, ints)

-- no head of the first list is above that of the second, and at node i they are the same
record AreUnder (under over : List ℤ) (i : ℕ) : Type 0 where
  here : head_at under i ≡ head_at over i
  each : (m : ℕ) → head_at under m ≤ℤ head_at over m

-- less leaves a node whose neighbours stand higher
net-falls : (out into : Law → ℤ → ℤ) → Rises out → Rises into → (v u : List ℤ) (i : ℕ) → AreUnder v u i
    → (links : List GridLink) → SoundLinks links → net out into u i links ≤ℤ net out into v i links
net-falls out into leaves enters v u i under [] sound = omega (arith, ints)
net-falls out into leaves enters v u i under (link ∷ links) sound =
    let here = under.here in
    let a = where-ordered (link.from == i) (out link.law (head_at u i -ℤ head_at u link.to))
    (out link.law (head_at v i -ℤ head_at v link.to))
    (leaves link.law sound.0 (head_at u i -ℤ head_at u link.to) (head_at v i -ℤ head_at v link.to)
    (let t = under.each link.to in omega (arith, ints, here, t))) in
    let b = where-ordered (link.to == i) (into link.law (head_at v link.from -ℤ head_at v i))
    (into link.law (head_at u link.from -ℤ head_at u i))
    (enters link.law sound.0 (head_at v link.from -ℤ head_at v i) (head_at u link.from -ℤ head_at u i)
    (let t = under.each link.from in omega (arith, ints, here, t))) in
    let r = net-falls out into leaves enters v u i under links sound.1 in
    omega (arith, ints, a, b, r)

-- ---- a vector before the fixed heads of one grid and of another

behind : (u ps rs : List ℤ) → ((m : ℕ) → head_at ps m ≤ℤ head_at rs m) → (m : ℕ)
    → head_at (u ++ ps) m ≤ℤ head_at (u ++ rs) m
behind [] ps rs le m = le m
behind (h ∷ u) ps rs le zero = omega (arith, ints)
behind (h ∷ u) ps rs le (suc m) = behind u ps rs le m

in-front : (u ps rs : List ℤ) (i : ℕ) → i < length u → head_at (u ++ ps) i ≡ head_at (u ++ rs) i
in-front [] ps rs i lt = absurd (omega arith)
in-front (h ∷ u) ps rs zero lt = refl
in-front (h ∷ u) ps rs (suc i) lt = in-front u ps rs i (omega arith)

under-with : (u ps rs : List ℤ) (i : ℕ) → i < length u → ((m : ℕ) → head_at ps m ≤ℤ head_at rs m)
    → AreUnder (u ++ ps) (u ++ rs) i
under-with u ps rs i lt le = record { here = in-front u ps rs i lt; each = behind u ps rs le }

-- ---- junctions side by side

record IsPair (Q : GridJunction → GridJunction → Type 0) (xs : List GridJunction) (i : ℕ) (here : GridJunction) : Type
    0 where
  outer : GridJunction
  is_outer : slice_get xs i ≡ Some outer
  holds : Q outer here
  inside : i < length xs

pair-at : (Q : GridJunction → GridJunction → Type 0) (xs ys : List GridJunction) → AllZip Q xs ys → (i : ℕ)
    (here : GridJunction) → slice_get ys i ≡ Some here → IsPair Q xs i here
pair-at Q [] [] all i here is = absurd (cc)
pair-at Q [] (y ∷ ys) all i here is = absurd all
pair-at Q (x ∷ xs) [] all i here is = absurd all
pair-at Q (x ∷ xs) (y ∷ ys) all zero here is = record {
  outer = x;
  is_outer = refl;
  holds = subst (Q x) (same_item GridJunction y here is) all.0;
  inside = omega arith;
}
pair-at Q (x ∷ xs) (y ∷ ys) all (suc i) here is =
    let p = pair-at Q xs ys all.1 i here is in
    record {
      outer = p.outer;
      is_outer = p.is_outer;
      holds = p.holds;
      inside = (let l = p.inside in omega (arith, l));
    }

-- ---- certificates

upper-inward : (outer inner : Grid) (problem : Problem) (u : List ℤ) → SoundLinks inner.links
    → IsAbove problem outer inner → IsCertificate outer problem Upper u → IsCertificate inner problem Upper u
upper-inward outer inner problem u sound above certificate = record {
  one_each = certificate.one_each ∙ zip-long TakesNoMore outer.junctions inner.junctions above.junctions;
  in_box = certificate.in_box;
  passes = λ i here is.
      let p = pair-at TakesNoMore outer.junctions inner.junctions above.junctions i here is in
      let lt : i < length u = (let a = p.inside in let b = certificate.one_each in omega (arith, a, b)) in
      let sums = net-falls low high low-rises high-rises (all_heads inner problem Upper u)
      (all_heads outer problem Upper u) i (under-with u (fixed_heads inner problem Upper)
      (fixed_heads outer problem Upper) i lt above.fixed) inner.links sound in
      let takes = p.holds.takes (head_at u i) in
      let passes = certificate.passes i p.outer p.is_outer in
      let same = above.links in
      let ends : link_ends i inner.links ≡ link_ends i outer.links = rw same refl in
      let turned : net low high (all_heads outer problem Upper u) i inner.links
      ≡ net low high (all_heads outer problem Upper u) i outer.links = rw same refl in
      omega (arith, ints, sums, ends, turned, takes, passes);
}

lower-inward : (outer inner : Grid) (problem : Problem) (u : List ℤ) → SoundLinks inner.links
    → IsBelow problem outer inner → IsCertificate outer problem Lower u → IsCertificate inner problem Lower u
lower-inward outer inner problem u sound below certificate = record {
  one_each = certificate.one_each ∙ zip-long TakesNoLess outer.junctions inner.junctions below.junctions;
  in_box = certificate.in_box;
  passes = λ i here is.
      let p = pair-at TakesNoLess outer.junctions inner.junctions below.junctions i here is in
      let lt : i < length u = (let a = p.inside in let b = certificate.one_each in omega (arith, a, b)) in
      let sums = net-falls high low high-rises low-rises (all_heads outer problem Lower u)
      (all_heads inner problem Lower u) i (under-with u (fixed_heads outer problem Lower)
      (fixed_heads inner problem Lower) i lt below.fixed) inner.links sound in
      let takes = p.holds.takes (head_at u i) in
      let passes = certificate.passes i p.outer p.is_outer in
      let same = below.links in
      let ends : link_ends i inner.links ≡ link_ends i outer.links = rw same refl in
      let turned : net high low (all_heads outer problem Lower u) i inner.links
      ≡ net high low (all_heads outer problem Lower u) i outer.links = rw same refl in
      omega (arith, ints, sums, ends, turned, takes, passes);
}

pub goes-inward : (side : Side) (problem : Problem) (outer inner : Grid) (u : List ℤ) → SoundLinks inner.links
    → IsBeyondGrid side problem outer inner → IsCertificate outer problem side u → IsCertificate inner problem side u
goes-inward Upper problem outer inner u sound above certificate =
    upper-inward outer inner problem u sound above certificate
goes-inward Lower problem outer inner u sound below certificate =
    lower-inward outer inner problem u sound below certificate
