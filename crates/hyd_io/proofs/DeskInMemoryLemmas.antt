-- What a map of files holds after one file was put or changed.
use mathlib.Core.Path.{fun_ext}
use Rattle.std.proofs.Common.{◌≡◌, ◌≢◌, List, ℕ, Bool, true, false, cond, Option, Some, option_map, refl, sym, ap, ◌∙◌}
use Rattle.std.proofs.Common.{bytes_eq, String, Vec, string_bytes, string_cmp}
use Rattle.std.proofs.lemmas.Bool.{false_from_ne_true, cond-true, cond-false}
use Rattle.std.proofs.lemmas.Slice.Eq.{bytes_eq-Decides}
use Rattle.std.proofs.lemmas.Map.Text.{btree_map_updates_text}
use Rattle.std.specs.Map.{update}
use Rattle.std.specs.BTreeMap.{BTreeMap, UpdatesBy, get_by_text}
use Rattle.std.specs.Cmp.Lexicographic.{slice_cmp}
use Rattle.std.specs.Ordering.{nat_cmp}
use Rattle.hyd_io.specs.DeskInMemory.{file_bytes}

-- a value of each choice
option_map-cond : {A B : Type 0} (f : A → B) (b : Bool) (x y : Option A)
    → option_map f (cond b x y) ≡ cond b (option_map f x) (option_map f y)
option_map-cond f true x y = refl
option_map-cond f false x y = refl

-- what the name that was put holds
pub update-same : {A : Type 0} (f : List ℕ → Option A) (name : List ℕ) (w : Option A)
    → update bytes_eq f name w name ≡ w
update-same f name w = cond-true (bytes_eq name name) w (f name) ((bytes_eq-Decides name name).1 refl)

-- what another name holds
pub update-other : {A : Type 0} (f : List ℕ → Option A) (name other : List ℕ) (w : Option A) → other ≢ name
    → update bytes_eq f name w other ≡ f other
update-other f name other w ne = cond-false (bytes_eq name other) w (f other)
    (false_from_ne_true (bytes_eq name other) (λ e. ne (sym ((bytes_eq-Decides name other).0 e))))

-- the files after one of them was put or changed
pub file_bytes-updated : {A B : Type 0} (name : List ℕ) (m n : BTreeMap (String A) (Vec ℕ B)) (file : Vec ℕ B)
    → UpdatesBy string_cmp (λ k. slice_cmp nat_cmp name (string_bytes k)) m n (Some file)
    → file_bytes n ≡ update bytes_eq (file_bytes m) name (Some file.items)
file_bytes-updated name m n file u = fun_ext (λ other.
    ap (option_map (λ f. f.items)) (btree_map_updates_text name m n (Some file) u other)
    ∙ option_map-cond (λ f. f.items) (bytes_eq name other) (Some file) (get_by_text m other))

-- a file that was put as it was
pub update-own : {A : Type 0} (f : List ℕ → Option A) (name : List ℕ) (w : Option A) → w ≡ f name
    → update bytes_eq f name w ≡ f
update-own f name w e = fun_ext (λ other. at other (bytes_eq name other) refl)
  where
    at : (other : List ℕ) (b : Bool) → bytes_eq name other ≡ b → update bytes_eq f name w other ≡ f other
    at other true t = cond-true (bytes_eq name other) w (f other) t ∙ (e ∙ ap f ((bytes_eq-Decides name other).0 t))
    at other false t = cond-false (bytes_eq name other) w (f other) t
