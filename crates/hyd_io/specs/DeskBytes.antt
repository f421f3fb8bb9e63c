-- What a desk tells of its bytes. Each meaning is optional: `None` claims nothing.
use Rattle.std.specs.Prelude.{◌≡◌, ℕ, List, [], ◌++◌, length, Option, Some, option_map, option_and_then, bytes_eq}
use Rattle.std.specs.Map.{update}

-- the files of a desk: what each name holds, `None` where there is no file of that name
abbrev pub Files : Type 0
Files = List ℕ → Option (List ℕ)

-- the value v, where the desk tells the meaning m
abbrev pub where_told : {A B : Type 0} → Option A → B → Option B
where_told m v = option_map (λ _. v) m

-- the bytes that are told, with the piece after them
abbrev pub append_known : Option (List ℕ) → List ℕ → Option (List ℕ)
append_known bytes piece = option_map (λ known. known ++ piece) bytes

-- the bytes that are told, with the piece before them
abbrev pub prepend_known : List ℕ → Option (List ℕ) → Option (List ℕ)
prepend_known piece bytes = option_map (λ known. piece ++ known) bytes

-- what the file of that name holds, where files are told and there is one
abbrev pub file_at : Option Files → List ℕ → Option (List ℕ)
file_at files name = option_and_then (λ f. f name) files

-- the files, with an empty file of that name
abbrev pub with_empty : Option Files → List ℕ → Option Files
with_empty files name = option_map (λ f. update bytes_eq f name (Some [])) files

-- what the file of the target's name holds
abbrev pub content_of : Option Files → Option (List ℕ) → Option (List ℕ)
content_of files target = option_and_then (file_at files) target

-- the desk tells that the file of that name holds the text
abbrev pub IsTold : Option Files → List ℕ → List ℕ → Type 0
IsTold files name text = file_at files name ≡ Some text

-- exactly n bytes were taken from the front of the rest
abbrev pub Took : ℕ → Option (List ℕ) → Option (List ℕ) → Type 0
Took n old new = (front : List ℕ) × ((length front ≡ n) × (old ≡ prepend_known front new))

-- A front of the bytes `all` was put out after what was out, and the others are held back.
pub record Moves (old new : Option (List ℕ)) (all held : List ℕ) : Type 0 where
  pub front : List ℕ
  pub whole : all ≡ front ++ held
  pub out : new ≡ append_known old front

-- a front of the bytes `all` was put out after what was out, and the others are not said
abbrev pub PutOut : Option (List ℕ) → Option (List ℕ) → List ℕ → Type 0
PutOut old new all = (held : List ℕ) × Moves old new all held
