-- The two names of a command that creates both files differ.
use Rattle.std.proofs.Common.{◌≡◌, ◌≢◌, ℕ, Bool, true, false, List, [], ◌∷◌, Option, Some, None, if◌then◌else◌}
use Rattle.std.proofs.Common.{option_map, option_and_then, bytes_eq, refl, sym, ap, subst, ◌∙◌}
use Rattle.std.proofs.lemmas.Bool.{false≢true}
use Rattle.std.proofs.lemmas.Option.{same_Some}
use Rattle.std.proofs.lemmas.Slice.Eq.{bytes_eq-Decides}
use Rattle.hyd_command_words.specs.OptionsAndNames.{Word, Said, said}
use Rattle.hyd_command_words.specs.CommandGrammar.{RunOrder, GenOrder, TwoFiles, gen, order_of, Order}
use Rattle.hyd_command_words.specs.CommandGrammar.{run_over, check_over, is_apart, run_with, check_with, spread_of}
use Rattle.hyd_command_words.specs.CommandGrammar.{FireOrder, ClosuresOrder, fire_over, closures_over, fire_with}
use Rattle.hyd_command_words.specs.CommandGrammar.{closures_with, fire_asked, closures_asked}
use Rattle.hyd_command_words.specs.CommandGrammar.{WitnessOrder, MeetOrder, witness, meet}
use Rattle.hyd_command_words.specs.CommandGrammar.{fire_command, witness_command, witness_order, meet_command}
use Rattle.hyd_command_words.specs.CommandGrammar.{meet_order}
use Rattle.hyd_command_words.specs.CommandGrammar.{closures_command}
use Rattle.hyd_command_words.specs.CommandGrammar.{run_order, run_command, check_command, gen_command, gen_order}
use Rattle.hyd_command_words.specs.CommandGrammar.{differing}
use Rattle.hyd_command_words.specs.CommandGrammar.{two_files, seed_of, junctions_of, has_names_alone}
use Rattle.hyd_command_words.specs.CommandGrammar.{has_spread_at_most}
use Rattle.std.specs.Prelude.{codes, ◌&&◌, ◌==◌, length}

-- ---- names that differ

by_test : (b : Bool) (net cert : Word) (files : TwoFiles) → bytes_eq net cert ≡ b
    → (if b then None else Some (record { net = net; cert = cert })) ≡ Some files → files.net ≢ files.cert
by_test true net cert files is e = absurd (cc)
by_test false net cert files is e = λ same.
    let known : record { net = net; cert = cert } ≡ files = same_Some _ _ e in
    false≢true (sym is ∙ (bytes_eq-Decides net cert).1 (ap (λ (f : TwoFiles). f.net) known
    ∙ (same ∙ sym (ap (λ (f : TwoFiles). f.cert) known))))

differing_apart : (net cert : Word) (files : TwoFiles) → differing net cert ≡ Some files → files.net ≢ files.cert
differing_apart net cert files e = by_test (bytes_eq net cert) net cert files refl e

files_apart : (seed junctions : Option ℕ) (files : Option TwoFiles) (order : GenOrder)
    → ((known : TwoFiles) → files ≡ Some known → known.net ≢ known.cert)
    → option_and_then (λ s. option_and_then (λ j. option_map (λ f. record { seed = s; junctions = j; files = f })
    files) junctions) seed ≡ Some order → order.files.net ≢ order.files.cert
files_apart None junctions files order apart e = absurd (cc)
files_apart (Some s) None files order apart e = absurd (cc)
files_apart (Some s) (Some j) None order apart e = absurd (cc)
files_apart (Some s) (Some j) (Some f) order apart e =
    let known : record { seed = s; junctions = j; files = f } ≡ order = same_Some _ _ e in
    subst (λ (o : GenOrder). o.files.net ≢ o.files.cert) known (apart f refl)

gen_apart : (names : List Word) (order : GenOrder) → gen_order names ≡ Some order → order.files.net ≢ order.files.cert
gen_apart [] order e = absurd (cc)
gen_apart (a ∷ []) order e = absurd (cc)
gen_apart (a ∷ (b ∷ [])) order e = absurd (cc)
gen_apart (a ∷ (b ∷ (c ∷ []))) order e = absurd (cc)
gen_apart (a ∷ (b ∷ (c ∷ (d ∷ [])))) order e =
    files_apart (seed_of a) (junctions_of b) (differing c d) order (differing_apart c d) e
gen_apart (a ∷ (b ∷ (c ∷ (d ∷ (f ∷ more))))) order e = absurd (cc)

-- an order of another kind, where a test holds
not_tested : (b : Bool) (one : Order) (order : GenOrder) → (one ≡ gen order → ⊥)
    → (if b then Some one else None) ≡ Some (gen order) → ⊥
not_tested true one order other e = other (same_Some _ _ e)
not_tested false one order other e = cc

not_run_with : (file : Option Word) (found : RunOrder) (order : GenOrder) → run_with file found ≡ Some (gen order) → ⊥
not_run_with None found order e = cc
not_run_with (Some file) found order e =
    not_tested (is_apart file found.files && (length found.flows == 0))
    (run_over (record { run = found; spread = file })) order (λ h. cc) e

not_run : (spread : Option (Option Word)) (found : Option RunOrder) (order : GenOrder)
    → option_and_then (λ one. option_and_then (λ file. run_with file one) spread) found ≡ Some (gen order) → ⊥
not_run spread None order e = cc
not_run None (Some found) order e = cc
not_run (Some file) (Some found) order e = not_run_with file found order e

not_check_with : (file : Option Word) (found : TwoFiles) (order : GenOrder)
    → check_with file found ≡ Some (gen order) → ⊥
not_check_with None found order e = cc
not_check_with (Some file) found order e =
    not_tested (is_apart file found) (check_over (record { files = found; spread = file })) order (λ h. cc) e

not_check : (b : Bool) (spread : Option (Option Word)) (found : Option TwoFiles) (order : GenOrder)
    → (if b then option_and_then (λ files. option_and_then (λ file. check_with file files) spread) found else None)
    ≡ Some (gen order) → ⊥
not_check false spread found order e = cc
not_check true spread None order e = cc
not_check true None (Some found) order e = cc
not_check true (Some file) (Some found) order e = not_check_with file found order e

same_gen : (found : Option GenOrder) (order : GenOrder) → option_map gen found ≡ Some (gen order) → found ≡ Some order
same_gen None order e = absurd (cc)
same_gen (Some found) order e = cc

is_gen : (b : Bool) (found : Option GenOrder) (order : GenOrder)
    → (if b then option_map gen found else None) ≡ Some (gen order) → found ≡ Some order
is_gen true found order e = same_gen found order e
is_gen false found order e = absurd (cc)

not_other : (b : Bool) (one : Order) (order : GenOrder) → (one ≡ gen order → ⊥)
    → (if b then None else Some one) ≡ Some (gen order) → ⊥
not_other true one order other e = cc
not_other false one order other e = other (same_Some _ _ e)

not_fire_with : (file : Option Word) (found : FireOrder) (order : GenOrder)
    → fire_with file found ≡ Some (gen order) → ⊥
not_fire_with None found order e = cc
not_fire_with (Some file) found order e = not_other (bytes_eq found.net file)
    (fire_over (record { fire = found; spread = file })) order (λ h. cc) e

not_fire : (spread : Option (Option Word)) (found : Option FireOrder) (order : GenOrder)
    → option_and_then (λ one. option_and_then (λ file. fire_with file one) spread) found ≡ Some (gen order) → ⊥
not_fire spread None order e = cc
not_fire None (Some found) order e = cc
not_fire (Some file) (Some found) order e = not_fire_with file found order e

not_closures_with : (file : Option Word) (found : ClosuresOrder) (order : GenOrder)
    → closures_with file found ≡ Some (gen order) → ⊥
not_closures_with None found order e = cc
not_closures_with (Some file) found order e = not_other (bytes_eq found.net file)
    (closures_over (record { closures = found; spread = file })) order (λ h. cc) e

not_closures : (spread : Option (Option Word)) (found : Option ClosuresOrder) (order : GenOrder)
    → option_and_then (λ one. option_and_then (λ file. closures_with file one) spread) found ≡ Some (gen order) → ⊥
not_closures spread None order e = cc
not_closures None (Some found) order e = cc
not_closures (Some file) (Some found) order e = not_closures_with file found order e

not_witness : (b : Bool) (found : Option WitnessOrder) (order : GenOrder)
    → (if b then option_map witness found else None) ≡ Some (gen order) → ⊥
not_witness true None order e = cc
not_witness true (Some found) order e = cc
not_witness false found order e = cc

not_meet : (b : Bool) (found : Option MeetOrder) (order : GenOrder)
    → (if b then option_map meet found else None) ≡ Some (gen order) → ⊥
not_meet true None order e = cc
not_meet true (Some found) order e = cc
not_meet false found order e = cc

by_name : (is_run is_check is_gen_word is_fire is_closures is_witness is_meet : Bool) (s : Said) (order : GenOrder)
    → (if is_run then run_command s else (if is_check then check_command s
    else (if is_gen_word then gen_command s else (if is_fire then fire_command s
    else (if is_closures then closures_command s else (if is_witness then witness_command s
    else (if is_meet then meet_command s else None))))))) ≡ Some (gen order)
    → order.files.net ≢ order.files.cert
by_name true b c d f w g s order e = absurd (not_run (spread_of s.spread_values) (run_order s) order e)
by_name false true c d f w g s order e =
    absurd (not_check (has_spread_at_most s) (spread_of s.spread_values) (two_files s.names) order e)
by_name false false true d f w g s order e =
    gen_apart s.names order (is_gen (has_names_alone s) (gen_order s.names) order e)
by_name false false false true f w g s order e = absurd (not_fire (spread_of s.spread_values) (fire_asked s) order e)
by_name false false false false true w g s order e =
    absurd (not_closures (spread_of s.spread_values) (closures_asked s) order e)
by_name false false false false false true g s order e =
    absurd (not_witness (has_names_alone s) (witness_order s.names) order e)
by_name false false false false false false true s order e =
    absurd (not_meet (has_names_alone s) (meet_order s.names) order e)
by_name false false false false false false false s order e = absurd (cc)

-- the two names of `gen` differ
pub names_apart : (words : List Word) (order : GenOrder) → order_of words ≡ Some (gen order)
    → order.files.net ≢ order.files.cert
names_apart [] order e = absurd (cc)
names_apart (word ∷ behind) order e =
    by_name (bytes_eq word (codes "run")) (bytes_eq word (codes "check")) (bytes_eq word (codes "gen"))
    (bytes_eq word (codes "fire")) (bytes_eq word (codes "closures")) (bytes_eq word (codes "witness"))
    (bytes_eq word (codes "meet")) (said behind) order e
