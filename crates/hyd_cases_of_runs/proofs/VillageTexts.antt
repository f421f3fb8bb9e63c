-- The records of the village can stand in a certificate.
use Rattle.std.proofs.Common.{◌≡◌, ◌<◌, ◌^◌, ℤ, true, List, [], ◌∷◌, All, length, refl, arith}
use Rattle.std.proofs.lemmas.List.Elements.{All-nil, All-cons}
use Rattle.hyd_spec_certificates.specs.RecordAndStanding.{Record, Vectors}
use Rattle.hyd_spec_certificates.specs.CertificateText.{IsVector, IsRow}
use Rattle.hyd_cases_of_runs.specs.VillageRun.{row_0, row_1, row_2, row_3, row_4}
use Rattle.hyd_cases_of_runs.proofs.VillageCertificates.{all_inside, all_in_box}

pub vector : (u : List ℤ) → length u ≡ 2 → all_inside u ≡ true → IsVector 2 u
vector u two inside = record { one_each = two; in_box = all_in_box u inside }

pub row_fits : (row : Record) (vectors : Vectors) → row.pinned ≡ vectors ∷ [] → row.number < 2 ^ 32
    → row.time < 2 ^ 32 → row.length < 2 ^ 32
    → IsVector 2 row.main.upper → IsVector 2 row.main.lower → IsVector 2 vectors.upper → IsVector 2 vectors.lower
    → IsRow 2 1 row
row_fits row vectors pinned number time length a b c d = record {
  number_fits = number;
  time_fits = time;
  length_fits = length;
  main_upper = a;
  main_lower = b;
  pinned_each = rw pinned refl;
  pinned_upper = rw pinned (All-cons (λ (v : Vectors). IsVector 2 v.upper) vectors [] c
      (All-nil (λ (v : Vectors). IsVector 2 v.upper)));
  pinned_lower = rw pinned (All-cons (λ (v : Vectors). IsVector 2 v.lower) vectors [] d
      (All-nil (λ (v : Vectors). IsVector 2 v.lower)));
}

pub rows_fit : All (IsRow 2 1) (row_0 ∷ row_1 ∷ row_2 ∷ row_3 ∷ row_4 ∷ [])
rows_fit =
    All-cons (IsRow 2 1) row_0 (row_1 ∷ row_2 ∷ row_3 ∷ row_4 ∷ [])
    (row_fits row_0 _ refl (omega arith) (omega arith) (omega arith) (vector _ refl refl) (vector _ refl refl)
    (vector _ refl refl) (vector _ refl refl))
    (All-cons (IsRow 2 1) row_1 (row_2 ∷ row_3 ∷ row_4 ∷ [])
    (row_fits row_1 _ refl (omega arith) (omega arith) (omega arith) (vector _ refl refl) (vector _ refl refl)
    (vector _ refl refl) (vector _ refl refl))
    (All-cons (IsRow 2 1) row_2 (row_3 ∷ row_4 ∷ [])
    (row_fits row_2 _ refl (omega arith) (omega arith) (omega arith) (vector _ refl refl) (vector _ refl refl)
    (vector _ refl refl) (vector _ refl refl))
    (All-cons (IsRow 2 1) row_3 (row_4 ∷ [])
    (row_fits row_3 _ refl (omega arith) (omega arith) (omega arith) (vector _ refl refl) (vector _ refl refl)
    (vector _ refl refl) (vector _ refl refl))
    (All-cons (IsRow 2 1) row_4 []
    (row_fits row_4 _ refl (omega arith) (omega arith) (omega arith) (vector _ refl refl) (vector _ refl refl)
    (vector _ refl refl) (vector _ refl refl))
    (All-nil (IsRow 2 1))))))
