-- The grids of the hill town, the certificates of its records, and the flows that they enclose.
use Rattle.std.proofs.Common.{◌≡◌, zero, suc, pos, neg_ℤ, true, List, [], ◌∷◌, refl, arith, lit≤}
use Rattle.std.proofs.Common.{lit<}
use Rattle.std.specs.Prelude.{slice_index_or}
use Rattle.hyd_num.specs.declared.binary.Scaled.{Scaled}
use Rattle.hyd_num.specs.CapacityPairs.{IsMade}
use Rattle.hyd_spec_certificates.specs.declared.Problem.{Problem}
use Rattle.hyd_spec_certificates.specs.declared.Problem.TheVariants.{Main, Pinned}
use Rattle.hyd_spec_certificates.specs.declared.Side.{Side}
use Rattle.hyd_spec_certificates.specs.declared.Side.TheVariants.{Upper, Lower}
use Rattle.hyd_spec_certificates.specs.EnclosingFunctions.{root_up}
use Rattle.hyd_spec_certificates.specs.Interval.{Interval}
use Rattle.hyd_spec_certificates.specs.PeriodNetwork.{Grid, IsDriven}
use Rattle.hyd_spec_certificates.specs.Certificate.{IsCertificate}
use Rattle.hyd_spec_certificates.specs.RecordAndStanding.{Record, Vectors, no_vectors, vector_of}
use Rattle.hyd_spec_certificates.specs.Decided.{flow_boxes, inflow_of_tank}
use Rattle.hyd_spec_certificates.specs.Valid.{IsProblem, IsGridAt, AreCertificates}
use Rattle.hyd_theorems_on_definitions.proofs.Roots.{root_down-quick, quick_root}
use Rattle.hyd_cases_of_histories.proofs.RoundPairs.{twice, ratio, product, quotient}
use Rattle.hyd_cases_of_runs.specs.HillTown.{hill_town, thirst, grid_hill, standing_0, standing_1}
use Rattle.hyd_cases_of_runs.specs.HillTown.{standing_2, standing_3, grid_0, grid_1, grid_2, grid_3, row_0, row_1}
use Rattle.hyd_cases_of_runs.specs.HillTown.{row_2}
use Rattle.hyd_cases_of_runs.specs.HillTown.{row_3}
use Rattle.hyd_cases_of_runs.proofs.VillageCertificates.{is_certificate, certificate}

-- ---- the grids

abbrev thirst_flow : Scaled
thirst_flow = record { mant = 8589934592000000000; exp = neg_ℤ (pos 31); normal = lit≤ tt; short = lit< tt }

abbrev thirst_head : Scaled
thirst_head = record { mant = 5242880000000000000; exp = neg_ℤ (pos 15); normal = lit≤ tt; short = lit< tt }

abbrev thirst_square : Scaled
thirst_square = record { mant = 8000000000000000000; exp = pos 1; normal = lit≤ tt; short = lit< tt }

thirst_made : IsMade thirst
thirst_made = record {
  pair = twice thirst.lo;
  low = refl;
  high = refl;
  made = record {
    flows = twice thirst_flow;
    flows_is = ratio _ _ thirst_flow (lit< tt) refl;
    head = twice thirst_head;
    head_is = ratio _ _ thirst_head (lit< tt) refl;
    capacity_is = record {
      square = twice thirst_square;
      square_is = product thirst_flow thirst_flow thirst_square (lit< tt) refl;
      capacity_is = quotient thirst_square thirst_head thirst.lo (lit< tt) refl;
    };
  };
}

is_driven : IsDriven hill_town (pos 4000000000) grid_hill.demand
is_driven = record { capacity = thirst; origin = refl; made = thirst_made; is_law = refl }

pub is_grid_0 : IsGridAt hill_town standing_0 grid_0
is_grid_0 = record {
  junctions = (record { elevation = refl; demand = is_driven; emitter = refl }, tt);
  reservoirs = refl;
  tank_heads = refl;
  links_are = refl;
}

pub is_grid_1 : IsGridAt hill_town standing_1 grid_1
is_grid_1 = record {
  junctions = (record { elevation = refl; demand = is_driven; emitter = refl }, tt);
  reservoirs = refl;
  tank_heads = refl;
  links_are = refl;
}

pub is_grid_2 : IsGridAt hill_town standing_2 grid_2
is_grid_2 = record {
  junctions = (record { elevation = refl; demand = is_driven; emitter = refl }, tt);
  reservoirs = refl;
  tank_heads = refl;
  links_are = refl;
}

pub is_grid_3 : IsGridAt hill_town standing_3 grid_3
is_grid_3 = record {
  junctions = (record { elevation = refl; demand = is_driven; emitter = refl }, tt);
  reservoirs = refl;
  tank_heads = refl;
  links_are = refl;
}

-- ---- the certificates

certificates : (grid : Grid) (row : Record) (vectors : Vectors) → row.pinned ≡ vectors ∷ []
    → is_certificate grid Main Upper row.main.upper ≡ true → is_certificate grid Main Lower row.main.lower ≡ true
    → is_certificate grid (Pinned 0) Upper vectors.upper ≡ true
    → is_certificate grid (Pinned 0) Lower vectors.lower ≡ true → AreCertificates hill_town grid row
certificates grid row vectors pinned a b c d = record { pinned_each = rw pinned refl; each = each }
  where
    each : (problem : Problem) (side : Side) → IsProblem hill_town problem
        → IsCertificate grid problem side (vector_of row problem side)
    each Main Upper is = certificate grid Main Upper row.main.upper a
    each Main Lower is = certificate grid Main Lower row.main.lower b
    each (Pinned zero) Upper is = rw pinned (certificate grid (Pinned 0) Upper vectors.upper c)
    each (Pinned zero) Lower is = rw pinned (certificate grid (Pinned 0) Lower vectors.lower d)
    each (Pinned (suc k)) side is = absurd (omega (arith, is))

abbrev pinned_of : Record → Vectors
pinned_of row = slice_index_or row.pinned 0 no_vectors

main_upper_0 : is_certificate grid_0 Main Upper row_0.main.upper ≡ true
unfolding root_up quick_root
main_upper_0 = rw root_down-quick refl

main_lower_0 : is_certificate grid_0 Main Lower row_0.main.lower ≡ true
unfolding root_up quick_root
main_lower_0 = rw root_down-quick refl

pinned_upper_0 : is_certificate grid_0 (Pinned 0) Upper (pinned_of row_0).upper ≡ true
unfolding root_up quick_root
pinned_upper_0 = rw root_down-quick refl

pinned_lower_0 : is_certificate grid_0 (Pinned 0) Lower (pinned_of row_0).lower ≡ true
unfolding root_up quick_root
pinned_lower_0 = rw root_down-quick refl

pub certificates_0 : AreCertificates hill_town grid_0 row_0
certificates_0 = certificates grid_0 row_0 _ refl main_upper_0 main_lower_0 pinned_upper_0 pinned_lower_0

main_upper_1 : is_certificate grid_1 Main Upper row_1.main.upper ≡ true
unfolding root_up quick_root
main_upper_1 = rw root_down-quick refl

main_lower_1 : is_certificate grid_1 Main Lower row_1.main.lower ≡ true
unfolding root_up quick_root
main_lower_1 = rw root_down-quick refl

pinned_upper_1 : is_certificate grid_1 (Pinned 0) Upper (pinned_of row_1).upper ≡ true
unfolding root_up quick_root
pinned_upper_1 = rw root_down-quick refl

pinned_lower_1 : is_certificate grid_1 (Pinned 0) Lower (pinned_of row_1).lower ≡ true
unfolding root_up quick_root
pinned_lower_1 = rw root_down-quick refl

pub certificates_1 : AreCertificates hill_town grid_1 row_1
certificates_1 = certificates grid_1 row_1 _ refl main_upper_1 main_lower_1 pinned_upper_1 pinned_lower_1

main_upper_2 : is_certificate grid_2 Main Upper row_2.main.upper ≡ true
unfolding root_up quick_root
main_upper_2 = rw root_down-quick refl

main_lower_2 : is_certificate grid_2 Main Lower row_2.main.lower ≡ true
unfolding root_up quick_root
main_lower_2 = rw root_down-quick refl

pinned_upper_2 : is_certificate grid_2 (Pinned 0) Upper (pinned_of row_2).upper ≡ true
unfolding root_up quick_root
pinned_upper_2 = rw root_down-quick refl

pinned_lower_2 : is_certificate grid_2 (Pinned 0) Lower (pinned_of row_2).lower ≡ true
unfolding root_up quick_root
pinned_lower_2 = rw root_down-quick refl

pub certificates_2 : AreCertificates hill_town grid_2 row_2
certificates_2 = certificates grid_2 row_2 _ refl main_upper_2 main_lower_2 pinned_upper_2 pinned_lower_2

main_upper_3 : is_certificate grid_3 Main Upper row_3.main.upper ≡ true
unfolding root_up quick_root
main_upper_3 = rw root_down-quick refl

main_lower_3 : is_certificate grid_3 Main Lower row_3.main.lower ≡ true
unfolding root_up quick_root
main_lower_3 = rw root_down-quick refl

pinned_upper_3 : is_certificate grid_3 (Pinned 0) Upper (pinned_of row_3).upper ≡ true
unfolding root_up quick_root
pinned_upper_3 = rw root_down-quick refl

pinned_lower_3 : is_certificate grid_3 (Pinned 0) Lower (pinned_of row_3).lower ≡ true
unfolding root_up quick_root
pinned_lower_3 = rw root_down-quick refl

pub certificates_3 : AreCertificates hill_town grid_3 row_3
certificates_3 = certificates grid_3 row_3 _ refl main_upper_3 main_lower_3 pinned_upper_3 pinned_lower_3

-- ---- the flows

abbrev pub inflow_0 : Interval
inflow_0 = record { lo = pos 2963491973; hi = pos 2963492140 }

pub inflow_is_0 : inflow_of_tank hill_town grid_0 row_0 0 ≡ inflow_0
unfolding root_up quick_root
inflow_is_0 = rw root_down-quick refl

abbrev pub flows_0 : List Interval
flows_0 =
    record { lo = pos 2963491983; hi = pos 2963492130 }
    ∷ record { lo = neg_ℤ (pos 10); hi = pos 10 }
    ∷ record { lo = pos 9999207974; hi = pos 9999207995 }
    ∷ []

pub flows_are_0 : flow_boxes grid_0 row_0 ≡ flows_0
unfolding root_up quick_root
flows_are_0 = rw root_down-quick refl

abbrev pub inflow_1 : Interval
inflow_1 = record { lo = pos 2963098790; hi = pos 2963098957 }

pub inflow_is_1 : inflow_of_tank hill_town grid_1 row_1 0 ≡ inflow_1
unfolding root_up quick_root
inflow_is_1 = rw root_down-quick refl

abbrev pub inflow_2 : Interval
inflow_2 = record { lo = neg_ℤ (pos 7034417928); hi = neg_ℤ (pos 7034417760) }

pub inflow_is_2 : inflow_of_tank hill_town grid_2 row_2 0 ≡ inflow_2
unfolding root_up quick_root
inflow_is_2 = rw root_down-quick refl

abbrev pub inflow_3 : Interval
inflow_3 = record { lo = pos 2964699354; hi = pos 2964699525 }

pub inflow_is_3 : inflow_of_tank hill_town grid_3 row_3 0 ≡ inflow_3
unfolding root_up quick_root
inflow_is_3 = rw root_down-quick refl

abbrev pub flows_3 : List Interval
flows_3 =
    record { lo = pos 2964695636; hi = pos 2964703243 }
    ∷ record { lo = neg_ℤ (pos 10); hi = pos 10 }
    ∷ record { lo = pos 9999974866; hi = pos 9999974889 }
    ∷ []

pub flows_are_3 : flow_boxes grid_3 row_3 ≡ flows_3
unfolding root_up quick_root
flows_are_3 = rw root_down-quick refl
