-- A text with rows of pipes, pumps, valves and emitters, and what their words mean.
use Rattle.std.specs.Prelude.{ℕ, ℤ, List, [], ◌∷◌, ◌++◌, codes, map}
use Rattle.hyd_spec_lines.specs.Lines.{Row, items_of, rows_in}
use Rattle.hyd_spec_lines.specs.declared.section.Section.TheVariants.{Junctions, Pipes, Valves}
use Rattle.hyd_spec_input.specs.Columns.{amount}
use Rattle.hyd_spec_input.specs.Curves.{Drop, drop_of}
use Rattle.hyd_spec_input.specs.MeaningsAcrossRows.{emitter_of}
use Rattle.hyd_spec_input.specs.NodeAndLinkRows.{pipe_minor, valve_minor}
use Rattle.hyd_spec_input.specs.SectionsAndTables.{rows_of, curve_named}
use Rattle.hyd_cases_of_definitions.specs.Input.{front}

-- three pipes, two pumps, two valves and two emitters at one junction
abbrev pub plant : List ℕ
plant =
    front ++ codes "[JUNCTIONS]\nJ 0 0\nK 0 0\n[RESERVOIRS]\nR 100\n[PIPES]\nP R J 1000 300 0.012 2.5\n"
    ++ codes "C J K 50.5 200 0.01 CV\nD R K 1 2 0.01 0 CLOSED\n[CURVES]\nH 30 40\nE 0 40\nE 10 30\nE 20 0\n"
    ++ codes "[PUMPS]\nU R J HEAD H\nX J K HEAD E SPEED 0.9\n[VALVES]\nV J K 300 TCV 5 0.3\nF J K 250 FCV 40\n"
    ++ codes "[EMITTERS]\nJ 2.5\nJ 3\n"

abbrev pub plant_rows : List Row
plant_rows = rows_in (items_of plant)

-- length, diameter, roughness and minor loss of each pipe, in billionths
abbrev pub pipe_numbers : List (List ℤ)
pipe_numbers =
    map (λ row. amount 3 row.words ∷ amount 4 row.words ∷ amount 5 row.words ∷ pipe_minor row.words ∷ [])
    (rows_of Pipes plant_rows)

-- diameter, setting and minor loss of each valve, in billionths
abbrev pub valve_numbers : List (List ℤ)
valve_numbers =
    map (λ row. amount 3 row.words ∷ amount 5 row.words ∷ valve_minor row.words ∷ [])
    (rows_of Valves plant_rows)

-- the flow and the drop of a pump's curve
abbrev pub plant_drop : List ℕ → Drop
plant_drop name = drop_of (curve_named plant_rows name)

-- the emitter's coefficient at each junction, in billionths
abbrev pub plant_emitters : List ℤ
plant_emitters = map (emitter_of plant_rows) (rows_of Junctions plant_rows)
