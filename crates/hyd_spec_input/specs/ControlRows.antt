-- The lines of simple controls, each judged by itself.
-- Source: EPANET 2.2 User Manual, appendix C ([CONTROLS]).
use Rattle.std.specs.Prelude.{ℕ, List, [], ◌∷◌, codes, Option, if◌then◌else◌}
use Rattle.hyd_spec_input.specs.Columns.{id, one_of, meant, number, asked, or_else, first, needed, ends, word_is}
use Rattle.hyd_spec_input.specs.Keywords.{link_word, node_word}
use Rattle.hyd_spec_input.specs.TimesAndClockTimes.{time, clock}
use Rattle.hyd_net.specs.declared.refusal_cause.Cause.{Cause}

-- IF NODE id ABOVE or BELOW a level
abbrev pub level_control : List (List ℕ) → Option Cause
level_control words =
    first (needed (meant node_word) 4 words ∷ needed id 5 words
    ∷ needed (one_of (codes "ABOVE" ∷ codes "BELOW" ∷ [])) 6 words
    ∷ needed number 7 words ∷ ends 8 words ∷ [])

-- AT TIME time, or AT CLOCKTIME clock
abbrev pub time_control : List (List ℕ) → Option Cause
time_control words =
    or_else (needed (one_of (codes "TIME" ∷ codes "CLOCKTIME" ∷ [])) 4 words)
    (if word_is 4 (codes "CLOCKTIME") words then clock 5 words else time 0 5 words)

-- LINK id status, and when
abbrev pub control : List (List ℕ) → Option Cause
control words =
    first (needed (meant link_word) 0 words ∷ needed id 1 words ∷ needed asked 2 words
    ∷ needed (one_of (codes "IF" ∷ codes "AT" ∷ [])) 3 words
    ∷ (if word_is 3 (codes "IF") words then level_control words else time_control words) ∷ [])
