-- Command lines as they are typed, and what they ask for.
use Rattle.std.specs.Prelude.{ℕ, ◌==◌, Bool, false, List, [], Option, Some, is_none, ℤ, pos, codes}
use Rattle.std.specs.List.{slice_split, list_all}
use Rattle.hyd_command_words.specs.CommandGrammar.{Order, run, check, gen, fire, closures, meet}
use Rattle.hyd_command_words.specs.CommandGrammar.{fire_over, closures_over}

-- the words of a line, parted by single spaces
abbrev pub typed : List ℕ → List (List ℕ)
typed line = slice_split (λ byte. byte == 32) line

abbrev pub asks_run : (net cert : List ℕ) (rounds : ℕ) (width : ℤ) (tight : Bool) → Option Order
asks_run net cert rounds width tight = Some (run (record {
  files = record { net = net; cert = cert };
  rounds = rounds;
  width = width;
  tight = tight;
  slack = 0;
  flows = [];
}))

-- `run a b`, by default but for the names of links
abbrev pub asks_flows : List (List ℕ) → Option Order
asks_flows names = Some (run (record {
  files = record { net = codes "a"; cert = codes "b" };
  rounds = 200;
  width = pos 100000000000;
  tight = false;
  slack = 0;
  flows = names;
}))

-- `run a b`, by default but for the seconds by which ends of periods may be open
abbrev pub asks_slack : ℕ → Option Order
asks_slack seconds = Some (run (record {
  files = record { net = codes "a"; cert = codes "b" };
  rounds = 200;
  width = pos 100000000000;
  tight = false;
  slack = seconds;
  flows = [];
}))

abbrev pub asks_check : (net cert : List ℕ) → Option Order
asks_check net cert = Some (check (record { net = net; cert = cert }))

abbrev pub asks_gen : (seed junctions : ℕ) (net cert : List ℕ) → Option Order
asks_gen seed junctions net cert = Some (gen (record {
  seed = seed;
  junctions = junctions;
  files = record { net = net; cert = cert };
}))

abbrev pub asks_fire : (net junction : List ℕ) (pressure : ℤ) (rounds : ℕ) → Option Order
asks_fire net junction pressure rounds =
    Some (fire (record { net = net; junction = junction; pressure = pressure; rounds = rounds }))

abbrev pub asks_closures : (net : List ℕ) (pressure : ℤ) (rounds : ℕ) → Option Order
asks_closures net pressure rounds = Some (closures (record { net = net; pressure = pressure; rounds = rounds }))

abbrev pub asks_fire_over : (net junction : List ℕ) (pressure : ℤ) (rounds : ℕ) (spread : List ℕ) → Option Order
asks_fire_over net junction pressure rounds spread = Some (fire_over (record {
  fire = record { net = net; junction = junction; pressure = pressure; rounds = rounds };
  spread = spread;
}))

abbrev pub asks_closures_over : (net : List ℕ) (pressure : ℤ) (rounds : ℕ) (spread : List ℕ) → Option Order
asks_closures_over net pressure rounds spread = Some (closures_over (record {
  closures = record { net = net; pressure = pressure; rounds = rounds };
  spread = spread;
}))

abbrev pub asks_meet : (net witness : List ℕ) → Option Order
asks_meet net witness = Some (meet (record { net = net; witness = witness }))

-- none of them is a command
abbrev pub are_none : List (Option Order) → Bool
are_none orders = list_all is_none orders
