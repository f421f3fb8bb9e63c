-- Networks in which a link or an outflow of each kind is at work. The ends of the capacities are those that their
-- numbers stand for.
use Rattle.std.specs.Prelude.{ℤ, pos, neg_ℤ, true, Some, None}
use Rattle.std.specs.Int.Signed.{≤ℤ_refl}
use Rattle.std.proofs.Common.{lit≤, lit<}
use Rattle.hyd_num.specs.declared.flow_units.FlowUnit.TheVariants.{Cfs}
use Rattle.hyd_spec.specs.ProgramTypes.{Cmd, Capacity, Pipe, Pump, Emitter, PipeLink, CheckPipe, PumpLink, Fcv}
use Rattle.hyd_spec.specs.ProgramTypes.{Manning}
use Rattle.hyd_spec.specs.ProgramTypes.{FourThirds}
use Rattle.hyd_spec.specs.ProgramTypes.{Linear, Closed, Speed, Limit}
use Rattle.hyd_cases_of_histories.specs.OneLink.{Spur, plain}
use Rattle.hyd_cases_of_histories.specs.StatusWords.{thirty}

-- ---- pipes

-- 1000 feet of a pipe one foot across, of roughness 0.01 and without minor losses, which lose 0.466 feet at one cubic
-- foot a second.
abbrev pub long_pipe : Capacity
long_pipe = record {
  lo = record { mant = 7239961123724670982; exp = neg_ℤ (pos 34); normal = lit≤ tt; short = lit< tt };
  hi = record { mant = 7239961123724670990; exp = neg_ℤ (pos 34); normal = lit≤ tt; short = lit< tt };
  origin =
      Pipe true (record { nano = pos 1000000000000; bounded = lit≤ tt })
      (record { nano = pos 12000000000; bounded = lit≤ tt }) (record { nano = pos 10000000; bounded = lit≤ tt })
      (record { nano = pos 0; bounded = lit≤ tt });
  ordered = lit≤ tt;
  least = lit≤ tt;
  greatest = lit< tt;
}

-- Such a pipe from 100 feet to a junction that takes one cubic foot a second.
abbrev pub pipe_spur : Spur
pipe_spur = record plain {
  unit = Cfs;
  head = pos 304800000000000;
  kind = PipeLink (Manning long_pipe);
  demand = pos 24465755455;
}

-- The same with a check valve.
abbrev pub check_spur : Spur
check_spur = record pipe_spur { kind = CheckPipe (Manning long_pipe) }

-- With a check valve to a junction without a demand.
abbrev pub idle_spur : Spur
idle_spur = record check_spur { demand = pos 0 }

-- ---- a pump

-- A pump whose curve has one point, 30 m at 1000 cubic metres a day: it loses 10 m there.
abbrev pub round_pump : Capacity
round_pump = record {
  lo = record { mant = 8796093022208000000; exp = neg_ℤ (pos 43); normal = lit≤ tt; short = lit< tt };
  hi = record { mant = 8796093022208000000; exp = neg_ℤ (pos 43); normal = lit≤ tt; short = lit< tt };
  origin = Pump (record { nano = pos 1000000000000; bounded = lit≤ tt }) thirty 3 Cmd;
  ordered = lit≤ tt;
  least = lit≤ tt;
  greatest = lit< tt;
}

-- It pumps from 100 m to a junction that takes 1000 cubic metres a day.
abbrev pub pump_spur : Spur
pump_spur = record plain {
  kind = PumpLink round_pump
      (record {
        lo = pos 400000000000000;
        hi = pos 400000000000000;
        ordered = ≤ℤ_refl (pos 400000000000000);
      }) (FourThirds thirty) None;
  start = Speed (pos 1000000000);
  demand = pos 10000000000;
}

-- ---- a flow-control valve

-- It is without loss, is set to 802.6822656 cubic metres a day and leads to a junction that takes as much.
abbrev pub setting_spur : Spur
setting_spur = record plain {
  kind = Fcv Linear;
  start = Limit (pos 802682265600) (pos 8026822656);
  demand = pos 8026822656;
}

-- ---- outflows

-- An emitter that passes 100 cubic metres a day at a pressure of one metre.
abbrev pub hole : Capacity
hole = record {
  lo = record { mant = 7036874417766400000; exp = neg_ℤ (pos 46); normal = lit≤ tt; short = lit< tt };
  hi = record { mant = 7036874417766400000; exp = neg_ℤ (pos 46); normal = lit≤ tt; short = lit< tt };
  origin = Emitter (record { nano = pos 100000000000; bounded = lit≤ tt }) Cmd;
  ordered = lit≤ tt;
  least = lit≤ tt;
  greatest = lit< tt;
}

-- The junction with the emitter takes 602.6822656 cubic metres a day besides.
abbrev pub emitter_spur : Spur
emitter_spur = record plain { elevation = pos 959999999000000; demand = pos 6026822656; emitter = Some hole }

-- The junction's demand, 1605.3645312 cubic metres a day, is driven by pressure between 5 and 21 m.
abbrev pub driven_spur : Spur
driven_spur = record plain { driven = true; elevation = pos 909999999000000; demand = pos 16053645312 }

-- A demand that is driven so, at an elevation, of so many flow ticks.
abbrev driven_at : ℤ → ℤ → Spur
driven_at elevation demand = record plain { driven = true; elevation = elevation; demand = demand }

-- One at 5 m, one at 4 m, one at 21 m and one at nearly 100 m.
abbrev pub minimum_spur : Spur
minimum_spur = driven_at (pos 950000000000000) (pos 8026822656)

abbrev pub low_spur : Spur
low_spur = driven_at (pos 960000000000000) (pos 8026822656)

abbrev pub required_spur : Spur
required_spur = driven_at (pos 789999999000000) (pos 8026822656)

abbrev pub high_spur : Spur
high_spur = driven_at (pos 0) (pos 8026822656)

-- The emitter above the water that it stands in, so that it lets water in.
abbrev pub dry_spur : Spur
dry_spur = record emitter_spur { elevation = pos 1039999999000000; demand = pos 10026822656 }

-- A demand alone, 802.6822656 cubic metres a day.
abbrev pub demand_spur : Spur
demand_spur = record plain { demand = pos 8026822656 }

-- ---- links that pass less

-- The flow-control valve to a junction that takes half its setting.
abbrev pub half_spur : Spur
half_spur = record setting_spur { demand = pos 4013411328 }

-- The pump to a junction without a demand.
abbrev pub idle_pump : Spur
idle_pump = record pump_spur { demand = pos 0 }

-- The valve closed.
abbrev pub shut_spur : Spur
shut_spur = record plain { start = Closed }
