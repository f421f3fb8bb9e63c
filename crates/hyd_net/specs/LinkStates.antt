-- Which states a link can have. Each state has one form: OPEN of a pump is speed 1, and speed 0 is `Closed`.
-- Source: EPANET 2.2 User Manual, appendix C ([STATUS], [CONTROLS]).
use Rattle.std.specs.Prelude.{ℤ, pos, ◌*◌, ◌^◌, ◌≤ℤ◌, ⊤}
use Rattle.hyd_net.specs.NumberRanges.{Lies, IsUpTo, IsFlow}
use Rattle.hyd_net.specs.declared.links.LinkKind.{LinkKind}
use Rattle.hyd_net.specs.declared.links.LinkKind.TheVariants.{Pipe, CheckPipe, Pump, CurvePump, Tcv, Fcv, Gpv}
use Rattle.hyd_net.specs.declared.links.LinkState.{LinkState}
use Rattle.hyd_net.specs.declared.links.LinkState.TheVariants.{Open, Closed, Speed, Throttle, Limit}

-- a pump's speed in billionths: above 0 and at most 10
abbrev pub IsSpeed : ℤ → Type 0
IsSpeed nano = Lies (pos 1) (pos (10 * 10 ^ 9)) nano

-- a setting of a flow control valve: at least 0, and a flow
pub record IsFlowSetting (nano ticks : ℤ) : Type 0 where
  pub not_negative : pos 0 ≤ℤ nano
  pub flow : IsFlow ticks

-- a pipe is open or closed, with a check valve or without; a pump is closed or runs at a speed; a valve is open,
-- closed, or has a setting of its own kind, which a general purpose valve doesn't have
abbrev pub CanHave : LinkKind → LinkState → Type 0
CanHave (Pipe cap) Open = ⊤
CanHave (Pipe cap) Closed = ⊤
CanHave (Pipe cap) _ = ⊥
CanHave (CheckPipe cap) Open = ⊤
CanHave (CheckPipe cap) Closed = ⊤
CanHave (CheckPipe cap) _ = ⊥
CanHave (Pump cap shutoff head pattern) Closed = ⊤
CanHave (Pump cap shutoff head pattern) (Speed nano) = IsSpeed nano
CanHave (Pump cap shutoff head pattern) _ = ⊥
CanHave (CurvePump bend pattern) Closed = ⊤
CanHave (CurvePump bend pattern) (Speed nano) = IsSpeed nano
CanHave (CurvePump bend pattern) _ = ⊥
CanHave (Tcv valve) Open = ⊤
CanHave (Tcv valve) Closed = ⊤
CanHave (Tcv valve) (Throttle nano law) = IsUpTo (10 ^ 6) nano
CanHave (Tcv valve) _ = ⊥
CanHave (Fcv valve) Open = ⊤
CanHave (Fcv valve) Closed = ⊤
CanHave (Fcv valve) (Limit nano ticks) = IsFlowSetting nano ticks
CanHave (Fcv valve) _ = ⊥
CanHave (Gpv bend) Open = ⊤
CanHave (Gpv bend) Closed = ⊤
CanHave (Gpv bend) _ = ⊥

-- a control or a rule can set each link but a pipe with a check valve to each state that it can have
abbrev pub CanBeSet : LinkKind → LinkState → Type 0
CanBeSet (CheckPipe cap) to = ⊥
CanBeSet (Pipe cap) to = CanHave (Pipe cap) to
CanBeSet (Pump cap shutoff head pattern) to = CanHave (Pump cap shutoff head pattern) to
CanBeSet (CurvePump bend pattern) to = CanHave (CurvePump bend pattern) to
CanBeSet (Tcv valve) to = CanHave (Tcv valve) to
CanBeSet (Fcv valve) to = CanHave (Fcv valve) to
CanBeSet (Gpv bend) to = CanHave (Gpv bend) to
