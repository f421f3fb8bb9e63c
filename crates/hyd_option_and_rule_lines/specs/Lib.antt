pub mod HoursMinutesSeconds
pub mod ClockTimeOrNumber
pub mod WhatLinesSay
pub mod FaultOrValue
