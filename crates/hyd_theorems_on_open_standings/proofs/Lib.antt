pub mod StocksInOrder
pub mod WhatEndsLeave
pub mod StandingsByFlows
pub mod StandingsAreFirm
