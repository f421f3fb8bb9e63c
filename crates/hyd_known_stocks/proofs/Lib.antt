pub mod HeldBetween
