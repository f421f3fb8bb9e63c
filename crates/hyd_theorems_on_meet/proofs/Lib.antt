pub mod OneFront
pub mod OneAnswer
