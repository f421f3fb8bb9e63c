pub mod EndsOneByOne
pub mod NumbersOfCode
pub mod LevelsOnCurve
pub mod SameEnds
pub mod GoalsMet
pub mod GoalsOfCurves
