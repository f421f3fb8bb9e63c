pub mod OneNetwork
mod OpenEndsAlone
pub mod StopsAlone
pub mod SharpAlone
pub mod ReportedRunsAlone
pub mod RunPromisesAlone
pub mod RefusalsAlone
pub mod CheckPromisesAlone
