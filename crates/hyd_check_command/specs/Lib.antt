pub mod CheckAnswers
pub mod OpenCertificateOfRun
pub mod OpenCheckAnswers
pub mod RoomOfChecks
