pub mod MeetAnswers
pub mod Statuses
pub mod CommandMeet
