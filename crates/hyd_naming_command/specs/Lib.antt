pub mod NamingAnswers
