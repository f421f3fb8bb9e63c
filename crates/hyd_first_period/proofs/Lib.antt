pub mod LinksStarted
mod LinksAtFirst
