pub mod LinksOfNames
