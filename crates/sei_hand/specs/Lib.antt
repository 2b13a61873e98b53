pub mod InputWords
pub mod Requests
pub mod ReadCall
pub mod Commands
pub mod Made
pub mod Served
pub mod HandsBehavior
