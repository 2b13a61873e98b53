pub mod PublicStore
