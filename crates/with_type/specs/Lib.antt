pub mod WithType
