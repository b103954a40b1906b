pub mod NumberRecord
