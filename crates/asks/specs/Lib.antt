pub mod PageRecords
