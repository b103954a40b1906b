pub mod TermNumbers
