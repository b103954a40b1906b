pub mod ScanLaws
pub mod Places
pub mod StretchScan
pub mod Stretches
pub mod Graphs
