-- What a code stands for, and the order on codes; each function is one of its cases.
pub mod CodeLaws
