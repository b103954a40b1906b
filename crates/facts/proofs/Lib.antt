-- First that the tables say the verdict, with no code: families and demands, the union-find, the tables, what is noted in them, how they are solved, `Infer` last.
-- Then the code: a step on the tables, the walk that notes.
pub mod Family
pub mod Demands
pub mod UnionFind
pub mod Tables
pub mod NotingLaws
pub mod Solve
pub mod Infer
pub mod TableLaws
pub mod WalkLaws
