-- Read TableLaws first: what a table holds, and a slot written; then PlaceLaws and HashLaws, and FindLaws, which needs all of them; SeenLaws has the hashes seen.
pub mod CountLaws
pub mod PlaceLaws
pub mod TableLaws
pub mod HashLaws
pub mod FindLaws
pub mod SeenLaws
