-- How much room the quads of a page take while it is taken in.
use Rattle.std.specs.Prelude.{ℕ, ◌+◌, ◌/◌}
use Rattle.definitions.specs.Limits.{object_offset, number_width, page_limit, quad_limit}

-- the least page record: its object is a number
abbrev pub least_record_width : ℕ
least_record_width = object_offset + number_width

-- a page has at most so many records
abbrev pub record_limit : ℕ
record_limit = page_limit / least_record_width

-- so many quads may come together
abbrev pub gathered_limit : ℕ
gathered_limit = quad_limit + record_limit
