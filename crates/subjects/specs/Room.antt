-- How many subjects a page can ask something of.
use Rattle.std.specs.Prelude.{ℕ, ◌+◌, ◌/◌}
use Rattle.definitions.specs.Limits.{text_width, object_offset, page_limit}

-- a record that asks: its object is a URI
abbrev pub asking_width : ℕ
asking_width = object_offset + text_width

abbrev pub subject_limit : ℕ
subject_limit = page_limit / asking_width
