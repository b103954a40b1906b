-- What is lent, of its parts in their order.
use Rattle.std.specs.Prelude.{ℕ, List}
use Rattle.definitions.specs.Calls.{Lent}

abbrev pub lent_of : (ranks terms schema script term_table quad_table : List ℕ) → Lent
lent_of ranks terms schema script term_table quad_table =
    record { ranks = ranks; terms = terms; schema = schema; script = script; term_table = term_table; quad_table = quad_table }
