-- The family of a datatype.
use Rattle.std.specs.Prelude.{ℕ}
use Rattle.definitions.specs.Types.{Datatype, any_uri, string, decimal, date_time, integer, Ty, plain, range}

-- The rules for expressions do not tell integer from decimal: what they ask is of families. 0 URIs, 1 strings, 2 numbers, 3 date_times.
abbrev pub family : Datatype → ℕ
family any_uri = 0
family string = 1
family decimal = 2
family date_time = 3
family integer = 2

-- the least datatype of what has a type
abbrev pub own_datatype : Ty → Datatype
own_datatype (plain d) = d
own_datatype (range d) = any_uri
