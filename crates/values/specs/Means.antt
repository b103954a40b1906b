-- A value that means one of document 01's, outright.
use Rattle.std.specs.Prelude.{ℕ, ◌≡◌, List, Bool, pos, replicate}
use Rattle.definitions.specs.Limits.{tag_width}
use Rattle.definitions.specs.Types.{Datatype, datatype_code}
use Rattle.definitions.specs.Values.{Value as Meant}
use Rattle.values.specs.declared.Value.{Value}
use Rattle.values.specs.Meaning.{meaning, Good}

-- a string with no tag
abbrev pub plain_string : (present : Bool) (text : List ℕ) → Value
plain_string there t = record { kind = datatype_code Datatype.string; present = there; number = pos 0; tag = replicate tag_width 0; text = t }

pub record Holds (r : Value) (v : Meant) : Type 0 where
  pub good : Good r
  pub is : meaning r ≡ v
