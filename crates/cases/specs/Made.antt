-- Values made of plain data: strings and URIs in the fields that hold them.
use Rattle.std.specs.Prelude.{ℕ, List, []}
use Rattle.std.proofs.Math.Option.{Option, none, some}
use Rattle.definitions.specs.Limits.{text_width, tag_width}
use Rattle.definitions.specs.Bytes.{onward}
use Rattle.definitions.specs.Terms.{Text, field_text, uri_text, text_byte, tag_byte}
use Rattle.definitions.specs.Values.{Tagged}

-- the string in two fields, where both are good
unfoldable pub tagged_in : (tag text : List ℕ) → Option Tagged
tagged_in tag text =
    onward (field_text tag_byte tag_width tag) (λ g.
    onward (field_text text_byte text_width text) (λ t. some (record { tag = g; text = t })))

unfoldable pub or_empty : Option Text → Text
or_empty none = []
or_empty (some t) = t

-- the URI in a field, the empty text where the field is bad
unfoldable pub uri_in : List ℕ → Text
uri_in field = or_empty (uri_text field)
