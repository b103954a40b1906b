-- Valid terms: those that a record can say.
use Rattle.std.specs.Prelude.{ℕ, ◌≤◌, Bool, T, length}
use Rattle.definitions.specs.Limits.{text_width, tag_width}
use Rattle.definitions.specs.Lists.{every}
use Rattle.definitions.specs.Terms.{Text, Term, Triple, uri_byte, text_byte, tag_byte, is_integer, is_decimal, is_date_time}
use Rattle.definitions.specs.Machine.{State}
use Rattle.laws.specs.Lists.{All}

-- a text whose bytes pass a test and that fits its field
pub record Field (ok : ℕ → Bool) (width : ℕ) (text : Text) : Type 0 where
  pub good : T (every ok text)
  pub fits : length text ≤ width

abbrev pub ValidURI : Text → Type 0
ValidURI u = Field uri_byte text_width u × (1 ≤ length u)

abbrev pub Valid : Term → Type 0
Valid (Term.uri u) = ValidURI u
Valid (Term.string g t) = Field tag_byte tag_width g × Field text_byte text_width t
Valid (Term.integer n) = T (is_integer n)
Valid (Term.decimal n) = T (is_decimal n)
Valid (Term.date_time n) = T (is_date_time n)

pub record ValidTriple (r : Triple) : Type 0 where
  pub subject : ValidURI r.subject
  pub property : ValidURI r.property
  pub object : Valid r.object

-- every term of a state is valid
abbrev pub ValidIn : State → Type 0
ValidIn s = All Valid s.store.terms
