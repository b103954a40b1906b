-- What the untyped machine gives: a value, or a stop at one of document 01's eight faults.
use Rattle.std.specs.Prelude.{Bool, true, false}

pub data Fault : Type 0 where
  graph_no_uri subject_no_uri property_not_in_schema object_not_of_datatype : Fault
  from_named_no_uri text_test_on_no_string arithmetic_on_no_number nothing_in_common : Fault
  -- none of the eight: a name with no term, an unbound variable or a number past the table; refusals 6 and 7 rule it out
  no_term : Fault

pub data Outcome (A : Type 0) : Type 0 where
  ok : A → Outcome A
  fault : Fault → Outcome A

infixl 10 ◌>>=◌
infixl 10 ◌>>◌
-- the first fault stops, from left to right; no part is passed over
unfoldable pub ◌>>=◌ : {A B : Type 0} → Outcome A → (A → Outcome B) → Outcome B
ok a >>= f = f a
fault x >>= f = fault x

unfoldable pub ◌>>◌ : {A B : Type 0} → Outcome A → Outcome B → Outcome B
ok a >> m = m
fault x >> m = fault x

-- a fault where the test fails
unfoldable pub demand : Bool → Fault → Outcome (Unit {0})
demand true x = ok tt
demand false x = fault x
