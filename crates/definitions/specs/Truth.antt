-- Document 02, Ask 5: booleans are true, false or unknown.
use Rattle.std.specs.Prelude.{Bool, true, false}
use Rattle.definitions.specs.declared.Truth.{Truth}
use Rattle.definitions.specs.declared.Truth.TheVariants.{True, False, Unknown}

abbrev pub truth_of : Bool → Truth
truth_of true = True
truth_of false = False

-- not of unknown is unknown
unfoldable pub not_truth : Truth → Truth
not_truth True = False
not_truth False = True
not_truth Unknown = Unknown

-- false if either side is false, otherwise an unknown side makes it unknown
unfoldable pub and_truth : Truth → Truth → Truth
and_truth True True = True
and_truth True False = False
and_truth True Unknown = Unknown
and_truth False True = False
and_truth False False = False
and_truth False Unknown = False
and_truth Unknown True = Unknown
and_truth Unknown False = False
and_truth Unknown Unknown = Unknown

-- true if either side is true, otherwise an unknown side makes it unknown
unfoldable pub or_truth : Truth → Truth → Truth
or_truth True True = True
or_truth True False = True
or_truth True Unknown = True
or_truth False True = True
or_truth False False = False
or_truth False Unknown = Unknown
or_truth Unknown True = True
or_truth Unknown False = Unknown
or_truth Unknown Unknown = Unknown

-- a filter holds only on true
unfoldable pub is_true : Truth → Bool
is_true True = true
is_true False = false
is_true Unknown = false
