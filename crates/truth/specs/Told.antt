-- What a test tells.
use Rattle.std.specs.Prelude.{Bool, cond}
use Rattle.definitions.specs.Truth.{truth_of}
use Rattle.definitions.specs.declared.Truth.{Truth}
use Rattle.definitions.specs.declared.Truth.TheVariants.{Unknown}

-- unknown where it holds no value
abbrev pub told_of : (present holds : Bool) → Truth
told_of present holds = cond present (truth_of holds) Unknown
