-- What reads well has an offset after it.
use Rattle.std.specs.declared.option.Option as Answer
use Rattle.std.specs.Option.{IsSome}
use Prim.Native.Nat.{ℕ}
use mathlib.Core.Path.{◌≡◌}
use Rattle.definitions.specs.Bytes.{Got}
use Rattle.laws.specs.Walks.{Loads}
use Rattle.laws.specs.ReadAnswers.{next_of}

pub next-there : {A : Type 0} (o : Got A) {r : Answer.Option ℕ} → r ≡ next_of o → Loads o → IsSome r
unfolding next_of
next-there o e l = rw (e, l.2)
