-- What a record of kinds 71 to 74 reads as, its children one level further down.
use Rattle.std.specs.Prelude.{ℕ, ◌+◌, ◌≤◌, ◌<◌, ◌≡◌, List, Bool, length}
use Rattle.std.proofs.Math.Option.{some}
use Rattle.definitions.specs.Limits.{block_width, pair_limit}
use Rattle.definitions.specs.Bytes.{byte, past}
use Rattle.definitions.specs.Tree.{Name, Query, Binder, Script, success, from_named, block, sequence}
use Rattle.definitions.specs.Reading.{read_name, read_query, read_script, binders_at, is_each}

module _ (s : List ℕ) (terms left at : ℕ) where
  pub record SuccessAt (o n : ℕ) : Type 0 where
    pub here : o ≡ at
    pub kind : byte s at ≡ 0x71
    pub ends : n ≡ at + 1

  pub record NamedAt (o : ℕ) (x : Name) (c : Script) (n : ℕ) : Type 0 where
    pub here : o ≡ at
    pub kind : byte s at ≡ 0x72
    pub next : ℕ
    pub name : read_name s terms left (at + 1) ≡ some (x, next)
    pub script : read_script s terms left next ≡ some (c, n)

  pub record BlockAt (o : ℕ) (each : Bool) (bs : List Binder) (q : Query) (c : Script) (n : ℕ) : Type 0 where
    pub here : o ≡ at
    pub kind : byte s at ≡ 0x73
    pub room : past at block_width ≤ length s
    pub mode : byte s (at + 1) < 2
    pub is_mode : is_each s at ≡ each
    pub binders : binders_at pair_limit (byte s (at + 2)) s (at + 3) ≡ some bs
    pub next : ℕ
    pub query : read_query s terms left (past at block_width) ≡ some (q, next)
    pub script : read_script s terms left next ≡ some (c, n)

  pub record SequenceAt (o : ℕ) (c d : Script) (n : ℕ) : Type 0 where
    pub here : o ≡ at
    pub kind : byte s at ≡ 0x74
    pub next : ℕ
    pub first : read_script s terms left (at + 1) ≡ some (c, next)
    pub second : read_script s terms left next ≡ some (d, n)

  abbrev pub ReadsAs : Script → ℕ → Type 0
  ReadsAs (success o) n = SuccessAt o n
  ReadsAs (from_named o x c) n = NamedAt o x c n
  ReadsAs (block o each bs q c) n = BlockAt o each bs q c n
  ReadsAs (sequence o c d) n = SequenceAt o c d n
