-- What is noted of a page: its subjects of which something is asked, and the datatype that meets it.
use Rattle.std.specs.Prelude.{ℕ, ◌+◌, ◌≤◌, ◌<◌, Bool, true, false, List, [], ◌∷◌, ◌++◌, ◌≡◌, length, get_or, Some, None}
use Rattle.std.specs.declared.option.Option as Answer
use Rattle.std.proofs.Math.Option.{Option, some}
use Rattle.definitions.specs.Limits.{text_width}
use Rattle.definitions.specs.Bytes.{part}
use Rattle.definitions.specs.Types.{Datatype}
use Rattle.definitions.specs.Terms.{Text, uri_text}
use Rattle.definitions.specs.Gathering.{Asking, asked_of, subjects_after}
use Rattle.laws.specs.Gathering.{MetAbove}
use Rattle.fields.specs.Answers.{code_of}
use Rattle.table.specs.Hashes.{hash_of, uri_slot, HashesOf}
use Rattle.subjects.specs.declared.Subjects.{Subjects}

-- the URI field at one of a list's offsets
abbrev pub field_at : (page offsets : List ℕ) → ℕ → List ℕ
field_at page offsets i = part page (get_or offsets i 0) text_width

-- the first n fields lie within the page
abbrev pub FieldsWithin : (page offsets : List ℕ) → ℕ → Type 0
FieldsWithin page offsets n = (i : ℕ) → i < n → get_or offsets i 0 + text_width ≤ length page

-- with their hashes
abbrev pub FieldsHashed : (page offsets : List ℕ) → ℕ → (hashes : List ℕ) → Type 0
FieldsHashed page offsets n hashes = HashesOf (λ i. hash_of (uri_slot (field_at page offsets i))) n hashes

-- the first place, of n, that passes a test, where one does
pub record First (test : ℕ → Bool) (n : ℕ) (r : Answer.Option ℕ) : Type 0 where
  pub some : (i : ℕ) → r ≡ Some i → (i < n) × (test i ≡ true) × ((j : ℕ) → j < i → test j ≡ false)
  pub none : r ≡ None → (j : ℕ) → j < n → test j ≡ false

-- a code, 0 for none, is of the datatype above which all that is asked is met
pub record Meeting (code : ℕ) (asked : List Datatype) : Type 0 where
  pub datatype : Option Datatype
  pub is : code ≡ code_of datatype
  pub met : MetAbove asked datatype

-- some subjects, with what is asked of each
pub record NotedOf (page : List ℕ) (all : List Asking) (us : List Text) (s : Subjects) : Type 0 where
  pub count : s.count ≡ length us
  pub within : FieldsWithin page s.offsets s.count
  pub texts : (i : ℕ) → i < s.count → uri_text (field_at page s.offsets i) ≡ some (get_or us i [])
  pub hashed : FieldsHashed page s.offsets s.count s.hashes
  pub codes : (i : ℕ) → i < s.count → Meeting (get_or s.codes i 0) (asked_of (get_or us i []) all)

-- all subjects of which something is asked
abbrev pub Noted : (page : List ℕ) → List Asking → Subjects → Type 0
Noted page all s = NotedOf page all (subjects_after [] all) s

-- one thing more is asked
abbrev pub one_more : List Asking → Text → Datatype → List Asking
one_more all u d = all ++ (record { subject = u; least = d } ∷ [])
