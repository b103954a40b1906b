-- Document 02, Ask 13: one written type that would do.
--
--   Name the single written type that makes the script acceptable: the lowest open variable for which one exists, and for it the
--   lowest type code. If no single one does, say so. Writing it at that variable, with nothing else changed, leads to acceptance,
--   and no lower variable or code does; none is named only if none would do. A script accepted as it is, or refused below 9,
--   gets that answer instead.
--
-- A type is written in the script's bytes: its code stands in the byte after the variable's, in the pair that binds it.
use Rattle.definitions.specs.declared.Refusal.{Refusal}
use Rattle.definitions.specs.Numbers.{refusal_number}
use Rattle.definitions.specs.declared.Refusal.TheVariants.{NoGreatest}
use Rattle.std.specs.Prelude.{Ok, Err}
use Rattle.definitions.specs.Result.{OrRefusal}
use Rattle.std.specs.Prelude.{ℕ, ◌+◌, ◌<◌, ◌≡◌, ◌⊎◌, ◌↔◌, List, [], ◌∷◌, true, false, T, eqb, set}
use Rattle.std.proofs.Math.Option.{Option, none, some}
use Rattle.definitions.specs.Limits.{pairs_offset}
use Rattle.definitions.specs.Bytes.{byte}
use Rattle.definitions.specs.Alphabet.{is_alphabet}
use Rattle.definitions.specs.Types.{Ty, type_code}
use Rattle.definitions.specs.Tree.{Binder, Script, success, from_named, block, sequence}
use Rattle.definitions.specs.Result.{passed}
use Rattle.definitions.specs.Calls.{Parsed, read_tests, Lent, lengths_fit, load, suggest}
use Rattle.definitions.specs.declared.Suggested as Code
use Rattle.definitions.specs.declared.Suggested.TheVariants as Suggests

-- ── a type written at a variable ────────────────────────────────────────────────────────────

-- the offset of the pair that binds a variable: among pairs that stand from an offset on; in a script
unfoldable pub pair_in : (at : ℕ) → List Binder → (x : ℕ) → Option ℕ
pair_in at [] x = none
pair_in at (b ∷ bs) x = elim (eqb b.variable x) [ true ↦ some at | false ↦ pair_in (at + 2) bs x ]

abbrev pub first_pair : Option ℕ → Option ℕ → Option ℕ
first_pair none later = later
first_pair (some at) later = some at

unfoldable pub pair_of : Script → (x : ℕ) → Option ℕ
pair_of (success at) x = none
pair_of (from_named at n c) x = pair_of c x
pair_of (block at each bs q c) x = first_pair (pair_in (at + pairs_offset) bs x) (pair_of c x)
pair_of (sequence at c d) x = first_pair (pair_of c x) (pair_of d x)

-- what is lent, with a code in the byte after the first of a pair
abbrev pub with_code : Lent → (pair code : ℕ) → Lent
with_code l at code = record {
  ranks = l.ranks;
  terms = l.terms;
  schema = l.schema;
  script = set l.script (at + 1) code;
  term_table = l.term_table;
  quad_table = l.quad_table;
}

-- an open variable: the pair that binds it has the written type 0
pub record OpenAt (script : List ℕ) (root : Script) (x pair : ℕ) : Type 0 where
  pub binds : pair_of root x ≡ some pair
  pub variable : byte script pair ≡ x
  pub zero : byte script (pair + 1) ≡ 0

-- ── what is suggested ───────────────────────────────────────────────────────────────────────

abbrev pub Accepts : Lent → Type 0
Accepts l = (load l).returned.answer ≡ Ok tt

module _ (l : Lent) (root : Script) where
  -- the type of a code, written at an open variable, leads to acceptance, and no lower variable or code does
  pub record Lowest (x code : ℕ) : Type 0 where
    pub pair : ℕ
    pub opened : OpenAt l.script root x pair
    pub type : Ty
    pub code_is : type_code type ≡ code
    pub accepted : Accepts (with_code l pair code)
    pub lower : (y at : ℕ) (τ : Ty) → OpenAt l.script root y at → (y < x) ⊎ ((y ≡ x) × (type_code τ < code)) → Accepts (with_code l at (type_code τ)) → ⊥

  -- no single one would do
  abbrev pub NoneDoes : Type 0
  NoneDoes = (y at : ℕ) (τ : Ty) → OpenAt l.script root y at → Accepts (with_code l at (type_code τ)) → ⊥

  -- the answer after refusal 9
  abbrev pub Suggested : OrRefusal Code.Suggested → Type 0
  Suggested (Ok Suggests.Accepted) = ⊥
  Suggested (Ok (Suggests.Named x code)) = Lowest x code
  Suggested (Ok Suggests.NoSingle) = NoneDoes
  Suggested (Err n) = ⊥

-- of a card that is lent to a load with an alphabet and tables of their lengths
pub record OneType (l : Lent) : Type 0 where
  -- a script accepted as it is, or refused below 9, gets that answer
  pub accepted : Accepts l ↔ (suggest l.terms l.schema l.script ≡ Ok Suggests.Accepted)
  pub refused : (n : Refusal) → refusal_number n < 9 → ((load l).returned.answer ≡ Err n) ↔ (suggest l.terms l.schema l.script ≡ Err n)
  -- after refusal 9 the script has been read, and the answer is a type that would do, or that none would
  pub suggested : (load l).returned.answer ≡ Err NoGreatest
      → (x : Parsed) × (read_tests l.terms l.schema l.script ≡ passed x) × Suggested l x.root (suggest l.terms l.schema l.script)

pub record OneTypes : Type 0 where
  pub one : (l : Lent) → T (lengths_fit l) → T (is_alphabet l.ranks) → OneType l
