-- Laws of the least types of a table's terms, written one after the other.
use Prim.Native.Nat.{ℕ, zero, suc, ◌+◌, ◌-◌, ◌*◌, ◌≤◌, ◌<◌}
use mathlib.Core.Bool.{true}
use mathlib.Core.List.{List, [], ◌∷◌, ◌++◌, map}
use mathlib.Core.Option.{some}
use mathlib.Core.Path.{◌≡◌, sym, ap, ◌∙◌}
use native.Mathlib.Omega.{arith}
use native.Mathlib.Numerals.{add-one}
use lib.ListN.{length, take, drop, set, get_or, length-map, take-append-drop}
use lib.Seq.{take_all, take-suc, length-take-le}
use Rattle.definitions.specs.Limits.{slot_width}
use Rattle.definitions.specs.Bytes.{part}
use Rattle.definitions.specs.Terms.{Term, Schema, read_schema}
use Rattle.definitions.specs.Saved.{slot_term, terms_in}
use Rattle.laws.proofs.Fill.{write-next}
use Rattle.laws.specs.ReadAnswers.{is_some}
use Rattle.fields.specs.Answers.{least_code}
use Rattle.table.specs.Table.{HoldsTerms}
use Rattle.laws.proofs.ReadAnswers.{is-some}
use Rattle.fields.proofs.PartLaws.{some-part}
use Rattle.table.proofs.TableLaws.{terms, terms-length, slot-there}
use Rattle.card.specs.Leasts.{code_of, least_codes}

code_at : (f : Term → ℕ) (ts : List Term) (i : ℕ) {t : Term} {rest : List Term} → drop i ts ≡ t ∷ rest → get_or (map f ts) i 0 ≡ f t
code_at f [] zero e = absurd (let z : ◌≡◌ {A = ℕ} 0 1 = cc in omega arith)
code_at f [] (suc i) e = absurd (let z : ◌≡◌ {A = ℕ} 0 1 = cc in omega arith)
code_at f (x ∷ ts) zero {t} e = let h : x ≡ t = cc in ap f h
code_at f (x ∷ ts) (suc i) e = code_at f ts i e

module _ (table schema : List ℕ) (count : ℕ) (g : is_some (read_schema schema) ≡ true) (h : HoldsTerms table count) where
  codes : List ℕ
  codes = least_codes (read_schema schema) (terms_in table)

  entries : (S : Schema) × (read_schema schema ≡ some S)
  entries = is-some (read_schema schema) g

  codes-are : codes ≡ map (code_of entries.0) (terms table count h).0
  unfolding codes least_codes
  codes-are = rw (entries.1, (terms table count h).1)

  codes-length : length codes ≡ count
  codes-length = ap length codes-are ∙ length-map (terms table count h).0 (code_of entries.0) ∙ terms-length table count h

  -- the code of the slot that the code hands on
  code-there : (i : ℕ) → i < count → least_code (read_schema schema) (slot_term (part table (i * slot_width) (i * slot_width + slot_width - i * slot_width))) ≡ get_or codes i 0
  unfolding least_code code_of
  code-there i l =
      let s = slot-there table count h i l in
      rw (some-part table (i * slot_width) slot_width, s.1, entries.1, codes-are) (sym (code_at (code_of entries.0) (terms table count h).0 i s.2))

  -- the first stand there already
  pub least_first : (old : List ℕ) (i : ℕ) → take i old ≡ take i (least_codes (read_schema schema) (terms_in table)) → old ≡ take i (least_codes (read_schema schema) (terms_in table)) ++ drop i old
  least_first old i e = sym (take-append-drop i old) ∙ ap (λ (l : List ℕ). l ++ drop i old) e

  module _ (old out : List ℕ) (i : ℕ) (e : out ≡ take i (least_codes (read_schema schema) (terms_in table)) ++ drop i old) where
    pub least-next : count ≤ length old → i < count → {k : ℕ}
        → k ≡ least_code (read_schema schema) (slot_term (part table (i * slot_width) (i * slot_width + slot_width - i * slot_width)))
        → set out i k ≡ take (i + 1) (least_codes (read_schema schema) (terms_in table)) ++ drop (i + 1) old
    unfolding codes
    least-next f l {k} q =
        write-next old out (take i codes) i 0 k (omega arith) (length-take-le i codes (omega (arith, codes-length))) e
        ∙ ap (λ (m : List ℕ). m ++ drop (i + 1) old)
        (ap (λ (x : ℕ). take i codes ++ (x ∷ [])) (q ∙ code-there i l)
        ∙ sym (take-suc codes i 0 (omega (arith, codes-length)))
        ∙ ap (λ (n : ℕ). take n codes) (sym (add-one i)))

    pub least-done : i ≤ count → count ≤ i → out ≡ least_codes (read_schema schema) (terms_in table) ++ drop count old
    unfolding codes
    least-done a b =
        let q : i ≡ count = omega arith in
        e ∙ ap (λ (m : List ℕ). m ++ drop i old) (take_all i codes (omega (arith, codes-length))) ∙ ap (λ (n : ℕ). codes ++ drop n old) q
