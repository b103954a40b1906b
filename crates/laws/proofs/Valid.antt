-- Valid terms: those that a record can say. What reading gives is valid, and loading and a page keep it.
use Prim.Native.Nat.{ℕ, zero, suc, ◌+◌, ◌≤◌}
use mathlib.Core.Bool.{Bool, true, false, not, ◌&&◌}
use mathlib.Core.List.{List, [], ◌∷◌}
use mathlib.Core.Option.{Option, none, some}
use mathlib.Core.Path.{◌≡◌, refl, sym, ap, subst, ◌∙◌}
use native.Mathlib.Omega.{arith}
use lib.Dec.{T, leb, eqb, leb→le}
use lib.ListN.{length, drop, length-take}
use lib.IntN.{ℤ}
use Rattle.definitions.specs.Limits.{text_width, tag_width, page_limit}
use Rattle.definitions.specs.Lists.{keep}
use Rattle.definitions.specs.Bytes.{Got, part, byte, little, signed, provided, onward, whole, in_front, records_from, records}
use Rattle.definitions.specs.Types.{Datatype, datatype_of_code}
use Rattle.definitions.specs.Terms.{Text, Term, Entry, Schema, Triple, field_text, uri_byte, text_byte, tag_byte, uri_text, is_integer, is_decimal, is_date_time}
use Rattle.definitions.specs.Terms.{body_width, number_term, term_of_body, body_at, uri_at, of_term_kind, of_page_kind}
use Rattle.definitions.specs.Terms.{read_term, read_entry, read_triple, read_terms, read_schema, read_page}
use Rattle.definitions.specs.Machine.{State, Taken, numbered, store, skip, well_typed, take_one, take_all, taken, with_page, of_graph, loaded}
use Rattle.definitions.specs.Result.{passed}
use Rattle.definitions.specs.Calls.{Parsed, Checked, check, page_in, PageTaken, take_in}
use Rattle.laws.proofs.Options.{some_is, pair_is, some-not-none, provided-inv, onward-inv}
use Rattle.laws.specs.Lists.{All}
use Rattle.laws.proofs.Bytes.{FieldOf, field-inv}
use Rattle.laws.proofs.Numbering.{all-numbered, all-properties}
use Rattle.laws.proofs.Check.{ReadPassed, check-passed}
use Rattle.laws.proofs.PageCheck.{page-passed}
use Rattle.laws.specs.Valid.{Field, ValidURI, Valid, ValidTriple, ValidIn}

-- ── what is valid ───────────────────────────────────────────────────────────────────────────

-- ── fields and bodies ───────────────────────────────────────────────────────────────────────

pub uri-inv : (field : List ℕ) (u : Text) → uri_text field ≡ some u → FieldOf uri_byte text_width field u × (1 ≤ length u)
unfolding uri_text
uri-inv field u e =
    let f = onward-inv (field_text uri_byte text_width field) (λ t. provided (leb 1 (length t)) (some t)) e in
    let p = provided-inv (leb 1 (length f.0)) (some f.0) f.2 in
    subst (λ (t : Text). FieldOf uri_byte text_width field t × (1 ≤ length t)) (some_is p.1)
    (field-inv uri_byte text_width field f.0 f.1, leb→le 1 (length f.0) p.0)

pub uri-valid : (field : List ℕ) (u : Text) → length field ≤ text_width → uri_text field ≡ some u → ValidURI u
uri-valid field u l e = let h = uri-inv field u e in (record { good = h.0.good; fits = h.0.fits l }, h.1)

-- the two fields of a string
pub string-inv : (b : List ℕ) (t : Term) → term_of_body Datatype.string b ≡ some t
    → (g x : Text) × (t ≡ Term.string g x) × FieldOf tag_byte tag_width (part b 0 tag_width) g × FieldOf text_byte text_width (part b tag_width text_width) x
unfolding term_of_body
string-inv b t e =
    let tag = part b 0 tag_width in
    let text = part b tag_width text_width in
    let g = onward-inv (field_text tag_byte tag_width tag) (λ g. onward (field_text text_byte text_width text) (λ x. some (Term.string g x))) e in
    let x = onward-inv (field_text text_byte text_width text) (λ x. some (Term.string g.0 x)) g.2 in
    (g.0, x.0, sym (some_is x.2), field-inv tag_byte tag_width tag g.0 g.1, field-inv text_byte text_width text x.0 x.1)

pub number-inv : (ok : ℤ → Bool) (make : ℤ → Term) (b : List ℕ) (t : Term) → number_term ok make b ≡ some t
    → (t ≡ make (signed (little b))) × T (ok (signed (little b)))
number-inv ok make b t e =
    let p = provided-inv (ok (signed (little b))) (some (make (signed (little b)))) e in
    (sym (some_is p.1), p.0)

part-fits : (s : List ℕ) (at n : ℕ) → length (part s at n) ≤ n
part-fits s at n = omega (arith, length-take n (drop at s))

pub body-valid : (d : Datatype) (b : List ℕ) (t : Term) → length b ≤ body_width d → term_of_body d b ≡ some t → Valid t
unfolding term_of_body
body-valid Datatype.any_uri b t l e =
    let u = onward-inv (uri_text b) (λ u. some (Term.uri u)) e in
    rw (← some_is u.2) (uri-valid b u.0 l u.1)
body-valid Datatype.string b t l e =
    let s = string-inv b t e in
    let tag : Field tag_byte tag_width s.0 = record { good = s.3.good; fits = s.3.fits (part-fits b 0 tag_width) } in
    let text : Field text_byte text_width s.1 = record { good = s.4.good; fits = s.4.fits (part-fits b tag_width text_width) } in
    rw s.2 (tag, text)
body-valid Datatype.decimal b t l e = let n = number-inv is_decimal Term.decimal b t e in rw n.0 n.1
body-valid Datatype.date_time b t l e = let n = number-inv is_date_time Term.date_time b t e in rw n.0 n.1
body-valid Datatype.integer b t l e = let n = number-inv is_integer Term.integer b t e in rw n.0 n.1

-- ── records ─────────────────────────────────────────────────────────────────────────────────

-- what a body within the bytes says, and where it ends
pub body-at-inv : (d : Datatype) (s : List ℕ) (at : ℕ) (t : Term) (n : ℕ) → body_at d s at ≡ some (t, n)
    → (at + body_width d ≤ length s) × (term_of_body d (part s at (body_width d)) ≡ some t) × (n ≡ at + body_width d)
unfolding body_at
body-at-inv d s at t n e =
    let b = part s at (body_width d) in
    let p = provided-inv (leb (at + body_width d) (length s)) (onward (term_of_body d b) (λ t. some (t, at + body_width d))) e in
    let x = onward-inv (term_of_body d b) (λ t. some (t, at + body_width d)) p.1 in
    let r = pair_is x.2 in
    (leb→le (at + body_width d) (length s) p.0, x.1 ∙ ap some r.0, sym r.1)

body-at-valid : (d : Datatype) (s : List ℕ) (at : ℕ) (t : Term) (n : ℕ) → body_at d s at ≡ some (t, n) → Valid t
body-at-valid d s at t n e = body-valid d (part s at (body_width d)) t (part-fits s at (body_width d)) (body-at-inv d s at t n e).1

uri-at-valid : (s : List ℕ) (at : ℕ) (r : Text × ℕ) → uri_at s at ≡ some r → ValidURI r.0
unfolding uri_at
uri-at-valid s at r e =
    let field = part s at text_width in
    let p = provided-inv (leb (at + text_width) (length s)) (onward (uri_text field) (λ u. some (u, at + text_width))) e in
    let x = onward-inv (uri_text field) (λ u. some (u, at + text_width)) p.1 in
    subst (λ (r : Text × ℕ). ValidURI r.0) (some_is x.2) (uri-valid field x.0 (part-fits s at text_width) x.1)

pub term-valid : (s : List ℕ) (at : ℕ) (t : Term) (n : ℕ) → read_term s at ≡ some (t, n) → Valid t
unfolding read_term
term-valid s at t n e =
    let d = onward-inv (of_term_kind (byte s at)) (λ d. body_at d s (at + 1)) e in
    body-at-valid d.0 s (at + 1) t n d.2

pub entry-valid : (s : List ℕ) (at : ℕ) (x : Entry) (n : ℕ) → read_entry s at ≡ some (x, n) → ValidURI x.property
unfolding read_entry
entry-valid s at x n e =
    let made : Text × ℕ → Datatype → Got Entry = λ p d. some (record { property = p.0; datatype = d }, p.1 + 1) in
    let rest : Text × ℕ → Got Entry = λ p. onward (datatype_of_code (byte s p.1)) (made p) in
    let p = provided-inv (eqb (byte s at) 0x21 && whole s at (text_width + 1)) (onward (uri_at s (at + 1)) rest) e in
    let u = onward-inv (uri_at s (at + 1)) rest p.1 in
    let d = onward-inv (datatype_of_code (byte s u.0.1)) (made u.0) u.2 in
    subst (λ (x : Entry). ValidURI x.property) (pair_is d.2).0 (uri-at-valid s (at + 1) u.0 u.1)

pub triple-valid : (s : List ℕ) (at : ℕ) (x : Triple) (n : ℕ) → read_triple s at ≡ some (x, n) → ValidTriple x
unfolding read_triple
triple-valid s at x n e =
    let made : Text × ℕ → Text × ℕ → Term × ℕ → Got Triple = λ u p o. some (record { subject = u.0; property = p.0; object = o.0 }, o.1) in
    let object : Datatype → Text × ℕ → Text × ℕ → Got Triple = λ d u p. onward (body_at d s p.1) (made u p) in
    let property : Datatype → Text × ℕ → Got Triple = λ d u. onward (uri_at s u.1) (object d u) in
    let d = onward-inv (of_page_kind (byte s at)) (λ d. onward (uri_at s (at + 1)) (property d)) e in
    let u = onward-inv (uri_at s (at + 1)) (property d.0) d.2 in
    let p = onward-inv (uri_at s u.0.1) (object d.0 u.0) u.2 in
    let o = onward-inv (body_at d.0 s p.0.1) (made u.0 p.0) p.2 in
    let y : Triple = record { subject = u.0.0; property = p.0.0; object = o.0.0 } in
    subst ValidTriple {x = y} (pair_is {a = y} {b = o.0.1} o.2).0
    (record {
      subject = uri-at-valid s (at + 1) u.0 u.1;
      property = uri-at-valid s u.0.1 p.0 p.1;
      object = body-at-valid d.0 s p.0.1 o.0.0 o.0.1 o.1;
    })

-- what holds of each record that is read holds of all
module _ {A : Type 0} (read : List ℕ → ℕ → Got A) (P : A → Type 0) (each : (s : List ℕ) (at : ℕ) (a : A) (n : ℕ) → read s at ≡ some (a, n) → P a) where
  front-all : (a : A) (o : Option (List A)) (xs : List A) → P a → ((ys : List A) → o ≡ some ys → All P ys) → in_front read a o ≡ some xs → All P xs
  unfolding in_front
  front-all a none xs p h e = absurd (some-not-none e refl)
  front-all a (some ys) xs p h e = subst (All P) (some_is e) (p, h ys refl)

  records-from-all : (left : ℕ) (s : List ℕ) (at : ℕ) (xs : List A) → records_from read left s at ≡ some xs → All P xs
  unfolding records_from
  records-from-all zero s at xs e = absurd (some-not-none e refl)
  records-from-all (suc left) s at xs e = go (leb (length s) at) (λ at ys h. records-from-all left s at ys h) e
    where
      go : (b : Bool) → ((at : ℕ) (ys : List A) → records_from read left s at ≡ some ys → All P ys)
          → (elim b as (λ c. Option (List A)) [
            | true ↦ some []
            | false ↦ onward (read s at) (λ r. in_front read r.0 (records_from read left s r.1))
          ]) ≡ some xs → All P xs
      go true rest e = subst (All P) (some_is e) tt
      go false rest e =
          let r = onward-inv (read s at) (λ r. in_front read r.0 (records_from read left s r.1)) e in
          front-all r.0.0 (records_from read left s r.0.1) xs (each s at r.0.0 r.0.1 r.1) (rest r.0.1) r.2

  pub records-all : (s : List ℕ) (xs : List A) → records read s ≡ some xs → All P xs
  unfolding records
  records-all s xs e = records-from-all (suc (length s)) s 0 xs e

pub terms-valid : (s : List ℕ) (ts : List Term) → read_terms s ≡ some ts → All Valid ts
unfolding read_terms
terms-valid s ts e = records-all read_term Valid term-valid s ts e

pub schema-valid : (s : List ℕ) (S : Schema) → read_schema s ≡ some S → All (λ x. ValidURI x.property) S
unfolding read_schema
schema-valid s S e = records-all read_entry (λ x. ValidURI x.property) entry-valid s S e

pub page-valid : (s : List ℕ) (rs : List Triple) → read_page s ≡ some rs → All ValidTriple rs
unfolding read_page
page-valid s rs e = records-all read_triple ValidTriple triple-valid s rs e

-- ── loading and pages keep it ───────────────────────────────────────────────────────────────

pub read-valid : (terms schema script : List ℕ) (x : Parsed) → ReadPassed terms schema script x → All Valid x.terms
read-valid terms schema script x p =
    let listed = terms-valid terms p.listed p.read in
    subst (All Valid) p.numbering (all-properties Valid x.schema p.listed listed (schema-valid schema x.schema p.entries))

pub check-valid : (terms schema script : List ℕ) (c : Checked) → check terms schema script ≡ passed c → All Valid c.terms
check-valid terms schema script c e =
    let p = check-passed terms schema script c e in
    read-valid terms schema script (record { schema = c.schema; terms = c.terms; root = c.root }) p.reads

pub loaded-valid : (c : Checked) → All Valid c.terms → ValidIn (loaded c.terms c.root)
unfolding loaded
loaded-valid c h = h

store-valid : (g : ℕ) (r : Triple) (k : Taken) → ValidTriple r → All Valid k.terms → All Valid (store g r k).terms
unfolding store
store-valid g r k v h =
    let x = numbered (Term.uri r.subject) k.terms in
    let p = numbered (Term.uri r.property) x.terms in
    all-numbered Valid r.object p.terms
    (all-numbered Valid (Term.uri r.property) x.terms (all-numbered Valid (Term.uri r.subject) k.terms h v.subject) v.property) v.object

one-valid : (S : Schema) (g : ℕ) (r : Triple) (k : Taken) → ValidTriple r → All Valid k.terms → All Valid (take_one S g r k).terms
unfolding take_one
one-valid S g r k v h = go (well_typed S r)
  where
    go : (b : Bool) → All Valid (elim b as (λ c. Taken) [ true ↦ store g r k | false ↦ skip k ]).terms
    go true = store-valid g r k v h
    go false = h

take-valid : (S : Schema) (g : ℕ) (rs : List Triple) (k : Taken) → All ValidTriple rs → All Valid k.terms → All Valid (take_all S g rs k).terms
unfolding take_all
take-valid S g [] k v h = h
take-valid S g (r ∷ rs) k v h = take-valid S g rs (take_one S g r k) v.1 (one-valid S g r k v.0 h)

pub page-keeps-valid : (c : Checked) (g : ℕ) (page : List ℕ) (s : State) (x : PageTaken) → take_in c g page s ≡ passed x → ValidIn s → ValidIn x.state
unfolding taken with_page page_in
page-keeps-valid c g page s x e h =
    let p = page-passed c g s page x e in
    let r = provided-inv (leb (length page) page_limit) (read_page page) p.read in
    let k : Taken = record { skipped = zero; terms = s.store.terms; quads = keep (λ q. not (of_graph g q)) s.store.quads } in
    rw p.result (take-valid c.schema g p.triples k (page-valid page p.triples r.1) h)
