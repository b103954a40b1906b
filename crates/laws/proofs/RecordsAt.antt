-- Laws of records: what a record at an offset holds, and records one after the other, from an offset on.
use Prim.Native.Nat.{ℕ, zero, suc, ◌+◌, ◌-◌, ◌≤◌, ◌<◌}
use mathlib.Core.Bool.{Bool, true, false, ◌&&◌}
use mathlib.Core.List.{List, []}
use mathlib.Core.Option.{Option, none, some}
use mathlib.Core.Path.{◌≡◌, refl, sym, ap, ◌∙◌}
use native.Mathlib.Omega.{arith}
use lib.Dec.{leb, eqb, leb→le}
use lib.ListN.{length}
use borrow.Author.Tests.{le-leb, lt-leb, leb-false}
use Rattle.definitions.specs.Limits.{text_width, uri_width, entry_width, property_offset, object_offset}
use Rattle.definitions.specs.Bytes.{Got, byte, part, onward, whole, in_front, records_from, records}
use Rattle.definitions.specs.Types.{Datatype, datatype_of_code}
use Rattle.definitions.specs.Terms.{Text, Term, Entry, Triple, body_width, term_of_body, body_at, uri_text, uri_at, of_term_kind, of_page_kind, read_term, read_entry, read_triple, read_terms, read_schema, read_page}
use Rattle.laws.proofs.Tests.{and_right}
use Rattle.laws.proofs.Options.{some_is, pair_is, provided-inv, onward-inv}
use Rattle.laws.proofs.Valid.{body-at-inv}
use Rattle.laws.specs.Records.{TermAt, EntryAt, TripleAt, records_at}

-- ── what a record at an offset holds ────────────────────────────────────────────────────────

pub term-inv : (s : List ℕ) (at : ℕ) (t : Term) (n : ℕ) → read_term s at ≡ some (t, n) → TermAt s at t n
unfolding read_term
term-inv s at t n e =
    let d = onward-inv (of_term_kind (byte s at)) (λ d. body_at d s (at + 1)) e in
    let b = body-at-inv d.0 s (at + 1) t n d.2 in
    record { datatype = d.0; kind = d.1; body = b.1; ends = b.2; fits = omega (arith, b.0, b.2) }

uri-at-inv : (s : List ℕ) (at : ℕ) (r : Text × ℕ) → uri_at s at ≡ some r
    → (at + text_width ≤ length s) × (uri_text (part s at text_width) ≡ some r.0) × (r.1 ≡ at + text_width)
unfolding uri_at
uri-at-inv s at r e =
    let field = part s at text_width in
    let p = provided-inv (leb (at + text_width) (length s)) (onward (uri_text field) (λ u. some (u, at + text_width))) e in
    let x = onward-inv (uri_text field) (λ u. some (u, at + text_width)) p.1 in
    let q = some_is x.2 in
    (leb→le (at + text_width) (length s) p.0, x.1 ∙ ap (λ r. some r.0) q, sym (ap (λ r. r.1) q))

pub entry-inv : (s : List ℕ) (at : ℕ) (x : Entry) (n : ℕ) → read_entry s at ≡ some (x, n) → EntryAt s at x n
unfolding read_entry
entry-inv s at x n e =
    let made : Text × ℕ → Datatype → Got Entry = λ p d. some (record { property = p.0; datatype = d }, p.1 + 1) in
    let rest : Text × ℕ → Got Entry = λ p. onward (datatype_of_code (byte s p.1)) (made p) in
    let p = provided-inv (eqb (byte s at) 0x21 && whole s at (text_width + 1)) (onward (uri_at s (at + 1)) rest) e in
    let fits = leb→le (at + entry_width) (length s) (and_right (eqb (byte s at) 0x21) (whole s at (text_width + 1)) p.0) in
    let u = onward-inv (uri_at s (at + 1)) rest p.1 in
    let i = uri-at-inv s (at + 1) u.0 u.1 in
    let d = onward-inv (datatype_of_code (byte s u.0.1)) (made u.0) u.2 in
    let made-is = pair_is d.2 in
    let after : u.0.1 ≡ at + uri_width = omega (arith, i.2) in
    record {
      property = i.1 ∙ ap (λ (x : Entry). some x.property) made-is.0;
      datatype = ap (λ (k : ℕ). datatype_of_code (byte s k)) (sym after) ∙ d.1 ∙ ap (λ (x : Entry). some x.datatype) made-is.0;
      ends = omega (arith, made-is.1, after);
      fits = omega (arith, made-is.1, after);
    }

pub triple-inv : (s : List ℕ) (at : ℕ) (x : Triple) (n : ℕ) → read_triple s at ≡ some (x, n) → TripleAt s at x n
unfolding read_triple
triple-inv s at x n e =
    let made : Text × ℕ → Text × ℕ → Term × ℕ → Got Triple = λ u p o. some (record { subject = u.0; property = p.0; object = o.0 }, o.1) in
    let object : Datatype → Text × ℕ → Text × ℕ → Got Triple = λ d u p. onward (body_at d s p.1) (made u p) in
    let property : Datatype → Text × ℕ → Got Triple = λ d u. onward (uri_at s u.1) (object d u) in
    let d = onward-inv (of_page_kind (byte s at)) (λ d. onward (uri_at s (at + 1)) (property d)) e in
    let u = onward-inv (uri_at s (at + 1)) (property d.0) d.2 in
    let p = onward-inv (uri_at s u.0.1) (object d.0 u.0) u.2 in
    let o = onward-inv (body_at d.0 s p.0.1) (made u.0 p.0) p.2 in
    let y : Triple = record { subject = u.0.0; property = p.0.0; object = o.0.0 } in
    let y-is = pair_is {a = y} {b = o.0.1} o.2 in
    let i = uri-at-inv s (at + 1) u.0 u.1 in
    let j = uri-at-inv s u.0.1 p.0 p.1 in
    let b = body-at-inv d.0 s p.0.1 o.0.0 o.0.1 o.1 in
    let first : u.0.1 ≡ at + property_offset = omega (arith, i.2) in
    let second : p.0.1 ≡ at + object_offset = omega (arith, j.2, first) in
    record {
      datatype = d.0;
      kind = d.1;
      subject = i.1 ∙ ap (λ (x : Triple). some x.subject) y-is.0;
      property = ap (λ (k : ℕ). uri_text (part s k text_width)) (sym first) ∙ j.1 ∙ ap (λ (x : Triple). some x.property) y-is.0;
      object = ap (λ (k : ℕ). term_of_body d.0 (part s k (body_width d.0))) (sym second) ∙ b.1 ∙ ap (λ (x : Triple). some x.object) y-is.0;
      ends = omega (arith, y-is.1, b.2, second);
      fits = omega (arith, y-is.1, b.0, b.2);
    }

-- ── records one after the other ─────────────────────────────────────────────────────────────

-- a reader goes forward and stays within the bytes
abbrev pub Forward : {A : Type 0} → (List ℕ → ℕ → Got A) → Type 0
Forward {A} read = (s : List ℕ) (at : ℕ) (a : A) (n : ℕ) → read s at ≡ some (a, n) → (at < n) × (n ≤ length s)

pub term-forward : Forward read_term
term-forward s at t n e = let r = term-inv s at t n e in (omega (arith, r.ends), r.fits)

pub entry-forward : Forward read_entry
entry-forward s at x n e = let r = entry-inv s at x n e in (omega (arith, r.ends), r.fits)

pub triple-forward : Forward read_triple
triple-forward s at x n e = let r = triple-inv s at x n e in (omega (arith, r.ends), r.fits)

module _ {A : Type 0} (read : List ℕ → ℕ → Got A) where
  pub records-at : (s : List ℕ) → records read s ≡ records_at read s 0
  unfolding records records_at
  records-at s = refl

module _ {A : Type 0} (read : List ℕ → ℕ → Got A) (forward : Forward read) where
  -- more records may follow than do
  more : (l k : ℕ) (s : List ℕ) (at : ℕ) → length s - at < l → length s - at < k → records_from read l s at ≡ records_from read k s at
  unfolding records_from onward
  more zero k s at h j = absurd (omega arith)
  more (suc l) zero s at h j = absurd (omega arith)
  more (suc l) (suc k) s at h j = go (leb (length s) at) refl (read s at) refl (λ n p q. more l k s n p q)
    where
      go : (b : Bool) → leb (length s) at ≡ b → (o : Got A) → read s at ≡ o
          → ((n : ℕ) → length s - n < l → length s - n < k → records_from read l s n ≡ records_from read k s n)
          → ◌≡◌ {A = Option (List A)} (elim b as (λ c. Option (List A)) [ true ↦ some [] | false ↦ onward o (λ r. in_front read r.0 (records_from read l s r.1)) ])
          (elim b as (λ c. Option (List A)) [ true ↦ some [] | false ↦ onward o (λ r. in_front read r.0 (records_from read k s r.1)) ])
      go true e o q rest = refl
      go false e none q rest = refl
      go false e (some (a, n)) q rest =
          let f = forward s at a n q in
          let l = leb-false (length s) at e in
          ap (in_front read a) (rest n (omega arith) (omega arith))

  module _ (s : List ℕ) (at : ℕ) where
    pub at-end : length s ≤ at → records_at read s at ≡ some []
    unfolding records_at records_from
    at-end h = rw (le-leb (length s) at h, records_from)

    pub at-bad : at < length s → read s at ≡ none → records_at read s at ≡ none
    unfolding records_at records_from onward
    at-bad h e = rw (lt-leb (length s) at h, records_from, e)

    pub at_one : at < length s → {a : A} {n : ℕ} → read s at ≡ some (a, n) → records_at read s at ≡ in_front read a (records_at read s n)
    unfolding records_at records_from onward
    at_one h {a} {n} e =
        let f = forward s at a n e in
        rw (lt-leb (length s) at h, records_from, e) (ap (in_front read a) (more (length s) (suc (length s)) s n (omega arith) (omega arith)))

-- ── terms, schema and page ──────────────────────────────────────────────────────────────────

pub terms-at : (s : List ℕ) → read_terms s ≡ records_at read_term s 0
unfolding read_terms
terms-at s = records-at read_term s

pub schema-at : (s : List ℕ) → read_schema s ≡ records_at read_entry s 0
unfolding read_schema
schema-at s = records-at read_entry s

pub page-at : (s : List ℕ) → read_page s ≡ records_at read_triple s 0
unfolding read_page
page-at s = records-at read_triple s
