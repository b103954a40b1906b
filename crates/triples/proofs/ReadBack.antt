-- Page records read back: a page of valid triples is read as these triples, and as no others.
use Prim.Native.Nat.{ℕ, ◌+◌}
use mathlib.Core.Path.{◌≡◌, refl, ap, sym, ◌∙◌}
use mathlib.Core.List.{List, [], ◌∷◌, ◌++◌, map, append_assoc}
use mathlib.Core.Bool.{true}
use mathlib.Core.Option.{some}
use native.Mathlib.Omega.{arith}
use borrow.Author.Tests.{le-leb}
use lib.Dec.{leb}
use lib.ListN.{length, get_or, take, drop, length-append}
use lib.Seq.{take_at, drop_at, get_or_at}
use Rattle.definitions.specs.Limits.{text_width, object_offset}
use Rattle.definitions.specs.Bytes.{filled, provided, onward, in_front}
use Rattle.definitions.specs.Types.{Datatype}
use Rattle.definitions.specs.Terms.{Term, Text, Triple, datatype, of_page_kind, body_width, body_of, term_of_body, uri_text, uri_at, body_at, read_triple, read_page}
use Rattle.definitions.specs.Publish.{page_kind, triple_bytes, page_of}
use Rattle.laws.specs.Lists.{All}
use Rattle.laws.specs.Records.{records_at}
use Rattle.laws.specs.Valid.{ValidURI, ValidTriple}
use Rattle.laws.proofs.Bytes.{filled-length}
use Rattle.laws.proofs.Options.{pair_is}
use Rattle.laws.proofs.Slots.{uri-of, body-of, body-length}
use Rattle.laws.proofs.RecordsAt.{triple-forward, page-at, at-end, at_one}

-- ── parts ───────────────────────────────────────────────────────────────────────────────────

-- a part that stands between two others
part_at : (before mid after : List ℕ) (at n : ℕ) → length before ≡ at → length mid ≡ n → take n (drop at (before ++ (mid ++ after))) ≡ mid
part_at before mid after at n e f = rw (drop_at before (mid ++ after) at e) (take_at mid after n f)

room_at : (before mid after : List ℕ) (at n : ℕ) → length before ≡ at → length mid ≡ n → leb (at + n) (length (before ++ (mid ++ after))) ≡ true
room_at before mid after at n e f = le-leb (at + n) (length (before ++ (mid ++ after))) (omega (arith, length-append before (mid ++ after), length-append mid after))

uri-read : (before mid after : List ℕ) (at : ℕ) (u : Text) → length before ≡ at → length mid ≡ text_width → uri_text mid ≡ some u
    → uri_at (before ++ (mid ++ after)) at ≡ some (u, at + text_width)
unfolding uri_at provided onward
uri-read before mid after at u e f h = rw (room_at before mid after at text_width e f, part_at before mid after at text_width e f, h)

body-read : (d : Datatype) (before mid after : List ℕ) (at : ℕ) (t : Term) → length before ≡ at → length mid ≡ body_width d → term_of_body d mid ≡ some t
    → body_at d (before ++ (mid ++ after)) at ≡ some (t, at + body_width d)
unfolding body_at provided onward
body-read d before mid after at t e f h = rw (room_at before mid after at (body_width d) e f, part_at before mid after at (body_width d) e f, h)

page-kind : (d : Datatype) → of_page_kind (page_kind d) ≡ some d
page-kind Datatype.any_uri = refl
page-kind Datatype.string = refl
page-kind Datatype.integer = refl
page-kind Datatype.decimal = refl
page-kind Datatype.date_time = refl

-- ── one record ──────────────────────────────────────────────────────────────────────────────

-- its parts, one after the other
read-parts : (d : Datatype) (k : ℕ) (pre x p o rest : List ℕ) (at : ℕ) (r : Triple)
    → length pre ≡ at → of_page_kind k ≡ some d → length x ≡ text_width → length p ≡ text_width → length o ≡ body_width d
    → uri_text x ≡ some r.subject → uri_text p ≡ some r.property → term_of_body d o ≡ some r.object
    → read_triple (pre ++ (k ∷ (x ++ (p ++ (o ++ rest))))) at ≡ some (r, at + 1 + text_width + text_width + body_width d)
unfolding read_triple onward
read-parts d k pre x p o rest at r e ek lx lp lo tx tp to =
    let s = pre ++ (k ∷ (x ++ (p ++ (o ++ rest)))) in
    let b : get_or s at 0 ≡ k = get_or_at pre k (x ++ (p ++ (o ++ rest))) 0 at e in
    let s₁ : s ≡ (pre ++ (k ∷ [])) ++ (x ++ (p ++ (o ++ rest))) = sym (append_assoc pre (k ∷ []) (x ++ (p ++ (o ++ rest)))) in
    let s₂ : s ≡ ((pre ++ (k ∷ [])) ++ x) ++ (p ++ (o ++ rest)) = s₁ ∙ sym (append_assoc (pre ++ (k ∷ [])) x (p ++ (o ++ rest))) in
    let s₃ : s ≡ (((pre ++ (k ∷ [])) ++ x) ++ p) ++ (o ++ rest) = s₂ ∙ sym (append_assoc ((pre ++ (k ∷ [])) ++ x) p (o ++ rest)) in
    let l₁ : length (pre ++ (k ∷ [])) ≡ at + 1 = length-append pre (k ∷ []) ∙ ap (λ n. n + 1) e in
    let l₂ : length ((pre ++ (k ∷ [])) ++ x) ≡ at + 1 + text_width = length-append (pre ++ (k ∷ [])) x ∙ (λ i. l₁ i + lx i) in
    let l₃ : length (((pre ++ (k ∷ [])) ++ x) ++ p) ≡ at + 1 + text_width + text_width = length-append ((pre ++ (k ∷ [])) ++ x) p ∙ (λ i. l₂ i + lp i) in
    let ux : uri_at s (at + 1) ≡ some (r.subject, at + 1 + text_width) =
    ap (λ z. uri_at z (at + 1)) s₁ ∙ uri-read (pre ++ (k ∷ [])) x (p ++ (o ++ rest)) (at + 1) r.subject l₁ lx tx in
    let up : uri_at s (at + 1 + text_width) ≡ some (r.property, at + 1 + text_width + text_width) =
    ap (λ z. uri_at z (at + 1 + text_width)) s₂ ∙ uri-read ((pre ++ (k ∷ [])) ++ x) p (o ++ rest) (at + 1 + text_width) r.property l₂ lp tp in
    let uo : body_at d s (at + 1 + text_width + text_width) ≡ some (r.object, at + 1 + text_width + text_width + body_width d) =
    ap (λ z. body_at d z (at + 1 + text_width + text_width)) s₃
    ∙ body-read d (((pre ++ (k ∷ [])) ++ x) ++ p) o rest (at + 1 + text_width + text_width) r.object l₃ lo to in
    rw (b, ek, ux, up, uo)

uri-width : (u : Text) → ValidURI u → length (filled text_width u) ≡ text_width
uri-width u v = filled-length text_width u v.0.fits

pub record-length : (r : Triple) → ValidTriple r → length (triple_bytes r) ≡ object_offset + body_width (datatype r.object)
unfolding triple_bytes
record-length r v =
    let x = filled text_width r.subject in
    let p = filled text_width r.property in
    let o = body_of r.object in
    omega (arith, length-append x (p ++ o), length-append p o, uri-width r.subject v.subject, uri-width r.property v.property, body-length r.object v.object)

-- wherever it stands
read_one : (r : Triple) → ValidTriple r → (pre rest : List ℕ) → read_triple (pre ++ (triple_bytes r ++ rest)) (length pre) ≡ some (r, length (pre ++ triple_bytes r))
unfolding triple_bytes
read_one r v pre rest =
    let d = datatype r.object in
    let k = page_kind d in
    let x = filled text_width r.subject in
    let p = filled text_width r.property in
    let o = body_of r.object in
    let s : pre ++ (triple_bytes r ++ rest) ≡ pre ++ (k ∷ (x ++ (p ++ (o ++ rest)))) =
    ap (λ z. pre ++ (k ∷ z)) (append_assoc x (p ++ o) rest ∙ ap (λ z. x ++ z) (append_assoc p o rest)) in
    let n : length (pre ++ triple_bytes r) ≡ length pre + 1 + text_width + text_width + body_width d =
    length-append pre (triple_bytes r) ∙ omega (arith, record-length r v) in
    ap (λ z. read_triple z (length pre)) s
    ∙ (read-parts d k pre x p o rest (length pre) r refl (page-kind d) (uri-width r.subject v.subject) (uri-width r.property v.property)
    (body-length r.object v.object) (uri-of r.subject v.subject) (uri-of r.property v.property) (body-of r.object v.object)
    ∙ ap (λ m. some (r, m)) (sym n))

-- equal records are of equal triples
pub bytes-tell : (r t : Triple) → ValidTriple r → ValidTriple t → triple_bytes r ≡ triple_bytes t → r ≡ t
bytes-tell r t v w e =
    let a = read_one r v [] [] in
    let b = read_one t w [] [] in
    (pair_is (sym a ∙ (ap (λ z. read_triple (z ++ []) 0) e ∙ b))).0

-- ── a page ──────────────────────────────────────────────────────────────────────────────────

-- the records of a list of triples
abbrev pub page_bytes : List Triple → List ℕ
page_bytes ts = page_of (map triple_bytes ts)

read_all : (ts : List Triple) → All ValidTriple ts → (pre : List ℕ) → records_at read_triple (pre ++ page_bytes ts) (length pre) ≡ some ts
unfolding page_of in_front
read_all [] v pre = at-end read_triple triple-forward (pre ++ []) (length pre) (omega (arith, length-append {A = ℕ} pre []))
read_all (r ∷ ts) v pre =
    let s = pre ++ (triple_bytes r ++ page_bytes ts) in
    let k = record-length r v.0 in
    let rest : records_at read_triple s (length (pre ++ triple_bytes r)) ≡ some ts =
    ap (λ z. records_at read_triple z (length (pre ++ triple_bytes r))) (sym (append_assoc pre (triple_bytes r) (page_bytes ts))) ∙ read_all ts v.1 (pre ++ triple_bytes r) in
    at_one read_triple triple-forward s (length pre) (omega (arith, length-append pre (triple_bytes r ++ page_bytes ts), length-append (triple_bytes r) (page_bytes ts), k)) (read_one r
    v.0 pre (page_bytes ts))
    ∙ ap (in_front read_triple r) rest

-- a page of valid records is read as their triples
pub read-page : (ts : List Triple) → All ValidTriple ts → read_page (page_bytes ts) ≡ some ts
read-page ts v = page-at (page_bytes ts) ∙ read_all ts v []
