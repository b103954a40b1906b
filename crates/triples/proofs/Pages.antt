-- A published page: told by the graph's triples, read as these, and no longer than any page that has them.
use Prim.Native.Nat.{ℕ, zero, suc, ◌+◌, ◌≤◌}
use mathlib.Core.Path.{◌≡◌, refl, ap, sym, ◌∙◌, subst}
use mathlib.Core.List.Memᴰ
use mathlib.Core.List.{List, [], ◌∷◌, map}
use mathlib.Core.Bool.{Bool, true, false}
use mathlib.Core.Option.{Option, none, some}
use mathlib.Core.Logic.{◌⊎◌, inl, inr, ⊎_elim}
use native.Mathlib.Omega.{arith}
use borrow.Author.Tests.{leb-true}
use lib.Dec.{leb}
use lib.ListN.{length, length-append}
use Rattle.definitions.specs.Bytes.{onward, in_front, records_from, records}
use Rattle.definitions.specs.Types.{Datatype}
use Rattle.definitions.specs.Terms.{Term, Triple, datatype, body_width, uri_text, is_integer, is_decimal, is_date_time, term_of_body, read_triple, read_page}
use Rattle.definitions.specs.Machine.{Store}
use Rattle.definitions.specs.Publish.{triple_bytes, rising_once, page_of, triples_of, published}
use Rattle.laws.specs.Lists.{All, ◌∈◌}
use Rattle.laws.specs.Valid.{ValidTriple}
use Rattle.laws.proofs.Options.{some_is, some-not-none, onward-inv}
use Rattle.laws.proofs.Valid.{string-inv, number-inv, triple-valid}
use Rattle.laws.proofs.RecordsAt.{triple-inv}
use Rattle.triples.proofs.Rising.{Rises, Same, never-self, rising-rises, rising-from, rising-to, rising-same}
use Rattle.triples.proofs.Images.{image-to, image-from}
use Rattle.triples.proofs.ReadBack.{record-length, bytes-tell, page_bytes, read-page}

-- ── the same triples, the same page ─────────────────────────────────────────────────────────

-- the records of members are the members' records
images : (xs ys : List Triple) → ((r : Triple) → r ∈ xs → r ∈ ys) → (z : List ℕ) → z ∈ map triple_bytes xs → z ∈ map triple_bytes ys
images xs ys f z m = let w = image-from triple_bytes z xs m in Memᴰ.cast w.2 (image-to triple_bytes w.0 ys (f w.0 w.1))

pub same-published : (s t : Store) (g h : ℕ) → Same (triples_of g s) (triples_of h t) → published g s ≡ published h t
unfolding published
same-published s t g h same =
    ap page_of (rising-same (map triple_bytes (triples_of g s)) (map triple_bytes (triples_of h t))
    (images (triples_of g s) (triples_of h t) same.0, images (triples_of h t) (triples_of g s) same.1))

-- ── no longer than a page that has all its records ──────────────────────────────────────────

-- a list without one of its records
without : (z : List ℕ) (zs : List (List ℕ)) → z ∈ zs
    → (ws : List (List ℕ)) × (length (page_of zs) ≡ length z + length (page_of ws)) × ((y : List ℕ) → y ∈ zs → (y ≡ z) ⊎ (y ∈ ws))
unfolding page_of
without z [] m = absurd (Memᴰ.not-nil m)
without z (x ∷ xs) m =
    ⊎_elim
    (λ e. (xs, length-append x (page_of xs) ∙ ap (λ (l : List ℕ). length l + length (page_of xs)) (sym e), λ y n. ⊎_elim (λ i. inl (i ∙ sym e)) (λ k. inr k) (Memᴰ.cases_cons n)))
    (λ n.
    let w = without z xs n in (
      x ∷ w.0,
      omega (arith, length-append x (page_of xs), w.1, length-append x (page_of w.0)),
      λ y k. ⊎_elim (λ i. inr (Memᴰ.head i)) (λ j. ⊎_elim (λ i. inl i) (λ i. inr (Memᴰ.tail i)) (w.2 y j)) (Memᴰ.cases_cons k),
    ))
    (Memᴰ.cases_cons m)

within : (l zs : List (List ℕ)) → Rises l → ((z : List ℕ) → z ∈ l → z ∈ zs) → length (page_of l) ≤ length (page_of zs)
unfolding page_of
within [] zs r h = omega arith
within (x ∷ l) zs r h =
    let w = without x zs (h x (Memᴰ.head refl)) in
    let k = within l w.0 r.1 (λ z m. ⊎_elim (λ e. never-self x z e (r.0 z m)) (λ n. n) (w.2 z (h z (Memᴰ.tail m)))) in
    omega (arith, length-append x (page_of l), w.1, k)

pub published-fits : (g : ℕ) (s : Store) (ts : List Triple) → ((r : Triple) → r ∈ triples_of g s → r ∈ ts) → length (published g s) ≤ length (page_bytes ts)
unfolding published
published-fits g s ts h =
    let xs = map triple_bytes (triples_of g s) in
    within (rising_once xs) (map triple_bytes ts) (rising-rises xs) (λ z m. images (triples_of g s) ts h z (rising-from xs z m))

-- ── how long a page is that was read ────────────────────────────────────────────────────────

body-kind : (d : Datatype) (b : List ℕ) (t : Term) → term_of_body d b ≡ some t → datatype t ≡ d
unfolding term_of_body
body-kind Datatype.any_uri b t e = ap datatype (sym (some_is (onward-inv (uri_text b) (λ u. some (Term.uri u)) e).2))
body-kind Datatype.string b t e = ap datatype (string-inv b t e).2
body-kind Datatype.integer b t e = ap datatype (number-inv is_integer Term.integer b t e).0
body-kind Datatype.decimal b t e = ap datatype (number-inv is_decimal Term.decimal b t e).0
body-kind Datatype.date_time b t e = ap datatype (number-inv is_date_time Term.date_time b t e).0

-- one record and those after it
next-length : (s : List ℕ) (at : ℕ) (r : Triple) (n : ℕ) (ts : List Triple) → read_triple s at ≡ some (r, n) → length s ≡ n + length (page_bytes ts)
    → length s ≡ at + length (page_bytes (r ∷ ts))
unfolding page_of
next-length s at r n ts e k =
    let x = triple-inv s at r n e in
    let d : body_width (datatype r.object) ≡ body_width x.datatype = ap body_width (body-kind x.datatype _ r.object x.object) in
    omega (arith, k, x.ends, d, record-length r (triple-valid s at r n e), length-append (triple_bytes r) (page_bytes ts))

front-inv : (r : Triple) (o : Option (List Triple)) (ts : List Triple) → in_front read_triple r o ≡ some ts → (rs : List Triple) × (o ≡ some rs) × (r ∷ rs ≡ ts)
unfolding in_front
front-inv r none ts e = absurd (some-not-none e refl)
front-inv r (some rs) ts e = (rs, refl, some_is e)

from-length : (left : ℕ) (s : List ℕ) (at : ℕ) (ts : List Triple) → at ≤ length s → records_from read_triple left s at ≡ some ts → length s ≡ at + length (page_bytes ts)
unfolding records_from
from-length zero s at ts h e = absurd (some-not-none e refl)
from-length (suc left) s at ts h e = go (leb (length s) at) refl (λ n rs k i. from-length left s n rs k i) e
  where
    go : (b : Bool) → leb (length s) at ≡ b
        → ((n : ℕ) (rs : List Triple) → n ≤ length s → records_from read_triple left s n ≡ some rs → length s ≡ n + length (page_bytes rs))
        → (elim b as (λ c. Option (List Triple)) [
          | true ↦ some []
          | false ↦ onward (read_triple s at) (λ r. in_front read_triple r.0 (records_from read_triple left s r.1))
        ]) ≡ some ts → length s ≡ at + length (page_bytes ts)
    go true l rest e =
        let i : [] ≡ ts = some_is e in
        let z : length s ≡ at + 0 = omega (arith, leb-true (length s) at l) in
        z ∙ ap (λ n. at + n) (none-long ∙ ap (λ ts. length (page_bytes ts)) i)
      where
        none-long : 0 ≡ length (page_bytes [])
        none-long = unfold page_of in refl
    go false l rest e =
        let w = onward-inv (read_triple s at) (λ r. in_front read_triple r.0 (records_from read_triple left s r.1)) e in
        let f = front-inv w.0.0 (records_from read_triple left s w.0.1) ts w.2 in
        let x = triple-inv s at w.0.0 w.0.1 w.1 in
        next-length s at w.0.0 w.0.1 f.0 w.1 (rest w.0.1 f.0 x.fits f.1) ∙ ap (λ ts. at + length (page_bytes ts)) f.2

pub page-length : (page : List ℕ) (ts : List Triple) → read_page page ≡ some ts → length page ≡ length (page_bytes ts)
unfolding read_page records
page-length page ts e = omega (arith, from-length (suc (length page)) page 0 ts (omega arith) e)

-- ── read again ──────────────────────────────────────────────────────────────────────────────

-- records that are those of triples
unmap : (xs : List Triple) (zs : List (List ℕ)) → ((z : List ℕ) → z ∈ zs → z ∈ map triple_bytes xs)
    → (ts : List Triple) × (map triple_bytes ts ≡ zs) × ((r : Triple) → r ∈ ts → r ∈ xs)
unmap xs [] h = ([], refl, λ r m. absurd (Memᴰ.not-nil m))
unmap xs (z ∷ zs) h =
    let w = image-from triple_bytes z xs (h z (Memᴰ.head refl)) in
    let u = unmap xs zs (λ y m. h y (Memᴰ.tail m)) in
    (w.0 ∷ u.0, (λ i. sym w.2 i ∷ u.1 i), λ r m. ⊎_elim (λ e. Memᴰ.cast e w.1) (λ n. u.2 r n) (Memᴰ.cases_cons m))

all_of : (P : Triple → Type 0) (ts : List Triple) → ((r : Triple) → r ∈ ts → P r) → All P ts
all_of P [] h = tt
all_of P (r ∷ ts) h = (h r (Memᴰ.head refl), all_of P ts (λ t m. h t (Memᴰ.tail m)))

-- a page of a graph's valid triples is read as these triples, in some order
pub published-reads : (g : ℕ) (s : Store) → ((r : Triple) → r ∈ triples_of g s → ValidTriple r)
    → (ts : List Triple) × (read_page (published g s) ≡ some ts) × Same ts (triples_of g s)
unfolding published
published-reads g s valid =
    let xs = triples_of g s in
    let zs = rising_once (map triple_bytes xs) in
    let u = unmap xs zs (rising-from (map triple_bytes xs)) in
    let ts = u.0 in
    let there : (r : Triple) → r ∈ xs → r ∈ ts = λ r m.
    let z : triple_bytes r ∈ zs = rising-to (map triple_bytes xs) (triple_bytes r) (image-to triple_bytes r xs m) in
    let w = image-from triple_bytes (triple_bytes r) ts (subst (λ l. triple_bytes r ∈ l) (sym u.1) z) in
    Memᴰ.cast (bytes-tell r w.0 (valid r m) (valid w.0 (u.2 w.0 w.1)) w.2) w.1 in
    (ts, ap (λ zs. read_page (page_of zs)) (sym u.1) ∙ read-page ts (all_of ValidTriple ts (λ r m. valid r (u.2 r m))), (u.2, there))
