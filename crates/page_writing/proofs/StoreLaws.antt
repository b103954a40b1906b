-- A store's quads and the term table: the records that the slots say are those of the triples, so that the page of a graph's keys is the graph's page.
use Prim.Native.Nat.{ℕ, zero, suc, ◌+◌, ◌-◌, ◌*◌, ◌/◌, ◌≤◌, ◌<◌}
use native.Mathlib.Omega.{arith}
use native.Mathlib.Numerals.{add-one}
use mathlib.Core.Path.{◌≡◌, refl, sym, ap, ◌∙◌, subst}
use mathlib.Core.List.{List, [], ◌∷◌, ◌++◌, map, append_assoc, append-nil}
use mathlib.Core.Bool.{Bool, true, ◌&&◌}
use mathlib.Core.Option.{some}
use borrow.Author.Tests.{le-leb, eq-eqb, ne_eqb}
use lib.ListN.{length, get_elem?, get_or, take, drop, replicate, take-append-drop}
use lib.Seq.{take_at, drop-drop, drop-cons}
use Rattle.definitions.specs.Limits.{slot_width, term_table_width}
use Rattle.definitions.specs.Lists.{every, keep}
use Rattle.definitions.specs.Bytes.{byte, part, filled}
use Rattle.definitions.specs.Types.{Datatype}
use Rattle.definitions.specs.Terms.{Term, Schema, Triple, datatype, term_kind, of_term_kind, body_width, body_of, record_of, slot_of}
use Rattle.definitions.specs.Evaluate.{Quad}
use Rattle.definitions.specs.Machine.{Store, of_graph}
use Rattle.definitions.specs.Publish.{triple_bytes, page_of, published}
use Rattle.definitions.specs.Saved.{terms_in}
use Rattle.laws.specs.Lists.{◌∈◌}
use Rattle.laws.specs.Quads.{Names}
use Rattle.laws.proofs.Tests.{is_true, true_is}
use Rattle.laws.proofs.Bindings.{is_below}
use Rattle.laws.proofs.Lists.{every_of}
use Rattle.laws.proofs.Bytes.{AreBytes, part_length, part_bytes, byte-from}
use Rattle.laws.proofs.Slots.{kind-of, body-length, slot-inv}
use Rattle.laws.proofs.SlotAt.{terms-few, slot_at}
use Rattle.keys.specs.Keys.{graph_weight, quad_of, rows_from, Splits}
use Rattle.keys.proofs.Rise.{ordered}
use Rattle.fields.specs.Answers.{width_of}
use Rattle.triples.specs.Sorting.{sort}
use Rattle.triples.specs.Bytewise.{byte_le}
use Rattle.triples.proofs.Merging.{map-sort}
use Rattle.triples.proofs.Graphs.{SoundStore, map_same, said, own-named, published-sorted}
use Rattle.record_order.specs.Records.{kind_of, body_of_slot, from_property, from_subject, record_in, key_record, key_le, slot_in, quad_in, key_in, keys_in}
use Rattle.page_writing.specs.Page.{keys_page, sorted_page}

-- ── a term's slot ───────────────────────────────────────────────────────────────────────────

-- the kind and the body in a term's slot, whatever follows it
slot-kind : (t : Term) (rest : List ℕ) → byte (slot_of t ++ rest) 0 ≡ term_kind (datatype t)
unfolding slot_of filled
slot-kind t rest = refl

slot-body : (t : Term) (rest : List ℕ) → length (body_of t) ≡ body_width (datatype t) → take (body_width (datatype t)) (drop 1 (slot_of t ++ rest)) ≡ body_of t
unfolding slot_of filled
slot-body t rest l =
    let zeros = replicate {A = ℕ} (slot_width - length (record_of t)) 0 in
    ap (take (body_width (datatype t))) (append_assoc (body_of t) zeros rest) ∙ take_at (body_of t) (zeros ++ rest) (body_width (datatype t)) l

-- what a slot with a term's bytes says
record SlotFacts (table : List ℕ) (i : ℕ) (t : Term) : Type 0 where
  within : slot_in table i ≡ true
  kind : kind_of table i ≡ term_kind (datatype t)
  body : body_of_slot table i (body_width (datatype t)) ≡ body_of t

module _ (table : List ℕ) (bytes : AreBytes table) (size : length table ≡ term_table_width) (terms : List Term) (e : terms_in table ≡ some terms) where
  slot-facts : (i : ℕ) (t : Term) → get_elem? terms i ≡ some t → SlotFacts table i t
  slot-facts i t h =
      let few : i * slot_width + slot_width ≤ length table = omega (arith, is_below terms i t h, terms-few table terms e, size) in
      let at = i * slot_width in
      let s = slot-inv (part table at slot_width) t (part_length table at slot_width few) (part_bytes table at slot_width bytes) (slot_at table terms e i t h) in
      let rest = drop slot_width (drop at table) in
      let whole : drop at table ≡ slot_of t ++ rest = sym (take-append-drop slot_width (drop at table)) ∙ ap (λ l. l ++ rest) (sym s.0) in
      let z : at + 0 ≡ at = omega arith in
      record {
        within = le-leb (at + slot_width) (length table) few;
        kind = ap (byte table) (sym z) ∙ (byte-from table at 0 ∙ (ap (λ l. byte l 0) whole ∙ slot-kind t rest));
        body = ap (take (body_width (datatype t))) (sym (drop-drop 1 at table) ∙ ap (drop 1) whole) ∙ slot-body t rest (body-length t s.1);
      }

  -- ── a quad's record ───────────────────────────────────────────────────────────────────────

  module _ (q : Quad) (r : Triple) (n : Names terms q r) where
    abbrev d : Datatype
    d = datatype r.object

    subject : SlotFacts table q.subject (Term.uri r.subject)
    subject = slot-facts q.subject (Term.uri r.subject) n.subject

    property : SlotFacts table q.property (Term.uri r.property)
    property = slot-facts q.property (Term.uri r.property) n.property

    object : SlotFacts table q.object r.object
    object = slot-facts q.object r.object n.object

    kind-is : of_term_kind (kind_of table q.object) ≡ some d
    kind-is = ap of_term_kind object.kind ∙ kind-of d

    record_is : record_in table q ≡ triple_bytes r
    unfolding record_in from_subject from_property triple_bytes width_of body_of
    record_is =
        let w : width_of (of_term_kind (kind_of table q.object)) ≡ body_width d = ap width_of kind-is in
        let o = ap (body_of_slot table q.object) w ∙ object.body in
        λ i. (object.kind i + 0x70) ∷ (subject.body i ++ (property.body i ++ o i))

    quad-in : quad_in table q ≡ true
    unfolding quad_in
    quad-in = rw (subject.within, property.within, object.within, kind-is) refl

  -- ── the page of a graph ───────────────────────────────────────────────────────────────────

  module _ (S : Schema) (s : Store) (h : SoundStore S s) (same : terms ≡ s.terms) (g : ℕ) (ks : List ℕ) (own : map quad_of ks ≡ keep (of_graph g) s.quads) where
    named : (q : Quad) → q ∈ keep (of_graph g) s.quads → Names terms q (said s.terms q)
    named q m = subst (λ l. Names l q (said s.terms q)) (sym same) (own-named S s h g q m)

    map_keys : (f : Quad → List ℕ) (xs : List ℕ) → map (λ k. f (quad_of k)) xs ≡ map f (map quad_of xs)
    map_keys f [] = refl
    map_keys f (x ∷ xs) = ap (λ l. f (quad_of x) ∷ l) (map_keys f xs)

    every-keys : (p : Quad → Bool) (xs : List ℕ) → every (λ k. p (quad_of k)) xs ≡ every p (map quad_of xs)
    every-keys p [] = refl
    every-keys p (x ∷ xs) = ap (λ b. p (quad_of x) && b) (every-keys p xs)

    pub keys_in_lem : keys_in table ks ≡ true
    unfolding keys_in key_in
    keys_in_lem =
        every-keys (quad_in table) ks
        ∙ (ap (every (quad_in table)) own
        ∙ is_true (every (quad_in table) (keep (of_graph g) s.quads))
        (every_of (quad_in table) (keep (of_graph g) s.quads) (λ q m. true_is (quad_in table q) (quad-in q (said s.terms q) (named q m)))))

    pub page-is : sorted_page table ks ≡ published g s
    unfolding keys_page key_le key_record
    page-is =
        let records = map (λ q. triple_bytes (said s.terms q)) (keep (of_graph g) s.quads) in
        let all : map (λ k. record_in table (quad_of k)) ks ≡ records =
        map_keys (record_in table) ks
        ∙ (ap (map (record_in table)) own
        ∙ map_same (record_in table) (λ q. triple_bytes (said s.terms q)) (keep (of_graph g) s.quads) (λ q m. record_is q (said s.terms q) (named q m))) in
        ap page_of (map-sort byte_le (λ k. record_in table (quad_of k)) ks ∙ ap (sort byte_le) all) ∙ sym (published-sorted S s h g)

-- ── the stretch of a graph ──────────────────────────────────────────────────────────────────

module _ (g : ℕ) (f : List ℕ) where
  abbrev own_keys : List Quad → List Quad
  own_keys qs = keep (of_graph g) qs

  passed_over : (a r i : ℕ) → ((j : ℕ) → i ≤ j → j < i + a → get_or f j 0 / graph_weight ≡ g → ⊥)
      → own_keys (rows_from (a + r) f i) ≡ own_keys (rows_from r f (i + a))
  unfolding rows_from quad_of
  passed_over zero r i h =
      let e : i + 0 ≡ i = omega arith in
      let z : 0 + r ≡ r = omega arith in
      rw (e, z) refl
  passed_over (suc a) r i h =
      let e : i + suc a ≡ i + 1 + a = omega arith in
      let z : suc a + r ≡ suc (a + r) = omega arith in
      rw (e, z, ne_eqb (get_or f i 0 / graph_weight) g (h i (omega arith) (omega arith))) (passed_over a r (i + 1) (λ j k l. h j (omega arith) (omega arith)))

  gathered : (a r i : ℕ) → ((j : ℕ) → i ≤ j → j < i + a → get_or f j 0 / graph_weight ≡ g)
      → own_keys (rows_from (a + r) f i) ≡ rows_from a f i ++ own_keys (rows_from r f (i + a))
  unfolding rows_from quad_of
  gathered zero r i h =
      let e : i + 0 ≡ i = omega arith in
      let z : 0 + r ≡ r = omega arith in
      rw (e, z) refl
  gathered (suc a) r i h =
      let e : i + suc a ≡ i + 1 + a = omega arith in
      let z : suc a + r ≡ suc (a + r) = omega arith in
      rw (e, z, eq-eqb (get_or f i 0 / graph_weight) g (h i (omega arith) (omega arith)))
      (ap (λ qs. quad_of (get_or f i 0) ∷ qs) (gathered a r (i + 1) (λ j k l. h j (omega arith) (omega arith))))

  none-own : own_keys [] ≡ []
  none-own = refl

  pub stretch : (n from to : ℕ) → Splits f n (g * graph_weight) from → Splits f n (g * graph_weight + (graph_weight - 1) + 1) to
      → (from ≤ to) × (to ≤ n) × (own_keys (rows_from n f 0) ≡ rows_from (to - from) f from)
  stretch n from to a b =
      let o : from ≤ to = ordered f n (g * graph_weight) (g * graph_weight + (graph_weight - 1)) from to a b (omega arith) in
      let w = b.within in
      let e₁ : n ≡ from + (n - from) = omega arith in
      let e₂ : n - from ≡ to - from + (n - to) = omega arith in
      let e₃ : n - to ≡ n - to + 0 = omega arith in
      let z₁ : 0 + from ≡ from = omega arith in
      let z₂ : from + (to - from) ≡ to = omega arith in
      let first = ap (λ m. own_keys (rows_from m f 0)) e₁ ∙ passed_over from (n - from) 0 (λ j k l t. omega (arith, a.below j (omega arith))) in
      let middle = (λ i. own_keys (rows_from (e₂ i) f (z₁ i)))
      ∙ gathered (to - from) (n - to) from (λ j k l. omega (arith, a.above j (omega arith) (omega arith), b.below j (omega arith))) in
      let last = (λ i. rows_from (to - from) f from ++ own_keys (rows_from (e₃ i) f (z₂ i)))
      ∙ ap (λ l. rows_from (to - from) f from ++ l) (passed_over (n - to) 0 to (λ j k l t. omega (arith, b.above j (omega arith) (omega arith)))) in
      (o, w, first ∙ (middle ∙ (last ∙ (unfold rows_from in append-nil (rows_from (to - from) f from)))))

  -- so many rows from a place are those of the keys there
  pub rows-part : (m i : ℕ) → i + m ≤ length f → rows_from m f i ≡ map quad_of (part f i m)
  unfolding rows_from
  rows-part zero i h = refl
  rows-part (suc m) i h =
      let e : part f i (suc m) ≡ get_or f i 0 ∷ part f (i + 1) m = ap (take (suc m)) (drop-cons f i 0 (omega arith)) ∙ ap (λ n. get_or f i 0 ∷ take m (drop n f)) (sym (add-one i)) in
      ap (λ l. quad_of (get_or f i 0) ∷ l) (rows-part m (i + 1) (omega arith)) ∙ sym (ap (map quad_of) e)
