-- Laws of terms that join a term table.
use Rattle.std.specs.Prelude.{Some, None}
use Rattle.std.specs.declared.option.Option as Answer
use Rattle.std.specs.declared.option.Option as Answer
use Prim.Native.Nat.{ℕ, suc, ◌+◌, ◌-◌, ◌*◌, ◌<◌, ◌≤◌}
use mathlib.Core.Bool.{Bool, true, false, cond}
use mathlib.Core.List.{List, [], ◌∷◌, ◌++◌, append-nil, append_assoc}
use mathlib.Core.Option.{Option, none, some}
use mathlib.Core.Logic.{◌⊎◌, inl, inr, ⊎_elim}
use mathlib.Core.Path.{◌≡◌, refl, sym, ap, ap₂, ◌∙◌, subst}
use native.Mathlib.Omega.{arith}
use lib.Dec.{leb}
use lib.ListN.{length, take, drop, replicate, length-append, length-replicate, length-take}
use lib.Seq.{take_all, take_at, drop_at, take-append-le}
use borrow.Author.Tests.{le-leb, lt-leb, leb-true}
use Rattle.definitions.specs.Limits.{text_width, slot_width, entry_width, term_limit, term_table_width}
use Rattle.definitions.specs.Lists.{distinct}
use Rattle.definitions.specs.Bytes.{byte, part, filled, in_front}
use Rattle.definitions.specs.Terms.{Text, Term, Schema, uri_text, body_of, slot_of, read_term, read_entry, read_terms, read_schema, same_term}
use Rattle.definitions.specs.Machine.{Numbered, numbered, with_properties}
use Rattle.definitions.specs.Saved.{slots, term_table, slot_term, terms_in}
use Rattle.laws.specs.Lists.{All}
use Rattle.laws.proofs.All.{all_append}
use Rattle.laws.proofs.Bytes.{AreBytes}
use Rattle.laws.proofs.Numbering.{all-numbered}
use Rattle.laws.proofs.TermNumbers.{by_number}
use Rattle.laws.specs.Records.{records_at}
use Rattle.laws.proofs.RecordsAt.{at-end, at-bad, at_one, entry-inv, term-forward, entry-forward, terms-at, schema-at}
use Rattle.laws.specs.Valid.{Valid}
use Rattle.laws.proofs.Valid.{uri-inv, uri-valid, term-valid, terms-valid}
use Rattle.laws.proofs.Slots.{slot-length, slot-of, slot-inv}
use Rattle.laws.proofs.Tables.{slots_length, term-table-length, terms-of, terms-in-valid, terms-in-table}
use Rattle.laws.specs.ReadAnswers.{is_some, next_of}
use Rattle.fields.specs.Answers.{count_of, distinct_in}
use Rattle.table.specs.Hashes.{hash_of, slot_at, Hashed}
use Rattle.definitions.specs.declared.Refusal.TheVariants.{BadTerm, TermTwice}
use Rattle.std.specs.Prelude.{Ok, Err}
use Rattle.definitions.specs.Result.{OrRefusal}
use Rattle.records.specs.Listing.{listed_of, Written, Lists}
use Rattle.table.proofs.CountLaws.{count_none, count-some}
use Rattle.table.proofs.HashLaws.{none-hashed}
use Rattle.table.specs.Table.{HoldsTerms, HeldTerms, GoodSlot, number_in, slot_set, with_term, list_of, added_of, table_of}
use Rattle.records.proofs.ListLaws.{good-one, good-rest, here, rest, all_of}
use Rattle.laws.proofs.ReadAnswers.{is-some, next-got, next-lost}
use Rattle.fields.proofs.PartLaws.{some-part, drop-replicate}
use Rattle.fields.proofs.SameLaws.{record-parts, record-short, entry-ends}
use Rattle.table.proofs.TableLaws.{terms, terms-length, holds-few}

-- ── a table of terms ────────────────────────────────────────────────────────────────────────

pub held_of : (table : List ℕ) (n : ℕ) → AreBytes table → (h : HoldsTerms table n) → HeldTerms table n (terms table n h).0
held_of table n a h =
    let ts = terms table n h in
    record {
      is = terms-in-table table a h.width ts.0 ts.1;
      valid = terms-in-valid table a h.width ts.0 ts.1;
      count = terms-length table n h;
      few = holds-few table n h;
    }

module _ (table : List ℕ) (n : ℕ) (ts : List Term) (h : HeldTerms table n ts) where
  pub held-terms : terms_in table ≡ some ts
  held-terms = ap terms_in h.is ∙ terms-of ts h.valid (omega (arith, h.count, h.few))

  pub held-width : length table ≡ term_table_width
  held-width = ap length h.is ∙ term-table-length ts h.valid (omega (arith, h.count, h.few))

  pub held-holds : HoldsTerms table n
  unfolding count_of
  held-holds = record { width = held-width; count = ap count_of held-terms ∙ ap Some h.count }

  -- all of them are there
  all_there : table ≡ table_of ts
  unfolding table_of
  all_there = h.is ∙ ap term_table (sym (take_all term_limit ts (omega (arith, h.count, h.few))))

  added-all : (Some n ≡ added_of ts) × (table ≡ table_of ts)
  unfolding added_of
  added-all = (rw (le-leb (length ts) term_limit (omega (arith, h.count, h.few))) (ap Some (sym h.count)), all_there)

  -- there is no room for more
  no_more : term_limit ≤ n → (more : List Term) → table ≡ table_of (ts ++ more)
  unfolding table_of
  no_more k more = h.is ∙ ap term_table (sym (take_at ts more term_limit (omega (arith, h.count, h.few))))

slots_end : (ts : List Term) (t : Term) → slots (ts ++ (t ∷ [])) ≡ slots ts ++ slot_of t
unfolding slots
slots_end [] t = append-nil (slot_of t)
slots_end (x ∷ ts) t = ap (λ s. slot_of x ++ s) (slots_end ts t) ∙ sym (append_assoc (slot_of x) (slots ts) (slot_of t))

-- one more
put_one : (table : List ℕ) (n : ℕ) (ts : List Term) → HeldTerms table n ts → n < term_limit → (t : Term) → Valid t → (slot : List ℕ) → slot ≡ slot_of t
    → HeldTerms (slot_set table n slot) (n + 1) (ts ++ (t ∷ []))
unfolding slot_set term_table filled
put_one table n ts h l t v slot e =
    let long : length (slots ts) ≡ n * slot_width = slots_length ts h.valid ∙ ap (λ (k : ℕ). k * slot_width) h.count in
    let zeroes : List ℕ = replicate (term_table_width - length (slots ts)) 0 in
    let more : List ℕ = replicate (term_table_width - length (slots (ts ++ (t ∷ [])))) 0 in
    let front : take (n * slot_width) table ≡ slots ts = ap (take (n * slot_width)) h.is ∙ take_at (slots ts) zeroes (n * slot_width) long in
    let rest : drop (n * slot_width) table ≡ zeroes = ap (drop (n * slot_width)) h.is ∙ drop_at (slots ts) zeroes (n * slot_width) long in
    let longer : length (slots (ts ++ (t ∷ []))) ≡ n * slot_width + slot_width =
    ap length (slots_end ts t) ∙ length-append (slots ts) (slot_of t) ∙ ap₂ ◌+◌ long (slot-length t v) in
    let k : term_table_width - length (slots ts) - slot_width ≡ term_table_width - length (slots (ts ++ (t ∷ []))) = omega (arith, long, longer) in
    let after : drop slot_width (drop (n * slot_width) table) ≡ more = ap (drop slot_width) rest ∙ drop-replicate slot_width (term_table_width - length (slots ts)) ∙ ap (λ (k : ℕ). replicate k 0) k in
    record {
      valid = all_append Valid ts (t ∷ []) h.valid (v, tt);
      is = ap₂ ◌++◌ front (ap₂ ◌++◌ e after) ∙ sym (append_assoc (slots ts) (slot_of t) more) ∙ ap (λ s. s ++ more) (sym (slots_end ts t));
      count = length-append ts (t ∷ []) ∙ ap (λ (k : ℕ). k + 1) h.count;
      few = omega arith;
    }

-- the hashes of so many as there then are
pub count-hashed : (table hashes : List ℕ) (n : ℕ) → Hashed table n hashes → (k : ℕ) → Some n ≡ Some k → Hashed table k hashes
count-hashed table hashes n w k e i l = let q : n ≡ k = cc in w i (omega arith)

pub full-hashed : (table hashes : List ℕ) (k : ℕ) → None ≡ Some k → Hashed table k hashes
full-hashed table hashes k e = absurd (let z : ◌≡◌ {A = ℕ} 0 1 = cc in omega arith)

-- ── a term joins ────────────────────────────────────────────────────────────────────────────

-- it is there, or it joins at the end
abbrev There : Term → List Term → Numbered → Type 0
There t ts r = ((r.number < length ts) × (r.terms ≡ ts)) ⊎ ((r.number ≡ length ts) × (r.terms ≡ ts ++ (t ∷ [])))

number-cases : (t : Term) (ts : List Term) → There t ts (numbered t ts)
unfolding numbered
number-cases t [] = inr (refl, refl)
number-cases t (x ∷ ts) =
    by_number (There t (x ∷ ts)) t x ts (λ e. inl (omega arith, refl))
    (λ e. ⊎_elim (λ h. inl (omega (arith, h.0), ap (λ (l : List Term). x ∷ l) h.1)) (λ h. inr (ap suc h.0, ap (λ (l : List Term). x ∷ l) h.1))
    (number-cases t ts))

module _ (table slot : List ℕ) (n : ℕ) (a : AreBytes table) (b : AreBytes slot) (h : HoldsTerms table n) (g : GoodSlot slot) where
  ts : List Term
  ts = (terms table n h).0

  t : Term
  t = (is-some (slot_term slot) g.good).0

  held : HeldTerms table n ts
  unfolding ts
  held = held_of table n a h

  joined : with_term (slot_term slot) (terms_in table) ≡ (numbered t ts).terms
  unfolding with_term ts t
  joined = ap₂ with_term (is-some (slot_term slot) g.good).1 (terms table n h).1

  module _ {f : ℕ} (e : f ≡ number_in (slot_term slot) (terms_in table)) where
    number : f ≡ (numbered t ts).number
    unfolding number_in ts t
    number = e ∙ ap₂ number_in (is-some (slot_term slot) g.good).1 (terms table n h).1

    pub number-low : f ≤ term_limit
    number-low =
        ⊎_elim (λ x. omega (arith, x.0, number, held.count, held.few)) (λ x. omega (arith, x.0, number, held.count, held.few)) (number-cases t ts)

    pub number-last : n ≤ f → n ≡ f
    number-last l =
        ⊎_elim (λ x. absurd (omega (arith, x.0, number, held.count))) (λ x. omega (arith, x.0, number, held.count)) (number-cases t ts)

    pub join-there : f < n → (n ≡ length (with_term (slot_term slot) (terms_in table))) × (table ≡ table_of (with_term (slot_term slot) (terms_in table)))
    join-there l =
        ⊎_elim (λ x. let same = joined ∙ x.1 in rw same (sym held.count, all_there table n ts held))
        (λ x. absurd (omega (arith, x.0, number, held.count))) (number-cases t ts)

    module _ (l : n ≤ f) where
      new : with_term (slot_term slot) (terms_in table) ≡ ts ++ (t ∷ [])
      new = ⊎_elim (λ x. absurd (omega (arith, x.0, number, held.count))) (λ x. joined ∙ x.1) (number-cases t ts)

      one_more : n + 1 ≡ length (with_term (slot_term slot) (terms_in table))
      one_more = omega (arith, ap length new, length-append ts (t ∷ []), held.count)

      pub join-full : term_limit ≤ n → (n + 1 ≡ length (with_term (slot_term slot) (terms_in table))) × (table ≡ table_of (with_term (slot_term slot) (terms_in table)))
      join-full k = (one_more, no_more table n ts held k (t ∷ []) ∙ ap table_of (sym new))

      pub join-new : n < term_limit → {after : List ℕ} → after ≡ slot_set table n slot
          → (n + 1 ≡ length (with_term (slot_term slot) (terms_in table))) × (after ≡ table_of (with_term (slot_term slot) (terms_in table)))
      unfolding t
      join-new k q =
          let s = slot-inv slot t g.width b (is-some (slot_term slot) g.good).1 in
          let one : HeldTerms (slot_set table n slot) (n + 1) (ts ++ (t ∷ [])) = put_one table n ts held k t s.1 slot (sym s.0) in
          (one_more, q ∙ all_there (slot_set table n slot) (n + 1) (ts ++ (t ∷ [])) one ∙ ap table_of (sym new))

-- ── more terms ──────────────────────────────────────────────────────────────────────────────

count-inv : (ts : List Term) (m : ℕ) → Some m ≡ added_of ts → (m ≡ length ts) × (length ts ≤ term_limit)
unfolding added_of
count-inv ts m e = go (leb (length ts) term_limit) refl e
  where
    go : (b : Bool) → leb (length ts) term_limit ≡ b → Some m ≡ cond b (Some (length ts)) None → (m ≡ length ts) × (length ts ≤ term_limit)
    go true q e = (cc, leb-true (length ts) term_limit q)
    go false q e = absurd (let z : ◌≡◌ {A = ℕ} 0 1 = cc in omega arith)

-- a table that has no room has none for more
full-more : (ts more : List Term) → term_limit < length ts → (None ≡ added_of (ts ++ more)) × (table_of ts ≡ table_of (ts ++ more))
unfolding added_of table_of
full-more ts more l =
    (rw (lt-leb (length (ts ++ more)) term_limit (omega (arith, length-append ts more))), ap term_table (sym (take-append-le term_limit ts more (omega arith))))

-- what was added to a table of valid terms
module _ (ts : List Term) (v : All Valid ts) (m : ℕ) {table : List ℕ} where
  pub held-joined : m ≡ length ts → m ≤ term_limit → table ≡ table_of ts → HeldTerms table m ts
  unfolding table_of
  held-joined e l f = record { is = f ∙ ap term_table (take_all term_limit ts (omega (arith, e))); valid = v; count = sym e; few = l }

  pub held-added : Some m ≡ added_of ts → table ≡ table_of ts → HeldTerms table m ts
  held-added e f = let c = count-inv ts m e in held-joined c.0 (omega (arith, c.0, c.1)) f

-- schema URIs join at the end
numbered-append : (t : Term) (ts : List Term) → (more : List Term) × ((numbered t ts).terms ≡ ts ++ more)
numbered-append t ts = ⊎_elim (λ h. ([], h.1 ∙ sym (append-nil ts))) (λ h. (t ∷ [], h.1)) (number-cases t ts)

pub properties-append : (S : Schema) (ts : List Term) → (more : List Term) × (with_properties S ts ≡ ts ++ more)
unfolding with_properties
properties-append [] ts = ([], sym (append-nil ts))
properties-append (e ∷ S) ts =
    let n = numbered-append (Term.uri e.property) ts in
    let r = properties-append S (numbered (Term.uri e.property) ts).terms in
    (n.0 ++ r.0, r.1 ∙ ap (λ ts. ts ++ r.0) n.1 ∙ append_assoc ts n.0 r.0)

-- ── a term written into its slot ────────────────────────────────────────────────────────────

module _ (s : List ℕ) (at end : ℕ) (e : Some end ≡ next_of (read_term s at)) where
  this : (t : Term) × (read_term s at ≡ some (t, end))
  this = next-got (read_term s at) (sym e)

  pub term-after : (at < end) × (end ≤ length s)
  term-after = term-forward s at this.0 end this.1

  pub term-short : AreBytes s → length (part s (at + 1) (end - (at + 1))) < slot_width
  term-short a = record-short s a at this.0 end this.1

pub term-written : (s : List ℕ) → AreBytes s → (at end : ℕ) {table slot after hashes : List ℕ} {n : ℕ}
    → slot ≡ filled slot_width (byte s at ∷ part s (at + 1) (end - (at + 1))) → (after ≡ slot_set table n slot) × Hashed after (n + 1) hashes
    → (t : Term) → read_term s at ≡ some (t, end) → n < term_limit → Written table n t after hashes
unfolding slot_of
term-written s a at end {table} {n = n} q f t r l =
    record { slot = f.0 ∙ ap (slot_set table n) (q ∙ ap (filled slot_width) (record-parts s a at t end r)); hashed = f.1 }

-- ── listed terms ────────────────────────────────────────────────────────────────────────────

-- those read so far, before the rest
abbrev pub before : List Term → Option (List Term) → Option (List Term)
before ds none = none
before ds (some ts) = some (ds ++ ts)

before-none : (o : Option (List Term)) → o ≡ before [] o
before-none none = refl
before-none (some ts) = refl

before-one : (ds : List Term) (t : Term) (o : Option (List Term)) → before ds (in_front read_term t o) ≡ before (ds ++ (t ∷ [])) o
unfolding in_front
before-one ds t none = refl
before-one ds t (some ts) = ap some (sym (append_assoc ds (t ∷ []) ts))

-- so many terms are read, and written as long as there was room; those from an offset on are not read
pub record Writing (s table hashes : List ℕ) (at n : ℕ) : Type 0 where
  pub done : List Term
  pub whole : read_terms s ≡ before done (records_at read_term s at)
  pub count : length done ≡ n
  pub past : (n ≤ at) × (at ≤ length s)
  pub width : length table ≡ term_table_width
  pub room : length hashes ≡ term_limit
  pub held : n ≤ term_limit → HeldTerms table n done × Hashed table n hashes

pub writing_start : (s table hashes : List ℕ) → table ≡ replicate term_table_width 0 → length hashes ≡ term_limit → Writing s table hashes 0 0
unfolding term_table filled slots
writing_start s table hashes e r =
    record {
      done = [];
      whole = terms-at s ∙ before-none _;
      count = refl;
      past = (omega arith, omega arith);
      width = ap length e ∙ length-replicate {A = ℕ} term_table_width 0;
      room = r;
      held = λ l. (record { is = e; valid = tt; count = refl; few = omega arith }, none-hashed (λ i. hash_of (slot_at table i)) hashes);
    }

module _ (s table hashes : List ℕ) (at n : ℕ) (i : Writing s table hashes at n) where
  pub still-hashed : n < term_limit → Hashed table n hashes
  still-hashed l = (i.held (omega arith)).1

  pub writing-bad : at < length s → {r : Answer.Option ℕ} → r ≡ next_of (read_term s at) → r ≡ None → None ≡ count_of (read_terms s)
  unfolding count_of
  writing-bad l e m = rw (i.whole, at-bad read_term term-forward s at l (next-lost (read_term s at) (sym e ∙ m)))

  pub writing-next : at < length s → {r : Answer.Option ℕ} → r ≡ next_of (read_term s at) → {k : ℕ} → r ≡ Some k → {after hashes' : List ℕ} → length after ≡ length table → length hashes' ≡ length hashes
      → ((t : Term) → read_term s at ≡ some (t, k) → n < term_limit → Written table n t after hashes') → Writing s after hashes' k (n + 1)
  writing-next l e {k} m {after} {hashes'} a b w =
      let x = next-got (read_term s at) (sym e ∙ m) in
      let f = term-forward s at x.0 k x.1 in
      record {
        done = i.done ++ (x.0 ∷ []);
        whole = i.whole ∙ ap (before i.done) (at_one read_term term-forward s at l x.1) ∙ before-one i.done x.0 _;
        count = length-append i.done (x.0 ∷ []) ∙ ap (λ (k : ℕ). k + 1) i.count;
        past = (omega (arith, i.past.0), f.1);
        width = a ∙ i.width;
        room = b ∙ i.room;
        held = λ few.
            let p = w x.0 x.1 (omega arith) in
            (rw p.slot (put_one table n i.done (i.held (omega arith)).0 (omega arith) x.0 (term-valid s at x.0 k x.1) (slot_of x.0) refl), p.hashed);
      }

  module _ (l : length s ≤ at) where
    all_read : read_terms s ≡ some i.done
    all_read = i.whole ∙ rw (at-end read_term term-forward s at l) (ap some (append-nil i.done))

    pub writing-count : Some n ≡ count_of (read_terms s)
    unfolding count_of
    writing-count = rw all_read (ap Some (sym i.count))

    pub writing-end : (m : ℕ) → Some n ≡ Some m → m ≤ term_limit → Lists s table hashes m
    unfolding list_of
    writing-end m e few =
        let q : n ≡ m = cc in
        let h = i.held (omega arith) in
        record { tabled = h.0.is ∙ rw all_read; counted = ap (λ (o : Option (List Term)). length (list_of o)) all_read ∙ i.count ∙ q; hashed = λ j k. h.1 j (omega arith) }

pub ok-is : {m n : ℕ} → ◌≡◌ {A = OrRefusal ℕ} (Ok m) (Ok n) → m ≡ n
ok-is e = cc

-- what is said of them
module _ (o : Option (List Term)) where
  pub listed-bad : {r : Answer.Option ℕ} → r ≡ count_of o → r ≡ None → Err BadTerm ≡ listed_of o
  listed-bad e m = rw (count_none o (sym e ∙ m)) (unfold listed_of in refl)

  module _ {n : ℕ} (e : Some n ≡ count_of o) where
    some-listed : (ts : List Term) × (o ≡ some ts) × (length ts ≡ n)
    some-listed = count-some o (sym e)

    pub listed-good : is_some o ≡ true
    listed-good = rw some-listed.1

    module _ {d : Bool} (f : d ≡ distinct_in same_term o) where
      apart : (b : Bool) → d ≡ b → distinct same_term some-listed.0 ≡ b
      unfolding distinct_in
      apart b q = sym (ap (distinct_in same_term) some-listed.1) ∙ sym f ∙ q

      pub listed-twice : d ≡ false → Err TermTwice ≡ listed_of o
      unfolding listed_of
      listed-twice q = rw (some-listed.1, apart false q)

      pub listed-count : d ≡ true → Ok n ≡ listed_of o
      unfolding listed_of
      listed-count q = rw (some-listed.1, apart true q) (ap Ok (sym some-listed.2))

-- the table that they are left in
module _ {s table hashes : List ℕ} {n : ℕ} (g : is_some (read_terms s) ≡ true) (few : n ≤ term_limit) (l : Lists s table hashes n) where
  listed : HeldTerms table n (list_of (read_terms s))
  unfolding list_of
  listed =
      let ts = is-some (read_terms s) g in
      record {
        is = l.tabled;
        valid = subst (λ (o : Option (List Term)). All Valid (list_of o)) (sym ts.1) (terms-valid s ts.0 ts.1);
        count = l.counted;
        few = few;
      }

  pub listed-holds : HoldsTerms table n
  listed-holds = held-holds table n (list_of (read_terms s)) listed

  pub listed_same : terms_in table ≡ read_terms s
  unfolding list_of
  listed_same = let ts = is-some (read_terms s) g in held-terms table n (list_of (read_terms s)) listed ∙ rw ts.1

-- ── schema URIs ─────────────────────────────────────────────────────────────────────────────

-- so many terms are written, and the properties from an offset on have not joined
pub record Adding (s : List ℕ) (before : List Term) (table : List ℕ) (at n : ℕ) : Type 0 where
  pub current : List Term
  pub held : HeldTerms table n current
  pub good : is_some (records_at read_entry s at) ≡ true
  pub whole : with_properties (list_of (read_schema s)) before ≡ with_properties (list_of (records_at read_entry s at)) current

pub adding-start : (s table : List ℕ) (n : ℕ) → AreBytes table → is_some (read_schema s) ≡ true → HoldsTerms table n → Adding s (list_of (terms_in table)) table 0 n
unfolding list_of
adding-start s table n a g h =
    record {
      current = (terms table n h).0;
      held = held_of table n a h;
      good = ap is_some (sym (schema-at s)) ∙ g;
      whole = ap₂ with_properties (ap list_of (schema-at s)) (ap list_of (terms table n h).1);
    }

module _ (s : List ℕ) (before : List Term) (table : List ℕ) (at n : ℕ) (i : Adding s before table at n) where
  pub adding-end : length s ≤ at → (Some n ≡ added_of (with_properties (list_of (read_schema s)) before)) × (table ≡ table_of (with_properties (list_of (read_schema s)) before))
  unfolding list_of with_properties
  adding-end l =
      let same : with_properties (list_of (read_schema s)) before ≡ i.current = i.whole ∙ ap (λ o. with_properties (list_of o) i.current) (at-end read_entry entry-forward s at l) in
      rw same (added-all table n i.current i.held)

  module _ (l : at < length s) where
    pub entry-good : is_some (read_entry s at) ≡ true
    entry-good = good-one read_entry entry-forward s at i.good l

    property : Text
    property = (here read_entry entry-forward s at i.good l (entry-ends s at entry-good)).0.property

    entries : Schema
    entries = (rest read_entry entry-forward s at i.good l (entry-ends s at entry-good)).0

    joined-terms : List Term
    joined-terms = (numbered (Term.uri property) i.current).terms

    field : uri_text (part s (at + 1) text_width) ≡ some property
    unfolding property
    field = let e = here read_entry entry-forward s at i.good l (entry-ends s at entry-good) in (entry-inv s at e.0 (at + entry_width) e.1).property

    field_fits : length (part s (at + 1) text_width) ≤ text_width
    field_fits = omega (arith, length-take text_width (drop (at + 1) s))

    all-entries : with_properties (list_of (read_schema s)) before ≡ with_properties entries joined-terms
    unfolding list_of with_properties property entries joined-terms
    all-entries = i.whole ∙ ap (λ o. with_properties (list_of o) i.current) (all_of read_entry entry-forward s at i.good l (entry-ends s at entry-good))

    module _ {slot : List ℕ} (q : slot ≡ filled slot_width (0x11 ∷ part s (at + 1) (at + 1 + text_width - (at + 1)))) where
      slot_is : slot ≡ slot_of (Term.uri property)
      unfolding slot_of body_of
      slot_is = q ∙ ap (λ b. filled slot_width (0x11 ∷ b)) (some-part s (at + 1) text_width ∙ sym (uri-inv (part s (at + 1) text_width) property field).0.whole)

      valid : Valid (Term.uri property)
      valid = uri-valid (part s (at + 1) text_width) property field_fits field

      slot-term : slot_term slot ≡ some (Term.uri property)
      slot-term = ap slot_term slot_is ∙ slot-of (Term.uri property) valid

      pub property-slot : GoodSlot slot
      property-slot = record { width = ap length slot_is ∙ slot-length (Term.uri property) valid; good = ap is_some slot-term }

      with-term : with_term (slot_term slot) (terms_in table) ≡ joined-terms
      unfolding with_term joined-terms
      with-term = ap₂ with_term slot-term (held-terms table n i.current i.held)

      module _ {m : ℕ} {after : List ℕ} (e : m ≡ length (with_term (slot_term slot) (terms_in table))) (f : after ≡ table_of (with_term (slot_term slot) (terms_in table))) where
        pub adding-next : m ≤ term_limit → Adding s before after (at + entry_width) m
        unfolding joined-terms entries list_of
        adding-next few =
            record {
              current = joined-terms;
              held = held-joined joined-terms (all-numbered Valid (Term.uri property) i.current i.held.valid valid) m (e ∙ ap length with-term) few (f ∙ ap table_of with-term);
              good = good-rest read_entry entry-forward s at i.good l (entry-ends s at entry-good);
              whole = all-entries ∙ sym (ap (λ o. with_properties (list_of o) joined-terms) (rest read_entry entry-forward s at i.good l (entry-ends s at entry-good)).1);
            }

        pub adding-full : term_limit < m → (None ≡ added_of (with_properties (list_of (read_schema s)) before)) × (after ≡ table_of (with_properties (list_of (read_schema s)) before))
        adding-full over =
            let more = properties-append entries joined-terms in
            let x = full-more joined-terms more.0 (omega (arith, e, ap length with-term)) in
            rw (all-entries ∙ more.1) (x.0, f ∙ ap table_of with-term ∙ x.1)
