-- A slice written from its front: element by element from another list, or part by part.
use Prim.Native.Nat.{ℕ, ◌+◌, ◌-◌, ◌≤◌, ◌<◌}
use native.Mathlib.Omega.{arith}
use native.Mathlib.Numerals.{add-one}
use mathlib.Core.Path.{◌≡◌, refl, ap, sym, ◌∙◌}
use mathlib.Core.List.{List, [], ◌∷◌, ◌++◌, map, append_assoc, append-nil}
use lib.ListN.{length, set, get_or, take, drop, length-map, length-append, length-drop}
use lib.Seq.{take-suc, take_all, take-length, take_at, drop_at, drop-drop, length-take-le}
use Rattle.laws.proofs.Fill.{write-next, write_done}

-- ── element by element: what a function makes of each of a list's ───────────────────────────

pub map-append : {A B : Type 0} (f : A → B) (l m : List A) → map f (l ++ m) ≡ map f l ++ map f m
map-append f [] m = refl
map-append f (a ∷ l) m = ap (λ k. f a ∷ k) (map-append f l m)

module _ {A B : Type 0} (f : A → B) (from : List A) (old : List B) where
  -- the first i are written
  abbrev pub mapped : ℕ → List B
  mapped i = map f (take i from) ++ drop i old

  -- the next is
  pub map_next : (array : List B) (i : ℕ) (d : A) → i < length from → i < length old → array ≡ mapped i → set array i (f (get_or from i d)) ≡ mapped (i + 1)
  map_next array i d h k e =
      let l : length (map f (take i from)) ≡ i = length-map (take i from) f ∙ length-take-le i from (omega arith) in
      write-next old array (map f (take i from)) i (f d) (f (get_or from i d)) k l e
      ∙ ap (λ (m : List B). m ++ drop (i + 1) old)
      (sym (map-append f (take i from) (get_or from i d ∷ []))
      ∙ (ap (map f) (sym (take-suc from i d h)) ∙ ap (λ (n : ℕ). map f (take n from)) (sym (add-one i))))

  -- all are
  pub map-all : (array : List B) (i : ℕ) → length from ≤ i → length old ≤ i → array ≡ mapped i → array ≡ map f from
  map-all array i h k e = write_done old array (map f (take i from)) i k e ∙ ap (map f) (take_all i from h)

-- a list copied over one of the same length
pub copied : {A : Type 0} (from old : List A) → length from ≡ length old → take (length from) from ++ drop (length from) old ≡ from
copied from old e =
    let n = length from in
    write_done old (take n from ++ drop n old) (take n from) n (omega arith) refl ∙ take-length from

-- ── part by part ────────────────────────────────────────────────────────────────────────────

-- the places below `at` are written, and hold `done`
pub record Put {A : Type 0} (old array done : List A) (at : ℕ) : Type 0 where
  pub size : length done ≡ at
  pub list : array ≡ done ++ drop at old

module _ {A : Type 0} {old : List A} where
  pub put-none : Put old old [] 0
  put-none = record { size = refl; list = refl }

  -- the next place takes an element
  pub put_one : {array done : List A} {at : ℕ} (x : A) → Put old array done at → at < length old → Put old (set array at x) (done ++ (x ∷ [])) (at + 1)
  put_one {array} {done} {at} x p h =
      record {
        size = length-append done (x ∷ []) ∙ ap (λ (n : ℕ). n + 1) p.size;
        list = write-next old array done at x x h p.size p.list;
      }

  -- the places up to `end` take as many elements
  pub put-part : {array done : List A} {at : ℕ} (part : List A) (end : ℕ) → Put old array done at → at ≤ end → end ≤ length old
      → length part ≡ length (take (end - at) (drop at array)) → Put old (take at array ++ (part ++ drop (end - at) (drop at array))) (done ++ part) end
  put-part {array} {done} {at} part end p h k l =
      let front : take at array ≡ done = ap (take at) p.list ∙ take_at done (drop at old) at p.size in
      let back : drop at array ≡ drop at old = ap (drop at) p.list ∙ drop_at done (drop at old) at p.size in
      let e : at + (end - at) ≡ end = omega arith in
      let rest : drop (end - at) (drop at array) ≡ drop end old =
      ap (drop (end - at)) back ∙ (drop-drop (end - at) at old ∙ ap (λ (n : ℕ). drop n old) e) in
      let m : length (take (end - at) (drop at array)) ≡ end - at =
      length-take-le (end - at) (drop at array) (omega (arith, ap length back, length-drop at old)) in
      record {
        size = length-append done part ∙ omega (arith, p.size);
        list = (λ i. front i ++ (part ++ rest i)) ∙ sym (append_assoc done part (drop end old));
      }

  -- all places are written
  pub put_all : {array done : List A} {at : ℕ} → Put old array done at → length old ≤ at → array ≡ done
  put_all {array} {done} {at} p h = write_done old array done at h p.list

-- the parts that a function makes of a list's elements, one after the other
module _ {A B : Type 0} (f : A → List B) where
  abbrev pub joined : List A → List B
  joined [] = []
  joined (a ∷ l) = f a ++ joined l

  joined_end : (l : List A) (a : A) → joined (l ++ (a ∷ [])) ≡ joined l ++ f a
  joined_end [] a = append-nil (f a)
  joined_end (b ∷ l) a = ap (λ (m : List B). f b ++ m) (joined_end l a) ∙ sym (append_assoc (f b) (joined l) (f a))

  joined-next : (l : List A) (i : ℕ) (d : A) → i < length l → joined (take i l) ++ f (get_or l i d) ≡ joined (take (i + 1) l)
  joined-next l i d h =
      sym (joined_end (take i l) (get_or l i d))
      ∙ (ap joined (sym (take-suc l i d h)) ∙ ap (λ (n : ℕ). joined (take n l)) (sym (add-one i)))

  -- the next part is written
  pub put-joined : {old array : List B} {at : ℕ} (l : List A) (i : ℕ) (d : A) (part : List B) (end : ℕ) → Put old array (joined (take i l)) at
      → i < length l → at ≤ end → end ≤ length old → part ≡ f (get_or l i d) → length part ≡ length (take (end - at) (drop at array))
      → Put old (take at array ++ (part ++ drop (end - at) (drop at array))) (joined (take (i + 1) l)) end
  put-joined l i d part end p h low fits e k =
      let done : joined (take i l) ++ part ≡ joined (take (i + 1) l) = ap (λ (m : List B). joined (take i l) ++ m) e ∙ joined-next l i d h in
      rw done at (put-part part end p low fits k)

  -- all parts are
  pub put-joined-all : {old array : List B} {at : ℕ} (l : List A) (i : ℕ) → Put old array (joined (take i l)) at → length l ≤ i → length old ≤ at
      → array ≡ joined l
  put-joined-all l i p h k = put_all p k ∙ ap joined (take_all i l h)

-- two elements between two lists
pub two-between : {A : Type 0} (l m : List A) (x y : A) → ((l ++ (x ∷ [])) ++ (y ∷ [])) ++ m ≡ l ++ (x ∷ y ∷ m)
two-between l m x y = simp append_assoc
