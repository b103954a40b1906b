-- Texts written one after the other.
use Prim.Native.Nat.{ℕ, zero, suc, ◌+◌, ◌-◌, ◌/◌, ◌%◌, ◌≤◌, ◌<◌}
use native.Mathlib.Omega.{arith}
use native.Mathlib.Numerals.{add-one, sub-one}
use mathlib.Core.Path.{◌≡◌, refl, sym, ap, ◌∙◌, subst}
use mathlib.Core.List.{List, [], ◌∷◌, ◌++◌, append_assoc}
use lib.ListN.{length, set, get_or, take, drop, length-append, length-drop, take-append-drop}
use lib.Seq.{take-suc, take_all, take_at, drop_at, drop-drop, set_split, length-take-le}
use borrow.Author.Tests.{lt-ltb, le-ltb}
use Rattle.definitions.specs.Values.{short_digits}
use Rattle.output.specs.Written.{Written}

pub written_none : (old : List ℕ) (at : ℕ) → Written [] old old at at
written_none old at = record { end = omega arith; list = sym (take-append-drop at old) }

pub written_byte : (old : List ℕ) (b at : ℕ) → at < length old → Written (b ∷ []) old (set old at b) at (at + 1)
written_byte old b at h =
    record { end = refl; list = set_split old at b h ∙ ap (λ (n : ℕ). take at old ++ (b ∷ drop n old)) (sym (add-one at)) }

-- one text after another
pub written_then : {a b old mid new : List ℕ} {at m r : ℕ} → Written a old mid at m → Written b mid new m r → at ≤ length old
    → Written (a ++ b) old new at r
written_then {a} {b} {old} {mid} {new} {at} {m} {r} x y h =
    let front : length (take at old ++ a) ≡ m = omega (arith, length-append (take at old) a, length-take-le at old h, x.end) in
    let again : mid ≡ (take at old ++ a) ++ drop m old = x.list ∙ sym (append_assoc (take at old) a (drop m old)) in
    let before : take m mid ≡ take at old ++ a = ap (take m) again ∙ take_at (take at old ++ a) (drop m old) m front in
    let behind : drop m mid ≡ drop m old = ap (drop m) again ∙ drop_at (take at old ++ a) (drop m old) m front in
    let after : drop r mid ≡ drop r old =
    ap (λ (j : ℕ). drop j mid) y.end ∙ (sym (drop-drop (length b) m mid) ∙ (ap (drop (length b)) behind
    ∙ (drop-drop (length b) m old ∙ ap (λ (j : ℕ). drop j old) (sym y.end)))) in
    record {
      end = omega (arith, length-append a b, x.end, y.end);
      list = y.list ∙ ((λ i. before i ++ (b ++ after i)) ∙ joined (take at old) a b (drop r old));
    }
  where
    joined : (p q s t : List ℕ) → (p ++ q) ++ (s ++ t) ≡ p ++ ((q ++ s) ++ t)
    joined p q s t = append_assoc p q (s ++ t) ∙ ap (λ (l : List ℕ). p ++ l) (sym (append_assoc q s t))

-- the same text in other words
pub written_as : {a b old new : List ℕ} {at r : ℕ} → Written a old new at r → a ≡ b → Written b old new at r
written_as {a} {b} {old} {new} {at} {r} x e =
    record { end = x.end ∙ ap (λ (t : List ℕ). at + length t) e; list = x.list ∙ ap (λ (t : List ℕ). take at old ++ (t ++ drop r old)) e }

-- ── digits ──────────────────────────────────────────────────────────────────────────────────

pub no-digits : (k n : ℕ) → k ≡ 0 → [] ≡ short_digits k n
unfolding short_digits
no-digits k n e = rw e

pub last-digit : (k n : ℕ) → 0 < k → n < 10 → (0x30 + n % 10) ∷ [] ≡ short_digits k n
unfolding short_digits
last-digit zero n h l = absurd (omega arith)
last-digit (suc k) n h l = sym (rw (lt-ltb n 10 l, short_digits) (ap (λ (d : ℕ). d ∷ []) (omega arith)))

pub more-digits : (k n : ℕ) → 0 < k → 10 ≤ n → short_digits (k - 1) (n / 10) ++ ((0x30 + n % 10) ∷ []) ≡ short_digits k n
unfolding short_digits
more-digits zero n h l = absurd (omega arith)
more-digits (suc k) n h l = sym (rw (le-ltb n 10 l, short_digits, sub-one (suc k)))

-- ── a text written byte by byte ─────────────────────────────────────────────────────────────

pub written_start : (text old : List ℕ) (at : ℕ) → Written (take 0 text) old old at (at + 0)
written_start text old at = let z : at + 0 ≡ at = omega arith in rw z (written_none old at)

pub written_turn : (text old new : List ℕ) (at i : ℕ) → i < length text → at ≤ length old → at + i < length new → Written (take i text) old new at (at + i)
    → Written (take (i + 1) text) old (set new (at + i) (get_or text i 0)) at (at + (i + 1))
written_turn text old new at i h k l w =
    let e : at + i + 1 ≡ at + (i + 1) = omega arith in
    let s : take i text ++ (get_or text i 0 ∷ []) ≡ take (i + 1) text = sym (take-suc text i 0 h) ∙ ap (λ (n : ℕ). take n text) (sym (add-one i)) in
    let all : Written (take (i + 1) text) old (set new (at + i) (get_or text i 0)) at (at + i + 1) =
    written_as (written_then w (written_byte new (get_or text i 0) (at + i) l) k) s in
    subst (λ (r : ℕ). Written (take (i + 1) text) old (set new (at + i) (get_or text i 0)) at r) e all

pub written_whole : (text old new : List ℕ) (at i : ℕ) → length text ≤ i → Written (take i text) old new at (at + i) → Written text old new at (at + length text)
written_whole text old new at i h w =
    let x : Written text old new at (at + i) = written_as w (take_all i text h) in
    subst (λ (r : ℕ). Written text old new at r) x.end x
