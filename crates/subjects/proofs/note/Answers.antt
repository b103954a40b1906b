-- `subjects::note` meets its contract: the subject is there, or it joins.
use Prim.Native.Nat.{◌+◌, ◌≤◌, ◌<◌}
use native.Mathlib.Omega.{arith}
use mathlib.Core.Path.{◌≡◌, sym, ap, ◌∙◌}
use lib.ListN.{length}
use Rattle.definitions.specs.Limits.{text_width}
use Rattle.subjects.specs.Room.{subject_limit}
use Rattle.definitions.specs.Terms.{uri_text}
use Rattle.table.specs.Hashes.{hash_of}
use Rattle.subjects.proofs.NotedLaws.{record-inside, subject-field, note-there, note-new}
use borrow.Author.Rules.{rules}
use Rattle.subjects.proofs.note.Goals as goal

pub find_subject-found-requires : goal.find_subject-found-requires
find_subject-found-requires c =
    let offsets : length c.args.subjects.now.offsets ≡ subject_limit = search rules in
    let hashes : length c.args.subjects.now.hashes ≡ subject_limit = search rules in
    record {
      n_in_bounds = omega (arith, offsets, c.requires.count_lt_subject_limit);
      n_in_bounds_2 = omega (arith, hashes, c.requires.count_lt_subject_limit);
      fields_within = c.requires.noted.1.within;
      fields_hashed = c.requires.noted.1.hashed;
      hash_value = c.hash_of-hash.ensures ∙ ap hash_of c.slot_of-slot.ensures;
    }

pub returns-in-Some : goal.returns-in-Some
returns-in-Some c =
    let found = c.find_subject-found.ensures in
    let codes : length c.args.subjects.now.codes ≡ subject_limit = search rules in
    let room : c.in-Some.i < length c.args.subjects.now.codes = omega (arith, codes, (found.some c.in-Some.i c.in-Some.is).0, c.requires.count_lt_subject_limit) in
    record {
      noted_2 = λ all u d h e f.
          note-there _ all _ h u d _ (ap uri_text (subject-field c.args.page.now c.args.at) ∙ e) found c.in-Some.i c.in-Some.is room
          (λ o q. c.join.ensures o d q f);
      count_bound = omega arith;
    }

pub bounds-subjects-i : goal.bounds-subjects-i
bounds-subjects-i c = omega (arith, (c.find_subject-found.ensures.some c.in-Some.i c.in-Some.is).0, c.requires.count_lt_subject_limit)

pub bounds-subjects-i-in-Some : goal.bounds-subjects-i-in-Some
bounds-subjects-i-in-Some c = omega (arith, (c.find_subject-found.ensures.some c.in-Some.i c.in-Some.is).0, c.requires.count_lt_subject_limit)

pub overflow_cast-subjects : goal.overflow_cast-subjects
overflow_cast-subjects c =
    omega (arith, record-inside _ _ _ _ c.requires.record_at.2, c.requires.page_len_bound)

pub returns : goal.returns
returns c =
    let field = subject-field c.args.page.now c.args.at in
    let offsets : length c.args.subjects.now.offsets ≡ subject_limit = search rules in
    let hashes : length c.args.subjects.now.hashes ≡ subject_limit = search rules in
    let codes : length c.args.subjects.now.codes ≡ subject_limit = search rules in
    let r : c.args.subjects.now.count < length c.args.subjects.now.offsets = omega (arith, offsets, c.requires.count_lt_subject_limit) in
    let s : c.args.subjects.now.count < length c.args.subjects.now.hashes = omega (arith, hashes, c.requires.count_lt_subject_limit) in
    let t : c.args.subjects.now.count < length c.args.subjects.now.codes = omega (arith, codes, c.requires.count_lt_subject_limit) in
    let i : c.args.at + 1 + text_width ≤ length c.args.page.now = omega (arith, record-inside _ _ _ _ c.requires.record_at.2) in
    record {
      noted_2 = λ all u d h e f.
          note-new _ all _ h u d _ (ap uri_text field ∙ e) c.find_subject-found.ensures c.in_default.is _ _ _ (sym field) i r s t
          (c.hash_of-hash.ensures ∙ ap hash_of c.slot_of-slot.ensures) f;
      count_bound = omega arith;
    }
