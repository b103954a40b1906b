-- `term_bodies::bodies::body_ok` meets its contract.
use native.Mathlib.Omega.{arith}
use mathlib.Core.Path.{refl, ap, ◌∙◌}
use lib.ListN.{length-take, length-drop}
use Rattle.definitions.specs.Bytes.{onward}
use Rattle.definitions.specs.Terms.{Term, term_of_body}
use Rattle.fields.specs.Answers.{width_of, body_term}
use Rattle.term_bodies.proofs.BodyLaws.{kind-others, none_of, uri-long, string-long, uri-is, tag-bad, string-is, number-long, number_is}
use mathlib.Core.Bool.{not}
use Rattle.term_bodies.proofs.bodies.body_ok.Goals as goal

pub uri_ok-requires : goal.uri_ok-requires
uri_ok-requires c = uri-long c.args.kind c.args.body.now c.requires c.in-17.is

pub slice_bounds-tag_ok-end : goal.slice_bounds-tag_ok-end
slice_bounds-tag_ok-end c =
    let h = string-long c.args.kind c.args.body.now c.requires c.in-18.is in
    omega (arith, length-take 8 c.args.body.now)

pub tag_ok-requires : goal.tag_ok-requires
tag_ok-requires c =
    let h = string-long c.args.kind c.args.body.now c.requires c.in-18.is in
    omega (arith, length-take 8 c.args.body.now)

pub returns-else-tag_ok : goal.returns-else-tag_ok
returns-else-tag_ok c =
    c.if-tag_ok.false
    ∙ tag-bad c.args.kind c.args.body.now c.requires c.in-18.is c.tag_ok.ensures (ap not c.if-tag_ok.false)

pub slice_bounds-text_ok-count : goal.slice_bounds-text_ok-count
slice_bounds-text_ok-count c =
    let h = string-long c.args.kind c.args.body.now c.requires c.in-18.is in
    omega arith

pub slice_bounds-text_ok-start : goal.slice_bounds-text_ok-start
slice_bounds-text_ok-start c =
    let h = string-long c.args.kind c.args.body.now c.requires c.in-18.is in
    omega arith

pub text_ok-requires : goal.text_ok-requires
text_ok-requires c =
    let h = string-long c.args.kind c.args.body.now c.requires c.in-18.is in
    simp (length-take, length-drop) (omega arith)

pub long_at-requires : goal.long_at-requires
unfolding width_of
long_at-requires c = let h = number-long c.args.kind c.args.body.now c.requires 0x13 c.in-19.is refl in omega arith

pub long_at-requires-in-20 : goal.long_at-requires-in-20
unfolding width_of
long_at-requires-in-20 c = let h = number-long c.args.kind c.args.body.now c.requires 0x14 c.in-20.is refl in omega arith

pub long_at-requires-in-21 : goal.long_at-requires-in-21
unfolding width_of
long_at-requires-in-21 c = let h = number-long c.args.kind c.args.body.now c.requires 0x15 c.in-21.is refl in omega arith

pub returns-in-17 : goal.returns-in-17
returns-in-17 c = uri-is c.args.kind c.args.body.now c.requires c.in-17.is c.uri_ok.ensures

pub returns-then-tag_ok : goal.returns-then-tag_ok
returns-then-tag_ok c =
    string-is c.args.kind c.args.body.now c.requires c.in-18.is c.tag_ok.ensures (ap not c.if-tag_ok.true) c.text_ok.ensures

pub returns-in-19 : goal.returns-in-19
unfolding width_of body_term onward term_of_body
returns-in-19 c =
    number_is c.args.kind c.args.body.now c.requires 0x13 c.in-19.is refl _ _ _ (λ n. Term.integer n) refl c.long_at.ensures c.within.ensures

pub returns-in-20 : goal.returns-in-20
unfolding width_of body_term onward term_of_body
returns-in-20 c =
    number_is c.args.kind c.args.body.now c.requires 0x14 c.in-20.is refl _ _ _ (λ n. Term.decimal n) refl c.long_at-in-20.ensures c.within-in-20.ensures

pub returns-in-21 : goal.returns-in-21
unfolding width_of body_term onward term_of_body
returns-in-21 c =
    number_is c.args.kind c.args.body.now c.requires 0x15 c.in-21.is refl _ _ _ (λ n. Term.date_time n) refl c.long_at-in-21.ensures c.within-in-21.ensures

pub returns-in_default : goal.returns-in_default
returns-in_default c =
    none_of c.args.kind c.args.body.now c.requires (kind-others c.args.kind c.in_default.in_default-own.rest.0.0.0.0.1 c.in_default.in_default-own.rest.0.0.0.1 c.in_default.in_default-own.rest.0.0.1 c.in_default.in_default-own.rest.0.1 c.in_default.in_default-own.rest.1)
