use Rattle.std.proofs.Common.{◌≡◌, ◌∙◌, false, true, map, get_or, Some, ap, arith}
use Rattle.std.specs.Prelude.{slice_get, option_map}
use Rattle.std.proofs.lemmas.List.{length-map}
use Rattle.std.proofs.lemmas.Option.{slice_get_within, slice_get-get_or, slice_get-map}
use Rattle.wf_base.specs.declared.ids.ClassId.{ClassId}
use Rattle.wf_classes.specs.World.{number}
use Rattle.wf_resolve.proofs.FieldSearch.{first_more}
use Rattle.wf_resolve.proofs.fields.first_marked.Goals as goal

clash : false ≡ true → ⊥
clash e = cc

pub loop-c-preserved : goal.loop-c-preserved
loop-c-preserved c =
    let ids = c.args.ids.now in
    let n = c.loop-c.c-index in
    let none : ClassId = record { 0 = 0 } in
    let s = get_or ids n none in
    let there : slice_get (map number ids) n ≡ Some (number s) = slice_get-map number ids n ∙ ap (option_map number) (slice_get-get_or ids n none c.loop-c-test.true) in
    first_more c.args.bits.now c.args.heights.now (map number ids) n (number s) there (λ m. clash (c.if-has.ensures.1 m)) c.loop-c.invariant

pub returns : goal.returns
returns c = λ j t e m. c.loop-c.invariant j t (let w = slice_get_within (map number c.args.ids.now) j t e in omega (arith, w, length-map c.args.ids.now number)) e m
