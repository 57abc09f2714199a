-- The links of a program, put together.
use Rattle.std.proofs.Common.{◌≡◌, ℕ, zero, suc, ◌<◌, List, [], ◌∷◌, length, Option, Some, None, refl, sym, ap, subst, arith}
use Rattle.std.specs.Prelude.{slice_index, slice_index_or}
use Rattle.std.proofs.lemmas.Option.{slice_get_within}
use Rattle.wf_base.specs.declared.ids.MethodId.{MethodId}
use Rattle.wf_classes.specs.Members.{method_keys, member_count}
use Rattle.wf_subtype.specs.Subtypes.{AllTypes}
use Rattle.wf_system.specs.declared.pick.Pick.{Pick}
use Rattle.wf_system.specs.Sides.{Ascends, HasTables}
use Rattle.wf_links.specs.declared.callee.Callee.{Callee}
use Rattle.wf_links.specs.declared.linked.Links.{Links}
use Rattle.wf_links.specs.Callees.{IsCallee}
use Rattle.wf_links.specs.Candidates.{AreLinks, AreCalledBelow, AreShared, AreTables, IsPlaceOf, IsLinked, IsTableIfAny}
use Rattle.wf_links.proofs.Pairing.{zip_both}
use Rattle.wf_links.proofs.Tables.{zip_get, zip_length, some_of}

pub links_are : (types : AllTypes) (links : Links) (list callees : List (Option Callee)) → AreCalledBelow types (member_count (method_keys types.classes)) links.firsts list → AreShared list callees links.sites
    → AreTables types callees links.candidates links.tables → AreLinks types links
links_are types links list callees h s t = record {
  sites = h.sites;
  callees = callees;
  numbered = h.numbered;
  linked = zip_both (IsCallee types) (IsPlaceOf callees) (IsLinked types callees) (λ site callee table is there. record { callee = callee; is = is; there = there }) h.sites list links.sites h.called.each s.each;
  apart = s.apart;
  tables = t;
}

pub tables_long : (types : AllTypes) (callees : List (Option Callee)) (lists : List (List MethodId)) (tables : List (List Pick)) → AreTables types callees lists tables → (length lists ≡ length callees) × (length tables ≡ length callees)
tables_long types [] [] [] h = (refl, refl)
tables_long types [] [] (x ∷ tables) h = absurd h
tables_long types [] (x ∷ lists) tables h = absurd h
tables_long types (x ∷ callees) [] tables h = absurd h
tables_long types (x ∷ callees) (y ∷ lists) [] h = absurd h
tables_long types (x ∷ callees) (y ∷ lists) (z ∷ tables) h = (let rest = tables_long types callees lists tables h.1 in (ap suc rest.0, ap suc rest.1))

one_ascends : (types : AllTypes) (callee : Option Callee) (list : List MethodId) (table : List Pick) → IsTableIfAny types callee list table → Ascends table
one_ascends types (Some callee) list table h = h.ordered
one_ascends types None list table h = subst Ascends (sym h.1) (record { each = λ i j d l m. absurd (omega arith) })

each_ascends : (types : AllTypes) (callees : List (Option Callee)) (lists : List (List MethodId)) (tables : List (List Pick)) (i : ℕ) → AreTables types callees lists tables → i < length tables → Ascends (slice_index_or tables i [])
each_ascends types [] [] [] i h l = absurd (omega arith)
each_ascends types [] [] (x ∷ tables) i h l = absurd h
each_ascends types [] (x ∷ lists) tables i h l = absurd h
each_ascends types (x ∷ callees) [] tables i h l = absurd h
each_ascends types (x ∷ callees) (y ∷ lists) [] i h l = absurd h
each_ascends types (x ∷ callees) (y ∷ lists) (z ∷ tables) zero h l = one_ascends types x y z h.0
each_ascends types (x ∷ callees) (y ∷ lists) (z ∷ tables) (suc i) h l = each_ascends types callees lists tables i h.1 (omega arith)

pub tables_have : (types : AllTypes) (list callees : List (Option Callee)) (places : List ℕ) (lists : List (List MethodId)) (tables : List (List Pick)) → AreShared list callees places → AreTables types callees lists tables → HasTables tables places
tables_have types list callees places lists tables s t = record {
  each = λ site l. inside site l;
  ascend = λ i l. each_ascends types callees lists tables i t l;
} where
  inside : (site : ℕ) → site < length places → slice_index places site < length tables
  inside site l =
      let long = zip_length (IsPlaceOf callees) list places s.each in
      let d = some_of list site (omega (arith, l, long)) in
      let within = slice_get_within callees (slice_index places site) (slice_index_or list site d) (zip_get (IsPlaceOf callees) list places site d 0 s.each l) in
      omega (arith, within, (tables_long types callees lists tables t).1)
