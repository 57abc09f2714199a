-- Which superinterface's method a name means, from what is found.
use Rattle.std.proofs.Common.{◌≡◌, ◌∙◌, ℕ, ◌<◌, List, [], length, Option, Some, None, refl, sym, subst}
use Rattle.std.specs.Prelude.{slice_get, option_map, IfSome, IfNone}
use Rattle.std.specs.List.{find}
use Rattle.std.specs.Option.{option_map_or}
use Rattle.std.proofs.lemmas.Option.{slice_get_within}
use Rattle.wf_base.specs.declared.ids.ClassId.{ClassId}
use Rattle.wf_data.specs.declared.class_info.ClassInfo.{ClassInfo}
use Rattle.wf_data.specs.declared.class_info.MethodInfo.{MethodInfo}
use Rattle.wf_grammar.specs.ClassFile.{Key}
use Rattle.wf_classes.specs.Own.{method_flags, is_method_of}
use Rattle.wf_classes.specs.World.{number}
use Rattle.wf_classes.specs.declared.own.OwnMethod.{OwnMethod}
use Rattle.wf_resolve.specs.Upward.{Offers}
use Rattle.wf_resolve.specs.declared.upward.Wanted.TheVariants.{Any}
use Rattle.wf_resolve.specs.Inherited.{IsOffer, IsDefault, AreDefaults, IsLeast, FromInterfaces, by_default, by_number, by_none, least_unless_one}
use Rattle.wf_resolve.specs.declared.superinterfaces.Defaults.{Defaults}
use Rattle.wf_resolve.specs.declared.superinterfaces.Defaults.TheVariants.{Nothing, One, Many}

-- a class that declares something is there
pub flags_within : (classes : List ClassInfo) (key : Key) (c flags : ℕ) → method_flags classes key c ≡ Some flags → c < length classes
flags_within classes key c flags e = go (slice_get classes c) refl e where
  go : (o : Option ClassInfo) → slice_get classes c ≡ o → option_map (λ (m : MethodInfo). m.flags) (find (is_method_of key) (option_map_or (λ (k : ClassInfo). k.methods) o [])) ≡ Some flags → c < length classes
  go None is e = absurd cc
  go (Some k) is e = slice_get_within classes c k is

-- the interface that is taken, if any
pub chosen : (classes : List ClassInfo) (key : Key) (c : ℕ) (d : Defaults) (least : Option ClassId) → AreDefaults (IsDefault classes key c) d → IsLeast (IsOffer classes key c) least → FromInterfaces classes key c (option_map number (least_unless_one d least))
chosen classes key c (One i) least h l = by_default (number i) h
chosen classes key c Nothing None h l = by_none l
chosen classes key c Nothing (Some i) h l = by_number (number i) (λ j o. h j o.is) l
chosen classes key c Many None h l = by_none l
chosen classes key c Many (Some i) h l = by_number (number i) (λ j o. h.apart (o.only h.first h.one ∙ sym (o.only h.second h.other))) l

-- it offers a method
pub chosen_offer : (classes : List ClassInfo) (key : Key) (c : ℕ) (d : Defaults) (least : Option ClassId) (i : ClassId) → AreDefaults (IsDefault classes key c) d → IsLeast (IsOffer classes key c) least → least_unless_one d least ≡ Some i → IsOffer classes key c (number i)
chosen_offer classes key c (One j) least i h l e = (let same : j ≡ i = cc in subst (λ (x : ClassId). IsOffer classes key c (number x)) same h.is.top.offer)
chosen_offer classes key c Nothing None i h l e = absurd cc
chosen_offer classes key c Nothing (Some j) i h l e = (let same : j ≡ i = cc in subst (λ (x : ClassId). IsOffer classes key c (number x)) same l.is)
chosen_offer classes key c Many None i h l e = absurd cc
chosen_offer classes key c Many (Some j) i h l e = (let same : j ≡ i = cc in subst (λ (x : ClassId). IsOffer classes key c (number x)) same l.is)

-- the method of the interface that is taken
pub offered_is : (classes : List ClassInfo) (key : Key) (c : ℕ) (i : ClassId) (o : Option OwnMethod) → FromInterfaces classes key c (Some (number i)) → IsOffer classes key c (number i) → IfSome o (λ m. m.class ≡ i) → IfNone o (Offers classes key Any (number i) → ⊥) → FromInterfaces classes key c (option_map (λ (m : OwnMethod). number m.class) o)
offered_is classes key c i None h f same none = absurd (none (record { flags = f.flags; there = f.there; sought = refl }))
offered_is classes key c i (Some m) h f same none = subst (λ (x : ClassId). FromInterfaces classes key c (Some (number x))) (sym same) h
